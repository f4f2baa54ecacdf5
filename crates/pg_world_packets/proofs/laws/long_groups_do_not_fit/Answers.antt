use Rattle.pg_world_packets.proofs.LongGroups.{fits_few, all_few, not_all}
use Rattle.pg_world_packets.proofs.laws.long_groups_do_not_fit.Goals as goal

pub returns-clause-each : goal.returns-clause-each
returns-clause-each c = fits_few

pub returns-clause-all : goal.returns-clause-all
returns-clause-all c = all_few

pub returns-clause-too_long : goal.returns-clause-too_long
returns-clause-too_long c = not_all
