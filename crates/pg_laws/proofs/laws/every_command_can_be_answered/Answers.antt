use Rattle.pg_laws.proofs.quiet.Answering.{all_answered}
use Rattle.pg_laws.proofs.laws.every_command_can_be_answered.Goals as goal

pub returns : goal.returns
returns c = λ config w events apart l room. let all = all_answered config apart events w l room in (all.more, all.world, all.only, all.leads, all.none_open, all.quiet)
