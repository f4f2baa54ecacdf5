use Rattle.pg_laws.proofs.tables.Living.{living_timed}
use Rattle.pg_laws.proofs.laws.ended_are_in_no_group.Goals as goal

pub returns : goal.returns
returns c = λ config w events i name l. living_timed config events w l i name
