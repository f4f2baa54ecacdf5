use Rattle.pg_step.specs.Machines.Clocked.{plain}
use Rattle.pg_laws.specs.Fresh.{made_by}
use Rattle.pg_laws.proofs.ends.Fresh.{says, numbered_once}
use Rattle.pg_laws.proofs.laws.processes_are_fresh.Goals as goal

pub returns : goal.returns
returns c = λ config w events i l.
    let said = says config i events w l in
    record { in_order = said.0; count = said.1; once = numbered_once config i (made_by i (plain w).reported) said.0 }
