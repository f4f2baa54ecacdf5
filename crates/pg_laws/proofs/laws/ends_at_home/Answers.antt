use Rattle.pg_laws.proofs.ends.Homes.{homed_timed}
use Rattle.pg_laws.proofs.laws.ends_at_home.Goals as goal

pub returns-clause-taken : goal.returns-clause-taken
returns-clause-taken c = λ config w events i pid l ended. let home = (homed_timed config events w l).ends i pid ended in (home.0, home.1.0, home.1.1, home.1.2)

pub returns-clause-on_the_way : goal.returns-clause-on_the_way
returns-clause-on_the_way c = λ config w events p i l. (homed_timed config events w l).reported p i
