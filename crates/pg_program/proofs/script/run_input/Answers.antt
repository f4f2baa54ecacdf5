use Rattle.std.proofs.Common.{inr}
use Rattle.pg_script.specs.Scripts.{contents_of}
use Rattle.pg_program.proofs.script.run_input.Goals as goal

pub returns-in-Ok : goal.returns-in-Ok
returns-in-Ok g c = inr (inr (contents_of c.in-Ok.script, c.in-Ok.ensures, c.run.ensures))
