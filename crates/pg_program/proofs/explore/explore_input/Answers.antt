use Rattle.std.proofs.Common.{refl}
use Rattle.pg_program.proofs.Exploring.{no_input}
use Rattle.pg_program.proofs.explore.explore_input.Goals as goal

pub returns-in-Err : goal.returns-in-Err
returns-in-Err g c = no_input _ _ _ _ _ c.args.quest _ _ c.in-Err.fault c.in-Err.ensures.fault refl
