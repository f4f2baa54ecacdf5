use Rattle.pg_step.proofs.Rounds.{held_exactly}
use Rattle.pg_step.proofs.step_laws.rounds_are_followed.Goals as goal

pub returns : goal.returns
returns c = held_exactly
