use Rattle.pg_step.proofs.Lost.{sees}
use Rattle.pg_step.proofs.losses.losses_are_seen.Goals as goal

pub returns : goal.returns
returns c = sees
