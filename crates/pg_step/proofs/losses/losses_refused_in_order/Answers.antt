use Rattle.pg_step.proofs.Lost.{seen_exactly, lost_exactly}
use Rattle.pg_step.proofs.losses.losses_refused_in_order.Goals as goal

pub returns-clause-seen : goal.returns-clause-seen
returns-clause-seen c = seen_exactly

pub returns-clause-lost : goal.returns-clause-lost
returns-clause-lost c = lost_exactly
