use Rattle.pg_laws_examples.proofs.LossTimed.{outcome}
use Rattle.pg_laws_examples.proofs.losses.loss_with_clocks.Goals as goal

pub returns : goal.returns
returns c = outcome
