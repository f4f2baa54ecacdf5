use Rattle.pg_laws_losses.proofs.Readiness.Retried.{event_makes_none}
use Rattle.pg_laws_losses.proofs.ready.laws.only_a_seen_loss_makes_ready.Goals as goal

pub returns : goal.returns
returns c = λ config w v events event i op l happens same ready. event_makes_none config events w v l event happens i op same ready
