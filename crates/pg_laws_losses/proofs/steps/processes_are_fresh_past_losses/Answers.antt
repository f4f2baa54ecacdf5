use Rattle.pg_laws_losses.proofs.Onward.{makes_fresh}
use Rattle.pg_laws_losses.proofs.steps.processes_are_fresh_past_losses.Goals as goal

pub returns : goal.returns
returns c = λ config w events i l. makes_fresh config i events w l
