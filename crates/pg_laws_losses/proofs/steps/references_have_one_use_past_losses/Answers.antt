use Rattle.pg_laws_losses.proofs.Onward.{references_fit, uses_follow}
use Rattle.pg_laws_losses.proofs.steps.references_have_one_use_past_losses.Goals as goal

pub returns-clause-fitting : goal.returns-clause-fitting
returns-clause-fitting c = λ config w events i l. references_fit config events w i l

pub returns-clause-later : goal.returns-clause-later
returns-clause-later c = λ config m w before events i c reached led. uses_follow config before events m w i c reached led
