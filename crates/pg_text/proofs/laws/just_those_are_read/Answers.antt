use Rattle.pg_text.proofs.TermsJust.{text_just}
use Rattle.pg_text.proofs.laws.just_those_are_read.Goals as goal

pub returns : goal.returns
returns c = λ t text e. text_just text t e
