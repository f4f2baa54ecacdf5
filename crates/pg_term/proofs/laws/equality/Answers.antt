use Rattle.std.proofs.Common.{◌≡◌, true, subst}
use Rattle.pg_term.specs.declared.term.Term.{Term}
use Rattle.pg_term.specs.Same as same
use Rattle.pg_term.specs.contracts.term.TermEq.TheImpl.Laws.{laws-law}
use Rattle.pg_term.proofs.Same.{same_term}
use Rattle.pg_term.proofs.laws.equality.Goals as goal

pub returns-clause-terms : goal.returns-clause-terms
returns-clause-terms c = λ x y. (same_term x y, λ e. subst (λ (z : Term). same.same_term x z ≡ true) e (laws-law.refl x))
