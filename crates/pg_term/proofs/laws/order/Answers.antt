use Rattle.std.proofs.Common.{◌≡◌, Bool, true, ap, subst, ◌∙◌, refl}
use Rattle.std.specs.Ordering.{is_eq}
use Rattle.std.proofs.lemmas.Cmp.{tied_itself}
use Rattle.std.specs.Cmp.{IsTotalOrder}
use Rattle.std.specs.Cmp.Lexicographic.{nat_list_cmp_total, texts_ties, bytes_decides}
use Rattle.std.specs.declared.cmp.Ordering.{Ordering}
use Rattle.std.specs.declared.cmp.Ordering.TheVariants.{Less, Equal, Greater}
use Rattle.pg_term.specs.RefParts.{ref_eq, ref_cmp}
use Rattle.pg_term.specs.Same.{same_term, term_cmp, same_pid, pid_cmp, same_atom, atom_cmp}
use Rattle.pg_term.specs.contracts.term.TermOrd.TheImpl.Laws as term_laws
use Rattle.pg_term.specs.contracts.pid.PidOrd.TheImpl.Laws as pid_laws
use Rattle.pg_term.specs.contracts.reference.ReferenceOrd.TheImpl.Laws as reference_laws
use Rattle.pg_term.proofs.Same as decided
use Rattle.pg_term.proofs.laws.order.Goals as goal

equal_if_tied : (o : Ordering) → is_eq o ≡ true → o ≡ Equal
equal_if_tied Less e = absurd cc
equal_if_tied Equal e = refl
equal_if_tied Greater e = absurd cc

-- an order that ties where a test tells that two values are one is `Equal` there alone
module _ {K : Type 0} (test : K → K → Bool) (cmp : K → K → Ordering) (ties : (x y : K) → test x y ≡ is_eq (cmp x y)) (decides : (x y : K) → test x y ≡ true → x ≡ y) (total : IsTotalOrder cmp) where
  abbrev one : (x y : K) → (cmp x y ≡ Equal → x ≡ y) × (x ≡ y → cmp x y ≡ Equal)
  one x y = (λ e. decides x y (ties x y ∙ ap is_eq e), λ e. subst (λ (z : K). cmp x z ≡ Equal) e (tied_itself total x))

pub returns-clause-terms : goal.returns-clause-terms
returns-clause-terms c = term_laws.total-law

pub returns-clause-pids : goal.returns-clause-pids
returns-clause-pids c = pid_laws.total-law

pub returns-clause-references : goal.returns-clause-references
returns-clause-references c = reference_laws.total-law

pub returns-clause-atoms : goal.returns-clause-atoms
returns-clause-atoms c = nat_list_cmp_total

pub returns-clause-one_term : goal.returns-clause-one_term
returns-clause-one_term c = one same_term term_cmp term_laws.matches_eq-law decided.same_term term_laws.total-law

pub returns-clause-one_pid : goal.returns-clause-one_pid
returns-clause-one_pid c = one same_pid pid_cmp pid_laws.matches_eq-law decided.pid_is pid_laws.total-law

pub returns-clause-one_reference : goal.returns-clause-one_reference
returns-clause-one_reference c = one ref_eq ref_cmp reference_laws.matches_eq-law decided.ref_is reference_laws.total-law

pub returns-clause-one_atom : goal.returns-clause-one_atom
returns-clause-one_atom c = one same_atom atom_cmp texts_ties (λ x y e. (bytes_decides x y).0 e) nat_list_cmp_total
