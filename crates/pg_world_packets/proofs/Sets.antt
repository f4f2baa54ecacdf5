-- Entries of histories are a set: an equation between two has one proof.
use Rattle.std.proofs.Common.{◌≡◌, Bool, true, false, inl, inr, ◌⊎◌, refl, sym, ap, ◌∙◌}
use Rattle.std.proofs.Props.{props}
use mathlib.Core.HLevel.{collapsible→set, hedberg}
use mathlib.Core.Sum.{⊎_set}
use Rattle.pg_term.specs.declared.pid.Pid.{Pid}
use Rattle.pg_term.specs.declared.term.Term.{Term}
use Rattle.pg_term.specs.Same.{same_term}
use Rattle.pg_term.specs.contracts.term.TermEq.TheImpl.Laws as term_laws
use Rattle.pg_term.proofs.Same.{same_term as term_is}
use Rattle.pg_node_state.specs.PgGroup.declared.update.Update.{Update}
use Rattle.pg_node_state.specs.PgGroup.declared.update.Update.TheVariants.{Create, Delete, Join, Leave}

-- two terms are one, or not
decided : (one other : Term) (b : Bool) → same_term one other ≡ b → Dec (one ≡ other)
decided one other true e = yes (term_is one other e)
decided one other false e = no (λ same. let never : true ≡ false = sym (term_laws.laws-law.refl one) ∙ (ap (same_term one) same ∙ e) in absurd (cc))

term_set : IsSet Term
term_set = hedberg (λ one other. decided one other (same_term one other) refl)

-- the fields of an update
abbrev Fields : Type 0
Fields = Term ⊎ (Term ⊎ ((Term × Pid) ⊎ (Term × Pid)))

fields_of : Update → Fields
fields_of (Create name) = inl name
fields_of (Delete name) = inr (inl name)
fields_of (Join name pid) = inr (inr (inl (name, pid)))
fields_of (Leave name pid) = inr (inr (inr (name, pid)))

made_of : Fields → Update
made_of (inl name) = Create name
made_of (inr (inl name)) = Delete name
made_of (inr (inr (inl both))) = Join both.0 both.1
made_of (inr (inr (inr both))) = Leave both.0 both.1

made_back : (update : Update) → made_of (fields_of update) ≡ update
unfolding fields_of made_of
made_back (Create name) = refl
made_back (Delete name) = refl
made_back (Join name pid) = refl
made_back (Leave name pid) = refl

fields_set : IsSet Fields
fields_set = ⊎_set term_set (⊎_set term_set (⊎_set (hlevel (term_set, props)) (hlevel (term_set, props))))

pub update_set : IsSet Update
update_set = collapsible→set (λ one other same. sym (made_back one) ∙ ap made_of (ap fields_of same) ∙ made_back other)
    (λ one other p q. ap (λ same. sym (made_back one) ∙ ap made_of same ∙ made_back other) (fields_set (fields_of one) (fields_of other) (ap fields_of p) (ap fields_of q)))
