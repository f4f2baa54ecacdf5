-- How each node is told of a loss.
use Rattle.std.proofs.Common.{◌≡◌, ◌<◌, ◌+◌, ◌≤◌, ℕ, List, length, get_or, set, refl, sym, ◌∙◌, subst, arith, inl, inr}
use Rattle.std.proofs.lemmas.Bool.Decides.{eqb_tells}
use Rattle.std.proofs.lemmas.List.{get_or-set_same, get_or-set_other, get_or_default}
use Rattle.pg_ring.specs.declared.slot_out.SlotOut.{SlotOut}
use Rattle.pg_cluster_judges.specs.PgNodeRun.declared.notices.Notice.{Notice}
use Rattle.pg_cluster.specs.Notices.{NotifiedIfRoom, NotifiedUpTo}

pub told_none : (node last : ℕ) (tellers : List (SlotOut Notice)) → NotifiedUpTo node last 0 tellers tellers
told_none node last tellers = record { told = λ i none less. absurd (omega (arith, less)); rest = λ i none more. refl }

pub told_more : (node last k : ℕ) (old tellers : List (SlotOut Notice)) (teller teller2 : SlotOut Notice) → NotifiedUpTo node last k old tellers → k < length tellers
    → teller ≡ get_or tellers k teller → NotifiedIfRoom k node last teller teller2 → NotifiedUpTo node last (k + 1) old (set tellers k teller2)
told_more node last k old tellers teller teller2 was low is told = record {
  told = λ i none less. elim (eqb_tells i k) [
    | inl e ↦
        let there : get_or (set tellers k teller2) k none ≡ teller2 = get_or-set_same tellers k teller2 none low in
        let here : get_or old k none ≡ teller = sym (was.rest k none (omega arith)) ∙ sym (is ∙ get_or_default tellers k teller none low) in
        subst (λ (j : ℕ). NotifiedIfRoom j node last (get_or old j none) (get_or (set tellers k teller2) j none)) (sym e.1)
        (subst (λ (x : SlotOut Notice). NotifiedIfRoom k node last x (get_or (set tellers k teller2) k none)) (sym here) (subst (NotifiedIfRoom k node last teller) (sym there) told))
    | inr f ↦
        subst (NotifiedIfRoom i node last (get_or old i none)) (sym (get_or-set_other tellers k i teller2 none f.1)) (was.told i none (omega (arith, f.1, less)))
  ];
  rest = λ i none more. get_or-set_other tellers k i teller2 none (λ e. omega (arith, e, more)) ∙ was.rest i none (omega (arith, more));
}

pub told_all : (node last place n : ℕ) (old tellers : List (SlotOut Notice)) → n ≤ place → NotifiedUpTo node last place old tellers → length tellers ≡ length old → length old ≡ n
    → place ≤ n → NotifiedUpTo node last n old tellers
told_all node last place n old tellers end was same is low = subst (λ (k : ℕ). NotifiedUpTo node last k old tellers) (omega (arith, end, low)) was
