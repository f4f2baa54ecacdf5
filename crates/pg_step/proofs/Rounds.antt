-- The rounds of a request for a lock, by pg_lock's rule.
use Rattle.std.proofs.Common.{◌≡◌, Bool, true, false, not, ◌&&◌, List, [], ◌∷◌, refl, ap, sym, ◌∙◌}
use Rattle.std.specs.Cmp.{first_so, second_so}
use Rattle.std.specs.List.{list_all}
use Rattle.std.specs.Prelude.{◌↔◌}
use Rattle.pg_lock.specs.Attempts.{after_round}
use Rattle.pg_lock.specs.declared.attempt.Attempt.TheVariants.{AskingRest, Held}
use Rattle.pg_step.specs.Attempts.{all_granted, is_asked, is_no, is_unasked, is_yes, none_denied, none_missing}
use Rattle.pg_step.specs.Nodes.{Node, Nodes, all_of, every}
use Rattle.pg_step.specs.State.{Status}
use Rattle.pg_step.specs.State.Status.{Unasked, Asked, Yes, No}

-- a node that was asked and has answered has granted, or denied
settled : (v : Status) → not (is_unasked v) ≡ true → not (is_asked v) ≡ true → is_yes v ≡ not (is_no v)
settled Unasked asked answered = absurd (cc)
settled Asked asked answered = absurd (cc)
settled Yes asked answered = refl
settled No asked answered = refl

all_settled : (st : Node → Status) (qs : List Node) → list_all (λ q. not (is_unasked (st q))) qs ≡ true → list_all (λ q. not (is_asked (st q))) qs ≡ true
    → list_all (λ q. is_yes (st q)) qs ≡ list_all (λ q. not (is_no (st q))) qs
all_settled st [] asked answered = refl
all_settled st (q ∷ qs) asked answered =
    ap (λ b. b && list_all (λ p. is_yes (st p)) qs)
    (settled (st q) (first_so (not (is_unasked (st q))) (list_all (λ p. not (is_unasked (st p))) qs) asked) (first_so (not (is_asked (st q))) (list_all (λ p. not (is_asked (st p))) qs) answered))
    ∙ ap (λ b. not (is_no (st q)) && b)
    (all_settled st qs (second_so (not (is_unasked (st q))) (list_all (λ p. not (is_unasked (st p))) qs) asked) (second_so (not (is_asked (st q))) (list_all (λ p. not (is_asked (st p))) qs) answered))

pub held_exactly : (m : Nodes) (st : Node → Status) → every m (λ q. not (is_unasked (st q))) ≡ true → none_missing m st ≡ true
    → (all_granted m st ≡ true) ↔ (after_round AskingRest (none_denied m st) ≡ Held)
held_exactly m st asked answered =
    let same : all_granted m st ≡ none_denied m st = all_settled st (all_of m) asked answered in
    (λ granted. ap (after_round AskingRest) (sym same ∙ granted), λ held. same ∙ back (none_denied m st) held)
  where
    back : (b : Bool) → after_round AskingRest b ≡ Held → b ≡ true
    back true e = refl
    back false e = absurd (cc)
