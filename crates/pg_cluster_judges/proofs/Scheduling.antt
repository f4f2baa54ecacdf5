-- A schedule in which nobody is lost.
use Rattle.std.proofs.Common.{◌≡◌, ◌≤◌, ◌<◌, ◌⊎◌, ◌∙◌, ◌&&◌, ◌++◌, ◌+◌, ℕ, Bool, false, List, [], ◌∷◌, cond}
use Rattle.std.proofs.Common.{get_or, length, map, nat_eq, append-nil, refl, sym, ap, inl, inr, arith, suc, zero}
use Rattle.std.proofs.lemmas.Bool.{cases_lt}
use Rattle.std.proofs.lemmas.List.{map-append}
use Rattle.pg_cluster_judges.specs.Merge.{entry_at, log_at}
use Rattle.pg_node_run.specs.declared.log.NodeEvent.{NodeEvent}
use Rattle.pg_world.specs.PgWorldPackets.declared.step.FrameStep.{FrameStep}
use Rattle.pg_world.specs.PgWorldPackets.declared.step.FrameStep.TheVariants as steps
use Rattle.pg_cluster_judges.specs.Schedule.{NobodyLost}
use Rattle.pg_cluster_judges.specs.Schedule.{IsLosingSchedule, IsSchedule, SeenStep, Turned, is_lost_in, losing_steps}
use Rattle.pg_cluster_judges.specs.Schedule.{loss_seen, losses_first, seen_step, step_as, steps_behind, steps_of}

turned_is : (a b : FrameStep) → Turned a ≡ Turned b → a ≡ b
turned_is a b e = cc

turned_only : (step other : FrameStep) → seen_step step ≡ Turned other → step ≡ other
turned_only (steps.Take node peer) other e = turned_is (steps.Take node peer) other e
turned_only (steps.Command node port command) other e = turned_is (steps.Command node port command) other e
turned_only (steps.Retry node op) other e = turned_is (steps.Retry node op) other e
turned_only (steps.SeeLoss node peer) other e = turned_is (steps.SeeLoss node peer) other e
turned_only (steps.Lose node keep) other e = absurd (cc)

heads : (a b : SeenStep) (as_ bs : List SeenStep) → a ∷ as_ ≡ b ∷ bs → (a ≡ b) × (as_ ≡ bs)
heads a b as_ bs e = (cc, cc)

steps_only : (schedule others : List FrameStep) → map seen_step schedule ≡ map Turned others → schedule ≡ others
steps_only [] [] e = refl
steps_only [] (other ∷ others) e = absurd (cc)
steps_only (step ∷ schedule) [] e = absurd (cc)
steps_only (step ∷ schedule) (other ∷ others) e =
    let h = heads (seen_step step) (Turned other) (map seen_step schedule) (map Turned others) e in
    (λ j. turned_only step other h.0 j ∷ steps_only schedule others h.1 j)

-- ---- where nobody is lost

past : (xs : List Bool) (i : ℕ) → length xs ≤ i → get_or xs i false ≡ false
past [] i low = refl
past (x ∷ xs) zero low = absurd (omega (arith, low))
past (x ∷ xs) (suc i) low = past xs i (omega (arith, low))

nobody_at : (lost : List Bool) → NobodyLost lost → (i : ℕ) → is_lost_in lost i ≡ false
nobody_at lost nobody i = go (cases_lt i (length lost))
  where
    go : (i < length lost) ⊎ (length lost ≤ i) → is_lost_in lost i ≡ false
    go (inl low) = nobody i false low
    go (inr high) = past lost i high

module _ (logs : List (List (ℕ × NodeEvent))) (lost : List Bool) (none : (i : ℕ) → is_lost_in lost i ≡ false) where
  none_first : (order : List (ℕ × ℕ)) (n : ℕ) → losses_first logs lost order n ≡ []
  none_first order zero = refl
  none_first order (suc n) =
      ap (λ b. losses_first logs lost order n ++ cond (b && nat_eq (length (log_at logs n)) 0) (loss_seen logs n order ∷ []) []) (none n)
      ∙ (append-nil (losses_first logs lost order n) ∙ none_first order n)

  turned_all : (node : ℕ) (es : List NodeEvent) → map (λ event. Turned (step_as node event)) es ≡ map Turned (map (step_as node) es)
  turned_all node [] = refl
  turned_all node (e ∷ es) = ap (λ w. Turned (step_as node e) ∷ w) (turned_all node es)

  none_behind : (order : List (ℕ × ℕ)) → steps_behind logs lost order ≡ map Turned (steps_of logs order)
  none_behind [] = refl
  none_behind (x ∷ order) =
      let es = entry_at (log_at logs x.0) x.1 in
      ap (λ b. (map (λ event. Turned (step_as x.0 event)) es ++ cond (b && nat_eq (x.1 + 1) (length (log_at logs x.0))) (loss_seen logs x.0 order ∷ []) []) ++ steps_behind logs lost order) (none x.0)
      ∙ (ap (λ w. w ++ steps_behind logs lost order) (append-nil (map (λ event. Turned (step_as x.0 event)) es))
      ∙ ((λ j. turned_all x.0 es j ++ none_behind order j) ∙ sym (map-append Turned (map (step_as x.0) es) (steps_of logs order))))

  none_lost : (order : List (ℕ × ℕ)) → losing_steps logs lost order ≡ map Turned (steps_of logs order)
  none_lost order = (λ j. none_first order (length logs) j ++ none_behind order j)

-- it is that of the logs alone
pub all_events : (logs : List (List (ℕ × NodeEvent))) (lost : List Bool) (schedule : List FrameStep) → IsLosingSchedule logs lost schedule → NobodyLost lost → IsSchedule logs (length logs) schedule
all_events logs lost schedule is nobody = record {
  order = is.order;
  merges = is.merges;
  is = steps_only schedule (steps_of logs is.order) (is.is ∙ none_lost logs lost (nobody_at lost nobody) is.order);
}
