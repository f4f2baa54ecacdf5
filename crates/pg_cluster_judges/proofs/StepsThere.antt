-- A cluster that has ended has such steps.
use Rattle.std.proofs.Common.{◌≡◌, ◌≤◌, ◌<◌, ◌^◌, ◌∙◌, ◌+◌, ℕ, zero, suc, Bool, true, false, List, [], ◌∷◌, ◌++◌, cond}
use Rattle.std.proofs.Common.{length, map, nat_eq, refl, arith, length-append}
use Rattle.std.specs.Prelude.{Result, Ok, Err, IfOk}
use Rattle.std.specs.declared.alloc.Global.{Global}
use Rattle.std.specs.declared.vec.Vec.{Vec}
use Rattle.std.proofs.lemmas.List.{length-map, map-append}
use Rattle.pg_cluster_judges.specs.ApartWithLosses.{takes_in}
use Rattle.pg_cluster_judges.specs.Merge.{entry_at, log_at}
use Rattle.pg_node_run.specs.declared.log.NodeEvent.{NodeEvent}
use Rattle.pg_node_run.specs.declared.log.NodeEvent.TheVariants as events
use Rattle.pg_world.specs.PgWorldPackets.declared.step.FrameStep.{FrameStep}
use Rattle.pg_world.specs.PgWorldPackets.declared.step.FrameStep.TheVariants as steps
use Rattle.pg_cluster_judges.specs.declared.closed.Closed.{Closed}
use Rattle.pg_cluster_judges.specs.Closed.{AreStepsOf, HasSteps, logs_in}
use Rattle.pg_cluster_judges.specs.Schedule.{Turned, is_alone, is_last_of, keeps, loss_if, losses_first}
use Rattle.pg_cluster_judges.specs.Schedule.{seen_step, step_as, steps_behind}

-- no more are kept than there are nodes
few_more : (b : Bool) (xs : List ℕ) (x n : ℕ) → length xs ≤ n → length (xs ++ cond b [] (x ∷ [])) ≤ n + 1
few_more true xs x n few = let e = length-append xs [] in omega (arith, few, e)
few_more false xs x n few = let e = length-append xs (x ∷ []) in omega (arith, few, e)

few_kept : (logs : List (List (ℕ × NodeEvent))) (node : ℕ) (order : List (ℕ × ℕ)) (n : ℕ) → length (keeps logs node order n) ≤ n
few_kept logs node order zero = omega arith
few_kept logs node order (suc n) =
    let few = few_more (nat_eq n node) (keeps logs node order n) (takes_in (log_at logs) node n order) n (few_kept logs node order n) in
    omega (arith, few)

turned_is : (node : ℕ) (event : NodeEvent) → seen_step (step_as node event) ≡ Turned (step_as node event)
turned_is node (events.Take peer) = refl
turned_is node (events.Command port command) = refl
turned_is node (events.Retry op) = refl
turned_is node (events.SeeLoss peer) = refl

turned_all : (node : ℕ) (es : List NodeEvent) → map seen_step (map (step_as node) es) ≡ map (λ event. Turned (step_as node event)) es
turned_all node [] = refl
turned_all node (e ∷ es) = λ j. turned_is node e j ∷ turned_all node es j

module _ (logs : List (List (ℕ × NodeEvent))) (lost : List Bool) (some : Vec (ℕ × ℕ) Global) (small : length logs < 2 ^ 63) where
  -- as many packets stay
  kept : (xs : List ℕ) → length xs ≤ length logs → Vec ℕ Global
  kept xs few = record { ptr = some.ptr; len = length xs; cap = length xs; alloc = some.alloc; items = xs; ok = (refl, omega arith); small = omega (arith, few, small) }

  lost_there : (due : Bool) (node : ℕ) (order : List (ℕ × ℕ)) → (all : List FrameStep) × (map seen_step all ≡ loss_if due logs node order)
  unfolding kept
  lost_there true node order = (steps.Lose node (kept (keeps logs node order (length logs)) (few_kept logs node order (length logs))) ∷ [], refl)
  lost_there false node order = ([], refl)

  first_there : (order : List (ℕ × ℕ)) (n : ℕ) → (all : List FrameStep) × (map seen_step all ≡ losses_first logs lost order n)
  first_there order zero = ([], refl)
  first_there order (suc n) =
      let before = first_there order n in
      let one = lost_there (is_alone logs lost n) n order in
      (before.0 ++ one.0, map-append seen_step before.0 one.0 ∙ (λ j. before.1 j ++ one.1 j))

  behind_there : (order : List (ℕ × ℕ)) → (all : List FrameStep) × (map seen_step all ≡ steps_behind logs lost order)
  behind_there [] = ([], refl)
  behind_there (x ∷ order) =
      let es = entry_at (log_at logs x.0) x.1 in
      let own = map (step_as x.0) es in
      let one = lost_there (is_last_of logs lost x) x.0 order in
      let later = behind_there order in (
        (own ++ one.0) ++ later.0,
        map-append seen_step (own ++ one.0) later.0 ∙ (λ j. (map-append seen_step own one.0 ∙ (λ k. turned_all x.0 es k ++ one.1 k)) j ++ later.1 j),
      )

pub steps_there : (closed : Closed) → (all : List FrameStep) × AreStepsOf closed all
steps_there closed =
    let logs = logs_in closed in
    let small : length logs < 2 ^ 63 = let same = length-map closed.logs.items (λ v. v.items) in omega (arith, same, closed.logs.ok.0, closed.logs.ok.1, closed.logs.small) in
    let first = first_there logs closed.lost.items closed.order small closed.order.items (length logs) in
    let behind = behind_there logs closed.lost.items closed.order small closed.order.items in
    (first.0 ++ behind.0, map-append seen_step first.0 behind.0 ∙ (λ j. first.1 j ++ behind.1 j))

pub has_steps : {E : Type 0} (result : Result Closed E) → IfOk result HasSteps
has_steps (Ok closed) = ∣ steps_there closed ∣₁
has_steps (Err e) = tt
