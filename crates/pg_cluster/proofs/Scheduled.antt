-- The steps of a schedule with losses are the events that the logs tell.
use Rattle.std.proofs.Common.{◌≡◌, ◌≢◌, ◌<◌, ◌≤◌, ◌+◌, ◌-◌, ◌^◌, ◌∙◌, ℕ, Bool, true, false, ◌&&◌}
use Rattle.std.proofs.Common.{cond, min, nat_eq, nat_lt, get_or, length, map, List, [], ◌∷◌, ◌++◌}
use Rattle.std.proofs.Common.{refl, sym, ap, subst, inl, inr, ◌⊎◌, arith, suc, zero, length-append}
use Rattle.std.specs.List.{AllByRecursion}
use Rattle.std.proofs.Math.ListN.{get_or-append}
use Rattle.std.proofs.Math.Seq.{get_or-append_seam}
use Rattle.std.proofs.lemmas.Bool.{cases_eq, cases_lt, eq-eqb, le-ltb, lt-ltb, ne_eqb}
use Rattle.std.proofs.lemmas.List.{map-append}
use Rattle.pg_cluster_judges.specs.Merge.{IsNext, Merges, MergesRest, entry_at, log_at, rest_of}
use Rattle.pg_cluster_judges.specs.Losses.{MarkedEvent}
use Rattle.pg_cluster_judges.proofs.Acts.{all_append}
use Rattle.pg_cluster_judges.specs.PgStep.Machines.Losing.{Lose}
use Rattle.pg_cluster_judges.specs.PgStep.Machines.Places.{set_at}
use Rattle.pg_cluster_judges.specs.PgNodeRun.declared.log.NodeEvent.{NodeEvent}
use Rattle.pg_cluster_judges.specs.PgNodeRun.declared.log.NodeEvent.TheVariants as entries
use Rattle.pg_cluster_judges.specs.PgStep.Step.{Action}
use Rattle.pg_cluster_judges.specs.ApartWithLosses.{Logs, events_behind, loss_before, losses_first as events_first}
use Rattle.pg_cluster_judges.specs.ApartWithLosses.{losing_events, marked_at, takes_in, takes_of}
use Rattle.pg_cluster_judges.specs.PgWorldPackets.declared.step.FrameStep.{FrameStep}
use Rattle.pg_cluster_judges.specs.PgWorldPackets.declared.step.FrameStep.TheVariants as steps
use Rattle.pg_cluster_judges.specs.PgWorldPackets.Losing.{keep_of}
use Rattle.pg_cluster_judges.specs.PgWorldPackets.Views.{peer_place, place_of_peer}
use Rattle.pg_cluster_judges.proofs.PgWorldPackets.Turning.{pair_is}
use Rattle.pg_cluster_judges.specs.Schedule.{SeenStep, Lost, Turned, is_alone, is_last_of, is_lost_in}
use Rattle.pg_cluster_judges.specs.Schedule.{keeps, loss_if, loss_seen, losing_steps, losses_first}
use Rattle.pg_cluster_judges.specs.Schedule.{node_of_peer, seen_step, step_as, steps_at, steps_behind}
use Rattle.pg_cluster_judges.specs.Together.{losing_event}
use Rattle.pg_cluster.proofs.Alike.{AreAlike, IsAlike, alike_append}

-- a step sees a loss
abbrev pub is_sight : FrameStep → Bool
is_sight (steps.Take node peer) = false
is_sight (steps.Command node port command) = false
is_sight (steps.Retry node op) = false
is_sight (steps.SeeLoss node peer) = true
is_sight (steps.Lose node keep) = false

-- the event of a step, and whether a last notice is taken by it
abbrev pub marked_event : FrameStep → MarkedEvent Action
marked_event step = (losing_event step, is_sight step)

-- those of a step as it is seen
abbrev pub event_seen : SeenStep → MarkedEvent Action
event_seen (Turned step) = marked_event step
event_seen (Lost node keep) = (Lose node (keep_of node keep), false)

seen_alike : (step : FrameStep) → marked_event step ≡ event_seen (seen_step step)
seen_alike (steps.Take node peer) = refl
seen_alike (steps.Command node port command) = refl
seen_alike (steps.Retry node op) = refl
seen_alike (steps.SeeLoss node peer) = refl
seen_alike (steps.Lose node keep) = refl

pub all_seen : (schedule : List FrameStep) → map marked_event schedule ≡ map event_seen (map seen_step schedule)
all_seen [] = refl
all_seen (step ∷ schedule) = λ j. seen_alike step j ∷ all_seen schedule j

-- a loss keeps so many packets for each peer
abbrev pub KeepsEach : ℕ → SeenStep → Type 0
KeepsEach n (Turned step) = Unit {0}
KeepsEach n (Lost node keep) = length keep ≡ n - 1

each_seen : (n : ℕ) (schedule : List FrameStep) → AllByRecursion (KeepsEach n) (map seen_step schedule) → AllByRecursion (λ step. KeepsEach n (seen_step step)) schedule
each_seen n [] all = tt
each_seen n (step ∷ schedule) all = (all.0, each_seen n schedule all.1)

-- the peer of an event is at a place that a machine word counts
abbrev pub IsSmall : NodeEvent → Type 0
IsSmall (entries.Take peer) = peer < 17
IsSmall (entries.SeeLoss peer) = peer < 17
IsSmall (entries.Command port command) = Unit {0}
IsSmall (entries.Retry op) = Unit {0}

peer_small : (i peer : ℕ) → peer < 17 → node_of_peer i peer ≡ place_of_peer i peer
peer_small i peer low = go (nat_lt peer i)
  where
    go : (b : Bool) → ◌≡◌ {A = ℕ} (cond b peer (min (peer + 1) (2 ^ 64 - 1))) (cond b peer (peer + 1))
    go true = refl
    go false = omega (arith, low)

step_alike : (i : ℕ) (e : NodeEvent) → IsSmall e → marked_at i e ≡ event_seen (Turned (step_as i e))
step_alike i (entries.Take peer) low = ap (λ p. marked_event (steps.Take i p)) (sym (peer_small i peer low))
step_alike i (entries.SeeLoss peer) low = ap (λ p. marked_event (steps.SeeLoss i p)) (sym (peer_small i peer low))
step_alike i (entries.Command port command) low = refl
step_alike i (entries.Retry op) low = refl

-- ---- what is kept

module _ (logs : List (List (ℕ × NodeEvent))) (node : ℕ) (order : List (ℕ × ℕ)) where
  keeps_long : (n : ℕ) → length (keeps logs node order n) ≡ cond (nat_lt node n) (n - 1) n
  keeps_long zero = sym (ap (λ b. cond {A = ℕ} b (0 - 1) 0) (le-ltb node 0 (omega arith)))
  keeps_long (suc n) = length-append (keeps logs node order n) (cond (nat_eq n node) [] (takes_in (log_at logs) node n order ∷ [])) ∙ go (cases_eq n node) (keeps_long n)
    where
      go : (n ≡ node) ⊎ (n ≢ node) → length (keeps logs node order n) ≡ cond (nat_lt node n) (n - 1) n
          → length (keeps logs node order n) + length (cond (nat_eq n node) [] (takes_in (log_at logs) node n order ∷ [])) ≡ cond (nat_lt node (suc n)) (suc n - 1) (suc n)
      go (inl same) long =
          let short = ap (λ b. cond {A = ℕ} b (n - 1) n) (le-ltb node n (omega (arith, same))) in
          ap (λ b. length (keeps logs node order n) + length (cond b [] (takes_in (log_at logs) node n order ∷ []))) (eq-eqb n node same)
          ∙ (omega (arith, long, short) ∙ sym (ap (λ b. cond {A = ℕ} b (suc n - 1) (suc n)) (lt-ltb node (suc n) (omega (arith, same)))))
      go (inr apart) long =
          ap (λ b. length (keeps logs node order n) + length (cond b [] (takes_in (log_at logs) node n order ∷ []))) (ne_eqb n node apart)
          ∙ below (cases_lt node n)
        where
          below : (node < n) ⊎ (n ≤ node) → length (keeps logs node order n) + 1 ≡ cond (nat_lt node (suc n)) (suc n - 1) (suc n)
          below (inl less) =
              let short = ap (λ b. cond {A = ℕ} b (n - 1) n) (lt-ltb node n less) in
              omega (arith, long, short, less) ∙ sym (ap (λ b. cond {A = ℕ} b (suc n - 1) (suc n)) (lt-ltb node (suc n) (omega (arith, less))))
          below (inr more) =
              let short = ap (λ b. cond {A = ℕ} b (n - 1) n) (le-ltb node n more) in
              let ne : n ≢ node = apart in
              omega (arith, long, short) ∙ sym (ap (λ b. cond {A = ℕ} b (suc n - 1) (suc n)) (le-ltb node (suc n) (omega (arith, more, ne))))

  place_long : (n : ℕ) → n ≢ node → peer_place node n ≡ length (keeps logs node order n)
  place_long n apart = go (cases_lt node n) ∙ sym (keeps_long n)
    where
      go : (node < n) ⊎ (n ≤ node) → peer_place node n ≡ cond (nat_lt node n) (n - 1) n
      go (inl less) = ap (λ b. cond {A = ℕ} b n (n - 1)) (le-ltb n node (omega (arith, less))) ∙ sym (ap (λ b. cond {A = ℕ} b (n - 1) n) (lt-ltb node n less))
      go (inr more) =
          let ne : n ≢ node = apart in
          ap (λ b. cond {A = ℕ} b n (n - 1)) (lt-ltb n node (omega (arith, more, ne))) ∙ sym (ap (λ b. cond {A = ℕ} b (n - 1) n) (le-ltb node n more))

  -- the places ascend
  place_less : (y n : ℕ) → y < n → y ≢ node → peer_place node y < length (keeps logs node order n)
  place_less y n low apart = subst (λ k. peer_place node y < k) (sym (keeps_long n)) (go (cases_lt y node) (cases_lt node n))
    where
      go : (y < node) ⊎ (node ≤ y) → (node < n) ⊎ (n ≤ node) → peer_place node y < cond {A = ℕ} (nat_lt node n) (n - 1) n
      go (inl a) (inl b) =
          subst (λ c. cond {A = ℕ} (nat_lt y node) y (y - 1) < cond {A = ℕ} c (n - 1) n) (sym (lt-ltb node n b))
          (subst (λ c. cond {A = ℕ} c y (y - 1) < n - 1) (sym (lt-ltb y node a)) (omega (arith, a, b)))
      go (inl a) (inr b) =
          subst (λ c. cond {A = ℕ} (nat_lt y node) y (y - 1) < cond {A = ℕ} c (n - 1) n) (sym (le-ltb node n b))
          (subst (λ c. cond {A = ℕ} c y (y - 1) < n) (sym (lt-ltb y node a)) low)
      go (inr a) (inl b) =
          let ne : y ≢ node = apart in
          subst (λ c. cond {A = ℕ} (nat_lt y node) y (y - 1) < cond {A = ℕ} c (n - 1) n) (sym (lt-ltb node n b))
          (subst (λ c. cond {A = ℕ} c y (y - 1) < n - 1) (sym (le-ltb y node a)) (omega (arith, a, b, low, ne)))
      go (inr a) (inr b) = absurd (omega (arith, a, b, low))

  -- at the place of each peer stands how many packets that takes
  keeps_at : (y n : ℕ) → y < n → y ≢ node → get_or (keeps logs node order n) (peer_place node y) 0 ≡ takes_in (log_at logs) node y order
  keeps_at y zero low apart = absurd (omega (arith, low))
  keeps_at y (suc n) low apart = go (cases_eq y n) (keeps_at y n)
    where
      go : (y ≡ n) ⊎ (y ≢ n) → (y < n → y ≢ node → get_or (keeps logs node order n) (peer_place node y) 0 ≡ takes_in (log_at logs) node y order)
          → get_or (keeps logs node order n ++ cond (nat_eq n node) [] (takes_in (log_at logs) node n order ∷ [])) (peer_place node y) 0 ≡ takes_in (log_at logs) node y order
      go (inl same) before =
          let here : n ≢ node = λ e. apart (same ∙ e) in
          ap (λ b. get_or (keeps logs node order n ++ cond b [] (takes_in (log_at logs) node n order ∷ [])) (peer_place node y) 0) (ne_eqb n node here)
          ∙ (ap (λ k. get_or (keeps logs node order n ++ takes_in (log_at logs) node n order ∷ []) k 0) (ap (peer_place node) same ∙ place_long n here)
          ∙ (get_or-append_seam (keeps logs node order n) (takes_in (log_at logs) node n order) [] 0
          ∙ ap (λ k. takes_in (log_at logs) node k order) (sym same)))
      go (inr other) before =
          let ne : y ≢ n = other in
          let less : y < n = omega (arith, low, ne) in
          get_or-append (keeps logs node order n) (cond (nat_eq n node) [] (takes_in (log_at logs) node n order ∷ [])) 0 (peer_place node y) (place_less y n less apart) ∙ before less apart

-- ---- the events

module _ (n : ℕ) (logs : List (List (ℕ × NodeEvent))) (at : Logs) (lost : List Bool) (size : length logs ≡ n) (same : (i : ℕ) → i < n → log_at logs i ≡ at i)
    (small : (i : ℕ) → i < n → AllByRecursion (λ entry. IsSmall entry.1) (at i)) where
  takes_same : (p q : ℕ) → q < n → (order : List (ℕ × ℕ)) → takes_in at p q order ≡ takes_in (log_at logs) p q order
  takes_same p q low [] = refl
  takes_same p q low (x ∷ order) = λ j. cond (nat_eq x.0 q) (takes_of p q (entry_at (sym (same q low) j) x.1)) 0 + takes_same p q low order j

  loss_alike : (i : ℕ) → i < n → (order : List (ℕ × ℕ)) → IsAlike n (loss_before at i order) (event_seen (loss_seen logs i order))
  loss_alike i low order = (
    (
      refl,
      λ y pair.
          let p = pair_is n i y pair in
          takes_same i y p.1 order ∙ (sym (keeps_at logs i order y n p.1 p.2) ∙ ap (λ k. get_or (keeps logs i order k) (peer_place i y) 0) (sym size)),
    ),
    refl,
  )

  loss_if_alike : (i : ℕ) → i < n → (due : Bool) (order : List (ℕ × ℕ)) → AreAlike n (cond due (loss_before at i order ∷ []) []) (map event_seen (loss_if due logs i order))
  loss_if_alike i low true order = (loss_alike i low order, tt)
  loss_if_alike i low false order = tt

  first_alike : (order : List (ℕ × ℕ)) (k : ℕ) → k ≤ n → AreAlike n (events_first at (is_lost_in lost) order k) (map event_seen (losses_first logs lost order k))
  first_alike order zero low = tt
  first_alike order (suc k) low =
      let less : k < n = omega (arith, low) in
      subst (AreAlike n (events_first at (is_lost_in lost) order (suc k))) (sym (map-append event_seen (losses_first logs lost order k) (loss_if (is_alone logs lost k) logs k order)))
      (alike_append n (events_first at (is_lost_in lost) order k) (map event_seen (losses_first logs lost order k)) _ _ (first_alike order k (omega (arith, low)))
      (subst (λ log. AreAlike n (cond (is_lost_in lost k && nat_eq (length log) 0) (loss_before at k order ∷ []) []) (map event_seen (loss_if (is_alone logs lost k) logs k order))) (same k less)
      (loss_if_alike k less (is_alone logs lost k) order)))

  entries_alike : (i : ℕ) (es : List NodeEvent) → AllByRecursion IsSmall es → AreAlike n (map (marked_at i) es) (map event_seen (map (λ e. Turned (step_as i e)) es))
  entries_alike i [] all = tt
  entries_alike i (e ∷ es) all = (step_so e (step_alike i e all.0), entries_alike i es all.1)
    where
      step_so : (e : NodeEvent) → marked_at i e ≡ event_seen (Turned (step_as i e)) → IsAlike n (marked_at i e) (event_seen (Turned (step_as i e)))
      step_so e is = subst (IsAlike n (marked_at i e)) is (refl, refl)

  entry_small : (log : List (ℕ × NodeEvent)) (place : ℕ) → AllByRecursion (λ entry. IsSmall entry.1) log → AllByRecursion IsSmall (entry_at log place)
  entry_small [] zero all = tt
  entry_small [] (suc place) all = tt
  entry_small (x ∷ log) zero all = (all.0, tt)
  entry_small (x ∷ log) (suc place) all = entry_small log place all.1

  behind_alike : (clocks : ℕ → List ℕ) (order : List (ℕ × ℕ)) (read : ℕ → ℕ) → MergesRest n clocks read order
      → AreAlike n (events_behind at (is_lost_in lost) order) (map event_seen (steps_behind logs lost order))
  behind_alike clocks [] read merges = tt
  behind_alike clocks (x ∷ order) read merges =
      let next : IsNext n (rest_of clocks read) x.0 = merges.1 in
      let low = next.there in
      let here = same x.0 low in
      subst (AreAlike n (events_behind at (is_lost_in lost) (x ∷ order))) (sym (map-append event_seen (steps_at logs lost x order) (steps_behind logs lost order)))
      (alike_append n _ (map event_seen (steps_at logs lost x order)) _ _
      (subst (AreAlike n _) (sym (map-append event_seen (map (λ event. Turned (step_as x.0 event)) (entry_at (log_at logs x.0) x.1)) (loss_if (is_last_of logs lost x) logs x.0 order)))
      (alike_append n (map (marked_at x.0) (entry_at (at x.0) x.1)) (map event_seen (map (λ event. Turned (step_as x.0 event)) (entry_at (log_at logs x.0) x.1))) _ _
      (subst (λ log. AreAlike n (map (marked_at x.0) (entry_at (at x.0) x.1)) (map event_seen (map (λ event. Turned (step_as x.0 event)) (entry_at log x.1)))) (sym here)
      (entries_alike x.0 (entry_at (at x.0) x.1) (entry_small (at x.0) x.1 (small x.0 low))))
      (subst (λ log. AreAlike n (cond (is_lost_in lost x.0 && nat_eq (x.1 + 1) (length log)) (loss_before at x.0 order ∷ []) []) (map event_seen (loss_if (is_last_of logs lost x) logs x.0 order))) here
      (loss_if_alike x.0 low (is_last_of logs lost x) order))))
      (behind_alike clocks order (set_at read x.0 (x.1 + 1)) merges.2))

  pub steps_alike : (clocks : ℕ → List ℕ) (order : List (ℕ × ℕ)) (schedule : List FrameStep) → Merges n clocks order → map seen_step schedule ≡ losing_steps logs lost order
      → AreAlike n (losing_events n at (is_lost_in lost) order) (map marked_event schedule)
  steps_alike clocks order schedule merges is =
      subst (AreAlike n (losing_events n at (is_lost_in lost) order))
      (sym (all_seen schedule ∙ (ap (map event_seen) is
      ∙ (map-append event_seen (losses_first logs lost order (length logs)) (steps_behind logs lost order)
      ∙ ap (λ k. map event_seen (losses_first logs lost order k) ++ map event_seen (steps_behind logs lost order)) size))))
      (alike_append n (events_first at (is_lost_in lost) order n) (map event_seen (losses_first logs lost order n)) (events_behind at (is_lost_in lost) order) (map event_seen (steps_behind logs lost order))
      (first_alike order n (omega arith)) (behind_alike clocks order (λ i. 0) merges))

  -- ---- what losses keep

  loss_keeps : (i : ℕ) → i < n → (due : Bool) (order : List (ℕ × ℕ)) → AllByRecursion (KeepsEach n) (loss_if due logs i order)
  loss_keeps i low true order = (ap (λ k. length (keeps logs i order k)) size ∙ (keeps_long logs i order n ∙ ap (λ b. cond {A = ℕ} b (n - 1) n) (lt-ltb i n low)), tt)
  loss_keeps i low false order = tt

  first_keeps : (order : List (ℕ × ℕ)) (k : ℕ) → k ≤ n → AllByRecursion (KeepsEach n) (losses_first logs lost order k)
  first_keeps order zero low = tt
  first_keeps order (suc k) low = all_append (KeepsEach n) (losses_first logs lost order k) (loss_if (is_alone logs lost k) logs k order)
      (first_keeps order k (omega (arith, low))) (loss_keeps k (omega (arith, low)) (is_alone logs lost k) order)

  entries_keep : (i : ℕ) (es : List NodeEvent) → AllByRecursion (KeepsEach n) (map (λ event. Turned (step_as i event)) es)
  entries_keep i [] = tt
  entries_keep i (e ∷ es) = (tt, entries_keep i es)

  behind_keeps : (clocks : ℕ → List ℕ) (order : List (ℕ × ℕ)) (read : ℕ → ℕ) → MergesRest n clocks read order → AllByRecursion (KeepsEach n) (steps_behind logs lost order)
  behind_keeps clocks [] read merges = tt
  behind_keeps clocks (x ∷ order) read merges =
      let next : IsNext n (rest_of clocks read) x.0 = merges.1 in
      all_append (KeepsEach n) (steps_at logs lost x order) (steps_behind logs lost order)
      (all_append (KeepsEach n) (map (λ event. Turned (step_as x.0 event)) (entry_at (log_at logs x.0) x.1)) (loss_if (is_last_of logs lost x) logs x.0 order)
      (entries_keep x.0 (entry_at (log_at logs x.0) x.1)) (loss_keeps x.0 next.there (is_last_of logs lost x) order))
      (behind_keeps clocks order (set_at read x.0 (x.1 + 1)) merges.2)

  pub steps_keep : (clocks : ℕ → List ℕ) (order : List (ℕ × ℕ)) (schedule : List FrameStep) → Merges n clocks order → map seen_step schedule ≡ losing_steps logs lost order
      → AllByRecursion (λ step. KeepsEach n (seen_step step)) schedule
  steps_keep clocks order schedule merges is =
      each_seen n schedule (subst (AllByRecursion (KeepsEach n)) (sym is)
      (all_append (KeepsEach n) (losses_first logs lost order (length logs)) (steps_behind logs lost order)
      (first_keeps order (length logs) (omega (arith, size))) (behind_keeps clocks order (λ i. 0) merges)))
