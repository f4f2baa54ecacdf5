-- The events that a merge with losses tells are those of the logs, with each loss in its place.
use Rattle.std.proofs.Common.{◌≡◌, ◌≢◌, ◌<◌, ◌≤◌, ◌+◌, ◌-◌, ◌∙◌, ℕ, Bool, true, false, ◌&&◌}
use Rattle.std.proofs.Common.{cond, nat_eq, drop, take, length, map, List, [], ◌∷◌, ◌++◌, refl}
use Rattle.std.proofs.Common.{sym, ap, subst, inl, inr, ◌⊎◌, arith, suc, zero, append_assoc}
use Rattle.std.specs.List.{flat_map}
use Rattle.std.proofs.Math.Path.{fun_ext}
use Rattle.std.proofs.lemmas.Bool.{cases_eq, eq-eqb, ne_eqb, eqb-true}
use Rattle.std.proofs.lemmas.Grind.{flat_map-append}
use Rattle.std.proofs.lemmas.List.{drop-map, length-map}
use Rattle.pg_world.specs.PgStep.Machines.Places.{set_at}
use Rattle.pg_world.proofs.PgStep.Machines.Places.{set_at_here, set_at_other}
use Rattle.pg_cluster_judges.specs.Losses.{Logged, Turned, Stopped, events_told, loss_alone}
use Rattle.pg_cluster_judges.specs.Losses.{losses_alone, loss_behind, still_kept, with_losses}
use Rattle.pg_cluster_judges.specs.Merge.{IsNext, Merges, MergesRest, clocks_of, entry_at, merged_logs, rest_of, seen_log}
use Rattle.pg_cluster_judges.proofs.Acts.{drop_next, map_cons, map_nil}
use Rattle.pg_node_run.specs.declared.log.NodeEvent.{NodeEvent}
use Rattle.pg_node_run.specs.declared.log.NodeEvent.TheVariants as entries
use Rattle.pg_world.specs.PgStep.Step.{Action}
use Rattle.pg_cluster_judges.specs.Apart.{event_at}
use Rattle.pg_cluster_judges.specs.ApartWithLosses.{Logs, is_take, takes_of, takes_in, loss_before, losses_first}
use Rattle.pg_cluster_judges.specs.ApartWithLosses.{events_behind, losing_events, marked_at, sees_loss}
use Rattle.pg_world.specs.PgWorldPackets.Views.{place_of_peer}

-- what an entry of a log without losses is in a log with them
abbrev pub turned_at : ℕ → NodeEvent → Logged Action
turned_at i e = Turned (event_at i e) (sees_loss e)

-- the log of a node with its loss, at this clock
abbrev pub full_log : (ℕ → Bool) → (ℕ → ℕ) → Logs → ℕ → List (ℕ × Logged Action)
full_log lost last logs i = seen_log (turned_at i) (logs i) ++ cond (lost i) ((last i, Stopped i) ∷ []) []

-- behind the sight of a loss nothing is taken of the lost
abbrev pub Ceases : ℕ → List (ℕ × NodeEvent) → Type 0
Ceases i log = (n clock peer : ℕ) (rest : List (ℕ × NodeEvent)) → drop n log ≡ (clock, entries.SeeLoss peer) ∷ rest → takes_of (place_of_peer i peer) i (map (λ x. x.1) rest) ≡ 0

-- ---- lists

none_more : (n : ℕ) → 0 + n ≡ n
none_more n = omega arith

first_of : {A : Type 0} (n : ℕ) (xs ys : List A) (x : A) (rest : List A) → drop n xs ≡ x ∷ rest → drop n (xs ++ ys) ≡ x ∷ (rest ++ ys)
first_of zero xs ys x rest e = ap (λ zs. zs ++ ys) e
first_of (suc n) [] ys x rest e = absurd (cc)
first_of (suc n) (z ∷ xs) ys x rest e = first_of n xs ys x rest e

behind_all : {A : Type 0} (n : ℕ) (xs ys : List A) → n ≡ length xs → drop n (xs ++ ys) ≡ ys
behind_all n [] ys e = ap (λ k. drop k ys) e
behind_all zero (x ∷ xs) ys e = absurd (omega (arith, e))
behind_all (suc n) (x ∷ xs) ys e = behind_all n xs ys (omega (arith, e))

entry_is : {E : Type 0} (log : List (ℕ × E)) (n : ℕ) (x : ℕ × E) (rest : List (ℕ × E)) → drop n log ≡ x ∷ rest → entry_at log n ≡ x.1 ∷ []
entry_is {E} log n x rest e = ap (λ (zs : List (ℕ × E)). map (λ (z : ℕ × E). z.1) (take 1 zs)) e

module _ (size : ℕ) (lost : ℕ → Bool) (last : ℕ → ℕ) (logs : Logs) (ceases : (i : ℕ) → i < size → Ceases i (logs i)) where
  abbrev clocks : ℕ → List ℕ
  clocks i = clocks_of (logs i)

  abbrev full : ℕ → List (ℕ × Logged Action)
  full = full_log lost last logs

  -- the entry of a log that is read next
  record Reads (i n : ℕ) : Type 0 where
    entry : ℕ × NodeEvent
    rest : List (ℕ × NodeEvent)
    is : drop n (logs i) ≡ entry ∷ rest

  reads : (read : ℕ → ℕ) (i : ℕ) → IsNext size (rest_of clocks read) i → Reads i (read i)
  reads read i next =
      let cut = map_cons (λ (x : ℕ × NodeEvent). x.0) (drop (read i) (logs i)) next.clock next.later (sym (drop-map (λ (x : ℕ × NodeEvent). x.0) (read i) (logs i)) ∙ next.next) in
      record { entry = cut.0; rest = cut.1; is = cut.2 }

  -- ---- what is still taken

  takes_rest : (p q : ℕ) → q < size → (order : List (ℕ × ℕ)) (read : ℕ → ℕ) → MergesRest size clocks read order → takes_in logs p q order ≡ takes_of p q (map (λ x. x.1) (drop (read q) (logs q)))
  takes_rest p q low [] read none =
      ap (λ (zs : List (ℕ × NodeEvent)). takes_of p q (map (λ x. x.1) zs))
      (sym (map_nil (λ (x : ℕ × NodeEvent). x.0) (drop (read q) (logs q)) (sym (drop-map (λ (x : ℕ × NodeEvent). x.0) (read q) (logs q)) ∙ none q low)))
  takes_rest p q low (x ∷ order) read merges = go (cases_eq x.0 q) (takes_rest p q low order (set_at read x.0 (x.1 + 1)) merges.2)
    where
      go : (x.0 ≡ q) ⊎ (x.0 ≢ q) → takes_in logs p q order ≡ takes_of p q (map (λ x. x.1) (drop (set_at read x.0 (x.1 + 1) q) (logs q)))
          → takes_in logs p q (x ∷ order) ≡ takes_of p q (map (λ x. x.1) (drop (read q) (logs q)))
      go (inl same) later =
          let next : IsNext size (rest_of clocks read) x.0 = merges.1 in
          let at : Reads q (read q) = subst (λ k. Reads k (read k)) same (reads read x.0 next) in
          let place : x.1 ≡ read q = merges.0 ∙ ap read same in
          let on : drop (set_at read x.0 (x.1 + 1) q) (logs q) ≡ at.rest =
          ap (λ n. drop n (logs q)) (set_at_here read x.0 (x.1 + 1) q (sym same) ∙ ap (λ n. n + 1) place) ∙ drop_next (read q) (logs q) at.entry at.rest at.is in
          let one : entry_at (logs q) x.1 ≡ at.entry.1 ∷ [] = ap (entry_at (logs q)) place ∙ entry_is (logs q) (read q) at.entry at.rest at.is in
          let none : cond {A = ℕ} (is_take p q at.entry.1) 1 0 + 0 ≡ cond (is_take p q at.entry.1) 1 0 = omega arith in
          ap (λ b. cond b (takes_of p q (entry_at (logs q) x.1)) 0 + takes_in logs p q order) (eq-eqb x.0 q same)
          ∙ (ap (λ es. takes_of p q es + takes_in logs p q order) one
          ∙ (ap (λ n. n + takes_in logs p q order) none
          ∙ (ap (λ n. cond (is_take p q at.entry.1) 1 0 + n) (later ∙ ap (λ (zs : List (ℕ × NodeEvent)). takes_of p q (map (λ x. x.1) zs)) on)
          ∙ sym (ap (λ (zs : List (ℕ × NodeEvent)). takes_of p q (map (λ x. x.1) zs)) at.is))))
      go (inr apart) later =
          ap (λ b. cond b (takes_of p q (entry_at (logs q) x.1)) 0 + takes_in logs p q order) (ne_eqb x.0 q apart)
          ∙ (none_more (takes_in logs p q order) ∙ later ∙ ap (λ n. takes_of p q (map (λ x. x.1) (drop n (logs q)))) (set_at_other read x.0 (x.1 + 1) q (λ e. apart (sym e))))

  abbrev kept_in : List (ℕ × ℕ) → ℕ → ℕ → ℕ
  kept_in order p q = takes_in logs p q order

  module _ (x : ℕ × ℕ) (order : List (ℕ × ℕ)) (read : ℕ → ℕ) (place : x.1 ≡ read x.0) (next : IsNext size (rest_of clocks read) x.0)
      (merges : MergesRest size clocks (set_at read x.0 (x.1 + 1)) order) where
    abbrev at : Reads x.0 (read x.0)
    at = reads read x.0 next

    abbrev event : NodeEvent
    event = at.entry.1

    one_entry : entry_at (logs x.0) x.1 ≡ event ∷ []
    one_entry = ap (entry_at (logs x.0)) place ∙ entry_is (logs x.0) (read x.0) at.entry at.rest at.is

    -- a loss that is seen is the last that comes
    none_later : (peer : ℕ) → event ≡ entries.SeeLoss peer → takes_in logs (place_of_peer x.0 peer) x.0 order ≡ 0
    none_later peer is =
        let first : drop (read x.0) (logs x.0) ≡ (at.entry.0, entries.SeeLoss peer) ∷ at.rest = at.is ∙ ap (λ (e : NodeEvent). (at.entry.0, e) ∷ at.rest) is in
        takes_rest (place_of_peer x.0 peer) x.0 next.there order (set_at read x.0 (x.1 + 1)) merges
        ∙ (ap (λ n. takes_of (place_of_peer x.0 peer) x.0 (map (λ x. x.1) (drop n (logs x.0)))) (set_at_here read x.0 (x.1 + 1) x.0 refl ∙ ap (λ n. n + 1) place)
        ∙ (ap (λ (zs : List (ℕ × NodeEvent)). takes_of (place_of_peer x.0 peer) x.0 (map (λ x. x.1) zs)) (drop_next (read x.0) (logs x.0) at.entry at.rest at.is)
        ∙ ceases x.0 next.there (read x.0) at.entry.0 peer at.rest first))

    kept_here : (p q : ℕ) → q ≡ x.0 → kept_in (x ∷ order) p q ≡ cond (is_take p x.0 event) 1 0 + kept_in order p q
    kept_here p q same =
        let none : cond {A = ℕ} (is_take p x.0 event) 1 0 + 0 ≡ cond (is_take p x.0 event) 1 0 = omega arith in
        ap (λ b. cond b (takes_of p q (entry_at (logs q) x.1)) 0 + kept_in order p q) (eq-eqb x.0 q (sym same))
        ∙ (ap (λ k. takes_of p k (entry_at (logs k) x.1) + kept_in order p q) same
        ∙ (ap (λ es. takes_of p x.0 es + kept_in order p q) one_entry ∙ ap (λ n. n + kept_in order p q) none))

    kept_there : (p q : ℕ) → q ≢ x.0 → kept_in (x ∷ order) p q ≡ kept_in order p q
    kept_there p q apart = ap (λ b. cond b (takes_of p q (entry_at (logs q) x.1)) 0 + kept_in order p q) (ne_eqb x.0 q (λ e. apart (sym e))) ∙ none_more (kept_in order p q)

    kept_on_at : (p q : ℕ) → (q ≡ x.0) ⊎ (q ≢ x.0) → still_kept (event_at x.0 event) (kept_in (x ∷ order)) p q ≡ kept_in order p q
    kept_on_at p q here = go event refl here
      where
        more : (b : Bool) (n : ℕ) → (cond b 1 0 + n) - cond b 1 0 ≡ n
        more true n = omega arith
        more false n = omega arith

        same_take : (from : ℕ) → (q ≡ x.0) → still_kept {C = Action} (event_at x.0 (entries.Take from)) (kept_in (x ∷ order)) p q ≡ kept_in (x ∷ order) p q - cond (nat_eq (place_of_peer x.0 from) p) 1 0
        same_take from same = ap (λ b. cond b (kept_in (x ∷ order) p q - cond (nat_eq (place_of_peer x.0 from) p) 1 0) (kept_in (x ∷ order) p q)) (eq-eqb q x.0 same)

        other_take : (from : ℕ) → (q ≢ x.0) → still_kept {C = Action} (event_at x.0 (entries.Take from)) (kept_in (x ∷ order)) p q ≡ kept_in (x ∷ order) p q
        other_take from apart = ap (λ b. cond b (kept_in (x ∷ order) p q - cond (nat_eq (place_of_peer x.0 from) p) 1 0) (kept_in (x ∷ order) p q)) (ne_eqb q x.0 apart)

        go : (e : NodeEvent) → event ≡ e → (q ≡ x.0) ⊎ (q ≢ x.0) → still_kept (event_at x.0 e) (kept_in (x ∷ order)) p q ≡ kept_in order p q
        go (entries.Take from) is (inl same) =
            same_take from same
            ∙ (ap (λ n. n - cond (nat_eq (place_of_peer x.0 from) p) 1 0) (kept_here p q same ∙ ap (λ (e : NodeEvent). cond (is_take p x.0 e) 1 0 + kept_in order p q) is)
            ∙ more (nat_eq (place_of_peer x.0 from) p) (kept_in order p q))
        go (entries.Take from) is (inr apart) = other_take from apart ∙ kept_there p q apart
        go (entries.SeeLoss from) is (inr apart) = other_take from apart ∙ kept_there p q apart
        go (entries.SeeLoss from) is (inl same) =
            same_take from same
            ∙ (ap (λ n. n - cond (nat_eq (place_of_peer x.0 from) p) 1 0) (kept_here p q same ∙ ap (λ (e : NodeEvent). cond (is_take p x.0 e) 1 0 + kept_in order p q) is)
            ∙ less (cases_eq (place_of_peer x.0 from) p))
          where
            less : (place_of_peer x.0 from ≡ p) ⊎ (place_of_peer x.0 from ≢ p) → (0 + kept_in order p q) - cond (nat_eq (place_of_peer x.0 from) p) 1 0 ≡ kept_in order p q
            less (inl peer) =
                let none : kept_in order p q ≡ 0 = subst (λ k. takes_in logs k q order ≡ 0) peer (subst (λ k. takes_in logs (place_of_peer x.0 from) k order ≡ 0) (sym same) (none_later from is)) in
                ap (λ n. (0 + n) - cond (nat_eq (place_of_peer x.0 from) p) 1 0) none ∙ (nothing (nat_eq (place_of_peer x.0 from) p) ∙ sym none)
              where
                nothing : (b : Bool) → (0 + 0) - cond b 1 0 ≡ 0
                nothing true = refl
                nothing false = refl
            less (inr apart) = ap (λ b. (0 + kept_in order p q) - cond b 1 0) (ne_eqb (place_of_peer x.0 from) p apart) ∙ omega arith
        go (entries.Command port command) is (inl same) = kept_here p q same ∙ (ap (λ (e : NodeEvent). cond (is_take p x.0 e) 1 0 + kept_in order p q) is ∙ none_more (kept_in order p q))
        go (entries.Command port command) is (inr apart) = kept_there p q apart
        go (entries.Retry op) is (inl same) = kept_here p q same ∙ (ap (λ (e : NodeEvent). cond (is_take p x.0 e) 1 0 + kept_in order p q) is ∙ none_more (kept_in order p q))
        go (entries.Retry op) is (inr apart) = kept_there p q apart

    kept_on : still_kept (event_at x.0 event) (kept_in (x ∷ order)) ≡ kept_in order
    kept_on = fun_ext (λ p. fun_ext (λ q. kept_on_at p q (cases_eq q x.0)))

    full_entry : entry_at (full x.0) x.1 ≡ turned_at x.0 event ∷ []
    full_entry =
        let seen : drop (read x.0) (seen_log (turned_at x.0) (logs x.0)) ≡ (at.entry.0, turned_at x.0 event) ∷ seen_log (turned_at x.0) at.rest =
        drop-map (λ (y : ℕ × NodeEvent). (y.0, turned_at x.0 y.1)) (read x.0) (logs x.0) ∙ ap (seen_log (turned_at x.0)) at.is in
        ap (entry_at (full x.0)) place
        ∙ entry_is (full x.0) (read x.0) (at.entry.0, turned_at x.0 event) (seen_log (turned_at x.0) at.rest ++ cond (lost x.0) ((last x.0, Stopped x.0) ∷ []) [])
        (first_of (read x.0) (seen_log (turned_at x.0) (logs x.0)) (cond (lost x.0) ((last x.0, Stopped x.0) ∷ []) []) (at.entry.0, turned_at x.0 event) (seen_log (turned_at x.0) at.rest) seen)

  -- the entry of a loss
  loss_entry : (i n : ℕ) → lost i ≡ true → n ≡ length (logs i) → entry_at (full i) n ≡ Stopped i ∷ []
  loss_entry i n is e =
      entry_is (full i) n (last i, Stopped i) []
      (behind_all n (seen_log (turned_at i) (logs i)) (cond (lost i) ((last i, Stopped i) ∷ []) []) (e ∙ sym (length-map (logs i) (λ (y : ℕ × NodeEvent). (y.0, turned_at i y.1))))
      ∙ ap (λ b. cond b ((last i, Stopped i) ∷ []) []) is)

  both_so : (a b : Bool) → (a && b) ≡ true → (a ≡ true) × (b ≡ true)
  both_so true true e = (refl, refl)
  both_so true false e = absurd (cc)
  both_so false b e = absurd (cc)

  abbrev blocks : List (ℕ × ℕ) → List (ℕ × ℕ)
  blocks order = flat_map (λ x. x ∷ loss_behind lost clocks x) order

  behind_told : (order : List (ℕ × ℕ)) (read : ℕ → ℕ) → MergesRest size clocks read order → events_told (kept_in order) (merged_logs full (blocks order)) ≡ events_behind logs lost order
  behind_told [] read merges = refl
  behind_told (x ∷ order) read merges = step (behind_told order (set_at read x.0 (x.1 + 1)) merges.2)
    where
      next : IsNext size (rest_of clocks read) x.0
      next = merges.1

      e : NodeEvent
      e = event x order read merges.0 next merges.2

      step : events_told (kept_in order) (merged_logs full (blocks order)) ≡ events_behind logs lost order → events_told (kept_in (x ∷ order)) (merged_logs full (blocks (x ∷ order))) ≡ events_behind logs lost (x ∷ order)
      step later =
          ap (λ es. events_told (kept_in (x ∷ order)) (es ++ merged_logs full (loss_behind lost clocks x ++ blocks order))) (full_entry x order read merges.0 next merges.2)
          ∙ (ap (λ kept. marked_at x.0 e ∷ events_told kept (merged_logs full (loss_behind lost clocks x ++ blocks order))) (kept_on x order read merges.0 next merges.2)
          ∙ (ap (λ es. marked_at x.0 e ∷ es) (loss (lost x.0 && nat_eq (x.1 + 1) (length (clocks x.0))) refl)
          ∙ (ap (λ n. marked_at x.0 e ∷ (cond (lost x.0 && nat_eq (x.1 + 1) n) (loss_before logs x.0 order ∷ []) [] ++ events_behind logs lost order)) (length-map (logs x.0) (λ (y : ℕ × NodeEvent). y.0))
          ∙ ap (λ es. (map (marked_at x.0) es ++ cond (lost x.0 && nat_eq (x.1 + 1) (length (logs x.0))) (loss_before logs x.0 order ∷ []) []) ++ events_behind logs lost order)
          (sym (one_entry x order read merges.0 next merges.2)))))
        where
          loss : (b : Bool) → (lost x.0 && nat_eq (x.1 + 1) (length (clocks x.0))) ≡ b
              → events_told (kept_in order) (merged_logs full (loss_behind lost clocks x ++ blocks order))
              ≡ cond (lost x.0 && nat_eq (x.1 + 1) (length (clocks x.0))) (loss_before logs x.0 order ∷ []) [] ++ events_behind logs lost order
          loss true is =
              let both = both_so (lost x.0) (nat_eq (x.1 + 1) (length (clocks x.0))) is in
              let place : x.1 + 1 ≡ length (logs x.0) = eqb-true (x.1 + 1) (length (clocks x.0)) both.1 ∙ length-map (logs x.0) (λ (y : ℕ × NodeEvent). y.0) in
              ap (λ b. events_told (kept_in order) (merged_logs full (cond b ((x.0, x.1 + 1) ∷ []) [] ++ blocks order))) is
              ∙ (ap (λ es. events_told (kept_in order) (es ++ merged_logs full (blocks order))) (loss_entry x.0 (x.1 + 1) both.0 place)
              ∙ (ap (λ es. loss_before logs x.0 order ∷ es) later ∙ ap (λ b. cond b (loss_before logs x.0 order ∷ []) [] ++ events_behind logs lost order) (sym is)))
          loss false is =
              ap (λ b. events_told (kept_in order) (merged_logs full (cond b ((x.0, x.1 + 1) ∷ []) [] ++ blocks order))) is
              ∙ (later ∙ ap (λ b. cond b (loss_before logs x.0 order ∷ []) [] ++ events_behind logs lost order) (sym is))

  -- ---- nodes that did nothing

  alone_told : (order : List (ℕ × ℕ)) (n : ℕ) (more : List (Logged Action)) → n ≤ size
      → events_told (kept_in order) (merged_logs full (losses_alone lost clocks n) ++ more) ≡ losses_first logs lost order n ++ events_told (kept_in order) more
  alone_told order zero more low = refl
  alone_told order (suc n) more low =
      ap (λ es. events_told (kept_in order) (es ++ more)) (flat_map-append (λ (y : ℕ × ℕ). entry_at (full y.0) y.1) (losses_alone lost clocks n) (loss_alone lost clocks n))
      ∙ (ap (events_told (kept_in order)) (append_assoc (merged_logs full (losses_alone lost clocks n)) (merged_logs full (loss_alone lost clocks n)) more)
      ∙ (alone_told order n (merged_logs full (loss_alone lost clocks n) ++ more) (omega (arith, low))
      ∙ (ap (λ es. losses_first logs lost order n ++ es) (one (lost n && nat_eq (length (clocks n)) 0) refl)
      ∙ (sym (append_assoc (losses_first logs lost order n) (cond (lost n && nat_eq (length (clocks n)) 0) (loss_before logs n order ∷ []) []) (events_told (kept_in order) more))
      ∙ ap (λ k. (losses_first logs lost order n ++ cond (lost n && nat_eq k 0) (loss_before logs n order ∷ []) []) ++ events_told (kept_in order) more) (length-map (logs n) (λ (y : ℕ × NodeEvent). y.0))))))
    where
      one : (b : Bool) → (lost n && nat_eq (length (clocks n)) 0) ≡ b → events_told (kept_in order) (merged_logs full (loss_alone lost clocks n) ++ more)
          ≡ cond (lost n && nat_eq (length (clocks n)) 0) (loss_before logs n order ∷ []) [] ++ events_told (kept_in order) more
      one true is =
          let both = both_so (lost n) (nat_eq (length (clocks n)) 0) is in
          let none : 0 ≡ length (logs n) = sym (eqb-true (length (clocks n)) 0 both.1) ∙ length-map (logs n) (λ (y : ℕ × NodeEvent). y.0) in
          ap (λ b. events_told (kept_in order) (merged_logs full (cond b ((n, 0) ∷ []) []) ++ more)) is
          ∙ (ap (λ es. events_told (kept_in order) ((es ++ []) ++ more)) (loss_entry n 0 both.0 none)
          ∙ ap (λ b. cond b (loss_before logs n order ∷ []) [] ++ events_told (kept_in order) more) (sym is))
      one false is =
          ap (λ b. events_told (kept_in order) (merged_logs full (cond b ((n, 0) ∷ []) []) ++ more)) is
          ∙ ap (λ b. cond b (loss_before logs n order ∷ []) [] ++ events_told (kept_in order) more) (sym is)

  pub all_told : (order : List (ℕ × ℕ)) → Merges size clocks order → events_told (λ p q. takes_in logs p q order) (merged_logs full (with_losses size lost clocks order)) ≡ losing_events size logs lost order
  all_told order merges =
      ap (events_told (kept_in order)) (flat_map-append (λ (y : ℕ × ℕ). entry_at (full y.0) y.1) (losses_alone lost clocks size) (blocks order))
      ∙ (alone_told order size (merged_logs full (blocks order)) (omega arith) ∙ ap (λ es. losses_first logs lost order size ++ es) (behind_told order (λ i. 0) merges))

  -- how many packets a node takes of another in all
  pub takes_all : (p q : ℕ) → q < size → (order : List (ℕ × ℕ)) → Merges size clocks order → takes_in logs p q order ≡ takes_of p q (map (λ x. x.1) (logs q))
  takes_all p q low order merges = takes_rest p q low order (λ i. 0) merges
