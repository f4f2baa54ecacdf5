-- The merge of logs happens where nodes are lost.
use Rattle.std.proofs.Common.{◌≡◌, ◌≢◌, ℕ, ◌+◌, ◌-◌, ◌<◌, ◌≤◌, Bool, true, false, not, ◌&&◌, ◌||◌, cond}
use Rattle.std.proofs.Common.{nat_eq, nat_le, nat_lt, map, take, drop, length, List, [], ◌∷◌, ◌++◌}
use Rattle.std.proofs.Common.{Some, None, refl, ap, sym, ◌∙◌, subst, inl, inr, ◌⊎◌, arith, zero, suc}
use Rattle.std.specs.Prelude.{option_map}
use Rattle.std.specs.List.{AllByRecursion}
use Rattle.std.proofs.lemmas.Bool.{cases_eq, eq-eqb, ne_eqb, lt-ltb, le-leb}
use Rattle.std.proofs.lemmas.List.{append-nil, append_assoc, append_cancel_left, drop-map, length-append}
use Rattle.pg_world.specs.PgStep.Machines.Places.{is_pair, set_at}
use Rattle.pg_world.specs.PgStep.Machines.Machine.{Input, Machine, Taken, Own, is_there, node_of, start_of, happens}
use Rattle.pg_world.specs.PgStep.Machines.Runs.{reported_by}
use Rattle.pg_world.specs.PgStep.Machines.Clocked.{Timed, Stamped, TimedWorld}
use Rattle.pg_world.specs.PgStep.Machines.Timely.{KeepsTime}
use Rattle.pg_world.specs.PgStep.Machines.Losing.{LosingWorld, Step, Lose, nobody_gone, each_place, can_keep, stopped, losing_happens}
use Rattle.pg_world.proofs.PgStep.Machines.Places.{set_at_here, set_at_other}
use Rattle.pg_world.proofs.PgStep.Machines.Sequences.{told_by_append}
use Rattle.pg_world.proofs.PgStep.Machines.Steps.{pair_apart}
use Rattle.pg_cluster_judges.specs.Logs.{LoggedAct, event_of, NodeLeads, sent_to, packet_from, taken_from, reports_of}
use Rattle.pg_cluster_judges.specs.Merge.{ComesFirst, IsNext, rest_of, MergesRest, Merges, clocks_of, entry_at, merged_logs}
use Rattle.pg_cluster_judges.specs.Losses.{Logged, Turned, Stopped, still_kept, events_told, turn_entry, losing_log, arriving}
use Rattle.pg_cluster_judges.specs.Losses.{AreLosingLogs, MarksNotices, LosingJoined, MarkedLeads, is_first_last, is_sight}
use Rattle.pg_cluster_judges.proofs.Acts.{pair_places, drop_next, From, later_than_first, stamped_later}
use Rattle.pg_cluster_judges.proofs.Moved.{Moved, own_moved, take_moved}

-- a first part that is taken whole
take_past : {A : Type 0} (xs ys : List A) (k : ℕ) → length xs ≤ k → take k (xs ++ ys) ≡ xs ++ take (k - length xs) ys
take_past [] ys k low = let same : k ≡ k - 0 = omega arith in ap (λ n. take n ys) same
take_past (x ∷ xs) ys zero low = absurd (omega arith)
take_past (x ∷ xs) ys (suc k) low =
    let less : length xs ≤ k = omega arith in
    let same : k - length xs ≡ suc k - length (x ∷ xs) = omega arith in
    ap (λ zs. x ∷ zs) (take_past xs ys k less) ∙ ap (λ n. x ∷ (xs ++ take n ys)) same

each_true : (n : ℕ) (test : ℕ → Bool) → ((y : ℕ) → y < n → test y ≡ true) → each_place n test ≡ true
each_true zero test h = refl
each_true (suc n) test h = ap (λ b. b && each_place n test) (h n (omega arith)) ∙ each_true n test (λ y low. h y (omega arith))

pair_is : (size i y : ℕ) → i < size → y < size → i ≢ y → is_pair size i y ≡ true
pair_is size i y li ly apart =
    ap (λ b. b && (nat_lt y size && not (nat_eq i y))) (lt-ltb i size li) ∙ (ap (λ b. b && not (nat_eq i y)) (lt-ltb y size ly) ∙ ap not (ne_eqb i y apart))

-- what comes, once a first part of it was taken
arrives_on : {A : Type 0} (b : Bool) (k : ℕ) (notice : A) (first sent taken left : List A) → (b ≡ true → length first ≤ k)
    → arriving b k notice (first ++ sent) ≡ (first ++ taken) ++ left → arriving b (k - length first) notice sent ≡ taken ++ left
arrives_on false k notice first sent taken left low e =
    append_cancel_left first sent (taken ++ left) (e ∙ append_assoc first taken left)
arrives_on true k notice first sent taken left low e =
    append_cancel_left first (take (k - length first) sent ++ notice ∷ []) (taken ++ left)
    (sym (append_assoc first (take (k - length first) sent) (notice ∷ [])) ∙ (ap (λ xs. xs ++ notice ∷ []) (sym (take_past first sent k (low refl))) ∙ (e ∙ append_assoc first taken left)))

module _ {S P C O : Type 0} (limit : ℕ) (m : Machine (Timed S) (Stamped P) C O) (keeps : KeepsTime limit m) where
  -- the clock of the end is no earlier
  end_later : (i clock : ℕ) (s t : Timed S) (acts : List (LoggedAct (Timed S) (Stamped P) C O)) → NodeLeads m i s acts t → clock ≤ s.clock → clock ≤ t.clock
  end_later i clock s t [] run low = subst (λ (u : Timed S). clock ≤ u.clock) run low
  end_later i clock s t (a ∷ acts) run low =
      let up : s.clock < a.turn.state.clock = keeps.raises i s a.input a.turn run.1 in
      end_later i clock a.turn.state t acts run.2 (omega arith)

  module _ (last : Timed S → Stamped P) (is_last : Stamped P → Bool) (notice_is : (s : Timed S) → (last s).stamp ≡ s.clock) (lost : ℕ → Bool)
      (ends : ℕ → Timed S) (left : ℕ → ℕ → List (Stamped P)) where
    -- whether the loss of a node is still to come, or was
    record Still (w : LosingWorld (Timed S) (Stamped P) O) (i : ℕ) (pending : Bool) : Type 0 where
      gone : w.gone i ≡ false
      is : pending ≡ lost i

    record Over (w : LosingWorld (Timed S) (Stamped P) O) (i : ℕ) (pending : Bool) (acts : List (LoggedAct (Timed S) (Stamped P) C O)) : Type 0 where
      gone : w.gone i ≡ true
      is : pending ≡ false
      was : lost i ≡ true
      nothing : acts ≡ []

    -- What each node has still to do leads it to its end, and perhaps it is lost then. What is on the way and still sent, of a node that
    -- is still to be lost the first of it and a last notice, is what is still taken, and what is left.
    record Ahead (w : LosingWorld (Timed S) (Stamped P) O) (acts : ℕ → List (LoggedAct (Timed S) (Stamped P) C O)) (pending : ℕ → Bool) (kept : ℕ → ℕ → ℕ) : Type 0 where
      runs : (i : ℕ) → i < m.size → NodeLeads m i (w.world.node i) (acts i) (ends i)
      losses : (i : ℕ) → i < m.size → Still w i (pending i) ⊎ Over w i (pending i) (acts i)
      few : (p q : ℕ) → p < m.size → q < m.size → p ≢ q → pending p ≡ true → kept p q ≤ length (w.world.wire p q ++ sent_to q (acts p))
      ways : (p q : ℕ) → p < m.size → q < m.size → p ≢ q
          → arriving (pending p) (kept p q) (last (ends p)) (w.world.wire p q ++ sent_to q (acts p)) ≡ taken_from p (acts q) ++ left p q

    -- ---- one turn
    module _ (w : LosingWorld (Timed S) (Stamped P) O) (v : TimedWorld S P O) (i : ℕ) (a : LoggedAct (Timed S) (Stamped P) C O) (more : List (LoggedAct (Timed S) (Stamped P) C O))
        (acts next : ℕ → List (LoggedAct (Timed S) (Stamped P) C O)) (pending : ℕ → Bool) (kept : ℕ → ℕ → ℕ)
        (here : acts i ≡ a ∷ more) (then_ : next i ≡ more) (others : (j : ℕ) → j ≢ i → next j ≡ acts j)
        (old : Ahead w acts pending kept) (moved : Moved m w.world v i a.input a.turn) (there : i < m.size)
        (enough : (p : ℕ) → p < m.size → p ≢ i → pending p ≡ true → length (packet_from p a.input) ≤ kept p i) where
      abbrev turned : LosingWorld (Timed S) (Stamped P) O
      turned = record { world = v; gone = w.gone }

      -- of what stays on a way so many are still to come
      abbrev kept_on : ℕ → ℕ → ℕ
      kept_on = still_kept (event_of i a.input) kept

      kept_here : (p q : ℕ) → q ≡ i → kept_on p q ≡ kept p i - length (packet_from p a.input)
      kept_here p q same = go a.input
        where
          one : (x : Stamped P) (b : Bool) → kept p i - cond b 1 0 ≡ kept p i - length (cond b (x ∷ []) [])
          one x true = refl
          one x false = refl

          go : (input : Input (Stamped P) C) → still_kept (event_of i input) kept p q ≡ kept p i - length (packet_from p input)
          go (Taken from x) = ap (λ b. cond b (kept p q - cond (nat_eq from p) 1 0) (kept p q)) (eq-eqb q i same)
              ∙ (ap (λ k. kept p k - cond (nat_eq from p) 1 0) same ∙ one x (nat_eq from p))
          go (Own c) = ap (kept p) same ∙ omega arith

      kept_there : (p q : ℕ) → q ≢ i → kept_on p q ≡ kept p q
      kept_there p q apart = go a.input
        where
          go : (input : Input (Stamped P) C) → still_kept (event_of i input) kept p q ≡ kept p q
          go (Taken from x) = ap (λ b. cond b (kept p q - cond (nat_eq from p) 1 0) (kept p q)) (ne_eqb q i apart)
          go (Own c) = refl

      new_runs : (j : ℕ) → j < m.size → (j ≡ i) ⊎ (j ≡ i → ⊥) → NodeLeads m j (v.node j) (next j) (ends j)
      new_runs j low (inl same) =
          let run : NodeLeads m i (w.world.node i) (a ∷ more) (ends i) = subst (λ r. NodeLeads m i (w.world.node i) r (ends i)) here (old.runs i there) in
          subst (λ k. NodeLeads m k (v.node k) (next k) (ends k)) (sym same)
          (subst (λ s. NodeLeads m i s (next i) (ends i)) (sym moved.state) (subst (λ r. NodeLeads m i a.turn.state r (ends i)) (sym then_) run.2))
      new_runs j low (inr apart) =
          subst (λ s. NodeLeads m j s (next j) (ends j)) (sym (moved.states j apart)) (subst (λ r. NodeLeads m j (w.world.node j) r (ends j)) (sym (others j apart)) (old.runs j low))

      new_losses : (j : ℕ) → (j ≡ i) ⊎ (j ≡ i → ⊥) → Still w j (pending j) ⊎ Over w j (pending j) (acts j) → Still turned j (pending j) ⊎ Over turned j (pending j) (next j)
      new_losses j place (inl still) = inl (record { gone = still.gone; is = still.is })
      new_losses j (inl same) (inr over) = let no : a ∷ more ≡ [] = sym here ∙ (ap acts (sym same) ∙ over.nothing) in absurd (cc)
      new_losses j (inr apart) (inr over) = inr (record { gone = over.gone; is = over.is; was = over.was; nothing = others j apart ∙ over.nothing })

      -- what is on the way and still sent
      out : (q : ℕ) → v.wire i q ++ sent_to q (next i) ≡ w.world.wire i q ++ sent_to q (acts i)
      out q = ap (λ xs. xs ++ sent_to q (next i)) (moved.sent q) ∙ (ap (λ r. (w.world.wire i q ++ a.turn.sends q) ++ sent_to q r) then_
          ∙ (append_assoc (w.world.wire i q) (a.turn.sends q) (sent_to q more) ∙ ap (λ r. w.world.wire i q ++ sent_to q r) (sym here)))

      into : (p : ℕ) → p ≢ i → w.world.wire p i ++ sent_to i (acts p) ≡ packet_from p a.input ++ (v.wire p i ++ sent_to i (next p))
      into p apart = ap (λ xs. xs ++ sent_to i (acts p)) (moved.taken p apart) ∙ (append_assoc (packet_from p a.input) (v.wire p i) (sent_to i (acts p))
          ∙ ap (λ r. packet_from p a.input ++ (v.wire p i ++ sent_to i r)) (sym (others p apart)))

      past : (p q : ℕ) → p ≢ i → q ≢ i → v.wire p q ++ sent_to q (next p) ≡ w.world.wire p q ++ sent_to q (acts p)
      past p q np nq = ap (λ xs. xs ++ sent_to q (next p)) (moved.ways p q np nq) ∙ ap (λ r. w.world.wire p q ++ sent_to q r) (others p np)

      new_few : (p q : ℕ) → p < m.size → q < m.size → p ≢ q → pending p ≡ true → (p ≡ i) ⊎ (p ≡ i → ⊥) → (q ≡ i) ⊎ (q ≡ i → ⊥)
          → kept_on p q ≤ length (v.wire p q ++ sent_to q (next p))
      new_few p q lp lq apart is (inl same) other =
          let nq : q ≢ i = λ e. apart (same ∙ sym e) in
          subst (λ k. k ≤ length (v.wire p q ++ sent_to q (next p))) (sym (kept_there p q nq))
          (subst (λ xs. kept p q ≤ length xs) (sym (ap (λ k. v.wire k q ++ sent_to q (next k)) same ∙ (out q ∙ ap (λ k. w.world.wire k q ++ sent_to q (acts k)) (sym same)))) (old.few p q lp lq apart is))
      new_few p q lp lq apart is (inr np) (inl same) =
          let before : kept p i ≤ length (packet_from p a.input ++ (v.wire p i ++ sent_to i (next p))) = subst (λ xs. kept p i ≤ length xs) (into p np) (old.few p i lp there np is) in
          let long : length (packet_from p a.input ++ (v.wire p i ++ sent_to i (next p))) ≡ length (packet_from p a.input) + length (v.wire p i ++ sent_to i (next p)) =
          length-append (packet_from p a.input) (v.wire p i ++ sent_to i (next p)) in
          let low : kept p i - length (packet_from p a.input) ≤ length (v.wire p i ++ sent_to i (next p)) = omega arith in
          subst (λ k. k ≤ length (v.wire p q ++ sent_to q (next p))) (sym (kept_here p q same))
          (subst (λ j. kept p i - length (packet_from p a.input) ≤ length (v.wire p j ++ sent_to j (next p))) (sym same) low)
      new_few p q lp lq apart is (inr np) (inr nq) =
          subst (λ k. k ≤ length (v.wire p q ++ sent_to q (next p))) (sym (kept_there p q nq))
          (subst (λ xs. kept p q ≤ length xs) (sym (past p q np nq)) (old.few p q lp lq apart is))

      new_ways : (p q : ℕ) → p < m.size → q < m.size → p ≢ q → (p ≡ i) ⊎ (p ≡ i → ⊥) → (q ≡ i) ⊎ (q ≡ i → ⊥)
          → arriving (pending p) (kept_on p q) (last (ends p)) (v.wire p q ++ sent_to q (next p)) ≡ taken_from p (next q) ++ left p q
      new_ways p q lp lq apart (inl same) other =
          let nq : q ≢ i = λ e. apart (same ∙ sym e) in
          ap (λ k. arriving (pending p) k (last (ends p)) (v.wire p q ++ sent_to q (next p))) (kept_there p q nq)
          ∙ (ap (arriving (pending p) (kept p q) (last (ends p))) (ap (λ k. v.wire k q ++ sent_to q (next k)) same ∙ (out q ∙ ap (λ k. w.world.wire k q ++ sent_to q (acts k)) (sym same)))
          ∙ (old.ways p q lp lq apart ∙ ap (λ r. taken_from p r ++ left p q) (sym (others q nq))))
      new_ways p q lp lq apart (inr np) (inl same) =
          let before : arriving (pending p) (kept p i) (last (ends p)) (packet_from p a.input ++ (v.wire p i ++ sent_to i (next p))) ≡ (packet_from p a.input ++ taken_from p more) ++ left p i =
          ap (arriving (pending p) (kept p i) (last (ends p))) (sym (into p np)) ∙ (old.ways p i lp there np ∙ ap (λ r. taken_from p r ++ left p i) here) in
          let now : arriving (pending p) (kept p i - length (packet_from p a.input)) (last (ends p)) (v.wire p i ++ sent_to i (next p)) ≡ taken_from p more ++ left p i =
          arrives_on (pending p) (kept p i) (last (ends p)) (packet_from p a.input) (v.wire p i ++ sent_to i (next p)) (taken_from p more) (left p i) (enough p lp np) before in
          ap (λ k. arriving (pending p) k (last (ends p)) (v.wire p q ++ sent_to q (next p))) (kept_here p q same)
          ∙ subst (λ j. arriving (pending p) (kept p i - length (packet_from p a.input)) (last (ends p)) (v.wire p j ++ sent_to j (next p)) ≡ taken_from p (next j) ++ left p j) (sym same)
          (now ∙ ap (λ r. taken_from p r ++ left p i) (sym then_))
      new_ways p q lp lq apart (inr np) (inr nq) =
          ap (λ k. arriving (pending p) k (last (ends p)) (v.wire p q ++ sent_to q (next p))) (kept_there p q nq)
          ∙ (ap (arriving (pending p) (kept p q) (last (ends p))) (past p q np nq)
          ∙ (old.ways p q lp lq apart ∙ ap (λ r. taken_from p r ++ left p q) (sym (others q nq))))

      turn_ahead : Ahead turned next pending kept_on
      turn_ahead = record {
        runs = λ j low. new_runs j low (cases_eq j i);
        losses = λ j low. new_losses j (cases_eq j i) (old.losses j low);
        few = λ p q lp lq apart is. new_few p q lp lq apart is (cases_eq p i) (cases_eq q i);
        ways = λ p q lp lq apart. new_ways p q lp lq apart (cases_eq p i) (cases_eq q i);
      }

    -- ---- the turn happens
    record Happens (w : LosingWorld (Timed S) (Stamped P) O) (i : ℕ) (a : LoggedAct (Timed S) (Stamped P) C O) (pending : ℕ → Bool) (kept : ℕ → ℕ → ℕ) : Type 0 where
      world : TimedWorld S P O
      moved : Moved m w.world world i a.input a.turn
      enough : (p : ℕ) → p < m.size → p ≢ i → pending p ≡ true → length (packet_from p a.input) ≤ kept p i

    module _ (w : LosingWorld (Timed S) (Stamped P) O) (i : ℕ) (acts : ℕ → List (LoggedAct (Timed S) (Stamped P) C O)) (pending : ℕ → Bool) (kept : ℕ → ℕ → ℕ)
        (old : Ahead w acts pending kept) (there : i < m.size) (a : LoggedAct (Timed S) (Stamped P) C O) (more : List (LoggedAct (Timed S) (Stamped P) C O)) (here : acts i ≡ a ∷ more)
        (first : (p : ℕ) → p < m.size → From limit m keeps a.turn.state.clock (acts p))
        (first_loss : (p : ℕ) → p < m.size → pending p ≡ true → a.turn.state.clock ≤ (ends p).clock) where
      run : NodeLeads m i (w.world.node i) (a ∷ more) (ends i)
      run = subst (λ r. NodeLeads m i (w.world.node i) r (ends i)) here (old.runs i there)

      module _ (p : ℕ) (x : Stamped P) (is : a.input ≡ Taken p x) (low : p < m.size) (apart : p ≢ i) where
        early : x.stamp < a.turn.state.clock
        early = keeps.taken i (w.world.node i) p x a.turn (ap (m.step i (w.world.node i)) (sym is) ∙ run.1)

        -- it is no packet that is still to be sent
        not_sent : (xs : List (Stamped P)) → sent_to i (acts p) ≡ x ∷ xs → ⊥
        not_sent xs e =
            let late : a.turn.state.clock ≤ x.stamp = (subst (AllByRecursion (λ (y : Stamped P). a.turn.state.clock ≤ y.stamp)) e
            (stamped_later limit m keeps p i a.turn.state.clock (w.world.node p) (ends p) (acts p) (old.runs p low) (first p low))).0 in
            let soon : x.stamp < a.turn.state.clock = early in
            omega arith

        -- nor the notice of a loss that is still to come
        not_notice : pending p ≡ true → last (ends p) ≡ x → ⊥
        not_notice still e =
            let late : a.turn.state.clock ≤ (ends p).clock = first_loss p low still in
            let stamp : x.stamp ≡ (ends p).clock = ap (λ (y : Stamped P). y.stamp) (sym e) ∙ notice_is (ends p) in
            let soon : x.stamp < a.turn.state.clock = early in
            omega arith

        taken : taken_from p (acts i) ≡ x ∷ taken_from p more
        taken = ap (taken_from p) here ∙ (ap (λ y. packet_from p y ++ taken_from p more) is ∙ ap (λ b. cond b (x ∷ []) [] ++ taken_from p more) (eq-eqb p p refl))

        comes : arriving (pending p) (kept p i) (last (ends p)) (w.world.wire p i ++ sent_to i (acts p)) ≡ x ∷ (taken_from p more ++ left p i)
        comes = old.ways p i low there apart ∙ ap (λ ys. ys ++ left p i) taken

        abbrev OnTheWay : Type 0
        OnTheWay = ((xs : List (Stamped P)) × (w.world.wire p i ≡ x ∷ xs)) × (pending p ≡ true → 1 ≤ kept p i)

        on_the_way : OnTheWay
        on_the_way = go (pending p) refl (w.world.wire p i) refl (kept p i) refl
            (subst (λ ys. arriving (pending p) (kept p i) (last (ends p)) ys ≡ x ∷ (taken_from p more ++ left p i)) refl comes)
          where
            go : (b : Bool) → pending p ≡ b → (ys : List (Stamped P)) → w.world.wire p i ≡ ys → (k : ℕ) → kept p i ≡ k
                → arriving (pending p) (kept p i) (last (ends p)) (w.world.wire p i ++ sent_to i (acts p)) ≡ x ∷ (taken_from p more ++ left p i)
                → ((xs : List (Stamped P)) × (w.world.wire p i ≡ x ∷ xs)) × (pending p ≡ true → 1 ≤ kept p i)
            go false is_b (y ∷ ys) is_w k is_k e =
                let all : y ∷ (ys ++ sent_to i (acts p)) ≡ x ∷ (taken_from p more ++ left p i) =
                sym (ap (λ b. arriving b (kept p i) (last (ends p)) (w.world.wire p i ++ sent_to i (acts p))) is_b ∙ ap (λ zs. zs ++ sent_to i (acts p)) is_w) ∙ e in
                let same : y ≡ x = cc in
                ((ys, is_w ∙ ap (λ z. z ∷ ys) same), λ t. let no : false ≡ true = sym is_b ∙ t in absurd (cc))
            go false is_b [] is_w k is_k e =
                let all : sent_to i (acts p) ≡ x ∷ (taken_from p more ++ left p i) =
                sym (ap (λ b. arriving b (kept p i) (last (ends p)) (w.world.wire p i ++ sent_to i (acts p))) is_b ∙ ap (λ zs. zs ++ sent_to i (acts p)) is_w) ∙ e in
                absurd (not_sent (taken_from p more ++ left p i) all)
            go true is_b ys is_w zero is_k e =
                let all : last (ends p) ∷ [] ≡ x ∷ (taken_from p more ++ left p i) =
                sym (ap (λ b. arriving b (kept p i) (last (ends p)) (w.world.wire p i ++ sent_to i (acts p))) is_b ∙ ap (λ n. take n (w.world.wire p i ++ sent_to i (acts p)) ++ last (ends p) ∷ []) is_k) ∙ e in
                let same : last (ends p) ≡ x = cc in
                absurd (not_notice is_b same)
            go true is_b (y ∷ ys) is_w (suc k) is_k e =
                let all : y ∷ (take k (ys ++ sent_to i (acts p)) ++ last (ends p) ∷ []) ≡ x ∷ (taken_from p more ++ left p i) =
                sym (ap (λ b. arriving b (kept p i) (last (ends p)) (w.world.wire p i ++ sent_to i (acts p))) is_b
                ∙ (ap (λ n. take n (w.world.wire p i ++ sent_to i (acts p)) ++ last (ends p) ∷ []) is_k ∙ ap (λ zs. take (suc k) (zs ++ sent_to i (acts p)) ++ last (ends p) ∷ []) is_w)) ∙ e in
                let same : y ≡ x = cc in
                ((ys, is_w ∙ ap (λ z. z ∷ ys) same), λ t. omega (arith, is_k))
            go true is_b [] is_w (suc k) is_k e =
                let all : take (suc k) (sent_to i (acts p)) ++ last (ends p) ∷ [] ≡ x ∷ (taken_from p more ++ left p i) =
                sym (ap (λ b. arriving b (kept p i) (last (ends p)) (w.world.wire p i ++ sent_to i (acts p))) is_b
                ∙ (ap (λ n. take n (w.world.wire p i ++ sent_to i (acts p)) ++ last (ends p) ∷ []) is_k ∙ ap (λ zs. take (suc k) (zs ++ sent_to i (acts p)) ++ last (ends p) ∷ []) is_w)) ∙ e in
                absurd (sent (sent_to i (acts p)) refl all)
              where
                sent : (zs : List (Stamped P)) → sent_to i (acts p) ≡ zs → take (suc k) (sent_to i (acts p)) ++ last (ends p) ∷ [] ≡ x ∷ (taken_from p more ++ left p i) → ⊥
                sent [] d all =
                    let one : last (ends p) ∷ [] ≡ x ∷ (taken_from p more ++ left p i) = ap (λ zs. take (suc k) zs ++ last (ends p) ∷ []) (sym d) ∙ all in
                    let same : last (ends p) ≡ x = cc in
                    not_notice is_b same
                sent (z ∷ zs) d all =
                    let one : z ∷ (take k zs ++ last (ends p) ∷ []) ≡ x ∷ (taken_from p more ++ left p i) = ap (λ zs. take (suc k) zs ++ last (ends p) ∷ []) (sym d) ∙ all in
                    let same : z ≡ x = cc in
                    not_sent zs (d ∙ ap (λ y. y ∷ zs) same)

      happens_now : (y : Input (Stamped P) C) → a.input ≡ y → (v : TimedWorld S P O) × Moved m w.world v i y a.turn × ((p : ℕ) → p < m.size → p ≢ i → pending p ≡ true → length (packet_from p y) ≤ kept p i)
      happens_now (Own c) is =
          (_, own_moved m w.world i c a.turn (ap (λ y. is_there m.size (event_of i y)) (sym is) ∙ run.0) (ap (m.step i (w.world.node i)) (sym is) ∙ run.1), λ p low apart still. omega arith)
      happens_now (Taken q x) is =
          let pair = ap (λ y. is_there m.size (event_of i y)) (sym is) ∙ run.0 in
          let way = found q x is ((pair_places m.size i q pair).1) (λ same. pair_apart m.size i q pair (sym same)) in
          (_, take_moved m w.world i q x way.0.0 a.turn pair (ap (m.step i (w.world.node i)) (sym is) ∙ run.1) way.0.1, λ p low apart still. enough p still way.1 (cases_eq q p))
        where
          found : (q : ℕ) (x : Stamped P) → a.input ≡ Taken q x → q < m.size → q ≢ i → ((xs : List (Stamped P)) × (w.world.wire q i ≡ x ∷ xs)) × (pending q ≡ true → 1 ≤ kept q i)
          found q x is low apart = on_the_way q x is low apart

          enough : (p : ℕ) → pending p ≡ true → (pending q ≡ true → 1 ≤ kept q i) → (q ≡ p) ⊎ (q ≡ p → ⊥) → length (packet_from {C = C} p (Taken q x)) ≤ kept p i
          enough p still one (inl same) =
              subst (λ b. length (cond b (x ∷ []) []) ≤ kept p i) (sym (eq-eqb q p same)) (subst (λ k. 1 ≤ kept k i) same (one (ap pending same ∙ still)))
          enough p still one (inr other) = subst (λ b. length (cond b (x ∷ []) []) ≤ kept p i) (sym (ne_eqb q p other)) (omega arith)

      happens_next : Happens w i a pending kept
      happens_next = let h = happens_now a.input refl in record { world = h.0; moved = h.1; enough = h.2 }

      whose : (input : Input (Stamped P) C) → node_of (event_of {P = Stamped P} {C = C} i input) ≡ i
      whose (Taken p x) = refl
      whose (Own c) = refl

      not_gone : Still w i (pending i) ⊎ Over w i (pending i) (acts i) → w.gone i ≡ false
      not_gone (inl still) = still.gone
      not_gone (inr over) = let no : a ∷ more ≡ [] = sym here ∙ over.nothing in absurd (cc)

      turn_happens : (v : TimedWorld S P O) → Moved m w.world v i a.input a.turn
          → losing_happens m last w (Step (event_of i a.input)) ≡ Some (record { world = v; gone = w.gone })
      unfolding losing_happens
      turn_happens v moved =
          ap (λ b. cond b None (option_map (λ (u : TimedWorld S P O). record { world = u; gone = w.gone }) (happens m w.world (event_of i a.input)))) (ap w.gone (whose a.input) ∙ not_gone (old.losses i there))
          ∙ ap (option_map (λ (u : TimedWorld S P O). record { world = u; gone = w.gone })) moved.happens_

    -- ---- the loss happens
    module _ (w : LosingWorld (Timed S) (Stamped P) O) (i : ℕ) (acts : ℕ → List (LoggedAct (Timed S) (Stamped P) C O)) (pending : ℕ → Bool) (kept : ℕ → ℕ → ℕ)
        (old : Ahead w acts pending kept) (there : i < m.size) (here : acts i ≡ []) (is : pending i ≡ true) where
      abbrev lost_world : LosingWorld (Timed S) (Stamped P) O
      lost_world = record { world = stopped m.size last w.world i (kept i); gone = set_at w.gone i true }

      abbrev pending_on : ℕ → Bool
      pending_on = set_at pending i false

      at_end : w.world.node i ≡ ends i
      at_end = subst (λ r. NodeLeads m i (w.world.node i) r (ends i)) here (old.runs i there)

      still_here : Still w i (pending i) ⊎ Over w i (pending i) (acts i) → (w.gone i ≡ false) × (lost i ≡ true)
      still_here (inl still) = (still.gone, sym still.is ∙ is)
      still_here (inr over) = let no : true ≡ false = sym is ∙ over.is in absurd (cc)

      -- nothing is still sent
      way : (q : ℕ) → w.world.wire i q ++ sent_to q (acts i) ≡ w.world.wire i q
      way q = ap (λ r. w.world.wire i q ++ sent_to q r) here ∙ append-nil (w.world.wire i q)

      few_here : (q : ℕ) → q < m.size → i ≢ q → kept i q ≤ length (w.world.wire i q)
      few_here q low apart = subst (λ xs. kept i q ≤ length xs) (way q) (old.few i q there low apart is)

      can : can_keep m.size w.world i (kept i) ≡ true
      can = each_true m.size (λ y. not (is_pair m.size i y) || nat_le (kept i y) (length (w.world.wire i y))) (λ y low. go y low (cases_eq i y))
        where
          go : (y : ℕ) → y < m.size → (i ≡ y) ⊎ (i ≡ y → ⊥) → (not (is_pair m.size i y) || nat_le (kept i y) (length (w.world.wire i y))) ≡ true
          go y low (inl same) = ap (λ b. not b || nat_le (kept i y) (length (w.world.wire i y))) (not_pair y low same)
            where
              not_pair : (y : ℕ) → y < m.size → i ≡ y → is_pair m.size i y ≡ false
              not_pair y low same = ap (λ b. b && (nat_lt y m.size && not (nat_eq i y))) (lt-ltb i m.size there) ∙ (ap (λ b. b && not (nat_eq i y)) (lt-ltb y m.size low) ∙ ap not (eq-eqb i y same))
          go y low (inr apart) = ap (λ b. not b || nat_le (kept i y) (length (w.world.wire i y))) (pair_is m.size i y there low apart)
              ∙ le-leb (kept i y) (length (w.world.wire i y)) (few_here y low apart)

      loss_happens : losing_happens m last w (Lose i (kept i)) ≡ Some lost_world
      unfolding losing_happens
      loss_happens =
          ap (λ b. cond b (Some lost_world) None)
          (ap (λ b. b && (not (w.gone i) && can_keep m.size w.world i (kept i))) (lt-ltb i m.size there)
          ∙ (ap (λ b. not b && can_keep m.size w.world i (kept i)) ((still_here (old.losses i there)).0) ∙ can))

      abbrev row : ℕ → List (Stamped P)
      row y = cond (is_pair m.size i y) (take (kept i y) (w.world.wire i y) ++ last (w.world.node i) ∷ []) (w.world.wire i y)

      cut : (q : ℕ) → q < m.size → i ≢ q → lost_world.world.wire i q ≡ take (kept i q) (w.world.wire i q) ++ last (ends i) ∷ []
      cut q low apart =
          ap (λ (f : ℕ → List (Stamped P)). f q) (set_at_here {A = ℕ → List (Stamped P)} w.world.wire i row i refl)
          ∙ (ap (λ b. cond b (take (kept i q) (w.world.wire i q) ++ last (w.world.node i) ∷ []) (w.world.wire i q)) (pair_is m.size i q there low apart)
          ∙ ap (λ s. take (kept i q) (w.world.wire i q) ++ last s ∷ []) at_end)

      uncut : (p q : ℕ) → p ≢ i → lost_world.world.wire p q ≡ w.world.wire p q
      uncut p q apart = ap (λ (f : ℕ → List (Stamped P)). f q) (set_at_other {A = ℕ → List (Stamped P)} w.world.wire i row p apart)

      loss_losses : (j : ℕ) → j < m.size → (j ≡ i) ⊎ (j ≡ i → ⊥) → Still lost_world j (pending_on j) ⊎ Over lost_world j (pending_on j) (acts j)
      loss_losses j low (inl same) = inr (record {
        gone = set_at_here w.gone i true j same;
        is = set_at_here pending i false j same;
        was = ap lost same ∙ (still_here (old.losses i there)).1;
        nothing = ap acts same ∙ here;
      })
      loss_losses j low (inr apart) = go (old.losses j low)
        where
          go : Still w j (pending j) ⊎ Over w j (pending j) (acts j) → Still lost_world j (pending_on j) ⊎ Over lost_world j (pending_on j) (acts j)
          go (inl still) = inl (record { gone = set_at_other w.gone i true j apart ∙ still.gone; is = set_at_other pending i false j apart ∙ still.is })
          go (inr over) = inr (record { gone = set_at_other w.gone i true j apart ∙ over.gone; is = set_at_other pending i false j apart ∙ over.is; was = over.was; nothing = over.nothing })

      loss_few : (p q : ℕ) → p < m.size → q < m.size → p ≢ q → (p ≡ i) ⊎ (p ≡ i → ⊥) → pending_on p ≡ true → kept p q ≤ length (lost_world.world.wire p q ++ sent_to q (acts p))
      loss_few p q lp lq apart (inl same) still = let no : false ≡ true = sym (set_at_here pending i false p same) ∙ still in absurd (cc)
      loss_few p q lp lq apart (inr np) still =
          subst (λ xs. kept p q ≤ length (xs ++ sent_to q (acts p))) (sym (uncut p q np)) (old.few p q lp lq apart (sym (set_at_other pending i false p np) ∙ still))

      loss_ways : (p q : ℕ) → p < m.size → q < m.size → p ≢ q → (p ≡ i) ⊎ (p ≡ i → ⊥)
          → arriving (pending_on p) (kept p q) (last (ends p)) (lost_world.world.wire p q ++ sent_to q (acts p)) ≡ taken_from p (acts q) ++ left p q
      loss_ways p q lp lq apart (inl same) =
          let ni : i ≢ q = λ e. apart (same ∙ e) in
          subst (λ k. arriving (pending_on k) (kept k q) (last (ends k)) (lost_world.world.wire k q ++ sent_to q (acts k)) ≡ taken_from k (acts q) ++ left k q) (sym same)
          (ap (λ b. arriving b (kept i q) (last (ends i)) (lost_world.world.wire i q ++ sent_to q (acts i))) (set_at_here pending i false i refl)
          ∙ (ap (λ r. lost_world.world.wire i q ++ sent_to q r) here
          ∙ (append-nil (lost_world.world.wire i q)
          ∙ (cut q lq ni
          ∙ (ap (λ xs. take (kept i q) xs ++ last (ends i) ∷ []) (sym (way q))
          ∙ (ap (λ b. arriving b (kept i q) (last (ends i)) (w.world.wire i q ++ sent_to q (acts i))) (sym is)
          ∙ old.ways i q there lq ni))))))
      loss_ways p q lp lq apart (inr np) =
          ap (λ b. arriving b (kept p q) (last (ends p)) (lost_world.world.wire p q ++ sent_to q (acts p))) (set_at_other pending i false p np)
          ∙ (ap (λ xs. arriving (pending p) (kept p q) (last (ends p)) (xs ++ sent_to q (acts p))) (uncut p q np) ∙ old.ways p q lp lq apart)

      loss_ahead : Ahead lost_world acts pending_on kept
      loss_ahead = record {
        runs = old.runs;
        losses = λ j low. loss_losses j low (cases_eq j i);
        few = λ p q lp lq apart. loss_few p q lp lq apart (cases_eq p i);
        ways = λ p q lp lq apart. loss_ways p q lp lq apart (cases_eq p i);
      }

    -- ---- the rest of the merge
    record Reached (w : LosingWorld (Timed S) (Stamped P) O) (acts : ℕ → List (LoggedAct (Timed S) (Stamped P) C O)) (kept : ℕ → ℕ → ℕ) (entries : List (Logged C)) : Type 0 where
      world : LosingWorld (Timed S) (Stamped P) O
      leads : MarkedLeads m last is_last w (events_told kept entries) world
      gone : (i : ℕ) → i < m.size → world.gone i ≡ lost i
      nodes : (i : ℕ) → i < m.size → world.world.node i ≡ ends i
      ways : (p q : ℕ) → p < m.size → q < m.size → p ≢ q → world.world.wire p q ≡ left p q
      reported : (i : ℕ) → i < m.size → reported_by i world.world.reported ≡ reported_by i w.world.reported ++ reports_of (acts i)

    reached_nothing : (w : LosingWorld (Timed S) (Stamped P) O) (acts : ℕ → List (LoggedAct (Timed S) (Stamped P) C O)) (pending : ℕ → Bool) (kept : ℕ → ℕ → ℕ) → Ahead w acts pending kept
        → ((i : ℕ) → i < m.size → acts i ≡ []) → ((i : ℕ) → i < m.size → pending i ≡ false) → Reached w acts kept []
    reached_nothing w acts pending kept old none no_loss = record {
      world = w;
      leads = refl;
      gone = λ i low. gone i low (old.losses i low);
      nodes = λ i low. subst (λ r. NodeLeads m i (w.world.node i) r (ends i)) (none i low) (old.runs i low);
      ways = λ p q lp lq apart. sym (append-nil (w.world.wire p q)) ∙ (ap (λ r. w.world.wire p q ++ sent_to q r) (sym (none p lp))
          ∙ (ap (λ b. arriving b (kept p q) (last (ends p)) (w.world.wire p q ++ sent_to q (acts p))) (sym (no_loss p lp))
          ∙ (old.ways p q lp lq apart ∙ ap (λ r. taken_from p r ++ left p q) (none q lq))));
      reported = λ i low. sym (append-nil (reported_by i w.world.reported)) ∙ ap (λ r. reported_by i w.world.reported ++ reports_of r) (sym (none i low));
    }
      where
        gone : (i : ℕ) → i < m.size → Still w i (pending i) ⊎ Over w i (pending i) (acts i) → w.gone i ≡ lost i
        gone i low (inl still) = still.gone ∙ (sym (no_loss i low) ∙ still.is)
        gone i low (inr over) = over.gone ∙ sym over.was

    -- one more turn before them
    module _ (w : LosingWorld (Timed S) (Stamped P) O) (v : TimedWorld S P O) (i : ℕ) (a : LoggedAct (Timed S) (Stamped P) C O) (more : List (LoggedAct (Timed S) (Stamped P) C O))
        (acts next : ℕ → List (LoggedAct (Timed S) (Stamped P) C O)) (here : acts i ≡ a ∷ more) (then_ : next i ≡ more) (others : (j : ℕ) → j ≢ i → next j ≡ acts j)
        (moved : Moved m w.world v i a.input a.turn) (does : losing_happens m last w (Step (event_of i a.input)) ≡ Some (record { world = v; gone = w.gone }))
        (there : is_there m.size (event_of i a.input) ≡ true) (kept : ℕ → ℕ → ℕ) (entries : List (Logged C)) (after : Reached (record { world = v; gone = w.gone }) next (still_kept (event_of i a.input) kept) entries) where
      reports : (j : ℕ) → reported_by j v.reported ≡ reported_by j w.world.reported ++ cond (nat_eq i j) (a.turn.reported ∷ []) []
      reports j = ap (reported_by j) moved.reported ∙ told_by_append j w.world.reported ((i, a.turn.reported) ∷ [])

      new_reports : (j : ℕ) → (j ≡ i) ⊎ (j ≡ i → ⊥) → cond (nat_eq i j) (a.turn.reported ∷ []) [] ++ reports_of (next j) ≡ reports_of (acts j)
      new_reports j (inl same) =
          ap (λ b. cond b (a.turn.reported ∷ []) [] ++ reports_of (next j)) (eq-eqb i j (sym same))
          ∙ (ap (λ k. a.turn.reported ∷ reports_of (next k)) same ∙ (ap (λ r. a.turn.reported ∷ reports_of r) then_
          ∙ (ap reports_of (sym here) ∙ ap (λ k. reports_of (acts k)) (sym same))))
      new_reports j (inr apart) =
          ap (λ b. cond b (a.turn.reported ∷ []) [] ++ reports_of (next j)) (ne_eqb i j (λ e. apart (sym e))) ∙ ap reports_of (others j apart)

      -- it takes a last notice where that was given
      marked : (input : Input (Stamped P) C) → is_there m.size (event_of i input) ≡ true → ((p : ℕ) → p ≢ i → w.world.wire p i ≡ packet_from p input ++ v.wire p i)
          → MarksNotices is_last w.world (Step (event_of i input)) (is_sight is_last input)
      marked (Own c) pair way = refl
      marked (Taken p x) pair way =
          sym (ap (is_first_last is_last) (way p (λ same. pair_apart m.size i p pair (sym same)) ∙ ap (λ b. cond b (x ∷ []) [] ++ v.wire p i) (eq-eqb p p refl)))

      reached_turn : Reached w acts kept (Turned (event_of i a.input) (is_sight is_last a.input) ∷ entries)
      reached_turn = record {
        world = after.world;
        leads = (record { world = v; gone = w.gone }, does, marked a.input there moved.taken, after.leads);
        gone = after.gone;
        nodes = after.nodes;
        ways = after.ways;
        reported = λ j low. after.reported j low ∙ (ap (λ xs. xs ++ reports_of (next j)) (reports j)
            ∙ (append_assoc (reported_by j w.world.reported) (cond (nat_eq i j) (a.turn.reported ∷ []) []) (reports_of (next j))
            ∙ ap (λ xs. reported_by j w.world.reported ++ xs) (new_reports j (cases_eq j i))));
      }

    -- one more loss
    reached_loss : (w u : LosingWorld (Timed S) (Stamped P) O) (i : ℕ) (kept : ℕ → ℕ → ℕ) (acts : ℕ → List (LoggedAct (Timed S) (Stamped P) C O)) (entries : List (Logged C))
        → losing_happens m last w (Lose i (kept i)) ≡ Some u → u.world.reported ≡ w.world.reported → Reached u acts kept entries → Reached w acts kept (Stopped i ∷ entries)
    reached_loss w u i kept acts entries does same after = record {
      world = after.world;
      leads = (u, does, refl, after.leads);
      gone = after.gone;
      nodes = after.nodes;
      ways = after.ways;
      reported = λ j low. after.reported j low ∙ ap (λ ts. reported_by j ts ++ reports_of (acts j)) same;
    }

    clocks_cut : (log : List (ℕ × Logged C)) (n : ℕ) → drop n (clocks_of log) ≡ clocks_of (drop n log)
    clocks_cut log n = drop-map (λ (x : ℕ × Logged C). x.0) n log

    module _ (logs : ℕ → List (ℕ × Logged C)) where
      abbrev clocks : ℕ → List ℕ
      clocks i = clocks_of (logs i)

      -- so far the logs were read as far as their nodes are
      record Read (read : ℕ → ℕ) (acts : ℕ → List (LoggedAct (Timed S) (Stamped P) C O)) (pending : ℕ → Bool) : Type 0 where
        rest : (i : ℕ) → i < m.size → drop (read i) (logs i) ≡ losing_log is_last i (pending i) (ends i) (acts i)

      seen : (read : ℕ → ℕ) (acts : ℕ → List (LoggedAct (Timed S) (Stamped P) C O)) (pending : ℕ → Bool) → Read read acts pending → (i : ℕ) → i < m.size
          → rest_of clocks read i ≡ clocks_of (losing_log is_last i (pending i) (ends i) (acts i))
      seen read acts pending far i low = clocks_cut (logs i) (read i) ∙ ap (λ (log : List (ℕ × Logged C)). clocks_of log) (far.rest i low)

      -- the merge goes on with this entry
      entry : (i n place : ℕ) → place ≡ n → (x : ℕ × Logged C) (xs : List (ℕ × Logged C)) → drop n (logs i) ≡ x ∷ xs → entry_at (logs i) place ≡ x.1 ∷ []
      entry i n place same x xs is = ap (entry_at (logs i)) same ∙ ap (λ (ys : List (ℕ × Logged C)). map (λ (y : ℕ × Logged C). y.1) (take 1 ys)) is

      read_on : (read : ℕ → ℕ) (i place : ℕ) → place ≡ read i → (x : ℕ × Logged C) (xs : List (ℕ × Logged C)) → drop (read i) (logs i) ≡ x ∷ xs
          → drop (set_at read i (place + 1) i) (logs i) ≡ xs
      read_on read i place same x xs is =
          ap (λ n. drop n (logs i)) (set_at_here read i (place + 1) i refl ∙ ap (λ n. n + 1) same) ∙ drop_next (read i) (logs i) x xs is

      not_read : (read : ℕ → ℕ) (i place j : ℕ) → j ≢ i → drop (set_at read i (place + 1) j) (logs j) ≡ drop (read j) (logs j)
      not_read read i place j apart = ap (λ n. drop n (logs j)) (set_at_other read i (place + 1) j apart)

      -- no turn and no loss that is still to come has an earlier clock
      module _ (read : ℕ → ℕ) (w : LosingWorld (Timed S) (Stamped P) O) (acts : ℕ → List (LoggedAct (Timed S) (Stamped P) C O)) (pending : ℕ → Bool) (kept : ℕ → ℕ → ℕ)
          (old : Ahead w acts pending kept) (far : Read read acts pending) (i : ℕ) (next : IsNext m.size (rest_of clocks read) i) where
        earliest : (p : ℕ) → p < m.size → From limit m keeps next.clock (acts p) × (pending p ≡ true → next.clock ≤ (ends p).clock)
        earliest p low = go (acts p) refl (pending p) refl
          where
            go : (r : List (LoggedAct (Timed S) (Stamped P) C O)) → acts p ≡ r → (b : Bool) → pending p ≡ b → From limit m keeps next.clock r × (pending p ≡ true → next.clock ≤ (ends p).clock)
            go [] is false is_b = (tt, λ t. let no : false ≡ true = sym is_b ∙ t in absurd (cc))
            go [] is true is_b =
                let o : ComesFirst next.clock i (ends p).clock p = next.first p (ends p).clock [] low
                (seen read acts pending far p low ∙ (ap (λ b. clocks_of (losing_log is_last p b (ends p) (acts p))) is_b ∙ ap (λ r. clocks_of (losing_log is_last p true (ends p) r)) is)) in
                (tt, λ t. o.clocks)
            go (a ∷ more) is b is_b =
                let o : ComesFirst next.clock i a.turn.state.clock p = next.first p a.turn.state.clock (clocks_of (losing_log is_last p (pending p) (ends p) more)) low
                (seen read acts pending far p low ∙ ap (λ r. clocks_of (losing_log is_last p (pending p) (ends p) r)) is) in
                let run : NodeLeads m p (w.world.node p) (a ∷ more) (ends p) = subst (λ r. NodeLeads m p (w.world.node p) r (ends p)) is (old.runs p low) in
                let no_earlier : next.clock ≤ a.turn.state.clock = o.clocks in
                (later_than_first limit m keeps p next.clock (w.world.node p) (ends p) a more no_earlier run, λ t. end_later p next.clock a.turn.state (ends p) more run.2 no_earlier)

      nothing_left : (i : ℕ) (b : Bool) (acts : List (LoggedAct (Timed S) (Stamped P) C O)) → clocks_of (losing_log is_last i b (ends i) acts) ≡ [] → (acts ≡ []) × (b ≡ false)
      nothing_left i false [] e = (refl, refl)
      nothing_left i true [] e = absurd (cc)
      nothing_left i b (a ∷ acts) e = absurd (cc)

      -- the rest of the merge, from wherever
      abbrev Rest : List (ℕ × ℕ) → Type 0
      Rest order = (read : ℕ → ℕ) (w : LosingWorld (Timed S) (Stamped P) O) (acts : ℕ → List (LoggedAct (Timed S) (Stamped P) C O)) (pending : ℕ → Bool) (kept : ℕ → ℕ → ℕ)
          → Ahead w acts pending kept → Read read acts pending → MergesRest m.size clocks read order → Reached w acts kept (merged_logs logs order)

      one_entry : (x : ℕ × ℕ) (order : List (ℕ × ℕ)) → Rest order → Rest (x ∷ order)
      one_entry x order again read w acts pending kept old far merges = go (acts x.0) refl (pending x.0) refl
        where
          next : IsNext m.size (rest_of clocks read) x.0
          next = merges.1

          go : (r : List (LoggedAct (Timed S) (Stamped P) C O)) → acts x.0 ≡ r → (b : Bool) → pending x.0 ≡ b → Reached w acts kept (merged_logs logs (x ∷ order))
          go [] is false is_b =
              let no : next.clock ∷ next.later ≡ [] = sym next.next ∙ (seen read acts pending far x.0 next.there
              ∙ (ap (λ b. clocks_of (losing_log is_last x.0 b (ends x.0) (acts x.0))) is_b ∙ ap (λ r. clocks_of (losing_log is_last x.0 false (ends x.0) r)) is)) in
              absurd (cc)
          go [] is true is_b =
              let left_here : drop (read x.0) (logs x.0) ≡ ((ends x.0).clock, Stopped x.0) ∷ [] = far.rest x.0 next.there
              ∙ (ap (λ b. losing_log is_last x.0 b (ends x.0) (acts x.0)) is_b ∙ ap (losing_log is_last x.0 true (ends x.0)) is) in
              let far_on : Read (set_at read x.0 (x.1 + 1)) acts (set_at pending x.0 false) = record {
                rest = λ j low. loss_read j low (cases_eq j x.0) left_here is;
              } in
              let after : Reached (lost_world w x.0 acts pending kept old next.there is is_b) acts kept (merged_logs logs order) =
              again (set_at read x.0 (x.1 + 1)) (lost_world w x.0 acts pending kept old next.there is is_b) acts (set_at pending x.0 false) kept
              (loss_ahead w x.0 acts pending kept old next.there is is_b) far_on merges.2 in
              subst (λ es. Reached w acts kept (es ++ merged_logs logs order)) (sym (entry x.0 (read x.0) x.1 merges.0 ((ends x.0).clock, Stopped x.0) [] left_here))
              (reached_loss w (lost_world w x.0 acts pending kept old next.there is is_b) x.0 kept acts (merged_logs logs order) (loss_happens w x.0 acts pending kept old next.there is is_b) refl after)
            where
              loss_read : (j : ℕ) → j < m.size → (j ≡ x.0) ⊎ (j ≡ x.0 → ⊥) → drop (read x.0) (logs x.0) ≡ ((ends x.0).clock, Stopped x.0) ∷ [] → acts x.0 ≡ []
                  → drop (set_at read x.0 (x.1 + 1) j) (logs j) ≡ losing_log is_last j (set_at pending x.0 false j) (ends j) (acts j)
              loss_read j low (inl same) left_here is =
                  subst (λ k. drop (set_at read x.0 (x.1 + 1) k) (logs k) ≡ losing_log is_last k (set_at pending x.0 false k) (ends k) (acts k)) (sym same)
                  (read_on read x.0 x.1 merges.0 ((ends x.0).clock, Stopped x.0) [] left_here
                  ∙ (sym (ap (losing_log is_last x.0 false (ends x.0)) is) ∙ ap (λ b. losing_log is_last x.0 b (ends x.0) (acts x.0)) (sym (set_at_here pending x.0 false x.0 refl))))
              loss_read j low (inr apart) left_here is =
                  not_read read x.0 x.1 j apart ∙ (far.rest j low ∙ ap (λ b. losing_log is_last j b (ends j) (acts j)) (sym (set_at_other pending x.0 false j apart)))
          go (a ∷ more) is b is_b =
              let left_here : drop (read x.0) (logs x.0) ≡ turn_entry is_last x.0 a ∷ losing_log is_last x.0 (pending x.0) (ends x.0) more = far.rest x.0 next.there ∙ ap (losing_log is_last x.0 (pending x.0) (ends x.0)) is in
              let clocks_here : next.clock ∷ next.later ≡ a.turn.state.clock ∷ clocks_of (losing_log is_last x.0 (pending x.0) (ends x.0) more) =
              sym next.next ∙ (seen read acts pending far x.0 next.there ∙ ap (λ r. clocks_of (losing_log is_last x.0 (pending x.0) (ends x.0) r)) is) in
              let clock : next.clock ≡ a.turn.state.clock = cc in
              let h : Happens w x.0 a pending kept = happens_next w x.0 acts pending kept old next.there a more is
              (λ p low. subst (λ c. From limit m keeps c (acts p)) clock (earliest read w acts pending kept old far x.0 next p low).0)
              (λ p low still. subst (λ c. c ≤ (ends p).clock) clock ((earliest read w acts pending kept old far x.0 next p low).1 still)) in
              let acts_on : ℕ → List (LoggedAct (Timed S) (Stamped P) C O) = set_at acts x.0 more in
              let then_ : acts_on x.0 ≡ more = set_at_here acts x.0 more x.0 refl in
              let others : (j : ℕ) → j ≢ x.0 → acts_on j ≡ acts j = λ j apart. set_at_other acts x.0 more j apart in
              let far_on : Read (set_at read x.0 (x.1 + 1)) acts_on pending = record { rest = λ j low. turn_read j low (cases_eq j x.0) left_here } in
              let after : Reached (record { world = h.world; gone = w.gone }) acts_on (still_kept (event_of x.0 a.input) kept) (merged_logs logs order) =
              again (set_at read x.0 (x.1 + 1)) (record { world = h.world; gone = w.gone }) acts_on pending
              (kept_on w h.world x.0 a more acts acts_on pending kept is then_ others old h.moved next.there h.enough)
              (turn_ahead w h.world x.0 a more acts acts_on pending kept is then_ others old h.moved next.there h.enough) far_on merges.2 in
              subst (λ es. Reached w acts kept (es ++ merged_logs logs order)) (sym (entry x.0 (read x.0) x.1 merges.0 (turn_entry is_last x.0 a) (losing_log is_last x.0 (pending x.0) (ends x.0) more) left_here))
              (reached_turn w h.world x.0 a more acts acts_on is then_ others h.moved
              (turn_happens w x.0 acts pending kept old next.there a more is
              (λ p low. subst (λ c. From limit m keeps c (acts p)) clock (earliest read w acts pending kept old far x.0 next p low).0)
              (λ p low still. subst (λ c. c ≤ (ends p).clock) clock ((earliest read w acts pending kept old far x.0 next p low).1 still)) h.world h.moved)
              (subst (λ r. NodeLeads m x.0 (w.world.node x.0) r (ends x.0)) is (old.runs x.0 next.there)).0 kept (merged_logs logs order) after)
            where
              turn_read : (j : ℕ) → j < m.size → (j ≡ x.0) ⊎ (j ≡ x.0 → ⊥) → drop (read x.0) (logs x.0) ≡ turn_entry is_last x.0 a ∷ losing_log is_last x.0 (pending x.0) (ends x.0) more
                  → drop (set_at read x.0 (x.1 + 1) j) (logs j) ≡ losing_log is_last j (pending j) (ends j) (set_at acts x.0 more j)
              turn_read j low (inl same) left_here =
                  subst (λ k. drop (set_at read x.0 (x.1 + 1) k) (logs k) ≡ losing_log is_last k (pending k) (ends k) (set_at acts x.0 more k)) (sym same)
                  (read_on read x.0 x.1 merges.0 (turn_entry is_last x.0 a) (losing_log is_last x.0 (pending x.0) (ends x.0) more) left_here
                  ∙ ap (losing_log is_last x.0 (pending x.0) (ends x.0)) (sym (set_at_here acts x.0 more x.0 refl)))
              turn_read j low (inr apart) left_here =
                  not_read read x.0 x.1 j apart ∙ (far.rest j low ∙ ap (losing_log is_last j (pending j) (ends j)) (sym (set_at_other acts x.0 more j apart)))

      reached : (order : List (ℕ × ℕ)) → Rest order
      reached [] read w acts pending kept old far none =
          reached_nothing w acts pending kept old
          (λ i low. (nothing_left i (pending i) (acts i) (sym (seen read acts pending far i low) ∙ none i low)).0)
          (λ i low. (nothing_left i (pending i) (acts i) (sym (seen read acts pending far i low) ∙ none i low)).1)
      reached (x ∷ order) read w acts pending kept old far merges = one_entry x order (reached order) read w acts pending kept old far merges

pub losing_joined : {S P C O : Type 0} (limit : ℕ) (m : Machine (Timed S) (Stamped P) C O) (last : Timed S → Stamped P) (is_last : Stamped P → Bool) (lost : ℕ → Bool) (kept : ℕ → ℕ → ℕ)
    (logs : ℕ → List (ℕ × Logged C)) (acts : ℕ → List (LoggedAct (Timed S) (Stamped P) C O)) (ends : ℕ → Timed S) (left : ℕ → ℕ → List (Stamped P)) (order : List (ℕ × ℕ))
    → KeepsTime limit m → ((s : Timed S) → (last s).stamp ≡ s.clock) → AreLosingLogs m last is_last lost kept logs acts ends left → Merges m.size (λ i. clocks_of (logs i)) order
    → LosingJoined m last is_last lost kept acts ends left (merged_logs logs order)
losing_joined {S} {P} {C} {O} limit m last is_last lost kept logs acts ends left order keeps notice are merges =
    let start : Ahead limit m keeps last is_last notice lost ends left (nobody_gone (start_of m)) acts lost kept = record {
      runs = are.runs;
      losses = λ i low. inl (record { gone = refl; is = refl });
      few = are.few;
      ways = are.ways;
    } in
    let all = reached limit m keeps last is_last notice lost ends left logs order (λ i. 0) (nobody_gone (start_of m)) acts lost kept start (record { rest = are.entries }) merges in
    record {
      world = all.world;
      leads = all.leads;
      gone = all.gone;
      nodes = all.nodes;
      ways = all.ways;
      reported = all.reported;
    }
