-- The merge of logs happens, one entry after another: it looks at what is still to come.
use Rattle.std.proofs.Common.{◌≡◌, ◌≢◌, ℕ, ◌+◌, ◌<◌, ◌≤◌, cond, nat_eq, map, take, drop, List, []}
use Rattle.std.proofs.Common.{◌∷◌, ◌++◌, Some, refl, ap, sym, ◌∙◌, subst, inl, inr, ◌⊎◌, arith}
use Rattle.std.specs.List.{AllByRecursion}
use Rattle.std.proofs.lemmas.Bool.{cases_eq, eq-eqb, ne_eqb}
use Rattle.std.proofs.lemmas.List.{append-nil, append_assoc, append_cancel_left, drop-map}
use Rattle.pg_world.specs.PgStep.Machines.Places.{set_at}
use Rattle.pg_world.specs.PgStep.Machines.Machine.{Input, Machine, Event, Taken, Own, is_there, node_of, start_of, happens}
use Rattle.pg_world.specs.PgStep.Machines.Runs.{Leads, events_of, reported_by}
use Rattle.pg_world.specs.PgStep.Machines.Clocked.{Timed, Stamped, TimedWorld}
use Rattle.pg_world.specs.PgStep.Machines.Timely.{KeepsTime}
use Rattle.pg_world.proofs.PgStep.Machines.Places.{set_at_here, set_at_other}
use Rattle.pg_world.proofs.PgStep.Machines.Sequences.{told_by_append}
use Rattle.pg_world.proofs.PgStep.Machines.Steps.{pair_apart}
use Rattle.pg_cluster_judges.specs.Logs.{LoggedAct, event_of, NodeLeads, sent_to, packet_from}
use Rattle.pg_cluster_judges.specs.Logs.{taken_from, log_entry, reports_of, AreLogs}
use Rattle.pg_cluster_judges.specs.Merge.{ComesFirst, IsNext, rest_of, MergesRest, Merges, clocks_of, entry_at, merged_logs}
use Rattle.pg_cluster_judges.specs.Joined.{Joined, Passes}
use Rattle.pg_cluster_judges.proofs.Acts.{pair_places, drop_next, map_nil, map_cons, From, later_than_first, stamped_later}
use Rattle.pg_cluster_judges.proofs.Moved.{Moved, own_moved, take_moved}

module _ {S P C O : Type 0} (limit : ℕ) (m : Machine (Timed S) (Stamped P) C O) (keeps : KeepsTime limit m)
    (ends : ℕ → Timed S) (left : ℕ → ℕ → List (Stamped P)) where
  -- What each node has still to do leads it to its end. What is on the way and still sent is what is still taken, and what is left.
  record Ahead (w : TimedWorld S P O) (rest : ℕ → List (LoggedAct (Timed S) (Stamped P) C O)) : Type 0 where
    runs : (i : ℕ) → i < m.size → NodeLeads m i (w.node i) (rest i) (ends i)
    ways : (p q : ℕ) → p < m.size → q < m.size → p ≢ q → w.wire p q ++ sent_to q (rest p) ≡ taken_from p (rest q) ++ left p q

  -- one turn, and what is still ahead
  module _ (w v : TimedWorld S P O) (i : ℕ) (a : LoggedAct (Timed S) (Stamped P) C O) (acts : List (LoggedAct (Timed S) (Stamped P) C O))
      (rest next : ℕ → List (LoggedAct (Timed S) (Stamped P) C O)) (here : rest i ≡ a ∷ acts) (then_ : next i ≡ acts) (others : (j : ℕ) → j ≢ i → next j ≡ rest j)
      (old : Ahead w rest) (moved : Moved m w v i a.input a.turn) (there : i < m.size) where
    new_runs : (j : ℕ) → j < m.size → (j ≡ i) ⊎ (j ≡ i → ⊥) → NodeLeads m j (v.node j) (next j) (ends j)
    new_runs j low (inl same) =
        let run : NodeLeads m i (w.node i) (a ∷ acts) (ends i) = subst (λ r. NodeLeads m i (w.node i) r (ends i)) here (old.runs i there) in
        subst (λ k. NodeLeads m k (v.node k) (next k) (ends k)) (sym same)
        (subst (λ s. NodeLeads m i s (next i) (ends i)) (sym moved.state) (subst (λ r. NodeLeads m i a.turn.state r (ends i)) (sym then_) run.2))
    new_runs j low (inr apart) =
        subst (λ s. NodeLeads m j s (next j) (ends j)) (sym (moved.states j apart)) (subst (λ r. NodeLeads m j (w.node j) r (ends j)) (sym (others j apart)) (old.runs j low))

    -- from node i
    ways_out : (q : ℕ) → q < m.size → i ≢ q → v.wire i q ++ sent_to q (next i) ≡ taken_from i (next q) ++ left i q
    ways_out q low apart =
        ap (λ xs. xs ++ sent_to q (next i)) (moved.sent q)
        ∙ (ap (λ r. (w.wire i q ++ a.turn.sends q) ++ sent_to q r) then_
        ∙ (append_assoc (w.wire i q) (a.turn.sends q) (sent_to q acts)
        ∙ (ap (λ r. w.wire i q ++ sent_to q r) (sym here)
        ∙ (old.ways i q there low apart
        ∙ ap (λ r. taken_from i r ++ left i q) (sym (others q (λ same. apart (sym same))))))))

    -- to node i
    ways_in : (p : ℕ) → p < m.size → p ≢ i → v.wire p i ++ sent_to i (next p) ≡ taken_from p (next i) ++ left p i
    ways_in p low apart =
        let before : (packet_from p a.input ++ v.wire p i) ++ sent_to i (rest p) ≡ (packet_from p a.input ++ taken_from p acts) ++ left p i =
        ap (λ xs. xs ++ sent_to i (rest p)) (sym (moved.taken p apart)) ∙ (old.ways p i low there apart ∙ ap (λ r. taken_from p r ++ left p i) here) in
        let both : packet_from p a.input ++ (v.wire p i ++ sent_to i (rest p)) ≡ packet_from p a.input ++ (taken_from p acts ++ left p i) =
        sym (append_assoc (packet_from p a.input) (v.wire p i) (sent_to i (rest p))) ∙ (before ∙ append_assoc (packet_from p a.input) (taken_from p acts) (left p i)) in
        ap (λ r. v.wire p i ++ sent_to i r) (others p apart)
        ∙ (append_cancel_left (packet_from p a.input) (v.wire p i ++ sent_to i (rest p)) (taken_from p acts ++ left p i) both
        ∙ ap (λ r. taken_from p r ++ left p i) (sym then_))

    ways_past : (p q : ℕ) → p < m.size → q < m.size → p ≢ q → p ≢ i → q ≢ i → v.wire p q ++ sent_to q (next p) ≡ taken_from p (next q) ++ left p q
    ways_past p q lp lq apart np nq =
        ap (λ xs. xs ++ sent_to q (next p)) (moved.ways p q np nq)
        ∙ (ap (λ r. w.wire p q ++ sent_to q r) (others p np)
        ∙ (old.ways p q lp lq apart ∙ ap (λ r. taken_from p r ++ left p q) (sym (others q nq))))

    new_ways : (p q : ℕ) → p < m.size → q < m.size → p ≢ q → (p ≡ i) ⊎ (p ≡ i → ⊥) → (q ≡ i) ⊎ (q ≡ i → ⊥)
        → v.wire p q ++ sent_to q (next p) ≡ taken_from p (next q) ++ left p q
    new_ways p q lp lq apart (inl same) other =
        subst (λ k. v.wire k q ++ sent_to q (next k) ≡ taken_from k (next q) ++ left k q) (sym same) (ways_out q lq (λ e. apart (same ∙ e)))
    new_ways p q lp lq apart (inr np) (inl same) =
        subst (λ k. v.wire p k ++ sent_to k (next p) ≡ taken_from p (next k) ++ left p k) (sym same) (ways_in p lp np)
    new_ways p q lp lq apart (inr np) (inr nq) = ways_past p q lp lq apart np nq

    goes_on : Ahead v next
    goes_on = record {
      runs = λ j low. new_runs j low (cases_eq j i);
      ways = λ p q lp lq apart. new_ways p q lp lq apart (cases_eq p i) (cases_eq q i);
    }

  -- The turn of the first entry happens: what it takes is on the way, since what others have still to send is stamped later.
  record Happens (w : TimedWorld S P O) (i : ℕ) (a : LoggedAct (Timed S) (Stamped P) C O) : Type 0 where
    world : TimedWorld S P O
    moved : Moved m w world i a.input a.turn

  module _ (w : TimedWorld S P O) (i : ℕ) (rest : ℕ → List (LoggedAct (Timed S) (Stamped P) C O)) (old : Ahead w rest) (there : i < m.size)
      (a : LoggedAct (Timed S) (Stamped P) C O) (acts : List (LoggedAct (Timed S) (Stamped P) C O)) (here : rest i ≡ a ∷ acts)
      (first : (p : ℕ) → p < m.size → From limit m keeps a.turn.state.clock (rest p)) where
    run : NodeLeads m i (w.node i) (a ∷ acts) (ends i)
    run = subst (λ r. NodeLeads m i (w.node i) r (ends i)) here (old.runs i there)

    on_the_way : (p : ℕ) (x : Stamped P) → a.input ≡ Taken p x → p < m.size → p ≢ i → (xs : List (Stamped P)) × (w.wire p i ≡ x ∷ xs)
    on_the_way p x is low apart = go (w.wire p i) refl
      where
        taken : taken_from p (rest i) ≡ x ∷ taken_from p acts
        taken = ap (taken_from p) here ∙ (ap (λ y. packet_from p y ++ taken_from p acts) is ∙ ap (λ b. cond b (x ∷ []) [] ++ taken_from p acts) (eq-eqb p p refl))

        comes : w.wire p i ++ sent_to i (rest p) ≡ x ∷ (taken_from p acts ++ left p i)
        comes = old.ways p i low there apart ∙ ap (λ ys. ys ++ left p i) taken

        go : (ys : List (Stamped P)) → w.wire p i ≡ ys → (xs : List (Stamped P)) × (w.wire p i ≡ x ∷ xs)
        go (y ∷ ys) e =
            let all : y ∷ (ys ++ sent_to i (rest p)) ≡ x ∷ (taken_from p acts ++ left p i) = ap (λ zs. zs ++ sent_to i (rest p)) (sym e) ∙ comes in
            let same : y ≡ x = cc in
            (ys, e ∙ ap (λ z. z ∷ ys) same)
        go [] e =
            let all : sent_to i (rest p) ≡ x ∷ (taken_from p acts ++ left p i) = ap (λ zs. zs ++ sent_to i (rest p)) (sym e) ∙ comes in
            let late : a.turn.state.clock ≤ x.stamp = (subst (AllByRecursion (λ (y : Stamped P). a.turn.state.clock ≤ y.stamp)) all
            (stamped_later limit m keeps p i a.turn.state.clock (w.node p) (ends p) (rest p) (old.runs p low) (first p low))).0 in
            let early : x.stamp < a.turn.state.clock = keeps.taken i (w.node i) p x a.turn (ap (m.step i (w.node i)) (sym is) ∙ run.1) in
            absurd (omega arith)

    happens_now : (y : Input (Stamped P) C) → a.input ≡ y → (v : TimedWorld S P O) × Moved m w v i y a.turn
    happens_now (Own c) is =
        (_, own_moved m w i c a.turn (ap (λ y. is_there m.size (event_of i y)) (sym is) ∙ run.0) (ap (m.step i (w.node i)) (sym is) ∙ run.1))
    happens_now (Taken p x) is =
        let pair = ap (λ y. is_there m.size (event_of i y)) (sym is) ∙ run.0 in
        let way = on_the_way p x is ((pair_places m.size i p pair).1) (λ same. pair_apart m.size i p pair (sym same)) in
        (_, take_moved m w i p x way.0 a.turn pair (ap (m.step i (w.node i)) (sym is) ∙ run.1) way.1)

    happens_next : Happens w i a
    happens_next = let h = happens_now a.input refl in record { world = h.0; moved = h.1 }

  -- The rest of the merge happens, and leads each node to its end.
  record Reached (w : TimedWorld S P O) (rest : ℕ → List (LoggedAct (Timed S) (Stamped P) C O)) (events : List (Event C)) : Type 0 where
    world : TimedWorld S P O
    leads : Leads m w events world
    nodes : (i : ℕ) → i < m.size → world.node i ≡ ends i
    ways : (p q : ℕ) → p < m.size → q < m.size → p ≢ q → world.wire p q ≡ left p q
    reported : (i : ℕ) → i < m.size → reported_by i world.reported ≡ reported_by i w.reported ++ reports_of (rest i)
    events_of_each : (i : ℕ) → i < m.size → events_of i events ≡ map (λ a. event_of i a.input) (rest i)
    passes : (i : ℕ) → i < m.size → (first others : List (LoggedAct (Timed S) (Stamped P) C O)) (s : Timed S) → rest i ≡ first ++ others → NodeLeads m i (w.node i) first s → Passes m w events world i s

  -- the first world of a run
  passes_first : (w v : TimedWorld S P O) (events : List (Event C)) (i : ℕ) (s : Timed S) → Leads m w events v → w.node i ≡ s → Passes m w events v i s
  passes_first w v events i s l is = record { before = []; after = events; are = refl; world = w; led = refl; goes_on = l; state = is }

  -- and one behind an event
  passes_behind : (w u v : TimedWorld S P O) (e : Event C) (events : List (Event C)) (i : ℕ) (s : Timed S) → happens m w e ≡ Some u → Passes m u events v i s → Passes m w (e ∷ events) v i s
  passes_behind w u v e events i s now p = record { before = e ∷ p.before; after = p.after; are = ap (λ es. e ∷ es) p.are; world = p.world; led = (u, now, p.led); goes_on = p.goes_on; state = p.state }

  reached_nothing : (w : TimedWorld S P O) (rest : ℕ → List (LoggedAct (Timed S) (Stamped P) C O)) → Ahead w rest → ((i : ℕ) → i < m.size → rest i ≡ []) → Reached w rest []
  reached_nothing w rest old none = record {
    world = w;
    leads = refl;
    nodes = λ i low. subst (λ r. NodeLeads m i (w.node i) r (ends i)) (none i low) (old.runs i low);
    ways = λ p q lp lq apart. sym (append-nil (w.wire p q)) ∙ (ap (λ r. w.wire p q ++ sent_to q r) (sym (none p lp))
        ∙ (old.ways p q lp lq apart ∙ ap (λ r. taken_from p r ++ left p q) (none q lq)));
    reported = λ i low. sym (append-nil (reported_by i w.reported)) ∙ ap (λ r. reported_by i w.reported ++ reports_of r) (sym (none i low));
    events_of_each = λ i low. ap (map (λ a. event_of i a.input)) (sym (none i low));
    passes = λ i low first others s is run. no_turn i first others s (sym (none i low) ∙ is) run;
  }
    where
      no_turn : (i : ℕ) (first others : List (LoggedAct (Timed S) (Stamped P) C O)) (s : Timed S) → [] ≡ first ++ others → NodeLeads m i (w.node i) first s → Passes m w [] w i s
      no_turn i [] others s is run = passes_first w w [] i s refl run
      no_turn i (a ∷ first) others s is run = absurd (cc)

  whose : (i : ℕ) (input : Input (Stamped P) C) → node_of (event_of {P = Stamped P} {C = C} i input) ≡ i
  whose i (Taken p x) = refl
  whose i (Own c) = refl

  -- one more entry before them
  module _ (w : TimedWorld S P O) (i : ℕ) (a : LoggedAct (Timed S) (Stamped P) C O) (acts : List (LoggedAct (Timed S) (Stamped P) C O))
      (rest next : ℕ → List (LoggedAct (Timed S) (Stamped P) C O)) (here : rest i ≡ a ∷ acts) (then_ : next i ≡ acts) (others : (j : ℕ) → j ≢ i → next j ≡ rest j)
      (h : Happens w i a) (events : List (Event C)) (more : Reached h.world next events) where
    reports : (j : ℕ) → reported_by j h.world.reported ≡ reported_by j w.reported ++ cond (nat_eq i j) (a.turn.reported ∷ []) []
    reports j = ap (reported_by j) h.moved.reported ∙ told_by_append j w.reported ((i, a.turn.reported) ∷ [])

    new_reports : (j : ℕ) → (j ≡ i) ⊎ (j ≡ i → ⊥) → cond (nat_eq i j) (a.turn.reported ∷ []) [] ++ reports_of (next j) ≡ reports_of (rest j)
    new_reports j (inl same) =
        ap (λ b. cond b (a.turn.reported ∷ []) [] ++ reports_of (next j)) (eq-eqb i j (sym same))
        ∙ (ap (λ k. a.turn.reported ∷ reports_of (next k)) same ∙ (ap (λ r. a.turn.reported ∷ reports_of r) then_
        ∙ (ap reports_of (sym here) ∙ ap (λ k. reports_of (rest k)) (sym same))))
    new_reports j (inr apart) =
        ap (λ b. cond b (a.turn.reported ∷ []) [] ++ reports_of (next j)) (ne_eqb i j (λ e. apart (sym e))) ∙ ap reports_of (others j apart)

    new_events : (j : ℕ) → j < m.size → (j ≡ i) ⊎ (j ≡ i → ⊥)
        → cond (nat_eq (node_of (event_of {P = Stamped P} {C = C} i a.input)) j) (event_of i a.input ∷ events_of j events) (events_of j events) ≡ map (λ b. event_of j b.input) (rest j)
    new_events j low (inl same) =
        ap (λ b. cond b (event_of i a.input ∷ events_of j events) (events_of j events)) (eq-eqb (node_of (event_of {P = Stamped P} {C = C} i a.input)) j (whose i a.input ∙ sym same))
        ∙ (ap (λ es. event_of i a.input ∷ es) (more.events_of_each j low)
        ∙ (ap (λ k. event_of i a.input ∷ map (λ b. event_of k b.input) (next k)) same
        ∙ (ap (λ r. event_of i a.input ∷ map (λ b. event_of i b.input) r) then_
        ∙ (ap (map (λ b. event_of i b.input)) (sym here) ∙ ap (λ k. map (λ b. event_of k b.input) (rest k)) (sym same)))))
    new_events j low (inr apart) =
        ap (λ b. cond b (event_of i a.input ∷ events_of j events) (events_of j events)) (ne_eqb (node_of (event_of {P = Stamped P} {C = C} i a.input)) j (λ e. apart (sym e ∙ whose i a.input)))
        ∙ (more.events_of_each j low ∙ ap (map (λ b. event_of j b.input)) (others j apart))

    new_passes : (j : ℕ) → j < m.size → (first later : List (LoggedAct (Timed S) (Stamped P) C O)) (s : Timed S) → rest j ≡ first ++ later → NodeLeads m j (w.node j) first s
        → (j ≡ i) ⊎ (j ≡ i → ⊥) → Passes m w (event_of i a.input ∷ events) more.world j s
    new_passes j low [] later s is run _ = passes_first w more.world (event_of i a.input ∷ events) j s (h.world, h.moved.happens_, more.leads) run
    new_passes j low (b ∷ first) later s is run (inl same) =
        let all : a ∷ acts ≡ b ∷ (first ++ later) = sym here ∙ (ap rest (sym same) ∙ is) in
        let turn : a ≡ b = cc in
        let tail : acts ≡ first ++ later = cc in
        let state : h.world.node j ≡ b.turn.state = ap h.world.node same ∙ (h.moved.state ∙ ap (λ (z : LoggedAct (Timed S) (Stamped P) C O). z.turn.state) turn) in
        passes_behind w h.world more.world (event_of i a.input) events j s h.moved.happens_
        (more.passes j low first later s (ap next same ∙ (then_ ∙ tail)) (subst (λ z. NodeLeads m j z first s) (sym state) run.2))
    new_passes j low (b ∷ first) later s is run (inr apart) =
        passes_behind w h.world more.world (event_of i a.input) events j s h.moved.happens_
        (more.passes j low (b ∷ first) later s (others j apart ∙ is) (subst (λ z. NodeLeads m j z (b ∷ first) s) (sym (h.moved.states j apart)) run))

    reached_one : Reached w rest (event_of i a.input ∷ events)
    reached_one = record {
      world = more.world;
      leads = (h.world, h.moved.happens_, more.leads);
      nodes = more.nodes;
      ways = more.ways;
      reported = λ j low. more.reported j low ∙ (ap (λ xs. xs ++ reports_of (next j)) (reports j)
          ∙ (append_assoc (reported_by j w.reported) (cond (nat_eq i j) (a.turn.reported ∷ []) []) (reports_of (next j))
          ∙ ap (λ xs. reported_by j w.reported ++ xs) (new_reports j (cases_eq j i))));
      events_of_each = λ j low. new_events j low (cases_eq j i);
      passes = λ j low first later s is run. new_passes j low first later s is run (cases_eq j i);
    }

  abbrev clock_of : LoggedAct (Timed S) (Stamped P) C O → ℕ
  clock_of a = a.turn.state.clock

  clocks_seen : (i : ℕ) (acts : List (LoggedAct (Timed S) (Stamped P) C O)) → clocks_of (map (log_entry i) acts) ≡ map clock_of acts
  clocks_seen i [] = refl
  clocks_seen i (a ∷ acts) = ap (λ xs. clock_of a ∷ xs) (clocks_seen i acts)

  events_seen : (i : ℕ) (acts : List (LoggedAct (Timed S) (Stamped P) C O)) → map (λ a. event_of i a.input) acts ≡ map (λ (x : ℕ × Event C). x.1) (map (log_entry i) acts)
  events_seen i [] = refl
  events_seen i (a ∷ acts) = ap (λ xs. event_of i a.input ∷ xs) (events_seen i acts)

  module _ (acts : ℕ → List (LoggedAct (Timed S) (Stamped P) C O)) (logs : ℕ → List (ℕ × Event C))
      (entries : (i : ℕ) → i < m.size → logs i ≡ map (log_entry i) (acts i)) where
    -- what is still to be done where so much is done
    abbrev rest : (ℕ → ℕ) → ℕ → List (LoggedAct (Timed S) (Stamped P) C O)
    rest read i = drop (read i) (acts i)

    abbrev clocks : ℕ → List ℕ
    clocks i = clocks_of (logs i)

    seen : (read : ℕ → ℕ) (i : ℕ) → i < m.size → rest_of clocks read i ≡ map clock_of (rest read i)
    seen read i low = ap (λ log. drop (read i) (clocks_of log)) (entries i low) ∙ (ap (drop (read i)) (clocks_seen i (acts i)) ∙ drop-map clock_of (read i) (acts i))

    entry : (i n : ℕ) → i < m.size → (a : LoggedAct (Timed S) (Stamped P) C O) (more : List (LoggedAct (Timed S) (Stamped P) C O)) → drop n (acts i) ≡ a ∷ more
        → entry_at (logs i) n ≡ event_of i a.input ∷ []
    entry i n low a more is =
        ap (λ log. entry_at log n) (entries i low)
        ∙ ap (λ (xs : List (ℕ × Event C)). map (λ (x : ℕ × Event C). x.1) (take 1 xs)) (drop-map (log_entry i) n (acts i) ∙ ap (map (log_entry i)) is)

    module _ (read : ℕ → ℕ) (w : TimedWorld S P O) (old : Ahead w (rest read)) (i : ℕ) (next : IsNext m.size (rest_of clocks read) i) where
      earliest : (p : ℕ) → p < m.size → From limit m keeps next.clock (rest read p)
      earliest p low = go (rest read p) refl
        where
          go : (r : List (LoggedAct (Timed S) (Stamped P) C O)) → rest read p ≡ r → From limit m keeps next.clock r
          go [] is = tt
          go (b ∷ bs) is =
              let o : ComesFirst next.clock i (clock_of b) p = next.first p (clock_of b) (map clock_of bs) low (seen read p low ∙ ap (map clock_of) is) in
              let no_earlier : next.clock ≤ b.turn.state.clock = o.clocks in
              later_than_first limit m keeps p next.clock (w.node p) (ends p) b bs no_earlier (subst (λ r. NodeLeads m p (w.node p) r (ends p)) is (old.runs p low))

    reached : (order : List (ℕ × ℕ)) (read : ℕ → ℕ) (w : TimedWorld S P O) → Ahead w (rest read) → MergesRest m.size clocks read order → Reached w (rest read) (merged_logs logs order)
    reached [] read w old none = reached_nothing w (rest read) old (λ i low. map_nil clock_of (rest read i) (sym (seen read i low) ∙ none i low))
    reached (x ∷ order) read w old merges =
        let i : ℕ = x.0 in
        let next : IsNext m.size (rest_of clocks read) i = merges.1 in
        let first = map_cons clock_of (rest read i) next.clock next.later (sym (seen read i next.there) ∙ next.next) in
        let a = first.0 in
        let more = first.1 in
        let here : rest read i ≡ a ∷ more = first.2 in
        let h : Happens w i a = happens_next w i (rest read) old next.there a more here
        (λ p low. subst (λ c. From limit m keeps c (rest read p)) (sym first.3) (earliest read w old i next p low)) in
        let read_on : ℕ → ℕ = set_at read i (x.1 + 1) in
        let then_ : rest read_on i ≡ more = ap (λ n. drop n (acts i)) (set_at_here read i (x.1 + 1) i refl ∙ ap (λ n. n + 1) merges.0) ∙ drop_next (read i) (acts i) a more here in
        let others : (j : ℕ) → j ≢ i → rest read_on j ≡ rest read j = λ j apart. ap (λ n. drop n (acts j)) (set_at_other read i (x.1 + 1) j apart) in
        let after : Reached h.world (rest read_on) (merged_logs logs order) =
        reached order read_on h.world (goes_on w h.world i a more (rest read) (rest read_on) here then_ others old h.moved next.there) merges.2 in
        subst (λ es. Reached w (rest read) (es ++ merged_logs logs order))
        (sym (ap (entry_at (logs i)) merges.0 ∙ entry i (read i) next.there a more here))
        (reached_one w i a more (rest read) (rest read_on) here then_ others h (merged_logs logs order) after)

pub joined : {S P C O : Type 0} (limit : ℕ) (m : Machine (Timed S) (Stamped P) C O) (logs : ℕ → List (ℕ × Event C)) (acts : ℕ → List (LoggedAct (Timed S) (Stamped P) C O))
    (ends : ℕ → Timed S) (left : ℕ → ℕ → List (Stamped P)) (order : List (ℕ × ℕ))
    → KeepsTime limit m → AreLogs m logs acts ends left → Merges m.size (λ i. clocks_of (logs i)) order → Joined m logs acts ends left (merged_logs logs order)
joined limit m logs acts ends left order keeps are merges =
    let start : Ahead limit m keeps ends left (start_of m) acts = record { runs = are.runs; ways = are.ways } in
    let all = reached limit m keeps ends left acts logs are.entries order (λ i. 0) (start_of m) start merges in
    record {
      world = all.world;
      leads = all.leads;
      nodes = all.nodes;
      ways = all.ways;
      reported = all.reported;
      logs_of = λ i low. all.events_of_each i low ∙ (events_seen limit m keeps ends left i (acts i) ∙ ap (map (λ x. x.1)) (sym (are.entries i low)));
      passes = all.passes;
    }
