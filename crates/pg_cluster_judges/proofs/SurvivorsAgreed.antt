-- The survivors of one run agree: what their logs tell of losses, packets and commands is in the run.
use Rattle.std.proofs.Common.{◌≡◌, ◌≢◌, ℕ, ◌+◌, ◌-◌, ◌<◌, ◌≤◌, zero, suc, Bool, true, false}
use Rattle.std.proofs.Common.{not, ◌&&◌, ◌||◌, cond, nat_eq, map, length, get_or, List}
use Rattle.std.proofs.Common.{[], ◌∷◌, ◌++◌, Option, Some, None, refl, sym, ap, subst, ◌∙◌, arith}
use Rattle.std.specs.Prelude.{is_none, slice_get}
use Rattle.std.specs.declared.vec.Vec.{Vec}
use Rattle.std.specs.declared.alloc.Global.{Global}
use Rattle.std.specs.List.{All, AllByRecursion, IsDistinct, list_all, list_any, range_with_len}
use Rattle.std.proofs.lemmas.Bool.{eqb-true}
use Rattle.std.proofs.lemmas.Bool.Decides.{Decides-ltb}
use Rattle.std.proofs.lemmas.List.{length-map, map-append}
use Rattle.std.proofs.lemmas.Option.{slice_get-get_or}
use Rattle.pg_term.specs.declared.pid.Pid.{Pid}
use Rattle.pg_term.specs.declared.term.Term.{Term}
use Rattle.pg_term.specs.Same.{same_atom, same_term}
use Rattle.pg_term.specs.contracts.term.TermEq.TheImpl.Laws as term_laws
use Rattle.pg_world.specs.PgGroup.declared.update.Update.{Update}
use Rattle.pg_world.specs.PgGroup.Value.{name_of}
use Rattle.pg_world.specs.PgMessageTypes.declared.message.Message.{Message}
use Rattle.pg_world.specs.PgStep.Machines.Clocked.{Stamped, packets_of}
use Rattle.pg_world.specs.PgStep.Machines.Happened.{Happened}
use Rattle.pg_world.specs.PgStep.Machines.Losing.{Last, LosingEvent, LosingLeads, Noticed}
use Rattle.pg_world.specs.PgStep.Machines.Losing.{Sent, Step, losing_happens, nobody_gone}
use Rattle.pg_world.specs.PgStep.Machines.Machine.{Do, Event, Input, Own, Take, Taken, first_from, start_of}
use Rattle.pg_world.specs.PgStep.Machines.Places.{is_pair, is_place}
use Rattle.pg_world.proofs.PgStep.Machines.Options.{some_is}
use Rattle.pg_world.proofs.PgStep.Machines.Steps.{changes}
use Rattle.pg_world.specs.PgStep.Commands.{change_of}
use Rattle.pg_world.specs.PgStep.Config.{Config, name_at, names_of, nodes_at}
use Rattle.pg_world.specs.PgStep.FrameMachine.{last_notice, losing_frame_machine, losing_machine_of}
use Rattle.pg_world.specs.PgStep.Faults.{first_that_holds}
use Rattle.pg_world.specs.PgStep.LossLaws.{LosingFrameWorld, clock_after, way_is_drained, is_notice}
use Rattle.pg_world.specs.PgStep.StepLaws.{is_full}
use Rattle.pg_world.specs.PgStep.declared.refusal.Refusal.TheVariants.{NoSuchPlace, NodeLost, NotLost, NotDrained, ClockFull}
use Rattle.pg_world.specs.PgStep.State.{State, formed, live_nodes}
use Rattle.pg_world.specs.PgStep.Step.{Action, Issue, Retry}
use Rattle.pg_world.specs.PgStep.Turns.{Report}
use Rattle.pg_world.specs.PgStep.declared.command.Command.{Command}
use Rattle.pg_world.specs.PgStep.declared.command.Command.TheVariants as commands
use Rattle.pg_world.specs.PgStep.Machines.Machine.{Turn}
use Rattle.pg_world.specs.PgLaws.History.{Entry, entries, issued, of_group}
use Rattle.pg_world.specs.PgLaws.Reached.{FinishedAt}
use Rattle.pg_world.specs.PgLaws.WithLosses.{NonePendingLive, has_seen}
use Rattle.pg_world.proofs.PgLaws.ends.Apart.{pair_second}
use Rattle.pg_world.proofs.PgLaws.references.Keys.{atoms, read_at}
use Rattle.pg_world.proofs.PgLaws.steps.Ways.{all_both}
use Rattle.pg_world.specs.PgLawsLosses.Agreeing.{SawAll}
use Rattle.pg_world.specs.PgLawsLosses.Reached.{LosingReaches, steps_of}
use Rattle.pg_world.proofs.PgLawsLosses.Bridge.{not_true}
use Rattle.pg_world.proofs.PgLawsLosses.Lasts.{seen_later}
use Rattle.pg_world.proofs.PgLawsLosses.Lossy.{bare, Passed, Went, Died, passed, Makes, Steps, Sees, makes, noted}
use Rattle.pg_world.specs.PgLawsLosses.Remains.Heard.{Heard, HeardTheLost, NoneOfLost}
use Rattle.pg_world.proofs.PgLawsLosses.Remains.Unlocked.{all_left, waits}
use Rattle.pg_world.specs.PgNodeOpens.Places.{whole_in}
use Rattle.pg_node_run.specs.declared.log.NodeEvent.{NodeEvent}
use Rattle.pg_node_run.specs.declared.log.NodeEvent.TheVariants as events
use Rattle.pg_cluster_judges.specs.Merge.{clocks_in, entry_at, places_of}
use Rattle.pg_cluster_judges.specs.Merge.{log_at as merge_log}
use Rattle.pg_cluster_judges.proofs.Sorted.{every_place}
use Rattle.pg_world.specs.PgWorldPackets.declared.step.FrameStep.{FrameStep}
use Rattle.pg_world.specs.PgWorldPackets.declared.step.FrameStep.TheVariants as steps
use Rattle.pg_world.specs.PgWorldPackets.Losing.{CanBeMade, none_sent, told_of}
use Rattle.pg_world.specs.PgWorldPackets.Views.{peer_place, place_of_peer}
use Rattle.pg_world.proofs.PgWorldPackets.Peering.{there_and_back}
use Rattle.pg_cluster_judges.specs.Judges.{HasAs, formed_in, is_end_pending, is_pending_end}
use Rattle.pg_cluster_judges.specs.Judges.{is_seen_free, is_taken_by_some, state_in}
use Rattle.pg_cluster_judges.specs.Schedule.{IsLosingSchedule, SeenStep, Turned, Lost, is_alone, is_last_of}
use Rattle.pg_cluster_judges.specs.Schedule.{loss_if, losses_first}
use Rattle.pg_cluster_judges.specs.Schedule.{node_of_peer, seen_step, step_as, steps_at, steps_behind}
use Rattle.pg_cluster_judges.specs.Survivors.{SurvivorsAgree, any_before, asks_of, has_event, is_change_of}
use Rattle.pg_cluster_judges.specs.Survivors.{is_compared, is_loss_of, is_loss_pending, is_missing}
use Rattle.pg_cluster_judges.specs.Survivors.{is_touched_by_lost, is_take_of, log_at, survivors, was_lost}
use Rattle.pg_cluster_judges.specs.NodeOf.{NodeOf}
use Rattle.pg_cluster_judges.specs.Together.{AreOneLosingRun, MadeInTurn, losing_event}
use Rattle.pg_cluster_judges.proofs.Peers.{peer_within}
use Rattle.pg_cluster_judges.proofs.Surviving.{any_found, any_survivor, not_each, survivors_all}

-- ---- tests

and_true : (a b : Bool) → (a && b) ≡ true → (a ≡ true) × (b ≡ true)
and_true true b e = (refl, e)
and_true false b e = absurd (cc)

or_false : (a b : Bool) → (a || b) ≡ false → (a ≡ false) × (b ≡ false)
or_false true b e = absurd (cc)
or_false false b e = (refl, e)

not_false : (b : Bool) → not b ≡ true → b ≡ false
not_false false e = refl
not_false true e = absurd (cc)

-- where none of these places is such, and this is one of them
none_is : (f : ℕ → Bool) (n k : ℕ) → any_before f n ≡ false → k < n → f k ≡ false
none_is f n k none low = not_true (f k) (λ is. absurd (cc (sym none ∙ any_found f k n low is)))

-- a node that was lost, and passes no such test
not_such : (lost b : Bool) → (lost && b) ≡ false → lost ≡ true → b ≡ false
not_such true b e is = e
not_such false b e is = absurd (cc)

not_missing : (lost has : Bool) → (not lost && not has) ≡ false → lost ≡ false → has ≡ true
not_missing false true e is = refl
not_missing false false e is = absurd (cc)
not_missing true has e is = absurd (cc)

-- ---- from the log of a node to the schedule

-- an event of a log has its place
place_in_log : (wanted : NodeEvent → Bool) (log : List (ℕ × NodeEvent)) → has_event wanted log ≡ true
    → (place : ℕ) × (event : NodeEvent) × (place < length log) × (wanted event ≡ true) × (entry_at log place ≡ event ∷ [])
place_in_log wanted [] e = absurd (cc)
place_in_log wanted (x ∷ log) e = go (wanted x.1) refl e (place_in_log wanted log)
  where
    go : (b : Bool) → wanted x.1 ≡ b → (b || has_event wanted log) ≡ true
        → (has_event wanted log ≡ true → (place : ℕ) × (event : NodeEvent) × (place < length log) × (wanted event ≡ true) × (entry_at log place ≡ event ∷ []))
        → (place : ℕ) × (event : NodeEvent) × (place < length (x ∷ log)) × (wanted event ≡ true) × (entry_at (x ∷ log) place ≡ event ∷ [])
    go true is _ later = (zero, x.1, omega arith, is, refl)
    go false is rest later = let l = later rest in let low = l.2 in (suc l.0, l.1, omega (arith, low), l.3, l.4)

abbrev In : {A : Type 0} → A → List A → Type 0
In {A} x xs = (first : List A) × (rest : List A) × (xs ≡ first ++ x ∷ rest)

in_range : (a n k : ℕ) → k < n → In (a + k) (range_with_len a n)
in_range a zero k low = absurd (omega (arith, low))
in_range a (suc n) zero low = ([], range_with_len (a + 1) n, let same : a ≡ a + 0 = omega arith in ap (λ m. m ∷ range_with_len (a + 1) n) same)
in_range a (suc n) (suc k) low =
    let later = in_range (a + 1) n k (omega (arith, low)) in
    let same : a + 1 + k ≡ a + suc k = omega arith in
    (a ∷ later.0, later.1, ap (λ xs. a ∷ xs) (later.2 ∙ ap (λ m. later.0 ++ m ∷ later.1) same))

-- a place of a log in an order
in_order : (i place : ℕ) (order : List (ℕ × ℕ)) → In place (places_of i order) → In (i, place) order
in_order i place [] ([], rest, is) = absurd (cc)
in_order i place [] (x ∷ first, rest, is) = absurd (cc)
in_order i place (x ∷ order) it = go (nat_eq x.0 i) refl it (in_order i place order)
  where
    more : In (i, place) order → In (i, place) (x ∷ order)
    more (first, rest, is) = (x ∷ first, rest, ap (λ xs. x ∷ xs) is)

    go : (b : Bool) → nat_eq x.0 i ≡ b → In place (cond b (x.1 ∷ places_of i order) (places_of i order)) → (In place (places_of i order) → In (i, place) order) → In (i, place) (x ∷ order)
    go false other it later = more (later it)
    go true own ([], rest, is) later =
        let at : x.1 ≡ place = cc is in
        let node : x.0 ≡ i = eqb-true x.0 i own in
        ([], order, (λ k. (node k, at k) ∷ order))
    go true own (y ∷ first, rest, is) later =
        let others : places_of i order ≡ first ++ place ∷ rest = cc is in
        more (later (first, rest, others))

in_both : {A : Type 0} (x : A) (xs ys : List A) → In x ys → In x (xs ++ ys)
in_both x [] ys it = it
in_both x (z ∷ xs) ys it = let more = in_both x xs ys it in (z ∷ more.0, more.1, ap (λ zs. z ∷ zs) more.2)

in_first : {A : Type 0} (x : A) (xs ys : List A) → In x xs → In x (xs ++ ys)
in_first x xs ys (first, rest, is) = (first, rest ++ ys, ap (λ zs. zs ++ ys) is ∙ again first rest ys)
  where
    again : (first rest ys : List _) → (first ++ x ∷ rest) ++ ys ≡ first ++ x ∷ (rest ++ ys)
    again [] rest ys = refl
    again (z ∷ first) rest ys = ap (λ zs. z ∷ zs) (again first rest ys)

module _ (logs : List (List (ℕ × NodeEvent))) (lost : List Bool) where
  -- an entry of the order is among its steps
  in_steps : (i place : ℕ) (event : NodeEvent) (order : List (ℕ × ℕ)) → entry_at (merge_log logs i) place ≡ event ∷ [] → In (i, place) order → In (Turned (step_as i event)) (steps_behind logs lost order)
  in_steps i place event [] is ([], rest, empty) = absurd (cc)
  in_steps i place event [] is (y ∷ first, rest, empty) = absurd (cc)
  in_steps i place event (x ∷ order) is ([], rest, same) =
      let one : x ≡ (i, place) = cc same in
      subst (λ (z : ℕ × ℕ). In (Turned (step_as i event)) (steps_at logs lost z order ++ steps_behind logs lost order)) (sym one)
      (in_first (Turned (step_as i event)) (steps_at logs lost (i, place) order) (steps_behind logs lost order)
      (in_first (Turned (step_as i event)) (map (λ e. Turned (step_as i e)) (entry_at (merge_log logs i) place)) (loss_if (is_last_of logs lost (i, place)) logs i order)
      ([], [], ap (map (λ e. Turned (step_as i e))) is)))
  in_steps i place event (x ∷ order) is (y ∷ first, rest, same) =
      let others : order ≡ first ++ (i, place) ∷ rest = cc same in
      in_both (Turned (step_as i event)) (steps_at logs lost x order) (steps_behind logs lost order) (in_steps i place event order is (first, rest, others))

-- what is seen of a step is that step
step_seen : (t : FrameStep) (i : ℕ) (event : NodeEvent) → seen_step t ≡ Turned (step_as i event) → t ≡ step_as i event
step_seen (steps.Take j q) i event e = cc
step_seen (steps.Command j port c) i event e = cc
step_seen (steps.Retry j op) i event e = cc
step_seen (steps.SeeLoss j q) i event e = cc
step_seen (steps.Lose j keep) i event e = absurd (cc)

in_schedule : (i : ℕ) (event : NodeEvent) (schedule : List FrameStep) → In (Turned (step_as i event)) (map seen_step schedule) → In (step_as i event) schedule
in_schedule i event [] ([], rest, empty) = absurd (cc)
in_schedule i event [] (y ∷ first, rest, empty) = absurd (cc)
in_schedule i event (t ∷ schedule) ([], rest, is) =
    let one : seen_step t ≡ Turned (step_as i event) = cc is in
    ([], schedule, ap (λ z. z ∷ schedule) (step_seen t i event one))
in_schedule i event (t ∷ schedule) (y ∷ first, rest, is) =
    let others : map seen_step schedule ≡ first ++ Turned (step_as i event) ∷ rest = cc is in
    let more = in_schedule i event schedule (first, rest, others) in
    (t ∷ more.0, more.1, ap (λ zs. t ∷ zs) more.2)

-- ---- from the schedule to the logs

module _ (logs : List (List (ℕ × NodeEvent))) (lost : List Bool) where
  -- a command that is a step is in the log of its node
  abbrev Logged : SeenStep → Type 0
  Logged s = (node port : ℕ) (c : Command) → s ≡ Turned (steps.Command node port c) → (test : NodeEvent → Bool) → test (events.Command port c) ≡ true → has_event test (merge_log logs node) ≡ true

  lost_logged : (node : ℕ) (keep : List ℕ) → Logged (Lost node keep)
  lost_logged node keep j port c e = absurd (cc)

  loss_logged : (b : Bool) (node : ℕ) (order : List (ℕ × ℕ)) → AllByRecursion Logged (loss_if b logs node order)
  loss_logged true node order = (lost_logged node _, tt)
  loss_logged false node order = tt

  first_logged : (order : List (ℕ × ℕ)) (n : ℕ) → AllByRecursion Logged (losses_first logs lost order n)
  first_logged order zero = tt
  first_logged order (suc n) = all_both Logged (losses_first logs lost order n) (loss_if (is_alone logs lost n) logs n order) (first_logged order n) (loss_logged (is_alone logs lost n) n order)

  or_right : (a b : Bool) → b ≡ true → (a || b) ≡ true
  or_right true b e = refl
  or_right false b e = e

  -- an entry of a log
  abbrev IsIn : List (ℕ × NodeEvent) → NodeEvent → Type 0
  IsIn log event = (test : NodeEvent → Bool) → test event ≡ true → has_event test log ≡ true

  weaker : (P Q : NodeEvent → Type 0) (xs : List NodeEvent) → ((x : NodeEvent) → P x → Q x) → AllByRecursion P xs → AllByRecursion Q xs
  weaker P Q [] each all = tt
  weaker P Q (x ∷ xs) each all = (each x all.0, weaker P Q xs each all.1)

  entries_in : (log : List (ℕ × NodeEvent)) (place : ℕ) → AllByRecursion (IsIn log) (entry_at log place)
  entries_in [] zero = tt
  entries_in [] (suc place) = tt
  entries_in (x ∷ log) zero = ((λ test is. ap (λ b. b || has_event test log) is), tt)
  entries_in (x ∷ log) (suc place) = weaker (IsIn log) (IsIn (x ∷ log)) (entry_at log place) (λ event it test is. or_right (test x.1) (has_event test log) (it test is)) (entries_in log place)

  -- the step that an event is
  one_logged : (i : ℕ) (event : NodeEvent) → IsIn (merge_log logs i) event → Logged (Turned (step_as i event))
  one_logged i (events.Take peer) it node port c e test is = absurd (cc e)
  one_logged i (events.Retry op) it node port c e test is = absurd (cc e)
  one_logged i (events.SeeLoss peer) it node port c e test is = absurd (cc e)
  one_logged i (events.Command q d) it node port c e test is =
      let own : i ≡ node = cc e in
      let at : q ≡ port = cc e in
      let same : d ≡ c = cc e in
      subst (λ j. has_event test (merge_log logs j) ≡ true) own (it test (ap test (λ k. events.Command (at k) (same k)) ∙ is))

  turns_logged : (i : ℕ) (es : List NodeEvent) → AllByRecursion (IsIn (merge_log logs i)) es → AllByRecursion Logged (map (λ e. Turned (step_as i e)) es)
  turns_logged i [] all = tt
  turns_logged i (e ∷ es) all = (one_logged i e all.0, turns_logged i es all.1)

  behind_logged : (order : List (ℕ × ℕ)) → AllByRecursion Logged (steps_behind logs lost order)
  behind_logged [] = tt
  behind_logged (x ∷ order) =
      all_both Logged (steps_at logs lost x order) (steps_behind logs lost order)
      (all_both Logged (map (λ e. Turned (step_as x.0 e)) (entry_at (merge_log logs x.0) x.1)) (loss_if (is_last_of logs lost x) logs x.0 order)
      (turns_logged x.0 (entry_at (merge_log logs x.0) x.1) (entries_in (merge_log logs x.0) x.1)) (loss_logged (is_last_of logs lost x) x.0 order))
      (behind_logged order)

  -- the same, of an event of the machine
  abbrev EventLogged : Event Action → Type 0
  EventLogged d = (node port : ℕ) (c : Command) → d ≡ Do node (Issue port c) → (test : NodeEvent → Bool) → test (events.Command port c) ≡ true → has_event test (merge_log logs node) ≡ true

  events_logged : (schedule : List FrameStep) → AllByRecursion Logged (map seen_step schedule) → AllByRecursion EventLogged (steps_of (map losing_event schedule))
  events_logged [] all = tt
  events_logged (steps.Take i p ∷ schedule) all = ((λ node port c e. absurd (cc)), events_logged schedule all.1)
  events_logged (steps.SeeLoss i p ∷ schedule) all = ((λ node port c e. absurd (cc)), events_logged schedule all.1)
  events_logged (steps.Retry i op ∷ schedule) all = ((λ node port c e. absurd (cc)), events_logged schedule all.1)
  events_logged (steps.Lose i keep ∷ schedule) all = events_logged schedule all.1
  events_logged (steps.Command i q d ∷ schedule) all = (here, events_logged schedule all.1)
    where
      here : EventLogged (Do i (Issue q d))
      here node port c e =
          let own : i ≡ node = cc e in
          let at : q ≡ port = cc e in
          let same : d ≡ c = cc e in
          all.0 node port c (λ k. Turned (steps.Command (own k) (at k) (same k)))

  all_logged : (schedule : List FrameStep) → IsLosingSchedule logs lost schedule → AllByRecursion EventLogged (steps_of (map losing_event schedule))
  all_logged schedule is = events_logged schedule (subst (AllByRecursion Logged) (sym is.is)
      (all_both Logged (losses_first logs lost is.order (length logs)) (steps_behind logs lost is.order) (first_logged is.order (length logs)) (behind_logged is.order)))

  one_of : {A : Type 0} (P : A → Type 0) (first rest : List A) (x : A) → AllByRecursion P (first ++ x ∷ rest) → P x
  one_of P [] rest x all = all.0
  one_of P (y ∷ first) rest x all = one_of P first rest x all.1

  -- a command that came in is in the log of its node
  pub issued_logged : (es : List (Event Action)) → AllByRecursion EventLogged es → (node port k : ℕ) (c : Command) → slice_get (issued node port es) k ≡ Some c
      → (test : NodeEvent → Bool) → test (events.Command port c) ≡ true → has_event test (merge_log logs node) ≡ true
  issued_logged [] all node port k c is test passes = absurd (cc is)
  issued_logged (Take i p ∷ es) all node port k c is test passes = issued_logged es all.1 node port k c is test passes
  issued_logged (Do i (Retry op) ∷ es) all node port k c is test passes = issued_logged es all.1 node port k c is test passes
  issued_logged (Do i (Issue q d) ∷ es) all node port k c is test passes =
      go (nat_eq node i && nat_eq port q) refl k is (λ j same. issued_logged es all.1 node port j c same test passes)
    where
      go : (b : Bool) → (nat_eq node i && nat_eq port q) ≡ b → (k : ℕ) → slice_get (cond b (d ∷ issued node port es) (issued node port es)) k ≡ Some c
          → ((j : ℕ) → slice_get (issued node port es) j ≡ Some c → has_event test (merge_log logs node) ≡ true) → has_event test (merge_log logs node) ≡ true
      go false other k is later = later k is
      go true own (suc k) is later = later k is
      go true own zero is later =
          let both = and_true (nat_eq node i) (nat_eq port q) own in
          let at : i ≡ node = sym (eqb-true node i both.0) in
          let of : q ≡ port = sym (eqb-true port q both.1) in
          let same : d ≡ c = some_is is in
          all.0 node port c (λ j. Do (at j) (Issue (of j) (same j))) test passes

-- a log in which something is has its place
log_there : (test : NodeEvent → Bool) (logs : List (List (ℕ × NodeEvent))) (node : ℕ) → has_event test (merge_log logs node) ≡ true → node < length logs
log_there test [] node is = absurd (cc)
log_there test (log ∷ logs) zero is = omega arith
log_there test (log ∷ logs) (suc node) is = let low = log_there test logs node is in omega (arith, low)

-- ---- an entry of a history

in_group : (name : Term) (es before after : List Entry) (e : Entry) → of_group name es ≡ before ++ e ∷ after
    → (first : List Entry) × (rest : List Entry) × (es ≡ first ++ e ∷ rest) × (same_term name (name_of e.update) ≡ true)
in_group name [] [] after e is = absurd (cc)
in_group name [] (x ∷ before) after e is = absurd (cc)
in_group name (d ∷ es) before after e is = go (same_term name (name_of d.update)) refl before is (in_group name es)
  where
    go : (b : Bool) → same_term name (name_of d.update) ≡ b → (before : List Entry) → cond b (d ∷ of_group name es) (of_group name es) ≡ before ++ e ∷ after
        → ((before after : List Entry) (e : Entry) → of_group name es ≡ before ++ e ∷ after → (first : List Entry) × (rest : List Entry) × (es ≡ first ++ e ∷ rest) × (same_term name (name_of e.update) ≡ true))
        → (first : List Entry) × (rest : List Entry) × (d ∷ es ≡ first ++ e ∷ rest) × (same_term name (name_of e.update) ≡ true)
    go false other before is later = let l = later before after e is in (d ∷ l.0, l.1, ap (λ xs. d ∷ xs) l.2, l.3)
    go true own [] is later =
        let one : d ≡ e = cc is in
        ([], es, ap (λ x. x ∷ es) one, subst (λ (x : Entry). same_term name (name_of x.update) ≡ true) one own)
    go true own (x ∷ before) is later =
        let others : of_group name es ≡ before ++ e ∷ after = cc is in
        let l = later before after e others in (d ∷ l.0, l.1, ap (λ xs. d ∷ xs) l.2, l.3)

-- a command that asks for an update of a group
asks_so : (name : Term) (c : Command) (u : Update) → change_of c ≡ Some u → same_term name (name_of u) ≡ true → asks_of name c ≡ true
asks_so name (commands.Create group) u e same = term_laws.laws-law.symm group name ∙ (ap (λ z. same_term name (name_of z)) (some_is e) ∙ same)
asks_so name (commands.Delete group) u e same = term_laws.laws-law.symm group name ∙ (ap (λ z. same_term name (name_of z)) (some_is e) ∙ same)
asks_so name (commands.Join group pid) u e same = term_laws.laws-law.symm group name ∙ (ap (λ z. same_term name (name_of z)) (some_is e) ∙ same)
asks_so name (commands.Leave group pid) u e same = term_laws.laws-law.symm group name ∙ (ap (λ z. same_term name (name_of z)) (some_is e) ∙ same)
asks_so name commands.Make u e same = absurd (cc)
asks_so name (commands.Finish pid) u e same = absurd (cc)
asks_so name (commands.Members group) u e same = absurd (cc)
asks_so name (commands.LocalMembers group) u e same = absurd (cc)
asks_so name commands.WhichGroups u e same = absurd (cc)
asks_so name (commands.Closest group word) u e same = absurd (cc)

-- ---- one step of the schedule

-- The world in which a step is made, and that behind it.
record MadeAt (config : Config) (w : LosingFrameWorld) (first rest : List FrameStep) (step : FrameStep) (u : LosingFrameWorld) : Type 0 where
  m : LosingFrameWorld
  next : LosingFrameWorld
  before : LosingLeads (losing_frame_machine config) last_notice w (map losing_event first) m
  can : CanBeMade (told_of config m step)
  happens : losing_happens (losing_frame_machine config) last_notice m (losing_event step) ≡ Some next
  after : LosingLeads (losing_frame_machine config) last_notice next (map losing_event rest) u

leads_on : (config : Config) (schedule : List FrameStep) (w u : LosingFrameWorld) → MadeInTurn config w schedule u → LosingLeads (losing_frame_machine config) last_notice w (map losing_event schedule) u
leads_on config [] w u made = made
leads_on config (step ∷ schedule) w u (can, x, happens, later) = (x, happens, leads_on config schedule x u later)

made_at : (config : Config) (first rest : List FrameStep) (step : FrameStep) (w u : LosingFrameWorld) → MadeInTurn config w (first ++ step ∷ rest) u → MadeAt config w first rest step u
made_at config [] rest step w u (can, x, happens, later) = record { m = w; next = x; before = refl; can = can; happens = happens; after = leads_on config rest x u later }
made_at config (s ∷ first) rest step w u (can, x, happens, later) =
    let at = made_at config first rest step x u later in
    record { m = at.m; next = at.next; before = (x, happens, at.before); can = at.can; happens = at.happens; after = at.after }

-- a peer by its place, as a machine word counts, is the node
peer_is : (i p : ℕ) → i ≢ p → p ≤ 16 → node_of_peer i (peer_place i p) ≡ p
peer_is i p apart few =
    let back : place_of_peer i (peer_place i p) ≡ p = there_and_back i p (λ e. apart (sym e)) in
    peer_within i (peer_place i p) (omega (arith, back, few)) ∙ back

-- a loss that is not refused is seen where nothing is left but its notice
all_drained : (a b c d e : Bool) → first_that_holds ((a, NoSuchPlace) ∷ (b, NodeLost) ∷ (c, NotLost) ∷ (not d, NotDrained) ∷ (e, ClockFull) ∷ []) ≡ None → d ≡ true
all_drained false false false true e is = refl
all_drained false false false false e is = absurd (cc)
all_drained false false true d e is = absurd (cc)
all_drained false true c d e is = absurd (cc)
all_drained true b c d e is = absurd (cc)

first_notice : (xs : List (Stamped (Noticed Message))) → way_is_drained xs ≡ true → (x : Stamped (Noticed Message)) × (rest : List (Stamped (Noticed Message))) × (xs ≡ x ∷ rest) × (x.packet ≡ Last)
first_notice [] e = absurd (cc)
first_notice (x ∷ rest) e = go x.packet refl e
  where
    go : (packet : Noticed Message) → x.packet ≡ packet → is_notice packet ≡ true → (y : Stamped (Noticed Message)) × (more : List (Stamped (Noticed Message))) × (x ∷ rest ≡ y ∷ more) × (y.packet ≡ Last)
    go Last is e = (x, rest, refl, is)
    go (Sent y) is e = absurd (cc)

first_packet : (xs : List (Stamped (Noticed Message))) → none_sent xs ≡ false → (x : Stamped (Noticed Message)) × (rest : List (Stamped (Noticed Message))) × (xs ≡ x ∷ rest) × (is_notice x.packet ≡ false)
first_packet [] e = absurd (cc)
first_packet (x ∷ rest) e = (x, rest, refl, e)

no_notice : (given : Input Message Action) (p : ℕ) → noted given ≡ Taken p Last → ⊥
no_notice (Taken q y) p e = absurd (cc)
no_notice (Own action) p e = absurd (cc)

notice_of : {p q : ℕ} {x z : Noticed Message} → ◌≡◌ {A = Input (Noticed Message) Action} (Taken p x) (Taken q z) → p ≡ q
notice_of e = cc

step_is : {d e : Event Action} → ◌≡◌ {A = LosingEvent Action} (Step d) (Step e) → d ≡ e
step_is same = cc

-- who takes a last notice has seen the loss
module _ (config : Config) (w v : LosingFrameWorld) (i p : ℕ) (first : Stamped (Noticed Message)) (rest : List (Stamped (Noticed Message))) (way : w.world.wire p i ≡ first ∷ rest) (last : first.packet ≡ Last) where
  sees : Passed config (bare w) (bare v) (Step (Take i p)) → (v.world.node i).state.lost (name_at config p) ≡ true
  sees (Died j keep is there lives cut gone) = absurd (cc is)
  sees (Went d is lives hap same) = ap (λ (s : State). s.lost (name_at config p)) state_is ∙ by (makes config i ((bare w).world.node i) mine.input mine.turn mine.made)
    where
      mine : Happened (losing_machine_of config) (bare w).world (Take i p) (bare v).world
      mine = subst (λ e. Happened (losing_machine_of config) (bare w).world e (bare v).world) (step_is (sym is)) hap

      state_is : (v.world.node i).state ≡ mine.turn.state
      state_is = (changes (losing_machine_of config) (bare w).world (bare v).world (Take i p) mine).state

      taken : mine.input ≡ Taken p Last
      taken = some_is (sym mine.given ∙ (ap (λ xs. first_from {C = Action} p (packets_of xs)) way ∙ ap (λ x. Some (Taken p x)) last))

      by : Makes config i ((bare w).world.node i) mine.input mine.turn → mine.turn.state.lost (name_at config p) ≡ true
      by (Steps given t is_ made_ same_) = absurd (no_notice given p (sym is_ ∙ taken))
      by (Sees q is_ not_yet same_) =
          ap (λ (u : Turn State (Noticed Message) Report). u.state.lost (name_at config p)) same_
          ∙ read_at same_atom atoms ((bare w).world.node i).lost (name_at config q) true (name_at config p) (ap (name_at config) (notice_of (sym taken ∙ is_)))

-- ---- one run

-- the laws that are cited
abbrev Agreeing : Type 0
Agreeing = (config : Config) (w : LosingFrameWorld) (es : List (LosingEvent Action)) (i j x : ℕ) (name : Term)
    → IsDistinct same_atom (names_of config) → LosingReaches config es w → NonePendingLive config w
    → is_place (length config) i ≡ true → is_place (length config) j ≡ true → is_place (length config) x ≡ true
    → w.gone i ≡ false → w.gone j ≡ false → w.gone x ≡ false
    → formed (nodes_at config i) (w.world.node i).state ≡ true → formed (nodes_at config j) (w.world.node j).state ≡ true
    → SawAll config w i → SawAll config w j → HeardTheLost config es w i → HeardTheLost config es w j
    → (w.world.node x).state.locks name ≡ None → NoneOfLost w name
    → (w.world.node i).state.table name ≡ (w.world.node j).state.table name

abbrev Finishing : Type 0
Finishing = (config : Config) (w : LosingFrameWorld) (es : List (LosingEvent Action)) (i : ℕ) (pid : Pid) → IsDistinct same_atom (names_of config) → LosingReaches config es w
    → pid.node ≡ name_at config i → (w.world.node i).state.ended pid ≡ true → FinishedAt (steps_of es) i pid

module _ (agreeing : Agreeing) (finishing : Finishing) (given : Config) (lost : List Bool) (nodes : List NodeOf) (logs : List (Vec (ℕ × NodeEvent) Global)) (schedule : List FrameStep)
    (run : AreOneLosingRun given lost nodes schedule) (count : length logs ≡ length nodes) (is : IsLosingSchedule (map (λ v. v.items) logs) lost schedule) where
  abbrev all_logs : List (List (ℕ × NodeEvent))
  all_logs = map (λ v. v.items) logs

  log_count : length all_logs ≡ length logs
  log_count = length-map logs (λ v. v.items)

  place_is : (i : ℕ) → i < length nodes → is_place (length run.config) i ≡ true
  place_is i low = (Decides-ltb i (length run.config)).1 (let size = run.size in omega (arith, low, size))

  place_low : (i : ℕ) → is_place (length run.config) i ≡ true → i < length nodes
  place_low i there = let low = (Decides-ltb i (length run.config)).0 there in let size = run.size in omega (arith, low, size)

  gone_is : (i : ℕ) → i < length nodes → run.u.gone i ≡ was_lost lost i
  gone_is i low = run.gone i (let size = run.size in omega (arith, low, size))

  -- ---- what a node did

  -- an event of its log is a step of the schedule
  in_run : (i : ℕ) (wanted : NodeEvent → Bool) → i < length logs → has_event wanted (log_at logs i) ≡ true
      → (event : NodeEvent) × (wanted event ≡ true) × (first : List FrameStep) × (rest : List FrameStep) × (schedule ≡ first ++ step_as i event ∷ rest)
  in_run i wanted low has =
      let at = place_in_log wanted (log_at logs i) has in
      let low_all : i < length all_logs = omega (arith, low, log_count) in
      let places = every_place (length all_logs) (clocks_in all_logs) i low_all is.order is.merges in
      let size : length (clocks_in all_logs i) ≡ length (log_at logs i) = length-map (log_at logs i) (λ x. x.0) in
      let within = at.2 in
      let range = in_range 0 (length (clocks_in all_logs i)) at.0 (omega (arith, within, size)) in
      let here : In at.0 (places_of i is.order) = (range.0, range.1, places ∙ (range.2 ∙ (let same : 0 + at.0 ≡ at.0 = omega arith in ap (λ k. range.0 ++ k ∷ range.1) same))) in
      let steps_in = in_steps all_logs lost i at.0 at.1 is.order at.4 (in_order i at.0 is.order here) in
      let seen = in_both (Turned (step_as i at.1)) (losses_first all_logs lost is.order (length all_logs)) (steps_behind all_logs lost is.order) steps_in in
      let it = in_schedule i at.1 schedule (subst (In (Turned (step_as i at.1))) (sym is.is) seen) in
      (at.1, at.3, it.0, it.1, it.2)

  reached_at : (first rest : List FrameStep) (step : FrameStep) → schedule ≡ first ++ step ∷ rest → MadeAt run.config (nobody_gone (start_of (losing_frame_machine run.config))) first rest step run.u
  reached_at first rest step parts = made_at run.config first rest step (nobody_gone (start_of (losing_frame_machine run.config))) run.u
      (subst (λ xs. MadeInTurn run.config (nobody_gone (start_of (losing_frame_machine run.config))) xs run.u) parts run.made)

  module _ (i p : ℕ) (low_i : i < length nodes) (low_p : p < length nodes) (apart : i ≢ p) where
    few : p ≤ 16
    few = let f = run.few in let size = run.size in omega (arith, low_p, f, size)

    -- the loss of p was seen
    saw : has_event (is_loss_of (peer_place i p)) (log_at logs i) ≡ true → has_seen run.config run.u i p ≡ true
    saw has = go (in_run i (is_loss_of (peer_place i p)) (omega (arith, low_i, count)) has)
      where
        seen_by : (peer : ℕ) (first rest : List FrameStep) → peer ≡ peer_place i p → schedule ≡ first ++ steps.SeeLoss i (node_of_peer i peer) ∷ rest → has_seen run.config run.u i p ≡ true
        seen_by peer first rest at parts =
            let node : node_of_peer i peer ≡ p = ap (node_of_peer i) at ∙ peer_is i p apart few in
            let made = reached_at first rest (steps.SeeLoss i p) (parts ∙ ap (λ q. first ++ steps.SeeLoss i q ∷ rest) node) in
            let drained = all_drained (not (is_pair (length run.config) i p)) (made.m.gone i || (made.m.world.node i).state.lost (name_at run.config p)) (not (made.m.gone p)) (way_is_drained (made.m.world.wire p i))
            (is_full (clock_after (made.m.world.node i).clock (made.m.world.wire p i))) made.can.allowed in
            let notice = first_notice (made.m.world.wire p i) drained in
            let now = sees run.config made.m made.next i p notice.0 notice.1 notice.2 notice.3 (passed run.config made.m made.next (Step (Take i p)) made.happens) in
            seen_later run.config made.next run.u (map losing_event rest) i made.after (name_at run.config p) now

        go : (event : NodeEvent) × (is_loss_of (peer_place i p) event ≡ true) × (first : List FrameStep) × (rest : List FrameStep) × (schedule ≡ first ++ step_as i event ∷ rest) → has_seen run.config run.u i p ≡ true
        go (events.SeeLoss peer, wanted, first, rest, parts) = seen_by peer first rest (eqb-true peer (peer_place i p) wanted) parts
        go (events.Take peer, wanted, first, rest, parts) = absurd (cc)
        go (events.Command port c, wanted, first, rest, parts) = absurd (cc)
        go (events.Retry op, wanted, first, rest, parts) = absurd (cc)

    -- a packet of p was taken
    heard : has_event (is_take_of (peer_place i p)) (log_at logs i) ≡ true → Heard run.config (map losing_event schedule) i p
    heard has = go (in_run i (is_take_of (peer_place i p)) (omega (arith, low_i, count)) has)
      where
        heard_by : (peer : ℕ) (first rest : List FrameStep) → peer ≡ peer_place i p → schedule ≡ first ++ steps.Take i (node_of_peer i peer) ∷ rest → Heard run.config (map losing_event schedule) i p
        heard_by peer first rest at parts =
            let node : node_of_peer i peer ≡ p = ap (node_of_peer i) at ∙ peer_is i p apart few in
            let whole : schedule ≡ first ++ steps.Take i p ∷ rest = parts ∙ ap (λ q. first ++ steps.Take i q ∷ rest) node in
            let made = reached_at first rest (steps.Take i p) whole in
            let packet = first_packet (made.m.world.wire p i) made.can.busy in
            record {
              before = map losing_event first;
              after = map losing_event rest;
              is = ap (map losing_event) whole ∙ map-append losing_event first (steps.Take i p ∷ rest);
              m = made.m;
              reached = made.before;
              first = packet.0;
              rest = packet.1;
              there = packet.2;
              packet = packet.3;
            }

        go : (event : NodeEvent) × (is_take_of (peer_place i p) event ≡ true) × (first : List FrameStep) × (rest : List FrameStep) × (schedule ≡ first ++ step_as i event ∷ rest) → Heard run.config (map losing_event schedule) i p
        go (events.Take peer, wanted, first, rest, parts) = heard_by peer first rest (eqb-true peer (peer_place i p) wanted) parts
        go (events.SeeLoss peer, wanted, first, rest, parts) = absurd (cc)
        go (events.Command port c, wanted, first, rest, parts) = absurd (cc)
        go (events.Retry op, wanted, first, rest, parts) = absurd (cc)

  -- ---- the live nodes

  at : (k : ℕ) (d : NodeOf) → k < length nodes → slice_get nodes k ≡ Some (get_or nodes k d)
  at k d low = slice_get-get_or nodes k d low

  state_is : (k : ℕ) (d : NodeOf) → k < length nodes → (run.u.world.node k).state ≡ state_in (get_or nodes k d)
  state_is k d low = ap (λ s. s.state) (run.shown k (get_or nodes k d) (at k d low)).state

  formed_is : (k : ℕ) (d : NodeOf) → k < length nodes → formed_in (get_or nodes k d) ≡ formed (nodes_at run.config k) (run.u.world.node k).state
  formed_is k d low =
      let s = (run.u.world.node k).state in
      ap (λ names. formed (live_nodes (whole_in names) (state_in (get_or nodes k d))) (state_in (get_or nodes k d))) (run.shown k (get_or nodes k d) (at k d low)).names
      ∙ (ap (λ (z : State). formed (live_nodes (nodes_at run.config k) z) z) (sym (state_is k d low))
      ∙ all_left s.merged s.lost (nodes_at run.config k).peers (waits run.config (map losing_event schedule) run.u run.reached k).lost)

  apart_from : (i p : ℕ) → was_lost lost i ≡ false → was_lost lost p ≡ true → i ≢ p
  apart_from i p kept gone same = absurd (cc (sym kept ∙ (ap (was_lost lost) same ∙ gone)))

  module _ (no_loss : is_loss_pending lost logs ≡ false) (no_end : is_end_pending (survivors lost nodes) logs ≡ false) where
    saw_all : (i : ℕ) → i < length nodes → was_lost lost i ≡ false → SawAll run.config run.u i
    saw_all i low kept p there gone =
        let low_p = place_low p there in
        let lost_p : was_lost lost p ≡ true = sym (gone_is p low_p) ∙ gone in
        let missing = not_such (was_lost lost p) (is_missing is_loss_of lost logs p) (none_is (λ node. was_lost lost node && is_missing is_loss_of lost logs node) (length logs) p no_loss (omega (arith, low_p, count))) lost_p in
        let has = not_missing (was_lost lost i) (has_event (is_loss_of (peer_place i p)) (log_at logs i))
        (none_is (λ place. not (was_lost lost place) && not (has_event (is_loss_of (peer_place place p)) (log_at logs place))) (length logs) i missing (omega (arith, low, count))) kept in
        saw i p low low_p (apart_from i p kept lost_p) has

    -- ---- no end is pending among them

    log_of_any : (test : NodeEvent → Bool) (xs : List (Vec (ℕ × NodeEvent) Global)) (k : ℕ) → has_event test (merge_log (map (λ v. v.items) xs) k) ≡ true → list_any (λ (log : Vec (ℕ × NodeEvent) Global). has_event test log.items) xs ≡ true
    log_of_any test [] k e = absurd (cc)
    log_of_any test (log ∷ xs) zero e = ap (λ b. b || list_any (λ (l : Vec (ℕ × NodeEvent) Global). has_event test l.items) xs) e
    log_of_any test (log ∷ xs) (suc k) e = go (has_event test log.items) (log_of_any test xs k e)
      where
        go : (b : Bool) → list_any (λ (l : Vec (ℕ × NodeEvent) Global). has_event test l.items) xs ≡ true → (b || list_any (λ (l : Vec (ℕ × NodeEvent) Global). has_event test l.items) xs) ≡ true
        go true later = refl
        go false later = later

    none_pending : NonePendingLive run.config run.u
    none_pending home i pid home_there i_there home_lives i_lives own ended = go ((run.u.world.node i).state.ended pid) refl
      where
        low_home : home < length nodes
        low_home = place_low home home_there

        low_i : i < length nodes
        low_i = place_low i i_there

        has : NodeOf → Bool
        has node = (state_in node).ended pid

        first : (xs : List NodeOf) → xs ≡ nodes → NodeOf
        first [] same = absurd (let l = ap length same in let low = low_i in omega (arith, l, low))
        first (x ∷ xs) same = x

        d : NodeOf
        d = first nodes refl

        some : (run.u.world.node i).state.ended pid ≡ false → is_taken_by_some (survivors lost nodes) pid ≡ true
        some not_i =
            let any : list_any has (survivors lost nodes) ≡ true = any_survivor has lost nodes home d low_home (sym (gone_is home low_home) ∙ home_lives) (ap (λ (s : State). s.ended pid) (sym (state_is home d low_home)) ∙ ended) in
            let each : list_all has (survivors lost nodes) ≡ false = not_each has lost nodes i d low_i (sym (gone_is i low_i) ∙ i_lives) (ap (λ (s : State). s.ended pid) (sym (state_is i d low_i)) ∙ not_i) in
            (λ k. any k && not (each k))

        go : (b : Bool) → (run.u.world.node i).state.ended pid ≡ b → (run.u.world.node i).state.ended pid ≡ true
        go true is_ = is_
        go false not_i =
            let f = finishing run.config run.u (map losing_event schedule) home pid run.apart run.reached own ended in
            let logged = one_of all_logs lost (EventLogged all_logs lost) f.before f.after (Do home (Issue f.port (commands.Finish pid))) (subst (AllByRecursion (EventLogged all_logs lost)) f.is (all_logged all_logs lost schedule is)) in
            let found = logged home f.port (commands.Finish pid) refl (is_pending_end (survivors lost nodes)) (some not_i) in
            absurd (cc (sym no_end ∙ log_of_any (is_pending_end (survivors lost nodes)) logs home found))

    -- ---- a group that is compared

    module _ (name : Term) (not_of : is_touched_by_lost lost logs name ≡ false) where
      -- of a lost node
      of_one : (p : ℕ) → p < length nodes → was_lost lost p ≡ true → (has_event (is_change_of name) (log_at logs p) ≡ false) × (is_missing is_take_of lost logs p ≡ false)
      of_one p low gone = or_false (has_event (is_change_of name) (log_at logs p)) (is_missing is_take_of lost logs p)
          (not_such (was_lost lost p) _ (none_is (λ node. was_lost lost node && (has_event (is_change_of name) (log_at logs node) || is_missing is_take_of lost logs node)) (length logs) p not_of (omega (arith, low, count))) gone)

      heard_all : (i : ℕ) → i < length nodes → was_lost lost i ≡ false → HeardTheLost run.config (map losing_event schedule) run.u i
      heard_all i low kept p pair gone =
          let low_p = place_low p (pair_second (length run.config) i p pair) in
          let lost_p : was_lost lost p ≡ true = sym (gone_is p low_p) ∙ gone in
          let has = not_missing (was_lost lost i) (has_event (is_take_of (peer_place i p)) (log_at logs i))
          (none_is (λ place. not (was_lost lost place) && not (has_event (is_take_of (peer_place place p)) (log_at logs place))) (length logs) i (of_one p low_p lost_p).1 (omega (arith, low, count))) kept in
          heard i p low low_p (apart_from i p kept lost_p) has

      -- no entry of the group is of a lost node: its command would be in the log of that node
      none_of : NoneOfLost run.u name
      none_of before after e here = not_true (run.u.gone e.node) (λ gone.
          let inside = in_group name (entries run.u.world.reported) before after e here in
          let asked = run.survived.kept.stands.given inside.0 inside.1 e inside.2 in
          let log : has_event (is_change_of name) (merge_log all_logs e.node) ≡ true = by (nat_eq e.op.number 0) asked.0 asked.1 (asks_so name asked.0 e.update asked.2 inside.3) in
          let low_logs = log_there (is_change_of name) all_logs e.node log in
          let low : e.node < length nodes = omega (arith, low_logs, log_count, count) in
          absurd (cc (sym (of_one e.node low (sym (gone_is e.node low) ∙ gone)).0 ∙ log)))
        where
          by : (b : Bool) (c : Command) → cond b None (slice_get (issued e.node e.op.port (steps_of (map losing_event schedule))) (e.op.number - 1)) ≡ Some c → asks_of name c ≡ true
              → has_event (is_change_of name) (merge_log all_logs e.node) ≡ true
          by true c asked asks = absurd (cc)
          by false c asked asks = issued_logged all_logs lost (steps_of (map losing_event schedule)) (all_logged all_logs lost schedule is) e.node e.op.port (e.op.number - 1) c asked (is_change_of name) asks

    any_left : (f : NodeOf → Bool) (ls : List Bool) (xs : List NodeOf) → list_any f (survivors ls xs) ≡ true → (k : ℕ) × (k < length xs) × (was_lost ls k ≡ false) × ((d : NodeOf) → f (get_or xs k d) ≡ true)
    any_left f ls [] e = absurd (cc (sym e ∙ none ls))
      where
        none : (ls : List Bool) → list_any f (survivors ls []) ≡ false
        none [] = refl
        none (true ∷ ls) = refl
        none (false ∷ ls) = refl
    any_left f [] (x ∷ xs) e = go (f x) refl e (any_left f [] xs)
      where
        go : (b : Bool) → f x ≡ b → (b || list_any f (survivors [] xs)) ≡ true → (list_any f (survivors [] xs) ≡ true → (k : ℕ) × (k < length xs) × (was_lost [] k ≡ false) × ((d : NodeOf) → f (get_or xs k d) ≡ true))
            → (k : ℕ) × (k < length (x ∷ xs)) × (was_lost [] k ≡ false) × ((d : NodeOf) → f (get_or (x ∷ xs) k d) ≡ true)
        go true is_ _ later = (0, omega arith, refl, λ d. is_)
        go false is_ rest later = let l = later rest in let low = l.1 in (suc l.0, omega (arith, low), refl, l.3)
    any_left f (true ∷ ls) (x ∷ xs) e = let l = any_left f ls xs e in let low = l.1 in (suc l.0, omega (arith, low), l.2, l.3)
    any_left f (false ∷ ls) (x ∷ xs) e = go (f x) refl e (any_left f ls xs)
      where
        go : (b : Bool) → f x ≡ b → (b || list_any f (survivors ls xs)) ≡ true → (list_any f (survivors ls xs) ≡ true → (k : ℕ) × (k < length xs) × (was_lost ls k ≡ false) × ((d : NodeOf) → f (get_or xs k d) ≡ true))
            → (k : ℕ) × (k < length (x ∷ xs)) × (was_lost (false ∷ ls) k ≡ false) × ((d : NodeOf) → f (get_or (x ∷ xs) k d) ≡ true)
        go true is_ _ later = (0, omega arith, refl, λ d. is_)
        go false is_ rest later = let l = later rest in let low = l.1 in (suc l.0, omega (arith, low), l.2, l.3)

    none_so : {A : Type 0} (o : Option A) → is_none o ≡ true → o ≡ None
    none_so None e = refl
    none_so (Some x) e = absurd (cc)

    same_group : (i j : ℕ) (d e : NodeOf) (name : Term) → i < length nodes → j < length nodes → was_lost lost i ≡ false → was_lost lost j ≡ false
        → formed_in (get_or nodes i d) ≡ true → formed_in (get_or nodes j e) ≡ true → is_compared (survivors lost nodes) lost logs name ≡ true
        → (state_in (get_or nodes i d)).table name ≡ (state_in (get_or nodes j e)).table name
    same_group i j d e name low_i low_j kept_i kept_j full_i full_j compared =
        let both = and_true (is_seen_free (survivors lost nodes) name) (not (is_touched_by_lost lost logs name)) compared in
        let not_of = not_false (is_touched_by_lost lost logs name) both.1 in
        let x = any_left (λ node. is_none ((state_in node).locks name)) lost nodes both.0 in
        let free : (run.u.world.node x.0).state.locks name ≡ None = ap (λ (s : State). s.locks name) (state_is x.0 d x.1) ∙ none_so _ (x.3 d) in
        ap (λ (s : State). s.table name) (sym (state_is i d low_i))
        ∙ (agreeing run.config run.u (map losing_event schedule) i j x.0 name run.apart run.reached none_pending (place_is i low_i) (place_is j low_j) (place_is x.0 x.1)
        (gone_is i low_i ∙ kept_i) (gone_is j low_j ∙ kept_j) (gone_is x.0 x.1 ∙ x.2) (sym (formed_is i d low_i) ∙ full_i) (sym (formed_is j e low_j) ∙ full_j)
        (saw_all i low_i kept_i) (saw_all j low_j kept_j) (heard_all name not_of i low_i kept_i) (heard_all name not_of j low_j kept_j) free (none_of name not_of)
        ∙ ap (λ (s : State). s.table name) (state_is j e low_j))

  -- they agree
  pub survivors_agree : SurvivorsAgree nodes lost logs
  survivors_agree no_loss no_end =
      survivors_all (λ (x : NodeOf). formed_in x ≡ true → (name : Term) → is_compared (survivors lost nodes) lost logs name ≡ true → All (HasAs x name) (survivors lost nodes)) lost nodes
      (λ i d low_i kept_i full_i name compared. survivors_all (HasAs (get_or nodes i d) name) lost nodes
      (λ j e low_j kept_j full_j. same_group no_loss no_end i j d e name low_i low_j kept_i kept_j full_i full_j compared))
