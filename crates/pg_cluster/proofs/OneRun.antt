-- A cluster that has ended, as one run of its configuration.
use Rattle.pg_cluster_judges.proofs.Peers.{peer_within}
use Rattle.std.proofs.Common.{◌≡◌, ◌≢◌, ◌⊎◌, ◌<◌, ◌≤◌, ◌+◌, ℕ, Bool, true, false, cond}
use Rattle.std.proofs.Common.{nat_eq, List, [], ◌∷◌, ◌++◌, length, map, drop, get_or}
use Rattle.std.proofs.Common.{Some, zero, suc, refl, sym, ◌∙◌, ap, subst, arith, inl, inr}
use Rattle.std.specs.Prelude.{slice_get}
use Rattle.std.specs.List.{All, AllByRecursion, IsDistinct}
use Rattle.std.proofs.lemmas.Bool.{cases_eq, eq-eqb, ne_eqb}
use Rattle.std.proofs.lemmas.Bool.Decides.{leb_tells}
use Rattle.std.proofs.lemmas.List.{get_or-map, length-map, map-append, append-nil}
use Rattle.std.proofs.lemmas.Option.{slice_get-get_or, slice_get_within, get_or_from_slice_get}
use Rattle.pg_cluster_judges.specs.PgStep.Machines.Machine.{Machine, Event, World, is_there, start_of}
use Rattle.pg_cluster_judges.specs.PgLawsLosses.Reached.{LosingReaches}
use Rattle.pg_cluster_judges.specs.PgLawsLosses.Retrying.Survived.{LossesSurvived}
use Rattle.pg_cluster_judges.specs.PgStep.Machines.Losing.{LosingEvent, nobody_gone}
use Rattle.pg_cluster_judges.specs.PgStep.Machines.Places.{is_pair, set_at}
use Rattle.pg_cluster_judges.specs.PgStep.Machines.Runs.{Leads}
use Rattle.pg_cluster_judges.proofs.PgStep.Machines.Steps.{happened}
use Rattle.pg_cluster_judges.specs.PgIndex.declared.index_table.IndexTable.{IndexTable}
use Rattle.pg_cluster_judges.specs.PgIndex.contracts.index_table.IndexTableGroupTable.TheImpl.{ghosts}
use Rattle.pg_cluster_judges.specs.Merge.{Merges, MergesRest, IsNext, rest_of, clocks_of}
use Rattle.pg_cluster_judges.specs.Merge.{clocks_in, log_at, entry_at, merged_logs, seen_log}
use Rattle.pg_cluster_judges.proofs.Seen.{same_merge}
use Rattle.pg_cluster_judges.specs.PgNode.Nodes.{held_by, links_of}
use Rattle.pg_cluster_judges.specs.PgNodeState.States.{state_of}
use Rattle.pg_ring.specs.Ends.{Sends, Receives}
use Rattle.pg_cluster_judges.specs.PgNodeRun.declared.log.NodeEvent.{NodeEvent}
use Rattle.pg_cluster_judges.specs.PgNodeRun.declared.log.NodeEvent.TheVariants as entries
use Rattle.pg_ring.specs.Slots.{taken}
use Rattle.pg_cluster_judges.specs.PgNodeRun.declared.notices.Notice.{Notice}
use Rattle.pg_cluster_judges.specs.PgNodeRun.Acts.{Act, AllLead, Given, IsFromPeer, Took, Saw, Did, SawNone, Standing}
use Rattle.pg_cluster_judges.specs.PgNodeRun.Acts.{log_entry, event_of as entry_event, loss_of, losses_of, seen_by, seen_in}
use Rattle.pg_cluster_judges.specs.PgNodeRun.Follows.{Follows, node_of as node_at, log_of}
use Rattle.pg_cluster_judges.specs.PgNodeRun.Notices.{IsUntold, NoticesGo, kept_of}
use Rattle.pg_cluster_judges.specs.PgNodeRun.Runs.{linked_of, notices_at, notices_of}
use Rattle.pg_cluster_judges.proofs.PgNodeRun.GoingOn.{seen_none}
use Rattle.pg_cluster_judges.specs.PgStep.Config.{Config, names_of}
use Rattle.pg_cluster_judges.specs.PgStep.FrameMachine.{frame_machine, last_notice, losing_frame_machine}
use Rattle.pg_cluster_judges.specs.PgStep.LossLaws.{LosingFrameWorld}
use Rattle.pg_cluster_judges.specs.PgStep.Step.{Action, Issue, Retry}
use Rattle.pg_cluster_judges.proofs.Turns.{first_none, others_none, saw_none, SeesNone}
use Rattle.pg_cluster_judges.specs.Apart.{End, HaveRun, Linked as LinkedBy, Crossed}
use Rattle.pg_cluster_judges.specs.Apart.{RanApart, RanTogether, event_at, events_in, end_of}
use Rattle.pg_cluster_judges.specs.ApartWithLosses.{MarkedReaches, RanLosing, RanPastLosses, SeesLost}
use Rattle.pg_cluster_judges.specs.ApartWithLosses.{clock_of, is_last_notice, losing_events, nodes_in}
use Rattle.pg_cluster_judges.specs.PgWorldPackets.declared.step.FrameStep.{FrameStep}
use Rattle.pg_cluster_judges.specs.PgWorldPackets.declared.step.FrameStep.TheVariants as steps
use Rattle.pg_cluster_judges.specs.PgWorld.Crossings.{node_of}
use Rattle.pg_cluster_judges.specs.PgWorldPackets.Views.{peer_place, place_of_peer}
use Rattle.pg_cluster_judges.specs.PgWorldPackets.Worlds.{ShowsNode, event_of}
use Rattle.pg_cluster_judges.proofs.PgWorldPackets.Ordered.{ordered_length}
use Rattle.pg_cluster_judges.proofs.PgWorldPackets.Peering.{peers_differ}
use Rattle.pg_cluster_judges.proofs.PgWorldPackets.Turning.{pair_is}
use Rattle.pg_term.specs.Same.{same_atom}
use Rattle.pg_cluster_judges.specs.declared.closed.TurnCount.{TurnCount}
use Rattle.pg_cluster.specs.Ended.{row_at}
use Rattle.pg_cluster.specs.Notices.{IsOfLost}
use Rattle.pg_cluster_judges.specs.Schedule.{NobodyLost}
use Rattle.pg_cluster_judges.specs.Schedule.{IsLosingSchedule, IsSchedule, is_lost_in, step_as, steps_of}
use Rattle.pg_cluster.specs.Threads.{RunOf, RanOf, Thread, AreMade, EndedWith, begun_by, lasts_ended}
use Rattle.pg_cluster_judges.specs.NodeOf.{NodeOf}
use Rattle.pg_cluster.specs.Threads.{node_in, row_in, log_in, rows_begun, rows_ended, notices_ended}
use Rattle.pg_cluster_judges.specs.Together.{AreOneLosingRun, AreOneRun, losing_event}
use Rattle.pg_cluster.proofs.Alike.{leads_alike}
use Rattle.pg_cluster.proofs.Scheduled.{IsSmall, marked_event, steps_alike, steps_keep}
use Rattle.pg_cluster.proofs.Telling.{all_first, none_seen}
use Rattle.pg_cluster.proofs.Unrefused.{all_made, events_lead}

abbrev pub Linked : Type 0
Linked = LinkedBy IndexTable ghosts

-- ---- logs that are merged alike

next_alike : (size : ℕ) (a b : ℕ → List ℕ) (read : ℕ → ℕ) (i : ℕ) → ((j : ℕ) → j < size → a j ≡ b j) → IsNext size (rest_of a read) i → IsNext size (rest_of b read) i
next_alike size a b read i same next = record {
  there = next.there;
  clock = next.clock;
  later = next.later;
  next = ap (drop (read i)) (sym (same i next.there)) ∙ next.next;
  first = λ j other others low is. next.first j other others low (ap (drop (read j)) (same j low) ∙ is);
}

merges_alike : (size : ℕ) (a b : ℕ → List ℕ) (order : List (ℕ × ℕ)) (read : ℕ → ℕ) → ((j : ℕ) → j < size → a j ≡ b j) → MergesRest size a read order → MergesRest size b read order
merges_alike size a b [] read same merges = λ i low. ap (drop (read i)) (sym (same i low)) ∙ merges i low
merges_alike size a b (x ∷ order) read same merges =
    (merges.0, next_alike size a b read x.0 same merges.1, merges_alike size a b order (set_at read x.0 (x.1 + 1)) same merges.2)

-- ---- steps and events

entry_seen : {E F : Type 0} (view : E → F) (log : List (ℕ × E)) (place : ℕ) → entry_at (seen_log view log) place ≡ map view (entry_at log place)
entry_seen view log place = sym (append-nil (entry_at (seen_log view log) place)) ∙ (same_merge view (λ i. log) ((0, place) ∷ []) ∙ ap (map view) (append-nil (entry_at log place)))

-- an event is no sight of a loss
abbrev IsPlain : NodeEvent → Type 0
IsPlain (entries.SeeLoss peer) = ⊥
IsPlain (entries.Take peer) = Unit {0}
IsPlain (entries.Command port command) = Unit {0}
IsPlain (entries.Retry op) = Unit {0}

abbrev AllPlain : List (ℕ × NodeEvent) → Type 0
AllPlain log = AllByRecursion (λ entry. IsPlain entry.1) log

-- what stands at a place of a log of such events
entry_plain : (log : List (ℕ × NodeEvent)) (place : ℕ) → AllPlain log → AllByRecursion IsPlain (entry_at log place)
entry_plain [] zero all = tt
entry_plain [] (suc place) all = tt
entry_plain (x ∷ log) zero all = (all.0, tt)
entry_plain (x ∷ log) (suc place) all = entry_plain log place all.1

-- acts that saw no loss log such events
input_plain : (input : Given) → SeesNone input → IsPlain (entry_event input)
input_plain (Took p x) none = tt
input_plain (Saw p last) none = saw_none p last none
input_plain (Did (Issue port command)) none = tt
input_plain (Did (Retry op)) none = tt

acts_plain : (acts : List Act) → SawNone acts → AllPlain (map log_entry acts)
acts_plain [] none = tt
acts_plain (act ∷ acts) none = (input_plain act.input (first_none act acts none), acts_plain acts (others_none act acts none))

step_is : (size i : ℕ) (e : NodeEvent) → IsPlain e → size ≤ 16 → is_there size (event_at i e) ≡ true → event_of (step_as i e) ≡ Some (event_at i e)
step_is size i (entries.SeeLoss peer) plain few there = absurd plain
step_is size i (entries.Take peer) plain few there = ap (λ p. event_of (step_taken p)) (peer_within i peer (let p = pair_is size i (place_of_peer i peer) there in omega (arith, p.1, few)))
  where
    step_taken : ℕ → FrameStep
    step_taken p = steps.Take i p
step_is size i (entries.Command port command) plain few there = refl
step_is size i (entries.Retry op) plain few there = refl

steps_are : (size i : ℕ) (es : List NodeEvent) → AllByRecursion IsPlain es → size ≤ 16 → AllByRecursion (λ e. is_there size e ≡ true) (map (event_at i) es)
    → map event_of (map (step_as i) es) ≡ map Some (map (event_at i) es)
steps_are size i [] plain few all = refl
steps_are size i (e ∷ es) plain few all = (λ j. step_is size i e plain.0 few all.0 j ∷ steps_are size i es plain.1 few all.1 j)

first_all : {A : Type 0} (P : A → Type 0) (xs ys : List A) → AllByRecursion P (xs ++ ys) → AllByRecursion P xs × AllByRecursion P ys
first_all P [] ys all = (tt, all)
first_all P (x ∷ xs) ys all = let rest = first_all P xs ys all.1 in ((all.0, rest.0), rest.1)

-- the events of a run name places that are there
all_there : {S P C O : Type 0} (m : Machine S P C O) (w v : World S P O) (events : List (Event C)) → Leads m w events v → AllByRecursion (λ e. is_there m.size e ≡ true) events
all_there m w v [] leads = tt
all_there m w v (e ∷ events) leads = ((happened m w leads.0 e leads.1).there, all_there m leads.0 v events leads.2)

-- the steps of a merge are its events
schedule_is : (size n : ℕ) (logs : List (List (ℕ × NodeEvent))) (at : ℕ → List (ℕ × NodeEvent)) (clocks : ℕ → List ℕ) (read : ℕ → ℕ) (order : List (ℕ × ℕ))
    → size ≤ 16 → ((i : ℕ) → i < n → log_at logs i ≡ at i) → ((i : ℕ) → i < n → AllPlain (at i)) → MergesRest n clocks read order
    → AllByRecursion (λ e. is_there size e ≡ true) (merged_logs (λ i. seen_log (event_at i) (at i)) order)
    → map event_of (steps_of logs order) ≡ map Some (merged_logs (λ i. seen_log (event_at i) (at i)) order)
schedule_is size n logs at clocks read [] few same plain merges all = refl
schedule_is size n logs at clocks read (x ∷ order) few same plain merges all =
    let here : List NodeEvent = entry_at (at x.0) x.1 in
    let later = merged_logs (λ i. seen_log (event_at i) (at i)) order in
    let seen = entry_seen (event_at x.0) (at x.0) x.1 in
    let parts = first_all (λ e. is_there size e ≡ true) (map (event_at x.0) here) later (subst (λ es. AllByRecursion (λ e. is_there size e ≡ true) (es ++ later)) seen all) in
    let first = steps_are size x.0 here (entry_plain (at x.0) x.1 (plain x.0 merges.1.there)) few parts.0 in
    let rest = schedule_is size n logs at clocks (set_at read x.0 (x.1 + 1)) order few same plain merges.2 parts.1 in
    map-append event_of (map (step_as x.0) (entry_at (log_at logs x.0) x.1)) (steps_of logs order)
    ∙ ((λ j. map event_of (map (step_as x.0) (entry_at (same x.0 merges.1.there j) x.1)) ++ rest j)
    ∙ (ap (λ es. es ++ map Some later) first
    ∙ (sym (map-append Some (map (event_at x.0) here) later) ∙ ap (λ es. map Some (es ++ later)) (sym seen))))

-- ---- the threads

all_at : {A : Type 0} (P : A → Type 0) (xs : List A) (i : ℕ) (d : A) → All P xs → i < length xs → P (get_or xs i d)
all_at P xs i d all low = all i d low

module _ {K : Type 0} (given : Config) (lost : List Bool) (threads : List (Thread K)) (nodes : List NodeOf) (logs : List (List (ℕ × NodeEvent)))
    (made : AreMade given (map begun_by threads)) {turns : List TurnCount} (ended : EndedWith lost threads nodes logs turns) (thread : Thread K) (ran : RanOf K) where
  abbrev pub config : Config
  config = made.begins.0

  abbrev pub rans : List (RanOf K)
  rans = ended.rans

  abbrev pub begun : ℕ → Linked
  begun i = linked_of (begun_by (get_or threads i thread))

  abbrev pub end : ℕ → Linked
  end i = linked_of ((get_or ended.rans i ran).run)

  size : length config ≡ length given
  size = ordered_length given config made.begins.1

  thread_count : length threads ≡ length config
  thread_count = sym (length-map threads begun_by) ∙ (made.count ∙ sym size)

  ran_count : length ended.rans ≡ length config
  ran_count = ended.joined.0 ∙ thread_count

  node_count : length nodes ≡ length config
  node_count = ap length ended.ended ∙ (length-map ended.rans (λ r. node_in r.run) ∙ ran_count)

  log_count : length logs ≡ length config
  log_count = ap length ended.logged ∙ (length-map ended.rans (λ r. log_in r.run) ∙ ran_count)

  run_at : (i : ℕ) → i < length config → get_or (map begun_by threads) i (begun_by thread) ≡ begun_by (get_or threads i thread)
  run_at i low = get_or-map begun_by threads i thread (begun_by thread) (omega (arith, low, thread_count))

  log_is : (i : ℕ) → i < length config → log_at logs i ≡ log_of (end i)
  log_is i low = ap (λ ls. log_at ls i) ended.logged ∙ get_or-map (λ (r : RanOf K). log_in r.run) ended.rans i ran [] (omega (arith, low, ran_count))

  held : (i : ℕ) → i < length config → slice_get (map node_in (map begun_by threads)) i ≡ Some (node_at (begun i))
  held i low =
      let runs = map begun_by threads in
      let count : length runs ≡ length threads = length-map threads begun_by in
      let nodes_count : length (map node_in runs) ≡ length runs = length-map runs node_in in
      slice_get-get_or (map node_in runs) i (node_in (begun_by thread)) (omega (arith, low, thread_count, count, nodes_count))
      ∙ ap Some (get_or-map node_in runs i (begun_by thread) (node_in (begun_by thread)) (omega (arith, low, thread_count, count)) ∙ ap node_in (run_at i low))

  unlogged : (i : ℕ) → i < length config → log_of (begun i) ≡ []
  unlogged i low =
      let count : length (map begun_by threads) ≡ length threads = length-map threads begun_by in
      subst (λ (r : RunOf K). log_in r ≡ []) (run_at i low) (all_at (λ (r : RunOf K). log_in r ≡ []) (map begun_by threads) i (begun_by thread) made.unlogged (omega (arith, low, thread_count, count)))

  begun_row : (i : ℕ) → i < length config → row_at (rows_begun threads) i ≡ row_in (begun_by (get_or threads i thread))
  begun_row i low = get_or-map (λ (t : Thread K). row_in (begun_by t)) threads i thread [] (omega (arith, low, thread_count))

  ended_row : (i : ℕ) → i < length config → row_at (rows_ended ended.rans) i ≡ row_in (get_or ended.rans i ran).run
  ended_row i low = get_or-map (λ (r : RanOf K). row_in r.run) ended.rans i ran [] (omega (arith, low, ran_count))

  made_row : (i : ℕ) → i < length config → row_at (map row_in (map begun_by threads)) i ≡ row_in (begun_by (get_or threads i thread))
  made_row i low =
      let count : length (map begun_by threads) ≡ length threads = length-map threads begun_by in
      get_or-map row_in (map begun_by threads) i (begun_by thread) [] (omega (arith, low, thread_count, count)) ∙ ap row_in (run_at i low)

  linked : (i : ℕ) → i < length config → length (row_in (begun_by (get_or threads i thread))) + 1 ≡ length config
  linked i low =
      let count = length-map threads begun_by in
      let e = made.wired.joined.each i (omega (arith, low, thread_count, count)) in
      let r = ap length (made_row i low) in
      omega (arith, e, r, count, thread_count)

  begun_untold : (i : ℕ) → i < length config → IsUntold (notices_of (begun_by (get_or threads i thread)))
  begun_untold i low =
      let count : length (map begun_by threads) ≡ length threads = length-map threads begun_by in
      subst (λ (r : RunOf K). IsUntold (notices_of r)) (run_at i low)
      (all_at (λ (r : RunOf K). IsUntold (notices_of r)) (map begun_by threads) i (begun_by thread) made.untold (omega (arith, low, thread_count, count)))

  -- no notice came to it
  untold : NobodyLost lost → (i : ℕ) → i < length ended.rans → taken (notices_at (get_or ended.rans i ran).run) ≡ []
  untold nobody i low =
      let count : length (notices_ended ended.rans) ≡ length ended.rans = length-map ended.rans (λ r. notices_at r.run) in
      sym (ap taken (get_or-map (λ (r : RanOf K). notices_at r.run) ended.rans i ran (notices_at ran.run) low))
      ∙ ended.untold nobody i (notices_at ran.run) (omega (arith, low, count))

  -- the losses that some acts saw are, in their order, the next of those that were told
  record Sees (i : ℕ) (acts : List Act) : Type 0 where
    losses : List Notice
    seen : seen_by acts ≡ losses
    told : NoticesGo losses (notices_of (begun_by (get_or threads i thread))) (notices_of (get_or ended.rans i ran).run)

  -- what it did
  acts_and : (i : ℕ) → (acts : List Act) × (i < length config → Follows Sends Receives acts (begun i) (end i)) × (i < length config → Sees i acts)
  acts_and i = elim (leb_tells (length config) i) [
    | inl t ↦ ([], λ low. absurd (omega (arith, low, t.1)), λ low. absurd (omega (arith, low, t.1)))
    | inr f ↦
        let low : i < length ended.rans = omega (arith, f.1, ran_count) in
        let kept = ended.joined.1 i thread ran low in (
          kept.runs.serves.acts,
          λ within. kept.runs.serves.follows,
          λ within. record { losses = kept.runs.losses; seen = kept.runs.serves.seen; told = kept.runs.told },
        )
  ]

  -- where nobody was lost it saw no loss
  unseen : NobodyLost lost → (i : ℕ) → i < length config → SawNone (acts_and i).0
  unseen nobody i within =
      let sees = (acts_and i).2 within in
      seen_none (acts_and i).0 (sees.seen
      ∙ none_seen sees.losses (notices_of (begun_by (get_or threads i thread))) (notices_of (get_or ended.rans i ran).run) sees.told (begun_untold i within) (untold nobody i (omega (arith, within, ran_count))))

  log_is_of : (i : ℕ) → i < length config → log_of (end i) ≡ map log_entry (acts_and i).0
  log_is_of i low = ((acts_and i).1 low).log ∙ ap (λ w. w ++ map log_entry (acts_and i).0) (unlogged i low)

  log_plain : NobodyLost lost → (i : ℕ) → i < length config → AllPlain (log_of (end i))
  log_plain nobody i low = subst AllPlain (sym (log_is_of i low)) (acts_plain (acts_and i).0 (unseen nobody i low))

  crossed : (x y : ℕ) (none : End) → is_pair (length config) x y ≡ true → Crossed (end_of (begun x) x y none) (end_of (begun y) y x none) (end_of (end x) x y none) (end_of (end y) y x none)
  crossed x y none pair =
      let p = pair_is (length config) x y pair in
      rw (← begun_row x p.0, ← begun_row y p.1, ← ended_row x p.0, ← ended_row y p.1) (ended.crossed x y none (subst (λ n. is_pair n x y ≡ true) (sym thread_count) pair))

  have_run : HaveRun config (map node_in (map begun_by threads)) begun end
  have_run = record {
    starts = made.begins.2;
    held = held;
    unlogged = unlogged;
    linked = linked;
    acts = λ i. (acts_and i).0;
    follows = λ i. (acts_and i).1;
    crossed = crossed;
  }

  apart : NobodyLost lost → RanApart config (map node_in (map begun_by threads)) begun end
  unfolding have_run acts_and
  apart nobody = record { ran = have_run; unseen = unseen nobody }

  merges : (order : List (ℕ × ℕ)) → Merges (length logs) (clocks_in logs) order → Merges (length config) (λ i. clocks_of (log_of (end i))) order
  merges order are = merges_alike (length config) (clocks_in logs) (λ i. clocks_of (log_of (end i))) order (λ i. 0) (λ i low. ap clocks_of (log_is i low))
      (subst (λ n. Merges n (clocks_in logs) order) log_count are)

  within : (i : ℕ) (node : NodeOf) → slice_get nodes i ≡ Some node → i < length config
  within i node at = let l = slice_get_within nodes i node at in omega (arith, l, node_count)

  -- a node that is closed is the one that ended at its place
  is_node : (i : ℕ) (node : NodeOf) → slice_get nodes i ≡ Some node → node ≡ node_in (get_or ended.rans i ran).run
  is_node i node at =
      let low = within i node at in
      sym (get_or_from_slice_get nodes i node node at) ∙ (ap (λ ns. get_or ns i node) ended.ended ∙ get_or-map (λ (r : RanOf K). node_in r.run) ended.rans i ran node (omega (arith, low, ran_count)))

  few : length config ≤ 16
  few = let f = made.few in omega (arith, f, size)

  pub one_run_by : NobodyLost lost → (schedule : List FrameStep) (is : IsSchedule logs (length logs) schedule) → RanTogether config end (events_in end is.order) → AreOneRun given nodes logs schedule
  one_run_by nobody schedule is together = record {
    config = config;
    orders = made.begins.1;
    apart = made.begins.2.traffic.nodes.apart;
    events = events_in end is.order;
    are = ap (map event_of) is.is ∙ schedule_is (length config) (length config) logs (λ i. log_of (end i)) (λ i. clocks_of (log_of (end i))) (λ i. 0) is.order few log_is (log_plain nobody) (merges is.order is.merges)
        (all_there (frame_machine config) (start_of (frame_machine config)) together.w (events_in end is.order) together.leads);
    w = together.w;
    leads = together.leads;
    size = node_count;
    shown = λ i node at. subst (λ (x : NodeOf). ShowsNode config together.w i (node_of x)) (sym (is_node i node at)) (together.nodes i (within i node at));
    logged = λ i low. together.logs i low ∙ ap (map (λ entry. event_at i entry.1)) (sym (log_is i low));
    history = together.history;
    sound = λ i j node at pair. ap (λ (x : NodeOf). (links_of x (peer_place i j)).damaged) (is_node i node at) ∙ together.sound i j pair;
  }

  -- ---- where nodes were lost

  -- the notices that came at a node are of those that were lost, and so are the losses that it saw
  abbrev Of : ℕ → Notice → Type 0
  Of x = IsOfLost (length lost) (λ node. get_or lost node false) (λ node. get_or (lasts_ended ended.rans) node 0) x

  mark_count : length lost ≡ length config
  mark_count = ended.marked ∙ thread_count

  seen_of_lost : (x : ℕ) → x < length config → AllByRecursion (Of x) (seen_by (acts_and x).0)
  seen_of_lost x low =
      let sees = (acts_and x).2 low in
      let first = begun_untold x low in
      let count : length (notices_ended ended.rans) ≡ length ended.rans = length-map ended.rans (λ r. notices_at r.run) in
      let here : get_or (notices_ended ended.rans) x (notices_at ran.run) ≡ notices_at (get_or ended.rans x ran).run =
      get_or-map (λ (r : RanOf K). notices_at r.run) ended.rans x ran (notices_at ran.run) (omega (arith, low, ran_count)) in
      let came : taken (get_or (notices_ended ended.rans) x (notices_at ran.run)) ≡ sees.losses ++ kept_of (notices_of (get_or ended.rans x ran).run) =
      ap taken here ∙ sees.told.came [] (first.came ∙ sym first.kept) in
      subst (AllByRecursion (Of x)) (sym sees.seen)
      (all_first (Of x) sees.losses (kept_of (notices_of (get_or ended.rans x ran).run)) (subst (AllByRecursion (Of x)) came (ended.told x (notices_at ran.run) (omega (arith, low, mark_count)))))

  sees_lost : SeesLost config (map node_in (map begun_by threads)) begun end have_run (is_lost_in lost)
  unfolding have_run acts_and
  sees_lost x y pair =
      let p = pair_is (length config) x y pair in
      losses_so (acts_and x).0 (seen_of_lost x p.0)
    where
      one : (p last : ℕ) → p ≡ peer_place x y → Of x (record { peer = p; last = last }) → (is_lost_in lost y ≡ true) × (last ≡ clock_of (end y))
      one p last here of = go (cases_eq of.node y)
        where
          q : (x < length config) × (y < length config) × (y ≢ x)
          q = pair_is (length config) x y pair

          go : (of.node ≡ y) ⊎ (of.node ≢ y) → (is_lost_in lost y ≡ true) × (last ≡ clock_of (end y))
          go (inl e) = (
            ap (is_lost_in lost) (sym e) ∙ of.gone,
            of.clock ∙ (ap (λ i. get_or (lasts_ended ended.rans) i 0) e
                ∙ get_or-map (λ (r : RanOf K). (state_of (held_by (node_in r.run))).clock) ended.rans y ran 0 (let l = q.1 in omega (arith, l, ran_count))),
          )
          go (inr n) = absurd (peers_differ x of.node y of.other q.2 n (sym of.peer ∙ here))

      losses_so : (acts : List Act) → AllByRecursion (Of x) (seen_by acts) → AllByRecursion (λ last. (is_lost_in lost y ≡ true) × (last ≡ clock_of (end y))) (losses_of (peer_place x y) acts)
      losses_so [] all = tt
      losses_so (act ∷ acts) all = by act.input all (losses_so acts)
        where
          by : (input : Given) → AllByRecursion (Of x) (seen_in input ++ seen_by acts)
              → (AllByRecursion (Of x) (seen_by acts) → AllByRecursion (λ last. (is_lost_in lost y ≡ true) × (last ≡ clock_of (end y))) (losses_of (peer_place x y) acts))
              → AllByRecursion (λ last. (is_lost_in lost y ≡ true) × (last ≡ clock_of (end y))) (loss_of (peer_place x y) input ++ losses_of (peer_place x y) acts)
          by (Took p z) all rest = rest all
          by (Did action) all rest = rest all
          by (Saw p last) all rest = at (cases_eq p (peer_place x y))
            where
              at : (p ≡ peer_place x y) ⊎ (p ≢ peer_place x y) → AllByRecursion (λ last. (is_lost_in lost y ≡ true) × (last ≡ clock_of (end y))) (cond (nat_eq p (peer_place x y)) (last ∷ []) [] ++ losses_of (peer_place x y) acts)
              at (inl e) =
                  subst (λ b. AllByRecursion (λ last. (is_lost_in lost y ≡ true) × (last ≡ clock_of (end y))) (cond b (last ∷ []) [] ++ losses_of (peer_place x y) acts)) (sym (eq-eqb p (peer_place x y) e))
                  (one p last e all.0, rest all.1)
              at (inr n) =
                  subst (λ b. AllByRecursion (λ last. (is_lost_in lost y ≡ true) × (last ≡ clock_of (end y))) (cond b (last ∷ []) [] ++ losses_of (peer_place x y) acts)) (sym (ne_eqb p (peer_place x y) n))
                  (rest all.1)

  pub ran_losing : RanLosing config (map node_in (map begun_by threads)) begun end (is_lost_in lost)
  ran_losing = record { ran = have_run; seen = sees_lost }

  -- the peers that its log names are few
  acts_small : (names : List (List ℕ)) (ports : ℕ) (a : Standing) (acts : List Act) (b : Standing) → length names ≤ 17 → AllLead names ports a acts b → AllByRecursion (λ entry. IsSmall entry.1) (map log_entry acts)
  acts_small names ports a [] b low lead = tt
  acts_small names ports a (act ∷ acts) b low (m, lead, later) = (one act.input lead.there, acts_small names ports m acts b low later)
    where
      one : (input : Given) → IsFromPeer names input → IsSmall (entry_event input)
      one (Took p x) there = let t : p + 1 < length names = there in omega (arith, t, low)
      one (Saw p last) there = let t : p + 1 < length names = there in omega (arith, t, low)
      one (Did (Issue port command)) there = tt
      one (Did (Retry op)) there = tt

  log_small : (i : ℕ) → i < length config → AllByRecursion (λ entry. IsSmall entry.1) (log_of (end i))
  log_small i low =
      let h = (acts_and i).1 low in
      let n = linked i low in
      let own = (end i).linked in
      let same = h.moved.len in
      let names = ap length h.names in
      subst (AllByRecursion (λ entry. IsSmall entry.1)) (sym (log_is_of i low))
      (acts_small _ _ _ (acts_and i).0 _ (omega (arith, n, own, same, names, few)) h.lead)

  pub losing_run_by : (schedule : List FrameStep) (is : IsLosingSchedule logs lost schedule)
      → ((u : LosingFrameWorld) (events : List (LosingEvent Action)) → LosingReaches config events u → LossesSurvived config events u)
      → RanPastLosses config (is_lost_in lost) end (losing_events (length config) (λ i. log_of (end i)) (is_lost_in lost) is.order) → AreOneLosingRun given lost nodes schedule
  losing_run_by schedule is survive past =
      let alike = steps_alike (length config) logs (λ i. log_of (end i)) lost log_count log_is log_small (λ i. clocks_of (log_of (end i))) is.order schedule (merges is.order is.merges) is.is in
      let marked : MarkedReaches config (map marked_event schedule) past.u =
      leads_alike (losing_frame_machine config) last_notice is_last_notice (nobody_gone (start_of (losing_frame_machine config)))
      (losing_events (length config) (λ i. log_of (end i)) (is_lost_in lost) is.order) (map marked_event schedule) past.u alike past.marked in
      let reached : LosingReaches config (map losing_event schedule) past.u = events_lead config schedule (nobody_gone (start_of (losing_frame_machine config))) past.u marked in
      let keeps = steps_keep (length config) logs (λ i. log_of (end i)) lost log_count log_is log_small (λ i. clocks_of (log_of (end i))) is.order schedule (merges is.order is.merges) is.is in
      let apart = made.begins.2.traffic.nodes.apart in
      let in_turn = all_made config apart [] schedule (nobody_gone (start_of (losing_frame_machine config))) past.u refl marked keeps in record {
        config = config;
        orders = made.begins.1;
        few = few;
        apart = made.begins.2.traffic.nodes.apart;
        u = past.u;
        reached = reached;
        made = in_turn;
        gone = past.gone;
        size = node_count;
        shown = λ i node at. subst (λ (x : NodeOf). ShowsNode config (nodes_in past.u) i (node_of x)) (sym (is_node i node at)) (past.nodes i (within i node at));
        survived = survive past.u (map losing_event schedule) reached;
      }

-- There is a first thread, and it has run.
first_of : {K : Type 0} (threads : List (Thread K)) (rans : List (RanOf K)) → 0 < length threads → length rans ≡ length threads → Thread K × RanOf K
first_of [] rans some e = absurd (omega (arith, some))
first_of (t ∷ threads) [] some e = absurd (omega (arith, e))
first_of (t ∷ threads) (r ∷ rans) some e = (t, r)

pub one_run : {K : Type 0}
    → ((config : Config) (begun_nodes : List NodeOf) (begun ended : ℕ → Linked) (order : List (ℕ × ℕ)) → RanApart config begun_nodes begun ended
    → Merges (length config) (λ i. clocks_of (log_of (ended i))) order → RanTogether config ended (events_in ended order))
    → (given : Config) (lost : List Bool) (threads : List (Thread K)) (nodes : List NodeOf) (logs : List (List (ℕ × NodeEvent))) (turns : List TurnCount) (schedule : List FrameStep)
    → NobodyLost lost → AreMade given (map begun_by threads) → EndedWith lost threads nodes logs turns → IsSchedule logs (length logs) schedule → AreOneRun given nodes logs schedule
one_run law given lost threads nodes logs turns schedule nobody made ended is =
    let count = length-map threads begun_by in
    let s = made.some in
    let m = made.count in
    let first = first_of threads ended.rans (omega (arith, s, m, count)) ended.joined.0 in
    one_run_by given lost threads nodes logs made ended first.0 first.1 nobody schedule is
    (law (config given lost threads nodes logs made ended first.0 first.1) _ _ _ is.order
    (apart given lost threads nodes logs made ended first.0 first.1 nobody) (merges given lost threads nodes logs made ended first.0 first.1 is.order is.merges))

pub losing_run : {K : Type 0}
    → ((config : Config) (begun_nodes : List NodeOf) (begun ended : ℕ → Linked) (lost : ℕ → Bool) (order : List (ℕ × ℕ)) → RanLosing config begun_nodes begun ended lost
    → Merges (length config) (λ i. clocks_of (log_of (ended i))) order → RanPastLosses config lost ended (losing_events (length config) (λ i. log_of (ended i)) lost order))
    → ((config : Config) (u : LosingFrameWorld) (events : List (LosingEvent Action)) → IsDistinct same_atom (names_of config) → LosingReaches config events u → LossesSurvived config events u)
    → (given : Config) (lost : List Bool) (threads : List (Thread K)) (nodes : List NodeOf) (logs : List (List (ℕ × NodeEvent))) (turns : List TurnCount) (schedule : List FrameStep)
    → AreMade given (map begun_by threads) → EndedWith lost threads nodes logs turns → IsLosingSchedule logs lost schedule → AreOneLosingRun given lost nodes schedule
losing_run law survive given lost threads nodes logs turns schedule made ended is =
    let count = length-map threads begun_by in
    let s = made.some in
    let m = made.count in
    let first = first_of threads ended.rans (omega (arith, s, m, count)) ended.joined.0 in
    losing_run_by given lost threads nodes logs made ended first.0 first.1 schedule is
    (λ u events. survive (config given lost threads nodes logs made ended first.0 first.1) u events made.begins.2.traffic.nodes.apart)
    (law (config given lost threads nodes logs made ended first.0 first.1) _ _ _ (is_lost_in lost) is.order
    (ran_losing given lost threads nodes logs made ended first.0 first.1) (merges given lost threads nodes logs made ended first.0 first.1 is.order is.merges))
