-- The clauses of the headline, of each world of a run.
use Rattle.std.proofs.Common.{◌≡◌, ◌≢◌, Result, Ok, Err, ℕ, ◌+◌, ◌<◌, Bool, true, false, cond, length, map}
use Rattle.std.proofs.Common.{List, [], ◌∷◌, ◌++◌, None, refl, ap, sym, ◌∙◌, subst, arith, inl, inr, ◌⊎◌}
use Rattle.std.specs.Prelude.{take}
use Rattle.std.specs.List.{IsDistinct}
use Rattle.std.proofs.lemmas.List.{length-map}
use Rattle.pg_term.specs.declared.pid.Pid.{Pid}
use Rattle.pg_term.specs.declared.term.Term.{Term}
use Rattle.pg_term.specs.Same.{same_atom}
use Rattle.pg_term.specs.RefParts.{RefParts}
use Rattle.pg_step.specs.PgGroup.Value.{name_of, less}
use Rattle.pg_step.specs.PgRefs.Numbered.{numbered}
use Rattle.pg_step.specs.PgLock.Locks.{is_holder}
use Rattle.pg_step.specs.PgMessageTypes.declared.message.Message.{Message}
use Rattle.pg_step.specs.PgMessageTypes.declared.message.Message.TheVariants.{Call, Reply, DelLock, Exchange, Down}
use Rattle.pg_step.specs.PgMessageTypes.declared.message.Said.{Said}
use Rattle.pg_step.specs.Machines.Places.{is_pair, is_place}
use Rattle.pg_step.specs.Machines.Machine.{Event, Taken, start_of}
use Rattle.pg_step.specs.Machines.Runs.{Leads, run, ran}
use Rattle.pg_step.specs.Machines.Clocked.{plain}
use Rattle.pg_step.specs.State.{State}
use Rattle.pg_step.specs.Turns.{NodeTurn, Report}
use Rattle.pg_step.specs.Step.{CLOCK_LIMIT, Action, taken, node_takes}
use Rattle.pg_step.specs.declared.refusal.Refusal.{Refusal}
use Rattle.pg_step.specs.Config.{Config, names_of, name_at, nodes_at}
use Rattle.pg_step.specs.FrameMachine.{placed, node_step, machine_of, frame_machine, FrameWorld}
use Rattle.pg_laws.specs.History.{Entry, entries, of_group, history, updates_of, applied_count, answered_count}
use Rattle.pg_laws.specs.History.{replay, known, base, is_formed, has_groups, LockFree, NonePending, applied_by}
use Rattle.pg_laws.specs.Headline.{HoldsAnswered, AppliesHistory, HasTables, GoesOnFromAll, HarmsNobody, OneHistory}
use Rattle.pg_step.proofs.Once.{clash}
use Rattle.pg_step.proofs.Machines.Plain.{plain_from_start}
use Rattle.pg_step.proofs.Machines.Sequences.{leads_ran}
use Rattle.pg_laws.specs.Reached.{TimedFrameWorld, Reaches}
use Rattle.pg_laws.proofs.ends.Homes.{homed_timed}
use Rattle.pg_laws.proofs.steps.Lossless.{takes_all}
use Rattle.pg_laws.proofs.ends.Posts.{posted_timed, none_refused}
use Rattle.pg_laws.proofs.ends.Apart.{pair_first, pair_second}
use Rattle.pg_laws.proofs.commands.StandRuns.{stands_once, answered_at_most, stands_answered, stands_not, one_answer}
use Rattle.pg_laws.proofs.commands.AnsweredRuns.{behind_is_ok, ok_is_behind}
use Rattle.pg_laws.proofs.commands.AskedRuns.{entries_asked}
use Rattle.pg_laws.proofs.locks.Moved.{replies_taken}
use Rattle.pg_laws.proofs.tables.Formed.{knows_all}
use Rattle.pg_laws.proofs.tables.TableRuns.{AppliesFormed, as_many, untouched_run, tabled_run}
use Rattle.pg_laws.proofs.references.Keys.{terms}
use Rattle.pg_laws.proofs.locks.Named.{World, on}
use Rattle.pg_laws.proofs.locks.Kept.{Live}
use Rattle.pg_laws.proofs.locks.Agreed.{Agrees, IsAllButOne, agrees_of}
use Rattle.pg_laws.proofs.places.Shown.{IsHere, by_name, Shows}
use Rattle.pg_laws.proofs.places.Bridged.{Bridged, bridged, nobody_seen, live_at, near_at, all_applied}
use Rattle.pg_laws.specs.Exclusive.{ExclusiveLocks}
use Rattle.pg_laws.specs.RealTime.{InRealTime}
use Rattle.pg_laws.proofs.steps.Grows.{history_append}
use Rattle.pg_laws.proofs.steps.Queries.{query_stays}
use Rattle.pg_laws.proofs.steps.RealTime.{none_before, reported_more, stands_before, stays_seen}
use Rattle.pg_laws.proofs.places.Exclusive.{are_exclusive}
use Rattle.pg_laws.proofs.places.Prefixes.{as_long, lengths, updates_shown, answers_shown}
use Rattle.pg_laws.proofs.places.Prefixes.{split_shown, node_here, as_many_updates}

module _ (config : Config) (apart : IsDistinct same_atom (names_of config)) where
  -- no node applies an update before it is formed
  pub applies_formed : (i : ℕ) (N : Term) → IsHere config i → AppliesFormed config i N
  applies_formed i N here es v l not_yet = sym (as_many i N v.reported) ∙ ap length ((bridged config apart es v l).empty i N here not_yet)

  module _ (v : FrameWorld) (b : Bridged config apart v) where
    abbrev pub w : World
    w = b.has.world

    abbrev pub s : Shows config v w
    s = b.has.shows

    agrees : Agrees w
    agrees = agrees_of w b.has.inv (nobody_seen config apart v w s)

    live : (i : ℕ) → IsHere config i → Live w.nodes w.seen (name_at config i)
    live i here = live_at config apart v w i s here

    many : (i : ℕ) (N : Term) → applied_count i N v.reported ≡ length (applied_by i N v.reported)
    many i N = sym (as_many i N v.reported)

    -- ---- what nodes have applied

    begins : (i : ℕ) (N : Term) → IsHere config i → IsAllButOne (applied_by i N v.reported) (updates_of (history N v.reported))
    begins i N here = subst (λ xs. IsAllButOne xs (updates_of (history N v.reported))) (s.log i N here)
        (subst (IsAllButOne (on N (w.log (name_at config i)))) (updates_shown config apart v w s b.places N) (agrees.begins N (name_at config i) (live i here)))

    -- as much of the history as a node has applied
    pub is_prefix : (i : ℕ) (N : Term) → IsHere config i → applied_by i N v.reported ≡ take (applied_count i N v.reported) (updates_of (history N v.reported))
    is_prefix i N here = as_long (applied_by i N v.reported) (updates_of (history N v.reported)) (begins i N here) ∙ ap (λ n. take n (updates_of (history N v.reported))) (as_many i N v.reported)

    applied : (i : ℕ) (N : Term) → IsHere config i → (applied_count i N v.reported ≡ length (history N v.reported)) ⊎ (applied_count i N v.reported + 1 ≡ length (history N v.reported))
    applied i N here = go (lengths (applied_by i N v.reported) (updates_of (history N v.reported)) (begins i N here))
      where
        go : (length (applied_by i N v.reported) ≡ length (updates_of (history N v.reported))) ⊎ (length (applied_by i N v.reported) + 1 ≡ length (updates_of (history N v.reported)))
            → (applied_count i N v.reported ≡ length (history N v.reported)) ⊎ (applied_count i N v.reported + 1 ≡ length (history N v.reported))
        go (inl e) = inl (many i N ∙ e ∙ as_many_updates config apart v w s b.places N)
        go (inr e) = inr (ap (λ n. n + 1) (many i N) ∙ e ∙ as_many_updates config apart v w s b.places N)

    everywhere : (i : ℕ) (N : Term) (before after : List Entry) (e : Entry) → IsHere config i → history N v.reported ≡ before ++ e ∷ after → 0 < answered_count e.node e.op v.reported
        → length before < applied_count i N v.reported
    everywhere i N before after e here is some =
        let some_by_name = subst (λ n. 0 < n) (sym (answers_shown config apart v w s b.places e.node e.op (node_here config apart v w s b.places N before after e is))) some in
        let more : length (map (by_name config) before) < length (on N (w.log (name_at config i))) =
        agrees.everywhere N (name_at config i) (map (by_name config) before) (map (by_name config) after) (by_name config e) (live i here) (split_shown config apart v w s b.places N before after e is) some_by_name in
        let as_before : length (map (by_name config) before) ≡ length before = length-map before (by_name config) in
        let as_here : applied_count i N v.reported ≡ length (on N (w.log (name_at config i))) = many i N ∙ ap length (sym (s.log i N here)) in
        omega (arith, more, as_before, as_here)

    free : (i x : ℕ) (N : Term) → IsHere config i → IsHere config x → LockFree v x N → applied_count i N v.reported ≡ length (history N v.reported)
    free i x N here there none =
        let all = agrees.free N (name_at config x) (name_at config i) (live x there) (live i here) (ap (λ (z : State). z.locks N) (s.node x there) ∙ none) in
        many i N ∙ ap length (sym (s.log i N here) ∙ all ∙ updates_shown config apart v w s b.places N) ∙ as_many_updates config apart v w s b.places N

    pub applies : AppliesHistory config v
    applies = record { order = is_prefix; applied = applied; everywhere = everywhere; free = free }

    -- ---- while a node is not formed

    pub nothing_yet : (i : ℕ) → IsHere config i → is_formed config v i ≡ false → entries v.reported ≡ []
    nothing_yet i here not_yet = go (entries v.reported) refl
      where
        go : (es : List Entry) → entries v.reported ≡ es → entries v.reported ≡ []
        go [] is = is
        go (e ∷ es) is =
            let N = name_of e.update in
            let some : history N v.reported ≡ e ∷ of_group N es = ap (of_group N) is ∙ ap (λ b. cond b (e ∷ of_group N es) (of_group N es)) (terms.refl N) in
            let none : applied_by i N v.reported ≡ [] = b.empty i N here not_yet in
            let all : applied_by i N v.reported ≡ updates_of (e ∷ of_group N es) =
            all_applied config apart v b.has i N here (b.unlocked i not_yet N) ∙ updates_shown config apart v w s b.places N ∙ ap updates_of some in
            absurd (cc (sym none ∙ all))

-- ---- tables

module _ (config : Config) (apart : IsDistinct same_atom (names_of config)) (es : List (Event Action)) (w : TimedFrameWorld) (l : Reaches config es w) where
  abbrev pub v : FrameWorld
  v = plain w

  leads : Leads (machine_of config) (start_of (machine_of config)) es v
  leads = plain_from_start (machine_of config) CLOCK_LIMIT es w l

  pub bridge : Bridged config apart v
  bridge = bridged config apart es v leads

  -- a formed node's, by what it has applied
  pub formed_tables : (i : ℕ) (N : Term) → IsHere config i → is_formed config v i ≡ true → (v.node i).table N ≡ less (replay (base config N) (applied_by i N v.reported)) (v.node i).ended
  formed_tables i N here full =
      tabled_run config apart i here N (applies_formed config apart i N here) es v leads
      ∙ ap (λ value. less (replay value (applied_by i N v.reported)) (v.node i).ended) (knows_all config i (v.node i) N full)

  formed : (i : ℕ) (N : Term) → IsHere config i → is_formed config v i ≡ true
      → (v.node i).table N ≡ less (replay (base config N) (take (applied_count i N v.reported) (updates_of (history N v.reported)))) (v.node i).ended
  formed i N here full = formed_tables i N here full ∙ (λ k. less (replay (base config N) (is_prefix config apart v bridge i N here k)) (v.node i).ended)

  unformed : (i : ℕ) (N : Term) → IsHere config i → is_formed config v i ≡ false → (v.node i).table N ≡ less (known (has_groups config v i) N config) (v.node i).ended
  unformed i N here not_yet = untouched_run config apart i here N es v leads (bridge.empty i N here not_yet)

  -- where no end is pending, nodes have the same ends
  same_ends : NonePending config v → (i j : ℕ) → IsHere config i → IsHere config j → (v.node i).ended ≡ (v.node j).ended
  same_ends none i j here there = λ k pid. go pid ((v.node i).ended pid) ((v.node j).ended pid) refl refl k
    where
      also : (x y : ℕ) (pid : Pid) → IsHere config y → (v.node x).ended pid ≡ true → (v.node y).ended pid ≡ true
      also x y pid at_y ended = let home = (homed_timed config es w l).ends x pid ended in none home.0 y pid home.1.0 at_y home.1.1 home.1.2

      go : (pid : Pid) (a b : Bool) → (v.node i).ended pid ≡ a → (v.node j).ended pid ≡ b → (v.node i).ended pid ≡ (v.node j).ended pid
      go pid true b ei ej = ei ∙ sym (also i j pid there ei)
      go pid false true ei ej = absurd (clash (sym (also j i pid here ej) ∙ ei))
      go pid false false ei ej = ei ∙ sym ej

  agree : (i j x : ℕ) (N : Term) → IsHere config i → IsHere config j → IsHere config x → is_formed config v i ≡ true → is_formed config v j ≡ true
      → LockFree v x N → NonePending config v → (v.node i).table N ≡ (v.node j).table N
  agree i j x N here there seen full also unlocked none =
      let all = applies config apart v bridge in
      let count = all.free i x N here seen unlocked ∙ sym (all.free j x N there seen unlocked) in
      let ends = same_ends none i j here there in
      formed i N here full
      ∙ (λ k. less (replay (base config N) (take (count k) (updates_of (history N v.reported)))) (ends k))
      ∙ sym (formed j N there also)

  pub tables : HasTables config v
  tables = record {
    formed = formed;
    unformed = unformed;
    nothing_yet = nothing_yet config apart v bridge;
    agree = agree;
    home = λ i pid here ended. let home = (homed_timed config es w l).ends i pid ended in (home.0, home.1.0, home.1.1, home.1.2);
  }

  -- ---- changes

  none_mapped : (xs : List Entry) → map (by_name config) xs ≡ [] → xs ≡ []
  none_mapped [] e = refl
  none_mapped (x ∷ xs) e = absurd (cc)

  one_more : (N : Term) (before after : List Entry) (e : Entry) → history N v.reported ≡ before ++ e ∷ after → answered_count e.node e.op v.reported ≡ 0 → after ≡ []
  one_more N before after e is none =
      let b = bridge in
      let all = agrees_of b.has.world b.has.inv (nobody_seen config apart v b.has.world b.has.shows) in
      none_mapped after (all.one_more N (map (by_name config) before) (map (by_name config) after) (by_name config e)
      (split_shown config apart v b.has.world b.has.shows b.places N before after e is)
      (answers_shown config apart v b.has.world b.has.shows b.places e.node e.op (node_here config apart v b.has.world b.has.shows b.places N before after e is) ∙ none))

  granted : (N : Term) (before after : List Entry) (e : Entry) → history N v.reported ≡ before ++ e ∷ after → answered_count e.node e.op v.reported ≡ 0
      → (c : ℕ) × ((x : ℕ) → IsHere config x → is_holder ((v.node x).locks N) (numbered (name_at config e.node) c) ≡ true)
  granted N before after e is none =
      let b = bridge in
      let all = agrees_of b.has.world b.has.inv (nobody_seen config apart v b.has.world b.has.shows) in
      let held = all.granted N (map (by_name config) before) (map (by_name config) after) (by_name config e)
      (split_shown config apart v b.has.world b.has.shows b.places N before after e is)
      (answers_shown config apart v b.has.world b.has.shows b.places e.node e.op (node_here config apart v b.has.world b.has.shows b.places N before after e is) ∙ none) in (
        held.0,
        λ x here. sym (ap (λ (z : State). is_holder (z.locks N) (numbered (name_at config e.node) held.0)) (b.has.shows.node x here))
            ∙ held.1 (name_at config x) (live_at config apart v b.has.world x b.has.shows here),
      )

  pub changes_held : HoldsAnswered config es v
  changes_held = record {
    answered = stands_answered config es w l;
    answered_once = answered_at_most config es w l;
    at_most_once = stands_once config es w l;
    one_more = one_more;
    granted = granted;
    given = λ before after e. entries_asked config es w l before after e;
    not_looked = stands_not config es w l;
    one_answer = one_answer config es w l;
    answered_ok = behind_is_ok config es w l;
    ok_behind_lock = ok_is_behind config es w l;
  }

  -- ---- replies and packets

  some_placed : (r : Result NodeTurn Refusal) (t : NodeTurn) → r ≡ Ok t → placed config r ≢ None
  some_placed (Ok t) u e = λ none. absurd (cc)
  some_placed (Err refusal) u e = absurd (cc)

  replies_heard : (i p : ℕ) (r : RefParts) (said : Said) (rest : List Message) → is_pair (length config) i p ≡ true → v.wire p i ≡ Reply r said ∷ rest → node_step config i (v.node i) (Taken p (Reply r said)) ≢ None
  replies_heard i p r said rest pair is =
      let x = bridge.has.world in
      let s = bridge.has.shows in
      let here = pair_first (length config) i p pair in
      let there = pair_second (length config) i p pair in
      let a = name_at config i in
      let b = name_at config p in
      let made = replies_taken x a b r said rest (live_at config apart v x i s here) (near_at config apart v x i p s here there) bridge.has.inv (s.wire p i there here ∙ is) in
      some_placed (node_takes (nodes_at config i) b (Reply r said) (v.node i)) made.0 (takes_all (nodes_at config i) b (Reply r said) (v.node i) (bridge.nobody i) ∙ sym (λ k. taken (s.seat i here k) b (Reply r said) (s.node i here k)) ∙ made.1)

  pub harmless : HarmsNobody config v
  harmless = record { replies = bridge.even; packets = packets }
    where
      packets : (i p : ℕ) (x : Message) (rest : List Message) → is_pair (length config) i p ≡ true → v.wire p i ≡ x ∷ rest → node_step config i (v.node i) (Taken p x) ≢ None
      packets i p (Reply r said) rest pair is = replies_heard i p r said rest pair is
      packets i p (Call r request) rest pair is = none_refused config v bridge.nobody (posted_timed config apart es w l) i p (Call r request) rest pair is refl
      packets i p (DelLock name r) rest pair is = none_refused config v bridge.nobody (posted_timed config apart es w l) i p (DelLock name r) rest pair is refl
      packets i p (Exchange node groups) rest pair is = none_refused config v bridge.nobody (posted_timed config apart es w l) i p (Exchange node groups) rest pair is refl
      packets i p (Down pid) rest pair is = none_refused config v bridge.nobody (posted_timed config apart es w l) i p (Down pid) rest pair is refl

  pub exclusive : ExclusiveLocks config (is_place (length config)) v.node
  exclusive = are_exclusive config apart (is_place (length config)) v.node bridge.has.world (record {
    inv = bridge.has.inv;
    here = λ i here. here;
    live = λ i here. live_at config apart v bridge.has.world i bridge.has.shows here;
    same = λ i here. bridge.has.shows.node i here;
  })

  -- ---- real time

  on_the_way : (first last : List (Event Action)) (m : TimedFrameWorld) → es ≡ first ++ last → Reaches config first m → (more : List (ℕ × Report)) × (v.reported ≡ (plain m).reported ++ more)
  on_the_way first last m is before = reported_more config es first last w m is l before

  pub in_real_time : InRealTime config es v
  in_real_time = record {
    order = λ first last m is reached.
        let more = on_the_way first last m is reached in
        stands_before first (plain m).reported more.0 v.reported more.1 (none_before config first m reached) (λ i op. stands_answered config first m reached i op);
    seen = λ first last m x name before after e is reached here was some.
        let more = on_the_way first last m is reached in
        stays_seen first (plain m).reported more.0 v.reported more.1 x name before after e (λ later now answered. (applies config apart v bridge).everywhere x name before later e here now answered) was some;
  }

  pub from_all : GoesOnFromAll config es v
  from_all = record {
    grown = λ first last m is reached name. let more = on_the_way first last m is reached in (history name more.0, ap (history name) more.1 ∙ history_append name (plain m).reported more.0);
    read = λ first last m i port c is reached query small. query_stays config es first last w m i port c is l reached query small;
  }

  -- ---- all of them

  pub one_history : OneHistory config es v
  one_history = record {
    answered = changes_held;
    applies = applies config apart v bridge;
    tables = tables;
    from_all = from_all;
    real_time = in_real_time;
    exclusive = exclusive;
    harmless = harmless;
  }

-- whatever events are tried, those that happen lead to such a world
pub any_events : (config : Config) (es : List (Event Action)) → IsDistinct same_atom (names_of config)
    → OneHistory config (ran (frame_machine config) (start_of (frame_machine config)) es) (plain (run (frame_machine config) (start_of (frame_machine config)) es))
any_events config es apart =
    let m = frame_machine config in
    one_history config apart (ran m (start_of m) es) (run m (start_of m) es) (leads_ran m es (start_of m))
