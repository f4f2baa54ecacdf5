-- Every command that is open can be answered, by takes and retries alone.
use Rattle.std.proofs.Common.{◌≡◌, ◌⊎◌, inl, inr, ℕ, ◌+◌, ◌*◌, ◌<◌, ◌≤◌, zero, suc, Bool, true, false, ◌||◌, nat_eq}
use Rattle.std.proofs.Common.{length, List, [], ◌∷◌, ◌++◌, Some, refl, ap, sym, ◌∙◌, subst, append-nil, arith}
use Rattle.std.specs.List.{Contains, IsDistinct, list_any}
use Rattle.std.proofs.Math.Nat.{mul-suc}
use Rattle.std.proofs.lemmas.Bool.{cases_eq, cases_lt, eq-eqb}
use Rattle.std.proofs.lemmas.Bool.Decides.{Decides-ltb}
use Rattle.std.proofs.lemmas.List.{length-append}
use Rattle.pg_term.specs.Same.{same_atom}
use Rattle.pg_step.specs.PgMessageTypes.declared.message.Message.{Message}
use Rattle.pg_step.specs.Machines.Clocked.{plain}
use Rattle.pg_step.specs.Machines.Happened.{Happened}
use Rattle.pg_step.specs.Machines.Machine.{Event, Input, Taken, Own, Take, Do, first_from, happens, node_of, start_of}
use Rattle.pg_step.specs.Machines.Places.{is_place}
use Rattle.pg_step.specs.Machines.Runs.{Leads}
use Rattle.pg_step.specs.declared.answer.Reply.TheVariants as reply
use Rattle.pg_step.specs.declared.command.OpId.{OpId}
use Rattle.pg_step.specs.State.{State, Response}
use Rattle.pg_step.specs.State.Response.{Given}
use Rattle.pg_step.specs.Step.{CLOCK_LIMIT, Action, Issue, Retry}
use Rattle.pg_step.specs.Config.{Config, names_of, ports_at}
use Rattle.pg_step.specs.FrameMachine.{frame_machine, machine_of, FrameWorld}
use Rattle.pg_step.proofs.Once.{clash}
use Rattle.pg_step.proofs.Machines.Options.{some_is}
use Rattle.pg_step.proofs.Machines.Plain.{plain_leads}
use Rattle.pg_step.proofs.Machines.Sequences.{whole}
use Rattle.pg_step.proofs.Machines.Steps.{happened}
use Rattle.pg_laws.specs.Counted.{is_open, open_at, open_in}
use Rattle.pg_laws.specs.History.{IsAnsweredOk, answers_by, has_answer}
use Rattle.pg_laws.specs.Quiet.{HasClockRoom, IsQuiet, NoneOpen, OnlyTakes}
use Rattle.pg_laws.specs.Quiet.{OnlyTakesAndRetries, RetryGoes, most_events, peer_count}
use Rattle.pg_laws.specs.Reached.{TimedFrameWorld, Reaches}
use Rattle.pg_laws.proofs.commands.CountRuns.{AllCounts, all_counted}
use Rattle.pg_laws.proofs.commands.Counting.{Counts}
use Rattle.pg_laws.proofs.commands.Ports.{counts_by, step_counts}
use Rattle.pg_laws.proofs.commands.StandRuns.{standing}
use Rattle.pg_laws.proofs.places.Shown.{IsHere}
use Rattle.pg_laws.proofs.quiet.Bounds.{some_open}
use Rattle.pg_laws.proofs.quiet.Ending.{Rests, comes_to_rest, on_time}
use Rattle.pg_laws.proofs.quiet.Retry.{retry_goes, retry_happens}
use Rattle.pg_laws.proofs.quiet.Room.{room_run}
use Rattle.pg_laws.proofs.quiet.Sums.{find_place, total, total_le, total_lower, total_term}
use Rattle.pg_laws.proofs.steps.Lasting.{more_answers_later}
use Rattle.pg_laws.proofs.steps.Ways.{state_after}

-- ---- events that are takes and retries

pub takes_too : (es : List (Event Action)) → OnlyTakes es → OnlyTakesAndRetries es
takes_too [] only = tt
takes_too (Take i p ∷ es) only = takes_too es only
takes_too (Do i action ∷ es) only = absurd only

pub both_too : (es fs : List (Event Action)) → OnlyTakesAndRetries es → OnlyTakesAndRetries fs → OnlyTakesAndRetries (es ++ fs)
both_too [] fs only also = also
both_too (Take i p ∷ es) fs only also = both_too es fs only also
both_too (Do i (Retry op) ∷ es) fs only also = both_too es fs only also
both_too (Do i (Issue port c) ∷ es) fs only also = absurd only

one_more_take : (es : List (Event Action)) (i p : ℕ) → OnlyTakes es → OnlyTakes (es ++ Take i p ∷ [])
one_more_take [] i p only = tt
one_more_take (Take j q ∷ es) i p only = one_more_take es i p only
one_more_take (Do j action ∷ es) i p only = absurd only

-- no command comes in by a take or a retry
abbrev IsNoIssue : Input Message Action → Type 0
IsNoIssue (Own (Issue port c)) = ⊥
IsNoIssue input = Unit {0}

taken_no_issue : (p : ℕ) (xs : List Message) (input : Input Message Action) → first_from p xs ≡ Some input → IsNoIssue input
taken_no_issue p [] input e = absurd (cc)
taken_no_issue p (x ∷ xs) input e = subst IsNoIssue (some_is e) tt

counts_same : (input : Input Message Action) (counts : ℕ → ℕ) → IsNoIssue input → counts_by input counts ≡ counts
counts_same (Own (Retry op)) counts none = refl
counts_same (Taken p x) counts none = refl
counts_same (Own (Issue port c)) counts none = absurd none

module _ (config : Config) where
  event_counts : (v x : FrameWorld) (e : Event Action) (is : Happened (machine_of config) v e x) → IsNoIssue is.input → (i port : ℕ) → (x.node i).counts port ≡ (v.node i).counts port
  event_counts v x e is none i port = state_after (machine_of config) v x e is (λ (s : State). s.counts port ≡ (v.node i).counts port) i
      (λ own. ap (λ (f : ℕ → ℕ). f port) (step_counts config (node_of e) (v.node (node_of e)) is.input is.turn is.made ∙ counts_same is.input (v.node (node_of e)).counts none) ∙ ap (λ z. (v.node z).counts port) (sym own))
      (λ _. refl)

  run_counts : (es : List (Event Action)) → OnlyTakesAndRetries es → (v x : FrameWorld) → Leads (machine_of config) v es x → (i port : ℕ) → (x.node i).counts port ≡ (v.node i).counts port
  run_counts [] only v x l i port = ap (λ (z : FrameWorld). (z.node i).counts port) (sym l)
  run_counts (Take j p ∷ es) only v x l i port =
      let one = happened (machine_of config) v l.0 (Take j p) l.1 in
      run_counts es only l.0 x l.2 i port ∙ event_counts v l.0 (Take j p) one (taken_no_issue p (v.wire p j) one.input one.given) i port
  run_counts (Do j (Retry op) ∷ es) only v x l i port =
      let one = happened (machine_of config) v l.0 (Do j (Retry op)) l.1 in
      run_counts es only l.0 x l.2 i port ∙ event_counts v l.0 (Do j (Retry op)) one (subst IsNoIssue (some_is one.given) tt) i port
  run_counts (Do j (Issue port_ c) ∷ es) only v x l i port = absurd only

-- ---- answers

contains_any : {A : Type 0} (test : A → Bool) (xs : List A) (x : A) → Contains xs x → test x ≡ true → list_any test xs ≡ true
contains_any test [] x (k, below, is) hit = absurd (omega arith)
contains_any test (z ∷ zs) x (zero, below, is) hit = ap (λ b. b || list_any test zs) (ap test is ∙ hit)
contains_any test (z ∷ zs) x (suc k, below, is) hit = right (test z) (contains_any test zs x (k, omega arith, is) hit)
  where
    right : (b : Bool) {c : Bool} → c ≡ true → (b || c) ≡ true
    right true e = refl
    right false e = e

-- a list that has come to pass a test has more elements
longer : {A : Type 0} (test : A → Bool) (xs more : List A) → list_any test xs ≡ false → list_any test (xs ++ more) ≡ true → length xs < length (xs ++ more)
longer test xs [] none some = absurd (clash (sym some ∙ ap (list_any test) (append-nil xs) ∙ none))
longer test xs (z ∷ zs) none some = let all : length (xs ++ z ∷ zs) ≡ length xs + length (z ∷ zs) = length-append xs (z ∷ zs) in omega (arith, all)

-- ---- how many are open

fewer_in : (ports : ℕ) (s t : State) → ((port : ℕ) → open_at port t ≤ open_at port s) → open_in ports t ≤ open_in ports s
fewer_in zero s t each = omega arith
fewer_in (suc port) s t each =
    let one : open_at port t ≤ open_at port s = each port in
    let rest : open_in port t ≤ open_in port s = fewer_in port s t each in
    omega (arith, one, rest)

less_in : (ports : ℕ) (s t : State) (port : ℕ) → port < ports → ((q : ℕ) → open_at q t ≤ open_at q s) → open_at port t < open_at port s → open_in ports t < open_in ports s
less_in zero s t port below each less = absurd (omega arith)
less_in (suc last) s t port below each less = go (cases_eq last port) (λ under. less_in last s t port under each less)
  where
    go : (last ≡ port) ⊎ (last ≡ port → ⊥) → (port < last → open_in last t < open_in last s) → open_at last t + open_in last t < open_at last s + open_in last s
    go (inl e) again =
        let here : open_at last t < open_at last s = subst (λ z. open_at z t < open_at z s) (sym e) less in
        let rest : open_in last t ≤ open_in last s = fewer_in last s t each in
        omega (arith, here, rest)
    go (inr apart) again =
        let here : open_at last t ≤ open_at last s = each last in
        let rest : open_in last t < open_in last s = again (omega (arith, below, apart)) in
        omega (arith, here, rest)

module _ (config : Config) (apart : IsDistinct same_atom (names_of config)) where
  abbrev n : ℕ
  n = length config

  -- how many commands are open
  abbrev opened : TimedFrameWorld → ℕ
  opened w = total n (λ i. (w.node i).state.opened)

  -- a command that is open is not answered
  open_unanswered : (events : List (Event Action)) (w : TimedFrameWorld) → Reaches config events w → (i : ℕ) (op : OpId) → is_open (((plain w).node i).stages op) ≡ true → has_answer op (answers_by i (plain w).reported) ≡ false
  open_unanswered events w l i op is = go (has_answer op (answers_by i (plain w).reported)) refl
    where
      go : (b : Bool) → has_answer op (answers_by i (plain w).reported) ≡ b → has_answer op (answers_by i (plain w).reported) ≡ false
      go false none = none
      go true has = absurd (clash (sym is ∙ ap is_open (((standing config events w l).kept i).over op has).0))

  -- ---- takes and retries open none

  module _ (events more : List (Event Action)) (w v : TimedFrameWorld) (l : Reaches config events w) (k : Leads (frame_machine config) w more v) (only : OnlyTakesAndRetries more) where
    later : Reaches config (events ++ more) v
    later = whole (frame_machine config) events more (start_of (frame_machine config)) w v l k

    before_counts : (i : ℕ) → AllCounts config (plain w) i
    before_counts i = all_counted config w events i l

    after_counts : (i : ℕ) → AllCounts config (plain v) i
    after_counts i = all_counted config v (events ++ more) i later

    same_counts : (i port : ℕ) → (v.node i).state.counts port ≡ (w.node i).state.counts port
    same_counts i port = run_counts config more only (plain w) (plain v) (plain_leads (machine_of config) CLOCK_LIMIT more w v k) i port

    fewer_at : (i port : ℕ) → open_at port (v.node i).state ≤ open_at port (w.node i).state
    fewer_at i port =
        let answers = more_answers_later config w v more i port k in
        let all : length (answers_by i (plain v).reported port) ≡ length (answers_by i (plain w).reported port) + length answers.0 = ap length answers.1 ∙ length-append (answers_by i (plain w).reported port) answers.0 in
        let was : (w.node i).state.counts port ≡ length (answers_by i (plain w).reported port) + open_at port (w.node i).state = (before_counts i).answered port in
        let is : (v.node i).state.counts port ≡ length (answers_by i (plain v).reported port) + open_at port (v.node i).state = (after_counts i).answered port in
        let same : (v.node i).state.counts port ≡ (w.node i).state.counts port = same_counts i port in
        omega (arith, all, was, is, same)

    fewer_opened : (i : ℕ) → (v.node i).state.opened ≤ (w.node i).state.opened
    fewer_opened i =
        let was : (w.node i).state.opened ≡ open_in (ports_at config i) (w.node i).state = (before_counts i).counts.all in
        let is : (v.node i).state.opened ≡ open_in (ports_at config i) (v.node i).state = (after_counts i).counts.all in
        let few : open_in (ports_at config i) (v.node i).state ≤ open_in (ports_at config i) (w.node i).state = fewer_in (ports_at config i) (w.node i).state (v.node i).state (fewer_at i) in
        omega (arith, was, is, few)

    -- one that was open and is answered is open no more
    module _ (i : ℕ) (here : IsHere config i) (op : OpId) (was_open : is_open ((w.node i).state.stages op) ≡ true) (ok : IsAnsweredOk op (answers_by i (plain v).reported)) where
      less_at : open_at op.port (v.node i).state < open_at op.port (w.node i).state
      less_at =
          let answers = more_answers_later config w v more i op.port k in
          let has : has_answer op (answers_by i (plain v).reported) ≡ true = contains_any (λ (a : ℕ × Response). nat_eq a.0 op.number) (answers_by i (plain v).reported op.port) (op.number, Given reply.Ok) ok (eq-eqb op.number op.number refl) in
          let gone : length (answers_by i (plain w).reported op.port) < length (answers_by i (plain w).reported op.port ++ answers.0) =
          longer (λ (a : ℕ × Response). nat_eq a.0 op.number) (answers_by i (plain w).reported op.port) answers.0 (open_unanswered events w l i op was_open) (ap (list_any (λ (a : ℕ × Response). nat_eq a.0 op.number)) (sym answers.1) ∙ has) in
          let all : length (answers_by i (plain v).reported op.port) ≡ length (answers_by i (plain w).reported op.port ++ answers.0) = ap length answers.1 in
          let was : (w.node i).state.counts op.port ≡ length (answers_by i (plain w).reported op.port) + open_at op.port (w.node i).state = (before_counts i).answered op.port in
          let is : (v.node i).state.counts op.port ≡ length (answers_by i (plain v).reported op.port) + open_at op.port (v.node i).state = (after_counts i).answered op.port in
          let same : (v.node i).state.counts op.port ≡ (w.node i).state.counts op.port = same_counts i op.port in
          omega (arith, gone, all, was, is, same)

      less_opened : (v.node i).state.opened < (w.node i).state.opened
      less_opened =
          let was : (w.node i).state.opened ≡ open_in (ports_at config i) (w.node i).state = (before_counts i).counts.all in
          let is : (v.node i).state.opened ≡ open_in (ports_at config i) (v.node i).state = (after_counts i).counts.all in
          let less : open_in (ports_at config i) (v.node i).state < open_in (ports_at config i) (w.node i).state =
          less_in (ports_at config i) (w.node i).state (v.node i).state op.port ((before_counts i).counts.within op was_open).1 (fewer_at i) less_at in
          omega (arith, was, is, less)

      pub opened_less : opened v < opened w
      opened_less = total_lower n i (λ j. (v.node j).state.opened) (λ j. (w.node j).state.opened) ((Decides-ltb i n).0 here) less_opened (λ j _. fewer_opened j)

  -- ---- what can be told of a world

  -- a command that is open
  record OpenOne (w : TimedFrameWorld) : Type 0 where
    place : ℕ
    here : IsHere config place
    op : OpId
    is : is_open ((w.node place).state.stages op) ≡ true

  abbrev op_of : ℕ → ℕ → OpId
  op_of port number = record { port = port; number = number }

  at_number : (w : TimedFrameWorld) (i : ℕ) → IsHere config i → (port k : ℕ) → OpenOne w ⊎ (is_open ((w.node i).state.stages (op_of port k)) ≡ false)
  at_number w i here port k = go (is_open ((w.node i).state.stages (op_of port k))) refl
    where
      go : (b : Bool) → is_open ((w.node i).state.stages (op_of port k)) ≡ b → OpenOne w ⊎ (is_open ((w.node i).state.stages (op_of port k)) ≡ false)
      go true is = inl (record { place = i; here = here; op = op_of port k; is = is })
      go false is = inr is

  abbrev NoneAtPort : TimedFrameWorld → ℕ → ℕ → Type 0
  NoneAtPort w i port = (k : ℕ) → k < (w.node i).state.counts port + 1 → is_open ((w.node i).state.stages (op_of port k)) ≡ false

  abbrev NoneAtNode : TimedFrameWorld → ℕ → Type 0
  NoneAtNode w i = IsHere config i → (port : ℕ) → port < ports_at config i → NoneAtPort w i port

  at_port : (w : TimedFrameWorld) (i : ℕ) → IsHere config i → (port : ℕ) → OpenOne w ⊎ NoneAtPort w i port
  at_port w i here port = go (find_place ((w.node i).state.counts port + 1) (λ k. OpenOne w) (λ k. is_open ((w.node i).state.stages (op_of port k)) ≡ false) (at_number w i here port))
    where
      go : ((k : ℕ) × OpenOne w) ⊎ NoneAtPort w i port → OpenOne w ⊎ NoneAtPort w i port
      go (inl found) = inl found.1
      go (inr none) = inr none

  at_node : (w : TimedFrameWorld) (i : ℕ) → OpenOne w ⊎ NoneAtNode w i
  at_node w i = go (is_place n i) refl
    where
      found_or_none : ((port : ℕ) × OpenOne w) ⊎ ((port : ℕ) → port < ports_at config i → NoneAtPort w i port) → OpenOne w ⊎ NoneAtNode w i
      found_or_none (inl found) = inl found.1
      found_or_none (inr none) = inr (λ _. none)

      go : (b : Bool) → is_place n i ≡ b → OpenOne w ⊎ NoneAtNode w i
      go true here = found_or_none (find_place (ports_at config i) (λ port. OpenOne w) (NoneAtPort w i) (at_port w i here))
      go false away = inr (λ here. absurd (clash (sym here ∙ away)))

  open_or_none : (events : List (Event Action)) (w : TimedFrameWorld) → Reaches config events w → OpenOne w ⊎ NoneOpen config (plain w)
  open_or_none events w l = go (find_place n (λ i. OpenOne w) (NoneAtNode w) (at_node w))
    where
      go : ((i : ℕ) × OpenOne w) ⊎ ((i : ℕ) → i < n → NoneAtNode w i) → OpenOne w ⊎ NoneOpen config (plain w)
      go (inl found) = inl found.1
      go (inr none) = inr closed
        where
          closed : NoneOpen config (plain w)
          closed i op here = told (is_open ((w.node i).state.stages op)) refl
            where
              counts : Counts (ports_at config i) (w.node i).state
              counts = (all_counted config w events i l).counts

              told : (b : Bool) → is_open ((w.node i).state.stages op) ≡ b → is_open ((w.node i).state.stages op) ≡ false
              told false is = is
              told true is = within (cases_lt ((w.node i).state.counts op.port) op.number)
                where
                  within : ((w.node i).state.counts op.port < op.number) ⊎ (op.number ≤ (w.node i).state.counts op.port) → is_open ((w.node i).state.stages op) ≡ false
                  within (inl above) = ap is_open (counts.fitting.closed op above)
                  within (inr low) = none i ((Decides-ltb i n).0 here) here op.port ((counts.within op is).1) op.number (omega (arith, low))

  -- ---- one command is answered

  one_behind : (es : List (Event Action)) (e : Event Action) (w v u : TimedFrameWorld) → Leads (frame_machine config) w es v → happens (frame_machine config) v e ≡ Some u → Leads (frame_machine config) w (es ++ e ∷ []) u
  one_behind es e w v u l is = whole (frame_machine config) es (e ∷ []) w v u l (u, is, refl)

  abbrev enough : ℕ
  enough = 1 + 5 * peer_count config

  module _ (events : List (Event Action)) (w : TimedFrameWorld) (l : Reaches config events w) (quiet : IsQuiet config (plain w)) (found : OpenOne w) (room : HasClockRoom config w enough) where
    abbrev i : ℕ
    i = found.place

    abbrev op : OpId
    op = found.op

    -- so many packets taken behind its retry
    record Driven (count : ℕ) : Type 0 where
      takes : List (Event Action)
      world : TimedFrameWorld
      only : OnlyTakes takes
      many : length takes ≡ count
      leads : Leads (frame_machine config) w (Do i (Retry op) ∷ takes) world

    goes : (count : ℕ) (d : Driven count) → RetryGoes config i op (length d.takes) d.world
    goes count d = retry_goes config apart i found.here events w l quiet op found.is room d.takes d.only d.world d.leads

    some_room : HasClockRoom config w 1
    some_room j here = let all : (w.node j).clock + (1 + 5 * peer_count config) ≤ CLOCK_LIMIT = room j here in omega (arith, all)

    one_more : (count : ℕ) → count < 5 * peer_count config → Driven count → Driven (suc count)
    one_more count few d =
        let all = goes count d in
        let many : length d.takes ≡ count = d.many in
        let next = all.on_the_way (omega (arith, many, few)) in
        let u = all.is_taken next.0 next.1 next.2 next.3 next.4 next.5 in
        record {
          takes = d.takes ++ Take next.1 next.0 ∷ [];
          world = u.0;
          only = one_more_take d.takes next.1 next.0 d.only;
          many = let sum : length (d.takes ++ Take next.1 next.0 ∷ []) ≡ length d.takes + 1 = length-append d.takes (Take next.1 next.0 ∷ []) in omega (arith, sum, many);
          leads = one_behind (Do i (Retry op) ∷ d.takes) (Take next.1 next.0) w d.world u.0 d.leads u.1;
        }

    drive : (count : ℕ) → count ≤ 5 * peer_count config → Driven count
    drive zero low =
        let r = retry_happens config apart i found.here events w l quiet op found.is some_room in
        record { takes = []; world = r.0; only = tt; many = refl; leads = (r.0, r.1, refl) }
    drive (suc count) low = one_more count (omega (arith, low)) (drive count (omega (arith, low)))

    last : Driven (5 * peer_count config)
    last = drive (5 * peer_count config) (omega arith)

    -- the world behind it is quiet, and one command less is open
    record OneAnswered : Type 0 where
      more : List (Event Action)
      world : TimedFrameWorld
      only : OnlyTakesAndRetries more
      many : length more ≡ enough
      leads : Leads (frame_machine config) w more world
      rests : IsQuiet config (plain world)
      fewer : opened world < opened w

    one_answered : OneAnswered
    one_answered =
        let all = goes (5 * peer_count config) last in
        let many : length last.takes ≡ 5 * peer_count config = last.many in
        let ok = all.answered (omega (arith, many)) in
        let only = takes_too last.takes last.only in
        record {
          more = Do i (Retry op) ∷ last.takes;
          world = last.world;
          only = only;
          many = omega (arith, many);
          leads = last.leads;
          rests = all.quiet many;
          fewer = opened_less events (Do i (Retry op) ∷ last.takes) w last.world l last.leads only i found.here op found.is ok;
        }

  -- ---- all are answered

  pub record AllAnswered (w : TimedFrameWorld) : Type 0 where
    pub more : List (Event Action)
    pub world : TimedFrameWorld
    pub only : OnlyTakesAndRetries more
    pub leads : Leads (frame_machine config) w more world
    pub none_open : NoneOpen config (plain world)
    pub quiet : IsQuiet config (plain world)

  behind : (w v : TimedFrameWorld) (es : List (Event Action)) → OnlyTakesAndRetries es → Leads (frame_machine config) w es v → AllAnswered v → AllAnswered w
  behind w v es only l all = record {
    more = es ++ all.more;
    world = all.world;
    only = both_too es all.more only all.only;
    leads = whole (frame_machine config) es all.more w v all.world l all.leads;
    none_open = all.none_open;
    quiet = all.quiet;
  }

  -- where a command is open, one is counted as open
  some_opened : (events : List (Event Action)) (w : TimedFrameWorld) → Reaches config events w → OpenOne w → 1 ≤ opened w
  some_opened events w l found =
      let one : 1 ≤ (w.node found.place).state.opened = some_open (ports_at config found.place) (w.node found.place).state ((all_counted config w events found.place l).counts) found.op found.is in
      let all : (w.node found.place).state.opened ≤ opened w = total_term n found.place (λ i. (w.node i).state.opened) ((Decides-ltb found.place n).0 found.here) in
      omega (arith, one, all)

  answered_within : (k : ℕ) (events : List (Event Action)) (w : TimedFrameWorld) → Reaches config events w → IsQuiet config (plain w) → opened w ≤ k → HasClockRoom config w (enough * k) → OpenOne w ⊎ NoneOpen config (plain w) → AllAnswered w
  answered_within k events w l quiet few room (inr none) = record { more = []; world = w; only = tt; leads = refl; none_open = none; quiet = quiet }
  answered_within zero events w l quiet few room (inl found) = let some : 1 ≤ opened w = some_opened events w l found in absurd (omega (arith, some, few))
  answered_within (suc k) events w l quiet few room (inl found) =
      let sum : enough * suc k ≡ enough * k + enough = mul-suc enough k in
      let free : HasClockRoom config w enough = λ i here. let all : (w.node i).clock + enough * suc k ≤ CLOCK_LIMIT = room i here in omega (arith, all, sum) in
      let one = one_answered events w l quiet found free in
      let less : opened one.world < opened w = one.fewer in
      let many : length one.more ≡ enough = one.many in
      let reached = whole (frame_machine config) events one.more (start_of (frame_machine config)) w one.world l one.leads in
      let left : HasClockRoom config one.world (enough * k) = room_run config one.more w one.world (enough * k) one.leads (on_time config apart events w l)
      (λ i here. let all : (w.node i).clock + enough * suc k ≤ CLOCK_LIMIT = room i here in omega (arith, all, sum, many)) in
      behind w one.world one.more one.only one.leads (answered_within k (events ++ one.more) one.world reached one.rests (omega (arith, less, few)) left (open_or_none (events ++ one.more) one.world reached))

  pub all_answered : (events : List (Event Action)) (w : TimedFrameWorld) → Reaches config events w → HasClockRoom config w (most_events config (plain w)) → AllAnswered w
  all_answered events w l room = behind w rest.world rest.takes only rest.leads
      (answered_within (opened w) (events ++ rest.takes) rest.world reached rest.quiet few rest.left (open_or_none (events ++ rest.takes) rest.world reached))
    where
      rest : Rests config apart w (enough * opened w)
      rest = comes_to_rest config apart events w l (enough * opened w) room

      only : OnlyTakesAndRetries rest.takes
      only = takes_too rest.takes rest.only

      reached : Reaches config (events ++ rest.takes) rest.world
      reached = whole (frame_machine config) events rest.takes (start_of (frame_machine config)) w rest.world l rest.leads

      few : opened rest.world ≤ opened w
      few = total_le n (λ i. (rest.world.node i).state.opened) (λ i. (w.node i).state.opened) (λ i _. fewer_opened events rest.takes w rest.world l rest.leads only i)
