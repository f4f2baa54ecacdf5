-- Takes and retries open no command, whoever was lost, and a command that is answered meanwhile is open no more.
use Rattle.std.proofs.Common.{◌≡◌, ℕ, zero, suc, ◌+◌, ◌<◌, ◌≤◌, Bool, true, false, ◌||◌, nat_eq, length}
use Rattle.std.proofs.Common.{List, [], ◌∷◌, ◌++◌, Some, refl, ap, sym, ◌∙◌, subst, append-nil, arith}
use Rattle.std.specs.List.{Contains, list_any}
use Rattle.std.proofs.lemmas.Bool.{eq-eqb}
use Rattle.std.proofs.lemmas.Bool.Decides.{Decides-ltb}
use Rattle.std.proofs.lemmas.List.{length-append}
use Rattle.pg_laws.specs.PgMessageTypes.declared.message.Message.{Message}
use Rattle.pg_laws.specs.PgStep.Machines.Happened.{Happened}
use Rattle.pg_laws.specs.PgStep.Machines.Losing.{LosingEvent, Noticed, Step, all_steps, nobody_gone}
use Rattle.pg_laws.specs.PgStep.Machines.Machine.{Do, Event, Input, Own, Take, Taken, Turn, first_from, node_of, start_of}
use Rattle.pg_laws.proofs.PgStep.Machines.Options.{some_is}
use Rattle.pg_laws.specs.PgStep.Config.{Config, ports_at}
use Rattle.pg_laws.specs.PgStep.FrameMachine.{losing_frame_machine, losing_machine_of}
use Rattle.pg_laws.specs.PgStep.LossLaws.{LosingFrameWorld}
use Rattle.pg_laws.specs.PgStep.State.{Response, State}
use Rattle.pg_laws.specs.PgStep.State.Response.{Given}
use Rattle.pg_laws.specs.PgStep.Step.{Action, Issue, Retry}
use Rattle.pg_laws.specs.PgStep.Turns.{Report}
use Rattle.pg_laws.specs.PgStep.declared.answer.Reply.TheVariants as reply
use Rattle.pg_laws.specs.PgStep.declared.command.OpId.{OpId}
use Rattle.pg_laws.specs.Counted.{is_open, open_at, open_in}
use Rattle.pg_laws.specs.History.{IsAnsweredOk, answers_by, has_answer}
use Rattle.pg_laws.specs.Quiet.{OnlyTakesAndRetries}
use Rattle.pg_laws.proofs.commands.CountRuns.{AllCounts}
use Rattle.pg_laws.proofs.commands.Ports.{counts_by, step_counts}
use Rattle.pg_laws.proofs.places.Shown.{IsHere}
use Rattle.pg_laws.proofs.quiet.Bounds.{open_in_total}
use Rattle.pg_laws.proofs.quiet.Sums.{total, total_le, total_lower}
use Rattle.pg_laws.proofs.steps.Ways.{state_after}
use Rattle.pg_laws_losses.specs.Quiet.{live_open}
use Rattle.pg_laws_losses.specs.Reached.{LosingReaches}
use Rattle.pg_laws_losses.proofs.Counting.{all_count}
use Rattle.pg_laws_losses.proofs.Lasts.{answers_later}
use Rattle.pg_laws_losses.proofs.Lossy.{Died, Makes, Passed, Sees, Steps, Went, bare, heard, makes, noted, passed}
use Rattle.pg_laws_losses.proofs.Standing.{standing}
use Rattle.pg_laws_losses.proofs.Remains.Passing.{Leads}
use Rattle.pg_laws_losses.proofs.Readiness.Going.{no_loss}
use Rattle.pg_laws_losses.proofs.Retrying.Reaching.{leads_on}

-- ---- no command comes in

abbrev IsPlain : Input (Noticed Message) Action → Type 0
IsPlain (Own (Issue port c)) = ⊥
IsPlain input = Unit {0}

taken_plain : (p : ℕ) (xs : List (Noticed Message)) (input : Input (Noticed Message) Action) → first_from p xs ≡ Some input → IsPlain input
taken_plain p [] input e = absurd (cc)
taken_plain p (x ∷ xs) input e = subst IsPlain (some_is e) tt

counts_same : (given : Input Message Action) (counts : ℕ → ℕ) → IsPlain (noted given) → counts_by given counts ≡ counts
counts_same (Own (Retry op)) counts none = refl
counts_same (Taken p x) counts none = refl
counts_same (Own (Issue port c)) counts none = absurd none

pub step_is : {c d : Event Action} → ◌≡◌ {A = LosingEvent Action} (Step c) (Step d) → c ≡ d
step_is e = cc

abbrev IsPlainEvent : Event Action → Type 0
IsPlainEvent (Do i (Issue port c)) = ⊥
IsPlainEvent d = Unit {0}

module _ (config : Config) where
  turn_counts : (i : ℕ) (s : State) (input : Input (Noticed Message) Action) (turn : Turn State (Noticed Message) Report)
      → IsPlain input → Makes config i s input turn → turn.state.counts ≡ s.counts
  turn_counts i s input turn none (Steps given t is made same) =
      ap (λ (z : Turn State (Noticed Message) Report). z.state.counts) same
      ∙ (step_counts config i s given t made ∙ counts_same given s.counts (subst IsPlain is none))
  turn_counts i s input turn none (Sees p is not_yet same) = ap (λ (z : Turn State (Noticed Message) Report). z.state.counts) same

  event_counts : (v x : LosingFrameWorld) (d : Event Action) (h : Happened (losing_machine_of config) (bare v).world d (bare x).world)
      → IsPlain h.input → (i port : ℕ) → (x.world.node i).state.counts port ≡ (v.world.node i).state.counts port
  event_counts v x d h none i port = state_after (losing_machine_of config) (bare v).world (bare x).world d h
      (λ (s : State). s.counts port ≡ (v.world.node i).state.counts port) i
      (λ own. ap (λ (f : ℕ → ℕ). f port) (turn_counts (node_of d) (v.world.node (node_of d)).state h.input h.turn none
      (makes config (node_of d) (v.world.node (node_of d)).state h.input h.turn h.made))
      ∙ ap (λ z. (v.world.node z).state.counts port) (sym own))
      (λ _. refl)

  input_plain : (v x : LosingFrameWorld) (d : Event Action) → IsPlainEvent d
      → (h : Happened (losing_machine_of config) (bare v).world d (bare x).world) → IsPlain h.input
  input_plain v x (Take i p) plain h = taken_plain p ((bare v).world.wire p i) h.input h.given
  input_plain v x (Do i (Retry op)) plain h = subst IsPlain (some_is h.given) tt
  input_plain v x (Do i (Issue port c)) plain h = absurd plain

  passed_counts : (v x : LosingFrameWorld) (d : Event Action) → IsPlainEvent d → Passed config (bare v) (bare x) (Step d)
      → (i port : ℕ) → (x.world.node i).state.counts port ≡ (v.world.node i).state.counts port
  passed_counts v x d plain (Went e is alive h same) i port =
      event_counts v x e h (input_plain v x e (subst IsPlainEvent (step_is is) plain) h) i port
  passed_counts v x d plain (Died j keep is there alive cut gone) i port = absurd (no_loss is)

  run_counts : (ts : List (Event Action)) → OnlyTakesAndRetries ts → (v x : LosingFrameWorld) → Leads config v (all_steps ts) x
      → (i port : ℕ) → (x.world.node i).state.counts port ≡ (v.world.node i).state.counts port
  run_counts [] only v x l i port = ap (λ (z : LosingFrameWorld). (z.world.node i).state.counts port) (sym l)
  run_counts (Take j p ∷ ts) only v x l i port = run_counts ts only l.0 x l.2 i port
      ∙ passed_counts v l.0 (Take j p) tt (passed config v l.0 (Step (Take j p)) l.1) i port
  run_counts (Do j (Retry op) ∷ ts) only v x l i port = run_counts ts only l.0 x l.2 i port
      ∙ passed_counts v l.0 (Do j (Retry op)) tt (passed config v l.0 (Step (Do j (Retry op))) l.1) i port
  run_counts (Do j (Issue port_ c) ∷ ts) only v x l i port = absurd only

-- ---- answers

contains_any : {A : Type 0} (test : A → Bool) (xs : List A) (x : A) → Contains xs x → test x ≡ true → list_any test xs ≡ true
contains_any test [] x (k, below, is) hit = absurd (omega arith)
contains_any test (z ∷ zs) x (zero, below, is) hit = ap (λ b. b || list_any test zs) (ap test is ∙ hit)
contains_any test (z ∷ zs) x (suc k, below, is) hit = right (test z) (contains_any test zs x (k, omega arith, is) hit)
  where
    right : (b : Bool) {c : Bool} → c ≡ true → (b || c) ≡ true
    right true e = refl
    right false e = e

-- a list that has come to pass a test has more elements
longer : {A : Type 0} (test : A → Bool) (xs more : List A) → list_any test xs ≡ false → list_any test (xs ++ more) ≡ true
    → length xs < length (xs ++ more)
longer test xs [] none some = absurd (cc (sym some ∙ (ap (list_any test) (append-nil xs) ∙ none)))
longer test xs (z ∷ zs) none some =
    let all : length (xs ++ z ∷ zs) ≡ length xs + length (z ∷ zs) = length-append xs (z ∷ zs) in omega (arith, all)

-- ---- how many are open

module _ (config : Config) (events : List (LosingEvent Action)) (w v : LosingFrameWorld) (l : LosingReaches config events w)
    (ts : List (Event Action)) (only : OnlyTakesAndRetries ts) (k : Leads config w (all_steps ts) v) where
  abbrev n : ℕ
  n = length config

  later : LosingReaches config (events ++ all_steps ts) v
  later = leads_on config events (all_steps ts) (nobody_gone (start_of (losing_frame_machine config))) w v l k

  before : (i : ℕ) → AllCounts config (heard (bare w)) i
  before i = all_count config events w i l

  after : (i : ℕ) → AllCounts config (heard (bare v)) i
  after i = all_count config (events ++ all_steps ts) v i later

  fewer_at : (i port : ℕ) → open_at port (v.world.node i).state ≤ open_at port (w.world.node i).state
  fewer_at i port =
      let answers = answers_later config w v (all_steps ts) i port k in
      let all : length (answers_by i v.world.reported port) ≡ length (answers_by i w.world.reported port) + length answers.0 =
      ap length answers.1 ∙ length-append (answers_by i w.world.reported port) answers.0 in
      let was : (w.world.node i).state.counts port ≡ length (answers_by i w.world.reported port) + open_at port (w.world.node i).state =
      (before i).answered port in
      let is : (v.world.node i).state.counts port ≡ length (answers_by i v.world.reported port) + open_at port (v.world.node i).state =
      (after i).answered port in
      let same : (v.world.node i).state.counts port ≡ (w.world.node i).state.counts port = run_counts config ts only w v k i port in
      omega (arith, all, was, is, same)

  pub fewer_opened : (i : ℕ) → (v.world.node i).state.opened ≤ (w.world.node i).state.opened
  fewer_opened i =
      let s : State = (w.world.node i).state in
      let t : State = (v.world.node i).state in
      let ports : ℕ = ports_at config i in
      let was : s.opened ≡ open_in ports s = (before i).counts.all in
      let was_sum : open_in ports s ≡ total ports (λ port. open_at port s) = open_in_total ports s in
      let is : t.opened ≡ open_in ports t = (after i).counts.all in
      let is_sum : open_in ports t ≡ total ports (λ port. open_at port t) = open_in_total ports t in
      let few : total ports (λ port. open_at port t) ≤ total ports (λ port. open_at port s) =
      total_le ports (λ port. open_at port t) (λ port. open_at port s) (λ port _. fewer_at i port) in
      omega (arith, was, was_sum, is, is_sum, few)

  pub fewer_open : live_open config v ≤ live_open config w
  fewer_open = total_le n (λ i. (v.world.node i).state.opened) (λ i. (w.world.node i).state.opened) (λ i _. fewer_opened i)

  -- one that was open and is answered is open no more
  module _ (i : ℕ) (here : IsHere config i) (op : OpId) (was_open : is_open ((w.world.node i).state.stages op) ≡ true)
      (ok : IsAnsweredOk op (answers_by i v.world.reported)) where
    -- a command that is open is not answered
    unanswered : has_answer op (answers_by i w.world.reported) ≡ false
    unanswered = go (has_answer op (answers_by i w.world.reported)) refl
      where
        go : (b : Bool) → has_answer op (answers_by i w.world.reported) ≡ b → has_answer op (answers_by i w.world.reported) ≡ false
        go false none = none
        go true has = absurd (cc (sym was_open ∙ ap is_open (((standing config events w l).kept i).over op has).0))

    less_at : open_at op.port (v.world.node i).state < open_at op.port (w.world.node i).state
    less_at =
        let answers = answers_later config w v (all_steps ts) i op.port k in
        let has : has_answer op (answers_by i v.world.reported) ≡ true =
        contains_any (λ (a : ℕ × Response). nat_eq a.0 op.number) (answers_by i v.world.reported op.port) (op.number, Given reply.Ok) ok (eq-eqb op.number op.number refl) in
        let gone : length (answers_by i w.world.reported op.port) < length (answers_by i w.world.reported op.port ++ answers.0) =
        longer (λ (a : ℕ × Response). nat_eq a.0 op.number) (answers_by i w.world.reported op.port) answers.0 unanswered
        (ap (list_any (λ (a : ℕ × Response). nat_eq a.0 op.number)) (sym answers.1) ∙ has) in
        let all : length (answers_by i v.world.reported op.port) ≡ length (answers_by i w.world.reported op.port ++ answers.0) = ap length answers.1 in
        let was : (w.world.node i).state.counts op.port ≡ length (answers_by i w.world.reported op.port) + open_at op.port (w.world.node i).state =
        (before i).answered op.port in
        let is : (v.world.node i).state.counts op.port ≡ length (answers_by i v.world.reported op.port) + open_at op.port (v.world.node i).state =
        (after i).answered op.port in
        let same : (v.world.node i).state.counts op.port ≡ (w.world.node i).state.counts op.port = run_counts config ts only w v k i op.port in
        omega (arith, gone, all, was, is, same)

    less_opened : (v.world.node i).state.opened < (w.world.node i).state.opened
    less_opened =
        let s : State = (w.world.node i).state in
        let t : State = (v.world.node i).state in
        let ports : ℕ = ports_at config i in
        let was : s.opened ≡ open_in ports s = (before i).counts.all in
        let was_sum : open_in ports s ≡ total ports (λ port. open_at port s) = open_in_total ports s in
        let is : t.opened ≡ open_in ports t = (after i).counts.all in
        let is_sum : open_in ports t ≡ total ports (λ port. open_at port t) = open_in_total ports t in
        let less : total ports (λ port. open_at port t) < total ports (λ port. open_at port s) =
        total_lower ports op.port (λ port. open_at port t) (λ port. open_at port s) ((before i).counts.within op was_open).1 less_at (λ port _. fewer_at i port) in
        omega (arith, was, was_sum, is, is_sum, less)

    pub less_open : live_open config v < live_open config w
    less_open = total_lower n i (λ j. (v.world.node j).state.opened) (λ j. (w.world.node j).state.opened) ((Decides-ltb i n).0 here) less_opened (λ j _. fewer_opened j)
