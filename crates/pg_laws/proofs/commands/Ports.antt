-- A node counts at each port the commands that came in there.
use Rattle.std.proofs.Common.{◌≡◌, ◌≢◌, ◌⊎◌, inl, inr, ℕ, zero, suc, ◌+◌, ◌-◌, Bool, true}
use Rattle.std.proofs.Common.{false, ◌&&◌, cond, nat_eq, nat_lt, length, List, [], ◌∷◌}
use Rattle.std.proofs.Common.{◌++◌, Some, None, Ok, Err, refl, ap, sym, ◌∙◌, subst, arith}
use Rattle.std.specs.Prelude.{slice_get}
use Rattle.std.proofs.lemmas.Bool.{eq-eqb}
use Rattle.std.proofs.lemmas.List.{length-append}
use Rattle.pg_step.specs.PgRefs.Numbered.{number_in}
use Rattle.pg_step.specs.PgGroup.Functions.{upd}
use Rattle.pg_step.specs.PgMessageTypes.declared.message.Message.{Message}
use Rattle.pg_step.specs.PgMessageTypes.declared.message.Message.TheVariants.{Call, Reply, DelLock, Exchange, Down}
use Rattle.pg_step.specs.PgMessageTypes.declared.message.Request.TheVariants.{SetLock, Change}
use Rattle.pg_step.specs.PgMessageTypes.declared.message.Said.{Said}
use Rattle.pg_step.specs.declared.command.Command.{Command}
use Rattle.pg_step.specs.declared.command.OpId.{OpId}
use Rattle.pg_step.specs.Machines.Machine.{Input, Turn, Event, Taken, Own, Take, Do, node_of, first_from, input_of}
use Rattle.pg_step.specs.Machines.Happened.{Happened}
use Rattle.pg_step.specs.Nodes.{Node, Nodes}
use Rattle.pg_step.specs.State.{State, Use, live_nodes}
use Rattle.pg_step.specs.State.Use.{Fresh, Locking, Owning, Updating, Spent}
use Rattle.pg_step.specs.Turns.{NodeTurn, Report}
use Rattle.pg_step.specs.Peers.{lock_request, update_request, lock_freed, is_bad_exchange, exchange, process_end}
use Rattle.pg_step.specs.Attempts.{count_answer, count_ok, retry, use_of, lock_status, counted, reply_under}
use Rattle.pg_step.specs.Commands.{next_op, count_command, fault_of, command}
use Rattle.pg_step.specs.Step.{Action, Issue, Retry, taken, acted}
use Rattle.pg_step.specs.declared.refusal.Refusal.TheVariants.{NotAMessage, NoSuchPlace}
use Rattle.pg_step.specs.Config.{Config, name_at, nodes_at, ports_at}
use Rattle.pg_step.specs.FrameMachine.{node_step, machine_of, FrameWorld}
use Rattle.pg_laws.specs.History.{issued, command_at}
use Rattle.pg_step.proofs.Machines.Options.{some_is}
use Rattle.pg_laws.proofs.steps.Single.{Makes, ok_is, judged}
use Rattle.pg_laws.proofs.commands.Steady.{replies_in_steady, go_on_steady, command_by_steady, retry_steady}
use Rattle.pg_laws.proofs.references.Keys.{numbers, cases, differ, upd_same, upd_other}
use Rattle.pg_laws.proofs.steps.Made.{took_so, did_so}
use Rattle.pg_laws.proofs.locks.Seats.{false_right}
use Rattle.pg_laws.proofs.steps.Ways.{state_after}

-- ---- the commands that came in

pub issued_more : (i port : ℕ) (es fs : List (Event Action)) → issued i port (es ++ fs) ≡ issued i port es ++ issued i port fs
issued_more i port [] fs = refl
issued_more i port (Take j p ∷ es) fs = issued_more i port es fs
issued_more i port (Do j (Retry op) ∷ es) fs = issued_more i port es fs
issued_more i port (Do j (Issue q c) ∷ es) fs = go (nat_eq i j && nat_eq port q) (issued_more i port es fs)
  where
    go : (b : Bool) → issued i port (es ++ fs) ≡ issued i port es ++ issued i port fs
        → cond b (c ∷ issued i port (es ++ fs)) (issued i port (es ++ fs)) ≡ cond b (c ∷ issued i port es) (issued i port es) ++ issued i port fs
    go true same = ap (λ xs. c ∷ xs) same
    go false same = same

-- what stood at a place stands there, whatever comes behind
get_more : {A : Type 0} (xs ys : List A) (k : ℕ) (x : A) → slice_get xs k ≡ Some x → slice_get (xs ++ ys) k ≡ Some x
get_more [] ys k x e = absurd (cc)
get_more (z ∷ xs) ys zero x e = e
get_more (z ∷ xs) ys (suc k) x e = get_more xs ys k x e

get_behind : {A : Type 0} (xs : List A) (x : A) (ys : List A) → slice_get (xs ++ x ∷ ys) (length xs) ≡ Some x
get_behind [] x ys = refl
get_behind (z ∷ xs) x ys = get_behind xs x ys

pub command_more : (i : ℕ) (op : OpId) (c : Command) (es fs : List (Event Action)) → command_at i op es ≡ Some c → command_at i op (es ++ fs) ≡ Some c
command_more i op c es fs = go (nat_eq op.number 0)
  where
    go : (b : Bool) → cond b None (slice_get (issued i op.port es) (op.number - 1)) ≡ Some c → cond b None (slice_get (issued i op.port (es ++ fs)) (op.number - 1)) ≡ Some c
    go true e = absurd (cc)
    go false e = ap (λ xs. slice_get xs (op.number - 1)) (issued_more i op.port es fs) ∙ get_more (issued i op.port es) (issued i op.port fs) (op.number - 1) c e

issued_here : (i port : ℕ) (c : Command) → issued i port (Do i (Issue port c) ∷ []) ≡ c ∷ []
issued_here i port c = ap (λ b. cond b (c ∷ []) []) (ap (λ b. b && nat_eq port port) (eq-eqb i i refl) ∙ eq-eqb port port refl)

-- a command that comes in has the number behind those that came in there before
pub command_last : (i port : ℕ) (c : Command) (s : State) (es : List (Event Action)) → s.counts port ≡ length (issued i port es)
    → command_at i (next_op port s) (es ++ Do i (Issue port c) ∷ []) ≡ Some c
command_last i port c s es counted =
    let first : s.counts port + 1 - 1 ≡ length (issued i port es) = omega (arith, counted) in
    let some : nat_eq (s.counts port + 1) 0 ≡ false = differ nat_eq numbers (s.counts port + 1) 0 (λ e. omega arith) in
    ap (λ b. cond b None (slice_get (issued i port (es ++ Do i (Issue port c) ∷ [])) (s.counts port + 1 - 1))) some
    ∙ ap (slice_get (issued i port (es ++ Do i (Issue port c) ∷ []))) first
    ∙ ap (λ xs. slice_get xs (length (issued i port es))) (issued_more i port es (Do i (Issue port c) ∷ []) ∙ ap (λ xs. issued i port es ++ xs) (issued_here i port c))
    ∙ get_behind (issued i port es) c []

-- ---- what a node counts

-- what is counted behind an input
abbrev pub counts_by : Input Message Action → (ℕ → ℕ) → ℕ → ℕ
counts_by (Own (Issue port c)) counts = upd nat_eq counts port (counts port + 1)
counts_by (Own (Retry op)) counts = counts
counts_by (Taken p x) counts = counts

module _ (m : Nodes) where
  acted_counts : (whole : Nodes) (ports : ℕ) (action : Action) (s : State) (t : NodeTurn) → acted whole m ports action s ≡ Ok t → t.state.counts ≡ counts_by (Own action) s.counts
  acted_counts whole ports (Issue port c) s t is = go (nat_lt port ports) is
    where
      go : (b : Bool) → Makes (cond b (Ok (command whole m port c s)) (Err NoSuchPlace)) t → t.state.counts ≡ upd nat_eq s.counts port (s.counts port + 1)
      go true e = ap (λ (u : NodeTurn). u.state.counts) (sym (ok_is e)) ∙ (command_by_steady m (fault_of whole s c) (next_op port s) c ((count_command port s).state)).counts
      go false e = absurd (cc)
  acted_counts whole ports (Retry op) s t is = go (nat_lt op.port ports) is
    where
      go : (b : Bool) → Makes (cond b (retry m op s) (Err NoSuchPlace)) t → t.state.counts ≡ s.counts
      go true e = (retry_steady m op s t e).counts
      go false e = absurd (cc)

  module _ (p : Node) (s : State) (t : NodeTurn) where
    abbrev Same : Type 0
    Same = t.state.counts ≡ s.counts

    made : (u : NodeTurn) → u.state.counts ≡ s.counts → Makes (Ok u) t → Same
    made u same e = ap (λ (v : NodeTurn). v.state.counts) (sym (ok_is e)) ∙ same

    counted_counts : (used : Use) (c : ℕ) (said : Said) → (counted used m p c said s).state.counts ≡ s.counts
    counted_counts (Locking op u lead st) c said = let v = (count_answer c op u lead st p (lock_status said) s).state in (go_on_steady m c (v.uses c) v).counts
    counted_counts (Updating op u d replied) n said = let v = (count_ok n op u d replied p s).state in (replies_in_steady m n (v.uses n) v).counts
    counted_counts (Owning name u) c said = refl
    counted_counts Fresh c said = refl
    counted_counts Spent c said = refl

    reply_counts : (used : Use) (c : ℕ) (said : Said) → reply_under used m p c said s ≡ Ok t → Same
    reply_counts used c said e = judged used m p c said s t (λ odd is. ap (λ (v : NodeTurn). v.state.counts) (sym is))
        (λ _ is. ap (λ (v : NodeTurn). v.state.counts) (sym is) ∙ counted_counts used c said) e

    taken_counts : (x : Message) → taken m p x s ≡ Ok t → Same
    taken_counts (Call reference (SetLock name)) e = made (lock_request m p reference name s) refl e
    taken_counts (Call reference (Change u)) e = made (update_request p reference u s) refl e
    taken_counts (Reply reference said) e = reply_counts (use_of m reference s) (number_in reference) said e
    taken_counts (DelLock name reference) e = made (lock_freed name reference s) refl e
    taken_counts (Exchange node groups) e = go (is_bad_exchange p node s) e
      where
        go : (b : Bool) → Makes (cond b (Err NotAMessage) (Ok (exchange p groups s))) t → Same
        go true d = absurd (cc)
        go false d = made (exchange p groups s) refl d
    taken_counts (Down pid) e = made (process_end pid s) refl e

pub step_counts : (config : Config) (i : ℕ) (s : State) (input : Input Message Action) (turn : Turn State Message Report) → node_step config i s input ≡ Some turn → turn.state.counts ≡ counts_by input s.counts
step_counts config i s (Taken p x) turn is =
    let m = live_nodes (nodes_at config i) s in
    let t = took_so config i s p x turn is in
    ap (λ (u : Turn State Message Report). u.state.counts) t.2 ∙ taken_counts m (name_at config p) s t.0 x t.1
step_counts config i s (Own action) turn is =
    let m = live_nodes (nodes_at config i) s in
    let t = did_so config i s action turn is in
    ap (λ (u : Turn State Message Report). u.state.counts) t.2 ∙ acted_counts m (nodes_at config i) (ports_at config i) action s t.0 t.1

-- ---- runs

abbrev pub AllCounted : List (Event Action) → FrameWorld → Type 0
AllCounted es w = (i port : ℕ) → (w.node i).counts port ≡ length (issued i port es)

issued_elsewhere : (j port : ℕ) (e : Event Action) → j ≢ node_of e → issued j port (e ∷ []) ≡ []
issued_elsewhere j port (Take i p) other = refl
issued_elsewhere j port (Do i (Retry op)) other = refl
issued_elsewhere j port (Do i (Issue q c)) other = ap (λ b. cond (b && nat_eq port q) (c ∷ []) []) (differ nat_eq numbers j i other)

issued_apart : (i port q : ℕ) (c : Command) → port ≢ q → issued i port (Do i (Issue q c) ∷ []) ≡ []
issued_apart i port q c other = ap (λ b. cond b (c ∷ []) []) (false_right (nat_eq i i) (differ nat_eq numbers port q other))

module _ (w : FrameWorld) (counts : ℕ → ℕ) (port : ℕ) where
  -- an event adds to what is counted as much as to what came in
  adds : (e : Event Action) (input : Input Message Action) → input_of w e ≡ Some input → counts_by input counts port ≡ counts port + length (issued (node_of e) port (e ∷ []))
  adds (Do i (Issue q c)) input given = subst (λ x. counts_by x counts port ≡ counts port + length (issued i port (Do i (Issue q c) ∷ []))) (some_is given) (go (cases nat_eq numbers port q))
    where
      go : (port ≡ q) ⊎ (port ≢ q) → upd nat_eq counts q (counts q + 1) port ≡ counts port + length (issued i port (Do i (Issue q c) ∷ []))
      go (inl same) = subst (λ z. upd nat_eq counts q (counts q + 1) z ≡ counts z + length (issued i z (Do i (Issue q c) ∷ []))) (sym same)
          (upd_same nat_eq numbers counts q (counts q + 1) ∙ ap (λ xs. counts q + length xs) (sym (issued_here i q c)))
      go (inr other) =
          let none : counts port ≡ counts port + 0 = omega arith in
          upd_other nat_eq numbers counts q (counts q + 1) port (λ same. other (sym same)) ∙ none ∙ ap (λ xs. counts port + length xs) (sym (issued_apart i port q c other))
  adds (Do i (Retry op)) input given = subst (λ x. counts_by x counts port ≡ counts port + 0) (some_is given) (omega arith)
  adds (Take i p) input given = go (w.wire p i) given
    where
      go : (xs : List Message) → first_from {C = Action} p xs ≡ Some input → counts_by input counts port ≡ counts port + 0
      go [] none = absurd (cc)
      go (x ∷ xs) first = subst (λ x. counts_by x counts port ≡ counts port + 0) (some_is first) (omega arith)

pub event_counted : (config : Config) (es : List (Event Action)) (w v : FrameWorld) (e : Event Action) → Happened (machine_of config) w e v → AllCounted es w → AllCounted (es ++ e ∷ []) v
event_counted config es w v e h all j port = state_after (machine_of config) w v e h (λ (s : State). s.counts port ≡ length (issued j port (es ++ e ∷ []))) j
    (λ own. subst (λ z. h.turn.state.counts port ≡ length (issued z port (es ++ e ∷ []))) (sym own)
    (ap (λ (f : ℕ → ℕ). f port) (step_counts config i (w.node i) h.input h.turn h.made) ∙ adds w (w.node i).counts port e h.input h.given
    ∙ ap (λ n. n + length (issued i port (e ∷ []))) (all i port) ∙ sym (both i)))
    (λ other. all j port ∙ none (length (issued j port es)) ∙ ap (λ xs. length (issued j port es) + length xs) (sym (issued_elsewhere j port e other)) ∙ sym (both j))
  where
    i : ℕ
    i = node_of e

    both : (k : ℕ) → length (issued k port (es ++ e ∷ [])) ≡ length (issued k port es) + length (issued k port (e ∷ []))
    both k = ap length (issued_more k port es (e ∷ [])) ∙ length-append (issued k port es) (issued k port (e ∷ []))

    none : (n : ℕ) → n ≡ n + 0
    none n = omega arith

own_is : {a b : Action} → ◌≡◌ {A = Input Message Action} (Own a) (Own b) → a ≡ b
own_is same = cc

-- the command of an event is the next one of its port
pub command_came : (config : Config) (es : List (Event Action)) (w v : FrameWorld) (e : Event Action) (h : Happened (machine_of config) w e v) → AllCounted es w
    → (port : ℕ) (c : Command) → h.input ≡ Own (Issue port c) → command_at (node_of e) (next_op port (w.node (node_of e))) (es ++ e ∷ []) ≡ Some c
command_came config es w v (Do i action) h all port c is = subst (λ a. command_at i (next_op port (w.node i)) (es ++ Do i a ∷ []) ≡ Some c) (sym (own_is (some_is h.given ∙ is)))
    (command_last i port c (w.node i) es (all i port))
command_came config es w v (Take i p) h all port c is = absurd (no_own (w.wire p i) h.given is)
  where
    no_own : (xs : List Message) → first_from {C = Action} p xs ≡ Some h.input → h.input ≡ Own (Issue port c) → ⊥
    no_own [] given own = absurd (cc)
    no_own (x ∷ xs) given own = absurd (cc)
