-- What a turn tells of updates: it sends each peer the one that it began, and applies that, or one that a peer asked for.
use Rattle.std.proofs.Common.{◌≡◌, ℕ, ◌+◌, Bool, true, false, ◌&&◌, cond, nat_le, nat_lt, List, [], ◌∷◌, ◌++◌}
use Rattle.std.proofs.Common.{Option, Some, None}
use Rattle.std.proofs.Common.{Ok, Err, refl, ap, sym, ◌∙◌, subst, append-nil}
use Rattle.std.specs.Prelude.{map}
use Rattle.pg_term.specs.RefParts.{RefParts}
use Rattle.pg_term.specs.Same.{same_atom}
use Rattle.pg_laws.specs.PgGroup.declared.update.Update.{Update}
use Rattle.pg_laws.specs.PgGroup.declared.update.Update.TheVariants as update
use Rattle.pg_laws.specs.PgGroup.Value.{name_of}
use Rattle.pg_laws.specs.PgRefs.Numbered.{number_in}
use Rattle.pg_laws.specs.PgLock.Attempts.{after_round, does_wait}
use Rattle.pg_laws.specs.PgMessageTypes.declared.message.Message.{Message}
use Rattle.pg_laws.specs.PgMessageTypes.declared.message.Message.TheVariants.{Call, Reply, DelLock, Exchange, Down}
use Rattle.pg_laws.specs.PgMessageTypes.declared.message.Request.TheVariants.{SetLock, Change}
use Rattle.pg_laws.specs.PgMessageTypes.declared.message.Said.{Said}
use Rattle.pg_laws.specs.PgStep.Machines.Losing.{Noticed, Sent}
use Rattle.pg_laws.specs.PgStep.Machines.Machine.{Input, Turn, Taken, Own}
use Rattle.pg_laws.specs.PgStep.declared.command.Command.{Command}
use Rattle.pg_laws.specs.PgStep.declared.command.Command.TheVariants as command
use Rattle.pg_laws.specs.PgStep.declared.command_fault.CommandFault.{CommandFault}
use Rattle.pg_laws.specs.PgStep.declared.command_fault.CommandFault.TheVariants.{Busy}
use Rattle.pg_laws.specs.PgStep.declared.command.OpId.{OpId}
use Rattle.pg_laws.specs.PgStep.declared.answer.Reply.{Reply as Answer}
use Rattle.pg_laws.specs.PgStep.declared.refusal.Refusal.TheVariants.{NotAMessage, NoSuchPlace, NotWaiting}
use Rattle.pg_laws.specs.PgStep.Attempts.{own_reference, round_of, all_granted, none_missing, none_denied, ask}
use Rattle.pg_laws.specs.PgStep.Attempts.{give_up, begin, finish, attempt, waits, tried_again}
use Rattle.pg_laws.specs.PgStep.Attempts.{new_attempt, count_answer, count_ok, replies_in, locks_in, go_on, use_of}
use Rattle.pg_laws.specs.PgStep.Attempts.{counted, lock_status, reply_under}
use Rattle.pg_laws.specs.PgStep.Commands.{OPEN_LIMIT, fault_of, look, open_command, change_by, change, carried_out}
use Rattle.pg_laws.specs.PgStep.Commands.{command_by, next_op}
use Rattle.pg_laws.specs.PgStep.Commands.{answer, count_command, command as command_in, refused}
use Rattle.pg_laws.specs.PgStep.Config.{Config, name_at, nodes_at, ports_at}
use Rattle.pg_laws.specs.PgStep.FrameMachine.{node_step, place_turn}
use Rattle.pg_laws.specs.PgStep.Losses.{see_loss}
use Rattle.pg_laws.specs.PgStep.Nodes.{Node, Nodes, every, greatest, is_peer}
use Rattle.pg_laws.specs.PgStep.Peers.{is_bad_exchange, exchange}
use Rattle.pg_laws.specs.PgStep.State.{State, Use, Stage, live_nodes}
use Rattle.pg_laws.specs.PgStep.State.Status.{Unasked}
use Rattle.pg_laws.specs.PgStep.State.Use.{Fresh, Locking, Owning, Updating, Spent}
use Rattle.pg_laws.specs.PgStep.State.Stage.{Closed, Waiting, Asking, Changing}
use Rattle.pg_laws.specs.PgStep.Step.{Action, Issue, Retry, acted, taken}
use Rattle.pg_laws.specs.PgStep.Turns.{NodeTurn, Report, nothing, becomes, and_then, first_of}
use Rattle.pg_laws.proofs.locks.Kept.{carried}
use Rattle.pg_laws.proofs.locks.Telling.{carried-append}
use Rattle.pg_laws.proofs.places.Shown.{IsHere}
use Rattle.pg_laws.proofs.steps.Made.{did_so, took_so}
use Rattle.pg_laws.proofs.steps.Single.{Any, AnyUpdate, OfSingle, Makes, acted_so, taken_so, ok_is, judged}
use Rattle.pg_laws_losses.proofs.Lossy.{Makes as LossyMakes, Steps, Sees}

-- the update of a turn that began one
abbrev pub begun : Option (OpId × Update) → List Update
begun None = []
begun (Some x) = x.1 ∷ []

abbrev pub begun_one : Option (OpId × Update) → Option Update
begun_one None = None
begun_one (Some x) = Some x.1

no_later : {A : Type 0} (o later : Option A) → later ≡ None → first_of o later ≡ o
no_later None later none = none
no_later (Some u) later none = refl

sent_none : (b : Bool) (x : Message) → carried (x ∷ []) ≡ [] → carried (cond b (x ∷ []) []) ≡ []
sent_none true x e = e
sent_none false x e = refl

-- ---- what is sent

module _ (m : Nodes) where
  -- a turn that begins no update, and sends none
  record Silent (s : State) (t : NodeTurn) : Type 0 where
    none : t.reported.began ≡ None
    sends : (q : Node) → carried (t.sends q) ≡ []

  abbrev SendsBegun : State → NodeTurn → Type 0
  SendsBegun s t = (q : Node) → is_peer m q ≡ true → carried (t.sends q) ≡ begun t.reported.began

  silent : (s : State) (t : NodeTurn) → t.reported.began ≡ None → ((q : Node) → carried (t.sends q) ≡ []) → Silent s t
  silent s t none sends = record { none = none; sends = sends }

  alone : (s : State) (t : NodeTurn) → Silent s t → SendsBegun s t
  alone s t quiet q peer = quiet.sends q ∙ ap begun (sym quiet.none)

  sends_then : (s : State) (t : NodeTurn) (next : State → NodeTurn) → Silent s t → SendsBegun t.state (next t.state) → SendsBegun s (and_then t next)
  sends_then s t next quiet later q peer =
      carried-append (t.sends q) ((next t.state).sends q) ∙ (ap (λ xs. xs ++ carried ((next t.state).sends q)) (quiet.sends q)
      ∙ (later q peer ∙ ap (λ o. begun (first_of o (next t.state).reported.began)) (sym quiet.none)))

  then_silent : (s : State) (t : NodeTurn) (next : State → NodeTurn) → SendsBegun s t → Silent t.state (next t.state) → SendsBegun s (and_then t next)
  then_silent s t next first quiet q peer =
      carried-append (t.sends q) ((next t.state).sends q) ∙ (ap (λ xs. carried (t.sends q) ++ xs) (quiet.sends q)
      ∙ (append-nil (carried (t.sends q)) ∙ (first q peer ∙ ap begun (sym (no_later t.reported.began (next t.state).reported.began quiet.none)))))

  sends_singly : OfSingle m Any AnyUpdate Silent SendsBegun
  sends_singly = record {
    alone = alone;
    before = λ s t next _. sends_then s t next;
    behind = λ s t next _. then_silent s t next;
    stays = λ s. silent s _ refl (λ q. refl);
    counted = λ port s. silent s _ refl (λ q. refl);
    lasts = λ op pid s new. new;
    answered = λ op response s _. silent s _ refl (λ q. refl);
    opened = λ op u s _ _. silent s _ refl (λ q. refl);
    made = λ op s _. silent s _ refl (λ q. refl);
    attempted = λ lead op u s _. silent s _ refl (λ q. refl);
    asked = λ who c op u lead st s _. silent s _ refl (λ q. sent_none _ _ refl);
    given_up = λ c op u lead st s _ _. silent s _ refl (λ q. sent_none _ _ refl);
    begun = λ c op u lead st s _ _ q peer. ap (λ b. carried (cond (b && true) (Call (own_reference m (s.references + 1)) (Change u) ∷ []) [])) peer;
    finished = λ n op u c replied s _ _. silent s _ refl (λ q. sent_none _ _ refl);
    heard = λ c op u lead st p status s _ _. silent s _ refl (λ q. refl);
    confirmed = λ n op u c replied p s _ _. silent s _ refl (λ q. refl);
    odd = λ what s. silent s _ refl (λ q. refl);
    requested = λ p reference name s. silent s _ refl (λ q. sent_none _ _ refl);
    updated = λ p reference u s q peer. sent_none _ _ refl;
    freed = λ name reference s. silent s _ refl (λ q. refl);
  }

placed : (config : Config) (y : ℕ) (t : NodeTurn) → IsHere config y → carried (t.sends (name_at config y)) ≡ begun t.reported.began → carried ((place_turn config t).sends y) ≡ begun t.reported.began
placed config y t there is = ap (λ b. carried (cond b (t.sends (name_at config y)) [])) there ∙ is

step_sends : (config : Config) (i : ℕ) (s : State) (input : Input Message Action) (turn : Turn State Message Report) → node_step config i s input ≡ Some turn
    → (y : ℕ) → IsHere config y → is_peer (live_nodes (nodes_at config i) s) (name_at config y) ≡ true → carried (turn.sends y) ≡ begun turn.reported.began
step_sends config i s (Taken p x) turn is y there peer =
    let m = live_nodes (nodes_at config i) s in
    let t = took_so config i s p x turn is in
    subst (λ (u : Turn State Message Report). carried (u.sends y) ≡ begun u.reported.began) (sym t.2)
    (placed config y t.0 there (taken_so m Any AnyUpdate (Silent m) (SendsBegun m) (sends_singly m) (name_at config p) x s t.0 (λ node groups _ _ q _. refl) (λ pid _ q _. refl) t.1 (name_at config y) peer))
step_sends config i s (Own action) turn is y there peer =
    let m = live_nodes (nodes_at config i) s in
    let t = did_so config i s action turn is in
    subst (λ (u : Turn State Message Report). carried (u.sends y) ≡ begun u.reported.began) (sym t.2)
    (placed config y t.0 there (acted_so m Any AnyUpdate (Silent m) (SendsBegun m) (sends_singly m) (nodes_at config i) (λ pid u _ _ _ q _. sent_none _ _ refl) (ports_at config i) action s t.0
    (λ port. tt) (λ port c u _ _. tt) t.1 (name_at config y) peer))

-- what is sent to a node that counts
pub made_sends : (config : Config) (i : ℕ) (s : State) (input : Input (Noticed Message) Action) (turn : Turn State (Noticed Message) Report) → LossyMakes config i s input turn
    → (y : ℕ) → IsHere config y → is_peer (live_nodes (nodes_at config i) s) (name_at config y) ≡ true
    → (xs : List Message) × (turn.sends y ≡ map Sent xs) × (carried xs ≡ begun turn.reported.began)
made_sends config i s input turn (Steps given t is made same) y there peer = (
  t.sends y,
  ap (λ (u : Turn State (Noticed Message) Report). u.sends y) same,
  step_sends config i s given t made y there peer ∙ ap (λ (u : Turn State (Noticed Message) Report). begun u.reported.began) (sym same),
)
made_sends config i s input turn (Sees p is not_yet same) y there peer = (
  (place_turn config (see_loss (name_at config p) s)).sends y,
  ap (λ (u : Turn State (Noticed Message) Report). u.sends y) same,
  placed config y (see_loss (name_at config p) s) there refl ∙ ap (λ (u : Turn State (Noticed Message) Report). begun u.reported.began) (sym same),
)

-- ---- what is applied

-- the update that is applied is the one that began
abbrev Itself : NodeTurn → Type 0
Itself t = t.reported.applied ≡ begun_one t.reported.began

itself_then : (t : NodeTurn) (next : State → NodeTurn) → t.reported ≡ nothing → Itself (next t.state) → Itself (and_then t next)
itself_then t next none later =
    ap (λ (r : Report). first_of r.applied (next t.state).reported.applied) none ∙ (later ∙ ap (λ (r : Report). begun_one (first_of r.began (next t.state).reported.began)) (sym none))

module _ (m : Nodes) where
  replies_itself : (n : ℕ) (used : Use) (s : State) → Itself (replies_in m n used s)
  replies_itself n (Updating op u c replied) s = go (every m replied)
    where
      go : (b : Bool) → Itself (cond b (finish m n op u c s) (becomes s))
      go true = refl
      go false = refl
  replies_itself n (Locking op u lead st) s = refl
  replies_itself n (Owning name u) s = refl
  replies_itself n Fresh s = refl
  replies_itself n Spent s = refl

  locks_itself : (c : ℕ) (used : Use) (s : State) → Itself (locks_in m c used s)
  locks_itself c (Locking op u lead st) s = go (all_granted m st) (none_missing m st)
    where
      go : (b d : Bool) → Itself (cond b (and_then (begin m c op u s) (λ v. replies_in m v.references (v.uses v.references) v)) (cond d (give_up m c op u st s) (becomes s)))
      go true d = refl
      go false true = refl
      go false false = refl
  locks_itself c (Updating op u lock replied) s = refl
  locks_itself c (Owning name u) s = refl
  locks_itself c Fresh s = refl
  locks_itself c Spent s = refl

  go_on_itself : (c : ℕ) (used : Use) (s : State) → Itself (go_on m c used s)
  go_on_itself c (Locking op u lead st) s = go (none_missing m st) (does_wait (after_round (round_of lead st) (none_denied m st)))
    where
      t : State
      t = (ask m (λ _. true) c op u lead st s).state

      go : (b d : Bool) → Itself (cond b (cond d (give_up m c op u st s) (and_then (ask m (λ _. true) c op u lead st s) (λ v. locks_in m c (v.uses c) v))) (becomes s))
      go true true = refl
      go true false = itself_then (ask m (λ _. true) c op u lead st s) (λ v. locks_in m c (v.uses c) v) refl
          (locks_itself c ((ask m (λ _. true) c op u lead st s).state.uses c) (ask m (λ _. true) c op u lead st s).state)
      go false d = refl
  go_on_itself c (Updating op u lock replied) s = refl
  go_on_itself c (Owning name u) s = refl
  go_on_itself c Fresh s = refl
  go_on_itself c Spent s = refl

  attempt_itself : (op : OpId) (u : Update) (s : State) → Itself (attempt m op u s)
  attempt_itself op u s =
      let t = (new_attempt (greatest m) op u s).state in
      let r = (ask m (same_atom (greatest m)) t.references op u (greatest m) (λ _. Unasked) t).state in
      itself_then (new_attempt (greatest m) op u s) (λ v. and_then (ask m (same_atom (greatest m)) v.references op u (greatest m) (λ _. Unasked) v) (λ x. go_on m v.references (x.uses v.references) x)) refl
      (itself_then (ask m (same_atom (greatest m)) t.references op u (greatest m) (λ _. Unasked) t) (λ x. go_on m t.references (x.uses t.references) x) refl
      (go_on_itself t.references (r.uses t.references) r))

  tried_itself : (stage : Stage) (op : OpId) (s : State) → Itself (tried_again stage m op s)
  tried_itself (Waiting u) op s = attempt_itself op u s
  tried_itself (Asking c) op s = go_on_itself c (s.uses c) s
  tried_itself (Changing n) op s = replies_itself n (s.uses n) s
  tried_itself Closed op s = refl

  change_itself : (op : OpId) (u : Update) (s : State) → Itself (change m op u s)
  change_itself op u s = go (look (s.table (name_of u)) u)
    where
      open_one : (b : Bool) → Itself (cond b (answer op (refused Busy) s) (and_then (open_command op u s) (attempt m op u)))
      open_one true = refl
      open_one false = itself_then (open_command op u s) (attempt m op u) refl (attempt_itself op u (open_command op u s).state)

      go : (r : Option Answer) → Itself (change_by r m op u s)
      go (Some r) = refl
      go None = open_one (nat_le OPEN_LIMIT s.opened)

  carried_itself : (op : OpId) (c : Command) (s : State) → Itself (carried_out m op c s)
  carried_itself op (command.Create name) s = change_itself op (update.Create name) s
  carried_itself op (command.Delete name) s = change_itself op (update.Delete name) s
  carried_itself op (command.Join name pid) s = change_itself op (update.Join name pid) s
  carried_itself op (command.Leave name pid) s = change_itself op (update.Leave name pid) s
  carried_itself op command.Make s = refl
  carried_itself op (command.Finish pid) s = refl
  carried_itself op (command.Members name) s = refl
  carried_itself op (command.LocalMembers name) s = refl
  carried_itself op command.WhichGroups s = refl
  carried_itself op (command.Closest name word) s = refl

  command_itself : (whole : Nodes) (port : ℕ) (c : Command) (s : State) → Itself (command_in whole m port c s)
  command_itself whole port c s = itself_then (count_command port s) (command_by (fault_of whole s c) m (next_op port s) c) refl (go (fault_of whole s c))
    where
      go : (f : Option CommandFault) → Itself (command_by f m (next_op port s) c (count_command port s).state)
      go (Some f) = refl
      go None = carried_itself (next_op port s) c (count_command port s).state

  acted_itself : (whole : Nodes) (ports : ℕ) (action : Action) (s : State) (t : NodeTurn) → acted whole m ports action s ≡ Ok t → Itself t
  acted_itself whole ports (Issue port c) s t is = go (nat_lt port ports) is
    where
      go : (b : Bool) → Makes (cond b (Ok (command_in whole m port c s)) (Err NoSuchPlace)) t → Itself t
      go true e = subst Itself (ok_is e) (command_itself whole port c s)
      go false e = absurd (cc)
  acted_itself whole ports (Retry op) s t is = go (nat_lt op.port ports) (waits m (s.stages op) s) is
    where
      go : (b d : Bool) → Makes (cond b (cond d (Ok (tried_again (s.stages op) m op s)) (Err NotWaiting)) (Err NoSuchPlace)) t → Itself t
      go false d e = absurd (cc)
      go true false e = absurd (cc)
      go true true e = subst Itself (ok_is e) (tried_itself (s.stages op) op s)

  counted_itself : (used : Use) (p : Node) (c : ℕ) (said : Said) (s : State) → Itself (counted used m p c said s)
  counted_itself (Locking op u lead st) p c said s =
      let v = (count_answer c op u lead st p (lock_status said) s).state in
      itself_then (count_answer c op u lead st p (lock_status said) s) (λ t. go_on m c (t.uses c) t) refl (go_on_itself c (v.uses c) v)
  counted_itself (Updating op u lock replied) p n said s =
      let v = (count_ok n op u lock replied p s).state in
      itself_then (count_ok n op u lock replied p s) (λ t. replies_in m n (t.uses n) t) refl (replies_itself n (v.uses n) v)
  counted_itself (Owning name u) p c said s = refl
  counted_itself Fresh p c said s = refl
  counted_itself Spent p c said s = refl

  reply_itself : (used : Use) (p : Node) (c : ℕ) (said : Said) (s : State) (t : NodeTurn) → reply_under used m p c said s ≡ Ok t → Itself t
  reply_itself used p c said s t e = judged used m p c said s t (λ odd is. subst Itself is refl) (λ counts is. subst Itself is (counted_itself used p c said s)) e

-- What a step applies is what it began, or what a peer asked for.
pub data StepApplies (input : Input Message Action) (r : Report) : Type 0 where
  Begins : r.applied ≡ begun_one r.began → ((p : ℕ) (reference : RefParts) (u : Update) → input ≡ Taken p (Call reference (Change u)) → ⊥) → StepApplies input r
  Told : (p : ℕ) (reference : RefParts) (u : Update) → input ≡ Taken p (Call reference (Change u)) → r.applied ≡ Some u → r.began ≡ None → StepApplies input r

takes_packet : (m : Nodes) (p : ℕ) (name : Node) (x : Message) (s : State) (t : NodeTurn) → taken m name x s ≡ Ok t → StepApplies (Taken p x) t.reported
takes_packet m p name (Call reference (SetLock group)) s t is = Begins (subst Itself (ok_is is) refl) (λ q r u e. absurd (cc))
takes_packet m p name (Call reference (Change u)) s t is =
    Told p reference u refl (ap (λ (v : NodeTurn). v.reported.applied) (sym (ok_is is))) (ap (λ (v : NodeTurn). v.reported.began) (sym (ok_is is)))
takes_packet m p name (Reply reference said) s t is = Begins (reply_itself m (use_of m reference s) name (number_in reference) said s t is) (λ q r u e. absurd (cc))
takes_packet m p name (DelLock group reference) s t is = Begins (subst Itself (ok_is is) refl) (λ q r u e. absurd (cc))
takes_packet m p name (Exchange node groups) s t is = go (is_bad_exchange name node s) is
  where
    go : (b : Bool) → Makes (cond b (Err NotAMessage) (Ok (exchange name groups s))) t → StepApplies (Taken p (Exchange node groups)) t.reported
    go true e = absurd (cc)
    go false e = Begins (subst Itself (ok_is e) refl) (λ q r u e. absurd (cc))
takes_packet m p name (Down pid) s t is = Begins (subst Itself (ok_is is) refl) (λ q r u e. absurd (cc))

pub step_applies : (config : Config) (i : ℕ) (s : State) (input : Input Message Action) (turn : Turn State Message Report) → node_step config i s input ≡ Some turn → StepApplies input turn.reported
step_applies config i s (Taken p x) turn is =
    let t = took_so config i s p x turn is in
    subst (λ (u : Turn State Message Report). StepApplies (Taken p x) u.reported) (sym t.2) (takes_packet (live_nodes (nodes_at config i) s) p (name_at config p) x s t.0 t.1)
step_applies config i s (Own action) turn is =
    let t = did_so config i s action turn is in
    subst (λ (u : Turn State Message Report). StepApplies (Own action) u.reported) (sym t.2)
    (Begins (acted_itself (live_nodes (nodes_at config i) s) (nodes_at config i) (ports_at config i) action s t.0 t.1) (λ q r u e. absurd (cc)))
