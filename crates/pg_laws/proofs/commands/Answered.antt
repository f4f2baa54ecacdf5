-- What each step makes of the answers of its node: none is given, or one is, behind its lock or at once.
use Rattle.std.proofs.Common.{◌≡◌, ℕ, Bool, true, false, cond, nat_le, nat_lt}
use Rattle.std.proofs.Common.{Option, Some, None, Ok, Err, refl, ap, sym, ◌∙◌, subst}
use Rattle.pg_term.specs.declared.pid.Pid.{Pid}
use Rattle.pg_term.specs.declared.term.Term.{Term}
use Rattle.pg_step.specs.PgGroup.declared.update.Update.{Update}
use Rattle.pg_step.specs.PgGroup.declared.update.Update.TheVariants as update
use Rattle.pg_step.specs.PgGroup.Value.{Value, name_of}
use Rattle.pg_step.proofs.PgGroup.Changes.{upd_at}
use Rattle.pg_step.specs.PgMessageTypes.declared.message.Message.{Message}
use Rattle.pg_step.specs.PgMessageTypes.declared.message.Message.TheVariants.{Down}
use Rattle.pg_step.specs.declared.command.Command.{Command}
use Rattle.pg_step.specs.declared.command.Command.TheVariants as command
use Rattle.pg_step.specs.declared.command.OpId.{OpId}
use Rattle.pg_step.specs.declared.answer.Reply.{Reply}
use Rattle.pg_step.specs.declared.answer.Reply.TheVariants as reply
use Rattle.pg_step.specs.Machines.Machine.{Input, Turn, Taken, Own}
use Rattle.pg_step.specs.Nodes.{Nodes, to_peers}
use Rattle.pg_step.specs.State.{State, Stage, Response, live_nodes}
use Rattle.pg_step.specs.State.Stage.{Waiting}
use Rattle.pg_step.specs.State.Response.{Given}
use Rattle.pg_step.specs.Turns.{NodeTurn, Report, becomes_and_sends, and_then, first_of}
use Rattle.pg_step.specs.Peers.{ended_in}
use Rattle.pg_step.specs.Attempts.{same_op, attempt, waits, tried_again}
use Rattle.pg_step.specs.Commands.{OPEN_LIMIT, look, answer, open_command, undertake, change_by, change, carried_out}
use Rattle.pg_step.specs.Commands.{command_by, fault_of, next_op, count_command, command as command_in, refused}
use Rattle.pg_step.specs.Step.{Action, Issue, Retry, acted}
use Rattle.pg_step.specs.declared.refusal.Refusal.TheVariants.{NoSuchPlace, NotWaiting}
use Rattle.pg_step.specs.Config.{Config, name_at, nodes_at, ports_at}
use Rattle.pg_step.specs.FrameMachine.{node_step}
use Rattle.pg_laws.specs.History.{ok_means_lock}
use Rattle.pg_laws.proofs.steps.Single.{Makes, ok_is, AnyUpdate, OfSingle, attempt_so, tried_so, taken_so}
use Rattle.pg_laws.proofs.steps.Made.{took_so, did_so}
use Rattle.pg_laws.proofs.references.Fitting.{is_op}
use Rattle.pg_step.specs.declared.command_fault.CommandFault.TheVariants.{Busy}
use Rattle.pg_step.specs.declared.command_fault.CommandFault.{CommandFault}

-- What a turn tells of answers. May says which answers may be given at once.
pub data Answering (May : OpId → Response → Type 0) (reported : Report) : Type 0 where
  -- nothing is answered
  Silent : reported.gave ≡ None → reported.answered ≡ None → Answering May reported
  -- a command is answered ok, behind its lock
  Behind : (op : OpId) → reported.gave ≡ Some (op, Given reply.Ok) → reported.answered ≡ Some op → Answering May reported
  -- a command is answered at once
  AtOnce : (op : OpId) (r : Response) → May op r → reported.gave ≡ Some (op, r) → reported.answered ≡ None → Answering May reported

-- the same of a turn of a node
abbrev Gives : (OpId → Response → Type 0) → State → NodeTurn → Type 0
Gives May s t = Answering May t.reported

-- a turn, and one before it that answers nothing
gives_then : (May : OpId → Response → Type 0) (s : State) (t : NodeTurn) (next : State → NodeTurn) → t.reported.gave ≡ None → t.reported.answered ≡ None
    → Gives May t.state (next t.state) → Gives May s (and_then t next)
gives_then May s t next silent none later = go later
  where
    reported : {o : Option OpId} → (next t.state).reported.answered ≡ o → first_of t.reported.answered (next t.state).reported.answered ≡ o
    reported is = ap (λ x. first_of x (next t.state).reported.answered) none ∙ is

    gave : {o : Option (OpId × Response)} → (next t.state).reported.gave ≡ o → first_of t.reported.gave (next t.state).reported.gave ≡ o
    gave is = ap (λ x. first_of x (next t.state).reported.gave) silent ∙ is

    go : Gives May t.state (next t.state) → Gives May s (and_then t next)
    go (Silent still unanswered) = Silent (gave still) (reported unanswered)
    go (Behind op more answered) = Behind op (gave more) (reported answered)
    go (AtOnce op r may more unanswered) = AtOnce op r may (gave more) (reported unanswered)

-- ---- all but commands

abbrev Never : OpId → Response → Type 0
Never op r = ⊥

abbrev pub NoCommand : OpId → State → Type 0
NoCommand op s = ⊥

ends_then : (s : State) (t : NodeTurn) (next : State → NodeTurn) → (t.reported.answered ≡ None) × (t.reported.gave ≡ None) → Gives Never s t → Gives Never t.state (next t.state) → Gives Never s (and_then t next)
ends_then s t next none (Silent _ _) later = gives_then Never s t next none.1 none.0 later
ends_then s t next none (Behind op more answered) later = absurd (cc (sym none.0 ∙ answered))
ends_then s t next none (AtOnce op r never more _) later = absurd never

-- only a command is answered at once
ends_singly : (m : Nodes) → OfSingle m NoCommand AnyUpdate (Gives Never) (Gives Never)
ends_singly m = record {
  alone = λ s t first. first;
  before = λ s t next reported. ends_then s t next (ap (λ (x : Report). x.answered) reported, ap (λ (x : Report). x.gave) reported);
  behind = ends_then;
  stays = λ s. Silent refl refl;
  counted = λ port s. Silent refl refl;
  lasts = λ op pid s never. never;
  answered = λ op r s never. absurd never;
  opened = λ op u s never _. absurd never;
  made = λ op s never. absurd never;
  attempted = λ lead op u s _. Silent refl refl;
  asked = λ who c op u lead st s _. Silent refl refl;
  given_up = λ c op u lead st s _ _. Silent refl refl;
  begun = λ c op u lead st s _ _. Silent refl refl;
  finished = λ n op u c replied s _ _. Behind op refl refl;
  heard = λ c op u lead st p status s _ _. Silent refl refl;
  confirmed = λ n op u c replied p s _ _. Silent refl refl;
  odd = λ what s. Silent refl refl;
  requested = λ p reference name s. Silent refl refl;
  updated = λ p reference u s. Silent refl refl;
  freed = λ name reference s. Silent refl refl;
}

-- an attempt is answered behind its lock, or not yet
pub attempt_answers : (m : Nodes) (op : OpId) (u : Update) (s : State) → s.stages op ≡ Waiting u → Answering Never (attempt m op u s).reported
attempt_answers m op u s waits = attempt_so m NoCommand AnyUpdate (Gives Never) (Gives Never) (ends_singly m) op u s waits

module _ (May : OpId → Response → Type 0) where
  any_may : (s : State) (t : NodeTurn) → Gives Never s t → Gives May s t
  any_may s t (Silent same none) = Silent same none
  any_may s t (Behind op more answered) = Behind op more answered
  any_may s t (AtOnce op r never more none) = absurd never

  module _ (m : Nodes) where
    attempt_gives : (op : OpId) (u : Update) (s : State) → s.stages op ≡ Waiting u → Gives May s (attempt m op u s)
    attempt_gives op u s waits = any_may s (attempt m op u s) (attempt_so m NoCommand AnyUpdate (Gives Never) (Gives Never) (ends_singly m) op u s waits)

    retry_gives : (stage : Stage) (op : OpId) (s : State) → s.stages op ≡ stage → Gives May s (tried_again stage m op s)
    retry_gives stage op s is = any_may s (tried_again stage m op s) (tried_so m NoCommand AnyUpdate (Gives Never) (Gives Never) (ends_singly m) stage op s is)

    -- ---- commands

    undertake_gives : (op : OpId) (u : Update) (s : State) → May op (refused Busy) → Gives May s (undertake m op u s)
    undertake_gives op u s busy = go (nat_le OPEN_LIMIT s.opened)
      where
        t : NodeTurn
        t = open_command op u s

        go : (b : Bool) → Gives May s (cond b (answer op (refused Busy) s) (and_then t (attempt m op u)))
        go true = AtOnce op (refused Busy) busy refl refl
        go false = gives_then May s t (attempt m op u) refl refl (attempt_gives op u t.state (upd_at same_op s.stages op (Waiting u) (is_op op)))

    change_gives : (op : OpId) (u : Update) (s : State) → ((r : Reply) → look (s.table (name_of u)) u ≡ Some r → May op (Given r)) → May op (refused Busy)
        → Gives May s (change m op u s)
    change_gives op u s looked busy = go (look (s.table (name_of u)) u) refl
      where
        go : (r : Option Reply) → look (s.table (name_of u)) u ≡ r → Gives May s (change_by r m op u s)
        go (Some r) is = AtOnce op (Given r) (looked r is) refl refl
        go None _ = undertake_gives op u s busy

    -- the look finds nothing for a delete, and no ok for a join or a leave
    no_delete : (v : Value) (name : Term) (r : Reply) → look v (update.Delete name) ≡ Some r → ⊥
    no_delete None name r e = absurd (cc)
    no_delete (Some counts) name r e = absurd (cc)

    no_join : (v : Value) (name : Term) (pid : Pid) (r : Reply) → look v (update.Join name pid) ≡ Some r → Given r ≡ Given reply.Ok → ⊥
    no_join None name pid r e ok = absurd (cc)
    no_join (Some counts) name pid r e ok = absurd (cc)

    no_leave : (v : Value) (name : Term) (pid : Pid) (r : Reply) → look v (update.Leave name pid) ≡ Some r → Given r ≡ Given reply.Ok → ⊥
    no_leave None name pid r e ok = absurd (cc)
    no_leave (Some counts) name pid r e ok = absurd (cc)

    carried_gives : (op : OpId) (c : Command) (s : State) → ((r : Response) → (r ≡ Given reply.Ok → ok_means_lock c ≡ false) → May op r) → Gives May s (carried_out m op c s)
    carried_gives op (command.Create name) s may = change_gives op (update.Create name) s (λ r _. may (Given r) (λ _. refl)) (may _ (λ _. refl))
    carried_gives op (command.Delete name) s may =
        change_gives op (update.Delete name) s (λ r finds. absurd (no_delete (s.table name) name r finds)) (may _ (λ ok. absurd (cc)))
    carried_gives op (command.Join name pid) s may =
        change_gives op (update.Join name pid) s (λ r finds. may (Given r) (λ ok. absurd (no_join (s.table name) name pid r finds ok))) (may _ (λ ok. absurd (cc)))
    carried_gives op (command.Leave name pid) s may =
        change_gives op (update.Leave name pid) s (λ r finds. may (Given r) (λ ok. absurd (no_leave (s.table name) name pid r finds ok))) (may _ (λ ok. absurd (cc)))
    carried_gives op command.Make s may = AtOnce op _ (may _ (λ _. refl)) refl refl
    carried_gives op (command.Finish pid) s may =
        gives_then May s (becomes_and_sends (ended_in pid s) (to_peers m (λ _. true) (Down pid))) (answer op (Given reply.Ok)) refl refl
        (AtOnce op (Given reply.Ok) (may _ (λ _. refl)) refl refl)
    carried_gives op (command.Members name) s may = AtOnce op _ (may _ (λ _. refl)) refl refl
    carried_gives op (command.LocalMembers name) s may = AtOnce op _ (may _ (λ _. refl)) refl refl
    carried_gives op command.WhichGroups s may = AtOnce op _ (may _ (λ _. refl)) refl refl
    carried_gives op (command.Closest name word) s may = AtOnce op _ (may _ (λ _. refl)) refl refl

    command_gives : (whole : Nodes) (port : ℕ) (c : Command) (s : State) → ((r : Response) → (r ≡ Given reply.Ok → ok_means_lock c ≡ false) → May (next_op port s) r) → Gives May s (command_in whole m port c s)
    command_gives whole port c s may = gives_then May s (count_command port s) (command_by (fault_of whole s c) m (next_op port s) c) refl refl (go (fault_of whole s c))
      where
        t : State
        t = (count_command port s).state

        go : (f : Option CommandFault) → Gives May t (command_by f m (next_op port s) c t)
        go (Some f) = AtOnce (next_op port s) (refused f) (may _ (λ ok. absurd (cc))) refl refl
        go None = carried_gives (next_op port s) c t may

    acted_gives : (whole : Nodes) (ports : ℕ) (action : Action) (s : State) (t : NodeTurn)
        → ((port : ℕ) (c : Command) (r : Response) → action ≡ Issue port c → (r ≡ Given reply.Ok → ok_means_lock c ≡ false) → May (next_op port s) r)
        → acted whole m ports action s ≡ Ok t → Gives May s t
    acted_gives whole ports (Issue port c) s t may is = go (nat_lt port ports) is
      where
        go : (b : Bool) → Makes (cond b (Ok (command_in whole m port c s)) (Err NoSuchPlace)) t → Gives May s t
        go true e = subst (Gives May s) (ok_is e) (command_gives whole port c s (λ r. may port c r refl))
        go false e = absurd (cc)
    acted_gives whole ports (Retry op) s t may is = go (nat_lt op.port ports) (waits m (s.stages op) s) is
      where
        go : (b d : Bool) → Makes (cond b (cond d (Ok (tried_again (s.stages op) m op s)) (Err NotWaiting)) (Err NoSuchPlace)) t → Gives May s t
        go true true e = subst (Gives May s) (ok_is e) (retry_gives (s.stages op) op s refl)
        go true false e = absurd (cc)
        go false d e = absurd (cc)

  -- ---- a step

  pub step_gives : (config : Config) (i : ℕ) (s : State) (input : Input Message Action) (turn : Turn State Message Report) → node_step config i s input ≡ Some turn
      → ((port : ℕ) (c : Command) (r : Response) → input ≡ Own (Issue port c) → (r ≡ Given reply.Ok → ok_means_lock c ≡ false) → May (next_op port s) r)
      → Answering May turn.reported
  step_gives config i s (Taken p x) turn is may =
      let m = live_nodes (nodes_at config i) s in
      let t = took_so config i s p x turn is in
      subst (λ u. Answering May u.reported) (sym t.2)
      (any_may s t.0 (taken_so m NoCommand AnyUpdate (Gives Never) (Gives Never) (ends_singly m) (name_at config p) x s t.0
      (λ node groups _ _. Silent refl refl) (λ pid _. Silent refl refl) t.1))
  step_gives config i s (Own action) turn is may =
      let m = live_nodes (nodes_at config i) s in
      let t = did_so config i s action turn is in
      subst (λ u. Answering May u.reported) (sym t.2)
      (acted_gives m (nodes_at config i) (ports_at config i) action s t.0 (λ port c r same. may port c r (ap Own same)) t.1)
