-- What a node does of its own: a command comes in, or one that waits is tried again.
use Rattle.std.proofs.Common.{◌≡◌, ℕ, ◌+◌, ◌≤◌, Bool, true, false, ◌&&◌, cond, List, [], ◌∷◌, ◌++◌, Option}
use Rattle.std.proofs.Common.{Some, None, Ok, Err, nat_eq, refl, ap, ◌∙◌, subst, arith, inl, append-nil}
use Rattle.std.specs.Prelude.{nat_le, nat_lt}
use Rattle.std.specs.List.{AllByRecursion}
use Rattle.pg_term.specs.declared.pid.Pid.{Pid}
use Rattle.pg_term.specs.RefParts.{RefParts}
use Rattle.pg_step.specs.PgGroup.declared.update.Update.{Update}
use Rattle.pg_step.specs.PgGroup.declared.update.Update.TheVariants as update
use Rattle.pg_step.specs.PgGroup.Value.{name_of}
use Rattle.pg_step.specs.PgMessageTypes.declared.message.Message.TheVariants.{Down}
use Rattle.pg_step.specs.declared.command.Command.{Command}
use Rattle.pg_step.specs.declared.command.Command.TheVariants.{Create, Delete, Join, Leave, Make, Finish}
use Rattle.pg_step.specs.declared.command.Command.TheVariants.{Members, LocalMembers, WhichGroups, Closest}
use Rattle.pg_step.specs.declared.command.OpId.{OpId}
use Rattle.pg_step.specs.declared.answer.Reply.{Reply}
use Rattle.pg_step.specs.declared.answer.Reply.TheVariants.{Refused}
use Rattle.pg_step.specs.Nodes.{Node, Nodes, is_peer}
use Rattle.pg_step.specs.State.{State, Stage, Response}
use Rattle.pg_step.specs.PgEnds.Numbers.{pid_of}
use Rattle.pg_step.specs.declared.answer.Reply.TheVariants as reply
use Rattle.pg_step.specs.State.Response.{Given, Read}
use Rattle.pg_step.specs.declared.refusal.Refusal.TheVariants.{NoSuchPlace, NotWaiting}
use Rattle.pg_step.specs.State.Stage.{Closed, Waiting, Asking, Changing}
use Rattle.pg_step.specs.Turns.{NodeTurn, and_then}
use Rattle.pg_step.specs.Attempts.{same_op, attempt, retry, waits, tried_again}
use Rattle.pg_step.specs.Commands.{OPEN_LIMIT, answer, look, open_command, undertake, change_by}
use Rattle.pg_step.specs.Commands.{change, make, end_process, carried_out, command_by, command}
use Rattle.pg_step.specs.Commands.{count_command, next_op, fault_of, refused}
use Rattle.pg_step.specs.Step.{Action, acted, Issue, Retry}
use Rattle.pg_laws.proofs.references.Keys.{numbers, upd_same}
use Rattle.pg_laws.proofs.references.References.{about}
use Rattle.pg_laws.proofs.locks.Named.{World, perform}
use Rattle.pg_laws.proofs.locks.Kept.{Inv, live, IsOurs, answers_of}
use Rattle.pg_laws.proofs.locks.Telling.{remade}
use Rattle.pg_laws.proofs.locks.Seats.{Sits, seated, to_own}
use Rattle.pg_laws.proofs.steps.Single.{ok_is}
use Rattle.pg_laws.proofs.locks.Starts.{Idle, idle_but, idle_keeps, count_keeps, open_keeps}
use Rattle.pg_laws.proofs.locks.Stages.{commands}
use Rattle.pg_laws.proofs.locks.Chains.{chain, still_keeps, replies_in_keeps, go_on_keeps, attempt_keeps}
use Rattle.pg_step.specs.declared.command_fault.CommandFault.TheVariants.{Busy}
use Rattle.pg_step.specs.declared.command_fault.CommandFault.{CommandFault}

-- ---- answers at once

idle_answer : (a : Node) (op : OpId) (response : Response) (s : State) → Idle s a (answer op response s)
idle_answer a op response s = idle_but s a s.table s.ended s.merged s.processes (Some (op, response))

idle_make : (m : Nodes) (a : Node) (op : OpId) (s : State) → Idle s a (make m op s)
idle_make m a op s = idle_but s a s.table s.ended s.merged (s.processes + 1) (Some (op, Given (reply.Made (pid_of m.own (s.processes + 1)))))

-- what a node tells of the end of a process is about no reference
end_about : (b : Bool) (pid : Pid) (r : RefParts) → about r (cond b (Down pid ∷ []) [] ++ []) ≡ []
end_about true pid r = refl
end_about false pid r = refl

end_ours : (b : Bool) (pid : Pid) (a q : Node) → AllByRecursion (IsOurs a q) (cond b (Down pid ∷ []) [] ++ [])
end_ours true pid a q = (tt, tt)
end_ours false pid a q = tt

module _ (w : World) (a : Node) (peers : List Node) (sits : Sits w.nodes w.seen a peers) (la : live w a) (inv : Inv w) where
  abbrev m : Nodes
  m = seated a peers

  abbrev s : State
  s = w.node a

  idle_end : (op : OpId) (pid : Pid) → Idle s a (end_process m op pid s)
  idle_end op pid = record {
    locks = refl;
    references = refl;
    uses = refl;
    stages = refl;
    counts = refl;
    applied = refl;
    began = refl;
    answered = refl;
    silent = ap (λ o. o ++ []) (to_own w.nodes w.seen a peers sits (λ q. true) (Down pid));
    sends = λ r q. end_about (is_peer m q && true) pid r;
    ours = λ q. end_ours (is_peer m q && true) pid a q;
  }

  answer_keeps : (op : OpId) (response : Response) → Inv (perform w a (answer op response s))
  answer_keeps op response = idle_keeps w a (answer op response s) inv (idle_answer a op response s)

-- ---- changes

-- a command that was not opened yet, and came in
pub record Unopened (s : State) (op : OpId) : Type 0 where
  pub closed : s.stages op ≡ Closed
  pub counted : op.number ≤ s.counts op.port

module _ (w : World) (a : Node) (peers : List Node) (sits : Sits w.nodes w.seen a peers) (la : live w a) (inv : Inv w) (op : OpId) (new : Unopened (w.node a) op) (none : answers_of a op w.answered ≡ 0) where
  abbrev own : Nodes
  own = seated a peers

  answered : (response : Response) → Inv (perform w a (answer op response (w.node a)))
  answered response = answer_keeps w a peers sits la inv op response

  undertake_keeps : (u : Update) → Inv (perform w a (undertake own op u (w.node a)))
  undertake_keeps u = go (nat_le OPEN_LIMIT (w.node a).opened)
    where
      go : (b : Bool) → Inv (perform w a (cond b (answer op (refused Busy) (w.node a)) (and_then (open_command op u (w.node a)) (attempt own op u))))
      go true = answered (refused Busy)
      go false = chain w a (open_command op u (w.node a)) (attempt own op u) (record { applied = inl refl; began = inl refl; answered = inl refl }) (open_keeps w a op u inv new.closed new.counted none)
          (λ x y l h z e k i. attempt_keeps (remade w x y l h z) a peers sits la i op u (ap (λ (n : State). n.stages op) e ∙ upd_same same_op commands (w.node a).stages op (Waiting u)))

  change_by_keeps : (seen : Option Reply) (u : Update) → Inv (perform w a (change_by seen own op u (w.node a)))
  change_by_keeps (Some r) u = answered (Given r)
  change_by_keeps None u = undertake_keeps u

  change_keeps : (u : Update) → Inv (perform w a (change own op u (w.node a)))
  change_keeps u = change_by_keeps (look ((w.node a).table (name_of u)) u) u

  carried_keeps : (c : Command) → Inv (perform w a (carried_out own op c (w.node a)))
  carried_keeps (Create name) = change_keeps (update.Create name)
  carried_keeps (Delete name) = change_keeps (update.Delete name)
  carried_keeps (Join name pid) = change_keeps (update.Join name pid)
  carried_keeps (Leave name pid) = change_keeps (update.Leave name pid)
  carried_keeps Make = idle_keeps w a (make own op (w.node a)) inv (idle_make own a op (w.node a))
  carried_keeps (Finish pid) = idle_keeps w a (end_process own op pid (w.node a)) inv (idle_end w a peers sits la inv op pid)
  carried_keeps (Members name) = answered (Read (Members name) (w.node a).table)
  carried_keeps (LocalMembers name) = answered (Read (LocalMembers name) (w.node a).table)
  carried_keeps WhichGroups = answered (Read WhichGroups (w.node a).table)
  carried_keeps (Closest name word) = answered (Read (Closest name word) (w.node a).table)

  command_by_keeps : (fault : Option CommandFault) (c : Command) → Inv (perform w a (command_by fault own op c (w.node a)))
  command_by_keeps (Some fault) c = answered (refused fault)
  command_by_keeps None c = carried_keeps c

-- ---- a command, and a retry

module _ (w : World) (a : Node) (peers : List Node) (sits : Sits w.nodes w.seen a peers) (la : live w a) (inv : Inv w) where
  abbrev all_known : Nodes
  all_known = seated a peers

  command_keeps : (whole : Nodes) (port : ℕ) (c : Command) → Inv (perform w a (command whole all_known port c (w.node a)))
  command_keeps whole port c = chain w a (count_command port s) (command_by fault all_known op c) (record { applied = inl refl; began = inl refl; answered = inl refl }) (count_keeps w a port inv)
      (λ x y l h z e k i. command_by_keeps (remade w x y l h z) a peers sits la i op (unopened (x a) e) (unanswered z k) fault c)
    where
      s : State
      s = w.node a

      op : OpId
      op = next_op port s

      fault : Option CommandFault
      fault = fault_of whole s c

      unanswered : (z : List (Node × OpId)) → z ≡ w.answered ++ [] → answers_of a op z ≡ 0
      unanswered z e = ap (answers_of a op) (e ∙ append-nil w.answered) ∙ inv.once.unknown a op (omega arith)

      unopened : (n : State) → n ≡ (count_command port s).state → Unopened n op
      unopened n e = record {
        closed = ap (λ (n : State). n.stages op) e ∙ (inv.fitting a).closed op (omega arith);
        counted =
            let is : n.counts port ≡ s.counts port + 1 = ap (λ (n : State). n.counts port) e ∙ upd_same nat_eq numbers s.counts port (s.counts port + 1) in
            omega arith;
      }

  tried_keeps : (stage : Stage) (op : OpId) → (w.node a).stages op ≡ stage → Inv (perform w a (tried_again stage all_known op (w.node a)))
  tried_keeps (Waiting u) op is = attempt_keeps w a peers sits la inv op u is
  tried_keeps (Asking c) op is = go_on_keeps w a peers sits la inv c ((w.node a).uses c) refl
  tried_keeps (Changing n) op is = replies_in_keeps w a peers sits la inv n ((w.node a).uses n) refl
  tried_keeps Closed op is = still_keeps w a inv

  retry_keeps : (op : OpId) (t : NodeTurn) → retry all_known op (w.node a) ≡ Ok t → Inv (perform w a t)
  retry_keeps op t e = go (waits all_known ((w.node a).stages op) (w.node a)) e
    where
      go : (b : Bool) → cond b (Ok (tried_again ((w.node a).stages op) all_known op (w.node a))) (Err NotWaiting) ≡ Ok t → Inv (perform w a t)
      go true e = subst (λ z. Inv (perform w a z)) (ok_is e) (tried_keeps ((w.node a).stages op) op refl)
      go false e = absurd (cc)

  pub acted_keeps : (whole : Nodes) (ports : ℕ) (action : Action) (t : NodeTurn) → acted whole (seated a peers) ports action (w.node a) ≡ Ok t → Inv (perform w a t)
  acted_keeps whole ports (Issue port c) t e = go (nat_lt port ports) e
    where
      go : (b : Bool) → cond b (Ok (command whole all_known port c (w.node a))) (Err NoSuchPlace) ≡ Ok t → Inv (perform w a t)
      go true e = subst (λ z. Inv (perform w a z)) (ok_is e) (command_keeps whole port c)
      go false e = absurd (cc)
  acted_keeps whole ports (Retry op) t e = go (nat_lt op.port ports) e
    where
      go : (b : Bool) → cond b (retry all_known op (w.node a)) (Err NoSuchPlace) ≡ Ok t → Inv (perform w a t)
      go true e = retry_keeps op t e
      go false e = absurd (cc)
