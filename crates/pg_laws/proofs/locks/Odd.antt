-- A node tells of no odd reply but for one that completes nothing.
use Rattle.std.proofs.Common.{◌≡◌, ℕ, Bool, true, false, cond, nat_lt, None, Ok, Err, ap, sym, ◌∙◌}
use Rattle.pg_step.specs.PgGroup.declared.update.Update.{Update}
use Rattle.pg_step.specs.declared.command.Command.{Command}
use Rattle.pg_step.specs.declared.command.OpId.{OpId}
use Rattle.pg_step.specs.Nodes.{Node, Nodes}
use Rattle.pg_step.specs.State.{State, Status, Use}
use Rattle.pg_step.specs.Turns.{NodeTurn, and_then}
use Rattle.pg_step.specs.Attempts.{count_answer, count_ok, replies_in, locks_in, go_on, attempt, retry}
use Rattle.pg_step.specs.Commands.{count_command, next_op, fault_of, command}
use Rattle.pg_step.specs.Step.{Action, Issue, Retry, acted}
use Rattle.pg_step.specs.declared.refusal.Refusal.TheVariants.{NoSuchPlace}
use Rattle.pg_laws.proofs.steps.Single.{Makes, ok_is}
use Rattle.pg_laws.proofs.commands.Steady.{replies_in_steady, locks_in_steady, go_on_steady}
use Rattle.pg_laws.proofs.commands.Steady.{attempt_steady, command_by_steady, retry_steady}

-- what the turn tells of no odd reply
pub even_so : {u t : NodeTurn} → u.reported.odd ≡ None → Makes (Ok u) t → t.reported.odd ≡ None
even_so even e = ap (λ (v : NodeTurn). v.reported.odd) (sym (ok_is e)) ∙ even

module _ (m : Nodes) where
  pub replies_in_even : (n : ℕ) (used : Use) (s : State) → (replies_in m n used s).reported.odd ≡ None
  replies_in_even n used s = (replies_in_steady m n used s).even

  pub locks_in_even : (c : ℕ) (used : Use) (s : State) → (locks_in m c used s).reported.odd ≡ None
  locks_in_even c used s = (locks_in_steady m c used s).even

  pub go_on_even : (c : ℕ) (used : Use) (s : State) → (go_on m c used s).reported.odd ≡ None
  go_on_even c used s = (go_on_steady m c used s).even

  pub attempt_even : (op : OpId) (u : Update) (s : State) → (attempt m op u s).reported.odd ≡ None
  attempt_even op u s = (attempt_steady m op u s).even

  pub command_even : (whole : Nodes) (port : ℕ) (c : Command) (s : State) → (command whole m port c s).reported.odd ≡ None
  command_even whole port c s = (command_by_steady m (fault_of whole s c) (next_op port s) c ((count_command port s).state)).even

  -- a reply that is counted, and what follows
  pub counted_even : (c : ℕ) (op : OpId) (u : Update) (lead : Node) (st : Node → Status) (p : Node) (v : Status) (s : State)
      → (and_then (count_answer c op u lead st p v s) (λ t. go_on m c (t.uses c) t)).reported.odd ≡ None
  counted_even c op u lead st p v s = let t = (count_answer c op u lead st p v s).state in go_on_even c (t.uses c) t

  pub confirmed_even : (n : ℕ) (op : OpId) (u : Update) (c : ℕ) (replied : Node → Bool) (p : Node) (s : State)
      → (and_then (count_ok n op u c replied p s) (λ t. replies_in m n (t.uses n) t)).reported.odd ≡ None
  confirmed_even n op u c replied p s = let t = (count_ok n op u c replied p s).state in replies_in_even n (t.uses n) t

  -- all that a node does of its own
  pub acted_even : (whole : Nodes) (ports : ℕ) (action : Action) (s : State) (t : NodeTurn) → acted whole m ports action s ≡ Ok t → t.reported.odd ≡ None
  acted_even whole ports (Issue port c) s t is = go (nat_lt port ports) is
    where
      go : (b : Bool) → Makes (cond b (Ok (command whole m port c s)) (Err NoSuchPlace)) t → t.reported.odd ≡ None
      go true e = even_so (command_even whole port c s) e
      go false e = absurd (cc)
  acted_even whole ports (Retry op) s t is = go (nat_lt op.port ports) is
    where
      go : (b : Bool) → Makes (cond b (retry m op s) (Err NoSuchPlace)) t → t.reported.odd ≡ None
      go true e = (retry_steady m op s t e).even
      go false e = absurd (cc)
