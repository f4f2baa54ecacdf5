-- Turns that count no command, and tell of no odd reply.
use Rattle.std.proofs.Common.{◌≡◌, ℕ, Bool, true, false, cond, nat_le, Option}
use Rattle.std.proofs.Common.{Some, None, Ok, Err, refl, ap, ◌∙◌, subst}
use Rattle.pg_term.specs.Same.{same_atom}
use Rattle.pg_step.specs.PgGroup.declared.update.Update.{Update}
use Rattle.pg_step.specs.PgGroup.declared.update.Update.TheVariants as update
use Rattle.pg_step.specs.PgGroup.Value.{name_of}
use Rattle.pg_step.specs.declared.command.Command.{Command}
use Rattle.pg_step.specs.declared.command.Command.TheVariants as command
use Rattle.pg_step.specs.declared.command.OpId.{OpId}
use Rattle.pg_step.specs.declared.answer.Reply.{Reply}
use Rattle.pg_step.specs.PgLock.Attempts.{after_round, does_wait}
use Rattle.pg_step.specs.Nodes.{Nodes, every, greatest}
use Rattle.pg_step.specs.State.{State, Use, Stage}
use Rattle.pg_step.specs.State.Status.{Unasked}
use Rattle.pg_step.specs.State.Use.{Fresh, Locking, Owning, Updating, Spent}
use Rattle.pg_step.specs.State.Stage.{Closed, Waiting, Asking, Changing}
use Rattle.pg_step.specs.Turns.{NodeTurn, becomes, and_then, first_of}
use Rattle.pg_step.specs.Attempts.{round_of, all_granted, none_missing, none_denied, new_attempt, ask, give_up}
use Rattle.pg_step.specs.Attempts.{begin, finish, replies_in, locks_in, go_on, attempt, waits, tried_again, retry}
use Rattle.pg_step.specs.Commands.{OPEN_LIMIT, look, answer, open_command, undertake}
use Rattle.pg_step.specs.Commands.{change_by, change, carried_out, command_by, refused}
use Rattle.pg_step.specs.declared.refusal.Refusal.TheVariants.{NotWaiting}
use Rattle.pg_laws.proofs.steps.Single.{Makes, ok_is}
use Rattle.pg_step.specs.declared.command_fault.CommandFault.TheVariants.{Busy}
use Rattle.pg_step.specs.declared.command_fault.CommandFault.{CommandFault}

pub record Steady (s : State) (t : NodeTurn) : Type 0 where
  pub counts : t.state.counts ≡ s.counts
  pub even : t.reported.odd ≡ None

pub steady_then : (s : State) (t : NodeTurn) (next : State → NodeTurn) → Steady s t → Steady t.state (next t.state) → Steady s (and_then t next)
steady_then s t next first later = record {
  counts = later.counts ∙ first.counts;
  even = ap (λ o. first_of o (next t.state).reported.odd) first.even ∙ later.even;
}

module _ (m : Nodes) where
  -- ---- what follows once answers are in

  pub replies_in_steady : (n : ℕ) (used : Use) (s : State) → Steady s (replies_in m n used s)
  replies_in_steady n (Updating op u c replied) s = go (every m replied)
    where
      go : (b : Bool) → Steady s (cond b (finish m n op u c s) (becomes s))
      go true = record { counts = refl; even = refl }
      go false = record { counts = refl; even = refl }
  replies_in_steady n (Locking op u lead st) s = record { counts = refl; even = refl }
  replies_in_steady n (Owning name c) s = record { counts = refl; even = refl }
  replies_in_steady n Fresh s = record { counts = refl; even = refl }
  replies_in_steady n Spent s = record { counts = refl; even = refl }

  pub locks_in_steady : (c : ℕ) (used : Use) (s : State) → Steady s (locks_in m c used s)
  locks_in_steady c (Locking op u lead st) s = go (all_granted m st) (none_missing m st)
    where
      t : State
      t = (begin m c op u s).state

      go : (b d : Bool)
          → Steady s (cond b (and_then (begin m c op u s) (λ v. replies_in m v.references (v.uses v.references) v)) (cond d (give_up m c op u st s) (becomes s)))
      go true d = steady_then s (begin m c op u s) (λ v. replies_in m v.references (v.uses v.references) v) (record { counts = refl; even = refl })
          (replies_in_steady t.references (t.uses t.references) t)
      go false true = record { counts = refl; even = refl }
      go false false = record { counts = refl; even = refl }
  locks_in_steady c (Updating op u d replied) s = record { counts = refl; even = refl }
  locks_in_steady c (Owning name u) s = record { counts = refl; even = refl }
  locks_in_steady c Fresh s = record { counts = refl; even = refl }
  locks_in_steady c Spent s = record { counts = refl; even = refl }

  pub go_on_steady : (c : ℕ) (used : Use) (s : State) → Steady s (go_on m c used s)
  go_on_steady c (Locking op u lead st) s = go (none_missing m st) (does_wait (after_round (round_of lead st) (none_denied m st)))
    where
      t : State
      t = (ask m (λ _. true) c op u lead st s).state

      go : (b d : Bool) → Steady s (cond b (cond d (give_up m c op u st s) (and_then (ask m (λ _. true) c op u lead st s) (λ v. locks_in m c (v.uses c) v))) (becomes s))
      go true false = steady_then s (ask m (λ _. true) c op u lead st s) (λ v. locks_in m c (v.uses c) v) (record { counts = refl; even = refl }) (locks_in_steady c (t.uses c) t)
      go true true = record { counts = refl; even = refl }
      go false d = record { counts = refl; even = refl }
  go_on_steady c (Updating op u d replied) s = record { counts = refl; even = refl }
  go_on_steady c (Owning name u) s = record { counts = refl; even = refl }
  go_on_steady c Fresh s = record { counts = refl; even = refl }
  go_on_steady c Spent s = record { counts = refl; even = refl }

  pub attempt_steady : (op : OpId) (u : Update) (s : State) → Steady s (attempt m op u s)
  attempt_steady op u s =
      let t = (new_attempt (greatest m) op u s).state in
      let c = t.references in
      let first = same_atom (greatest m) in
      let r = (ask m first c op u (greatest m) (λ _. Unasked) t).state in
      steady_then s (new_attempt (greatest m) op u s) (λ v. and_then (ask m first v.references op u (greatest m) (λ _. Unasked) v) (λ x. go_on m v.references (x.uses v.references) x))
      (record { counts = refl; even = refl })
      (steady_then t (ask m first c op u (greatest m) (λ _. Unasked) t) (λ x. go_on m c (x.uses c) x) (record { counts = refl; even = refl }) (go_on_steady c (r.uses c) r))

  -- ---- commands

  pub undertake_steady : (op : OpId) (u : Update) (s : State) → Steady s (undertake m op u s)
  undertake_steady op u s = go (nat_le OPEN_LIMIT s.opened)
    where
      go : (b : Bool) → Steady s (cond b (answer op (refused Busy) s) (and_then (open_command op u s) (attempt m op u)))
      go true = record { counts = refl; even = refl }
      go false = steady_then s (open_command op u s) (attempt m op u) (record { counts = refl; even = refl }) (attempt_steady op u ((open_command op u s).state))

  pub change_steady : (op : OpId) (u : Update) (s : State) → Steady s (change m op u s)
  change_steady op u s = go (look (s.table (name_of u)) u)
    where
      go : (r : Option Reply) → Steady s (change_by r m op u s)
      go (Some r) = record { counts = refl; even = refl }
      go None = undertake_steady op u s

  pub carried_steady : (op : OpId) (c : Command) (s : State) → Steady s (carried_out m op c s)
  carried_steady op (command.Create name) s = change_steady op (update.Create name) s
  carried_steady op (command.Delete name) s = change_steady op (update.Delete name) s
  carried_steady op (command.Join name pid) s = change_steady op (update.Join name pid) s
  carried_steady op (command.Leave name pid) s = change_steady op (update.Leave name pid) s
  carried_steady op command.Make s = record { counts = refl; even = refl }
  carried_steady op (command.Finish pid) s = record { counts = refl; even = refl }
  carried_steady op (command.Members name) s = record { counts = refl; even = refl }
  carried_steady op (command.LocalMembers name) s = record { counts = refl; even = refl }
  carried_steady op command.WhichGroups s = record { counts = refl; even = refl }
  carried_steady op (command.Closest name word) s = record { counts = refl; even = refl }

  pub command_by_steady : (fault : Option CommandFault) (op : OpId) (c : Command) (s : State) → Steady s (command_by fault m op c s)
  command_by_steady (Some fault) op c s = record { counts = refl; even = refl }
  command_by_steady None op c s = carried_steady op c s

  pub tried_steady : (stage : Stage) (op : OpId) (s : State) → Steady s (tried_again stage m op s)
  tried_steady (Waiting u) op s = attempt_steady op u s
  tried_steady (Asking c) op s = go_on_steady c (s.uses c) s
  tried_steady (Changing n) op s = replies_in_steady n (s.uses n) s
  tried_steady Closed op s = record { counts = refl; even = refl }

  pub retry_steady : (op : OpId) (s : State) (t : NodeTurn) → Makes (retry m op s) t → Steady s t
  retry_steady op s t e = go (waits m (s.stages op) s) e
    where
      go : (b : Bool) → Makes (cond b (Ok (tried_again (s.stages op) m op s)) (Err NotWaiting)) t → Steady s t
      go true e = subst (Steady s) (ok_is e) (tried_steady (s.stages op) op s)
      go false e = absurd (cc)
