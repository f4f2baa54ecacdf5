-- Which commands are refused, and which changes are answered at once.
use Rattle.std.proofs.Common.{◌≡◌, ℕ, Bool, true, false, cond, nat_le, nat_eq}
use Rattle.std.proofs.Common.{Option, Some, None, refl, ap, sym, ◌∙◌, subst}
use Rattle.std.specs.Prelude.{◌↔◌}
use Rattle.pg_step.specs.PgGroup.declared.update.Update.{Update}
use Rattle.pg_step.specs.PgGroup.declared.update.Update.TheVariants as update
use Rattle.pg_step.specs.PgGroup.Value.{Value, name_of}
use Rattle.pg_step.proofs.PgGroup.Changes.{upd_at}
use Rattle.pg_step.specs.declared.answer.Reply.{Reply}
use Rattle.pg_step.specs.declared.answer.Reply.TheVariants as reply
use Rattle.pg_step.specs.declared.command.Command.{Command}
use Rattle.pg_step.specs.declared.command.Command.TheVariants as command
use Rattle.pg_step.specs.declared.command.OpId.{OpId}
use Rattle.pg_step.specs.declared.command_fault.CommandFault.{CommandFault}
use Rattle.pg_step.specs.declared.command_fault.CommandFault.TheVariants.{Busy, NameTooLarge, ForeignPid, NotFormed}
use Rattle.pg_step.specs.declared.command_fault.CommandFault.TheVariants.{NotMade, AlreadyEnded, ProcessLimit}
use Rattle.pg_step.specs.Attempts.{same_op, attempt}
use Rattle.pg_step.specs.Commands.{OPEN_LIMIT, answer, carried_out, change, change_by, change_of, command as command_in}
use Rattle.pg_step.specs.Commands.{command_by, count_command, fault_of, look, next_op, open_command, refused}
use Rattle.pg_step.specs.Faults.{command_number_of}
use Rattle.pg_step.specs.Nodes.{Nodes}
use Rattle.pg_step.specs.State.{State, Response}
use Rattle.pg_step.specs.State.Response.{Given}
use Rattle.pg_step.specs.State.Stage.{Waiting}
use Rattle.pg_step.specs.Turns.{NodeTurn, and_then, first_of}
use Rattle.pg_laws.specs.Lasting.{at_once, busy_if, busy_of, refused_by, reply_or_busy}
use Rattle.pg_laws.proofs.commands.Answered.{Answering, Silent, Behind, AtOnce, attempt_answers}
use Rattle.pg_laws.proofs.references.Fitting.{is_op}

-- ---- faults are told apart by their numbers

abbrev fault_at : ℕ → CommandFault
fault_at n = cond (nat_eq n 22) Busy (cond (nat_eq n 23) NameTooLarge (cond (nat_eq n 24) ForeignPid (cond (nat_eq n 25) NotFormed (cond (nat_eq n 26) NotMade (cond (nat_eq n 27) AlreadyEnded ProcessLimit)))))

read_back : (f : CommandFault) → fault_at (command_number_of f) ≡ f
read_back Busy = refl
read_back NameTooLarge = refl
read_back ForeignPid = refl
read_back NotFormed = refl
read_back NotMade = refl
read_back AlreadyEnded = refl
read_back ProcessLimit = refl

abbrev Gift : Type 0
Gift = Option (OpId × Response)

abbrev number_given : Option (OpId × Response) → ℕ
number_given (Some (op, Given (reply.Refused n))) = n
number_given other = 0

same_fault : (op : OpId) (f g : CommandFault) → ◌≡◌ {A = Gift} (Some (op, refused f)) (Some (op, refused g)) → f ≡ g
same_fault op f g e = sym (read_back f) ∙ ap (λ (o : Option (OpId × Response)). fault_at (number_given o)) e ∙ read_back g

abbrev ok_in : Gift → Bool
ok_in (Some (op, Given reply.Ok)) = true
ok_in other = false

ok_not_refused : (op other : OpId) (f : CommandFault) → ◌≡◌ {A = Gift} (Some (op, Given reply.Ok)) (Some (other, refused f)) → ⊥
ok_not_refused op other f e = let clash : true ≡ false = ap ok_in e in absurd (cc)

abbrev refuses : Response → Bool
refuses (Given (reply.Refused n)) = true
refuses other = false

abbrev refusal_in : Gift → Bool
refusal_in (Some (op, x)) = refuses x
refusal_in None = false

no_refusal : (op other : OpId) (x : Response) (f : CommandFault) → refuses x ≡ false → ◌≡◌ {A = Gift} (Some (op, x)) (Some (other, refused f)) → ⊥
no_refusal op other x f fine e = let clash : false ≡ true = sym fine ∙ ap refusal_in e in absurd (cc)

-- ---- what is given at once

-- a change that is undertaken is answered behind its lock, or not yet
abbrev NotRefused : NodeTurn → Type 0
NotRefused t = (op : OpId) (f : CommandFault) → t.reported.gave ≡ Some (op, refused f) → ⊥

abbrev Gave : NodeTurn → OpId → Reply → Type 0
Gave t op r = (t.reported.gave ≡ Some (op, Given r)) × (t.reported.answered ≡ None)

module _ (m : Nodes) (op : OpId) (u : Update) (s : State) where
  abbrev opened : NodeTurn
  opened = and_then (open_command op u s) (attempt m op u)

  answers : Answering (λ _ _. ⊥) opened.reported
  answers = attempt_answers m op u (open_command op u s).state (upd_at same_op s.stages op (Waiting u) (is_op op))

  not_refused : NotRefused opened
  not_refused other f e = go answers
    where
      go : Answering (λ _ _. ⊥) opened.reported → ⊥
      go (Silent none _) = absurd (cc (sym none ∙ e))
      go (Behind o ok _) = ok_not_refused o other f (sym ok ∙ e)
      go (AtOnce o r never _ _) = never

  not_at_once : (r : Reply) → Gave opened op r → ⊥
  not_at_once r gave = go answers
    where
      go : Answering (λ _ _. ⊥) opened.reported → ⊥
      go (Silent none _) = absurd (cc (sym none ∙ gave.0))
      go (Behind o ok answered) = absurd (cc (sym answered ∙ gave.1))
      go (AtOnce o x never _ _) = never

-- the look never refuses
look_fine : (v : Value) (u : Update) (r : Reply) (f : CommandFault) → look v u ≡ Some r → Given r ≡ refused f → ⊥
look_fine None (update.Create name) r f e is = absurd (cc)
look_fine None (update.Delete name) r f e is = absurd (cc)
look_fine None (update.Join name pid) r f e is = absurd (cc)
look_fine None (update.Leave name pid) r f e is = absurd (cc)
look_fine (Some counts) (update.Create name) r f e is = absurd (cc)
look_fine (Some counts) (update.Delete name) r f e is = absurd (cc)
look_fine (Some counts) (update.Join name pid) r f e is = absurd (cc)
look_fine (Some counts) (update.Leave name pid) r f e is = absurd (cc)

abbrev response_or : Gift → Response → Response
response_or None r = r
response_or (Some (op, x)) r = x

given_is : {op : OpId} {x y : Response} → ◌≡◌ {A = Gift} (Some (op, x)) (Some (op, y)) → x ≡ y
given_is {y = y} e = ap (λ (o : Gift). response_or o y) e

module _ (m : Nodes) (op : OpId) (u : Update) (s : State) where
  abbrev turn_by : Option Reply → Bool → NodeTurn
  turn_by (Some r) full = answer op (Given r) s
  turn_by None full = cond full (answer op (refused Busy) s) (and_then (open_command op u s) (attempt m op u))

  change_is : (found : Option Reply) → change_by found m op u s ≡ turn_by found (nat_le OPEN_LIMIT s.opened)
  change_is None = refl
  change_is (Some r) = refl

  change_refused : (f : CommandFault) → ((change m op u s).reported.gave ≡ Some (op, refused f)) ↔ (busy_of (Some u) s ≡ Some f)
  change_refused f = subst (λ (t : NodeTurn). (t.reported.gave ≡ Some (op, refused f)) ↔ (busy_of (Some u) s ≡ Some f)) (sym (change_is (look (s.table (name_of u)) u)))
      (go (look (s.table (name_of u)) u) (nat_le OPEN_LIMIT s.opened) refl)
    where
      go : (found : Option Reply) (full : Bool) → look (s.table (name_of u)) u ≡ found → ((turn_by found full).reported.gave ≡ Some (op, refused f)) ↔ (busy_if found full ≡ Some f)
      go (Some r) full is = (λ e. absurd (look_fine (s.table (name_of u)) u r f is (given_is e)), λ e. absurd (cc))
      go None true is = (λ e. ap Some (same_fault op Busy f e), λ e. ap (λ (o : Option CommandFault). Some (op, refused (fault_or o))) e)
        where
          fault_or : Option CommandFault → CommandFault
          fault_or None = Busy
          fault_or (Some x) = x
      go None false is = (λ e. absurd (not_refused m op u s op f e), λ e. absurd (cc))

  change_at_once : (r : Reply) → Gave (change m op u s) op r ↔ (at_once s u ≡ Some r)
  change_at_once r = subst (λ (t : NodeTurn). Gave t op r ↔ (at_once s u ≡ Some r)) (sym (change_is (look (s.table (name_of u)) u)))
      (go (look (s.table (name_of u)) u) (nat_le OPEN_LIMIT s.opened))
    where
      reply_in : Option (OpId × Response) → Option Reply
      reply_in (Some (o, Given x)) = Some x
      reply_in other = None

      go : (found : Option Reply) (full : Bool) → Gave (turn_by found full) op r ↔ (reply_or_busy found full ≡ Some r)
      go (Some x) full = (λ e. ap reply_in e.0, λ e. (ap (λ (o : Option Reply). Some (op, Given (or_ok o))) e, refl))
        where
          or_ok : Option Reply → Reply
          or_ok None = reply.Ok
          or_ok (Some y) = y
      go None true = (λ e. ap reply_in e.0, λ e. (ap (λ (o : Option Reply). Some (op, Given (or_ok o))) e, refl))
        where
          or_ok : Option Reply → Reply
          or_ok None = reply.Ok
          or_ok (Some y) = y
      go None false = (λ e. absurd (not_at_once m op u s r e), λ e. absurd (cc))

-- ---- a command

module _ (whole m : Nodes) (port : ℕ) (s : State) where
  abbrev op : OpId
  op = next_op port s

  abbrev t : State
  t = (count_command port s).state

  abbrev Refuses : Option CommandFault → Command → CommandFault → Type 0
  Refuses fault c f = ((command_by fault m op c t).reported.gave ≡ Some (op, refused f))

  carried_refused : (c : Command) (f : CommandFault) → Refuses None c f ↔ (busy_of (change_of c) s ≡ Some f)
  carried_refused (command.Create name) f = change_refused m op (update.Create name) t f
  carried_refused (command.Delete name) f = change_refused m op (update.Delete name) t f
  carried_refused (command.Join name pid) f = change_refused m op (update.Join name pid) t f
  carried_refused (command.Leave name pid) f = change_refused m op (update.Leave name pid) t f
  carried_refused command.Make f = (λ e. absurd (no_refusal op op _ f refl e), λ e. absurd (cc))
  carried_refused (command.Finish pid) f = (λ e. absurd (no_refusal op op _ f refl e), λ e. absurd (cc))
  carried_refused (command.Members name) f = (λ e. absurd (no_refusal op op _ f refl e), λ e. absurd (cc))
  carried_refused (command.LocalMembers name) f = (λ e. absurd (no_refusal op op _ f refl e), λ e. absurd (cc))
  carried_refused command.WhichGroups f = (λ e. absurd (no_refusal op op _ f refl e), λ e. absurd (cc))
  carried_refused (command.Closest name word) f = (λ e. absurd (no_refusal op op _ f refl e), λ e. absurd (cc))

  pub refused_exactly : (c : Command) (f : CommandFault) → ((command_in whole m port c s).reported.gave ≡ Some (op, refused f)) ↔ (refused_by whole s c ≡ Some f)
  refused_exactly c f = go (fault_of whole s c)
    where
      go : (fault : Option CommandFault) → Refuses fault c f ↔ (first_of fault (busy_of (change_of c) s) ≡ Some f)
      go (Some g) = (λ e. ap Some (same_fault op g f e), λ e. ap (λ (o : Option CommandFault). Some (op, refused (fault_or o))) e)
        where
          fault_or : Option CommandFault → CommandFault
          fault_or None = Busy
          fault_or (Some x) = x
      go None = carried_refused c f

  carried_at_once : (c : Command) (u : Update) (r : Reply) → change_of c ≡ Some u → Gave (carried_out m op c t) op r ↔ (at_once s u ≡ Some r)
  carried_at_once (command.Create name) u r is = let same : update.Create name ≡ u = cc in subst (λ x. Gave (carried_out m op (command.Create name) t) op r ↔ (at_once s x ≡ Some r)) same (change_at_once m op (update.Create name) t r)
  carried_at_once (command.Delete name) u r is = let same : update.Delete name ≡ u = cc in subst (λ x. Gave (carried_out m op (command.Delete name) t) op r ↔ (at_once s x ≡ Some r)) same (change_at_once m op (update.Delete name) t r)
  carried_at_once (command.Join name pid) u r is = let same : update.Join name pid ≡ u = cc in subst (λ x. Gave (carried_out m op (command.Join name pid) t) op r ↔ (at_once s x ≡ Some r)) same (change_at_once m op (update.Join name pid) t r)
  carried_at_once (command.Leave name pid) u r is = let same : update.Leave name pid ≡ u = cc in subst (λ x. Gave (carried_out m op (command.Leave name pid) t) op r ↔ (at_once s x ≡ Some r)) same (change_at_once m op (update.Leave name pid) t r)
  carried_at_once command.Make u r is = absurd (cc)
  carried_at_once (command.Finish pid) u r is = absurd (cc)
  carried_at_once (command.Members name) u r is = absurd (cc)
  carried_at_once (command.LocalMembers name) u r is = absurd (cc)
  carried_at_once command.WhichGroups u r is = absurd (cc)
  carried_at_once (command.Closest name word) u r is = absurd (cc)

  pub at_once_exactly : (c : Command) (u : Update) (r : Reply) → change_of c ≡ Some u → fault_of whole s c ≡ None → Gave (command_in whole m port c s) op r ↔ (at_once s u ≡ Some r)
  at_once_exactly c u r is fine = subst (λ fault. Gave (and_then (count_command port s) (command_by fault m op c)) op r ↔ (at_once s u ≡ Some r)) (sym fine) (carried_at_once c u r is)

pub refused_exactly_of : (whole m : Nodes) (port : ℕ) (c : Command) (s : State) (f : CommandFault) → ((command_in whole m port c s).reported.gave ≡ Some (next_op port s, refused f)) ↔ (refused_by whole s c ≡ Some f)
refused_exactly_of whole m port c s f = refused_exactly whole m port s c f

pub at_once_of : (whole m : Nodes) (port : ℕ) (c : Command) (u : Update) (s : State) (r : Reply) → change_of c ≡ Some u → fault_of whole s c ≡ None
    → (((command_in whole m port c s).reported.gave ≡ Some (next_op port s, Given r)) × ((command_in whole m port c s).reported.answered ≡ None)) ↔ (at_once s u ≡ Some r)
at_once_of whole m port c u s r = at_once_exactly whole m port s c u r
