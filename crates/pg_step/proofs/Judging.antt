-- What is gathered goes on by the rule of a gathered call.
use Rattle.std.proofs.Common.{◌≡◌, ℕ, Bool, true, false, cond, Option, Some, None, refl, ap, sym, ◌∙◌}
use Rattle.pg_term.specs.Same.{same_atom}
use Rattle.pg_message_types.specs.PgGroup.declared.update.Update.{Update}
use Rattle.pg_message_types.specs.PgGroup.Functions.{upd}
use Rattle.pg_message_types.specs.declared.message.Said.{Said}
use Rattle.pg_message_types.specs.declared.message.Said.TheVariants.{Granted, Denied, Applied}
use Rattle.pg_multicall.specs.Gathered.{with_reply}
use Rattle.pg_step.specs.declared.command.OpId.{OpId}
use Rattle.pg_step.specs.Nodes.{Node}
use Rattle.pg_step.specs.State.{Status}
use Rattle.pg_step.specs.State.Use.{Locking, Updating}
use Rattle.pg_step.specs.Attempts.{gathered, is_of_lock, lock_status, lock_entry}
use Rattle.pg_step.proofs.Once.{same_is}

said_so : (said : Said) (b : Bool) → is_of_lock said ≡ true → b ≡ false → lock_entry (lock_status said) b ≡ Some (Some said)
said_so Granted false lock other = refl
said_so Denied false lock other = refl
said_so Applied b lock other = absurd (cc)
said_so Granted true lock other = absurd (cc)
said_so Denied true lock other = absurd (cc)

-- an answer to a request for a lock, of a node that was not asked first
pub answer_gathered : (op : OpId) (update : Update) (first : Node) (st : Node → Status) (p : Node) (said : Said) (q : Node) → same_atom first p ≡ false → is_of_lock said ≡ true
    → gathered (Locking op update first (upd same_atom st p (lock_status said))) q ≡ with_reply (gathered (Locking op update first st)) p said q
unfolding upd with_reply
answer_gathered op update first st p said q other lock = go (same_atom p q) refl
  where
    go : (b : Bool) → same_atom p q ≡ b → lock_entry (cond b (lock_status said) (st q)) (same_atom first q) ≡ cond b (Some (Some said)) (lock_entry (st q) (same_atom first q))
    go true is = said_so said (same_atom first q) lock (ap (same_atom first) (sym (same_is p q is)) ∙ other)
    go false is = refl

-- an ok to an update
pub ok_gathered : (op : OpId) (update : Update) (c : ℕ) (replied : Node → Bool) (p q : Node)
    → gathered (Updating op update c (upd same_atom replied p true)) q ≡ with_reply (gathered (Updating op update c replied)) p Applied q
unfolding upd with_reply
ok_gathered op update c replied p q = go (same_atom p q)
  where
    go : (b : Bool) → ◌≡◌ {A = Option (Option Said)} (Some (cond (cond b true (replied q)) (Some Applied) None)) (cond b (Some (Some Applied)) (Some (cond (replied q) (Some Applied) None)))
    go true = refl
    go false = refl
