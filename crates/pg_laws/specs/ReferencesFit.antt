-- How the references of a node, its commands and their counts belong together, and what references are used for.
use Rattle.std.specs.Prelude.{◌≡◌, ℕ, ◌<◌}
use Rattle.pg_step.specs.PgGroup.Value.{name_of}
use Rattle.pg_step.specs.declared.command.OpId.{OpId}
use Rattle.pg_step.specs.State.{State, Use, Stage}
use Rattle.pg_step.specs.State.Use.{Fresh, Locking, Owning, Updating, Spent}
use Rattle.pg_step.specs.State.Stage.{Closed, Asking, Changing}

-- A reference that asks for a lock is that of the attempt of its command. One under which an update goes out is that of
-- the change of its command, and the lock is held for it.
abbrev pub Fits : ℕ → Use → (OpId → Stage) → (ℕ → Use) → Type 0
Fits c (Locking op u lead st) stages uses = stages op ≡ Asking c
Fits n (Updating op u c replied) stages uses = (stages op ≡ Changing n) × (uses c ≡ Owning (name_of u) n)
Fits c _ stages uses = Unit {0}

pub record ReferencesFit (s : State) : Type 0 where
  -- a reference that is not made yet is of no use
  pub fresh : (c : ℕ) → s.references < c → s.uses c ≡ Fresh
  pub fits : (c : ℕ) → Fits c (s.uses c) s.stages s.uses
  -- a command that has not come in is not open
  pub closed : (op : OpId) → s.counts op.port < op.number → s.stages op ≡ Closed

-- What a reference may be used for after it was used so. It asks for the lock of an update, then owns the lock, or has the
-- update go out; in the end it is spent, and stays so.
abbrev pub UseFollows : Use → Use → Type 0
UseFollows Fresh later = Unit {0}
UseFollows (Locking op u lead st) (Locking other v next later) = (op ≡ other) × (u ≡ v)
UseFollows (Locking op u lead st) (Owning name n) = name ≡ name_of u
UseFollows (Owning name n) (Owning other k) = (name ≡ other) × (n ≡ k)
UseFollows (Updating op u c replied) (Updating other v d later) = (op ≡ other) × (u ≡ v) × (c ≡ d)
UseFollows used Spent = Unit {0}
UseFollows used later = ⊥
