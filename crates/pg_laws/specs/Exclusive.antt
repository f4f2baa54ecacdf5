-- Locks are exclusive: a lock of a group at a node is of one command alone, and so is the turn of a group to be changed.
use Rattle.std.specs.Prelude.{◌≡◌, ℕ, Bool, true}
use Rattle.pg_term.specs.declared.term.Term.{Term}
use Rattle.pg_step.specs.PgGroup.declared.update.Update.{Update}
use Rattle.pg_step.specs.PgGroup.Value.{name_of}
use Rattle.pg_step.specs.PgLock.Locks.{is_holder}
use Rattle.pg_step.specs.PgRefs.Numbered.{numbered}
use Rattle.pg_step.specs.declared.command.OpId.{OpId}
use Rattle.pg_step.specs.Config.{Config, name_at}
use Rattle.pg_step.specs.Nodes.{Node}
use Rattle.pg_step.specs.State.{State, Status, Use}
use Rattle.pg_step.specs.State.Status.{Yes}
use Rattle.pg_step.specs.State.Use.{Locking, Updating}

-- an update of the group goes out under a reference that is used so
abbrev pub IsUpdateOf : Term → Use → Type 0
IsUpdateOf name (Updating op update lock replied) = name_of update ≡ name
IsUpdateOf name used = ⊥

-- at node x the reference of this number of node i holds the lock of a group
abbrev pub Holds : Config → (ℕ → State) → (x i number : ℕ) → Term → Type 0
Holds config node x i number name = is_holder ((node x).locks name) (numbered (name_at config i) number) ≡ true

-- of the nodes that pass a test
pub record ExclusiveLocks (config : Config) (lives : ℕ → Bool) (node : ℕ → State) : Type 0 where
  -- a grant that is counted stands at the node that gave it, so that no other request for the lock has it
  pub granted : (x i c : ℕ) (op : OpId) (update : Update) (first : Node) (status : Node → Status)
      → lives x ≡ true → lives i ≡ true
      → (node i).uses c ≡ Locking op update first status → status (name_at config x) ≡ Yes → Holds config node x i c (name_of update)
  -- while an update is under way its command holds the lock of its group at every node
  pub held : (x i n : ℕ) (op : OpId) (update : Update) (lock : ℕ) (replied : Node → Bool)
      → lives x ≡ true → lives i ≡ true
      → (node i).uses n ≡ Updating op update lock replied → Holds config node x i lock (name_of update)
  -- two updates of one group are never under way at once
  pub one_update : (i j n k : ℕ) (name : Term) → lives i ≡ true → lives j ≡ true
      → IsUpdateOf name ((node i).uses n) → IsUpdateOf name ((node j).uses k) → (i ≡ j) × (n ≡ k)
