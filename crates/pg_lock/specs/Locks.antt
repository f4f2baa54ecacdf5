-- Who holds the lock of each name at one node (global:set_lock/2 and global:del_lock/1 of the global manual page, for
-- locks of one node that are asked for once).
use Rattle.std.specs.Prelude.{ℕ, Bool, true, false, ◌&&◌, cond, List, Option, Some, None}
use Rattle.pg_term.specs.declared.term.Term.{Term}
use Rattle.pg_term.specs.RefParts.{RefParts, ref_eq}
use Rattle.pg_term.specs.Same.{same_atom, same_term}
use Rattle.pg_lock.specs.Holders.{holder_in}
use Rattle.pg_lock.specs.declared.table.LockTable.{LockTable}

-- the holder of each name
abbrev pub Locks : Type 0
Locks = Term → Option RefParts

-- the locks with this holder of a name
unfoldable pub held : Locks → Term → Option RefParts → Locks
held locks name holder other = cond (same_term name other) holder (locks other)

abbrev pub is_free : Option RefParts → Bool
is_free None = true
is_free (Some holder) = false

abbrev pub is_holder : Option RefParts → RefParts → Bool
is_holder None reference = false
is_holder (Some holder) reference = ref_eq holder reference

-- the reference of these parts
abbrev pub of_parts : List ℕ → ℕ → List ℕ → RefParts
of_parts node creation words = record { node = node; creation = creation; words = words }

-- whether the reference of a pair is the holder of its name
abbrev pub holds_so : Locks → (Term × RefParts) → Bool
holds_so locks pair = is_holder (locks pair.0) pair.1

-- a node grants exactly where it is formed and the name has no holder
abbrev pub grants : Bool → Locks → Term → Bool
grants formed locks name = formed && is_free (locks name)

-- the locks after an answer: granted, the name is the reference's; denied, nothing changes
abbrev pub after_ask : Bool → Locks → Term → RefParts → Locks
after_ask true locks name reference = held locks name (Some reference)
after_ask false locks name reference = locks

-- the locks once a reference gives a name up: where it is the holder the name is free, else nothing changes
abbrev pub given_up : Bool → Locks → Term → Locks
given_up true locks name = held locks name None
given_up false locks name = locks

-- the holder that is left of one, where the references of a node hold nothing any more
abbrev pub freed_of : List ℕ → Option RefParts → Option RefParts
freed_of node None = None
freed_of node (Some holder) = cond (same_atom node holder.node) None (Some holder)

-- the locks without a node: a name that one of its references held is free, and all else is as it was
abbrev pub without_node : Locks → List ℕ → Locks
without_node locks node name = freed_of node (locks name)

abbrev pub locks_of : LockTable → Locks
locks_of table name = holder_in table.sorted.items table.beyond name
