use Rattle.pg_lock.proofs.Copies.{NamesCopied}
use Rattle.pg_lock.proofs.table.copy_beyond.Given as goal

-- the names so far and those to come
abbrev pub invariant-loop-name : goal.invariant-loop-name
invariant-loop-name l = NamesCopied l.holders l.copy l.name-iterator
