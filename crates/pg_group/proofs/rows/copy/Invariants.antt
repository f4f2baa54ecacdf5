use Rattle.pg_group.proofs.Copies.{NamesCopied}
use Rattle.pg_group.proofs.rows.copy.Given as goal

-- the rows so far and those to come
abbrev pub invariant-loop-name : goal.invariant-loop-name
invariant-loop-name l = NamesCopied l.rows l.copy l.name-iterator
