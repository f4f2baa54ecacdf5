use Rattle.pg_world_account.proofs.CopiedRows.{RowsCopied}
use Rattle.pg_world_account.proofs.rows.copy.Given as goal

-- the rows so far and those to come
abbrev pub invariant-loop-name : goal.invariant-loop-name
invariant-loop-name l = RowsCopied l.rows l.copy l.name-iterator
