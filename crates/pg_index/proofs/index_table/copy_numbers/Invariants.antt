use Rattle.pg_term.specs.Same.{same_term}
use Rattle.pg_index.specs.Index.{number_of}
use Rattle.pg_index.proofs.Copies.{EntriesCopied}
use Rattle.pg_index.proofs.index_table.copy_numbers.Given as goal

-- the names so far and those to come
abbrev pub invariant-loop-name : goal.invariant-loop-name
invariant-loop-name l = EntriesCopied same_term (number_of l.numbers) (number_of l.copy) l.name-iterator
