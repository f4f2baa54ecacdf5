use Rattle.std.proofs.Common.{List, sym, subst}
use Rattle.std.specs.List.Sorted.{IsStrictlySortedBy}
use Rattle.pg_group.specs.declared.chunk.Chunk.{Chunk}
use Rattle.pg_group.specs.Numbers.{number_cmp, all_numbers}
use Rattle.pg_group.proofs.Chunks.{none_sorted}
use Rattle.pg_group.proofs.numbers.Numbers.new.Goals as goal

pub invariant_of-result : goal.invariant_of-result
invariant_of-result c = subst (λ (l : List Chunk). IsStrictlySortedBy number_cmp (all_numbers l)) (sym c.new.ensures.items) none_sorted
