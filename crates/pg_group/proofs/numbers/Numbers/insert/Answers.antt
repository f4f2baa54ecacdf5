use Rattle.std.proofs.Common.{sym, subst}
use Rattle.std.specs.List.Sorted.{IsStrictlySortedBy}
use Rattle.pg_group.specs.Numbers.{number_cmp, all_numbers}
use Rattle.pg_group.proofs.Chunks.{number_total}
use Rattle.pg_group.proofs.Ordered.{sorted_put}
use Rattle.pg_group.proofs.numbers.Numbers.insert.Goals as goal

pub invariant_of-self-2 : goal.invariant_of-self-2
invariant_of-self-2 c =
    subst (IsStrictlySortedBy number_cmp) (sym c.in_ok-put.ensures.ok)
    (sorted_put number_total (all_numbers c.self.inside.chunks.items) c.args.number c.self.invariant)
