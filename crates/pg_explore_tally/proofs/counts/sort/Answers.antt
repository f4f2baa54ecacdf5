use Rattle.std.proofs.Common.{◌-◌, ◌^◌, rules}
use Rattle.std.proofs.lemmas.Result.{on_ok_weaker}
use Rattle.std.proofs.lemmas.List.Sorted.{IsNonDecreasingBy-from_sort_by_key}
use Rattle.pg_explore_tally.specs.declared.counts.Counted.{Counted}
use Rattle.pg_explore_tally.proofs.counts.sort.Goals as goal

pub returns-clause-order : goal.returns-clause-order
returns-clause-order c =
    on_ok_weaker c.sort_by_key.result (λ sorted. IsNonDecreasingBy-from_sort_by_key (λ (row : Counted). 2 ^ 64 - 1 - row.count) c.sort_by_key.new.self.items sorted (λ a r f' called. search rules))
    c.sort_by_key.ensures.sorted
