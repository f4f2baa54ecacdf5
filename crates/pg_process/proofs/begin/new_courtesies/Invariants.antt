use Rattle.std.proofs.Common.{◌≡◌, ℕ, length}
use Rattle.pg_node_process.specs.Retries.{at_first}
use Rattle.pg_process.specs.Situations.{seen_in}
use Rattle.pg_process.proofs.begin.new_courtesies.Given as goal

abbrev pub invariant-loop : goal.invariant-loop
invariant-loop l = record {
  count : length l.courtesies.items ≡ l.counter;
  new : (place : ℕ) → seen_in (λ c. c) at_first l.courtesies.items place ≡ at_first;
}
