use Rattle.std.proofs.Common.{◌≡◌, ℕ, length}
use Rattle.pg_node_process.specs.Desks.{nothing_came, port_of}
use Rattle.pg_process.specs.Situations.{seen_in}
use Rattle.pg_process.proofs.begin.new_desks.Given as goal

abbrev pub invariant-loop : goal.invariant-loop
invariant-loop l = record {
  count : length l.desks.items ≡ l.counter;
  new : (place : ℕ) → seen_in port_of nothing_came l.desks.items place ≡ nothing_came;
}
