use Rattle.std.proofs.Common.{◌≡◌, ◌<◌, ℕ, length}
use Rattle.pg_node.specs.Begun.{IsOpened}
use Rattle.pg_node.specs.Links.{links_in}
use Rattle.pg_node.proofs.node.begun.wires_with.Given as goal

abbrev pub invariant-loop-place : goal.invariant-loop-place
invariant-loop-place l = record {
  count : length l.wires.items ≡ l.place;
  each : (k : ℕ) → k < l.place → IsOpened l.packet (links_in l.wires.items k);
}
