use Rattle.std.proofs.Common.{◌≡◌, length}
use Rattle.pg_node.specs.Links.{links_in}
use Rattle.pg_node.proofs.Linked.{RoomBelow}
use Rattle.pg_node.proofs.node.wires.make_room.Given as goal

abbrev pub invariant-loop-place : goal.invariant-loop-place
invariant-loop-place l = record {
  same : links_in l.wires.items ≡ links_in l.fn.wires.items;
  len : length l.wires.items ≡ length l.fn.wires.items;
  room : RoomBelow l.place l.wires.items;
}
