use Rattle.std.proofs.Common.{map}
use Rattle.std.specs.Vec.Iter.{into_iter_items}
use Rattle.pg_world_packets.specs.Views.{packets_of}
use Rattle.pg_world_packets.proofs.Sending.{Sending}
use Rattle.pg_world_packets.proofs.ways.Ways.send_all.Given as goal

abbrev pub invariant-loop-sent : goal.invariant-loop-sent
invariant-loop-sent l = record {
  can : (goal.iterator-loop-sent).can_next l.sent-iterator;
  finite : (goal.iterator-loop-sent).is_finite l.sent-iterator;
  left : Sending (map packets_of l.fn.self.ways.items) l.fn.done.sends.items l.self.ways.items (into_iter_items l.sent-iterator);
}
