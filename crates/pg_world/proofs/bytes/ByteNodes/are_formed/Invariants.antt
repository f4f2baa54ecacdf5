use Rattle.std.proofs.Common.{◌≡◌, drop, map}
use Rattle.std.specs.List.{list_all}
use Rattle.pg_world_packets.specs.Losing.{is_formed}
use Rattle.pg_world.specs.Crossings.{node_of}
use Rattle.pg_world.proofs.bytes.ByteNodes.are_formed.Given as goal

-- what is left of the nodes says what all of them say
abbrev pub invariant-loop-over : goal.invariant-loop-over
invariant-loop-over g l = list_all is_formed (map node_of (drop l.over-index l.self.nodes.items)) ≡ list_all is_formed (map node_of l.self.nodes.items)
