use Rattle.std.proofs.Common.{◌≡◌, drop, map}
use Rattle.std.specs.List.{list_all}
use Rattle.pg_world_config.specs.Seen.{seen_of}
use Rattle.pg_world_packets.specs.Losing.{is_formed}
use Rattle.pg_world_packets.proofs.world.FrameNodes.are_formed.Given as goal

-- what is left of the nodes says what all of them say
abbrev pub invariant-loop-node : goal.invariant-loop-node
invariant-loop-node g l = list_all is_formed (map seen_of (drop l.node-index l.self.nodes.items)) ≡ list_all is_formed (map seen_of l.self.nodes.items)
