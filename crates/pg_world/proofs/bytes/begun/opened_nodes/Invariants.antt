use Rattle.std.proofs.Common.{◌≡◌, ◌<◌, ◌-◌, ℕ, length, map, get_or}
use Rattle.pg_node.specs.Nodes.{links_of}
use Rattle.pg_world.specs.BytesStart.{OpensLinks}
use Rattle.pg_world.specs.Crossings.{node_of, no_links}
use Rattle.pg_world_packets.specs.PgWorldConfig.Firsts.{seen_first, firsts}
use Rattle.pg_world.proofs.bytes.begun.opened_nodes.Given as goal

abbrev pub invariant-loop-place : goal.invariant-loop-place
invariant-loop-place l = record {
  nodes : map node_of l.nodes.items ≡ firsts l.starts l.place;
  opened : (i : ℕ) → i < l.place → OpensLinks (length l.starts - 1) (seen_first l.starts i) (get_or (map links_of l.nodes.items) i no_links);
}
