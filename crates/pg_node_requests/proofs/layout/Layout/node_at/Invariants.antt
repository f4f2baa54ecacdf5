use Rattle.std.proofs.Common.{◌≡◌, drop}
use Rattle.pg_node_requests.specs.Layouts.{place_of}
use Rattle.pg_node_requests.proofs.Placing.{later_by}
use Rattle.pg_node_requests.proofs.layout.Layout.node_at.Given as goal

abbrev pub invariant-loop-place : goal.invariant-loop-place
invariant-loop-place l = later_by l.place (place_of l.name (drop l.place l.self.nodes.items)) ≡ place_of l.name l.self.nodes.items
