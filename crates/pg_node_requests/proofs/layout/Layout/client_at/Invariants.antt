use Rattle.std.proofs.Common.{◌≡◌, drop}
use Rattle.pg_node_requests.specs.Layouts.{client_at}
use Rattle.pg_node_requests.proofs.layout.Layout.client_at.Given as goal

abbrev pub invariant-loop-place : goal.invariant-loop-place
invariant-loop-place l = client_at (drop l.place l.self.nodes.items) l.name l.port ≡ client_at l.self.nodes.items l.name l.port
