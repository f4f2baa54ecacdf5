use Rattle.std.proofs.Common.{◌≡◌, drop}
use Rattle.pg_node_requests.specs.Members.{place_among}
use Rattle.pg_node_requests.proofs.Placing.{later_by}
use Rattle.pg_node_requests.proofs.members.place_among.Given as goal

abbrev pub invariant-loop-place : goal.invariant-loop-place
invariant-loop-place l = later_by l.place (place_among l.name (drop l.place l.starts)) ≡ place_among l.name l.starts
