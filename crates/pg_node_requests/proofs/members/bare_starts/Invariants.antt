use Rattle.std.proofs.Common.{◌≡◌, map, take}
use Rattle.pg_node_requests.specs.Members.{bare}
use Rattle.pg_node_requests.proofs.members.bare_starts.Given as goal

abbrev pub invariant-loop-name : goal.invariant-loop-name
invariant-loop-name l = l.starts.items ≡ map (bare l.ports) (take l.name-index l.names)
