use Rattle.std.proofs.Common.{◌≡◌, ◌++◌, drop}
use Rattle.pg_node_requests.specs.Layouts.{layout_of}
use Rattle.pg_node_requests.proofs.layout.Layout.of.Given as goal

abbrev pub invariant-loop-start : goal.invariant-loop-start
invariant-loop-start l = l.nodes.items ++ layout_of l.first (drop l.start-index l.starts) ≡ layout_of 0 l.starts
