use Rattle.std.proofs.Common.{◌≡◌}
use Rattle.std.specs.Prelude.{false}
use Rattle.pg_node_run.specs.Follows.{node_of}
use Rattle.pg_node_run.specs.Tries.{WasWanting, is_ready_at}
use Rattle.pg_node_run.proofs.Retrying.{RetriedBelow}
use Rattle.pg_node_run.proofs.retries.retry_each.Given as goal

abbrev pub invariant-loop-place : goal.invariant-loop-place
invariant-loop-place g l =
    RetriedBelow g.L.Link.accepts g.I.Inlet.gives l.fn.ops l.place (is_ready_at (node_of l.fn.linked)) l.phase.whole l.fn.pauses l.pauses l.fn.linked l.linked
    × (l.phase.whole ≡ false → WasWanting g.L.Link.accepts g.I.Inlet.gives l.fn.linked l.linked)
