use Rattle.std.proofs.Common.{◌≡◌, length, take, map}
use Rattle.std.specs.Prelude.{vec_capacity}
use Rattle.pg_node_run.specs.Follows.{node_of}
use Rattle.pg_node_run.specs.Tries.{is_ready_at}
use Rattle.pg_node_run.proofs.retries.ready_among.Given as goal

-- whether those so far are ready
abbrev pub invariant-loop-place : goal.invariant-loop-place
invariant-loop-place g l =
    (l.ready.items ≡ map (is_ready_at (node_of l.fn.linked)) (take l.place l.fn.ops)) × (length l.ready.items ≡ l.place) × (vec_capacity l.ready ≡ length l.fn.ops)
