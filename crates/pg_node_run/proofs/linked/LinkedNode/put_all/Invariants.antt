use Rattle.std.proofs.Common.{◌≡◌, ◌<◌, ℕ, []}
use Rattle.std.specs.Prelude.{true}
use Rattle.pg_node_run.specs.Follows.{Follows, log_of}
use Rattle.pg_node_run.specs.Tries.{HasPut}
use Rattle.pg_node_run.proofs.linked.LinkedNode.put_all.Given as goal

abbrev pub invariant-loop-peer : goal.invariant-loop-peer
invariant-loop-peer g l =
    Follows g.L.Link.accepts g.I.Inlet.gives [] l.initial.self l.self
    × (log_of l.self ≡ log_of l.initial.self)
    × ((peer : ℕ) → peer < l.peer → HasPut g.L.Link.accepts g.I.Inlet.gives g.L.Link.moves peer l.initial.self l.self)
    × (l.phase.whole ≡ true)
