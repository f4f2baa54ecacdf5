use Rattle.std.proofs.Common.{◌≡◌, ◌<◌, ℕ}
use Rattle.std.specs.Prelude.{true, false}
use Rattle.pg_node_run.specs.Follows.{log_of}
use Rattle.pg_node_run.specs.Logs.{IsTake, LogsOnly}
use Rattle.pg_node_run.specs.Tries.{HasPulled, HasTried, WasWanting}
use Rattle.pg_node_run.specs.Turns.{GoesOn}
use Rattle.pg_node_run.proofs.linked.LinkedNode.take_all.Given as goal

abbrev pub invariant-loop-peer : goal.invariant-loop-peer
invariant-loop-peer g l =
    GoesOn g.L.Link.accepts g.I.Inlet.gives l.initial.self l.self
    × (l.phase.whole ≡ true → (peer : ℕ) → peer < l.peer → HasTried g.L.Link.accepts g.I.Inlet.gives peer l.initial.self l.self)
    × LogsOnly IsTake (log_of l.initial.self) (log_of l.self)
    × (l.phase.whole ≡ true → (peer : ℕ) → peer < l.peer → HasPulled g.L.Link.accepts g.I.Inlet.gives g.I.Inlet.moves peer l.initial.self l.self)
    × (l.phase.whole ≡ false → WasWanting g.L.Link.accepts g.I.Inlet.gives l.initial.self l.self)
