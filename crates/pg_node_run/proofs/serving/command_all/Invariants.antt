use Rattle.std.proofs.Common.{◌≡◌}
use Rattle.std.specs.Prelude.{false}
use Rattle.pg_node_run.specs.Follows.{log_of}
use Rattle.pg_node_run.specs.Logs.{IsCommand, LogsOnly}
use Rattle.pg_node_run.specs.Ports.{IsPortServed}
use Rattle.pg_node_run.specs.Served.{HandNone}
use Rattle.pg_node_run.specs.Tries.{WasWanting}
use Rattle.pg_node_run.specs.Turns.{Serves}
use Rattle.pg_node_run.proofs.Served.{HoldsBelow}
use Rattle.pg_node_run.proofs.serving.command_all.Given as goal

abbrev pub invariant-loop-port : goal.invariant-loop-port
invariant-loop-port g l =
    Serves g.L.Link.accepts g.I.Inlet.gives l.fn.linked l.fn.ports.items l.linked l.ports.items
    × HoldsBelow (λ place a b. IsPortServed a b) l.port l.phase.whole l.fn.ports.items l.ports.items
    × LogsOnly IsCommand (log_of l.fn.linked) (log_of l.linked)
    × (l.phase.whole ≡ false → WasWanting g.L.Link.accepts g.I.Inlet.gives l.fn.linked l.linked)
    × HandNone l.fn.ports.items l.ports.items
