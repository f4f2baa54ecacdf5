use Rattle.std.proofs.Common.{◌≡◌}
use Rattle.std.specs.Prelude.{false}
use Rattle.pg_node.specs.Nodes.{held_by}
use Rattle.pg_node.specs.PgNodeState.States.{answers_of}
use Rattle.pg_node_run.specs.Ports.{HandsAll}
use Rattle.pg_node_run.specs.Served.{AllForgetHanded, KeepTheSame}
use Rattle.pg_node_run.specs.Turns.{Serves}
use Rattle.pg_node_run.proofs.Served.{HoldsBelow, LeavesBelow}
use Rattle.pg_node_run.proofs.serving.hand_all.Given as goal

abbrev pub invariant-loop-port : goal.invariant-loop-port
invariant-loop-port g l =
    Serves g.L.Link.accepts g.I.Inlet.gives l.fn.linked l.fn.ports.items l.fn.linked l.ports.items
    × KeepTheSame l.fn.ports.items l.ports.items
    × AllForgetHanded l.fn.ports.items l.ports.items l.fn.pauses l.pauses
    × HoldsBelow (λ place a b. HandsAll (answers_of (held_by l.fn.linked.node) place) a b) l.port l.phase.whole l.fn.ports.items l.ports.items
    × (l.phase.whole ≡ false → LeavesBelow (answers_of (held_by l.fn.linked.node)) l.port l.ports.items)
