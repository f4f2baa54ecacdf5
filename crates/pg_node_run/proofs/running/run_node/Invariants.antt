use Rattle.std.proofs.Common.{◌≡◌, ◌≤◌, ◌+◌, List, [], length}
use Rattle.pg_node_run.specs.declared.run.Turned.{Turned}
use Rattle.pg_node_run.specs.Runs.{Runs, TurnsMade, shorts, stop_of, wholes}
use Rattle.pg_node_run.proofs.running.run_node.Given as goal

abbrev pub invariant-loop-turn : goal.invariant-loop-turn
invariant-loop-turn g l =
    Runs g.L.Link.accepts g.I.Inlet.gives l.fn.run l.run
    × (l.turns ≡ l.turn)
    × (l.short ≤ l.turns)
    × g.I.Inlet.gives (stop_of l.fn.run) [] (stop_of l.run)
    × ((turned : List Turned)
    × TurnsMade g.L.Link.accepts g.I.Inlet.gives g.L.Link.moves g.I.Inlet.moves turned l.fn.run l.run
    × (shorts turned ≡ l.short)
    × (wholes turned + l.short ≡ l.turns)
    × (length turned ≡ l.turns))
