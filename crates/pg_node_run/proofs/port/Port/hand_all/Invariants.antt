use Rattle.std.proofs.Common.{◌≡◌, ◌+◌}
use Rattle.std.specs.Prelude.{true}
use Rattle.pg_node_run.specs.Ports.{ForgetsHanded, Hands, handed_count}
use Rattle.pg_node_run.proofs.port.Port.hand_all.Given as goal

abbrev pub invariant-loop : goal.invariant-loop
invariant-loop l =
    Hands l.fn.answers l.initial.self l.self
    × ForgetsHanded l.fn.place l.initial.self l.self l.fn.pauses l.pauses
    × (l.phase.whole ≡ true)
    × (handed_count l.self ≡ handed_count l.initial.self + l.counter)
