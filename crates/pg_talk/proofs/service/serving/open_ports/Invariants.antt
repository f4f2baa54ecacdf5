use Rattle.std.proofs.Common.{◌≡◌, ◌++◌}
use Rattle.std.specs.List.{All}
use Rattle.pg_talk.specs.Servings.{IsNew, ports_of}
use Rattle.pg_talk.specs.Written.{ports_from}
use Rattle.pg_talk.proofs.service.serving.open_ports.Given as goal

-- the first ports have their desks
abbrev pub invariant-loop-port : goal.invariant-loop-port
invariant-loop-port l =
    (ports_of l.desks.items ≡ ports_of l.fn.desks.items ++ ports_from 1 l.node l.start.name l.port)
    × (All IsNew l.fn.desks.items → All IsNew l.desks.items)
