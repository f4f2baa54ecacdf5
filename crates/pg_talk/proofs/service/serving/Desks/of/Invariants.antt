use Rattle.std.proofs.Common.{◌≡◌, false, map, take}
use Rattle.std.specs.List.{All}
use Rattle.pg_talk.specs.Servings.{IsNew, known_lost, names_of, ports_of}
use Rattle.pg_talk.specs.Written.{ports_in}
use Rattle.pg_talk.proofs.service.serving.Desks.of.Given as goal

-- the ports of the first nodes have their desks
abbrev pub invariant-loop-node : goal.invariant-loop-node
invariant-loop-node l =
    (ports_of l.desks.items ≡ ports_in 0 (take l.node l.starts)) × All IsNew l.desks.items
    × (names_of l.nodes.items ≡ map (λ start. start.name) (take l.node l.starts)) × (known_lost l.nodes.items ≡ map (λ start. false) (take l.node l.starts))
