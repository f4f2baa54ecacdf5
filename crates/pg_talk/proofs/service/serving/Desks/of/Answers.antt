use Rattle.std.proofs.Common.{ap, false, ◌∷◌, [], refl, sym, ◌∙◌}
use Rattle.std.proofs.lemmas.List.{map-append}
use Rattle.pg_cluster.specs.PgStep.declared.start.Start.{Start}
use Rattle.pg_talk.specs.declared.service.serving.ServedNode.{ServedNode}
use Rattle.pg_talk.specs.Servings.{known_lost, names_of, ports_of}
use Rattle.pg_talk.proofs.Opening.{more_nodes, more_of}
use Rattle.pg_talk.proofs.service.serving.Desks.of.Goals as goal

pub loop-node-preserved : goal.loop-node-preserved
loop-node-preserved c =
    let k = c.loop-node.node in
    let starts = c.args.starts.now in
    let nodes = c.loop-node.nodes.items in
    let start = c.index-starts-node.result in
    let start2 = c.index-starts-node-in-loop-node.result in
    let served : ServedNode = record { name = c.in_ok-name.name; is_lost = false } in
    let was = c.loop-node.invariant in (
      more_nodes starts k start2 (ports_of c.loop-node.desks.items) (ports_of c.open_ports.new.desks.items) c.loop-node-test.true c.index-starts-node-in-loop-node.is c.in_ok-open_ports.ensures.ports was.0,
      c.in_ok-open_ports.ensures.new was.1,
      ap names_of c.in_ok-push.ensures.items ∙ map-append (λ (node : ServedNode). node.name) nodes (served ∷ [])
          ∙ more_of (λ (start : Start). start.name) starts k start (names_of nodes) c.in_ok-name.name c.loop-node-test.true c.index-starts-node.is (c.in_ok-name.ensures ∙ ap (λ (one : Start). one.name) (sym c.index-starts-node.is)) was.2,
      ap known_lost c.in_ok-push.ensures.items ∙ map-append (λ (node : ServedNode). node.is_lost) nodes (served ∷ [])
          ∙ more_of (λ (start : Start). false) starts k start (known_lost nodes) false c.loop-node-test.true c.index-starts-node.is refl was.3,
    )
