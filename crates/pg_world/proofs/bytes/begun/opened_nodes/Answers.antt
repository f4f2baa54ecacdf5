use Rattle.std.proofs.Common.{◌≡◌, ◌-◌, [], ◌∷◌, ◌∙◌, ℕ, List, length, map, get_or, ap, sym, subst, arith}
use Rattle.std.proofs.lemmas.List.{length-map, map-append}
use Rattle.pg_node.specs.Links.{Link}
use Rattle.pg_node.specs.Nodes.{links_of}
use Rattle.pg_world.specs.BytesStart.{OpensLinks}
use Rattle.pg_world.specs.Crossings.{node_of, no_links}
use Rattle.pg_world_packets.specs.PgWorldConfig.Firsts.{seen_first}
use Rattle.pg_world.proofs.over_bytes.Opened.{node_more, each_more, cant_start_at}
use Rattle.pg_world_packets.proofs.PgWorldConfig.Starting.{firsts_length}
use Rattle.pg_world.proofs.bytes.begun.opened_nodes.Goals as goal

pub loop-place-preserved : goal.loop-place-preserved
loop-place-preserved c =
    let starts = c.args.starts.now in
    let nodes = c.loop-place.nodes.items in
    let node = c.in-Ok.node in
    let k = c.loop-place.place in
    let len : length (map links_of nodes) ≡ k = length-map nodes links_of ∙ (sym (length-map nodes node_of) ∙ (ap length c.loop-place.invariant.nodes ∙ firsts_length starts k)) in
    record {
      nodes = ap (map node_of) c.in_ok-push-in-Ok.ensures.items ∙ node_more starts nodes node k c.loop-place.invariant.nodes c.in-Ok.ensures.node;
      opened = λ i l. subst (λ (ls : List (ℕ → Link)). OpensLinks (length starts - 1) (seen_first starts i) (get_or ls i no_links)) (sym (ap (map links_of) c.in_ok-push-in-Ok.ensures.items ∙ map-append links_of nodes (node ∷ [])))
          (each_more (λ j links. OpensLinks (length starts - 1) (seen_first starts j) links) (map links_of nodes) (links_of node) no_links k len c.loop-place.invariant.opened c.in-Ok.ensures.opened i l);
    }

pub returns-in-Err-clause-fault : goal.returns-in-Err-clause-fault
returns-in-Err-clause-fault c = cant_start_at c.args.starts.now c.loop-place.place c.in-Err.fault (omega (arith, c.loop-place-test.true, c.loop-place.auto.place-end)) c.in-Err.ensures.fault
