use Rattle.std.proofs.Common.{◌∙◌, List, map, ap}
use Rattle.pg_world_packets.specs.declared.ways.Ways.{Ways}
use Rattle.pg_world_packets.specs.Views.{ways_of, traffic_in}
use Rattle.pg_world_packets.proofs.Copied.{copies_seen, whole_too}
use Rattle.pg_world_packets.proofs.world.FrameNodes.copy.Goals as goal

pub invariant_of-result : goal.invariant_of-result
invariant_of-result g c =
    let world = c.args.self.now in
    let nodes = copies_seen world.nodes.items c.in_ok-nodes.nodes.items c.in_ok-nodes.ensures.cases.0 in
    let ways = c.in_ok-outgoing.ensures ∙ ap (λ (outgoing : List Ways). map ways_of outgoing) c.deref.ensures.value in
    record { whole = whole_too (traffic_in world.nodes.items world.outgoing.items) (traffic_in c.in_ok-nodes.nodes.items c.in_ok-outgoing.outgoing.items) (λ i. record { nodes = nodes i; ways = ways i }) world.whole }

pub returns-clause-view : goal.returns-clause-view
returns-clause-view g c =
    let world = c.args.self.now in
    let nodes = copies_seen world.nodes.items c.in_ok-nodes.nodes.items c.in_ok-nodes.ensures.cases.0 in
    let ways = c.in_ok-outgoing.ensures ∙ ap (λ (outgoing : List Ways). map ways_of outgoing) c.deref.ensures.value in
    λ i. record {
      traffic = record { nodes = nodes i; ways = ways i };
      account = c.in_ok-histories.ensures i;
    }
