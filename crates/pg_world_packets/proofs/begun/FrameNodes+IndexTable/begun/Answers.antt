use Rattle.std.proofs.Common.{ap, sym, subst}
use Rattle.pg_world_packets.specs.Starts.{Begins}
use Rattle.pg_world_packets.specs.Views.{View}
use Rattle.pg_world_packets.proofs.Opened.{all_name_slice, slice_fits, cant_start_slice}
use Rattle.pg_world_packets.proofs.Starting.{all_few_slice, world_whole, world_begins}
use Rattle.pg_world_packets.proofs.begun.FrameNodes+IndexTable.begun.Goals as goal

pub nodes_of-requires-clause-apart : goal.nodes_of-requires-clause-apart
nodes_of-requires-clause-apart c = c.requires.ready.apart

pub nodes_of-requires-clause-nodes : goal.nodes_of-requires-clause-nodes
nodes_of-requires-clause-nodes c = c.requires.ready.nodes

pub nodes_of-requires-clause-made : goal.nodes_of-requires-clause-made
nodes_of-requires-clause-made c = c.requires.ready.made

pub nodes_of-requires-clause-few : goal.nodes_of-requires-clause-few
nodes_of-requires-clause-few c = c.requires.ready.few

pub openings-requires-clause-few : goal.openings-requires-clause-few
openings-requires-clause-few c = all_few_slice c.args.starts.now c.in_ok-nodes.nodes.items c.as_slice.result.now c.as_slice.ensures.value c.in_ok-nodes.ensures c.requires.ready.once c.requires.ready.few

pub openings-requires-clause-named : goal.openings-requires-clause-named
openings-requires-clause-named c = all_name_slice c.args.starts.now c.in_ok-nodes.nodes.items c.as_slice.result.now c.as_slice.ensures.value c.in_ok-nodes.ensures c.requires.ready.named

pub of_parts-requires : goal.of_parts-requires
of_parts-requires c = world_whole c.args.starts.now c.in_ok-nodes.nodes.items c.as_slice.result.now c.in-Ok.outgoing.items c.as_slice.ensures.value c.in_ok-nodes.ensures c.in-Ok.ensures.open

pub returns-in-Ok-clause-begins : goal.returns-in-Ok-clause-begins
returns-in-Ok-clause-begins c = subst (Begins c.args.starts.now) (sym c.of_parts.ensures.view)
    (world_begins c.args.starts.now c.in_ok-nodes.nodes.items c.as_slice.result.now c.in-Ok.outgoing.items c.as_slice.ensures.value c.in_ok-nodes.ensures c.in-Ok.ensures.open c.requires.ready.apart)

pub returns-in-Ok-clause-formed : goal.returns-in-Ok-clause-formed
returns-in-Ok-clause-formed c = ap (λ (view : View). view.account.formed) c.of_parts.ensures.view

pub returns-in-Ok-clause-fits : goal.returns-in-Ok-clause-fits
returns-in-Ok-clause-fits c = slice_fits c.args.starts.now c.in_ok-nodes.nodes.items c.as_slice.result.now _ c.as_slice.ensures.value c.in_ok-nodes.ensures c.in-Ok.ensures.open

pub returns-in-Err-clause-fault : goal.returns-in-Err-clause-fault
returns-in-Err-clause-fault c = cant_start_slice c.args.starts.now c.in_ok-nodes.nodes.items c.as_slice.result.now c.in-Err.fault c.as_slice.ensures.value c.in_ok-nodes.ensures c.in-Err.ensures.fault
