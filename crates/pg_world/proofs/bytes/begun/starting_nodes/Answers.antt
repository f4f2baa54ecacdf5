use Rattle.std.proofs.Common.{sym, subst}
use Rattle.pg_world_packets.specs.Openings.{AreReady}
use Rattle.pg_world.proofs.over_bytes.Opened.{made_begin, made_count, made_fit}
use Rattle.pg_world_packets.proofs.Opened.{of_ok, good_fault}
use Rattle.pg_world.proofs.bytes.begun.starting_nodes.Goals as goal

pub opened_nodes-requires : goal.opened_nodes-requires
opened_nodes-requires c = record { ready = subst AreReady (sym c.as_slice.ensures.value) c.in-Ok.ensures.ready }

pub returns-in-Ok-clause-good : goal.returns-in-Ok-clause-good
returns-in-Ok-clause-good c = of_ok c.opened_nodes.result c.in-Ok.ensures.good

pub returns-in-Ok-clause-fault : goal.returns-in-Ok-clause-fault
returns-in-Ok-clause-fault c = good_fault c.args.config.now.ring c.args.config.now.starts.items c.as_slice.result.now c.as_slice.ensures.value c.in-Ok.ensures.none c.opened_nodes.result c.in-Ok.ensures.few c.opened_nodes.ensures.fault

pub returns-in-Ok-clause-count : goal.returns-in-Ok-clause-count
returns-in-Ok-clause-count c = rw c.as_slice.ensures.value at (made_count c.as_slice.result.now c.opened_nodes.result c.opened_nodes.ensures.nodes)

pub returns-in-Ok-clause-begins : goal.returns-in-Ok-clause-begins
returns-in-Ok-clause-begins c =
    let ready = subst AreReady (sym c.as_slice.ensures.value) c.in-Ok.ensures.ready in
    rw c.as_slice.ensures.value at (made_begin c.as_slice.result.now c.opened_nodes.result c.opened_nodes.ensures.nodes c.opened_nodes.ensures.opened ready.apart)

pub returns-in-Ok-clause-fits : goal.returns-in-Ok-clause-fits
returns-in-Ok-clause-fits c = rw c.as_slice.ensures.value at (made_fit c.as_slice.result.now c.opened_nodes.result c.opened_nodes.ensures.opened)

pub returns-in-Ok-clause-few : goal.returns-in-Ok-clause-few
returns-in-Ok-clause-few c = of_ok c.opened_nodes.result c.in-Ok.ensures.few
