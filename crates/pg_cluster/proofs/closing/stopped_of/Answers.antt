use Rattle.std.proofs.Common.{◌≡◌, length, ap, sym, ◌∙◌, subst}
use Rattle.std.proofs.lemmas.List.{length-map}
use Rattle.pg_ring.specs.Slots.{AreSlots}
use Rattle.pg_cluster_judges.specs.PgNodeRun.Ports.{ArePort, Meets}
use Rattle.pg_cluster.specs.Clients.{AllPairs}
use Rattle.pg_cluster.specs.Ended.{AreJoined, AllArrived}
use Rattle.pg_cluster.specs.Notices.{Told}
use Rattle.pg_cluster.specs.Threads.{row_in, rows_ended}
use Rattle.pg_cluster.proofs.closing.stopped_of.Goals as goal

pub settle_all-requires : goal.settle_all-requires
settle_all-requires g c =
    let rows = c.parts_of-nodes.result.rows.items in
    let rans = c.args.rans.items in
    let are = c.parts_of-nodes.ensures.rows in
    let whole : length rows ≡ length rans = sym (length-map rows (λ v. v.items)) ∙ (ap length are ∙ length-map rans (λ ran. row_in ran.run)) in
    record { joined = subst (AreJoined (length rows)) (sym are) (subst (λ n. AreJoined n (rows_ended rans)) (sym whole) c.requires.joined) }

pub settle_ports-requires : goal.settle_ports-requires
settle_ports-requires g c = subst (AllPairs ArePort c.args.clients.items) (sym c.parts_of-nodes.ensures.ports) c.requires.ports

pub settle_notices-requires : goal.settle_notices-requires
settle_notices-requires g c = subst (AllPairs AreSlots c.args.tellers.items) (sym c.parts_of-nodes.ensures.notices) c.requires.notices

pub returns-clause-arrived : goal.returns-clause-arrived
returns-clause-arrived g c =
    let rows = c.parts_of-nodes.result.rows.items in
    let rans = c.args.rans.items in
    let are = c.parts_of-nodes.ensures.rows in
    let whole : length rows ≡ length rans = sym (length-map rows (λ v. v.items)) ∙ (ap length are ∙ length-map rans (λ ran. row_in ran.run)) in
    subst (λ n. AllArrived n (rows_ended rans)) whole (subst (AllArrived (length rows)) are c.settle_all.ensures.arrived)

pub returns-clause-meets : goal.returns-clause-meets
returns-clause-meets g c = subst (AllPairs Meets c.args.clients.items) c.parts_of-nodes.ensures.ports c.settle_ports.ensures.meets

pub returns-clause-told : goal.returns-clause-told
returns-clause-told g c = subst (AllPairs Told c.args.tellers.items) c.parts_of-nodes.ensures.notices c.settle_notices.ensures
