use Rattle.std.proofs.Common.{◌<◌, ℕ, get_or}
use Rattle.pg_ring.specs.declared.slot_in.SlotIn.{SlotIn}
use Rattle.pg_ring.specs.declared.slot_out.SlotOut.{SlotOut}
use Rattle.pg_cluster_judges.specs.PgNodeRun.declared.notices.Notice.{Notice}
use Rattle.pg_cluster.specs.Notices.{Told}
use Rattle.pg_cluster.proofs.Telling.{TellersRest, InletsRest}
use Rattle.pg_cluster.proofs.notices.settle_notices.Given as goal

abbrev pub invariant-loop-place : goal.invariant-loop-place
invariant-loop-place l =
    TellersRest l.fn.tellers.items l.tellers.items
    × InletsRest l.fn.inlets.items l.inlets.items
    × ((i : ℕ) (t : SlotOut Notice) (n : SlotIn Notice) → i < l.place → Told (get_or l.fn.tellers.items i t) (get_or l.fn.inlets.items i n))
