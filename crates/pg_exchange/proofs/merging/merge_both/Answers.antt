use Rattle.std.proofs.Common.{sym, subst}
use Rattle.pg_group.specs.Ended.{ended_of}
use Rattle.pg_group.specs.Table.{Table, AreAbsent}
use Rattle.pg_exchange.proofs.Parts.{all_still_absent}
use Rattle.pg_exchange.proofs.merging.merge_both.Goals as goal

pub merge_absent-requires : goal.merge_absent-requires
merge_absent-requires g c =
    subst (λ (t : Table). AreAbsent t c.args.absent.items) (sym c.in-Ok.ensures.ok)
    (all_still_absent (ended_of c.args.ended.now) (g.T.GroupTable.contents c.args.table.now) c.args.present.now c.requires.present c.args.absent.items c.requires.absent)
