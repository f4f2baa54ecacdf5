use Rattle.std.proofs.Common.{length, subst, sym, ◌+◌}
use Rattle.std.proofs.lemmas.List.{length_push}
use Rattle.pg_cluster.proofs.Popping.{AreLeft, ArrivedFrom, are_last, left_less, arrived_less}
use Rattle.pg_cluster.proofs.pairs.settle_all.Goals as goal

pub settle_last-requires : goal.settle_last-requires
settle_last-requires c =
    let left = subst (AreLeft c.args.rows.items) c.in-Some.ensures.items c.loop-row.invariant.0 in
    record { last = are_last c.args.rows.items c.pop.new.self.items c.in-Some.row c.requires.joined left }

pub loop-row-preserved : goal.loop-row-preserved
loop-row-preserved c =
    let rows = c.args.rows.items in
    let others = c.pop.new.self.items in
    let row = c.in-Some.row in
    let left = subst (AreLeft rows) c.in-Some.ensures.items c.loop-row.invariant.0 in
    let later = subst (λ rs. ArrivedFrom rows (length rs)) c.in-Some.ensures.items c.loop-row.invariant.1 in
    let from : ArrivedFrom rows (length others + 1) = subst (ArrivedFrom rows) (length_push others row) later in
    let same = c.settle_last.ensures.rows in (
      left_less rows others row c.requires.joined left _ same,
      subst (ArrivedFrom rows) (sym same.0) (arrived_less rows others row c.requires.joined left c.settle_last.ensures.arrived from),
    )
