use Rattle.std.proofs.Common.{◌≡◌, ◌∷◌, ◌++◌, [], None, sym, ap, subst, ◌∙◌}
use Rattle.std.specs.Prelude.{IsSome}
use Rattle.std.specs.Vec.Iter.{into_iter_items}
use Rattle.pg_group.specs.Table.{Table, AreAbsent}
use Rattle.pg_exchange.specs.GroupList.{GroupList, all_merged}
use Rattle.pg_exchange.specs.Undone.{ArePresent}
use Rattle.pg_exchange.proofs.Parts.{one_more, merged_last, merged_first, absent_by}
use Rattle.pg_exchange.proofs.merging.part.Goals as goal

pub loop-group-preserved-in-Continue-1 : goal.loop-group-preserved-in-Continue-1
loop-group-preserved-in-Continue-1 g c =
    let table = g.T.GroupTable.contents c.args.table.now in
    let present = c.loop-group.present.items in
    let absent = c.loop-group.absent.items in
    let group = c.in-Some.group in
    let rest = into_iter_items c.next.new.self in
    let pushed : c.push.new.self.items ≡ present ++ group ∷ [] = c.in_ok-push.ensures.items in
    let there : IsSome (table group.0) = c.has.ensures.0 c.if-has.true in
    record {
      present = subst (ArePresent table) (sym pushed) (one_more (λ other. IsSome (table other.0)) present group c.loop-group.invariant.present there);
      absent = c.loop-group.invariant.absent;
      all = λ before ended.
          ap (λ (groups : GroupList). all_merged (all_merged (all_merged before groups ended) absent ended) rest ended) pushed
          ∙ ap (λ (t : Table). all_merged (all_merged t absent ended) rest ended) (merged_last ended before present group)
          ∙ ap (λ (t : Table). all_merged t rest ended) (merged_first ended table group there absent c.loop-group.invariant.absent (all_merged before present ended))
          ∙ ap (λ (groups : GroupList). all_merged (all_merged (all_merged before present ended) absent ended) groups ended) (sym c.in-Some.ensures.steps.0)
          ∙ c.loop-group.invariant.all before ended;
    }

pub loop-group-preserved : goal.loop-group-preserved
loop-group-preserved g c =
    let table = g.T.GroupTable.contents c.args.table.now in
    let present = c.loop-group.present.items in
    let absent = c.loop-group.absent.items in
    let group = c.in-Some.group in
    let rest = into_iter_items c.next.new.self in
    let pushed : c.push-else-has.new.self.items ≡ absent ++ group ∷ [] = c.in_ok-push-2.ensures.items in
    let none : table group.0 ≡ None = absent_by (table group.0) c.has.result c.has.ensures.1 c.if-has.false in
    record {
      present = c.loop-group.invariant.present;
      absent = subst (AreAbsent table) (sym pushed) (one_more (λ other. table other.0 ≡ None) absent group c.loop-group.invariant.absent none);
      all = λ before ended.
          ap (λ (groups : GroupList). all_merged (all_merged (all_merged before present ended) groups ended) rest ended) pushed
          ∙ ap (λ (t : Table). all_merged t rest ended) (merged_last ended (all_merged before present ended) absent group)
          ∙ ap (λ (groups : GroupList). all_merged (all_merged (all_merged before present ended) absent ended) groups ended) (sym c.in-Some.ensures.steps.0)
          ∙ c.loop-group.invariant.all before ended;
    }
