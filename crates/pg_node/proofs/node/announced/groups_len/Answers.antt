use Rattle.std.proofs.Common.{◌+◌, ◌∙◌, sym, take}
use Rattle.pg_node.proofs.Announced.Listings.{Named, walked_more, walked_all, walked_none, named_so, named_not, next_names}
use Rattle.pg_node.proofs.node.announced.groups_len.Goals.{in-Some, in-None}
use Rattle.pg_node.proofs.node.announced.groups_len.Goals as goal

pub loop-place-init : goal.loop-place-init
loop-place-init g c = walked_none (g.T.GroupTable.contents c.args.table.now) (g.T.GroupsByPlace.order c.args.table.now) c.group_count-count.result c.list_head_len-len.result c.list_head_len-len.ensures

pub with_members-len-requires : goal.with_members-len-requires
with_members-len-requires g c =
    let named : Named c.name_at-name.result.now c.loop-place.are_names c.match-name_len.are_names c.loop-place.len c.match-name_len.len = (elim c.match-name_len.branch [
      | in-Some w ↦ named_so c.name_at-name.result.now c.loop-place.are_names c.match-name_len.are_names c.loop-place.len c.match-name_len.len w.in-Some.more w.in-Some.ensures.name w.are_names-is w.in-Some.ensures.len (w.len-is ∙ w.added-len.ensures)
      | in-None w ↦ named_not c.name_at-name.result.now c.loop-place.are_names c.match-name_len.are_names c.loop-place.len c.match-name_len.len w.in-None.ensures.none w.are_names-is w.len-is
    ]) in
    named.bound c.loop-place.invariant.bound

pub loop-place-preserved : goal.loop-place-preserved
loop-place-preserved g c =
    let table = g.T.GroupTable.contents c.args.table.now in
    let order = g.T.GroupsByPlace.order c.args.table.now in
    let list = c.with_members-len.ensures in
    let named : Named c.name_at-name.result.now c.loop-place.are_names c.match-name_len.are_names c.loop-place.len c.match-name_len.len = (elim c.match-name_len.branch [
      | in-Some w ↦ named_so c.name_at-name.result.now c.loop-place.are_names c.match-name_len.are_names c.loop-place.len c.match-name_len.len w.in-Some.more w.in-Some.ensures.name w.are_names-is w.in-Some.ensures.len (w.len-is ∙ w.added-len.ensures)
      | in-None w ↦ named_not c.name_at-name.result.now c.loop-place.are_names c.match-name_len.are_names c.loop-place.len c.match-name_len.len w.in-None.ensures.none w.are_names-is w.len-is
    ]) in
    walked_more table (take c.loop-place.place order) (take (c.loop-place.place + 1) order) _ c.loop-place.are_names c.match-name_len.are_names c.loop-place.len c.match-name_len.len c.with_members-len.result
    c.name_at-name.result.now list.0 (next_names order c.loop-place.place c.name_at-name.result.now c.name_at-name.ensures) list.1.0 named list.1.1 c.loop-place.invariant

pub returns-then-are_names : goal.returns-then-are_names
returns-then-are_names g c =
    let all = walked_all (g.T.GroupTable.contents c.args.table.now) (g.T.GroupsByPlace.order c.args.table.now) c.loop-place.place c.group_count-count.result c.loop-place.len c.loop-place.are_names
    c.group_count-count.ensures.names c.group_count-count.ensures.count c.loop-place-test.false c.loop-place.invariant in
    (all.0, (all.1, (sym all.2 ∙ c.if-are_names.true, all.3 c.if-are_names.true)))

pub returns-else-are_names : goal.returns-else-are_names
returns-else-are_names g c =
    let all = walked_all (g.T.GroupTable.contents c.args.table.now) (g.T.GroupsByPlace.order c.args.table.now) c.loop-place.place c.group_count-count.result c.loop-place.len c.loop-place.are_names
    c.group_count-count.ensures.names c.group_count-count.ensures.count c.loop-place-test.false c.loop-place.invariant in
    (all.0, (all.1, sym all.2 ∙ c.if-are_names.false))
