use Rattle.std.proofs.Common.{◌≡◌, ap, subst, ◌∙◌, is_some, sym}
use Rattle.std.specs.List.{list_all}
use Rattle.pg_query.specs.SameGroups.{AgreeOn}
use Rattle.pg_query.proofs.SameGroups.{same_has, agree_same}
use Rattle.pg_query.proofs.same.same_groups.Goals as goal

pub returns-in_ok-groups-in-Ok-true : goal.returns-in_ok-groups-in-Ok-true
returns-in_ok-groups-in-Ok-true g c =
    let one = g.T.GroupTable.contents c.args.one.now in
    let other = g.U.GroupTable.contents c.args.other.now in
    let names = c.in_ok-names.names.items in
    let others = c.in_ok-groups-in-Ok-true.field-0.items in
    let told = c.has_all.ensures ∙ ap (list_all (λ name. is_some (one name))) c.as_slice-in-Ok-true.ensures.value in
    let agree : AgreeOn one other names = subst (AgreeOn one other) c.as_slice.ensures.value (c.in-Ok-true.ensures.0 c.in-Ok-true.field-0-test) in (
      λ has. agree_same one other names others c.in_ok-names.ensures c.in_ok-groups-in-Ok-true.ensures (sym told ∙ has) agree,
      λ e. told ∙ same_has one other names others c.in_ok-names.ensures c.in_ok-groups-in-Ok-true.ensures e,
    )
