use Rattle.std.proofs.Common.{sym, ◌∙◌}
use Rattle.pg_group.specs.Scope.{anywhere}
use Rattle.pg_query.proofs.SameGroups.{has_is, one_answer, group_forth, group_back}
use Rattle.pg_query.proofs.same.same_group.Goals as goal

pub returns : goal.returns
returns g c =
    let v = g.T.GroupTable.contents c.args.one.now c.args.name.now in
    let w = g.U.GroupTable.contents c.args.other.now c.args.name.now in
    let pids = c.in_ok-pids.pids.items in
    let others = c.in_ok-others.others.items in (
      λ e. group_forth v w pids others c.eq.result c.eq.ensures c.in_ok-pids.ensures c.in_ok-others.ensures
          (sym (has_is c.has.result v c.has.ensures) ∙ one_answer c.has.result c.has-2.result c.if-has.false ∙ has_is c.has-2.result w c.has-2.ensures) e,
      λ e. group_back v w pids others c.eq.result c.eq.ensures c.in_ok-pids.ensures c.in_ok-others.ensures (c.one_member_list.ensures v anywhere) e,
    )
