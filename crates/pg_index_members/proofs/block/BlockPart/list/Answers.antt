use Rattle.std.proofs.Common.{◌≡◌, ◌+◌, ◌++◌, Vec, Global, drop, sym, ap, subst, ◌∙◌}
use Rattle.pg_term.specs.declared.pid.Pid.{Pid}
use Rattle.pg_group.specs.Scope.{in_scope}
use Rattle.pg_index_members.specs.Rows.{spread}
use Rattle.pg_index_members.proofs.Places.{listed_more, listed_same}
use Rattle.pg_index_members.proofs.block.BlockPart.list.Goals as goal
use Rattle.pg_index_members.proofs.block.BlockPart.list.Goals.{then-has+in_ok-append_member, else-has}

pub loop-row-preserved : goal.loop-row-preserved
loop-row-preserved c =
    let among = in_scope c.args.scope in
    let rows = c.args.self.now in
    let all = c.args.pids.now.items ++ spread among rows in
    elim c.if-has.branch [
      | then-has+in_ok-append_member w ↦ listed_more among rows c.deref-row-items.result.now (c.deref-row-items.ensures.value ∙ c.self.view_is) c.loop-row.row-index c.row-item.result c.loop-row-test.true c.row-item.is (sym c.has.ensures ∙ w.if-has.true) c.loop-row.pids.items c.if-has.pids.items all (ap (λ (v : Vec Pid Global). v.items) w.pids-is ∙ w.in_ok-append_member.ensures) c.loop-row.invariant
      | else-has w ↦ subst (λ (v : Vec Pid Global). v.items ++ spread among (drop (c.loop-row.row-index + 1) rows) ≡ all) (sym w.pids-is)
          (listed_same among rows c.deref-row-items.result.now (c.deref-row-items.ensures.value ∙ c.self.view_is) c.loop-row.row-index c.row-item.result c.loop-row-test.true c.row-item.is (sym c.has.ensures ∙ w.if-has.false) c.loop-row.pids.items all c.loop-row.invariant)
    ]
