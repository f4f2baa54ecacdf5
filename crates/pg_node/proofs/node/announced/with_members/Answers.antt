use Rattle.std.proofs.Common.{◌+◌, ◌∙◌, sym, ap, arith, min}
use Rattle.std.specs.Option.{option_copied}
use Rattle.pg_node_state.specs.PgGroup.Scope.{anywhere}
use Rattle.pg_node_state.proofs.PgGroup.Lists.{member_list_one}
use Rattle.pg_node.specs.Announced.{too_long}
use Rattle.pg_node.proofs.Announced.Lengths.{pid_some, counted_more, counted_past, members_len}
use Rattle.pg_node.proofs.node.announced.with_members.Goals as goal

pub loop-pid-init : goal.loop-pid-init
loop-pid-init g c = record { each = λ pids is. (omega arith, omega (arith, c.requires)); few = omega arith; bound = c.requires }

pub returns-then-len-eq-TOO_LONG : goal.returns-then-len-eq-TOO_LONG
returns-then-len-eq-TOO_LONG g c =
    let list = c.pid_at.ensures in
    let at = ap option_copied (sym c.in-Some.is) ∙ list.1.1 in
    let len = c.added-len.ensures ∙ ap (λ n. min (c.loop-pid.len + n) too_long) c.pid_len.ensures.value in
    (list.0, (list.1.0, counted_past c.args.before c.loop-pid.len c.added-len.result c.loop-pid.place c.in-Some.pid.now list.0 at len c.if-len-eq-TOO_LONG.true (c.loop-pid.invariant.each list.0 list.1.0).1))

pub overflow_add-place : goal.overflow_add-place
overflow_add-place g c = omega (arith, c.loop-pid.invariant.few, c.loop-pid.invariant.bound)

pub loop-pid-smaller : goal.loop-pid-smaller
loop-pid-smaller g c = omega (arith, c.added-len.ensures, c.if-len-eq-TOO_LONG.false, c.pid_len.ensures.value, pid_some c.in-Some.pid.now)

pub loop-pid-preserved : goal.loop-pid-preserved
loop-pid-preserved g c =
    let v = g.T.GroupTable.contents c.args.table.now c.args.name.now in
    let list = c.pid_at.ensures in
    let at = ap option_copied (sym c.in-Some.is) ∙ list.1.1 in
    let len = c.added-len.ensures ∙ ap (λ n. min (c.loop-pid.len + n) too_long) c.pid_len.ensures.value in
    counted_more v c.args.before c.loop-pid.len c.added-len.result c.loop-pid.place c.in-Some.pid.now list.0 (λ others is. member_list_one v anywhere others list.0 is list.1.0) at len
    c.loop-pid.invariant (omega (arith, c.added-len.ensures, c.if-len-eq-TOO_LONG.false))

pub returns : goal.returns
returns g c =
    let list = c.pid_at.ensures in
    let counted = c.loop-pid.invariant.each list.0 list.1.0 in
    let none = ap option_copied (sym c.in_default.is) ∙ list.1.1 in (
      list.0,
      (
        list.1.0,
        c.added.ensures ∙ ap (λ n. min (c.loop-pid.len + (n + 1)) too_long) c.list_head_len.ensures
            ∙ members_len c.args.before c.loop-pid.len c.loop-pid.place list.0 counted.0 counted.1 none,
      ),
    )
