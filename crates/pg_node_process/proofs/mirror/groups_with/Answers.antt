use Rattle.std.proofs.Common.{◌∙◌, ◌++◌, ◌∷◌, [], arith, ap}
use Rattle.pg_term.specs.declared.term.Term.{Term}
use Rattle.pg_node_process.proofs.Mirroring.{groups_whole, group_left, group_put}
use Rattle.pg_node_process.proofs.mirror.groups_with.Goals as goal
use Rattle.pg_node_process.proofs.mirror.groups_with.Goals.{then-count-gt0+in_ok-copy+in_ok-push, else-count-gt0}

pub loop-place-preserved : goal.loop-place-preserved
loop-place-preserved g c =
    let after = g.T.GroupTable.contents c.args.table.now in
    let order = g.T.GroupsByPlace.order c.args.table.now in
    let name = c.name_at-name.result.now in
    elim c.if-count-gt0.branch [
      | then-count-gt0+in_ok-copy+in_ok-push w ↦ group_put c.args.pid.now after order c.loop-place.place name c.count.result c.loop-place.names.items c.if-count-gt0.names.items c.name_at-name.ensures c.count.ensures w.if-count-gt0.true c.loop-place.invariant
          (ap (λ v. v.items) w.names-is ∙ w.in_ok-push.ensures.items ∙ ap (λ (n : Term). c.loop-place.names.items ++ n ∷ []) w.in_ok-copy.ensures)
      | else-count-gt0 w ↦ group_left c.args.pid.now after order c.loop-place.place name c.count.result c.loop-place.names.items c.if-count-gt0.names.items c.name_at-name.ensures c.count.ensures w.if-count-gt0.false c.loop-place.invariant (ap (λ v. v.items) w.names-is)
    ]

pub returns : goal.returns
returns g c =
    groups_whole c.args.pid.now (g.T.GroupTable.contents c.args.table.now) (g.T.GroupsByPlace.order c.args.table.now) c.loop-place.names.items c.loop-place.place c.group_count-place-end.ensures.names (omega (arith, c.group_count-place-end.ensures.count))
    c.loop-place.invariant
