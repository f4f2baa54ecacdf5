use Rattle.std.proofs.Common.{◌++◌, ◌∷◌, [], List, sym, ap, subst, refl, ◌∙◌, arith, take_all}
use Rattle.pg_node_ports.specs.PgStep.declared.command.OpId.{OpId}
use Rattle.pg_node_state.specs.States.{live_of, kept_by}
use Rattle.pg_node_state.specs.Waiting.{AreWaiting, waiting_among, ops_of}
use Rattle.pg_node_state.proofs.Coming.{on_err}
use Rattle.pg_node_state.proofs.Kept.{shows}
use Rattle.pg_node_state.proofs.Waits.{one_waits, none_waits, all_waiting}
use Rattle.pg_node_state.proofs.state.NodeState.waiting.Goals as goal
use Rattle.pg_node_state.proofs.state.NodeState.waiting.Goals.{then-waits_near+in_ok-push, else-waits_near}

pub loop-place-preserved : goal.loop-place-preserved
loop-place-preserved g c =
    let node = c.args.self.now in
    let m = live_of node in
    let s = kept_by node in
    let ops = ops_of node in
    let place = c.loop-place.place in
    let is = c.waits_near.ensures s (shows node) in
    elim c.if-waits_near.branch [
      | then-waits_near+in_ok-push w ↦
          ap (λ v. v.items) w.ops-is ∙ w.in_ok-push.ensures.items ∙ ap (λ (before : List OpId). before ++ c.op_at-op.result ∷ []) c.loop-place.invariant
          ∙ sym (one_waits m s ops place c.op_at-op.result c.op_at-op.ensures (sym is ∙ w.if-waits_near.true))
      | else-waits_near w ↦ ap (λ v. v.items) w.ops-is ∙ c.loop-place.invariant ∙ sym (none_waits m s ops place c.op_at-op.result c.op_at-op.ensures (sym is ∙ w.if-waits_near.false))
    ]

-- all places were looked at
pub returns-clause-order : goal.returns-clause-order
returns-clause-order g c =
    let node = c.args.self.now in
    let count = c.has_each_once.ensures.count in
    let e = c.open_count-place-end.ensures in let f = c.loop-place.auto.place-end in let h = c.loop-place-test.false in
    c.loop-place.invariant ∙ ap (waiting_among (live_of node) (kept_by node)) (take_all c.loop-place.place (ops_of node) (omega (arith, count, e, f, h)))

pub returns-clause-each : goal.returns-clause-each
returns-clause-each g c =
    let node = c.args.self.now in
    let m = live_of node in
    let s = kept_by node in
    subst (AreWaiting m s) (sym (returns-clause-order g c)) (all_waiting m s node.opens (ops_of node) refl c.has_each_once.ensures)

-- the command for which there was no room
pub returns-in_err-push-clause-memory : goal.returns-in_err-push-clause-memory
returns-in_err-push-clause-memory g c =
    let node = c.args.self.now in
    on_err c.from_residual.result _ (c.op_at-op.result, sym (c.waits_near.ensures (kept_by node) (shows node)) ∙ c.if-waits_near.true)
