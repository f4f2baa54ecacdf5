use Rattle.std.proofs.Common.{◌∙◌, sym, ap, subst}
use Rattle.std.specs.Prelude.{IfOk}
use Rattle.pg_node_ports.specs.PgNodeOpens.Readings.{is_update}
use Rattle.pg_node_ports.specs.PgStep.Step.{at_clock}
use Rattle.pg_node_ports.specs.PgStep.Turns.{NodeTurn}
use Rattle.pg_node_state.specs.States.{names_of, live_of, kept_by, state_of, answers_of, Happens}
use Rattle.pg_node_state.proofs.Retried.{not_changing, not_all_in, all_in}
use Rattle.pg_node_state.proofs.Turned.{Updates, updates_by}
use Rattle.pg_node_state.proofs.state.NodeState.go_on_changing.Goals as goal

pub returns-then-is_complete-clause-happens : goal.returns-then-is_complete-clause-happens
returns-then-is_complete-clause-happens g c =
    let old = c.args.self.now in
    let used = (kept_by old).uses c.args.number in
    let parts : Updates used c.in-Update.op c.in-Update.lock = updates_by used c.in-Update.op c.in-Update.lock (sym c.gathering.ensures ∙ c.in-Update.is) in
    subst (λ (t : NodeTurn). IfOk c.finish.result (λ done. Happens (names_of old) (at_clock c.args.clock t) done (state_of c.finish.new.self) (answers_of old) (answers_of c.finish.new.self)))
    (sym (all_in (live_of old) c.args.number c.in-Update.op parts.update c.in-Update.lock parts.replied used (kept_by old) parts.is (sym c.is_complete.ensures ∙ c.if-is_complete.true)))
    (c.finish.ensures.happens parts.update parts.replied parts.is)

pub returns-else-is_complete-clause-happens : goal.returns-else-is_complete-clause-happens
returns-else-is_complete-clause-happens g c =
    let old = c.args.self.now in
    let used = (kept_by old).uses c.args.number in
    let parts : Updates used c.in-Update.op c.in-Update.lock = updates_by used c.in-Update.op c.in-Update.lock (sym c.gathering.ensures ∙ c.in-Update.is) in
    subst (λ (t : NodeTurn). Happens (names_of old) (at_clock c.args.clock t) c.wait.result (state_of c.wait.new.self) (answers_of old) (answers_of c.wait.new.self))
    (sym (not_all_in (live_of old) c.args.number c.in-Update.op parts.update c.in-Update.lock parts.replied used (kept_by old) parts.is (sym c.is_complete.ensures ∙ c.if-is_complete.false)))
    c.wait.ensures.happens

pub returns-in-Lock-clause-happens : goal.returns-in-Lock-clause-happens
returns-in-Lock-clause-happens g c =
    let old = c.args.self.now in
    subst (λ (t : NodeTurn). Happens (names_of old) (at_clock c.args.clock t) c.wait-in-Lock.result (state_of c.wait-in-Lock.new.self) (answers_of old) (answers_of c.wait-in-Lock.new.self))
    (sym (not_changing (live_of old) c.args.number ((kept_by old).uses c.args.number) (kept_by old) (ap is_update (sym c.gathering.ensures ∙ c.in-Lock.is)))) c.wait-in-Lock.ensures.happens

pub returns-in-Nothing-clause-happens : goal.returns-in-Nothing-clause-happens
returns-in-Nothing-clause-happens g c =
    let old = c.args.self.now in
    subst (λ (t : NodeTurn). Happens (names_of old) (at_clock c.args.clock t) c.wait-in-Nothing.result (state_of c.wait-in-Nothing.new.self) (answers_of old) (answers_of c.wait-in-Nothing.new.self))
    (sym (not_changing (live_of old) c.args.number ((kept_by old).uses c.args.number) (kept_by old) (ap is_update (sym c.gathering.ensures ∙ c.in-Nothing.is)))) c.wait-in-Nothing.ensures.happens
