use Rattle.std.proofs.Common.{◌∙◌, ℕ, sym, ap, subst}
use Rattle.std.specs.Prelude.{IfOk}
use Rattle.pg_node_ports.specs.PgNodeOpens.Outlooks.{outlook_of}
use Rattle.pg_node_ports.specs.PgNodeOpens.declared.outlook.Outlook.TheVariants as outlook
use Rattle.pg_node_ports.specs.PgStep.State.{Use}
use Rattle.pg_node_ports.specs.PgStep.Step.{at_clock}
use Rattle.pg_node_ports.specs.PgStep.Turns.{NodeTurn}
use Rattle.pg_node_state.specs.States.{names_of, live_of, kept_by, state_of, answers_of, Happens}
use Rattle.pg_node_state.proofs.Chains.{begins_then}
use Rattle.pg_node_state.proofs.Turned.{Locks as LockOf, locks_by, goes_on, own_apart}
use Rattle.pg_node_state.proofs.state.NodeState.go_on.Goals as goal

pub returns-in-Wait-clause-happens : goal.returns-in-Wait-clause-happens
returns-in-Wait-clause-happens g c =
    let old = c.args.self.now in
    let m = live_of old in
    let clock : ℕ = c.args.clock in
    let used : Use = (kept_by old).uses c.args.number in
    let parts : LockOf used c.args.op = locks_by used c.args.op c.requires.locking in
    let granted = c.would_grant-granted.result in
    let would = sym (c.would_grant-granted.ensures c.args.op parts.update parts.first parts.st parts.is) in
    let leads = goes_on m c.args.number c.args.op parts.update parts.first parts.st (kept_by old) granted used parts.is
    (c.steps_go_by_outlook.ensures m c.args.number c.args.op parts.update parts.first parts.st (kept_by old) granted (own_apart old.opens) would) c.outlook.result c.outlook.ensures in
    subst (λ (turn : NodeTurn). Happens (names_of old) (at_clock clock turn) c.wait.result (state_of c.wait.new.self) (answers_of old) (answers_of c.wait.new.self)) (sym (leads outlook.Wait c.in-Wait.is)) c.wait.ensures.happens

pub returns-in-GiveUp-clause-happens : goal.returns-in-GiveUp-clause-happens
returns-in-GiveUp-clause-happens g c =
    let old = c.args.self.now in
    let m = live_of old in
    let clock : ℕ = c.args.clock in
    let used : Use = (kept_by old).uses c.args.number in
    let parts : LockOf used c.args.op = locks_by used c.args.op c.requires.locking in
    let granted = c.would_grant-granted.result in
    let would = sym (c.would_grant-granted.ensures c.args.op parts.update parts.first parts.st parts.is) in
    let leads = goes_on m c.args.number c.args.op parts.update parts.first parts.st (kept_by old) granted used parts.is
    (c.steps_go_by_outlook.ensures m c.args.number c.args.op parts.update parts.first parts.st (kept_by old) granted (own_apart old.opens) would) c.outlook.result c.outlook.ensures in
    subst (λ (turn : NodeTurn). IfOk c.stop_asking.result (λ done. Happens (names_of old) (at_clock clock turn) done (state_of c.stop_asking.new.self) (answers_of old) (answers_of c.stop_asking.new.self))) (sym (leads outlook.GiveUp c.in-GiveUp.is)) (c.stop_asking.ensures.happens c.args.op parts.update parts.first parts.st parts.is)

pub returns-in-Ask-clause-happens : goal.returns-in-Ask-clause-happens
returns-in-Ask-clause-happens g c =
    let old = c.args.self.now in
    let m = live_of old in
    let clock : ℕ = c.args.clock in
    let used : Use = (kept_by old).uses c.args.number in
    let parts : LockOf used c.args.op = locks_by used c.args.op c.requires.locking in
    let granted = c.would_grant-granted.result in
    let would = sym (c.would_grant-granted.ensures c.args.op parts.update parts.first parts.st parts.is) in
    let leads = goes_on m c.args.number c.args.op parts.update parts.first parts.st (kept_by old) granted used parts.is
    (c.steps_go_by_outlook.ensures m c.args.number c.args.op parts.update parts.first parts.st (kept_by old) granted (own_apart old.opens) would) c.outlook.result c.outlook.ensures in
    subst (λ (turn : NodeTurn). IfOk c.ask_rest.result (λ done. Happens (names_of old) (at_clock clock turn) done (state_of c.ask_rest.new.self) (answers_of old) (answers_of c.ask_rest.new.self))) (sym (leads outlook.Ask c.in-Ask.is)) (c.ask_rest.ensures.happens c.args.op parts.update parts.first parts.st parts.is)

pub returns-then-has_peer-clause-happens : goal.returns-then-has_peer-clause-happens
returns-then-has_peer-clause-happens g c =
    let old = c.args.self.now in
    let m = live_of old in
    let clock : ℕ = c.args.clock in
    let used : Use = (kept_by old).uses c.args.number in
    let parts : LockOf used c.args.op = locks_by used c.args.op c.requires.locking in
    let granted = c.would_grant-granted.result in
    let would = sym (c.would_grant-granted.ensures c.args.op parts.update parts.first parts.st parts.is) in
    let leads = goes_on m c.args.number c.args.op parts.update parts.first parts.st (kept_by old) granted used parts.is
    (c.steps_go_by_outlook.ensures m c.args.number c.args.op parts.update parts.first parts.st (kept_by old) granted (own_apart old.opens) would) c.outlook.result c.outlook.ensures in
    let looks = ap (outlook_of m granted) (sym parts.is) ∙ (sym c.outlook.ensures ∙ c.in-Begin.is) in
    let peer = c.has_peer.ensures.some c.if-has_peer.true in
    subst (λ (turn : NodeTurn). IfOk c.begin.result (λ done. Happens (names_of old) (at_clock clock turn) done (state_of c.begin.new.self) (answers_of old) (answers_of c.begin.new.self))) (sym (leads outlook.Begin c.in-Begin.is ∙ begins_then (live_of old) (own_apart old.opens) c.args.number c.args.op parts.update parts.first parts.st (kept_by old) granted would looks peer.0 peer.1)) (c.begin.ensures.happens parts.update parts.first parts.st parts.is)

pub returns-else-has_peer-clause-happens : goal.returns-else-has_peer-clause-happens
returns-else-has_peer-clause-happens g c =
    let old = c.args.self.now in
    let m = live_of old in
    let clock : ℕ = c.args.clock in
    let used : Use = (kept_by old).uses c.args.number in
    let parts : LockOf used c.args.op = locks_by used c.args.op c.requires.locking in
    let granted = c.would_grant-granted.result in
    let would = sym (c.would_grant-granted.ensures c.args.op parts.update parts.first parts.st parts.is) in
    let leads = goes_on m c.args.number c.args.op parts.update parts.first parts.st (kept_by old) granted used parts.is
    (c.steps_go_by_outlook.ensures m c.args.number c.args.op parts.update parts.first parts.st (kept_by old) granted (own_apart old.opens) would) c.outlook.result c.outlook.ensures in
    subst (λ (turn : NodeTurn). IfOk c.begin_alone.result (λ done. Happens (names_of old) (at_clock clock turn) done (state_of c.begin_alone.new.self) (answers_of old) (answers_of c.begin_alone.new.self))) (sym (leads outlook.Begin c.in-Begin.is)) (c.begin_alone.ensures.happens parts.update parts.first parts.st parts.is)
