use Rattle.std.proofs.Common.{◌∙◌, ◌+◌, ◌≤◌, refl, sym, subst, arith}
use Rattle.std.specs.Prelude.{Ok, Err}
use Rattle.pg_node_ports.specs.PgStep.Step.{CLOCK_LIMIT}
use Rattle.pg_node_ports.specs.PgStep.declared.refusal.Refusal.TheVariants as refusal
use Rattle.pg_node_state.specs.declared.state.fault.NodeFault.TheVariants.{Refused, OutOfMemory}
use Rattle.pg_node_state.specs.Issued.{ports_of}
use Rattle.pg_node_state.specs.States.{names_of, nodes_of, kept_by, state_of, answers_of, Comes}
use Rattle.pg_node_state.proofs.Acting.{retried, not_waiting}
use Rattle.pg_node_state.proofs.Kept.{shows}
use Rattle.pg_node_state.proofs.state.NodeState.retry_as.Goals as goal

pub returns-then-not-waits-clause-event : goal.returns-then-not-waits-clause-event
returns-then-not-waits-clause-event g c =
    let old = c.args.self.now in
    subst (λ r. Comes {h = g.S.Outgoing} (names_of old) r (Err (Refused refusal.NotWaiting)) (state_of old) (answers_of old) (answers_of old))
    (sym (not_waiting (nodes_of old) (ports_of old) (state_of old) c.args.op c.requires.place (sym (c.waits.ensures (kept_by old) (shows old)) ∙ c.if-not-waits.true))) refl

pub returns-in-Err-clause-event : goal.returns-in-Err-clause-event
returns-in-Err-clause-event g c =
    let old = c.args.self.now in
    let waits = sym (c.waits.ensures (kept_by old) (shows old)) ∙ c.if-not-waits.false in
    let within : old.clock + 1 ≤ CLOCK_LIMIT = omega (arith, c.if-self-ge-MAX_STAMP.false) in
    subst (λ r. Comes {h = g.S.Outgoing} (names_of old) r (Err OutOfMemory) (state_of c.try_again.new.self) (answers_of old) (answers_of c.try_again.new.self))
    (sym (retried (nodes_of old) (ports_of old) (state_of old) c.args.op c.requires.place waits within)) tt

pub returns-in-Ok-clause-event : goal.returns-in-Ok-clause-event
returns-in-Ok-clause-event g c =
    let old = c.args.self.now in
    let waits = sym (c.waits.ensures (kept_by old) (shows old)) ∙ c.if-not-waits.false in
    let within : old.clock + 1 ≤ CLOCK_LIMIT = omega (arith, c.if-self-ge-MAX_STAMP.false) in
    subst (λ r. Comes (names_of old) r (Ok c.in-Ok.done) (state_of c.try_again.new.self) (answers_of old) (answers_of c.try_again.new.self))
    (sym (retried (nodes_of old) (ports_of old) (state_of old) c.args.op c.requires.place waits within)) c.in-Ok.ensures.happens
