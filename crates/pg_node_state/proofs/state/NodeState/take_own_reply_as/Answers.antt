use Rattle.std.proofs.Common.{◌≡◌, ◌≤◌, ◌+◌, ◌∙◌, ℕ, Bool, not, true, false, max, refl, sym, arith}
use Rattle.pg_term.specs.RefParts.{RefParts}
use Rattle.pg_node_ports.specs.PgRefs.Numbered.{numbered}
use Rattle.pg_node_ports.specs.PgMessageTypes.declared.message.Message.TheVariants.{Reply}
use Rattle.pg_node_ports.specs.PgNodeOpens.Places.{name_at}
use Rattle.pg_node_ports.specs.PgNodeOpens.Opens.{lost_of}
use Rattle.pg_node_ports.specs.PgStep.Nodes.{Node}
use Rattle.pg_node_ports.specs.PgStep.Attempts.{reply_taken}
use Rattle.pg_node_ports.specs.PgStep.Step.{CLOCK_LIMIT}
use Rattle.pg_node_state.specs.States.{names_of, nodes_of, live_of, kept_by, state_of, answers_of}
use Rattle.pg_node_state.proofs.Coming.{comes_at}
use Rattle.pg_node_state.proofs.state.NodeState.take_own_reply_as.Goals as goal

not_true : (b : Bool) → not b ≡ true → b ≡ false
not_true true e = absurd (cc)
not_true false e = refl

pub returns-clause-event : goal.returns-clause-event
returns-clause-event g c =
    let old = c.args.self.now in
    let names = names_of old in
    let p : Node = name_at names (c.args.peer + 1) in
    let clock : ℕ = c.max-latest.result + 1 in
    let reference : RefParts = numbered (nodes_of old).own c.args.number in
    let here : lost_of old.opens p ≡ false = sym c.is_lost.ensures ∙ c.if-is_lost.false in
    let later : clock ≡ max old.clock c.args.stamp + 1 = omega (arith, c.max-latest.ensures) in
    let within : clock ≤ CLOCK_LIMIT = omega (arith, c.if-latest-ge-MAX_STAMP.false) in
    comes_at (nodes_of old) p (record { stamp = c.args.stamp; packet = Reply reference c.args.said }) (state_of old) clock here later within names (reply_taken (live_of old) p reference c.args.said (kept_by old)) c.take_numbered.result (state_of c.take_numbered.new.self) (answers_of old) (answers_of c.take_numbered.new.self)
    refl c.take_numbered.ensures.comes

pub returns-clause-light : goal.returns-clause-light
returns-clause-light g c = λ h. c.take_numbered.ensures.light (not_true _ h)
