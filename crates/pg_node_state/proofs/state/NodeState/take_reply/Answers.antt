use Rattle.std.proofs.Common.{◌∙◌, ◌+◌, ◌^◌, ◌&&◌, ℕ, cond, nat_lt, Some, true, false}
use Rattle.std.proofs.Common.{◌≡◌, ◌≢◌, None, Result, Ok, Err, sym, ap, subst, arith}
use Rattle.pg_term.specs.RefParts.{RefParts, ref_eq}
use Rattle.pg_node_ports.specs.PgRefs.Numbered.{numbered, number_in}
use Rattle.pg_node_ports.specs.PgNodeOpens.Places.{name_at}
use Rattle.pg_node_ports.specs.PgStep.declared.refusal.Refusal.{Refusal}
use Rattle.pg_node_ports.specs.PgMulticall.Gathered.{what_of}
use Rattle.pg_node_ports.specs.PgStep.Attempts.{gathered, use_of, reply_taken}
use Rattle.pg_node_ports.specs.PgStep.Nodes.{Node, Nodes}
use Rattle.pg_node_ports.specs.PgStep.Turns.{NodeTurn}
use Rattle.pg_node_state.specs.declared.state.fault.NodeFault.TheVariants.{OutOfMemory}
use Rattle.pg_node_state.specs.States.{names_of, live_of, kept_by, state_of, answers_of, is_counted, ComesAt}
use Rattle.pg_node_state.proofs.Replied.{fresh_beyond, no_number, reference_is}
use Rattle.pg_node_state.proofs.state.NodeState.take_reply.Goals as goal

pub returns-in-None-clause-comes : goal.returns-in-None-clause-comes
returns-in-None-clause-comes g c =
    let old = c.args.self.now in
    let m : Nodes = live_of old in
    let p : Node = name_at (names_of old) (c.args.peer + 1) in
    let reference : RefParts = c.args.reference.now in
    let number : ℕ = number_in reference in
    let read = ap (λ (n : Node). cond (ref_eq (numbered n number) reference && nat_lt number (2 ^ 32)) (Some number) None) (sym c.name.ensures) ∙ sym c.number_of.ensures in
    subst (λ (r : Result NodeTurn Refusal). ComesAt c.args.clock (names_of old) r (Ok c.note_odd.result) (state_of c.note_odd.new.self) (answers_of old) (answers_of c.note_odd.new.self)) (sym (no_number m p reference c.args.said (kept_by old) (read ∙ c.in-None.is) (λ l. fresh_beyond old.opens number (omega (arith, old.made, old.within, l))))) c.note_odd.ensures.happens

pub returns-in-Some-clause-comes : goal.returns-in-Some-clause-comes
returns-in-Some-clause-comes g c =
    let old = c.args.self.now in
    let m : Nodes = live_of old in
    let p : Node = name_at (names_of old) (c.args.peer + 1) in
    let reference : RefParts = c.args.reference.now in
    let number : ℕ = number_in reference in
    let read = ap (λ (n : Node). cond (ref_eq (numbered n number) reference && nat_lt number (2 ^ 32)) (Some number) None) (sym c.name.ensures) ∙ sym c.number_of.ensures in
    subst (λ (r : RefParts). ComesAt c.args.clock (names_of old) (reply_taken m p r c.args.said (kept_by old)) c.take_numbered.result (state_of c.take_numbered.new.self) (answers_of old) (answers_of c.take_numbered.new.self))
    (reference_is m p reference c.args.said (kept_by old) c.in-Some.number (read ∙ c.in-Some.is)) c.take_numbered.ensures.comes

pub returns-in-Some-clause-light : goal.returns-in-Some-clause-light
returns-in-Some-clause-light g c =
    let old = c.args.self.now in
    let m : Nodes = live_of old in
    let p : Node = name_at (names_of old) (c.args.peer + 1) in
    let reference : RefParts = c.args.reference.now in
    let number : ℕ = number_in reference in
    let read = ap (λ (n : Node). cond (ref_eq (numbered n number) reference && nat_lt number (2 ^ 32)) (Some number) None) (sym c.name.ensures) ∙ sym c.number_of.ensures in
    subst (λ (r : RefParts). is_counted (what_of true (gathered (use_of m r (kept_by old)) p)) ≡ false → c.take_numbered.result ≢ Err OutOfMemory)
    (reference_is m p reference c.args.said (kept_by old) c.in-Some.number (read ∙ c.in-Some.is)) c.take_numbered.ensures.light
