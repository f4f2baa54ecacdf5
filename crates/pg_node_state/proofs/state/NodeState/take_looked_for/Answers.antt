use Rattle.std.proofs.Common.{◌∙◌, ◌+◌, ℕ, true, false, refl, Result, Ok, Err, sym, ap, subst, arith}
use Rattle.pg_term.specs.RefParts.{RefParts}
use Rattle.pg_node_ports.specs.PgRefs.Numbered.{numbered}
use Rattle.pg_node_ports.specs.PgMulticall.declared.gather.Taken.TheVariants as taken
use Rattle.pg_node_ports.specs.PgNodeOpens.Places.{name_at}
use Rattle.pg_node_ports.specs.PgStep.declared.refusal.Refusal.{Refusal}
use Rattle.pg_node_ports.specs.PgStep.declared.refusal.Refusal.TheVariants.{NotAMessage}
use Rattle.pg_node_ports.specs.PgMulticall.Gathered.{what_of}
use Rattle.pg_node_ports.specs.PgStep.Attempts.{gathered}
use Rattle.pg_node_ports.specs.PgStep.Nodes.{Node, Nodes}
use Rattle.pg_node_ports.specs.PgStep.State.{Use}
use Rattle.pg_node_ports.specs.PgStep.Turns.{NodeTurn}
use Rattle.pg_node_state.specs.declared.state.fault.NodeFault.TheVariants.{OutOfMemory, Refused}
use Rattle.pg_node_state.specs.States.{names_of, live_of, kept_by, state_of, answers_of, is_counted, ComesAt}
use Rattle.pg_node_ports.proofs.PgNodeOpens.Named.{clash}
use Rattle.pg_node_state.proofs.Replied.{read_numbered, leads, number_is, use_is}
use Rattle.pg_node_state.proofs.state.NodeState.take_looked_for.Goals.{in-Double+else-kind, in-Counted+else-kind-2}
use Rattle.pg_node_state.proofs.state.NodeState.take_looked_for.Goals as goal

pub returns-in-Stranger-clause-comes : goal.returns-in-Stranger-clause-comes
returns-in-Stranger-clause-comes g c =
    let old = c.args.self.now in
    let m : Nodes = live_of old in
    let p : Node = name_at (names_of old) (c.args.peer + 1) in
    let n : ℕ = c.args.number in
    let reference : RefParts = numbered m.own n in
    let read = read_numbered m.own n (omega arith) in
    let goes = leads m p reference c.args.said (kept_by old) n read in
    let kind = c.is_kind-kind.ensures ((kept_by old).uses n) c.gathering.ensures in
    subst (λ (r : Result NodeTurn Refusal). ComesAt c.args.clock (names_of old) r (Ok c.note_odd.result) (state_of c.note_odd.new.self) (answers_of old) (answers_of c.note_odd.new.self)) (sym (goes taken.Stranger c.is_kind-kind.result (sym c.in-Stranger.is ∙ c.heard.ensures) kind)) c.note_odd.ensures.happens

pub returns-in-Double-clause-comes : goal.returns-in-Double-clause-comes
returns-in-Double-clause-comes g c =
    let old = c.args.self.now in
    let m : Nodes = live_of old in
    let p : Node = name_at (names_of old) (c.args.peer + 1) in
    let n : ℕ = c.args.number in
    let reference : RefParts = numbered m.own n in
    let read = read_numbered m.own n (omega arith) in
    let goes = leads m p reference c.args.said (kept_by old) n read in
    let kind = c.is_kind-kind.ensures ((kept_by old).uses n) c.gathering.ensures in
    subst (λ (r : Result NodeTurn Refusal). ComesAt c.args.clock (names_of old) r (Ok c.note_odd-in-Double.result) (state_of c.note_odd-in-Double.new.self) (answers_of old) (answers_of c.note_odd-in-Double.new.self)) (sym (goes taken.Double true (sym c.in-Double.is ∙ c.heard.ensures) (sym c.if-kind.true ∙ kind))) c.note_odd-in-Double.ensures.happens

pub returns-in-Ok-clause-comes : goal.returns-in-Ok-clause-comes
returns-in-Ok-clause-comes g c =
    let old = c.args.self.now in
    let m : Nodes = live_of old in
    let p : Node = name_at (names_of old) (c.args.peer + 1) in
    let n : ℕ = c.args.number in
    let reference : RefParts = numbered m.own n in
    let read = read_numbered m.own n (omega arith) in
    let goes = leads m p reference c.args.said (kept_by old) n read in
    let kind = c.is_kind-kind.ensures ((kept_by old).uses n) c.gathering.ensures in
    subst (λ (r : Result NodeTurn Refusal). ComesAt c.args.clock (names_of old) r (Ok c.in-Ok.done) (state_of c.count.new.self) (answers_of old) (answers_of c.count.new.self)) (sym (goes taken.Counted true (sym c.in-Counted.is ∙ c.heard.ensures) (sym c.if-kind-2.true ∙ kind))) c.in-Ok.ensures.happens

pub returns-in-Err-clause-comes : goal.returns-in-Err-clause-comes
returns-in-Err-clause-comes g c =
    let old = c.args.self.now in
    let m : Nodes = live_of old in
    let p : Node = name_at (names_of old) (c.args.peer + 1) in
    let n : ℕ = c.args.number in
    let reference : RefParts = numbered m.own n in
    let read = read_numbered m.own n (omega arith) in
    let goes = leads m p reference c.args.said (kept_by old) n read in
    let kind = c.is_kind-kind.ensures ((kept_by old).uses n) c.gathering.ensures in
    subst (λ (r : Result NodeTurn Refusal). ComesAt {h = g.S.Outgoing} c.args.clock (names_of old) r (Err OutOfMemory) (state_of c.count.new.self) (answers_of old) (answers_of c.count.new.self)) (sym (goes taken.Counted true (sym c.in-Counted.is ∙ c.heard.ensures) (sym c.if-kind-2.true ∙ kind))) tt

pub returns-in-Err-clause-light : goal.returns-in-Err-clause-light
returns-in-Err-clause-light g c = λ light is.
    let old = c.args.self.now in
    let m : Nodes = live_of old in
    let p : Node = name_at (names_of old) (c.args.peer + 1) in
    let n : ℕ = c.args.number in
    let reference : RefParts = numbered m.own n in
    let read = read_numbered m.own n (omega arith) in
    let same = use_is m p reference c.args.said (kept_by old) n read
    ∙ ap (λ (k : ℕ). (kept_by old).uses k) (number_is m p reference c.args.said (kept_by old) n read) in
    let counted = ap is_counted (sym (sym c.in-Counted.is ∙ c.heard.ensures)) in
    clash (sym (ap (λ (u : Use). is_counted (what_of true (gathered u p))) same ∙ counted) ∙ light)

pub returns-in-Double-2-clause-comes : goal.returns-in-Double-2-clause-comes
returns-in-Double-2-clause-comes g c =
    let old = c.args.self.now in
    let m : Nodes = live_of old in
    let p : Node = name_at (names_of old) (c.args.peer + 1) in
    let n : ℕ = c.args.number in
    let reference : RefParts = numbered m.own n in
    let read = read_numbered m.own n (omega arith) in
    let goes = leads m p reference c.args.said (kept_by old) n read in
    let kind = c.is_kind-kind.ensures ((kept_by old).uses n) c.gathering.ensures in
    elim c.in-Double-2-1.branch [
      | in-Double+else-kind w ↦ subst (λ (r : Result NodeTurn Refusal). ComesAt {h = g.S.Outgoing} c.args.clock (names_of old) r (Err (Refused NotAMessage)) (state_of old) (answers_of old) (answers_of old)) (sym (goes taken.Double false (sym w.in-Double.is ∙ c.heard.ensures) (sym w.if-kind.false ∙ kind))) refl
      | in-Counted+else-kind-2 w ↦ subst (λ (r : Result NodeTurn Refusal). ComesAt {h = g.S.Outgoing} c.args.clock (names_of old) r (Err (Refused NotAMessage)) (state_of old) (answers_of old) (answers_of old)) (sym (goes taken.Counted false (sym w.in-Counted.is ∙ c.heard.ensures) (sym w.if-kind-2.false ∙ kind))) refl
    ]
