use Rattle.std.proofs.Common.{◌≡◌, ◌≤◌, ◌+◌, ◌∙◌, ℕ, Bool, not, true, false, max, refl, sym, ap, subst, arith}
use Rattle.pg_node_ports.specs.PgMessageTypes.declared.message.Message.{Message}
use Rattle.pg_node_ports.specs.PgMessageTypes.declared.message.Message.TheVariants.{Call, Exchange}
use Rattle.pg_node_ports.specs.PgExchange.GroupList.{GroupList}
use Rattle.pg_node_ports.specs.PgNodeOpens.Places.{name_at}
use Rattle.pg_node_ports.specs.PgNodeOpens.Opens.{lost_of}
use Rattle.pg_node_ports.specs.PgStep.Nodes.{Node}
use Rattle.pg_node_ports.specs.PgStep.Attempts.{reply_taken}
use Rattle.pg_node_ports.specs.PgStep.Peers.{lock_request, update_request, lock_freed, process_end}
use Rattle.pg_node_ports.specs.PgStep.Step.{CLOCK_LIMIT, taken}
use Rattle.pg_node_state.specs.States.{names_of, nodes_of, live_of, kept_by}
use Rattle.pg_node_state.specs.States.{state_of, answers_of, takes_none}
use Rattle.pg_node_sends.specs.Sent.{stamped_of}
use Rattle.pg_node_state.proofs.Coming.{stays_too, comes, comes_at, groups_come}
use Rattle.pg_node_state.proofs.state.NodeState.take_as.Goals as goal

not_true : (b : Bool) → not b ≡ true → b ≡ false
not_true true e = absurd (cc)
not_true false e = refl

pub returns-in_err-serve_lock-in-SetLock-clause-stays : goal.returns-in_err-serve_lock-in-SetLock-clause-stays
returns-in_err-serve_lock-in-SetLock-clause-stays g c = stays_too c.from_residual.result c.in_err-serve_lock-in-SetLock.ensures.stays

pub returns-in_err-serve_update-in-Change-clause-stays : goal.returns-in_err-serve_update-in-Change-clause-stays
returns-in_err-serve_update-in-Change-clause-stays g c = stays_too c.from_residual-in_err-serve_update-in-Change.result c.in_err-serve_update-in-Change.ensures.stays

pub returns-in_err-take_end-in-Down-clause-stays : goal.returns-in_err-take_end-in-Down-clause-stays
returns-in_err-take_end-in-Down-clause-stays g c = stays_too c.from_residual-in_err-take_end-in-Down.result c.in_err-take_end-in-Down.ensures.stays

pub returns-in_ok-serve_lock-in-SetLock-clause-event : goal.returns-in_ok-serve_lock-in-SetLock-clause-event
returns-in_ok-serve_lock-in-SetLock-clause-event g c =
    let old = c.args.self.now in
    let names = names_of old in
    let p : Node = name_at names (c.args.peer + 1) in
    let clock : ℕ = c.max-latest.result + 1 in
    let here : lost_of old.opens p ≡ false = sym c.is_lost.ensures ∙ c.if-is_lost.false in
    let later : clock ≡ max old.clock c.args.packet.now.stamp + 1 = omega (arith, c.max-latest.ensures) in
    let within : clock ≤ CLOCK_LIMIT = omega (arith, c.if-latest-ge-MAX_STAMP.false) in
    let turn = lock_request (live_of old) p c.in-Call.reference c.in-SetLock.name (kept_by old) in
    comes (nodes_of old) p (stamped_of c.args.packet.now) (state_of old) clock here later within names turn c.in_ok-serve_lock-in-SetLock.field-0 (state_of c.serve_lock.new.self) (answers_of old) (answers_of c.serve_lock.new.self)
    (ap (λ (x : Message). taken (live_of old) p x (kept_by old)) (c.in-Call.is ∙ ap (Call c.in-Call.reference) c.in-SetLock.is)) refl c.in_ok-serve_lock-in-SetLock.ensures.told c.in_ok-serve_lock-in-SetLock.ensures.state c.in_ok-serve_lock-in-SetLock.ensures.answers

pub returns-in_ok-serve_update-in-Change-clause-event : goal.returns-in_ok-serve_update-in-Change-clause-event
returns-in_ok-serve_update-in-Change-clause-event g c =
    let old = c.args.self.now in
    let names = names_of old in
    let p : Node = name_at names (c.args.peer + 1) in
    let clock : ℕ = c.max-latest.result + 1 in
    let here : lost_of old.opens p ≡ false = sym c.is_lost.ensures ∙ c.if-is_lost.false in
    let later : clock ≡ max old.clock c.args.packet.now.stamp + 1 = omega (arith, c.max-latest.ensures) in
    let within : clock ≤ CLOCK_LIMIT = omega (arith, c.if-latest-ge-MAX_STAMP.false) in
    let turn = update_request p c.in-Call.reference c.in-Change.update (kept_by old) in
    comes (nodes_of old) p (stamped_of c.args.packet.now) (state_of old) clock here later within names turn c.in_ok-serve_update-in-Change.field-0 (state_of c.serve_update.new.self) (answers_of old) (answers_of c.serve_update.new.self)
    (ap (λ (x : Message). taken (live_of old) p x (kept_by old)) (c.in-Call.is ∙ ap (Call c.in-Call.reference) c.in-Change.is)) refl c.in_ok-serve_update-in-Change.ensures.told c.in_ok-serve_update-in-Change.ensures.state c.in_ok-serve_update-in-Change.ensures.answers

pub returns-in-Reply-clause-event : goal.returns-in-Reply-clause-event
returns-in-Reply-clause-event g c =
    let old = c.args.self.now in
    let names = names_of old in
    let p : Node = name_at names (c.args.peer + 1) in
    let clock : ℕ = c.max-latest.result + 1 in
    let here : lost_of old.opens p ≡ false = sym c.is_lost.ensures ∙ c.if-is_lost.false in
    let later : clock ≡ max old.clock c.args.packet.now.stamp + 1 = omega (arith, c.max-latest.ensures) in
    let within : clock ≤ CLOCK_LIMIT = omega (arith, c.if-latest-ge-MAX_STAMP.false) in
    comes_at (nodes_of old) p (stamped_of c.args.packet.now) (state_of old) clock here later within names (reply_taken (live_of old) p c.in-Reply.reference c.in-Reply.said (kept_by old)) c.take_reply.result (state_of c.take_reply.new.self) (answers_of old) (answers_of c.take_reply.new.self)
    (ap (λ (x : Message). taken (live_of old) p x (kept_by old)) c.in-Reply.is) c.take_reply.ensures.comes

pub returns-in-DelLock-clause-event : goal.returns-in-DelLock-clause-event
returns-in-DelLock-clause-event g c =
    let old = c.args.self.now in
    let names = names_of old in
    let p : Node = name_at names (c.args.peer + 1) in
    let clock : ℕ = c.max-latest.result + 1 in
    let here : lost_of old.opens p ≡ false = sym c.is_lost.ensures ∙ c.if-is_lost.false in
    let later : clock ≡ max old.clock c.args.packet.now.stamp + 1 = omega (arith, c.max-latest.ensures) in
    let within : clock ≤ CLOCK_LIMIT = omega (arith, c.if-latest-ge-MAX_STAMP.false) in
    let turn = lock_freed c.in-DelLock.name c.in-DelLock.reference (kept_by old) in
    comes (nodes_of old) p (stamped_of c.args.packet.now) (state_of old) clock here later within names turn c.free_lock.result (state_of c.free_lock.new.self) (answers_of old) (answers_of c.free_lock.new.self)
    (ap (λ (x : Message). taken (live_of old) p x (kept_by old)) (c.in-DelLock.is)) refl c.free_lock.ensures.told c.free_lock.ensures.state c.free_lock.ensures.answers

pub returns-in_ok-take_end-in-Down-clause-event : goal.returns-in_ok-take_end-in-Down-clause-event
returns-in_ok-take_end-in-Down-clause-event g c =
    let old = c.args.self.now in
    let names = names_of old in
    let p : Node = name_at names (c.args.peer + 1) in
    let clock : ℕ = c.max-latest.result + 1 in
    let here : lost_of old.opens p ≡ false = sym c.is_lost.ensures ∙ c.if-is_lost.false in
    let later : clock ≡ max old.clock c.args.packet.now.stamp + 1 = omega (arith, c.max-latest.ensures) in
    let within : clock ≤ CLOCK_LIMIT = omega (arith, c.if-latest-ge-MAX_STAMP.false) in
    let turn = process_end c.in-Down.pid (kept_by old) in
    comes (nodes_of old) p (stamped_of c.args.packet.now) (state_of old) clock here later within names turn c.in_ok-take_end-in-Down.field-0 (state_of c.take_end.new.self) (answers_of old) (answers_of c.take_end.new.self)
    (ap (λ (x : Message). taken (live_of old) p x (kept_by old)) (c.in-Down.is)) refl c.in_ok-take_end-in-Down.ensures.told c.in_ok-take_end-in-Down.ensures.state c.in_ok-take_end-in-Down.ensures.answers

pub returns-in-Exchange-clause-event : goal.returns-in-Exchange-clause-event
returns-in-Exchange-clause-event g c =
    let old = c.args.self.now in
    let p : Node = name_at (names_of old) (c.args.peer + 1) in
    let clock : ℕ = c.max-latest.result + 1 in
    let here : lost_of old.opens p ≡ false = sym c.is_lost.ensures ∙ c.if-is_lost.false in
    let later : clock ≡ max old.clock c.args.packet.now.stamp + 1 = omega (arith, c.max-latest.ensures) in
    let within : clock ≤ CLOCK_LIMIT = omega (arith, c.if-latest-ge-MAX_STAMP.false) in
    groups_come (nodes_of old) p (stamped_of c.args.packet.now) (state_of old) clock here later within (names_of old) c.in-Exchange.node c.as_slice.result.now c.take_groups.result
    (state_of c.take_groups.new.self) (answers_of old) (answers_of c.take_groups.new.self) (c.in-Exchange.is ∙ ap (λ (groups : GroupList). Exchange c.in-Exchange.node groups) (sym c.as_slice.ensures)) c.take_groups.ensures.bad c.take_groups.ensures.fault c.take_groups.ensures.told c.take_groups.ensures.state c.take_groups.ensures.answers

pub returns-in_err-serve_lock-in-SetLock-clause-light : goal.returns-in_err-serve_lock-in-SetLock-clause-light
returns-in_err-serve_lock-in-SetLock-clause-light g c = λ h is.
    let old = c.args.self.now in
    let light = λ (x : Message). takes_none (live_of old) (name_at (names_of old) (c.args.peer + 1)) (kept_by old) x ≡ true in
    let no : false ≡ true = subst light (c.in-Call.is) h in absurd (cc)

pub returns-in_err-serve_update-in-Change-clause-light : goal.returns-in_err-serve_update-in-Change-clause-light
returns-in_err-serve_update-in-Change-clause-light g c = λ h is.
    let old = c.args.self.now in
    let light = λ (x : Message). takes_none (live_of old) (name_at (names_of old) (c.args.peer + 1)) (kept_by old) x ≡ true in
    let no : false ≡ true = subst light (c.in-Call.is) h in absurd (cc)

pub returns-in_err-take_end-in-Down-clause-light : goal.returns-in_err-take_end-in-Down-clause-light
returns-in_err-take_end-in-Down-clause-light g c = λ h is.
    let old = c.args.self.now in
    let light = λ (x : Message). takes_none (live_of old) (name_at (names_of old) (c.args.peer + 1)) (kept_by old) x ≡ true in
    let no : false ≡ true = subst light (c.in-Down.is) h in absurd (cc)

pub returns-in-Exchange-clause-light : goal.returns-in-Exchange-clause-light
returns-in-Exchange-clause-light g c = λ h is.
    let old = c.args.self.now in
    let light = λ (x : Message). takes_none (live_of old) (name_at (names_of old) (c.args.peer + 1)) (kept_by old) x ≡ true in
    let no : false ≡ true = subst light (c.in-Exchange.is) h in absurd (cc)

pub returns-in-Reply-clause-light : goal.returns-in-Reply-clause-light
returns-in-Reply-clause-light g c = λ h.
    let old = c.args.self.now in
    let light = λ (x : Message). takes_none (live_of old) (name_at (names_of old) (c.args.peer + 1)) (kept_by old) x ≡ true in
    c.take_reply.ensures.light (not_true _ (subst light c.in-Reply.is h))
