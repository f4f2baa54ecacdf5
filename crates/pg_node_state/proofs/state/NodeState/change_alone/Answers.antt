use Rattle.std.proofs.Common.{◌≡◌, ◌∙◌, ◌+◌, ◌-◌, ◌<◌, ◌≤◌, ◌^◌, ◌++◌, ◌∷◌, [], ℕ}
use Rattle.std.proofs.Common.{true, false, length, nat_eq, ap, sym, refl, subst, arith}
use Rattle.pg_node_ports.specs.PgStep.Machines.Clocked.{stamped}
use Rattle.pg_node_ports.specs.PgGroup.declared.update.Update.{Update as Change}
use Rattle.pg_node_ports.specs.PgGroup.Ended.{ended_of}
use Rattle.pg_node_ports.specs.PgGroup.Functions.{upd}
use Rattle.pg_node_ports.specs.PgGroup.Table.{Table, changed}
use Rattle.pg_node_ports.specs.PgGroup.Value.{count_in}
use Rattle.pg_node_ports.specs.PgLock.Locks.{locks_of}
use Rattle.pg_node_ports.specs.PgEnds.Processes.{node_of}
use Rattle.pg_term.specs.Same.{same_atom}
use Rattle.pg_node_ports.specs.PgNodeOpens.Opens.{Shows, names_of as opens_names}
use Rattle.pg_node_ports.specs.PgStep.Attempts.{attempt}
use Rattle.pg_node_ports.specs.PgStep.declared.answer.Reply.TheVariants as reply
use Rattle.pg_node_ports.specs.PgStep.Nodes.{Node, Nodes, is_peer, greatest}
use Rattle.pg_node_ports.specs.PgStep.State.{State}
use Rattle.pg_node_ports.specs.PgStep.Turns.{NodeTurn}
use Rattle.pg_node_state.specs.Ports.{merged_in}
use Rattle.pg_node_ports.specs.Ports.{port_commands}
use Rattle.pg_node_state.specs.States.{names_of, live_of, kept_by}
use Rattle.pg_node_sends.specs.Sent.{sends_in}
use Rattle.pg_node_state.proofs.Alone.{no_peers}
use Rattle.pg_node_state.proofs.Attempted.{attempt_ends, lone_turn, lone_sends, lone_locks}
use Rattle.pg_node_state.proofs.Counts.{few_changed}
use Rattle.pg_node_state.proofs.First.{WaitsWith, waits_with, alone_given}
use Rattle.pg_node_sends.proofs.Updates.{same_update}
use Rattle.pg_node_state.proofs.Given.{given_ports, waiting_came}
use Rattle.pg_node_state.proofs.Kept.{shows, assembled, happens_as}
use Rattle.pg_node_state.proofs.Steady.{peers_stay, own_stays, merged_stay, lost_stay, made_stay, given_stay}
use Rattle.pg_node_state.proofs.Turned.{own_apart}
use Rattle.pg_node_state.proofs.state.NodeState.change_alone.Goals as goal

pub reserve_answer-requires : goal.reserve_answer-requires
reserve_answer-requires g c =
    let old = c.args.self.now in
    let waiting : WaitsWith ((kept_by old).stages c.args.op) = waits_with ((kept_by old).stages c.args.op) c.requires.waits in
    record { place = (waiting_came c.args.op waiting.update old.given waiting.is).port }

pub keep_reserved-requires : goal.keep_reserved-requires
keep_reserved-requires g c =
    let old = c.args.self.now in
    let waiting : WaitsWith ((kept_by old).stages c.args.op) = waits_with ((kept_by old).stages c.args.op) c.requires.waits in
    record {
      place = subst (λ (n : ℕ). c.args.op.port < n) (sym c.reserve_answer.ensures.len) (waiting_came c.args.op waiting.update old.given waiting.is).port;
      room = c.in_ok-reserve_answer.ensures.ok;
    }

pub invariant_of-self : goal.invariant_of-self
invariant_of-self g c =
    let old = c.args.self.now in
    record {
      peers = old.peers;
      own = old.own;
      forgotten = old.forgotten;
      within = old.within;
      made = old.made;
      counted = λ port. subst (λ (f : ℕ → ℕ). f port ≤ old.clock) (sym c.reserve_answer.ensures.counts) (old.counted port);
      given = given_ports (length old.ports.items) (length c.reserve_answer.new.ports.items) (port_commands old.ports.items) (port_commands c.reserve_answer.new.ports.items) c.reserve_answer.ensures.len c.reserve_answer.ensures.counts old.given;
      few = old.few;
    }

pub invariant_of-self-in-Break-branch-2 : goal.invariant_of-self-in-Break-branch-2
invariant_of-self-in-Break-branch-2 g c =
    let old = c.args.self.now in
    record {
      peers = old.peers;
      own = old.own;
      forgotten = old.forgotten;
      within = old.within;
      made = old.made;
      counted = λ port. subst (λ (f : ℕ → ℕ). f port ≤ old.clock) (sym c.reserve_answer.ensures.counts) (old.counted port);
      given = given_ports (length old.ports.items) (length c.reserve_answer.new.ports.items) (port_commands old.ports.items) (port_commands c.reserve_answer.new.ports.items) c.reserve_answer.ensures.len c.reserve_answer.ensures.counts old.given;
      few = old.few;
    }

pub invariant_of-self-in-Err-1 : goal.invariant_of-self-in-Err-1
invariant_of-self-in-Err-1 g c =
    let old = c.args.self.now in
    record {
      peers = old.peers;
      own = old.own;
      forgotten = old.forgotten;
      within = old.within;
      made = old.made;
      counted = λ port. subst (λ (f : ℕ → ℕ). f port ≤ old.clock) (sym c.reserve_answer.ensures.counts) (old.counted port);
      given = given_ports (length old.ports.items) (length c.reserve_answer.new.ports.items) (port_commands old.ports.items) (port_commands c.reserve_answer.new.ports.items) c.reserve_answer.ensures.len c.reserve_answer.ensures.counts old.given;
      few = λ name pid. subst (λ (t : Table). count_in (t name) pid ≤ 2 ^ 32 + old.clock) (sym c.in-Err.ensures.err) (old.few name pid);
    }

pub invariant_of-self-in-Ok : goal.invariant_of-self-in-Ok
invariant_of-self-in-Ok g c =
    let old = c.args.self.now in
    let m : Nodes = live_of old in
    let op = c.args.op in
    let waiting : WaitsWith ((kept_by old).stages op) = waits_with ((kept_by old).stages op) c.requires.waits in
    let update = waiting.update in
    let grants = c.requires.grants update waiting.is in
    let own : greatest m ≡ m.own = sym c.requires.own in
    let apart : (q : Node) → is_peer m q ≡ true → same_atom m.own q ≡ false = own_apart old.opens in
    let s : State = (lone_turn m op update (kept_by old) own apart).state in
    let new = c.end_alone.new.opens in
    let whole = attempt_ends m op update (kept_by old) own apart grants (no_peers m c.requires.alone) in
    let turned : Shows new s = subst (λ (t : NodeTurn). Shows new t.state) whole (c.end_alone.ensures.turned update waiting.is (kept_by old) (shows old) grants) in
    let nodes = c.end_alone.ensures.nodes in
    let counts = c.keep_reserved.ensures.counts ∙ c.reserve_answer.ensures.counts in
    let len = c.keep_reserved.ensures.len ∙ c.reserve_answer.ensures.len in
    record {
      peers = peers_stay old.opens new s turned nodes old.formation old.peers;
      own = own_stays old.opens new s turned nodes (node_of old.processes) old.own;
      forgotten = lost_stay old.opens new s turned nodes refl old.formation old.forgotten;
      within = c.requires.within;
      made = made_stay old.opens new s turned nodes c.args.clock (omega (arith, c.requires.made));
      counted = λ port. subst (λ (f : ℕ → ℕ). f port ≤ c.args.clock) (sym counts) (omega (arith, old.counted port, c.requires.later));
      given = given_ports (length old.ports.items) (length c.keep_reserved.new.ports.items) (port_commands old.ports.items) (port_commands c.keep_reserved.new.ports.items) len counts
          (given_stay old.opens new s turned nodes (alone_given m op update (kept_by old) own apart (waiting_came op update old.given waiting.is) old.given));
      few = few_changed (2 ^ 32 + c.args.clock - 1) (2 ^ 32 + c.args.clock) (g.T.GroupTable.contents old.table) (g.T.GroupTable.contents c.apply.new.self) c.waiting_under-update.result.now (ended_of old.ended)
          (omega arith) (λ name pid. omega (arith, c.requires.few name pid)) c.in-Ok.ensures.ok;
    }

pub returns-in-Ok-clause-happens : goal.returns-in-Ok-clause-happens
returns-in-Ok-clause-happens g c = λ update is.
    let old = c.args.self.now in
    let m : Nodes = live_of old in
    let op = c.args.op in
    let contents = g.T.GroupTable.contents in
    let grants = c.requires.grants update is in
    let own : greatest m ≡ m.own = sym c.requires.own in
    let apart : (q : Node) → is_peer m q ≡ true → same_atom m.own q ≡ false = own_apart old.opens in
    let s : State = (lone_turn m op update (kept_by old) own apart).state in
    let new = c.end_alone.new.opens in
    let whole = attempt_ends m op update (kept_by old) own apart grants (no_peers m c.requires.alone) in
    let turned : Shows new s = subst (λ (t : NodeTurn). Shows new t.state) whole (c.end_alone.ensures.turned update is (kept_by old) (shows old) grants) in
    let changes : c.waiting_under-update.result.now ≡ update = same_update c.waiting_under-update.result.now update (sym c.waiting_under-update.ensures ∙ is) in
    let answers = c.reserve_answer.ensures.answers in
    happens_as (names_of old) (names_of old) c.args.clock (attempt m op update (kept_by old)) (lone_turn m op update (kept_by old) own apart) _ _ _ _ refl (sym whole) (record {
      told = record {
        sends = ap (sends_in (names_of old)) c.in_ok-done.ensures.sends ∙ (λ i q. stamped c.args.clock (sym (lone_sends m op update (kept_by old) own apart (no_peers m c.requires.alone)) i q));
        began = c.in_ok-done.ensures.began update is;
        odd = c.in_ok-done.ensures.odd;
      };
      state = assembled c.args.clock s new (contents c.apply.new.self) ((kept_by old).ended) (locks_of old.locks) (merged_in (opens_names new) old.formation) ((kept_by old).processes) (port_commands c.keep_reserved.new.ports.items)
          turned (c.in-Ok.ensures.ok ∙ ap (λ (u : Change). changed (contents old.table) u (ended_of old.ended)) changes) refl (sym (lone_locks m op update (kept_by old) own apart grants))
          (merged_stay old.opens new s turned c.end_alone.ensures.nodes old.formation) refl (c.keep_reserved.ensures.counts ∙ c.reserve_answer.ensures.counts);
      answers = (reply.Ok, refl, c.keep_reserved.ensures.kept ∙ (λ i. upd nat_eq (answers i) op.port (answers i op.port ++ record { number = op.number; reply = reply.Ok } ∷ [])));
    })
