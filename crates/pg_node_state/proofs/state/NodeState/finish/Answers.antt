use Rattle.std.proofs.Common.{◌∙◌, ◌≤◌, ◌<◌, ◌++◌, ◌∷◌, [], nat_eq, ℕ, length, ap, sym, refl, arith, subst}
use Rattle.pg_node_ports.specs.PgGroup.Functions.{upd}
use Rattle.pg_node_ports.specs.PgGroup.Value.{name_of}
use Rattle.pg_node_ports.specs.PgLock.Locks.{locks_of, given_up, is_holder}
use Rattle.pg_node_ports.specs.PgEnds.Processes.{node_of}
use Rattle.pg_node_ports.specs.PgNodeOpens.Opens.{Shows, names_of as opens_names}
use Rattle.pg_node_ports.specs.PgNodeOpens.Readings.{update_of}
use Rattle.pg_node_ports.specs.PgStep.State.{State}
use Rattle.pg_node_state.specs.Ports.{merged_in}
use Rattle.pg_node_ports.specs.Ports.{port_commands}
use Rattle.pg_node_state.specs.States.{live_of, kept_by}
use Rattle.pg_node_state.proofs.Kept.{shows, assembled}
use Rattle.pg_node_state.proofs.Steady.{peers_stay, own_stays, merged_stay, lost_stay, made_stay, given_stay}
use Rattle.pg_node_state.proofs.Turned.{Updates, updates_by}
use Rattle.pg_node_sends.proofs.Updates.{update_is}
use Rattle.pg_node_ports.specs.PgStep.Attempts.{finish}
use Rattle.pg_node_ports.specs.PgStep.declared.answer.Reply.TheVariants as reply
use Rattle.pg_node_ports.specs.PgStep.State.Use.{Spent}
use Rattle.pg_node_ports.specs.PgStep.State.Stage.{Closed}
use Rattle.pg_node_state.proofs.Given.{given_use, of_any, given_stage, given_ports}
use Rattle.pg_node_state.proofs.Given.{of_none, updating_came, gathered_named}
use Rattle.pg_node_state.proofs.state.NodeState.finish.Goals as goal

pub reserve_answer-requires : goal.reserve_answer-requires
reserve_answer-requires g c =
    let old = c.args.self.now in
    let parts : Updates ((kept_by old).uses c.args.number) c.args.op c.args.lock = updates_by ((kept_by old).uses c.args.number) c.args.op c.args.lock c.requires.updating in
    record { place = (updating_came c.args.number c.args.op parts.update c.args.lock parts.replied old.given parts.is).port }

pub keep_reserved-requires : goal.keep_reserved-requires
keep_reserved-requires g c =
    let old = c.args.self.now in
    let parts : Updates ((kept_by old).uses c.args.number) c.args.op c.args.lock = updates_by ((kept_by old).uses c.args.number) c.args.op c.args.lock c.requires.updating in
    record {
      place = subst (λ (n : ℕ). c.args.op.port < n) (sym c.reserve_answer.ensures.len) (updating_came c.args.number c.args.op parts.update c.args.lock parts.replied old.given parts.is).port;
      room = c.in_ok-reserve_answer.ensures.ok;
    }

pub invariant_of-self : goal.invariant_of-self
invariant_of-self g c =
    let old = c.args.self.now in
    record {
      peers = old.peers;
      own = old.own;
      forgotten = old.forgotten;
      within = old.within;
      made = old.made;
      counted = λ port. subst (λ (f : ℕ → ℕ). f port ≤ old.clock) (sym c.reserve_answer.ensures.counts) (old.counted port);
      given = given_ports (length old.ports.items) (length c.reserve_answer.new.ports.items) (port_commands old.ports.items) (port_commands c.reserve_answer.new.ports.items) c.reserve_answer.ensures.len c.reserve_answer.ensures.counts old.given;
      few = old.few;
    }

pub invariant_of-self-in-Break-branch-2 : goal.invariant_of-self-in-Break-branch-2
invariant_of-self-in-Break-branch-2 g c =
    let old = c.args.self.now in
    record {
      peers = old.peers;
      own = old.own;
      forgotten = old.forgotten;
      within = old.within;
      made = old.made;
      counted = λ port. subst (λ (f : ℕ → ℕ). f port ≤ old.clock) (sym c.reserve_answer.ensures.counts) (old.counted port);
      given = given_ports (length old.ports.items) (length c.reserve_answer.new.ports.items) (port_commands old.ports.items) (port_commands c.reserve_answer.new.ports.items) c.reserve_answer.ensures.len c.reserve_answer.ensures.counts old.given;
      few = old.few;
    }

pub invariant_of-self-2 : goal.invariant_of-self-2
invariant_of-self-2 g c =
    let old = c.args.self.now in
    let parts : Updates ((kept_by old).uses c.args.number) c.args.op c.args.lock = updates_by ((kept_by old).uses c.args.number) c.args.op c.args.lock c.requires.updating in
    let s : State = (finish (live_of old) c.args.number c.args.op parts.update c.args.lock (kept_by old)).state in
    let new = c.finish.new.self in
    let turned : Shows new s = c.finish.ensures.turned c.args.op parts.update c.args.lock parts.replied parts.is (kept_by old) (shows old) in
    let nodes = c.finish.ensures.nodes in
    let counts = c.keep_reserved.ensures.counts ∙ c.reserve_answer.ensures.counts in
    let len = c.keep_reserved.ensures.len ∙ c.reserve_answer.ensures.len in
    let came = updating_came c.args.number c.args.op parts.update c.args.lock parts.replied old.given parts.is in
    record {
      peers = peers_stay old.opens new s turned nodes old.formation old.peers;
      own = own_stays old.opens new s turned nodes (node_of old.processes) old.own;
      forgotten = lost_stay old.opens new s turned nodes refl old.formation old.forgotten;
      within = c.requires.now.within;
      made = made_stay old.opens new s turned nodes c.args.clock (omega (arith, old.made, c.requires.now.later));
      counted = λ port. subst (λ (f : ℕ → ℕ). f port ≤ c.args.clock) (sym counts) (omega (arith, old.counted port, c.requires.now.later));
      given = given_ports (length old.ports.items) (length c.keep_reserved.new.ports.items) (port_commands old.ports.items) (port_commands c.keep_reserved.new.ports.items) len counts
          (given_stay old.opens new s turned nodes (given_use c.args.number Spent of_none (given_use c.args.lock Spent of_none (given_stage c.args.op Closed (of_any came) old.given))));
      few = λ name pid. omega (arith, old.few name pid, c.requires.now.later);
    }

pub returns-clause-happens : goal.returns-clause-happens
returns-clause-happens g c = λ update replied is.
    let old = c.args.self.now in
    let new = c.finish.new.self in
    let t : State = (finish (live_of old) c.args.number c.args.op update c.args.lock (kept_by old)).state in
    let turned : Shows new t = c.finish.ensures.turned c.args.op update c.args.lock replied is (kept_by old) (shows old) in
    let name = c.name-name.ensures ∙ ap name_of (update_is c.update_under.result.now update (sym c.update_under.ensures ∙ ap update_of is)) in
    let lock = c.own_under-held.ensures in
    let answers = c.reserve_answer.ensures.answers in
    record {
      told = record { sends = c.in_ok-done.ensures.sends c.args.op update c.args.lock replied is; began = c.in_ok-done.ensures.began; odd = c.in_ok-done.ensures.odd };
      state = assembled c.args.clock t new ((kept_by old).table) ((kept_by old).ended) (locks_of c.give_up_own.new.locks) (merged_in (opens_names new) old.formation) ((kept_by old).processes) (port_commands c.keep_reserved.new.ports.items)
          turned refl refl (c.give_up_own.ensures ∙ (λ i. given_up (is_holder (locks_of old.locks (name i)) (lock i)) (locks_of old.locks) (name i)))
          (merged_stay old.opens new t turned c.finish.ensures.nodes old.formation) refl (c.keep_reserved.ensures.counts ∙ c.reserve_answer.ensures.counts);
      answers = (reply.Ok, refl, c.keep_reserved.ensures.kept ∙ (λ i. upd nat_eq (answers i) c.args.op.port (answers i c.args.op.port ++ record { number = c.args.op.number; reply = reply.Ok } ∷ [])));
    }

pub ended-requires-clause-named : goal.ended-requires-clause-named
ended-requires-clause-named g c =
    let old = c.args.self.now in
    gathered_named (length old.ports.items) (port_commands old.ports.items) c.args.number old.given
