use Rattle.std.proofs.Common.{◌∙◌, ◌&&◌, ap, sym, refl, arith, length}
use Rattle.pg_node_ports.specs.PgGroup.Value.{name_of}
use Rattle.pg_node_ports.specs.PgLock.Locks.{locks_of, given_up, is_holder}
use Rattle.pg_node_ports.specs.PgEnds.Processes.{node_of}
use Rattle.pg_node_ports.specs.PgNodeOpens.Opens.{Shows, names_of as opens_names}
use Rattle.pg_node_ports.specs.PgNodeOpens.Readings.{update_of}
use Rattle.pg_node_ports.specs.PgStep.Attempts.{give_up}
use Rattle.pg_node_ports.specs.PgStep.State.{State}
use Rattle.pg_node_ports.specs.PgStep.State.Use.{Spent}
use Rattle.pg_node_ports.specs.PgStep.State.Stage.{Waiting}
use Rattle.pg_node_state.specs.Ports.{merged_in}
use Rattle.pg_node_ports.specs.Ports.{port_commands}
use Rattle.pg_node_state.specs.States.{live_of, kept_by}
use Rattle.pg_node_state.proofs.Given.{given_use, given_stage, of_none, locking_came, gathered_named}
use Rattle.pg_node_state.proofs.Kept.{shows, assembled}
use Rattle.pg_node_state.proofs.Steady.{peers_stay, own_stays, merged_stay, lost_stay, made_stay, given_stay}
use Rattle.pg_node_state.proofs.Turned.{LockParts, parts_by}
use Rattle.pg_node_sends.proofs.Updates.{update_is}
use Rattle.pg_node_state.proofs.state.NodeState.stop_asking.Goals as goal

pub invariant_of-self-2 : goal.invariant_of-self-2
invariant_of-self-2 g c =
    let old = c.args.self.now in
    let parts : LockParts ((kept_by old).uses c.args.number) = parts_by ((kept_by old).uses c.args.number) c.requires.locking in
    let s : State = (give_up (live_of old) c.args.number parts.op parts.update parts.st (kept_by old)).state in
    let new = c.give_up.new.self in
    let turned : Shows new s = c.give_up.ensures.turned parts.op parts.update parts.first parts.st parts.is (kept_by old) (shows old) in
    let nodes = c.give_up.ensures.nodes in
    let came = locking_came c.args.number parts.op parts.update parts.first parts.st old.given parts.is in
    record {
      peers = peers_stay old.opens new s turned nodes old.formation old.peers;
      own = own_stays old.opens new s turned nodes (node_of old.processes) old.own;
      forgotten = lost_stay old.opens new s turned nodes refl old.formation old.forgotten;
      within = c.requires.now.within;
      made = made_stay old.opens new s turned nodes c.args.clock (omega (arith, old.made, c.requires.now.later));
      counted = λ port. omega (arith, old.counted port, c.requires.now.later);
      given = given_stay old.opens new s turned nodes (given_use c.args.number Spent of_none (given_stage parts.op (Waiting parts.update) came old.given));
      few = λ name pid. omega (arith, old.few name pid, c.requires.now.later);
    }

pub returns-clause-happens : goal.returns-clause-happens
returns-clause-happens g c = λ op update first st is.
    let old = c.args.self.now in
    let new = c.give_up.new.self in
    let t : State = (give_up (live_of old) c.args.number op update st (kept_by old)).state in
    let turned : Shows new t = c.give_up.ensures.turned op update first st is (kept_by old) (shows old) in
    let name = c.name-name.ensures ∙ ap name_of (update_is c.update_under.result.now update (sym c.update_under.ensures ∙ ap update_of is)) in
    let lock = c.own_under-lock.ensures in
    let granted = c.has_granted-granted.ensures op update first st is in
    record {
      told = record { sends = c.in_ok-done.ensures.sends op update first st is; began = c.in_ok-done.ensures.began; odd = c.in_ok-done.ensures.odd };
      state = assembled c.args.clock t new ((kept_by old).table) ((kept_by old).ended) (locks_of c.free_own.new.locks) (merged_in (opens_names new) old.formation) ((kept_by old).processes) ((kept_by old).counts)
          turned refl refl (c.free_own.ensures ∙ (λ i. given_up (granted i && is_holder (locks_of old.locks (name i)) (lock i)) (locks_of old.locks) (name i)))
          (merged_stay old.opens new t turned c.give_up.ensures.nodes old.formation) refl refl;
      answers = refl;
    }

pub freed-requires-clause-named : goal.freed-requires-clause-named
freed-requires-clause-named g c =
    let old = c.args.self.now in
    gathered_named (length old.ports.items) (port_commands old.ports.items) c.args.number old.given
