use Rattle.std.proofs.Common.{◌∙◌, ◌&&◌, ap, sym, refl, arith, true, length}
use Rattle.pg_node_ports.specs.PgGroup.Value.{name_of}
use Rattle.pg_node_ports.specs.PgLock.Locks.{locks_of, after_ask}
use Rattle.pg_node_ports.specs.PgEnds.Processes.{node_of}
use Rattle.pg_node_ports.specs.PgNodeOpens.Opens.{Shows, names_of as opens_names}
use Rattle.pg_node_ports.specs.PgNodeOpens.Readings.{update_of}
use Rattle.pg_node_ports.specs.PgStep.State.{State}
use Rattle.pg_node_state.specs.Ports.{merged_in}
use Rattle.pg_node_ports.specs.Ports.{port_commands}
use Rattle.pg_node_state.specs.States.{live_of, kept_by}
use Rattle.pg_node_state.proofs.Kept.{shows, assembled}
use Rattle.pg_node_state.proofs.Steady.{peers_stay, own_stays, merged_stay, lost_stay, made_stay, given_stay}
use Rattle.pg_node_state.proofs.Turned.{LockParts, parts_by}
use Rattle.pg_node_sends.proofs.Updates.{update_is}
use Rattle.pg_node_ports.specs.PgStep.Attempts.{ask, with_asked}
use Rattle.pg_node_ports.specs.PgStep.Peers.{would_grant}
use Rattle.pg_node_ports.specs.PgStep.State.Use.{Locking}
use Rattle.pg_node_state.proofs.Given.{given_use, of_lock, locking_came, gathered_named}
use Rattle.pg_node_state.proofs.state.NodeState.ask_rest.Goals as goal

pub invariant_of-self-in-Ok : goal.invariant_of-self-in-Ok
invariant_of-self-in-Ok g c =
    let old = c.args.self.now in
    let parts : LockParts ((kept_by old).uses c.args.number) = parts_by ((kept_by old).uses c.args.number) c.requires.locking in
    let s : State = (ask (live_of old) (λ q. true) c.args.number parts.op parts.update parts.first parts.st (kept_by old)).state in
    let new = c.ask.new.self in
    let turned : Shows new s = c.ask.ensures.turned parts.op parts.update parts.first parts.st parts.is (kept_by old) (shows old) (sym (c.would_grant-granted.ensures parts.op parts.update parts.first parts.st parts.is)) in
    let nodes = c.ask.ensures.nodes in
    let came = locking_came c.args.number parts.op parts.update parts.first parts.st old.given parts.is in
    record {
      peers = peers_stay old.opens new s turned nodes old.formation old.peers;
      own = own_stays old.opens new s turned nodes (node_of old.processes) old.own;
      forgotten = lost_stay old.opens new s turned nodes refl old.formation old.forgotten;
      within = c.requires.now.within;
      made = made_stay old.opens new s turned nodes c.args.clock (omega (arith, old.made, c.requires.now.later));
      counted = λ port. omega (arith, old.counted port, c.requires.now.later);
      given = given_stay old.opens new s turned nodes (given_use c.args.number (Locking parts.op parts.update parts.first (with_asked (live_of old) (λ q. true) parts.st (would_grant (live_of old) (kept_by old) (name_of parts.update))))
          (of_lock parts.op parts.update parts.first (with_asked (live_of old) (λ q. true) parts.st (would_grant (live_of old) (kept_by old) (name_of parts.update))) came) old.given);
      few = λ name pid. omega (arith, old.few name pid, c.requires.now.later);
    }

pub returns-in-Ok-clause-happens : goal.returns-in-Ok-clause-happens
returns-in-Ok-clause-happens g c = λ op update first st is.
    let old = c.args.self.now in
    let new = c.ask.new.self in
    let t : State = (ask (live_of old) (λ q. true) c.args.number op update first st (kept_by old)).state in
    let would = c.would_grant-granted.ensures op update first st is in
    let turned : Shows new t = c.ask.ensures.turned op update first st is (kept_by old) (shows old) (sym would) in
    let name = c.name-name.ensures ∙ ap name_of (update_is c.update_under.result.now update (sym c.update_under.ensures ∙ ap update_of is)) in
    let lock = c.own_under-lock.ensures in
    let asked = c.is_asked_by.ensures.own op update first st is refl in
    record {
      told = record { sends = c.in_ok-done.ensures.sends op update first st is; began = c.in_ok-done.ensures.began; odd = c.in_ok-done.ensures.odd };
      state = assembled c.args.clock t new ((kept_by old).table) ((kept_by old).ended) (locks_of c.ask_own.new.locks) (merged_in (opens_names new) old.formation) ((kept_by old).processes) ((kept_by old).counts)
          turned refl refl (c.in-Ok.ensures.ok ∙ (λ i. after_ask (asked i && would i) (locks_of old.locks) (name i) (lock i)))
          (merged_stay old.opens new t turned c.ask.ensures.nodes old.formation) refl refl;
      answers = refl;
    }

pub asked-requires-clause-named : goal.asked-requires-clause-named
asked-requires-clause-named g c =
    let old = c.args.self.now in
    gathered_named (length old.ports.items) (port_commands old.ports.items) c.args.number old.given
