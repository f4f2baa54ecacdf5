use Rattle.std.proofs.Common.{refl}
use Rattle.pg_node_ports.specs.PgEnds.Processes.{node_of}
use Rattle.pg_node_ports.specs.PgNodeOpens.Opens.{Shows, names_of as opens_names}
use Rattle.pg_node_state.specs.Ports.{merged_in}
use Rattle.pg_node_state.specs.States.{kept_by}
use Rattle.pg_node_state.proofs.Kept.{shows, assembled}
use Rattle.pg_node_state.proofs.Steady.{peers_stay, own_stays, merged_stay}
use Rattle.pg_node_state.proofs.Steady.{lost_stay, made_stay, given_stay, live_stays}
use Rattle.pg_node_state.proofs.state.NodeState.look_for.Goals as goal

pub invariant_of-self : goal.invariant_of-self
invariant_of-self g c =
    let old = c.args.self.now in
    let new = c.look_for.new.self in
    let turned : Shows new (kept_by old) = c.look_for.ensures.same (kept_by old) (shows old) in
    let nodes = c.look_for.ensures.nodes in
    record {
      peers = peers_stay old.opens new (kept_by old) turned nodes old.formation old.peers;
      own = own_stays old.opens new (kept_by old) turned nodes (node_of old.processes) old.own;
      forgotten = lost_stay old.opens new (kept_by old) turned nodes refl old.formation old.forgotten;
      within = old.within;
      made = made_stay old.opens new (kept_by old) turned nodes old.clock old.made;
      counted = old.counted;
      given = given_stay old.opens new (kept_by old) turned nodes old.given;
      few = old.few;
    }

pub returns-clause-state : goal.returns-clause-state
returns-clause-state g c =
    let old = c.args.self.now in
    let new = c.look_for.new.self in
    let turned : Shows new (kept_by old) = c.look_for.ensures.same (kept_by old) (shows old) in
    assembled old.clock (kept_by old) new (kept_by old).table (kept_by old).ended (kept_by old).locks (merged_in (opens_names new) old.formation) (kept_by old).processes (kept_by old).counts
    turned refl refl refl (merged_stay old.opens new (kept_by old) turned c.look_for.ensures.nodes old.formation) refl refl

pub returns-clause-live : goal.returns-clause-live
returns-clause-live g c =
    let old = c.args.self.now in
    live_stays old.opens c.look_for.new.self (kept_by old) (c.look_for.ensures.same (kept_by old) (shows old)) c.look_for.ensures.nodes refl
