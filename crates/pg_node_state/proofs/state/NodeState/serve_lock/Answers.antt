use Rattle.std.proofs.Common.{ap, ◌∙◌, ◌+◌, Bool, List}
use Rattle.pg_node_ports.specs.PgLock.Locks.{Locks, locks_of, grants, after_ask}
use Rattle.pg_node_ports.specs.PgStep.Machines.Clocked.{Stamped, stamped}
use Rattle.pg_node_ports.specs.PgMessageTypes.declared.message.Message.{Message}
use Rattle.pg_node_ports.specs.PgMessageTypes.declared.message.Message.TheVariants.{Reply}
use Rattle.pg_node_ports.specs.PgNodeOpens.Places.{name_at}
use Rattle.pg_node_ports.specs.PgStep.Nodes.{Node, to_one}
use Rattle.pg_node_ports.specs.PgStep.Peers.{verdict}
use Rattle.pg_node_ports.specs.PgNodeOpens.Opens.{lost_of}
use Rattle.pg_node_state.specs.States.{names_of, kept_by}
use Rattle.pg_node_state.proofs.Formed.{formed_is}
use Rattle.pg_node_state.proofs.state.NodeState.serve_lock.Goals as goal

pub returns-clause-state : goal.returns-clause-state
returns-clause-state g c =
    let old = c.args.self.now in
    let locks = locks_of old.locks in
    let formed = c.formed-formed.ensures ∙ formed_is (names_of old) (lost_of old.opens) old.formation old.opens.apart old.peers old.forgotten in
    let after = c.in_ok-done.ensures.locks ∙ ap (λ (b : Bool). after_ask (grants b locks c.args.name.now) locks c.args.name.now c.args.reference.now) formed in
    ap (λ (held : Locks). record { clock = c.args.clock; state = record (kept_by old) { locks = held } }) after

pub returns-clause-told : goal.returns-clause-told
returns-clause-told g c =
    let old = c.args.self.now in
    let formed = c.formed-formed.ensures ∙ formed_is (names_of old) (lost_of old.opens) old.formation old.opens.apart old.peers old.forgotten in
    let replied : Bool → Node → List (Stamped Message) = λ b q. stamped c.args.clock (to_one (name_at (names_of old) (c.args.peer + 1)) (Reply c.args.reference.now (verdict (grants b (locks_of old.locks) c.args.name.now))) q) in
    record {
      sends = c.in_ok-done.ensures.sends (names_of old) ∙ ap replied formed;
      began = c.in_ok-done.ensures.began;
      odd = c.in_ok-done.ensures.odd;
    }
