use Rattle.std.proofs.Common.{◌≡◌, ◌∙◌, ◌+◌, true, false, sym, refl, subst, arith}
use Rattle.pg_node_ports.specs.PgStep.Machines.Clocked.{stamped}
use Rattle.pg_node_ports.specs.PgMessageTypes.declared.message.Message.{Message}
use Rattle.pg_node_ports.specs.PgMessageTypes.declared.message.Message.TheVariants.{Call}
use Rattle.pg_node_ports.specs.PgMessageTypes.declared.message.Request.TheVariants.{SetLock}
use Rattle.pg_node_ports.specs.PgGroup.Value.{name_of}
use Rattle.pg_node_ports.specs.PgLock.Locks.{locks_of}
use Rattle.pg_node_ports.specs.PgEnds.Processes.{node_of}
use Rattle.pg_term.specs.Same.{same_atom}
use Rattle.pg_node_ports.specs.PgNodeOpens.Opens.{Shows, names_of as opens_names}
use Rattle.pg_node_ports.specs.PgStep.Attempts.{own_reference, attempt}
use Rattle.pg_node_ports.specs.PgStep.Nodes.{Node, Nodes, is_node, is_peer, greatest, to_one}
use Rattle.pg_node_ports.specs.PgStep.State.{State}
use Rattle.pg_node_state.specs.Issued.{asked_first}
use Rattle.pg_node_state.specs.Ports.{merged_in}
use Rattle.pg_node_state.specs.States.{names_of, live_of, kept_by}
use Rattle.pg_node_state.proofs.Attempted.{attempt_waits, locks_stay, sent_to_it}
use Rattle.pg_node_state.proofs.First.{WaitsWith, waits_with, peer_is_node, first_state, first_given}
use Rattle.pg_node_state.proofs.Given.{waiting_came}
use Rattle.pg_node_state.proofs.Kept.{shows, assembled, happens_as}
use Rattle.pg_node_state.proofs.Steady.{peers_stay, own_stays, merged_stay, lost_stay, made_stay, given_stay}
use Rattle.pg_node_state.proofs.Turned.{own_apart}
use Rattle.pg_node_state.proofs.state.NodeState.ask_greatest.Goals as goal

pub invariant_of-self : goal.invariant_of-self
invariant_of-self g c =
    let old = c.args.self.now in
    let waiting : WaitsWith ((kept_by old).stages c.args.op) = waits_with ((kept_by old).stages c.args.op) c.requires.waits in
    let s : State = first_state (live_of old) c.args.op waiting.update (kept_by old) in
    let new = c.ask_first.new.opens in
    let turned : Shows new s = c.ask_first.ensures.turned waiting.update waiting.is (kept_by old) (shows old) (sym (c.would_grant_to-granted.ensures waiting.update waiting.is)) in
    let nodes = c.ask_first.ensures.nodes in
    record {
      peers = peers_stay old.opens new s turned nodes old.formation old.peers;
      own = own_stays old.opens new s turned nodes (node_of old.processes) old.own;
      forgotten = lost_stay old.opens new s turned nodes refl old.formation old.forgotten;
      within = c.requires.within;
      made = made_stay old.opens new s turned nodes c.args.clock (omega (arith, c.requires.made));
      counted = λ port. omega (arith, old.counted port, c.requires.later);
      given = given_stay old.opens new s turned nodes (first_given (live_of old) c.args.op waiting.update (kept_by old) (waiting_came c.args.op waiting.update old.given waiting.is) old.given);
      few = λ name pid. omega (arith, c.requires.few name pid);
    }

pub returns-clause-happens : goal.returns-clause-happens
returns-clause-happens g c = λ update is.
    let old = c.args.self.now in
    let m : Nodes = live_of old in
    let op = c.args.op in
    let s : State = first_state m op update (kept_by old) in
    let new = c.ask_first.new.opens in
    let turned : Shows new s = c.ask_first.ensures.turned update is (kept_by old) (shows old) (sym (c.would_grant_to-granted.ensures update is)) in
    let peer : is_peer m (greatest m) ≡ true = subst (λ (q : Node). is_peer m q ≡ true) c.requires.greatest c.requires.peer in
    let other : same_atom m.own (greatest m) ≡ false = own_apart old.opens (greatest m) peer in
    let node : is_node m (greatest m) ≡ true = peer_is_node m (greatest m) peer in
    let asks : Message = Call (own_reference m ((kept_by old).references + 1)) (SetLock (name_of update)) in
    happens_as (names_of old) (names_of old) c.args.clock (attempt m op update (kept_by old)) (asked_first m op update (kept_by old)) _ _ _ _ refl (sym (attempt_waits m op update (kept_by old) other node)) (record {
      told = record {
        sends = c.in_ok-done.ensures.sends update is
            ∙ (λ i q. stamped c.args.clock (((λ j. to_one (c.requires.greatest j) asks) ∙ sym (sent_to_it m op update (kept_by old) other node peer)) i q));
        began = c.in_ok-done.ensures.began;
        odd = c.in_ok-done.ensures.odd;
      };
      state = assembled c.args.clock s new ((kept_by old).table) ((kept_by old).ended) (locks_of old.locks) (merged_in (opens_names new) old.formation) ((kept_by old).processes) ((kept_by old).counts)
          turned refl refl (sym (locks_stay m op update (kept_by old) other node)) (merged_stay old.opens new s turned c.ask_first.ensures.nodes old.formation) refl refl;
      answers = refl;
    })

pub first_asked-requires-clause-named : goal.first_asked-requires-clause-named
first_asked-requires-clause-named g c = λ update is. (waiting_came c.args.op update c.args.self.now.given is).named
