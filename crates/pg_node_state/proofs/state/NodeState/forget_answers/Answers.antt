use Rattle.std.proofs.Common.{ap}
use Rattle.pg_node_state.specs.States.{kept_by}
use Rattle.pg_node_state.proofs.Answered.{counts_still, given_still}
use Rattle.pg_node_state.proofs.state.NodeState.forget_answers.Goals as goal

pub invariant_of-self : goal.invariant_of-self
invariant_of-self g c =
    let old = c.args.self.now in
    record {
      peers = old.peers;
      own = old.own;
      forgotten = old.forgotten;
      within = old.within;
      made = old.made;
      counted = counts_still old.ports.items c.forget.new.ports.items c.forget.ensures.len c.forget.ensures.counts old.clock old.counted;
      given = given_still old.ports.items c.forget.new.ports.items c.forget.ensures.len c.forget.ensures.counts old.given;
      few = old.few;
    }

pub returns-clause-state : goal.returns-clause-state
returns-clause-state g c = λ i. record { clock = c.args.self.now.clock; state = record (kept_by c.args.self.now) { counts = c.forget.ensures.counts i } }
