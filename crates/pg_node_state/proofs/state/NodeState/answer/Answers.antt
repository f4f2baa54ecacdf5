use Rattle.std.proofs.Common.{◌∙◌, ℕ, ap, arith}
use Rattle.pg_node_ports.specs.Ports.{counted_at}
use Rattle.pg_node_ports.specs.Ports.{port_commands, answers_in}
use Rattle.pg_node_state.specs.States.{names_of, kept_by}
use Rattle.pg_node_sends.specs.Sent.{sends_in}
use Rattle.pg_node_state.proofs.Answered.{counts_within, given_later, given_still, counts_still}
use Rattle.pg_node_ports.proofs.Answered.{answered_on}
use Rattle.pg_node_state.proofs.state.NodeState.answer.Goals as goal

pub invariant_of-self-in-Err-1 : goal.invariant_of-self-in-Err-1
invariant_of-self-in-Err-1 g c =
    let old = c.args.self.now in
    record {
      peers = old.peers;
      own = old.own;
      forgotten = old.forgotten;
      within = old.within;
      made = old.made;
      counted = counts_still old.ports.items c.reserve_answer.new.ports.items c.reserve_answer.ensures.len c.reserve_answer.ensures.counts old.clock old.counted;
      given = given_still old.ports.items c.reserve_answer.new.ports.items c.reserve_answer.ensures.len c.reserve_answer.ensures.counts old.given;
      few = old.few;
    }

pub give-requires-clause-few : goal.give-requires-clause-few
give-requires-clause-few g c =
    let old = c.args.self.now in
    omega (arith, counts_still old.ports.items c.reserve_answer.new.ports.items c.reserve_answer.ensures.len c.reserve_answer.ensures.counts old.clock old.counted c.args.port, old.within)

pub invariant_of-self : goal.invariant_of-self
invariant_of-self g c =
    let old = c.args.self.now in
    let same = c.give.ensures.len ∙ c.reserve_answer.ensures.len in
    let counted = c.give.ensures.counts ∙ ap (λ (f : ℕ → ℕ). counted_at c.args.port f) c.reserve_answer.ensures.counts in
    record {
      peers = old.peers;
      own = old.own;
      forgotten = old.forgotten;
      within = c.requires.now.within;
      made = omega (arith, old.made, c.requires.now.later);
      counted = counts_within old.ports.items c.give.new.ports.items c.args.port same counted old.clock c.args.clock old.counted c.requires.now.later;
      given = given_later old.ports.items c.give.new.ports.items c.args.port same counted old.given;
      few = λ name pid. omega (arith, old.few name pid, c.requires.now.later);
    }

pub returns-in-Ok-clause-happens : goal.returns-in-Ok-clause-happens
returns-in-Ok-clause-happens g c response fits =
    let old = c.args.self.now in
    let counted = c.give.ensures.counts ∙ ap (λ (f : ℕ → ℕ). counted_at c.args.port f) c.reserve_answer.ensures.counts in
    record {
      told = record { sends = ap (sends_in (names_of old)) c.nothing.ensures.sends; began = c.nothing.ensures.began; odd = c.nothing.ensures.odd };
      state = λ i. record { clock = c.args.clock; state = record (kept_by old) { counts = counted i } };
      answers = (
        c.args.reply,
        fits,
        answered_on (answers_in old.ports.items) (answers_in c.reserve_answer.new.ports.items) (answers_in c.give.new.ports.items) c.args.port (port_commands old.ports.items) (port_commands c.reserve_answer.new.ports.items) c.args.reply
            c.reserve_answer.ensures.answers c.reserve_answer.ensures.counts c.give.ensures.answers,
      );
    }
