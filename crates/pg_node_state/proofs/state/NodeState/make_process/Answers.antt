use Rattle.std.proofs.Common.{◌∙◌, ◌+◌, ℕ, List, refl, ap, arith}
use Rattle.pg_node_ports.specs.PgEnds.Numbers.{pid_of}
use Rattle.pg_node_ports.specs.PgEnds.Processes.{made_of}
use Rattle.pg_node_ports.specs.PgStep.declared.answer.Reply.TheVariants.{Made}
use Rattle.pg_node_ports.specs.Ports.{counted_at}
use Rattle.pg_node_ports.specs.Ports.{port_commands, answers_in}
use Rattle.pg_node_state.specs.States.{names_of, kept_by}
use Rattle.pg_node_sends.specs.Sent.{sends_in}
use Rattle.pg_node_state.proofs.Answered.{counts_within, given_later, given_still, counts_still}
use Rattle.pg_node_ports.proofs.Answered.{answered_on}
use Rattle.pg_node_state.proofs.state.NodeState.make_process.Goals as goal

pub invariant_of-self : goal.invariant_of-self
invariant_of-self g c =
    let old = c.args.self.now in
    record {
      peers = old.peers;
      own = old.own;
      forgotten = old.forgotten;
      within = old.within;
      made = old.made;
      counted = counts_still old.ports.items c.reserve_answer.new.ports.items c.reserve_answer.ensures.len c.reserve_answer.ensures.counts old.clock old.counted;
      given = given_still old.ports.items c.reserve_answer.new.ports.items c.reserve_answer.ensures.len c.reserve_answer.ensures.counts old.given;
      few = old.few;
    }

pub invariant_of-self-in_default : goal.invariant_of-self-in_default
invariant_of-self-in_default g c =
    let old = c.args.self.now in
    record {
      peers = old.peers;
      own = c.make.ensures.kept ∙ old.own;
      forgotten = old.forgotten;
      within = old.within;
      made = old.made;
      counted = counts_still old.ports.items c.reserve_answer.new.ports.items c.reserve_answer.ensures.len c.reserve_answer.ensures.counts old.clock old.counted;
      given = given_still old.ports.items c.reserve_answer.new.ports.items c.reserve_answer.ensures.len c.reserve_answer.ensures.counts old.given;
      few = old.few;
    }

pub give-requires-clause-few : goal.give-requires-clause-few
give-requires-clause-few g c =
    let old = c.args.self.now in
    omega (arith, counts_still old.ports.items c.reserve_answer.new.ports.items c.reserve_answer.ensures.len c.reserve_answer.ensures.counts old.clock old.counted c.args.port, old.within)

pub invariant_of-self-2 : goal.invariant_of-self-2
invariant_of-self-2 g c =
    let old = c.args.self.now in
    let same = c.give.ensures.len ∙ c.reserve_answer.ensures.len in
    let counted = c.give.ensures.counts ∙ ap (λ (f : ℕ → ℕ). counted_at c.args.port f) c.reserve_answer.ensures.counts in
    record {
      peers = old.peers;
      own = c.make.ensures.kept ∙ old.own;
      forgotten = old.forgotten;
      within = c.requires.now.within;
      made = omega (arith, old.made, c.requires.now.later);
      counted = counts_within old.ports.items c.give.new.ports.items c.args.port same counted old.clock c.args.clock old.counted c.requires.now.later;
      given = given_later old.ports.items c.give.new.ports.items c.args.port same counted old.given;
      few = λ name pid. omega (arith, old.few name pid, c.requires.now.later);
    }

pub returns-clause-happens : goal.returns-clause-happens
returns-clause-happens g c =
    let old = c.args.self.now in
    let counted = c.give.ensures.counts ∙ ap (λ (f : ℕ → ℕ). counted_at c.args.port f) c.reserve_answer.ensures.counts in
    record {
      told = record { sends = ap (sends_in (names_of old)) c.nothing.ensures.sends; began = c.nothing.ensures.began; odd = c.nothing.ensures.odd };
      state = λ i. record { clock = c.args.clock; state = record (kept_by old) { counts = counted i; processes = c.in-Ok.ensures.made i } };
      answers = (
        Made c.in-Ok.pid,
        ap Made (c.in-Ok.ensures.pid ∙ ap (λ (node : List ℕ). pid_of node (made_of old.processes + 1)) old.own),
        answered_on (answers_in old.ports.items) (answers_in c.reserve_answer.new.ports.items) (answers_in c.give.new.ports.items) c.args.port (port_commands old.ports.items) (port_commands c.reserve_answer.new.ports.items) (Made c.in-Ok.pid)
            c.reserve_answer.ensures.answers c.reserve_answer.ensures.counts c.give.ensures.answers,
      );
    }

pub returns-in_default-clause-stays : goal.returns-in_default-clause-stays
returns-in_default-clause-stays g c =
    let old = c.args.self.now in
    record {
      state = λ i. record { clock = old.clock; state = record (kept_by old) { counts = c.reserve_answer.ensures.counts i; processes = c.in_default.ensures.err i } };
      answers = c.reserve_answer.ensures.answers;
      names = refl;
      ports = c.reserve_answer.ensures.len;
      forgotten = c.reserve_answer.ensures.forgotten;
    }
