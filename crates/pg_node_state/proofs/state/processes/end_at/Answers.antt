use Rattle.std.proofs.Common.{◌<◌, ◌+◌, ◌^◌, ◌∙◌, ℕ, sym, ap, subst}
use Rattle.pg_node_ports.specs.PgStep.declared.answer.Reply.TheVariants as reply
use Rattle.pg_node_ports.specs.Ports.{counted_at}
use Rattle.pg_node_ports.specs.Ports.{port_commands, answers_in}
use Rattle.pg_node_ports.proofs.Answered.{answered_on}
use Rattle.pg_node_state.proofs.state.processes.end_at.Goals as goal

pub give-requires-clause-few : goal.give-requires-clause-few
give-requires-clause-few g c = subst (λ (f : ℕ → ℕ). f c.args.port + 1 < 2 ^ 32) (sym c.reserve_answer.ensures.counts) c.requires.few

pub returns-clause-counts : goal.returns-clause-counts
returns-clause-counts g c = c.give.ensures.counts ∙ ap (λ (f : ℕ → ℕ). counted_at c.args.port f) c.reserve_answer.ensures.counts

pub returns-clause-answers : goal.returns-clause-answers
returns-clause-answers g c = answered_on (answers_in c.args.ports.now.items) (answers_in c.reserve_answer.new.ports.items) (answers_in c.give.new.ports.items) c.args.port (port_commands c.args.ports.now.items) (port_commands c.reserve_answer.new.ports.items) reply.Ok
    c.reserve_answer.ensures.answers c.reserve_answer.ensures.counts c.give.ensures.answers
