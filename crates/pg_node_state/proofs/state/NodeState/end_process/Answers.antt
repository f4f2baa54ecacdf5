use Rattle.std.proofs.Common.{◌≤◌, ◌+◌, ◌^◌, ◌∙◌, true, List, refl, sym, ap, subst, append-nil, arith}
use Rattle.std.proofs.Math.Path.{fun_ext}
use Rattle.pg_node_ports.specs.PgGroup.Table.{Table}
use Rattle.pg_node_ports.specs.PgGroup.Value.{count_in}
use Rattle.pg_node_ports.specs.PgStep.Machines.Clocked.{stamped}
use Rattle.pg_node_ports.specs.PgMessageTypes.declared.message.Message.{Message}
use Rattle.pg_node_ports.specs.PgMessageTypes.declared.message.Message.TheVariants.{Down}
use Rattle.pg_node_ports.specs.PgStep.declared.answer.Reply.TheVariants as reply
use Rattle.pg_node_ports.specs.PgStep.Nodes.{to_peers}
use Rattle.pg_node_state.specs.States.{live_of, kept_by}
use Rattle.pg_node_state.proofs.Answered.{counts_within, given_later, given_still, counts_still}
use Rattle.pg_node_state.proofs.Counts.{few_without}
use Rattle.pg_node_state.proofs.state.NodeState.end_process.Goals as goal

pub end_at-requires-clause-few : goal.end_at-requires-clause-few
end_at-requires-clause-few g c =
    let old = c.args.self.now in
    omega (arith, old.counted c.args.port, old.within)

pub invariant_of-self : goal.invariant_of-self
invariant_of-self g c =
    let old = c.args.self.now in
    let failed = c.in_err-end_at.ensures in
    record {
      peers = old.peers;
      own = old.own;
      forgotten = old.forgotten;
      within = old.within;
      made = old.made;
      counted = counts_still old.ports.items c.end_at.new.ports.items c.end_at.ensures.len failed.err_counts old.clock old.counted;
      given = given_still old.ports.items c.end_at.new.ports.items c.end_at.ensures.len failed.err_counts old.given;
      few = λ name pid. subst (λ (table : Table). count_in (table name) pid ≤ 2 ^ 32 + old.clock) (sym failed.err_table) (old.few name pid);
    }

pub invariant_of-self-2 : goal.invariant_of-self-2
invariant_of-self-2 g c =
    let old = c.args.self.now in
    let done = c.in_ok-end_at.ensures in
    let contents = g.T.GroupTable.contents in
    record {
      peers = old.peers;
      own = old.own;
      forgotten = old.forgotten;
      within = c.requires.now.within;
      made = omega (arith, old.made, c.requires.now.later);
      counted = counts_within old.ports.items c.end_at.new.ports.items c.args.port c.end_at.ensures.len done.counts old.clock c.args.clock old.counted c.requires.now.later;
      given = given_later old.ports.items c.end_at.new.ports.items c.args.port c.end_at.ensures.len done.counts old.given;
      few = few_without (2 ^ 32 + old.clock) (2 ^ 32 + c.args.clock) (contents old.table) (contents c.end_at.new.table) c.args.pid.now (omega (arith, c.requires.now.later)) old.few done.dropped;
    }

pub returns-clause-happens : goal.returns-clause-happens
returns-clause-happens g c =
    let old = c.args.self.now in
    let done = c.in_ok-end_at.ensures in
    record {
      told = record {
        sends = c.in_ok-sends.ensures.sends ∙ fun_ext (λ q. ap (λ (sent : List Message). stamped c.args.clock sent) (sym (append-nil (to_peers (live_of old) (λ q. true) (Down c.args.pid.now) q))));
        began = refl;
        odd = refl;
      };
      state = λ i. record { clock = c.args.clock; state = record (kept_by old) { table = done.dropped i; ended = done.ended i; counts = done.counts i } };
      answers = (reply.Ok, refl, done.answers);
    }
