use Rattle.std.proofs.Common.{◌∙◌, ◌+◌, ◌*◌, ◌^◌, ◌≤◌, Bool, List, length, ap, sym, arith, subst}
use Rattle.pg_node_ports.specs.PgEnds.Processes.{made_of}
use Rattle.pg_node_ports.specs.PgNodeOpens.Places.{name_at}
use Rattle.pg_node_ports.specs.PgNodeOpens.Opens as opens
use Rattle.pg_node_ports.specs.PgStep.Nodes.{Node}
use Rattle.pg_node_state.specs.Ports.{merged_in}
use Rattle.pg_node_ports.specs.Ports.{port_commands}
use Rattle.pg_node_state.specs.States.{names_of, kept_by}
use Rattle.pg_node_state.proofs.Counts.{few_without_node}
use Rattle.pg_node_state.proofs.Merged.{merged_set, marks_length, both_set}
use Rattle.pg_node_state.proofs.Given.{given_same, given_without}
use Rattle.pg_node_state.proofs.Kept.{shows}
use Rattle.pg_node_state.proofs.state.NodeState.forget_peer.Goals as goal

pub invariant_of-self-2 : goal.invariant_of-self-2
invariant_of-self-2 g c =
    let old = c.args.self.now in
    let contents = g.T.GroupTable.contents in
    let names : List Node = names_of old in
    let name : Node = name_at names (c.args.peer + 1) in
    let turned = c.lose.ensures.turned (kept_by old) (shows old) in
    let nodes = c.lose.ensures.nodes in
    let merged = ap (λ (ns : List Node). merged_in ns c.forget.new.self) nodes ∙ (ap (merged_in names) c.forget.ensures ∙ merged_set names old.formation c.args.peer old.opens.apart old.peers c.requires.place) in
    record {
      peers = ap (λ (ms : List Bool). length ms + 1) c.forget.ensures ∙ (marks_length old.formation c.args.peer (length names) old.peers ∙ sym (ap (λ (ns : List Node). length ns) nodes));
      own = old.own ∙ sym (ap (λ (ns : List Node). name_at ns 0) nodes);
      forgotten = λ q. both_set (opens.lost_of old.opens) (merged_in names old.formation) (opens.lost_of c.lose.new.self) (merged_in (opens.names_of c.lose.new.self) c.forget.new.self) name q
          (sym turned.lost_peers) merged (old.forgotten q);
      within = c.requires.now.within;
      made = subst (λ n. n ≤ 2 * c.args.clock) turned.references (omega (arith, old.made, c.requires.now.later));
      counted = λ port. omega (arith, old.counted port, c.requires.now.later);
      given = given_same turned.uses turned.stages (given_without name old.given);
      few = few_without_node (2 ^ 32 + old.clock) (2 ^ 32 + c.args.clock) (contents old.table) (contents c.forget_node.new.table) name
          (omega (arith, c.requires.now.later)) old.few c.in_ok-forget_node.ensures.table;
    }

pub returns-clause-state : goal.returns-clause-state
returns-clause-state g c =
    let old = c.args.self.now in
    let contents = g.T.GroupTable.contents in
    let names : List Node = names_of old in
    let turned = c.lose.ensures.turned (kept_by old) (shows old) in
    let table = c.in_ok-forget_node.ensures.table in
    let ended = c.in_ok-forget_node.ensures.ended in
    let locks = c.in_ok-forget_node.ensures.locks in
    let merged = ap (λ (ns : List Node). merged_in ns c.forget.new.self) c.lose.ensures.nodes ∙ (ap (merged_in names) c.forget.ensures ∙ merged_set names old.formation c.args.peer old.opens.apart old.peers c.requires.place) in
    λ i. record {
      clock = c.args.clock;
      state = record {
        table = table i;
        ended = ended i;
        locks = locks i;
        merged = merged i;
        lost = sym turned.lost_peers i;
        references = sym turned.references i;
        uses = sym turned.uses i;
        processes = made_of old.processes;
        opened = sym turned.opened i;
        stages = sym turned.stages i;
        counts = port_commands old.ports.items;
      };
    }
