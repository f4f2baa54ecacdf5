use Rattle.std.proofs.Common.{◌∙◌, sym, ap}
use Rattle.pg_node_state.specs.Issued.{ports_of}
use Rattle.pg_node_state.specs.States.{nodes_of, kept_by, state_of, fault_or_memory}
use Rattle.pg_node_state.proofs.Acting.{not_waiting}
use Rattle.pg_node_state.proofs.Kept.{shows}
use Rattle.pg_node_state.proofs.state.NodeState.retry_fault_or_memory.Goals as goal

pub returns-then-not-waits : goal.returns-then-not-waits
returns-then-not-waits g c =
    let old = c.args.self.now in
    ap fault_or_memory (sym (not_waiting (nodes_of old) (ports_of old) (state_of old) c.args.op c.requires.place (sym (c.waits.ensures (kept_by old) (shows old)) ∙ c.if-not-waits.true)))
