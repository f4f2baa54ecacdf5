use Rattle.pg_node_ports.specs.PgMessageTypes.declared.message.Message.TheVariants.{Reply}
use Rattle.pg_node_ports.specs.PgRefs.Numbered.{numbered}
use Rattle.pg_node_state.specs.States.{nodes_of}
use Rattle.pg_node_state.proofs.state.NodeState.reply_fault_or_memory.Goals as goal

pub returns : goal.returns
returns g c = c.fault_by.ensures (Reply (numbered (nodes_of c.args.self.now).own c.args.number) c.args.said) c.is_other_kind-is_refused.ensures
