-- A node that runs may cross threads.
use denote.Param.Send.{IsSend, sendable}
use denote.Param.SendFields.{declared_send, variants_send, as_row_send}
use denote.RattleType.{RattleType}
use Rattle.std.proofs.Crossing.{crosses, send as heap_send, sync as heap_sync, frees}
use Rattle.bytes.proofs.unique.BytesMut.TheSendSync.{the_send as bytes_send}
use Rattle.rtrb.proofs.end.End.TheSendSync.{the_send as end_send}
use Rattle.pg_cluster_judges.specs.PgFrame.contracts.deframer.Deframer as Deframer
use Rattle.pg_cluster_judges.specs.PgGroup.declared.table.GroupTable.{Ghosts}
use Rattle.pg_cluster_judges.specs.PgNode.contracts.node.Node as Node
use Rattle.pg_cluster_judges.specs.PgNodeState.contracts.state.NodeState as NodeState
use Rattle.pg_cluster_judges.specs.PgNodeOpens.contracts.command.OpenCommand as OpenCommand
use Rattle.pg_cluster_judges.specs.PgNodeOpens.contracts.opens.Opens as Opens
use Rattle.pg_ring.specs.contracts.ring_in.RingIn as RingIn
use Rattle.pg_ring.specs.contracts.ring_out.RingOut as RingOut
use Rattle.pg_cluster_judges.specs.PgNodeRun.contracts.linked.LinkedNode as LinkedNode
use Rattle.pg_cluster_judges.specs.PgNodeRun.contracts.log.NodeEvent as NodeEvent
use Rattle.pg_cluster_judges.specs.PgNodeRun.contracts.notices.Notice as Notice
use Rattle.pg_cluster_judges.specs.PgNodeRun.contracts.notices.Notices as Notices
use Rattle.pg_cluster_judges.specs.PgNodeRun.contracts.port.Asked as Asked
use Rattle.pg_cluster_judges.specs.PgNodeRun.contracts.port.Port as Port
use Rattle.pg_cluster_judges.specs.PgNodeRun.contracts.run.NodeRun as NodeRun
use Rattle.pg_cluster_judges.specs.PgNodeRun.contracts.running.Ran as Ran
use Rattle.pg_cluster_judges.specs.PgNodeSends.contracts.held.Held as Held
use Rattle.pg_cluster_judges.specs.PgStep.contracts.command.Command as Command
use Rattle.pg_cluster.proofs.TermsSent.{atom_send}
use Rattle.pg_cluster.proofs.PartsSent.{opid_send, update_send, command_send, answer_send}
use Rattle.pg_cluster.proofs.PartsSent.{lock_send, ended_send, formation_send, processes_send}

-- ---- the node

open_command_send : IsSend OpenCommand.the_row
open_command_send = declared_send OpenCommand.the_type (opid_send, (update_send, (search (sendable, crosses) depth 30, (search (sendable, crosses, as_row_send) depth 30, tt))))

opens_send : IsSend Opens.the_row
opens_send = search (sendable, crosses, atom_send, open_command_send) depth 30

deframer_send : IsSend Deframer.the_row
deframer_send = search (sendable, crosses, bytes_send, heap_send, heap_sync, frees) depth 30

state_send : (T : RattleType) (g : Ghosts T.Denot) → IsSend T → IsSend (NodeState.the_row T g)
state_send T g s = declared_send (NodeState.the_type T g) (
  search (sendable, crosses, as_row_send) depth 30,
  (
    opens_send,
    (
      search (sendable, crosses, as_row_send) depth 30,
      (
        ended_send,
        (
          lock_send,
          (
            search (sendable, crosses, as_row_send, formation_send) depth 30,
            (
              processes_send,
              (search (sendable, crosses, as_row_send, answer_send) depth 30, (search (sendable, crosses, as_row_send, heap_send) depth 30, tt)),
            ),
          ),
        ),
      ),
    ),
  ),
)

pub node_send : (T : RattleType) (g : Ghosts T.Denot) → IsSend T → IsSend (Node.the_row T g)
node_send T g s = declared_send (Node.the_type T g) (
  search (sendable, crosses, as_row_send, state_send) depth 30,
  (
    search (sendable, crosses, as_row_send, deframer_send, bytes_send, heap_send, heap_sync, frees) depth 30,
    (
      search (sendable, crosses, as_row_send) depth 30,
      (
        search (sendable, crosses, as_row_send) depth 30,
        (
          search (sendable, crosses, as_row_send, bytes_send, heap_send, heap_sync, frees) depth 30,
          (search (sendable, crosses, as_row_send, heap_send) depth 30, tt),
        ),
      ),
    ),
  ),
)

-- ---- what runs it

pub ring_out_send : IsSend RingOut.the_row
ring_out_send = search (sendable, crosses, end_send) depth 30

pub ring_in_send : IsSend RingIn.the_row
ring_in_send = search (sendable, crosses, end_send) depth 30

held_send : (R : RattleType) → IsSend R → IsSend (Held.the_row R)
held_send R s = search (sendable, crosses) depth 30

event_send : IsSend NodeEvent.the_row
event_send = variants_send NodeEvent.enum (
  (search (sendable, crosses, as_row_send) depth 30, tt),
  (
    (search (sendable, crosses, as_row_send) depth 30, (as_row_send (Held.the_field Command.the_row) (held_send Command.the_row command_send), tt)),
    ((opid_send, tt), ((search (sendable, crosses, as_row_send) depth 30, tt), tt)),
  ),
)

asked_send : IsSend Asked.the_row
asked_send = declared_send Asked.the_type (command_send, (search (sendable, crosses, as_row_send) depth 30, tt))

port_send : IsSend Port.the_row
port_send = declared_send Port.the_type (
  search (sendable, crosses, as_row_send, end_send, asked_send) depth 30,
  (
    search (sendable, crosses, as_row_send, end_send, answer_send) depth 30,
    (search (sendable, crosses, as_row_send, asked_send) depth 30, (search (sendable, crosses, as_row_send) depth 30, tt)),
  ),
)

notice_send : IsSend Notice.the_row
notice_send = search (sendable, crosses) depth 30

notices_send : IsSend Notices.the_row
notices_send = declared_send Notices.the_type (
  search (sendable, crosses, as_row_send, end_send, notice_send) depth 30,
  (search (sendable, crosses, as_row_send, notice_send) depth 30, tt),
)

linked_send : (T L I : RattleType) (g : Ghosts T.Denot) → IsSend T → IsSend L → IsSend I → IsSend (LinkedNode.the_row T L I g)
linked_send T L I g s l i = declared_send (LinkedNode.the_type T L I g) (
  search (sendable, crosses, as_row_send, node_send) depth 30,
  (
    search (sendable, crosses, as_row_send) depth 30,
    (search (sendable, crosses, as_row_send, event_send) depth 30, tt),
  ),
)

pub run_send : (T L I K : RattleType) (g : Ghosts T.Denot) → IsSend T → IsSend L → IsSend I → IsSend K → IsSend (NodeRun.the_row T L I K g)
run_send T L I K g s l i k = declared_send (NodeRun.the_type T L I K g) (
  search (sendable, crosses, as_row_send, linked_send) depth 30,
  (
    search (sendable, crosses, as_row_send, port_send) depth 30,
    (
      search (sendable, crosses, as_row_send) depth 30,
      (
        search (sendable, crosses, as_row_send, notices_send) depth 30,
        (
          search (sendable, crosses, as_row_send) depth 30,
          (
            search (sendable, crosses, as_row_send) depth 30,
            (search (sendable, crosses, as_row_send) depth 30, (search (sendable, crosses, as_row_send, heap_send) depth 30, tt)),
          ),
        ),
      ),
    ),
  ),
)

pub ran_send : (T L I K : RattleType) (g : Ghosts T.Denot) → IsSend T → IsSend L → IsSend I → IsSend K → IsSend (Ran.the_row T L I K g)
ran_send T L I K g s l i k = declared_send (Ran.the_type T L I K g) (
  search (sendable, crosses, as_row_send, run_send) depth 30,
  (search (sendable, crosses, as_row_send) depth 30, (search (sendable, crosses, as_row_send) depth 30, tt)),
)
