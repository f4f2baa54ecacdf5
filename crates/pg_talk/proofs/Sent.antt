-- What the thread that reads holds may cross threads.
use denote.Param.Send.{IsSend, sendable}
use denote.Param.SendFields.{declared_send, variants_send, as_row_send}
use denote.RattleType.{RattleType}
use Rattle.std.proofs.Crossing.{crosses, send as heap_send, sync as heap_sync, frees}
use Rattle.bytes.proofs.unique.BytesMut.TheSendSync.{the_send as bytes_send}
use Rattle.rtrb.proofs.end.End.TheSendSync.{the_send as end_send}
use Rattle.pg_cluster.specs.PgFrame.contracts.deframer.Deframer as Deframer
use Rattle.pg_cluster.proofs.TermsSent.{atom_send}
use Rattle.pg_cluster.proofs.PartsSent.{command_send}
use Rattle.pg_node_requests.specs.contracts.input.Input as Input
use Rattle.pg_node_requests.specs.contracts.layout.Layout as Layout
use Rattle.pg_node_requests.specs.contracts.layout.NodePorts as NodePorts
use Rattle.pg_talk.specs.contracts.service.reading.Reading as Reading

node_send : IsSend NodePorts.the_row
node_send = search (sendable, crosses, as_row_send, atom_send) depth 30

layout_send : IsSend Layout.the_row
layout_send = search (sendable, crosses, as_row_send, node_send) depth 30

pub input_send : IsSend Input.the_row
input_send = variants_send Input.enum (
  (search (sendable, crosses, as_row_send) depth 30, (command_send, tt)),
  ((search (sendable, crosses, as_row_send) depth 30, tt), (tt, (tt, ((search (sendable, crosses, as_row_send) depth 30, tt), tt)))),
)

deframer_send : IsSend Deframer.the_row
deframer_send = search (sendable, crosses, bytes_send, heap_send, heap_sync, frees) depth 30

pub reading_send : (S : RattleType) → IsSend S → IsSend (Reading.the_row S)
reading_send S s = declared_send (Reading.the_type S) (
  search (sendable, crosses, as_row_send) depth 30,
  (
    search (sendable, crosses, as_row_send, layout_send) depth 30,
    (
      search (sendable, crosses, as_row_send, end_send, input_send) depth 30,
      (
        search (sendable, crosses, as_row_send) depth 30,
        (
          search (sendable, crosses, as_row_send) depth 30,
          (search (sendable, crosses, as_row_send, deframer_send) depth 30, (search (sendable, crosses, as_row_send, heap_send) depth 30, tt)),
        ),
      ),
    ),
  ),
)
