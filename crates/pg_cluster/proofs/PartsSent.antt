-- What a node holds may cross threads.
use denote.Param.Send.{IsSend, sendable}
use denote.Param.SendFields.{declared_send, variants_send, as_row_send}
use denote.Struct.Field.{u8-field, u32-field, u64-field}
use Rattle.std.proofs.Crossing.{crosses, send as heap_send, frees}
use Rattle.std.proofs.MapsCrossing.{crosses as maps}
use Rattle.std.proofs.MapsCrossingOver.{crosses as sets}
use Rattle.pg_cluster_judges.specs.PgStep.contracts.command.Command as Command
use Rattle.pg_cluster_judges.specs.PgStep.contracts.command.OpId as OpId
use Rattle.pg_cluster_judges.specs.PgStep.contracts.answer.Reply as Reply
use Rattle.pg_cluster_judges.specs.PgStep.contracts.answer.Answer as Answer
use Rattle.pg_cluster_judges.specs.PgGroup.contracts.update.Update as Update
use Rattle.pg_cluster_judges.specs.PgGroup.contracts.chunk.Chunk as Chunk
use Rattle.pg_cluster_judges.specs.PgGroup.contracts.ended.Ended as Ended
use Rattle.pg_cluster_judges.specs.PgGroup.contracts.number.Number as Number
use Rattle.pg_cluster_judges.specs.PgGroup.contracts.numbers.Numbers as Numbers
use Rattle.pg_cluster_judges.specs.PgIndex.contracts.index_table.IndexTable as IndexTable
use Rattle.pg_cluster_judges.specs.PgLock.contracts.table.LockTable as LockTable
use Rattle.pg_index_members.specs.contracts.members.Members as Members
use Rattle.pg_index_members.specs.contracts.row.Row as Row
use Rattle.pg_index_members.specs.contracts.block.Block as Block
use Rattle.pg_cluster_judges.specs.PgExchange.contracts.formation.Formation as Formation
use Rattle.pg_cluster_judges.specs.PgEnds.contracts.processes.Processes as Processes
use Rattle.pg_term.specs.contracts.items.Items as Items
use Rattle.pg_term.specs.contracts.pid.Pid as Pid
use Rattle.pg_term.specs.contracts.term.Term as Term
use Rattle.pg_cluster.proofs.TermsSent.{atom_send, pid_send, reference_send, items_send, term_send, u8_send}

pub opid_send : IsSend OpId.the_row
opid_send = search (sendable, crosses) depth 30

u32_send : IsSend u32-field.row
u32_send = search (sendable, crosses) depth 30

u64_send : IsSend u64-field.row
u64_send = search (sendable, crosses) depth 30

pub command_send : IsSend Command.the_row
command_send = variants_send Command.enum (
  (term_send, tt),
  (
    (term_send, tt),
    (
      (term_send, (pid_send, tt)),
      (
        (term_send, (pid_send, tt)),
        (tt, ((pid_send, tt), ((term_send, tt), ((term_send, tt), (tt, ((term_send, (as_row_send u32-field u32_send, tt)), tt)))))),
      ),
    ),
  ),
)

pub update_send : IsSend Update.the_row
update_send = variants_send Update.enum ((term_send, tt), ((term_send, tt), ((term_send, (pid_send, tt)), ((term_send, (pid_send, tt)), tt))))

pub reply_send : IsSend Reply.the_row
reply_send = variants_send Reply.enum (
  tt,
  (
    (pid_send, tt),
    (
      (as_row_send (Items.the_field Pid.the_row) (items_send Pid.the_row pid_send), tt),
      (
        (pid_send, tt),
        (
          (as_row_send (Items.the_field Term.the_row) (items_send Term.the_row term_send), tt),
          ((term_send, tt), ((term_send, tt), ((as_row_send u8-field u8_send, tt), tt))),
        ),
      ),
    ),
  ),
)

pub answer_send : IsSend Answer.the_row
answer_send = declared_send Answer.the_type (search (sendable, crosses) depth 30, (reply_send, tt))

pub lock_send : IsSend LockTable.the_row
lock_send = search (sendable, crosses, maps, term_send, reference_send) depth 30

number_send : IsSend Number.the_row
number_send = declared_send Number.the_type (as_row_send u32-field u32_send, (as_row_send u32-field u32_send, (as_row_send u32-field u32_send, tt)))

chunk_send : IsSend Chunk.the_row
chunk_send = declared_send Chunk.the_type (search (sendable, crosses, number_send) depth 30, (number_send, tt))

numbers_send : IsSend Numbers.the_row
numbers_send = search (sendable, crosses, chunk_send) depth 30

pub ended_send : IsSend Ended.the_row
ended_send = search (sendable, crosses, maps, sets, heap_send, frees, atom_send, numbers_send) depth 30

row_send : IsSend Row.the_row
row_send = declared_send Row.the_type (pid_send, (as_row_send u64-field u64_send, tt))

block_send : IsSend Block.the_row
block_send = search (sendable, crosses, row_send) depth 30

pub members_send : IsSend Members.the_row
members_send = search (sendable, crosses, block_send) depth 40

pub formation_send : IsSend Formation.the_row
formation_send = search (sendable, crosses) depth 30

pub processes_send : IsSend Processes.the_row
processes_send = search (sendable, crosses, atom_send) depth 30

pub index_send : IsSend IndexTable.the_row
index_send = search (sendable, crosses, maps, sets, heap_send, frees, term_send, atom_send, members_send) depth 40
