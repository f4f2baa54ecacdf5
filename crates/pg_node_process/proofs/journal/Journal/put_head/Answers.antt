use Rattle.std.proofs.Common.{rules}
use Rattle.pg_node_process.proofs.Logged.{head_is_read}
use Rattle.pg_node_process.specs.Logs.{head_given}
use Rattle.pg_node_process.proofs.journal.Journal.put_head.Goals as goal

pub returns-in-Ok-frame_into-clause-back : goal.returns-in-Ok-frame_into-clause-back
returns-in-Ok-frame_into-clause-back c = head_is_read (head_given c.args.head) c.in_ok-term.term c.in_ok-term.ensures (search rules) (search rules) (search rules) (search rules)
