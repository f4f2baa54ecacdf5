-- The logs of the nodes join to one run, which is that of the configuration.
use Rattle.pg_cluster_judges.proofs.Begun.{apart}
use Rattle.pg_cluster_judges.proofs.Crossing.{left_on}
use Rattle.pg_cluster_judges.proofs.Logged.{acts_on, are_logs, ends_on, logs_on, merges_on, ran_together}
use Rattle.pg_cluster_judges.proofs.Sound.{sound}
use Rattle.pg_cluster_judges.specs.Merge.{merged_logs}
use Rattle.pg_cluster_judges.proofs.together.nodes_ran_together.Goals as goal

pub returns : goal.returns
returns c = λ config nodes begun ended order apart_so merges.
    let ran = apart_so.ran in
    let unseen = apart_so.unseen in
    let joined = c.joined_history.ensures config (logs_on config nodes begun ended ran unseen) (acts_on config nodes begun ended ran unseen) (ends_on config nodes begun ended ran unseen)
    (left_on config nodes begun ended ran) order (apart config nodes begun ended ran) (are_logs config nodes begun ended ran unseen c.pieces_continue.ensures c.written_is_read.ensures)
    (merges_on config nodes begun ended ran unseen order merges) in
    ran_together config nodes begun ended ran unseen order joined.0 joined.1
    (sound config nodes begun ended ran unseen (merged_logs (logs_on config nodes begun ended ran unseen) order) joined.0
    (λ m w before events i p x rest. c.first_packets_were_welcome.ensures config m w before events i p x rest (apart config nodes begun ended ran)) c.pieces_continue.ensures c.written_is_read.ensures)
