-- The logs of the nodes join to one run of the machine with losses, which is that of the configuration.
use Rattle.pg_cluster_judges.proofs.Begun.{apart}
use Rattle.pg_cluster_judges.proofs.Lost.{ran_past_losses}
use Rattle.pg_cluster_judges.proofs.together.nodes_ran_together_past_losses.Goals as goal

pub returns : goal.returns
returns c = λ config nodes begun ended lost order ran merges.
    ran_past_losses config nodes begun ended ran.ran lost ran.seen order merges (c.losing_nodes_keep_time.ensures config) c.pieces_continue.ensures c.written_is_read.ensures
    (λ u reached. c.each_world_past_losses.ensures config u _ (apart config nodes begun ended ran.ran) reached)
