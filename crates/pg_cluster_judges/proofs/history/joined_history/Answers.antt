-- The joined run is one of the nodes of the configuration.
use Rattle.pg_world.specs.PgStep.Step.{CLOCK_LIMIT}
use Rattle.pg_world.specs.PgStep.FrameMachine.{frame_machine}
use Rattle.pg_cluster_judges.specs.Joined.{Joined}
use Rattle.pg_cluster_judges.specs.Merge.{merged_logs}
use Rattle.pg_cluster_judges.proofs.Joining.{joined}
use Rattle.pg_cluster_judges.proofs.history.joined_history.Goals as goal

pub returns : goal.returns
returns c = λ config logs acts ends left order apart are merges.
    let run : Joined (frame_machine config) logs acts ends left (merged_logs logs order) =
    joined CLOCK_LIMIT (frame_machine config) logs acts ends left order (c.nodes_keep_time.ensures.steps config) are merges in
    (run, c.one_history.ensures.each_world config run.world (merged_logs logs order) apart run.leads)
