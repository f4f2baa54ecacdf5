-- What a cluster that was closed is found to be.
use Rattle.std.specs.Prelude.{◌≡◌, Bool, true, List, map}
use Rattle.pg_cluster.specs.PgNodeRun.declared.port.Client.{Client}
use Rattle.pg_cluster.specs.PgStep.Config.{Config}
use Rattle.pg_cluster.specs.PgWorldPackets.declared.step.FrameStep.{FrameStep}
use Rattle.rand_pcg.specs.Lcg.{Lcg}
use Rattle.pg_cluster.specs.Clients.{AllHeard}
use Rattle.pg_cluster.specs.PgClusterJudges.Judges.{Agree, Replays}
use Rattle.pg_cluster.specs.PgClusterJudges.Schedule.{IsLosingSchedule, NobodyLost}
use Rattle.pg_cluster.specs.PgClusterJudges.Survivors.{Log, SurvivorsAgree}
use Rattle.pg_cluster.specs.Threads.{Thread, AreMade, begun_by}
use Rattle.pg_cluster.specs.PgClusterJudges.NodeOf.{NodeOf}
use Rattle.pg_cluster.specs.PgClusterJudges.Together.{AreOneLosingRun, AreOneRun}
use Rattle.pg_talk.specs.declared.verdict.Verdict.{Verdict}

-- The threads of a configuration ended in these nodes, with these logs, and what the clients said and heard is in these. The schedule is the
-- entries of these logs, in the order of their clocks, with the losses in their places. Whoever was lost that was one run of the
-- configuration, those of its nodes that were not lost agree, and the schedule replays: both are told so.
pub record IsJudged (given : Config) (lost : List Bool) (threads : List (Thread Lcg)) (clients : List Client) (verdict : Verdict) : Type 0 where
  pub nodes : List NodeOf
  pub logs : List Log
  pub schedule : List FrameStep
  pub made : ∥ AreMade given (map begun_by threads) ∥₁
  pub heard : ∥ AllHeard threads nodes (map (λ log. log.items) logs) clients ∥₁
  pub steps : IsLosingSchedule (map (λ log. log.items) logs) lost schedule
  pub one_run : NobodyLost lost → ∥ AreOneRun given nodes (map (λ log. log.items) logs) schedule ∥₁
  pub losing_run : ∥ AreOneLosingRun given lost nodes schedule ∥₁
  pub agreed : NobodyLost lost → ∥ Agree nodes logs ∥₁
  pub survivors_agreed : ∥ SurvivorsAgree nodes lost logs ∥₁
  pub agree : verdict.agree ≡ true
  pub replay : verdict.replay ≡ true
  -- what replays was made step by step, whoever was lost
  pub replays : Replays given schedule nodes
