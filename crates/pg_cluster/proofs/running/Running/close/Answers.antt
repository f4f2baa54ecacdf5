use Rattle.std.proofs.Common.{map}
use Rattle.pg_cluster.specs.Clients.{AllHeard}
use Rattle.pg_cluster.specs.Clusters.{threads_of, lost_of}
use Rattle.pg_cluster_judges.specs.Closed.{IsOneRun, JoinsToOneLosingRun, JoinsToOneRun, logs_of, nodes_of}
use Rattle.pg_cluster_judges.specs.Judges.{Agree}
use Rattle.pg_cluster_judges.specs.Schedule.{NobodyLost}
use Rattle.pg_cluster_judges.specs.Survivors.{SurvivorsAgree}
use Rattle.pg_cluster.specs.Threads.{AreMade, begun_by}
use Rattle.pg_cluster.proofs.Handing.{of_its_own, fact_of_its_own, fact_once, run_once, stopped_of_its_own, stopped_once}
use Rattle.pg_cluster_judges.proofs.StepsThere.{has_steps}
use Rattle.pg_cluster.proofs.running.Running.close.Goals as goal

pub returns-clause-one_run : goal.returns-clause-one_run
returns-clause-one_run g c =
    of_its_own (λ given. AreMade given (map begun_by (threads_of c.args.self.cluster))) c.args.self.config.starts.items c.args.self.made (NobodyLost (lost_of c.args.self.cluster))
    IsOneRun c.close-closed.result c.close-closed.ensures.one_run

pub returns-clause-agree : goal.returns-clause-agree
returns-clause-agree g c =
    of_its_own (λ given. AreMade given (map begun_by (threads_of c.args.self.cluster))) c.args.self.config.starts.items c.args.self.made (NobodyLost (lost_of c.args.self.cluster))
    (λ given closed. Agree closed.nodes.items closed.logs.items) c.close-closed.result c.close-closed.ensures.agree

pub returns-clause-heard : goal.returns-clause-heard
returns-clause-heard g c =
    fact_of_its_own (λ given. AreMade given (map begun_by (threads_of c.args.self.cluster))) c.args.self.config.starts.items c.args.self.made
    (λ closed. AllHeard (threads_of c.args.self.cluster) closed.nodes.items (map (λ v. v.items) closed.logs.items) c.args.self.clients.items)
    (λ stopped. AllHeard (threads_of c.args.self.cluster) (nodes_of stopped) (logs_of stopped) c.args.self.clients.items) c.close-closed.result c.close-closed.ensures.heard

pub returns-clause-losing_run : goal.returns-clause-losing_run
returns-clause-losing_run g c =
    run_once (λ given. AreMade given (map begun_by (threads_of c.args.self.cluster))) c.args.self.config.starts.items c.args.self.made c.close-closed.result c.close-closed.ensures.losing_run

pub returns-clause-joins : goal.returns-clause-joins
returns-clause-joins g c =
    stopped_of_its_own (λ given. AreMade given (map begun_by (threads_of c.args.self.cluster))) c.args.self.config.starts.items c.args.self.made (NobodyLost (lost_of c.args.self.cluster))
    (λ given stopped. JoinsToOneRun given (nodes_of stopped) (logs_of stopped)) c.close-closed.result c.close-closed.ensures.joins

pub returns-clause-joins_losing : goal.returns-clause-joins_losing
returns-clause-joins_losing g c =
    stopped_once (λ given. AreMade given (map begun_by (threads_of c.args.self.cluster))) c.args.self.config.starts.items c.args.self.made
    (λ given stopped. JoinsToOneLosingRun given (lost_of c.args.self.cluster) (nodes_of stopped) (logs_of stopped)) c.close-closed.result c.close-closed.ensures.joins_losing

pub returns-clause-survivors : goal.returns-clause-survivors
returns-clause-survivors g c =
    fact_once (λ given. AreMade given (map begun_by (threads_of c.args.self.cluster))) c.args.self.config.starts.items c.args.self.made
    (λ given closed. SurvivorsAgree closed.nodes.items closed.lost.items closed.logs.items) c.close-closed.result c.close-closed.ensures.survivors

pub returns-clause-steps : goal.returns-clause-steps
returns-clause-steps g c = has_steps c.close-closed.result
