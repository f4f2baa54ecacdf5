use Rattle.pg_cluster.specs.Clusters.{lost_of, threads_of}
use Rattle.pg_cluster.proofs.Finishing.{closed_agree}
use Rattle.pg_cluster.proofs.Finishing.{closed_survivors, finished_clients, finished_ended, finished_losing_run, finished_lost, finished_run}
use Rattle.pg_cluster.proofs.Finishing.{ended_merely, heard_merely, stopped_joins, stopped_joins_losing}
use Rattle.pg_cluster_judges.proofs.StepsThere.{has_steps}
use Rattle.pg_cluster.proofs.cluster.Cluster.close.Goals as goal

pub returns-clause-ended : goal.returns-clause-ended
returns-clause-ended g c = ended_merely (lost_of c.args.self) (threads_of c.args.self) c.stop-stopped.result c.finish.result c.stop-stopped.ensures.ended c.finish.ensures.nodes c.finish.ensures.logs c.finish.ensures.turns c.finish.ensures.err

pub returns-clause-one_run : goal.returns-clause-one_run
returns-clause-one_run g c =
    let lost = lost_of c.args.self in
    let threads = threads_of c.args.self in
    finished_run c.threads_are_one_run.ensures lost threads c.finish.result
    (λ nobody. finished_ended lost threads c.stop-stopped.result c.finish.result (c.stop-stopped.ensures.alone nobody) c.finish.ensures.nodes c.finish.ensures.logs c.finish.ensures.turns c.finish.ensures.err)
    c.finish.ensures.order (finished_lost lost c.stop-stopped.result c.finish.result c.stop-stopped.ensures.lost c.finish.ensures.lost c.finish.ensures.err)

pub returns-clause-agree : goal.returns-clause-agree
returns-clause-agree g c =
    let lost = lost_of c.args.self in
    let threads = threads_of c.args.self in
    closed_agree c.nodes_of_one_run_agree.ensures lost threads c.finish.result
    (finished_run c.threads_are_one_run.ensures lost threads c.finish.result
    (λ nobody. finished_ended lost threads c.stop-stopped.result c.finish.result (c.stop-stopped.ensures.alone nobody) c.finish.ensures.nodes c.finish.ensures.logs c.finish.ensures.turns c.finish.ensures.err)
    c.finish.ensures.order (finished_lost lost c.stop-stopped.result c.finish.result c.stop-stopped.ensures.lost c.finish.ensures.lost c.finish.ensures.err))

pub returns-clause-heard : goal.returns-clause-heard
returns-clause-heard g c =
    heard_merely (threads_of c.args.self) c.args.clients.items c.stop-stopped.result c.finish.result c.stop-stopped.ensures.heard c.finish.ensures.nodes c.finish.ensures.logs c.finish.ensures.err

pub returns-clause-losing_run : goal.returns-clause-losing_run
returns-clause-losing_run g c =
    let lost = lost_of c.args.self in
    let threads = threads_of c.args.self in
    finished_losing_run c.threads_are_one_losing_run.ensures lost threads c.finish.result
    (ended_merely lost threads c.stop-stopped.result c.finish.result c.stop-stopped.ensures.ended c.finish.ensures.nodes c.finish.ensures.logs c.finish.ensures.turns c.finish.ensures.err)
    c.finish.ensures.order (finished_lost lost c.stop-stopped.result c.finish.result c.stop-stopped.ensures.lost c.finish.ensures.lost c.finish.ensures.err)

pub returns-clause-lost : goal.returns-clause-lost
returns-clause-lost g c = finished_lost (lost_of c.args.self) c.stop-stopped.result c.finish.result c.stop-stopped.ensures.lost c.finish.ensures.lost c.finish.ensures.err

pub returns-clause-clients : goal.returns-clause-clients
returns-clause-clients g c = finished_clients c.args.clients.items c.stop-stopped.result c.finish.result c.stop-stopped.ensures.clients c.finish.ensures.clients c.finish.ensures.err

pub returns-clause-joins : goal.returns-clause-joins
returns-clause-joins g c =
    stopped_joins c.threads_are_one_run.ensures (lost_of c.args.self) (threads_of c.args.self) c.stop-stopped.result c.finish.result c.stop-stopped.ensures.alone c.finish.ensures.err

pub returns-clause-joins_losing : goal.returns-clause-joins_losing
returns-clause-joins_losing g c =
    stopped_joins_losing c.threads_are_one_losing_run.ensures (lost_of c.args.self) (threads_of c.args.self) c.stop-stopped.result c.finish.result c.stop-stopped.ensures.ended c.finish.ensures.err

pub returns-clause-survivors : goal.returns-clause-survivors
returns-clause-survivors g c =
    let lost = lost_of c.args.self in
    let threads = threads_of c.args.self in
    closed_survivors c.survivors_of_one_run_agree.ensures lost threads c.finish.result
    (ended_merely lost threads c.stop-stopped.result c.finish.result c.stop-stopped.ensures.ended c.finish.ensures.nodes c.finish.ensures.logs c.finish.ensures.turns c.finish.ensures.err)
    c.finish.ensures.order
    (finished_losing_run c.threads_are_one_losing_run.ensures lost threads c.finish.result
    (ended_merely lost threads c.stop-stopped.result c.finish.result c.stop-stopped.ensures.ended c.finish.ensures.nodes c.finish.ensures.logs c.finish.ensures.turns c.finish.ensures.err)
    c.finish.ensures.order (finished_lost lost c.stop-stopped.result c.finish.result c.stop-stopped.ensures.lost c.finish.ensures.lost c.finish.ensures.err))

pub returns-clause-steps : goal.returns-clause-steps
returns-clause-steps g c = has_steps c.finish.result
