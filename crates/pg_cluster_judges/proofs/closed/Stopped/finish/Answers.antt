use Rattle.pg_cluster_judges.proofs.Finished.{joined_agree, joined_losing_run, joined_run, joined_survivors}
use Rattle.pg_cluster_judges.proofs.StepsThere.{has_steps}
use Rattle.pg_cluster_judges.proofs.closed.Stopped.finish.Goals as goal

pub returns-clause-one_run : goal.returns-clause-one_run
returns-clause-one_run c = joined_run c.args.self c.in_order.result c.in_order.ensures.nodes c.in_order.ensures.logs c.in_order.ensures.lost c.in_order.ensures.order

pub returns-clause-agree : goal.returns-clause-agree
returns-clause-agree c =
    joined_agree c.nodes_of_one_run_agree.ensures c.args.self c.in_order.result
    (joined_run c.args.self c.in_order.result c.in_order.ensures.nodes c.in_order.ensures.logs c.in_order.ensures.lost c.in_order.ensures.order)

pub returns-clause-losing_run : goal.returns-clause-losing_run
returns-clause-losing_run c = joined_losing_run c.args.self c.in_order.result c.in_order.ensures.nodes c.in_order.ensures.logs c.in_order.ensures.lost c.in_order.ensures.order

pub returns-clause-survivors : goal.returns-clause-survivors
returns-clause-survivors c =
    joined_survivors c.survivors_of_one_run_agree.ensures c.args.self c.in_order.result c.in_order.ensures.nodes c.in_order.ensures.logs c.in_order.ensures.order
    (joined_losing_run c.args.self c.in_order.result c.in_order.ensures.nodes c.in_order.ensures.logs c.in_order.ensures.lost c.in_order.ensures.order)

pub returns-clause-steps : goal.returns-clause-steps
returns-clause-steps c = has_steps c.in_order.result
