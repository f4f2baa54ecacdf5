use Rattle.pg_node_state.proofs.state.NodeState.count.Goals as goal

pub returns-in-Update-clause-happens : goal.returns-in-Update-clause-happens
returns-in-Update-clause-happens g c = c.count_ok.ensures.happens c.args.said
