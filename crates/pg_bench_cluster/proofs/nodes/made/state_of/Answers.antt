use Rattle.std.proofs.Common.{[], ◌∷◌, arith}
use Rattle.pg_bench_cluster.proofs.Started.{three_apart, few_peers, none_few}
use Rattle.pg_bench_cluster.proofs.nodes.made.state_of.Goals as goal

pub started-requires-clause-apart : goal.started-requires-clause-apart
started-requires-clause-apart c = three_apart c.args.own c.args.one c.args.two _ c.in_ok-peers.ensures.items c.requires.first c.requires.second c.requires.third

pub started-requires-clause-few : goal.started-requires-clause-few
started-requires-clause-few c = none_few _ c.new-table.ensures

pub started-requires-clause-peers : goal.started-requires-clause-peers
started-requires-clause-peers c = few_peers _ (c.args.one ∷ c.args.two ∷ []) c.in_ok-peers.ensures.items (omega arith)
