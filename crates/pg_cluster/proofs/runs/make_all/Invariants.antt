use Rattle.std.proofs.Common.{◌≡◌, ◌+◌, ◌++◌, [], length, map}
use Rattle.std.specs.List.{All}
use Rattle.std.specs.Vec.Iter.{into_iter_items, into_iter_len}
use Rattle.pg_cluster.specs.Clients.{AllPairs, IsOpenClient}
use Rattle.pg_cluster_judges.specs.PgNodeRun.Notices.{IsUntold}
use Rattle.pg_cluster_judges.specs.PgNodeRun.Runs.{generator_of, notices_at, notices_of}
use Rattle.pg_cluster.specs.Notices.{IsFresh}
use Rattle.pg_cluster.specs.Threads.{node_in, row_in, log_in, ports_of_runs}
use Rattle.pg_cluster.proofs.runs.make_all.Given as goal

abbrev pub invariant-loop-node : goal.invariant-loop-node
invariant-loop-node g l =
    (goal.iterator-loop-node g).can_next l.node-iterator
    × (goal.iterator-loop-node g).is_finite l.node-iterator
    × (map node_in l.made.runs.items ++ into_iter_items l.node-iterator ≡ l.fn.nodes.items)
    × (map row_in l.made.runs.items ++ map (λ v. v.items) (into_iter_items l.rows) ≡ map (λ v. v.items) l.fn.rows.items)
    × All (λ run. log_in run ≡ []) l.made.runs.items
    × (length l.made.runs.items + into_iter_len l.node-iterator ≡ length l.fn.nodes.items)
    × AllPairs IsOpenClient l.made.clients.items (ports_of_runs l.made.runs.items)
    × AllPairs IsFresh l.made.tellers.items (map notices_at l.made.runs.items)
    × All (λ run. IsUntold (notices_of run)) l.made.runs.items
    × (length l.made.runs.items + length (into_iter_items l.generators) ≡ length l.fn.generators.items)
    × (map generator_of l.made.runs.items ++ into_iter_items l.generators ≡ l.fn.generators.items)
