use Rattle.std.proofs.Common.{◌≡◌, ◌<◌, ℕ, length, get_or}
use Rattle.std.specs.Prelude.{vec_capacity}
use Rattle.pg_cluster.specs.Ended.{NodeRow}
use Rattle.pg_cluster.specs.Rows.{HaveRowRoom, SoFar}
use Rattle.pg_cluster.proofs.wires.wire_all.Given as goal

abbrev pub invariant-loop : goal.invariant-loop
invariant-loop l =
    (length l.rows.items ≡ l.counter)
    × (vec_capacity l.rows ≡ l.nodes)
    × ((r : ℕ) (d : NodeRow) → r < l.counter → length (get_or l.rows.items r d).items ≡ 0)

abbrev pub invariant-loop-i : goal.invariant-loop-i
invariant-loop-i l = SoFar l.nodes l.rows.items l.j l.i × HaveRowRoom l.ring l.rows.items

abbrev pub invariant-loop-j : goal.invariant-loop-j
invariant-loop-j l = SoFar l.nodes l.rows.items l.j 0 × HaveRowRoom l.ring l.rows.items
