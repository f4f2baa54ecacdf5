use Rattle.std.proofs.Common.{◌≡◌, ◌≤◌, ◌+◌, ◌++◌, length, map}
use Rattle.std.specs.Prelude.{vec_len, vec_capacity}
use Rattle.std.specs.Vec.Iter.{into_iter_items, into_iter_len}
use Rattle.pg_cluster.specs.Clients.{ports_ended}
use Rattle.pg_cluster.specs.Threads.{node_in, log_in, row_in, turns_in, rows_ended, notices_ended}
use Rattle.pg_cluster.proofs.closing.parts_of.Given as goal

abbrev pub invariant-loop-ran : goal.invariant-loop-ran
invariant-loop-ran g l =
    (goal.iterator-loop-ran g).can_next l.ran-iterator
    × (goal.iterator-loop-ran g).is_finite l.ran-iterator
    × (vec_len l.parts.nodes + into_iter_len l.ran-iterator ≤ vec_capacity l.parts.nodes)
    × (vec_len l.parts.rows + into_iter_len l.ran-iterator ≤ vec_capacity l.parts.rows)
    × (vec_len l.parts.logs + into_iter_len l.ran-iterator ≤ vec_capacity l.parts.logs)
    × (l.parts.nodes.items ++ map (λ ran. node_in ran.run) (into_iter_items l.ran-iterator) ≡ map (λ ran. node_in ran.run) l.fn.rans.items)
    × (map (λ v. v.items) l.parts.rows.items ++ map (λ ran. row_in ran.run) (into_iter_items l.ran-iterator) ≡ rows_ended l.fn.rans.items)
    × (map (λ v. v.items) l.parts.logs.items ++ map (λ ran. log_in ran.run) (into_iter_items l.ran-iterator) ≡ map (λ ran. log_in ran.run) l.fn.rans.items)
    × (length l.parts.rows.items + into_iter_len l.ran-iterator ≡ length l.fn.rans.items)
    × (vec_len l.parts.ports + length (ports_ended (into_iter_items l.ran-iterator)) ≤ vec_capacity l.parts.ports)
    × (l.parts.ports.items ++ ports_ended (into_iter_items l.ran-iterator) ≡ ports_ended l.fn.rans.items)
    × (vec_len l.parts.notices + into_iter_len l.ran-iterator ≤ vec_capacity l.parts.notices)
    × (l.parts.notices.items ++ notices_ended (into_iter_items l.ran-iterator) ≡ notices_ended l.fn.rans.items)
    × (vec_len l.parts.turns + into_iter_len l.ran-iterator ≤ vec_capacity l.parts.turns)
    × (l.parts.turns.items ++ map turns_in (into_iter_items l.ran-iterator) ≡ map turns_in l.fn.rans.items)
