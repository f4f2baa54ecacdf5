use Rattle.std.proofs.Common.{◌≡◌, ◌<◌, ℕ, ◌+◌, length, slice_index_or}
use Rattle.std.specs.Prelude.{false, vec_capacity, drop}
use Rattle.std.specs.List.{All}
use Rattle.std.specs.Vec.Iter.{into_iter_items, into_iter_len}
use Rattle.pg_cluster.specs.Members.{is_lost, thread_of}
use Rattle.pg_cluster.specs.Threads.{begun_by, limit_of}
use Rattle.pg_cluster.proofs.threads.start_all.Given as goal

abbrev pub invariant-loop-run : goal.invariant-loop-run
invariant-loop-run g l =
    (goal.iterator-loop-run g).can_next l.run-iterator
    × (goal.iterator-loop-run g).is_finite l.run-iterator
    × (vec_capacity l.members ≡ length l.fn.runs.items)
    × (length l.members.items + into_iter_len l.run-iterator ≡ length l.fn.runs.items)
    × (into_iter_items l.run-iterator ≡ drop (length l.members.items) l.fn.runs.items)
    × ((i : ℕ) (d : _) (h : _)
    → i < length l.members.items
    → (begun_by (thread_of (slice_index_or l.members.items i h)) ≡ slice_index_or l.fn.runs.items i d)
    × (limit_of (thread_of (slice_index_or l.members.items i h)) ≡ l.limit))
    × All (λ m. is_lost m ≡ false) l.members.items
