use Rattle.std.proofs.Common.{◌≡◌, ◌≤◌, ◌+◌, ◌++◌, length, map, vec_len}
use Rattle.std.specs.Prelude.{vec_capacity, drop}
use Rattle.std.specs.Vec.Iter.{into_iter_items, into_iter_len}
use Rattle.pg_cluster.specs.Members.{is_lost, losses_in}
use Rattle.pg_cluster_judges.specs.Schedule.{NobodyLost}
use Rattle.pg_cluster.proofs.Starts.{ClocksKept, GiveBack}
use Rattle.pg_cluster.proofs.cluster.Cluster.stop.Given as goal

abbrev pub invariant-loop-member : goal.invariant-loop-member
invariant-loop-member g l =
    (goal.iterator-loop-member g).can_next l.member-iterator
    × (goal.iterator-loop-member g).is_finite l.member-iterator
    × (length l.fn.self.members.items ≤ vec_capacity l.rans)
    × (length l.rans.items + into_iter_len l.member-iterator ≡ length l.fn.self.members.items)
    × (into_iter_items l.member-iterator ≡ drop (length l.rans.items) l.fn.self.members.items)
    × (NobodyLost (losses_in l.fn.self.members.items) → GiveBack l.fn.self.members.items l.rans.items)
    × ∥ GiveBack l.fn.self.members.items l.rans.items ∥₁
    × (vec_len l.lost + into_iter_len l.member-iterator ≤ vec_capacity l.lost)
    × (l.lost.items ++ map is_lost (into_iter_items l.member-iterator) ≡ losses_in l.fn.self.members.items)
    × ClocksKept l.fn.self.members.items l.rans.items
