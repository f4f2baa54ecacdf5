use Rattle.std.proofs.Common.{◌≡◌, ◌≤◌, ◌+◌, ◌++◌, map}
use Rattle.std.specs.Prelude.{vec_len, vec_capacity}
use Rattle.std.specs.Vec.Iter.{into_iter_items, into_iter_len}
use Rattle.pg_term.specs.declared.term.Term.TheVariants.{Pid}
use Rattle.pg_node_requests.proofs.reply.pid_list.Given as goal

abbrev pub invariant-loop-pid : goal.invariant-loop-pid
invariant-loop-pid l =
    goal.iterator-loop-pid.can_next l.pid-iterator
    × goal.iterator-loop-pid.is_finite l.pid-iterator
    × (vec_len l.terms + into_iter_len l.pid-iterator ≤ vec_capacity l.terms)
    × (l.terms.items ++ map Pid (into_iter_items l.pid-iterator) ≡ map Pid l.fn.pids.items)
