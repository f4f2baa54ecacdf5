use Rattle.std.proofs.Common.{◌≡◌, ◌++◌, ◌-◌, []}
use Rattle.pg_group.specs.Members.{put}
use Rattle.pg_group.proofs.append.append_member.Given as goal

-- so often so far, and so often to come
abbrev pub invariant-loop : goal.invariant-loop
invariant-loop l = l.pids.items ++ put (l.count - l.counter) l.pid [] ≡ l.fn.pids.items ++ put l.count l.pid []
