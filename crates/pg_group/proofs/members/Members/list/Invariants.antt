use Rattle.std.proofs.Common.{◌≡◌, ◌++◌}
use Rattle.pg_group.specs.Scope.{in_scope}
use Rattle.pg_group.proofs.Spread.{spread}
use Rattle.pg_group.proofs.members.Members.list.Given as goal

-- the members so far and those to come
abbrev pub invariant-loop-pid : goal.invariant-loop-pid
invariant-loop-pid l = l.pids.items ++ spread (in_scope l.scope) l.pid-iterator ≡ spread (in_scope l.scope) l.self.counts.entries
