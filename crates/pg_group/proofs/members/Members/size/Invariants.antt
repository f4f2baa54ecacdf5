use Rattle.std.proofs.Common.{◌≡◌, ◌≤◌, ◌+◌, length, min}
use Rattle.pg_group.specs.Scope.{in_scope}
use Rattle.pg_group.proofs.Spread.{spread}
use Rattle.pg_group.proofs.members.Members.size.Given as goal

-- the members so far and those to come
abbrev pub invariant-loop-pid : goal.invariant-loop-pid
invariant-loop-pid l = (l.size ≤ 18446744073709551615) × (min (l.size + length (spread (in_scope l.scope) l.pid-iterator)) 18446744073709551615 ≡ min (length (spread (in_scope l.scope) l.self.counts.entries)) 18446744073709551615)
