use Rattle.std.proofs.Common.{◌≡◌}
use Rattle.std.specs.Prelude.{slice_get}
use Rattle.pg_group.specs.Scope.{in_scope}
use Rattle.pg_group.proofs.Spread.{spread}
use Rattle.pg_group.proofs.members.Members.pid_at.Given as goal

-- the place among the members to come
abbrev pub invariant-loop-pid : goal.invariant-loop-pid
invariant-loop-pid l = slice_get (spread (in_scope l.scope) l.pid-iterator) l.left ≡ slice_get (spread (in_scope l.scope) l.self.counts.entries) l.fn.place
