use Rattle.std.proofs.Common.{◌≡◌, Some}
use Rattle.pg_term.specs.Same.{same_term}
use Rattle.pg_group.specs.Functions.{upd}
use Rattle.pg_exchange.specs.Undone.{noted, put_back}
use Rattle.pg_exchange.proofs.merging.put_back.Given as goal

-- what is left to be lowered leads where all of it led
abbrev pub invariant-loop-pid : goal.invariant-loop-pid
invariant-loop-pid g l =
    upd same_term (g.T.GroupTable.contents l.table) l.name (put_back (g.T.GroupTable.contents l.table l.name) l.pid-iterator.a.rest.now (Some l.pid-iterator.b.rest.now))
    ≡ upd same_term (g.T.GroupTable.contents l.initial.table) l.name (put_back (g.T.GroupTable.contents l.initial.table l.name) l.pids (noted l.before))
