use Rattle.std.proofs.Common.{◌≡◌, ◌++◌}
use Rattle.std.specs.List.{AllByRecursion}
use Rattle.pg_group.specs.Scope.{anywhere}
use Rattle.pg_group.specs.Members.{IsMemberList}
use Rattle.pg_exchange.specs.GroupList.{announced_names}
use Rattle.pg_exchange.proofs.group_list.snapshot.Given as goal

-- the groups so far, and the names to come
abbrev pub invariant-loop-name : goal.invariant-loop-name
invariant-loop-name g l = record {
  names : announced_names l.groups.items ++ l.name-iterator.rest.items ≡ l.initial.name-iterator.rest.items;
  members : AllByRecursion (λ group. IsMemberList (g.T.GroupTable.contents l.table group.0) anywhere group.1) l.groups.items;
}
