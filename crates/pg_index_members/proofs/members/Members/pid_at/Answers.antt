use Rattle.std.proofs.Common.{subst}
use Rattle.pg_group.specs.Scope.{in_scope}
use Rattle.pg_index_members.specs.Rows.{AreRows}
use Rattle.pg_index_members.proofs.Counts.{members}
use Rattle.pg_index_members.proofs.members.Members.pid_at.Goals as goal

pub returns-in-All-clause-list : goal.returns-in-All-clause-list
returns-in-All-clause-list c = members (in_scope c.args.scope) c.args.self.now (subst AreRows c.self.view_is c.total.ensures.in_order)

pub returns-in-At-clause-list : goal.returns-in-At-clause-list
returns-in-At-clause-list c = members (in_scope c.args.scope) c.args.self.now (subst AreRows c.self.view_is c.total.ensures.in_order)
