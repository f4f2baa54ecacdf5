use Rattle.std.proofs.Common.{length, sym, ap, subst, ◌∙◌}
use Rattle.pg_group.specs.Scope.{in_scope, anywhere}
use Rattle.pg_index_members.specs.Forms.{rows_of}
use Rattle.pg_index_members.specs.Rows.{AreRows, spread}
use Rattle.pg_index_members.proofs.Counts.{members}
use Rattle.pg_index_members.proofs.Places.{length-all}
use Rattle.pg_index_members.proofs.members.Members.size.Goals as goal

pub returns-in-All-clause-exact : goal.returns-in-All-clause-exact
returns-in-All-clause-exact c =
    c.total.ensures.value ∙ sym (length-all (rows_of c.self.inside.rows)) ∙ ap (λ l. length (spread anywhere l)) c.self.view_is ∙ ap (λ s. length (spread (in_scope s) c.args.self.now)) (sym c.in-All.is)

pub returns-in-All-clause-list : goal.returns-in-All-clause-list
returns-in-All-clause-list c = members (in_scope c.args.scope) c.args.self.now (subst AreRows c.self.view_is c.total.ensures.in_order)

pub returns-in-At-clause-list : goal.returns-in-At-clause-list
returns-in-At-clause-list c = members (in_scope c.args.scope) c.args.self.now c.size_at.ensures.in_order
