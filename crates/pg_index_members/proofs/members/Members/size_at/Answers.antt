use Rattle.std.proofs.Common.{◌≡◌, ◌-◌, length, ap, ◌∙◌, arith}
use Rattle.pg_group.specs.Scope.{at_node}
use Rattle.pg_index_members.specs.Forms.{rows_of}
use Rattle.pg_index_members.specs.Rows.{spread}
use Rattle.pg_index_members.proofs.Nodes.{between}
use Rattle.pg_index_members.proofs.members.Members.size_at.Goals as goal

pub overflow_sub-result : goal.overflow_sub-result
overflow_sub-result c = let all = between c.args.node.now (rows_of c.self.inside.rows) in omega arith

pub returns-clause-value : goal.returns-clause-value
returns-clause-value c =
    let all = between c.args.node.now (rows_of c.self.inside.rows) in
    (let is : c.rank.result - c.rank-2.result ≡ length (spread (at_node c.args.node.now) (rows_of c.self.inside.rows)) = omega arith in is) ∙ ap (λ l. length (spread (at_node c.args.node.now) l)) c.self.view_is
