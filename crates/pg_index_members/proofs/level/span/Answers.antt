use Rattle.std.proofs.Common.{arith}
use Rattle.pg_index_members.proofs.Asked.{chosen_le, spanned}
use Rattle.pg_index_members.proofs.level.span.Goals as goal

pub returns-clause-in_order : goal.returns-clause-in_order
returns-clause-in_order g c =
    let le = chosen_le c.args.node.now g.P.Part.rows c.args.parts.now c.choose-from.result c.choose-last.result c.choose-from.ensures c.choose-last.ensures in
    omega arith

pub returns-clause-members : goal.returns-clause-members
returns-clause-members g c = spanned c.args.node.now g.P.Part.rows c.args.parts.now c.choose-from.result c.choose-last.result c.choose-from.ensures c.choose-last.ensures c.requires.in_order
