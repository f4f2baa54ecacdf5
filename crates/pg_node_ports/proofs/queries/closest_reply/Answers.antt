use Rattle.std.proofs.Common.{Err, ap, sym, subst}
use Rattle.pg_term.specs.declared.term.Term.{Term}
use Rattle.pg_node_opens.specs.PgStep.declared.answer.Reply.TheVariants as reply
use Rattle.pg_node_opens.specs.PgStep.Commands.{PicksMember}
use Rattle.pg_node_ports.proofs.Picked.{picks_none}
use Rattle.pg_node_ports.proofs.queries.closest_reply.Goals as goal

pub returns-in_ok-copy-in-Err-NoMember : goal.returns-in_ok-copy-in-Err-NoMember
returns-in_ok-copy-in-Err-NoMember g c =
    let v = g.T.GroupTable.contents c.args.table.now c.args.name.now in
    let nobody = c.in-Err-NoMember.ensures.nobody.0 (ap Err c.in-Err-NoMember.field-0-is) in
    subst (λ (name : Term). PicksMember v c.args.own.now c.args.word c.args.name.now (reply.NoProcess name)) (sym c.in_ok-copy-in-Err-NoMember.ensures) (picks_none v c.args.own.now c.args.word c.args.name.now nobody.0 nobody.1)
