use Rattle.std.proofs.Common.{arith}
use Rattle.pg_message_writer.proofs.Put.{opening_put}
use Rattle.pg_message_writer.proofs.parts.put_opening.Goals as goal

pub returns : goal.returns
returns c =
    opening_put c.args.out.now c.extend_reserved.new.self c.extend_reserved-2.new.self c.args.arity c.args.word.now c.as_bytes.result.now c.requires.plain c.requires.few c.utf8.word (λ i. omega (arith, c.type_inv.word i)) c.as_bytes.ensures.value
    c.extend_reserved.ensures.items c.extend_reserved.ensures.spare c.extend_reserved-2.ensures.items c.extend_reserved-2.ensures.spare
