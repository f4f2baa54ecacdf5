use Rattle.std.proofs.Common.{arith}
use Rattle.std.specs.Prelude.{pos}
use Rattle.pg_term.specs.declared.term.Term.TheVariants.{Int}
use Rattle.pg_message_types.specs.Writing.{message_term}
use Rattle.pg_message_writer.specs.Told.{message_told}
use Rattle.pg_message_writer.proofs.Put.{body_put, more, nothing}
use Rattle.pg_message_writer.proofs.parts.put_body.Goals as goal

pub returns : goal.returns
returns c =
    let put = body_put c.args.out.now c.extend_reserved.new.self c.put_told.new.out (Int (pos c.args.stamp)) (message_term (message_told c.args.told.now)) (omega (arith, c.requires.short)) c.extend_reserved.ensures.items c.extend_reserved.ensures.spare
    (more c.put_stamp.ensures (more c.put_told.ensures (nothing c.put_told.new.out))) in
    record { items = put.items; spare = put.spare; spelled = put.spelled }
