use Rattle.std.proofs.Common.{[], ◌∷◌, codes, arith}
use Rattle.pg_term.specs.declared.term.Term.TheVariants.{Ref}
use Rattle.pg_message_types.specs.Writing.{said_term}
use Rattle.pg_message_writer.specs.Told.{reference_lent}
use Rattle.pg_message_writer.proofs.Put.{opened_put, more, nothing}
use Rattle.pg_message_writer.proofs.parts.put_reply.Goals as goal

pub returns : goal.returns
returns c =
    opened_put c.args.out.now c.put_opening.new.out c.put_said.new.out (codes "reply") (Ref (reference_lent c.args.mark.now) ∷ said_term c.args.said ∷ []) c.requires.short (omega arith) c.put_opening.ensures
    (more c.put_mark.ensures (more c.put_said.ensures (nothing c.put_said.new.out)))
