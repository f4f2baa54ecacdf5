use Rattle.std.proofs.Common.{[], ◌∷◌, codes, arith}
use Rattle.pg_term.specs.declared.term.Term.TheVariants.{Ref}
use Rattle.pg_message_types.specs.Writing.{request_term}
use Rattle.pg_message_writer.specs.Told.{reference_lent, asked_for}
use Rattle.pg_message_writer.proofs.Put.{opened_put, more, nothing}
use Rattle.pg_message_writer.proofs.parts.put_call.Goals as goal

pub returns : goal.returns
returns c =
    opened_put c.args.out.now c.put_opening.new.out c.put_asked.new.out (codes "call") (Ref (reference_lent c.args.mark.now) ∷ request_term (asked_for c.args.asked.now) ∷ []) c.requires.short (omega arith) c.put_opening.ensures
    (more c.put_mark.ensures (more c.put_asked.ensures (nothing c.put_asked.new.out)))
