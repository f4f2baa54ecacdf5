use Rattle.std.proofs.Common.{sym, ap, length, ◌∙◌}
use Rattle.pg_term.specs.declared.term.Term.TheVariants.{Ref}
use Rattle.pg_message_types.specs.PgTermIo.Writing.{item_bytes}
use Rattle.pg_message_writer.specs.declared.told.Mark.{Mark}
use Rattle.pg_message_writer.specs.Told.{reference_lent}
use Rattle.pg_message_writer.proofs.Words.{reference_is}
use Rattle.pg_message_writer.proofs.size.mark_len.Goals as goal

pub returns-in-Whole-clause-len : goal.returns-in-Whole-clause-len
returns-in-Whole-clause-len c =
    c.reference_len.ensures.value ∙ sym (ap length (reference_is c.in-Whole.reference.now)) ∙ sym (ap (λ (mark : Mark). length (item_bytes (Ref (reference_lent mark)))) c.in-Whole.is)

pub returns-in-Parts-clause-len : goal.returns-in-Parts-clause-len
returns-in-Parts-clause-len c = c.parts_len.ensures.len c.in-Parts.field-1 ∙ sym (ap (λ (mark : Mark). length (item_bytes (Ref (reference_lent mark)))) c.in-Parts.is)
