use Rattle.std.proofs.Common.{ℕ, Result, ap, sym, ◌∙◌}
use Rattle.std.specs.Prelude.{is_ok}
use Rattle.std.proofs.lemmas.Bool.{eqb-true}
use Rattle.std.specs.Int.{w64}
use Rattle.std.proofs.lemmas.Int.{to_z-of_z}
use Rattle.pg_term.specs.declared.term.Term.TheVariants.{Int}
use Rattle.pg_term.specs.Order.{kind_of}
use Rattle.pg_message_types.specs.Reading.{stamp_of}
use Rattle.pg_message_types.specs.declared.fault.MessageFault.{MessageFault}
use Rattle.pg_message_reader.proofs.Shapes.Leaves.{no_stamp}
use Rattle.pg_message_reader.proofs.shape.packet.check_stamp.Goals as goal

pub returns-then-not-is_int : goal.returns-then-not-is_int
returns-then-not-is_int c room t rest e = no_stamp t (sym (c.is_int.ensures room t rest e) ∙ c.if-not-is_int.true)

pub returns-in_default : goal.returns-in_default
returns-in_default c room t rest e = absurd (c.in_default.ensures.int room t rest e (eqb-true (kind_of t) 0 (sym (c.is_int.ensures room t rest e) ∙ c.if-not-is_int.false)))

pub returns-in-Ok : goal.returns-in-Ok
returns-in-Ok c room t rest e =
    let is = c.in-Some.ensures.int room t rest e (eqb-true (kind_of t) 0 (sym (c.is_int.ensures room t rest e) ∙ c.if-not-is_int.false)) in
    ap (λ (r : Result ℕ MessageFault). is_ok r) (ap stamp_of (is ∙ ap Int (sym (to_z-of_z w64 c.in-Some.number c.in-Some.ensures.fits))) ∙ sym c.stamp.ensures ∙ c.in-Ok.is)
