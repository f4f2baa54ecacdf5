use Rattle.std.proofs.Common.{◌≡◌, false, List, sym, subst, ◌∙◌, ◌∷◌, []}
use Rattle.std.proofs.lemmas.Result.{err_from_is_err_and}
use Rattle.pg_term.specs.declared.term.Term.{Term}
use Rattle.pg_message_reader.specs.Names.{are_plain, names_of_packet}
use Rattle.pg_message_reader.proofs.Shapes.Told.{moved, by_stamp, by_no_message, by_no_stamp, stamp_names}
use Rattle.pg_message_reader.proofs.shape.packet.check_parts.Goals as goal

pub returns-then-not-may_be_stamp : goal.returns-then-not-may_be_stamp
returns-then-not-may_be_stamp c a b mid rest ea eb = by_no_stamp a b (sym (c.may_be_stamp.ensures 63 a mid ea) ∙ c.if-not-may_be_stamp.true)

pub returns-then-not-branch : goal.returns-then-not-branch
returns-then-not-branch c a b mid rest ea eb =
    by_no_message a b (sym (c.in_ok-is_message.ensures b rest (moved 63 mid c.past-message.result.now b rest (c.past-message.ensures a mid ea) eb)) ∙ c.if-not-branch.true)

pub returns : goal.returns
returns c a b mid rest ea eb =
    by_stamp (names_of_packet (a ∷ b ∷ [])) a b c.check_stamp.result
    (sym (c.in_ok-is_message.ensures b rest (moved 63 mid c.past-message.result.now b rest (c.past-message.ensures a mid ea) eb)) ∙ c.if-not-branch.false)
    (c.check_stamp.ensures 63 a mid ea)

pub returns-in_err-is_message : goal.returns-in_err-is_message
returns-in_err-is_message c a b mid rest ea eb =
    let p = err_from_is_err_and c.from_residual.result c.from_residual.ensures.1 in
    let needed = c.in_err-is_message.ensures b rest (moved 63 mid c.past-message.result.now b rest (c.past-message.ensures a mid ea) eb) in
    rw (p.1, p.2) (subst (λ (names : List Term). are_plain names ≡ false) (stamp_names a b (sym (c.may_be_stamp.ensures 63 a mid ea) ∙ c.if-not-may_be_stamp.false)) needed)
