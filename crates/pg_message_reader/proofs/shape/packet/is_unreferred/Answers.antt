use Rattle.std.proofs.Common.{◌∙◌, sym, codes}
use Rattle.std.specs.Prelude.{is_some}
use Rattle.pg_message_types.specs.Parts.{elements_of, is_word}
use Rattle.pg_message_types.specs.Reading.{cast_of}
use Rattle.pg_message_reader.specs.Names.{all_in, names_of_cast}
use Rattle.pg_message_reader.proofs.Shapes.Told.{told_if, moved, by_cast, by_down, by_neither}
use Rattle.pg_message_reader.proofs.shape.packet.is_unreferred.Goals as goal

pub returns-then-is_word : goal.returns-then-is_word
returns-then-is_word c a b mid rest ea eb =
    told_if (is_word a (codes "cast")) (names_of_cast (all_in (elements_of b))) (is_some (cast_of b)) _ c.is_cast.result (sym (c.is_word.ensures 62 a mid ea) ∙ c.if-is_word.true) (by_cast a b (sym (c.is_word.ensures 62 a mid ea) ∙ c.if-is_word.true))
    (c.is_cast.ensures b rest (moved 62 mid c.past-said.result.now b rest (c.past-said.ensures a mid ea) eb))

pub returns-then-is_word-2 : goal.returns-then-is_word-2
returns-then-is_word-2 c a b mid rest ea eb =
    c.is_pid.ensures 62 b rest (moved 62 mid c.past-said.result.now b rest (c.past-said.ensures a mid ea) eb)
    ∙ sym (by_down a b (sym (c.is_word.ensures 62 a mid ea) ∙ c.if-is_word.false) (sym (c.is_word-else-is_word.ensures 62 a mid ea) ∙ c.if-is_word-2.true))

pub returns-else-is_word-2 : goal.returns-else-is_word-2
returns-else-is_word-2 c a b mid rest ea eb = sym (by_neither a b (sym (c.is_word.ensures 62 a mid ea) ∙ c.if-is_word.false) (sym (c.is_word-else-is_word.ensures 62 a mid ea) ∙ c.if-is_word-2.false))
