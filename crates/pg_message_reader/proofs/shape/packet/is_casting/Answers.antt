use Rattle.std.proofs.Common.{◌∙◌, ◌∷◌, [], sym}
use Rattle.std.specs.Prelude.{is_some}
use Rattle.pg_message_types.specs.Reading.{freed, read_exchange}
use Rattle.pg_message_reader.specs.Names.{names_of_cast, names_of_freed, names_of_exchange}
use Rattle.pg_message_reader.proofs.Shapes.Told.{told, told_of, moved, by_del_lock, names_of_lock, by_word, names_of_all, by_no_cast}
use Rattle.pg_message_reader.proofs.shape.packet.is_casting.Goals as goal

pub returns-then-is_word : goal.returns-then-is_word
returns-then-is_word c a b x mid then rest ea eb ex =
    let at = moved 61 mid c.past-first.result.now b then (c.past-first.ensures a mid ea) eb in
    let last = moved 61 then c.past-second.result.now x rest (c.past-second.ensures b then at) ex in
    let word = sym (c.is_word.ensures 61 a mid ea) ∙ c.if-is_word.true in
    told (names_of_cast (a ∷ b ∷ x ∷ [])) (is_some (freed b x)) _ c.is_freed.result (by_del_lock b x a word)
    (told_of (names_of_freed b x) (names_of_cast (a ∷ b ∷ x ∷ [])) (is_some (freed b x)) c.is_freed.result (names_of_lock b x a word) (c.is_freed.ensures b x then rest at last))

pub returns-then-is_word-2 : goal.returns-then-is_word-2
returns-then-is_word-2 c a b x mid then rest ea eb ex =
    let at = moved 61 mid c.past-first.result.now b then (c.past-first.ensures a mid ea) eb in
    let last = moved 61 then c.past-second.result.now x rest (c.past-second.ensures b then at) ex in
    let other = sym (c.is_word.ensures 61 a mid ea) ∙ c.if-is_word.false in
    let word = sym (c.is_word-else-is_word.ensures 61 a mid ea) ∙ c.if-is_word-2.true in
    told (names_of_cast (a ∷ b ∷ x ∷ [])) (is_some (read_exchange b x)) _ c.is_exchange.result (by_word b x a other word)
    (told_of (names_of_exchange b x) (names_of_cast (a ∷ b ∷ x ∷ [])) (is_some (read_exchange b x)) c.is_exchange.result (names_of_all b x a other word) (c.is_exchange.ensures b x then rest at last))

pub returns-else-is_word-2 : goal.returns-else-is_word-2
returns-else-is_word-2 c a b x mid then rest ea eb ex =
    sym (by_no_cast b x a (sym (c.is_word.ensures 61 a mid ea) ∙ c.if-is_word.false) (sym (c.is_word-else-is_word.ensures 61 a mid ea) ∙ c.if-is_word-2.false))
