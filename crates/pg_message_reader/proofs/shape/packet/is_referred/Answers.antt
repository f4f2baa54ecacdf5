use Rattle.std.proofs.Common.{◌∙◌, refl, sym, codes, cond, []}
use Rattle.std.specs.Prelude.{is_some}
use Rattle.pg_message_types.specs.Parts.{elements_of, is_word, reference_of}
use Rattle.pg_message_types.specs.Reading.{request_of}
use Rattle.pg_message_reader.specs.Names.{all_in, names_of_request}
use Rattle.pg_message_reader.proofs.Shapes.Told.{told_if, moved, by_no_reference, by_call, by_reply, by_no_word}
use Rattle.pg_message_reader.proofs.shape.packet.is_referred.Goals as goal

pub returns-then-not-is_reference : goal.returns-then-not-is_reference
returns-then-not-is_reference c a b x mid then rest ea eb ex =
    let at = moved 62 mid c.past-reference.result.now b then (c.past-reference.ensures a mid ea) eb in
    sym (by_no_reference a b x (sym (c.is_reference.ensures 62 b then at) ∙ c.if-not-is_reference.true))

pub returns-then-is_word : goal.returns-then-is_word
returns-then-is_word c a b x mid then rest ea eb ex =
    let at = moved 62 mid c.past-reference.result.now b then (c.past-reference.ensures a mid ea) eb in
    let last = moved 62 then c.past-said.result.now x rest (c.past-said.ensures b then at) ex in
    let there = sym (c.is_reference.ensures 62 b then at) ∙ c.if-not-is_reference.false in
    let word = sym (c.is_word.ensures 62 a mid ea) ∙ c.if-is_word.true in
    let names = names_of_request (all_in (elements_of x)) in
    told_if (is_some (reference_of b)) (cond (is_word a (codes "call")) names []) (is_some (request_of x)) _ c.is_request.result there (by_call a b x there word)
    (told_if (is_word a (codes "call")) names (is_some (request_of x)) (is_some (request_of x)) c.is_request.result word refl (c.is_request.ensures x rest last))

pub returns-then-is_word-2 : goal.returns-then-is_word-2
returns-then-is_word-2 c a b x mid then rest ea eb ex =
    let at = moved 62 mid c.past-reference.result.now b then (c.past-reference.ensures a mid ea) eb in
    let last = moved 62 then c.past-said.result.now x rest (c.past-said.ensures b then at) ex in
    let there = sym (c.is_reference.ensures 62 b then at) ∙ c.if-not-is_reference.false in
    c.is_said.ensures 62 x rest last ∙ sym (by_reply a b x there (sym (c.is_word.ensures 62 a mid ea) ∙ c.if-is_word.false) (sym (c.is_word-else-is_word.ensures 62 a mid ea) ∙ c.if-is_word-2.true))

pub returns-else-is_word-2 : goal.returns-else-is_word-2
returns-else-is_word-2 c a b x mid then rest ea eb ex =
    let at = moved 62 mid c.past-reference.result.now b then (c.past-reference.ensures a mid ea) eb in
    let there = sym (c.is_reference.ensures 62 b then at) ∙ c.if-not-is_reference.false in
    sym (by_no_word a b x there (sym (c.is_word.ensures 62 a mid ea) ∙ c.if-is_word.false) (sym (c.is_word-else-is_word.ensures 62 a mid ea) ∙ c.if-is_word-2.false))
