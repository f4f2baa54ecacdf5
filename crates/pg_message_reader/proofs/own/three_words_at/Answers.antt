use Rattle.std.proofs.Common.{◌++◌, ◌∷◌, []}
use Rattle.std.specs.Int.{w32, to_be_bytes}
use Rattle.pg_message_reader.proofs.OwnReplies.{word_once}
use Rattle.pg_message_reader.proofs.own.three_words_at.Goals as goal

pub returns-clause-value : goal.returns-clause-value
returns-clause-value q = λ a b c rest la lb lc e.
    let one = word_once q.args.bytes.now q.in_ok-first.rest.now (to_be_bytes w32 b ++ (to_be_bytes w32 c ++ rest)) q.in_ok-first.first a q.in_ok-first.ensures.found la e in
    let two = word_once q.in_ok-first.rest.now q.in_ok-second.rest.now (to_be_bytes w32 c ++ rest) q.in_ok-second.second b q.in_ok-second.ensures.found lb one.1 in
    let three = word_once q.in_ok-second.rest.now q.in_ok-third.rest.now rest q.in_ok-third.third c q.in_ok-third.ensures.found lc two.1 in
    ((λ i. one.0 i ∷ two.0 i ∷ three.0 i ∷ []), three.1)
