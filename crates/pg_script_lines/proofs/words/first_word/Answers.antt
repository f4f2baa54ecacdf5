use Rattle.std.proofs.Common.{◌≡◌, ℕ, length, arith, rules, sym, ◌+◌, ◌<◌, ap, ◌∙◌, get_or, List}
use Rattle.std.proofs.lemmas.Str.{IsCharBoundary-after_ascii}
use Rattle.pg_script_lines.proofs.Walks.{whole_word, front_word}
use Rattle.pg_script_lines.proofs.words.first_word.Goals as goal

pub returns-then-len-text : goal.returns-then-len-text
returns-then-len-text c =
    whole_word c.args.text.now c.as_bytes.result.now c.word_len-len.result c.as_bytes.ensures.value c.word_len-len.ensures.value c.if-len-text.true

pub range_from-requires : goal.range_from-requires
range_from-requires c =
    let same : c.as_bytes.result.now ≡ c.args.text.now = c.as_bytes.ensures.value in
    let len : length c.as_bytes.result.now ≡ length c.args.text.now = ap length same in
    let few : c.word_len-len.result < length c.args.text.now = omega arith in
    let less : c.word_len-len.result < length c.as_bytes.result.now = omega arith in
    let space : get_or c.args.text.now c.word_len-len.result 0 ≡ 32 =
    ap (λ (t : List ℕ). get_or t c.word_len-len.result 0) (sym same) ∙ c.word_len-len.ensures.space less in
    λ h. IsCharBoundary-after_ascii c.args.text.now c.word_len-len.result c.utf8.text few (omega arith)

pub returns : goal.returns
returns c =
    rw (c.range.ensures.value, c.range_from.ensures.value)
    (front_word c.args.text.now c.as_bytes.result.now c.word_len-len.result c.as_bytes.ensures.value c.word_len-len.ensures.value c.word_len-len.ensures.within c.if-len-text.false)
