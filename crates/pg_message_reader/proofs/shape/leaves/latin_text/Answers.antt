use Rattle.std.proofs.Common.{◌≡◌, ◌+◌, arith, take, length, ap, ◌∙◌, length-append}
use Rattle.std.specs.Str.{chars, encode_utf8_all}
use Rattle.std.specs.Char.{encode_utf8}
use Rattle.std.proofs.lemmas.List.{take_all}
use Rattle.pg_term_io.proofs.Latin.{latin_short, latin_more, latin_chars}
use Rattle.pg_message_reader.proofs.shape.leaves.latin_text.Goals as goal

pub push-requires : goal.push-requires
push-requires c = (omega arith, omega (arith, latin_short c.from.result (omega (arith, c.type_inv.bytes c.loop-byte.byte-index))))

pub loop-byte-preserved : goal.loop-byte-preserved
loop-byte-preserved c =
    let bytes = c.args.bytes.now in
    let i = c.loop-byte.byte-index in
    let more = latin_more bytes i c.loop-byte-test.true in
    let short = latin_short c.from.result (omega (arith, c.type_inv.bytes i)) in
    let text : c.push.new.self.bytes ≡ encode_utf8_all (take (i + 1) bytes) = cc (more, c.push.ensures.bytes, c.from.ensures, c.loop-byte.invariant.0) in
    (text, omega (arith, short, ap length c.push.ensures.bytes, length-append c.loop-byte.text.bytes (encode_utf8 c.from.result), c.loop-byte.invariant.1))

pub returns : goal.returns
returns c = λ few.
    let bytes = c.args.bytes.now in
    let whole : c.loop-byte.text.bytes ≡ encode_utf8_all bytes = c.loop-byte.invariant.0 ∙ ap encode_utf8_all (take_all c.loop-byte.byte-index bytes c.loop-byte-test.false) in
    ap chars whole ∙ latin_chars bytes (λ i. omega (arith, c.type_inv.bytes i))
