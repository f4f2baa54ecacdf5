use Rattle.std.proofs.Common.{length, take, drop, sym, ap, ◌∙◌, length-drop, drop-drop, arith}
use Rattle.std.specs.Int.{w32, from_be_bytes}
use Rattle.std.specs.Cmp.Lexicographic.{same_text}
use Rattle.pg_message_reader.proofs.Shapes.Alike.{stripped}
use Rattle.pg_message_reader.proofs.direct.groups.numbers_at.Goals as goal

pub returns : goal.returns
returns c =
    let head = c.args.head.now in
    let bytes = c.args.bytes.now in
    let numbers = c.in_ok-numbers.numbers.now in
    let cases = c.in_ok-numbers.ensures.cases in
    let first = c.in_ok-id.ensures.cases in
    let second = c.in_ok-serial.ensures.cases in
    let third = c.in_ok-creation.ensures.cases in
    let behind = second.1 ∙ ap (drop 4) first.1 in (
      numbers,
      stripped head bytes numbers (same_text (take (length head) bytes) head (sym cases.0)) cases.1,
      omega (arith, first.2, second.2, third.2, ap length first.1, length-drop 4 numbers, ap length second.1, length-drop 4 c.in_ok-id.rest.now),
      c.from_be_bytes.ensures ∙ ap (from_be_bytes w32) first.0,
      c.from_be_bytes-2.ensures ∙ ap (from_be_bytes w32) (second.0 ∙ ap (take 4) first.1),
      c.from_be_bytes-3.ensures ∙ ap (from_be_bytes w32) (third.0 ∙ ap (take 4) behind),
      third.1 ∙ ap (drop 4) behind ∙ drop-drop 4 4 (drop 4 numbers) ∙ drop-drop 8 4 numbers,
    )
