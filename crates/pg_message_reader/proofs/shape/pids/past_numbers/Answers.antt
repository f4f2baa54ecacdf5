use Rattle.std.proofs.Common.{◌-◌, length, take, drop, sym, ap, ◌∙◌, length-drop, arith}
use Rattle.std.specs.Cmp.Lexicographic.{same_text}
use Rattle.std.proofs.Math.Seq.{take-length}
use Rattle.pg_message_reader.proofs.Shapes.Alike.{stripped}
use Rattle.pg_message_reader.proofs.shape.pids.past_numbers.Goals as goal

pub returns-in-Some : goal.returns-in-Some
returns-in-Some c =
    let head = c.args.head.now in
    let bytes = c.args.bytes.now in
    let numbers = c.in-Some.numbers.now in
    let cases = c.in-Some.ensures.cases in (
      numbers,
      stripped head bytes numbers (same_text (take (length head) bytes) head (sym cases.0)) cases.1,
      omega (arith, c.if-numbers-ge-NUMBERS.true),
      ap (λ n. take n (drop 12 numbers)) {x = length numbers - 12} {y = length (drop 12 numbers)} (omega (arith, length-drop 12 numbers)) ∙ take-length (drop 12 numbers),
    )
