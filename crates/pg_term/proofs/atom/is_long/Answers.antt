use Rattle.std.proofs.Common.{◌≡◌, ℕ, length, ltb, rules, arith, ap, sym}
use Rattle.std.specs.Str.{chars}
use Rattle.std.proofs.lemmas.Bool.{le-ltb}
use Rattle.std.proofs.lemmas.Str.{chars_from_encodes, encodes-chars, length-le-encodes}
use Rattle.pg_term.proofs.atom.is_long.Goals as goal

pub returns-then-text-le255 : goal.returns-then-text-le255
returns-then-text-le255 c =
    let text = c.args.text.now in
    sym (le-ltb 255 (length (chars text)) (omega (arith, length-le-encodes (chars text), ap length (encodes-chars text c.utf8.text), c.if-text-le255.true)))

pub returns : goal.returns
returns c =
    let n : c.count.result ≡ length (chars c.args.text.now) = search (rules, chars_from_encodes) in
    ap (λ (k : ℕ). ltb 255 k) n
