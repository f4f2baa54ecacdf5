use Rattle.std.proofs.Common.{◌∙◌, List, ℕ, length, arith, ap, sym, subst, refl}
use Rattle.std.specs.Str.{chars, is_utf8, IsUtf8}
use Rattle.std.proofs.lemmas.Bool.{ltb-true}
use Rattle.std.proofs.lemmas.Str.{is_utf8-from_IsUtf8}
use Rattle.pg_term_io.proofs.Cuts.{utf8_refused}
use Rattle.pg_term_io.proofs.reading.scanning.check_utf8.Goals as goal

pub returns-then-is_long : goal.returns-then-is_long
returns-then-is_long c =
    let text = c.in-Ok.text.now in
    let same = ap (λ (b : List ℕ). length (chars b)) c.in-Ok.ensures.cases.0 in
    utf8_refused c.args.text.now (is_utf8 c.args.text.now) refl (λ u. omega (arith, ltb-true 255 (length (chars text)) (sym c.is_long.ensures ∙ c.if-is_long.true), same))

pub returns-else-is_long : goal.returns-else-is_long
returns-else-is_long c =
    let text = c.in-Ok.text.now in
    let cases = c.in-Ok.ensures.cases in
    (chars text, rw (← cases.0, is_utf8-from_IsUtf8 text (subst IsUtf8 (sym cases.0) cases.1), sym c.is_long.ensures ∙ c.if-is_long.false) refl)

pub returns-in-Err : goal.returns-in-Err
returns-in-Err c = utf8_refused c.args.text.now (is_utf8 c.args.text.now) refl (λ u. absurd (c.in-Err.ensures.cases.0 u))
