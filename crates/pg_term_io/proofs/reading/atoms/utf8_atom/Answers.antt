use Rattle.std.proofs.Common.{◌≡◌, ℕ, List, Bool, true, false, Err, refl, sym, subst}
use Rattle.std.specs.Str.{is_utf8, IsUtf8}
use Rattle.std.proofs.lemmas.Str.{is_utf8-from_IsUtf8, IsUtf8-from_is_utf8}
use Rattle.pg_term.specs.declared.fault.TermFault.TheVariants.{BadAtom}
use Rattle.pg_term_io.specs.Reading.{utf8_atom}
use Rattle.pg_term_io.proofs.reading.atoms.utf8_atom.Goals as goal

pub returns-in-Ok : goal.returns-in-Ok
returns-in-Ok c =
    let cases = c.in-Ok.ensures.cases in
    rw (← cases.0, is_utf8-from_IsUtf8 c.in-Ok.text.now (subst IsUtf8 (sym cases.0) cases.1)) c.new.ensures.exact

not_text : (bytes : List ℕ) (b : Bool) → is_utf8 bytes ≡ b → (IsUtf8 bytes → ⊥) → utf8_atom bytes ≡ Err BadAtom
not_text bytes true e h = absurd (h (IsUtf8-from_is_utf8 bytes e))
not_text bytes false e h = rw e refl

pub returns-in-Err : goal.returns-in-Err
returns-in-Err c = not_text c.args.bytes.now (is_utf8 c.args.bytes.now) refl c.in-Err.ensures.cases.0
