-- The characters of a text.
use Rattle.std.proofs.Common.{◌≡◌, ℕ, suc, ◌==◌, List, [], ◌∷◌, length, ap, sym, arith}
use Rattle.std.proofs.lemmas.Bool.Decides.{nat_tests}
use Rattle.std.proofs.lemmas.Str.{chars-nil, encodes-chars}
use Rattle.std.specs.Str.{chars, IsUtf8, encode_utf8_all}

pub no_chars : (bytes : List ℕ) → length bytes ≡ 0 → chars bytes ≡ []
no_chars [] e = chars-nil
no_chars (b ∷ bytes) e = absurd (omega arith)

-- a text has no characters where it has no bytes, and only there
pub over : (bytes : List ℕ) → IsUtf8 bytes → (length bytes == 0) ≡ (length (chars bytes) == 0)
over [] utf8 = ap (λ cs. length cs == 0) (sym chars-nil)
over (b ∷ bytes) utf8 = step (chars (b ∷ bytes)) (encodes-chars (b ∷ bytes) utf8)
  where
    step : (cs : List ℕ) → encode_utf8_all cs ≡ b ∷ bytes → (suc (length bytes) == 0) ≡ (length cs == 0)
    step [] e = absurd (omega (arith, ap length e))
    step (c ∷ cs) e = neither (length bytes) (length cs)
      where
        neither : (n m : ℕ) → (suc n == 0) ≡ (suc m == 0)
        neither n m = grind (arith, nat_tests)
