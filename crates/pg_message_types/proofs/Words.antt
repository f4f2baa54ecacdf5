-- Words.
use Rattle.std.proofs.Common.{◌≡◌, ℕ, Bool, true, false, List, [], ◌∷◌, ◌++◌, refl}
use Rattle.std.specs.Prelude.{nat_lt, ◌&&◌}
use Rattle.std.specs.Str.{encode_utf8_all}
use Rattle.std.proofs.lemmas.Bool.{ltb-true}
use Rattle.std.proofs.lemmas.Str.{encode_ascii}
use Rattle.pg_message_types.specs.Writing.{is_plain}

split : (a b : Bool) → a && b ≡ true → (a ≡ true) × (b ≡ true)
split true b e = (refl, e)
split false b e = absurd cc

-- the UTF-8 of plain characters is themselves
pub plain_text : (w : List ℕ) → is_plain w ≡ true → encode_utf8_all w ≡ w
plain_text [] e = refl
plain_text (c ∷ w) e =
    let h = split (nat_lt c 128) (is_plain w) e in
    (λ i. encode_ascii c (ltb-true c 128 h.0) i ++ plain_text w h.1 i)
