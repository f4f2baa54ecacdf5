-- What is written of a character.
use Rattle.std.proofs.Common.{◌≡◌, ◌≢◌, ◌≤◌, ℕ, List, [], ◌∷◌, Bool, true, false, refl, inl, inr, arith, codes}
use Rattle.std.specs.Prelude.{◌==◌, nat_lt}
use Rattle.std.specs.List.{All}
use Rattle.std.proofs.lemmas.Bool.{eqb-false, ltb-false}
use Rattle.std.proofs.lemmas.List.Elements.{All-append, All-cons, All-nil}
use Rattle.pg_script_diagram.specs.Escaping.{IsHarmless, IsName, IsPlain, IsPiece, allowed, escaped, escaped_char}

replaced : IsHarmless 65533
replaced = record {
  less = λ e. absurd (omega arith);
  greater = λ e. absurd (omega arith);
  quote = λ e. absurd (omega arith);
  apostrophe = λ e. absurd (omega arith);
  control = omega arith;
  noncharacter = (λ e. absurd (omega arith), λ e. absurd (omega arith));
}

plain_at : (c : ℕ) (p q r : Bool) → nat_lt c 32 ≡ p → (c == 65534) ≡ q → (c == 65535) ≡ r
    → c ≢ 38 → c ≢ 60 → c ≢ 62 → c ≢ 34 → c ≢ 39 → IsPlain (allowed c ∷ [])
plain_at c true q r e f g a b d h i = rw e (replaced, (λ x. absurd (omega arith)), refl)
plain_at c false true r e f g a b d h i = rw (e, f) (replaced, (λ x. absurd (omega arith)), refl)
plain_at c false false true e f g a b d h i = rw (e, f, g) (replaced, (λ x. absurd (omega arith)), refl)
plain_at c false false false e f g a b d h i =
    let m : 32 ≤ c = ltb-false c 32 e in
    rw (e, f, g) (
      record {
        less = b;
        greater = d;
        quote = h;
        apostrophe = i;
        control = m;
        noncharacter = (eqb-false c 65534 f, eqb-false c 65535 g);
      },
      a,
      refl,
    )

piece_at : (c : ℕ) (p q r s t : Bool) → (c == 38) ≡ p → (c == 60) ≡ q → (c == 62) ≡ r → (c == 34) ≡ s → (c == 39) ≡ t → IsPiece (escaped_char c)
piece_at c true q r s t a b d e f = rw a (inl (inl refl))
piece_at c false true r s t a b d e f = rw (a, b) (inl (inr (inl refl)))
piece_at c false false true s t a b d e f = rw (a, b, d) (inl (inr (inr (inl refl))))
piece_at c false false false true t a b d e f = rw (a, b, d, e) (inl (inr (inr (inr (inl refl)))))
piece_at c false false false false true a b d e f = rw (a, b, d, e, f) (inl (inr (inr (inr (inr refl)))))
piece_at c false false false false false a b d e f = rw (a, b, d, e, f)
    (inr (plain_at c (nat_lt c 32) (c == 65534) (c == 65535) refl refl refl
    (eqb-false c 38 a) (eqb-false c 60 b) (eqb-false c 62 d) (eqb-false c 34 e) (eqb-false c 39 f)))

pub piece_of : (c : ℕ) → IsPiece (escaped_char c)
piece_of c = piece_at c (c == 38) (c == 60) (c == 62) (c == 34) (c == 39) refl refl refl refl refl

-- the characters of names
low : (c : ℕ) → 35 ≤ c → c ≤ 38 → IsHarmless c
low c a b = record {
  less = λ e. absurd (omega arith);
  greater = λ e. absurd (omega arith);
  quote = λ e. absurd (omega arith);
  apostrophe = λ e. absurd (omega arith);
  control = omega arith;
  noncharacter = (λ e. absurd (omega arith), λ e. absurd (omega arith));
}

mid : (c : ℕ) → 40 ≤ c → c ≤ 59 → IsHarmless c
mid c a b = record {
  less = λ e. absurd (omega arith);
  greater = λ e. absurd (omega arith);
  quote = λ e. absurd (omega arith);
  apostrophe = λ e. absurd (omega arith);
  control = omega arith;
  noncharacter = (λ e. absurd (omega arith), λ e. absurd (omega arith));
}

high : (c : ℕ) → 63 ≤ c → c ≤ 127 → IsHarmless c
high c a b = record {
  less = λ e. absurd (omega arith);
  greater = λ e. absurd (omega arith);
  quote = λ e. absurd (omega arith);
  apostrophe = λ e. absurd (omega arith);
  control = omega arith;
  noncharacter = (λ e. absurd (omega arith), λ e. absurd (omega arith));
}

name0 : All IsHarmless (codes "&amp;")
name0 = All-cons IsHarmless 38 (97 ∷ 109 ∷ 112 ∷ 59 ∷ []) (low 38 (omega arith) (omega arith)) (All-cons IsHarmless 97 (109 ∷ 112 ∷ 59 ∷ []) (high 97 (omega arith) (omega arith)) (All-cons IsHarmless 109 (112 ∷ 59 ∷ []) (high 109 (omega arith) (omega arith)) (All-cons IsHarmless 112 (59 ∷ []) (high 112 (omega arith) (omega arith)) (All-cons IsHarmless 59 [] (mid 59 (omega arith) (omega arith)) (All-nil IsHarmless)))))

name1 : All IsHarmless (codes "&lt;")
name1 = All-cons IsHarmless 38 (108 ∷ 116 ∷ 59 ∷ []) (low 38 (omega arith) (omega arith)) (All-cons IsHarmless 108 (116 ∷ 59 ∷ []) (high 108 (omega arith) (omega arith)) (All-cons IsHarmless 116 (59 ∷ []) (high 116 (omega arith) (omega arith)) (All-cons IsHarmless 59 [] (mid 59 (omega arith) (omega arith)) (All-nil IsHarmless))))

name2 : All IsHarmless (codes "&gt;")
name2 = All-cons IsHarmless 38 (103 ∷ 116 ∷ 59 ∷ []) (low 38 (omega arith) (omega arith)) (All-cons IsHarmless 103 (116 ∷ 59 ∷ []) (high 103 (omega arith) (omega arith)) (All-cons IsHarmless 116 (59 ∷ []) (high 116 (omega arith) (omega arith)) (All-cons IsHarmless 59 [] (mid 59 (omega arith) (omega arith)) (All-nil IsHarmless))))

name3 : All IsHarmless (codes "&quot;")
name3 = All-cons IsHarmless 38 (113 ∷ 117 ∷ 111 ∷ 116 ∷ 59 ∷ []) (low 38 (omega arith) (omega arith)) (All-cons IsHarmless 113 (117 ∷ 111 ∷ 116 ∷ 59 ∷ []) (high 113 (omega arith) (omega arith)) (All-cons IsHarmless 117 (111 ∷ 116 ∷ 59 ∷ []) (high 117 (omega arith) (omega arith)) (All-cons IsHarmless 111 (116 ∷ 59 ∷ []) (high 111 (omega arith) (omega arith)) (All-cons IsHarmless 116 (59 ∷ []) (high 116 (omega arith) (omega arith)) (All-cons IsHarmless 59 [] (mid 59 (omega arith) (omega arith)) (All-nil IsHarmless))))))

name4 : All IsHarmless (codes "&#39;")
name4 = All-cons IsHarmless 38 (35 ∷ 51 ∷ 57 ∷ 59 ∷ []) (low 38 (omega arith) (omega arith)) (All-cons IsHarmless 35 (51 ∷ 57 ∷ 59 ∷ []) (low 35 (omega arith) (omega arith)) (All-cons IsHarmless 51 (57 ∷ 59 ∷ []) (mid 51 (omega arith) (omega arith)) (All-cons IsHarmless 57 (59 ∷ []) (mid 57 (omega arith) (omega arith)) (All-cons IsHarmless 59 [] (mid 59 (omega arith) (omega arith)) (All-nil IsHarmless)))))

plain_piece : (piece : List ℕ) → IsPlain piece → All IsHarmless piece
plain_piece [] h = absurd h
plain_piece (c ∷ cs) h = rw h.2 (All-cons IsHarmless c [] h.0 (All-nil IsHarmless))

named_piece : (piece : List ℕ) → IsName piece → All IsHarmless piece
named_piece piece (inl e) = rw e name0
named_piece piece (inr (inl e)) = rw e name1
named_piece piece (inr (inr (inl e))) = rw e name2
named_piece piece (inr (inr (inr (inl e)))) = rw e name3
named_piece piece (inr (inr (inr (inr e)))) = rw e name4

harmless_piece : (piece : List ℕ) → IsPiece piece → All IsHarmless piece
harmless_piece piece (inl h) = named_piece piece h
harmless_piece piece (inr h) = plain_piece piece h

pub harmless_text : (text : List ℕ) → All IsHarmless (escaped text)
harmless_text [] = All-nil IsHarmless
harmless_text (c ∷ cs) = All-append IsHarmless (escaped_char c) (escaped cs) (harmless_piece (escaped_char c) (piece_of c)) (harmless_text cs)
