-- Texts that are appended one after another.
use Rattle.std.specs.List.{flat_map}
use Rattle.std.proofs.Common.{zero, length, take, get_or, suc, subst, arith, ◌≡◌, ℕ, List}
use Rattle.std.proofs.Common.{[], ◌∷◌, ◌++◌, append_assoc, append-nil, refl, ap, sym, ◌∙◌}
use Rattle.std.specs.Prelude.{◌<◌, ◌^◌, decimal, Result, Ok, Err, is_ok, OnOk, if◌then◌else◌}
use Rattle.std.proofs.lemmas.Str.{encodes-chars, encodes-IsAscii}
use Rattle.std.proofs.lemmas.Fmt.{IsAscii-decimal}
use Rattle.std.specs.Str.{encode_utf8_all, chars, IsUtf8}
use Rattle.std.specs.Char.{encode_utf8}
use Rattle.pg_text.specs.Writing.{GrowsBy}

pub encoded_both : (a b : List ℕ) → encode_utf8_all (a ++ b) ≡ encode_utf8_all a ++ encode_utf8_all b
encoded_both [] b = refl
encoded_both (c ∷ cs) b = ap (λ t. encode_utf8 c ++ t) (encoded_both cs b) ∙ sym (append_assoc (encode_utf8 c) (encode_utf8_all cs) (encode_utf8_all b))

pub adds_none : (x : List ℕ) → GrowsBy [] x x
adds_none x = record { all = sym (append-nil x) }

-- one text, and then another
pub adds_both : (a b : List ℕ) {x y z : List ℕ} → GrowsBy a x y → GrowsBy b y z → GrowsBy (a ++ b) x z
adds_both a b {x} {y} {z} p q = record {
  all = q.all ∙ ap (λ t. t ++ encode_utf8_all b) p.all ∙ append_assoc x (encode_utf8_all a) (encode_utf8_all b) ∙ ap (λ t. x ++ t) (sym (encoded_both a b));
}

-- a text of which this is known where it was appended
pub text_added : {E : Type 0} (r : Result (Unit {0}) E) (text old new : List ℕ) → IsUtf8 text → new ≡ (if is_ok r then old ++ text else old) → OnOk r (GrowsBy (chars text) old new)
text_added (Ok x) text old new u e = record { all = e ∙ ap (λ t. old ++ t) (sym (encodes-chars text u)) }
text_added (Err x) text old new u e = tt

pub number_added : {E : Type 0} (r : Result (Unit {0}) E) (n : ℕ) (old new : List ℕ) → n < 2 ^ 64 → OnOk r (new ≡ old ++ decimal n) → OnOk r (GrowsBy (decimal n) old new)
number_added (Ok x) n old new small e = record { all = e ∙ ap (λ t. old ++ t) (sym (encodes-IsAscii (decimal n) (IsAscii-decimal n small))) }
number_added (Err x) n old new small e = tt

pub adds_same : (a b : List ℕ) {x y : List ℕ} → a ≡ b → GrowsBy a x y → GrowsBy b x y
adds_same a b {x} {y} e p = subst (λ (t : List ℕ). GrowsBy t x y) e p

pub adds_as : (a b : List ℕ) {x y : List ℕ} → GrowsBy a x y → a ≡ b → GrowsBy b x y
adds_as a b p e = adds_same a b e p

-- one more of them
pub more_at : {X : Type 0} (f : X → List ℕ) (xs : List X) (i : ℕ) (x : X) → i < length xs → x ≡ get_or xs i x → flat_map f (take (suc i) xs) ≡ flat_map f (take i xs) ++ f x
more_at f [] i x h e = absurd (omega arith)
more_at f (y ∷ ys) zero x h e = append-nil (f y) ∙ ap f (sym e)
more_at f (y ∷ ys) (suc i) x h e = let k : i < length ys = omega arith in ap (λ t. f y ++ t) (more_at f ys i x k e) ∙ sym (append_assoc (f y) (flat_map f (take i ys)) (f x))
