-- Texts that are appended one after another.
use Rattle.std.proofs.Common.{◌≡◌, ℕ, ◌<◌, List, [], ◌∷◌, ◌++◌, append_assoc, Result}
use Rattle.std.proofs.Common.{sym, ap, ◌∙◌, ◌+◌, take, get_or, length, subst, arith}
use Rattle.std.proofs.lemmas.Grind.{flat_map-append}
use Rattle.std.specs.List.{flat_map}
use Rattle.std.proofs.lemmas.Str.{encodes-append, encodes-chars}
use Rattle.std.proofs.lemmas.List.{append-nil, take_more, take_all}
use Rattle.std.specs.Prelude.{OnOk, Ok, Err, is_ok, if◌then◌else◌}
use Rattle.std.specs.Str.{encode_utf8_all, chars, IsUtf8}
use Rattle.pg_script_diagram.specs.Escaping.{GrowsBy}

adds_then : {x y a b c : List ℕ} → GrowsBy x a b → GrowsBy y b c → GrowsBy (x ++ y) a c
adds_then {x} {y} {a} {b} {c} f g = record { all = g.all ∙ ap (λ t. t ++ encode_utf8_all y) f.all ∙ append_assoc a (encode_utf8_all x) (encode_utf8_all y) ∙ ap (λ t. a ++ t) (sym (encodes-append x y)) }

-- the text of the element at a place, behind those of the elements before it
adds_at : {X : Type 0} (f : X → List ℕ) (xs : List X) (i : ℕ) (d : X) (a b c : List ℕ) → i < length xs
    → GrowsBy (flat_map f (take i xs)) a b → GrowsBy (f (get_or xs i d)) b c → GrowsBy (flat_map f (take (i + 1) xs)) a c
adds_at f xs i d a b c lt g h =
    let e : flat_map f (take (i + 1) xs) ≡ flat_map f (take i xs) ++ f (get_or xs i d) =
    ap (flat_map f) (take_more xs i d lt) ∙ flat_map-append f (take i xs) (get_or xs i d ∷ []) ∙ ap (λ t. flat_map f (take i xs) ++ t) (append-nil (f (get_or xs i d))) in
    subst (λ t. GrowsBy t a c) (sym e) (adds_then g h)

pub adds_each : {X : Type 0} (f : X → List ℕ) (xs : List X) (i : ℕ) (x : X) (a b c : List ℕ) → i < length xs → x ≡ get_or xs i x
    → GrowsBy (flat_map f (take i xs)) a b → GrowsBy (f x) b c → GrowsBy (flat_map f (take (i + 1) xs)) a c
adds_each f xs i x a b c lt at g h = adds_at f xs i x a b c lt g (subst (λ y. GrowsBy (f y) b c) at h)

-- the texts of all elements
pub adds_whole : {X : Type 0} (f : X → List ℕ) (xs : List X) (i : ℕ) (a b : List ℕ) → i ≡ length xs → GrowsBy (flat_map f (take i xs)) a b → GrowsBy (flat_map f xs) a b
adds_whole f xs i a b e g = subst (λ t. GrowsBy (flat_map f t) a b) (ap (λ k. take k xs) e ∙ take_all (length xs) xs (omega arith)) g

-- a text of which this is known where it was appended
pub text_added : {E : Type 0} (r : Result (Unit {0}) E) (text old new : List ℕ) → IsUtf8 text → new ≡ (if is_ok r then old ++ text else old) → OnOk r (GrowsBy (chars text) old new)
text_added (Ok x) text old new u e = record { all = e ∙ ap (λ t. old ++ t) (sym (encodes-chars text u)) }
text_added (Err x) text old new u e = tt
