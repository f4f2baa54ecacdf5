-- Texts that are appended one after another.
use Rattle.std.proofs.Common.{◌≡◌, ℕ, ◌^◌, ◌<◌, List, [], ◌∷◌, ◌++◌, append_assoc, Result, sym, ap, ◌∙◌, ◌+◌}
use Rattle.std.proofs.Common.{take, get_or, length, subst, cond, false, map, length-take, ◌≤◌, ◌-◌, drop, arith}
use Rattle.std.proofs.lemmas.Grind.{flat_map-append}
use Rattle.std.specs.List.{flat_map}
use Rattle.std.proofs.lemmas.Str.{encodes-append, encodes-IsAscii, encodes-chars}
use Rattle.std.proofs.lemmas.Fmt.{IsAscii-decimal, IsAscii-signed}
use Rattle.std.proofs.lemmas.List.{append-nil, take_more, take_all, map-append, length-map}
use borrow.Author.Tests.{eq-eqb, ne_eqb}
use Rattle.pg_term.specs.declared.term.Term.{Term}
use Rattle.std.specs.Prelude.{OnOk, decimal, Ok, Err, ℤ}
use Rattle.std.specs.Fmt.{signed_decimal}
use Rattle.std.specs.Str.{encode_utf8_all, chars, IsUtf8, IsAscii}
use lib.Signed.{mag}
use Rattle.pg_text.specs.Writing.{GrowsBy, more_text, with_commas, needs_no_quotes, quoted_text}
use Rattle.pg_text.specs.Writing.{atom_text, comma_text, terms_text, term_text}

pub adds_nothing : (a : List ℕ) → GrowsBy [] a a
adds_nothing a = record { all = sym (append-nil a) }

pub adds_then : {x y a b c : List ℕ} → GrowsBy x a b → GrowsBy y b c → GrowsBy (x ++ y) a c
adds_then {x} {y} {a} {b} {c} f g = record { all = g.all ∙ ap (λ t. t ++ encode_utf8_all y) f.all ∙ append_assoc a (encode_utf8_all x) (encode_utf8_all y) ∙ ap (λ t. a ++ t) (sym (encodes-append x y)) }

-- the text of the element at a place, behind those of the elements before it
pub adds_at : {X : Type 0} (f : X → List ℕ) (xs : List X) (i : ℕ) (d : X) (a b c : List ℕ) → i < length xs
    → GrowsBy (flat_map f (take i xs)) a b → GrowsBy (f (get_or xs i d)) b c → GrowsBy (flat_map f (take (i + 1) xs)) a c
adds_at f xs i d a b c lt g h =
    let e : flat_map f (take (i + 1) xs) ≡ flat_map f (take i xs) ++ f (get_or xs i d) =
    ap (flat_map f) (take_more xs i d lt) ∙ flat_map-append f (take i xs) (get_or xs i d ∷ []) ∙ ap (λ t. flat_map f (take i xs) ++ t) (append-nil (f (get_or xs i d))) in
    subst (λ t. GrowsBy t a c) (sym e) (adds_then g h)

pub adds_each : {X : Type 0} (f : X → List ℕ) (xs : List X) (i : ℕ) (x : X) (a b c : List ℕ) → i < length xs → x ≡ get_or xs i x
    → GrowsBy (flat_map f (take i xs)) a b → GrowsBy (f x) b c → GrowsBy (flat_map f (take (i + 1) xs)) a c
adds_each f xs i x a b c lt at g h = adds_at f xs i x a b c lt g (subst (λ y. GrowsBy (f y) b c) at h)

-- the texts of all elements
pub adds_whole : {X : Type 0} (f : X → List ℕ) (xs : List X) (i : ℕ) (a b : List ℕ) → i ≡ length xs → GrowsBy (flat_map f (take i xs)) a b → GrowsBy (flat_map f xs) a b
adds_whole f xs i a b e g = subst (λ t. GrowsBy (flat_map f t) a b) (ap (λ k. take k xs) e ∙ take_all (length xs) xs (omega arith)) g

-- the last call of a function
pub adds_last : {T E : Type 0} {x a b : List ℕ} (r : Result T E) (y c : List ℕ) → GrowsBy x a b → OnOk r (GrowsBy y b c) → OnOk r (GrowsBy (x ++ y) a c)
adds_last (Ok v) y c f g = adds_then f g
adds_last (Err e) y c f g = g

pub adds_bytes : (x bytes a b : List ℕ) → encode_utf8_all x ≡ bytes → b ≡ a ++ bytes → GrowsBy x a b
adds_bytes x bytes a b e f = record { all = f ∙ ap (λ t. a ++ t) (sym e) }

pub adds_ascii : (x a b : List ℕ) → IsAscii x → b ≡ a ++ x → GrowsBy x a b
adds_ascii x a b h f = adds_bytes x x a b (encodes-IsAscii x h) f

pub adds_chars : (x a b : List ℕ) → IsUtf8 x → b ≡ a ++ x → GrowsBy (chars x) a b
adds_chars x a b h f = adds_bytes (chars x) x a b (encodes-chars x h) f

pub adds_decimal : (n : ℕ) (a b : List ℕ) → n < 2 ^ 64 → b ≡ a ++ decimal n → GrowsBy (decimal n) a b
adds_decimal n a b h f = adds_ascii (decimal n) a b (IsAscii-decimal n h) f

pub adds_signed : (z : ℤ) (a b : List ℕ) → mag z < 2 ^ 63 → b ≡ a ++ signed_decimal z → GrowsBy (signed_decimal z) a b
adds_signed z a b h f = adds_ascii (signed_decimal z) a b (IsAscii-signed z h) f

-- the same characters
pub adds_same : {T E : Type 0} {x y : List ℕ} (r : Result T E) (a b : List ℕ) → x ≡ y → OnOk r (GrowsBy x a b) → OnOk r (GrowsBy y a b)
adds_same r a b e f = subst (λ t. OnOk r (GrowsBy t a b)) e f

-- elements with commas between them are the first, and the others behind commas
pub listed_parts : {X : Type 0} (text : X → List ℕ) (xs : List X) (d : X) → 1 ≤ length xs → text (get_or xs 0 d) ++ more_text text (take (length xs - 1) (drop 1 xs)) ≡ with_commas text xs
listed_parts text [] d lt = absurd (omega arith)
listed_parts text (x ∷ xs) d lt = ap (λ t. text x ++ more_text text t) (take_all (length (x ∷ xs) - 1) xs (omega arith))

pub quoted_atom : (cs a : List ℕ) → cs ≡ a → needs_no_quotes cs ≡ false → 39 ∷ (flat_map quoted_text cs ++ 39 ∷ []) ≡ atom_text a
unfolding atom_text
quoted_atom cs a e bare = subst (λ t. 39 ∷ (flat_map quoted_text cs ++ 39 ∷ []) ≡ atom_text t) e (ap (λ t. cond t cs (39 ∷ (flat_map quoted_text cs ++ 39 ∷ []))) (sym bare))

-- one element more
pub listed_push : {X : Type 0} (text : X → List ℕ) (xs : List X) (x : X) (n : ℕ) → n ≡ length xs → (with_commas text xs ++ comma_text n) ++ text x ≡ with_commas text (xs ++ x ∷ [])
listed_push text [] x n e = ap (λ t. cond t [] (44 ∷ []) ++ text x) (eq-eqb n 0 e) ∙ sym (append-nil (text x))
listed_push text (y ∷ ys) x n e =
    let first : (with_commas text (y ∷ ys) ++ comma_text n) ++ text x ≡ ((text y ++ more_text text ys) ++ 44 ∷ []) ++ text x = ap (λ t. ((text y ++ more_text text ys) ++ cond t [] (44 ∷ [])) ++ text x) (ne_eqb n 0 (λ z. omega arith)) in
    let last : more_text text (ys ++ x ∷ []) ≡ more_text text ys ++ 44 ∷ text x = flat_map-append (λ z. 44 ∷ text z) ys (x ∷ []) ∙ ap (λ t. more_text text ys ++ 44 ∷ t) (append-nil (text x)) in
    first ∙ append_assoc (text y ++ more_text text ys) (44 ∷ []) (text x) ∙ append_assoc (text y) (more_text text ys) (44 ∷ text x) ∙ ap (λ t. text y ++ t) (sym last)

-- the text of the term at a place, behind those of the terms before it
pub adds_term : (ts : List Term) (i : ℕ) (t : Term) (a b c e : List ℕ) → i < length ts → t ≡ get_or ts i t
    → GrowsBy (terms_text (take i ts)) a b → GrowsBy (comma_text i) b c → GrowsBy (term_text t) c e → GrowsBy (terms_text (take (i + 1) ts)) a e
adds_term ts i t a b c e lt at f g h =
    let parts : map term_text (take (i + 1) ts) ≡ map term_text (take i ts) ++ term_text t ∷ [] =
    ap (map term_text) (take_more ts i t lt) ∙ map-append term_text (take i ts) (get_or ts i t ∷ []) ∙ ap (λ z. map term_text (take i ts) ++ term_text z ∷ []) (sym at) in
    let n : i ≡ length (map term_text (take i ts)) = omega (arith, length-map (take i ts) term_text, length-take i ts) in
    subst (λ z. GrowsBy z a e) (listed_push (λ part. part) (map term_text (take i ts)) (term_text t) i n ∙ ap (with_commas (λ part. part)) (sym parts)) (adds_then (adds_then f g) h)
