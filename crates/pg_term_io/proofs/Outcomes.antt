-- What a reader answers: a value whose spelling it took from the front, or a fault that the bytes have.
use Rattle.std.proofs.Common.{◌≡◌, ℕ, zero, suc, ◌+◌, ◌%◌, ◌<◌, ◌≤◌, ◌^◌, Bool, true, false, cond}
use Rattle.std.proofs.Common.{ltb, inl, inr, List, [], ◌∷◌, ◌++◌, length, length-append, get_or, take}
use Rattle.std.proofs.Common.{drop, Result, Ok, Err, refl, sym, ap, subst, ◌∙◌, append_assoc, arith}
use Rattle.std.specs.Int.{Width, byte_len, w8, w16, w32, to_be_bytes, from_be_bytes, bytes_high_first}
use Rattle.std.proofs.lemmas.Bool.{cases_lt, ltb-false, ltb-true}
use Rattle.std.proofs.lemmas.List.{take-append-drop, length-take, get_or-drop, get_or-take, get_or_past}
use Rattle.std.proofs.lemmas.Nat.{be_bytes_2, be_bytes_4}
use Rattle.pg_term.specs.declared.fault.TermFault.{TermFault}
use Rattle.pg_term.specs.declared.fault.TermFault.TheVariants.{Truncated}
use Rattle.pg_term_io.specs.Reading.{Read, ◌>>=◌, byte_at, number_at, bytes_at}

abbrev pub EachByte : List ℕ → Type 0
EachByte bytes = (i : ℕ) → get_or bytes i 0 < 256

EachByte-drop : (n : ℕ) (bytes : List ℕ) → EachByte bytes → EachByte (drop n bytes)
EachByte-drop n bytes h i = rw get_or-drop (h (n + i))

EachByte-take : (n : ℕ) (bytes : List ℕ) → EachByte bytes → EachByte (take n bytes)
EachByte-take n bytes h i =
    elim (cases_lt i n) [
      | inl lt ↦ rw (get_or-take n bytes i 0 lt) (h i)
      | inr le ↦ rw (get_or_past (take n bytes) i 0 (omega (arith, length-take n bytes))) (omega arith)
    ]

-- what a reader took from the front, and the bytes after it
pub record Took {A : Type 0} (P : A → List ℕ → Type 0) (bytes : List ℕ) (x : A × List ℕ) : Type 0 where
  pub text : List ℕ
  pub parts : bytes ≡ text ++ x.1
  pub is : P x.0 text
  pub fits : EachByte x.1

-- P is the relation of a value and its spelling, Q that of a fault and the bytes that have it
abbrev pub Right : {A : Type 0} → (A → List ℕ → Type 0) → (TermFault → List ℕ → Type 0) → List ℕ → Read A → Type 0
Right P Q bytes (Ok x) = Took P bytes x
Right P Q bytes (Err e) = Q e bytes

-- fewer than n bytes are there
abbrev pub Cut : ℕ → TermFault → List ℕ → Type 0
Cut n e b = (e ≡ Truncated) × (length b < n)

pub cut_first : (m n : ℕ) (e : TermFault) (b : List ℕ) → m ≤ n → Cut m e b → Cut n e b
cut_first m n e b le h = (h.0, omega (arith, h.1))

pub cut_behind : (m n : ℕ) (e : TermFault) (x y : List ℕ) → length x + m ≤ n → Cut m e y → Cut n e (x ++ y)
cut_behind m n e x y le h = (h.0, omega (arith, h.1, length-append x y))

-- ---- steps of a reader

module _ {A : Type 0} (P : A → List ℕ → Type 0) (Q : TermFault → List ℕ → Type 0) (bytes : List ℕ) where
  pub right_if : (b : Bool) (x y : Read A) → (b ≡ true → Right P Q bytes x) → (b ≡ false → Right P Q bytes y) → Right P Q bytes (cond b x y)
  right_if true x y h k = h refl
  right_if false x y h k = k refl

-- the value in another form
pub right_map : {A B : Type 0} (P : A → List ℕ → Type 0) (Q : TermFault → List ℕ → Type 0) (P' : B → List ℕ → Type 0) (Q' : TermFault → List ℕ → Type 0) (bytes : List ℕ) (g : A → B) (read : Read A)
    → Right P Q bytes read → ((a : A) (x : List ℕ) → P a x → P' (g a) x) → ((e : TermFault) → Q e bytes → Q' e bytes) → Right P' Q' bytes (read >>= λ x. Ok (g x.0, x.1))
right_map P Q P' Q' bytes g (Ok x) h makes fails = record { text = h.text; parts = h.parts; is = makes x.0 h.text h.is; fits = h.fits }
right_map P Q P' Q' bytes g (Err e) h makes fails = fails e h

behind : {B : Type 0} (P : B → List ℕ → Type 0) (Q : TermFault → List ℕ → Type 0) (P' : B → List ℕ → Type 0) (Q' : TermFault → List ℕ → Type 0) (bytes text rest : List ℕ) (read : Read B)
    → bytes ≡ text ++ rest → Right P Q rest read → ((b : B) (y : List ℕ) → P b y → P' b (text ++ y)) → ((e : TermFault) (y : List ℕ) → Q e y → Q' e (text ++ y)) → Right P' Q' bytes read
behind P Q P' Q' bytes text rest (Ok z) parts h joins fails =
    record { text = text ++ h.text; parts = parts ∙ ap (λ (t : List ℕ). text ++ t) h.parts ∙ sym (append_assoc text h.text z.1); is = joins z.0 h.text h.is; fits = h.fits }
behind P Q P' Q' bytes text rest (Err e) parts h joins fails = subst (Q' e) (sym parts) (fails e rest h)

-- one reader, and then another, by what the first one gave
pub right_then : {A B : Type 0} (P : A → List ℕ → Type 0) (Q : TermFault → List ℕ → Type 0) (P₂ : A → B → List ℕ → Type 0) (Q₂ : A → TermFault → List ℕ → Type 0) (P' : B → List ℕ → Type 0) (Q' : TermFault → List ℕ → Type 0)
    (bytes : List ℕ) (read : Read A) (next : A × List ℕ → Read B)
    → Right P Q bytes read
    → ((a : A) (rest : List ℕ) → EachByte rest → Right (P₂ a) (Q₂ a) rest (next (a, rest)))
    → ((a : A) (b : B) (x y : List ℕ) → P a x → P₂ a b y → P' b (x ++ y))
    → ((a : A) (e : TermFault) (x y : List ℕ) → P a x → Q₂ a e y → Q' e (x ++ y))
    → ((e : TermFault) → Q e bytes → Q' e bytes)
    → Right P' Q' bytes (read >>= next)
right_then P Q P₂ Q₂ P' Q' bytes (Err e) next h goes joins fails first = first e h
right_then P Q P₂ Q₂ P' Q' bytes (Ok x) next h goes joins fails first =
    behind (P₂ x.0) (Q₂ x.0) P' Q' bytes h.text x.1 (next x) h.parts (goes x.0 x.1 h.fits) (λ b y k. joins x.0 b h.text y h.is k) (λ e y k. fails x.0 e h.text y h.is k)

-- a test of what was read, which takes no bytes
pub right_pure : {A : Type 0} (r : Result A TermFault) (rest : List ℕ) → EachByte rest → Right (λ a y. (y ≡ []) × (r ≡ Ok a)) (λ e y. r ≡ Err e) rest (r >>= λ a. Ok (a, rest))
right_pure (Ok a) rest fits = record { text = []; parts = refl; is = (refl, refl); fits = fits }
right_pure (Err e) rest fits = refl

-- ---- bytes, numbers and texts

abbrev pub IsByte : ℕ → List ℕ → Type 0
IsByte n b = (n < 256) × (b ≡ n ∷ [])

abbrev pub IsWord : ℕ → List ℕ → Type 0
IsWord n b = (n < 2 ^ 32) × (b ≡ to_be_bytes w32 n)

abbrev pub IsHalf : ℕ → List ℕ → Type 0
IsHalf n b = (n < 2 ^ 16) × (b ≡ to_be_bytes w16 n)

abbrev pub IsText : ℕ → List ℕ → List ℕ → Type 0
IsText n text b = (length text ≡ n) × (b ≡ text) × EachByte text

pub byte_right : (bytes : List ℕ) → EachByte bytes → Right IsByte (Cut 1) bytes (byte_at bytes)
byte_right [] fits = (refl, omega arith)
byte_right (b ∷ bytes) fits = record { text = b ∷ []; parts = refl; is = (fits 0, refl); fits = λ i. fits (suc i) }

front_right : {A : Type 0} (P : A → List ℕ → Type 0) (n : ℕ) (bytes : List ℕ) (value : List ℕ → A) → EachByte bytes → ((text : List ℕ) → length text ≡ n → EachByte text → P (value text) text)
    → Right P (Cut n) bytes (cond (ltb (length bytes) n) (Err Truncated) (Ok (value (take n bytes), drop n bytes)))
front_right P n bytes value fits spells =
    right_if P (Cut n) bytes (ltb (length bytes) n) (Err Truncated) (Ok (value (take n bytes), drop n bytes))
    (λ short. (refl, ltb-true (length bytes) n short))
    (λ long. let le : n ≤ length bytes = ltb-false (length bytes) n long in
    record { text = take n bytes; parts = sym (take-append-drop n bytes); is = spells (take n bytes) (omega (arith, length-take n bytes)) (EachByte-take n bytes fits); fits = EachByte-drop n bytes fits })

pub word_right : (bytes : List ℕ) → EachByte bytes → Right IsWord (Cut 4) bytes (number_at w32 bytes)
word_right bytes fits = front_right IsWord 4 bytes (from_be_bytes w32) fits (λ text len fit. (omega (arith, fit 0, fit 1, fit 2, fit 3), sym (be_bytes_4 text (from_be_bytes w32 text) len fit refl)))

pub half_right : (bytes : List ℕ) → EachByte bytes → Right IsHalf (Cut 2) bytes (number_at w16 bytes)
half_right bytes fits = front_right IsHalf 2 bytes (from_be_bytes w16) fits (λ text len fit. (omega (arith, fit 0, fit 1), sym (be_bytes_2 text (from_be_bytes w16 text) len fit refl)))

pub text_right : (n : ℕ) (bytes : List ℕ) → EachByte bytes → Right (IsText n) (Cut n) bytes (bytes_at n bytes)
text_right n bytes fits = front_right (IsText n) n bytes (λ text. text) fits (λ text len fit. (len, refl, fit))

-- a number of so many bits, the highest byte first
abbrev pub IsNumber : Width → ℕ → List ℕ → Type 0
IsNumber w n b = (n < 256 ^ byte_len w) × (b ≡ to_be_bytes w n)

-- what reading such a number answers
abbrev pub NumberRight : Width → Type 0
NumberRight w = (bytes : List ℕ) → EachByte bytes → Right (IsNumber w) (Cut (byte_len w)) bytes (number_at w bytes)

only_byte : (text : List ℕ) → length text ≡ 1 → EachByte text → text ≡ to_be_bytes w8 (from_be_bytes w8 text)
only_byte [] len fit = absurd (omega (arith, len))
only_byte (a ∷ []) len fit = let e : a ≡ a % 256 = omega (arith, fit 0) in λ i. e i ∷ []
only_byte (a ∷ b ∷ text) len fit = absurd (omega (arith, len))

pub small_number_right : NumberRight w8
small_number_right bytes fits = front_right (IsNumber w8) 1 bytes (from_be_bytes w8) fits (λ text len fit. (omega (arith, fit 0), only_byte text len fit))

pub number_right : NumberRight w32
number_right = word_right

length_high : (k n : ℕ) → length (bytes_high_first k n) ≡ k
length_high zero n = refl
length_high (suc k) n = ap suc (length_high k n)

pub length_number : (w : Width) (n : ℕ) (b : List ℕ) → IsNumber w n b → length b ≡ byte_len w
length_number w n b h = ap length h.1 ∙ length_high (byte_len w) n

pub length_word : (n : ℕ) (b : List ℕ) → IsWord n b → length b ≡ 4
length_word n b h = ap length h.1

pub length_byte : (n : ℕ) (b : List ℕ) → IsByte n b → length b ≡ 1
length_byte n b h = ap length h.1
