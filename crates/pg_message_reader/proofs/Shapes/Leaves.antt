-- The texts of atoms, and integers, by their tags.
use Rattle.std.proofs.Common.{◌≡◌, ◌≢◌, ℕ, pos, ◌≤◌, ◌<◌, ◌^◌, List, [], ◌∷◌, ◌++◌, length, refl, sym, ap, subst, ◌∙◌, arith, append_assoc}
use Rattle.std.proofs.Common.{Bool, true, false, Option, Bor, Some, None, Err, nat_cmp, nat_eq, rules, Ordering, Less, Equal, Greater}
use Rattle.std.specs.Prelude.{FitsSigned, MatchOption, not}
use Rattle.pg_message_reader.specs.Shapes.Leaves.{AtomStands, Names}
use Rattle.pg_message_reader.specs.declared.shape.groups.names.Name.{Name}
use Rattle.pg_message_reader.specs.declared.shape.groups.names.Name.TheVariants as names_of
use Rattle.std.specs.Cmp.Lexicographic.{slice_cmp, pointwise}
use Rattle.std.proofs.lemmas.Bool.{eqb-false, eqb-true}
use Rattle.std.proofs.lemmas.Str.{encodes-chars}
use Rattle.pg_term.specs.Order.{kind_step, kind_of}
use Rattle.pg_term.specs.Same.{term_cmp}
use Rattle.pg_term.proofs.Ordered as ordered
use Rattle.pg_term.proofs.Texts.{order_of_chars}
use Rattle.pg_term.specs.declared.term.Term.{out-Term, the_lemmas}
use Rattle.pg_term.specs.declared.term.Term.TheOpen.{Term-F}
use Rattle.pg_message_types.specs.Groups.{is_less}
use Rattle.pg_message_types.specs.Parts.{text_in, is_word}
use Rattle.pg_message_types.specs.Reading.{stamp_in, stamp_of}
use Rattle.pg_message_types.specs.declared.fault.MessageFault.TheVariants as faults
use Rattle.std.specs.Int.{w16, w32, w64, cast_signed, to_be_bytes}
use Rattle.std.specs.Str.{chars, encode_utf8_all, IsUtf8}
use Rattle.pg_term.specs.declared.term.Term.{Term}
use Rattle.pg_term.specs.declared.term.Term.TheVariants.{Atom, Int}
use Rattle.pg_message_types.specs.PgTermIo.Numbers.{big_value}
use Rattle.pg_message_types.specs.PgTermIo.Spelling.{IsAtom}
use Rattle.pg_message_types.specs.PgTermIo.Spelling as s
use Rattle.pg_message_reader.proofs.Shapes.AtomNames.{IsAtomItem, IsInt, Stood}
use Rattle.pg_message_reader.proofs.Shapes.AtomNames as names

abbrev head_of : List ℕ → ℕ
head_of [] = 0
head_of (x ∷ xs) = x

abbrev tail_of : List ℕ → List ℕ
tail_of [] = []
tail_of (x ∷ xs) = xs

-- a text of an atom, behind its tag and its length
pub record ShortUtf8 (a x rest : List ℕ) : Type 0 where
  pub text : List ℕ
  pub behind : x ≡ length text ∷ (text ++ rest)
  pub utf8 : IsUtf8 text
  pub is : a ≡ chars text

pub record LongUtf8 (a x rest : List ℕ) : Type 0 where
  pub text : List ℕ
  pub few : length text < 2 ^ 16
  pub behind : x ≡ to_be_bytes w16 (length text) ++ (text ++ rest)
  pub utf8 : IsUtf8 text
  pub is : a ≡ chars text

pub record ShortLatin (a x rest : List ℕ) : Type 0 where
  pub few : length a ≤ 255
  pub behind : x ≡ length a ∷ (a ++ rest)

pub record LongLatin (a x rest : List ℕ) : Type 0 where
  pub few : length a ≤ 255
  pub behind : x ≡ to_be_bytes w16 (length a) ++ (a ++ rest)

pub short_utf8 : (a b x rest : List ℕ) → IsAtom a b → b ++ rest ≡ 119 ∷ x → ShortUtf8 a x rest
short_utf8 _ _ x rest (s.IsAtom.small text few utf8 le) e = record { text = text; behind = sym (ap tail_of e); utf8 = utf8; is = refl }
short_utf8 _ _ x rest (s.IsAtom.large text few utf8 le) e = absurd (omega (arith, ap head_of e))
short_utf8 _ _ x rest (s.IsAtom.small_latin text le fits) e = absurd (omega (arith, ap head_of e))
short_utf8 _ _ x rest (s.IsAtom.latin text le fits) e = absurd (omega (arith, ap head_of e))

pub long_utf8 : (a b x rest : List ℕ) → IsAtom a b → b ++ rest ≡ 118 ∷ x → LongUtf8 a x rest
long_utf8 _ _ x rest (s.IsAtom.small text few utf8 le) e = absurd (omega (arith, ap head_of e))
long_utf8 _ _ x rest (s.IsAtom.large text few utf8 le) e =
    let same : (to_be_bytes w16 (length text) ++ text) ++ rest ≡ x = ap tail_of e in
    record { text = text; few = few; behind = sym same ∙ append_assoc (to_be_bytes w16 (length text)) text rest; utf8 = utf8; is = refl }
long_utf8 _ _ x rest (s.IsAtom.small_latin text le fits) e = absurd (omega (arith, ap head_of e))
long_utf8 _ _ x rest (s.IsAtom.latin text le fits) e = absurd (omega (arith, ap head_of e))

pub short_latin : (a b x rest : List ℕ) → IsAtom a b → b ++ rest ≡ 115 ∷ x → ShortLatin a x rest
short_latin _ _ x rest (s.IsAtom.small text few utf8 le) e = absurd (omega (arith, ap head_of e))
short_latin _ _ x rest (s.IsAtom.large text few utf8 le) e = absurd (omega (arith, ap head_of e))
short_latin _ _ x rest (s.IsAtom.small_latin text le fits) e = record { few = le; behind = sym (ap tail_of e) }
short_latin _ _ x rest (s.IsAtom.latin text le fits) e = absurd (omega (arith, ap head_of e))

pub long_latin : (a b x rest : List ℕ) → IsAtom a b → b ++ rest ≡ 100 ∷ x → LongLatin a x rest
long_latin _ _ x rest (s.IsAtom.small text few utf8 le) e = absurd (omega (arith, ap head_of e))
long_latin _ _ x rest (s.IsAtom.large text few utf8 le) e = absurd (omega (arith, ap head_of e))
long_latin _ _ x rest (s.IsAtom.small_latin text le fits) e = absurd (omega (arith, ap head_of e))
long_latin _ _ x rest (s.IsAtom.latin text le fits) e =
    let same : (to_be_bytes w16 (length text) ++ text) ++ rest ≡ x = ap tail_of e in
    record { few = le; behind = sym same ∙ append_assoc (to_be_bytes w16 (length text)) text rest }

pub no_text : (a b x rest : List ℕ) (tag : ℕ) → IsAtom a b → b ++ rest ≡ tag ∷ x → tag ≢ 119 → tag ≢ 118 → tag ≢ 115 → tag ≢ 100 → ⊥
no_text _ _ x rest tag (s.IsAtom.small text few utf8 le) e h i j k = let same : 119 ≡ tag = ap head_of e in h (sym same)
no_text _ _ x rest tag (s.IsAtom.large text few utf8 le) e h i j k = let same : 118 ≡ tag = ap head_of e in i (sym same)
no_text _ _ x rest tag (s.IsAtom.small_latin text le fits) e h i j k = let same : 115 ≡ tag = ap head_of e in j (sym same)
no_text _ _ x rest tag (s.IsAtom.latin text le fits) e h i j k = let same : 100 ≡ tag = ap head_of e in k (sym same)

-- ---- integers, behind their tags

pub record ByteInt (t : Term) (x rest : List ℕ) : Type 0 where
  pub number : ℕ
  pub behind : x ≡ number ∷ rest
  pub is : t ≡ Int (pos number)

pub record WordInt (t : Term) (x rest : List ℕ) : Type 0 where
  pub number : ℕ
  pub few : number < 2 ^ 32
  pub behind : x ≡ to_be_bytes w32 number ++ rest
  pub is : t ≡ Int (cast_signed w32 number)

pub record BigInt (t : Term) (x rest : List ℕ) : Type 0 where
  pub sign : ℕ
  pub digits : List ℕ
  pub fits : FitsSigned w64 (big_value sign digits)
  pub behind : x ≡ length digits ∷ sign ∷ (digits ++ rest)
  pub is : t ≡ Int (big_value sign digits)

pub byte_int : (t : Term) (b x rest : List ℕ) → IsInt t b → b ++ rest ≡ 97 ∷ x → ByteInt t x rest
byte_int _ _ x rest (names.IsInt.byte n) e = record { number = n; behind = sym (ap tail_of e); is = refl }
byte_int _ _ x rest (names.IsInt.word n few) e = absurd (omega (arith, ap head_of e))
byte_int _ _ x rest (names.IsInt.big sign digits fits) e = absurd (omega (arith, ap head_of e))

pub word_int : (t : Term) (b x rest : List ℕ) → IsInt t b → b ++ rest ≡ 98 ∷ x → WordInt t x rest
word_int _ _ x rest (names.IsInt.byte n) e = absurd (omega (arith, ap head_of e))
word_int _ _ x rest (names.IsInt.word n few) e = record { number = n; few = few; behind = sym (ap tail_of e); is = refl }
word_int _ _ x rest (names.IsInt.big sign digits fits) e = absurd (omega (arith, ap head_of e))

pub big_int : (t : Term) (b x rest : List ℕ) → IsInt t b → b ++ rest ≡ 110 ∷ x → BigInt t x rest
big_int _ _ x rest (names.IsInt.byte n) e = absurd (omega (arith, ap head_of e))
big_int _ _ x rest (names.IsInt.word n few) e = absurd (omega (arith, ap head_of e))
big_int _ _ x rest (names.IsInt.big sign digits fits) e = record { sign = sign; digits = digits; fits = fits; behind = sym (ap tail_of e); is = refl }

pub no_int : (t : Term) (b x rest : List ℕ) (tag : ℕ) → IsInt t b → b ++ rest ≡ tag ∷ x → tag ≢ 97 → tag ≢ 98 → tag ≢ 110 → ⊥
no_int _ _ x rest tag (names.IsInt.byte n) e h i j = let same : 97 ≡ tag = ap head_of e in h (sym same)
no_int _ _ x rest tag (names.IsInt.word n few) e h i j = let same : 98 ≡ tag = ap head_of e in i (sym same)
no_int _ _ x rest tag (names.IsInt.big sign digits fits) e h i j = let same : 110 ≡ tag = ap head_of e in j (sym same)

-- nothing is no item
pub some_text : (a b rest : List ℕ) → IsAtom a b → length (b ++ rest) ≡ 0 → ⊥
some_text _ _ rest (s.IsAtom.small text few utf8 le) e = omega (arith, e)
some_text _ _ rest (s.IsAtom.large text few utf8 le) e = omega (arith, e)
some_text _ _ rest (s.IsAtom.small_latin text le fits) e = omega (arith, e)
some_text _ _ rest (s.IsAtom.latin text le fits) e = omega (arith, e)

pub some_int : (t : Term) (b rest : List ℕ) → IsInt t b → length (b ++ rest) ≡ 0 → ⊥
some_int _ _ rest (names.IsInt.byte n) e = omega (arith, e)
some_int _ _ rest (names.IsInt.word n few) e = omega (arith, e)
some_int _ _ rest (names.IsInt.big sign digits fits) e = omega (arith, e)

-- the same value
pub as_term : {X A : Type 0} (make : A → Term) (view : X → A) (t : Term) (v : A) (r : Option X) → t ≡ make v → MatchOption r ⊥ (λ x. view x ≡ v) → MatchOption r ⊥ (λ x. t ≡ make (view x))
as_term make view t v (Some x) e h = e ∙ ap make (sym h)
as_term make view t v None e h = h

-- ---- what is read of them

no_word_by : (t : Term) (w : List ℕ) → kind_of t ≢ 1 → is_word t w ≡ false
no_word_by t w other = at (out-Term t) other
  where
    at : (l : Term-F Term) → kind_step l ≢ 1 → text_in l w ≡ false
    at (Term-F.Atom a) h = absurd (h refl)
    at (Term-F.Int z) h = refl
    at (Term-F.Ref r) h = refl
    at (Term-F.Pid p) h = refl
    at (Term-F.Tuple ts) h = refl
    at (Term-F.List ts) h = refl
    at (Term-F.Binary content) h = refl

-- it is of another kind
pub other_kind : (t : Term) (k : ℕ) → nat_eq (kind_of t) k ≡ false → kind_of t ≢ k
other_kind t k e same = eqb-false (kind_of t) k e same

pub no_word : (t : Term) (w : List ℕ) → nat_eq (kind_of t) 1 ≡ false → is_word t w ≡ false
no_word t w e = no_word_by t w (other_kind t 1 e)

text_is : (a w : List ℕ) → is_word (Atom a) w ≡ pointwise nat_eq (encode_utf8_all a) w
text_is a w = search (rules, the_lemmas)

pub word_is : (t : Term) (a text w : List ℕ) → t ≡ Atom a → chars text ≡ a → IsUtf8 text → is_word t w ≡ pointwise nat_eq text w
word_is t a text w e same utf8 =
    ap (λ (u : Term). is_word u w) e ∙ text_is a w ∙ ap (λ (b : List ℕ). pointwise nat_eq b w) (ap encode_utf8_all (sym same) ∙ encodes-chars text utf8)

pub order_is : (a b : Term) (x y s u : List ℕ) → a ≡ Atom x → b ≡ Atom y → chars s ≡ x → chars u ≡ y → IsUtf8 s → IsUtf8 u → term_cmp a b ≡ slice_cmp nat_cmp s u
order_is a b x y s u ea eb ex ey us uu =
    (λ i. term_cmp (ea i) (eb i)) ∙ ordered.atoms x y ∙ (λ i. slice_cmp nat_cmp (sym ex i) (sym ey i)) ∙ sym (order_of_chars s u us uu)

pub not_less : (o : Ordering) → (o ≡ Less → ⊥) → is_less o ≡ false
not_less Less h = absurd (h refl)
not_less Equal h = refl
not_less Greater h = refl

-- a stamp is an integer
pub no_stamp : (t : Term) → nat_eq (kind_of t) 0 ≡ false → stamp_of t ≡ Err faults.NotAMessage
no_stamp t e = at (out-Term t) (other_kind t 0 e)
  where
    at : (l : Term-F Term) → kind_step l ≢ 0 → stamp_in l ≡ Err faults.NotAMessage
    at (Term-F.Int z) h = absurd (h refl)
    at (Term-F.Atom a) h = refl
    at (Term-F.Ref r) h = refl
    at (Term-F.Pid p) h = refl
    at (Term-F.Tuple ts) h = refl
    at (Term-F.List ts) h = refl
    at (Term-F.Binary content) h = refl

-- a name that is no number is above each atom, and a number below
pub above : (self other : Name) (x : Bor (List ℕ)) (n a b : Term) → self ≡ names_of.Atom x → other ≡ names_of.Built n → Names self a → Names other b → nat_eq (kind_of n) 0 ≡ false → term_cmp a b ≡ Less
above self other x n a b es eo na nb e =
    let first : AtomStands x.now a = subst (λ (s : Name). Names s a) es na in
    let second : (n ≡ b) × (kind_of b ≢ 1) = subst (λ (s : Name). Names s b) eo nb in
    let some : kind_of b ≢ 0 = other_kind b 0 (ap (λ (t : Term). nat_eq (kind_of t) 0) (sym second.0) ∙ e) in
    ordered.kinds a b (omega (arith, first.atom, some, second.1))

pub below : (self other : Name) (x : Bor (List ℕ)) (n a b : Term) → self ≡ names_of.Built n → other ≡ names_of.Atom x → Names self a → Names other b → nat_eq (kind_of n) 0 ≡ true → term_cmp a b ≡ Less
below self other x n a b es eo na nb e =
    let first : (n ≡ a) × (kind_of a ≢ 1) = subst (λ (s : Name). Names s a) es na in
    let second : AtomStands x.now b = subst (λ (s : Name). Names s b) eo nb in
    let none : kind_of a ≡ 0 = eqb-true (kind_of a) 0 (ap (λ (t : Term). nat_eq (kind_of t) 0) (sym first.0) ∙ e) in
    ordered.kinds a b (omega (arith, none, second.atom))

pub not_so : (b : Bool) → not b ≡ true → b ≡ false
not_so true e = absurd cc
not_so false e = refl
