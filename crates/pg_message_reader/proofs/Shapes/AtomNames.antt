-- Atoms and integers that are read: how they are spelled. Each atom may be a name.
use Rattle.std.proofs.Common.{◌≡◌, ℕ, ℤ, pos, ◌+◌, ◌≤◌, Bool, true, false, cond, List, ◌∷◌, ◌++◌}
use Rattle.std.proofs.Common.{length, Ok, Err, length-append, refl, subst, ap, ◌∙◌, rules, arith, ◌<◌, ◌^◌, []}
use Rattle.std.specs.Prelude.{nat_lt, nat_le, ◌&&◌, FitsSigned}
use Rattle.std.specs.Int.{w16, w32, w64, cast_signed, to_be_bytes}
use Rattle.std.specs.Str.{encode_utf8_all}
use Rattle.std.proofs.lemmas.Bool.{le-leb}
use Rattle.pg_term.specs.declared.pid.Pid.{Pid}
use Rattle.pg_term.specs.declared.term.Term.{Term, Tuple, List as Listed, the_lemmas}
use Rattle.pg_term.specs.declared.term.Term.TheVariants.{Int, Atom, Ref, Pid as Process, Binary}
use Rattle.pg_term.specs.RefParts.{RefParts}
use Rattle.pg_term.specs.Depth.{depth}
use Rattle.pg_term.specs.Order.{kind_of}
use Rattle.pg_message_types.specs.PgTermIo.Reading.{Read, item_at}
use Rattle.pg_message_types.specs.PgTermIo.Spelling.{IsAtom, Item}
use Rattle.pg_message_types.specs.PgTermIo.Spelling as s
use Rattle.pg_message_types.specs.PgTermIo.Writing.{item_bytes, written, tagged_text, atom_bytes}
use Rattle.pg_term.proofs.Texts.{length_encodes}
use Rattle.pg_message_types.specs.PgTermIo.Faults.{BreaksItem}
use Rattle.pg_message_types.specs.PgTermIo.Numbers.{big_value}
use Rattle.pg_message_types.proofs.PgTermIo.Items.{levels}
use Rattle.pg_message_types.proofs.PgTermIo.Outcomes.{EachByte, Right, Took}
use Rattle.pg_message_types.specs.Name.{is_name}

few_characters : (a b : List ℕ) → IsAtom a b → length a ≤ 255
few_characters _ _ (s.IsAtom.small text few utf8 le) = le
few_characters _ _ (s.IsAtom.large text few utf8 le) = le
few_characters _ _ (s.IsAtom.small_latin text le fits) = le
few_characters _ _ (s.IsAtom.latin text le fits) = le

bytes_few : (text : List ℕ) → length (tagged_text text) ≤ 3 + length text
bytes_few text = at (nat_lt (length text) 256)
  where
    at : (b : Bool) → length (cond b (119 ∷ length text ∷ text) (118 ∷ to_be_bytes w16 (length text) ++ text)) ≤ 3 + length text
    at true = omega arith
    at false = omega (arith, length-append (to_be_bytes w16 (length text)) text)

flat : (a : List ℕ) → depth (Atom a) ≡ 1
flat a = search (rules, the_lemmas)

atom_is : (a : List ℕ) → item_bytes (Atom a) ≡ atom_bytes a
atom_is a = search (rules, the_lemmas)

atom_few : (a : List ℕ) → length a ≤ 255 → length (written (Atom a)) ≤ 1024
unfolding atom_bytes
atom_few a le = omega (arith, ap length (atom_is a), bytes_few (encode_utf8_all a), length_encodes a, le)

both : (a b : Bool) → a ≡ true → b ≡ true → a && b ≡ true
both a b h k = (λ i. h i && k i)

pub atom_named : (a : List ℕ) → length a ≤ 255 → is_name (Atom a) ≡ true
atom_named a le = both (nat_le (depth (Atom a)) 32) (nat_le (length (written (Atom a))) 1024) (le-leb (depth (Atom a)) 32 (omega (arith, flat a))) (le-leb (length (written (Atom a))) 1024 (atom_few a le))

-- ---- what is read

int_kind : (z : ℤ) → kind_of (Int z) ≡ 0
int_kind z = search (rules, the_lemmas)

ref_kind : (r : RefParts) → kind_of (Ref r) ≡ 2
ref_kind r = search (rules, the_lemmas)

pid_kind : (p : Pid) → kind_of (Process p) ≡ 3
pid_kind p = search (rules, the_lemmas)

tuple_kind : (ts : List Term) → kind_of (Tuple ts) ≡ 4
tuple_kind ts = search (rules, the_lemmas)

list_kind : (ts : List Term) → kind_of (Listed ts) ≡ 5
list_kind ts = search (rules, the_lemmas)

binary_kind : (content : List ℕ) → kind_of (Binary content) ≡ 6
binary_kind content = search (rules, the_lemmas)

-- an item that is an atom
pub record IsAtomItem (t : Term) (b : List ℕ) : Type 0 where
  pub characters : List ℕ
  pub is : t ≡ Atom characters
  pub spelled : IsAtom characters b

item_atom : (room : ℕ) (t : Term) (b : List ℕ) → Item room t b → kind_of t ≡ 1 → IsAtomItem t b
item_atom _ _ _ (s.Item.atom room a b is) e = record { characters = a; is = refl; spelled = is }
item_atom _ _ _ (s.Item.small_integer room n few) e = absurd (omega (arith, int_kind (pos n), e))
item_atom _ _ _ (s.Item.integer room n few) e = absurd (omega (arith, int_kind (cast_signed w32 n), e))
item_atom _ _ _ (s.Item.small_big room sign digits few long fits signed) e = absurd (omega (arith, int_kind (big_value sign digits), e))
item_atom _ _ _ (s.Item.pid room p b is) e = absurd (omega (arith, pid_kind p, e))
item_atom _ _ _ (s.Item.new_pid room p b is) e = absurd (omega (arith, pid_kind p, e))
item_atom _ _ _ (s.Item.old_reference room r b is) e = absurd (omega (arith, ref_kind r, e))
item_atom _ _ _ (s.Item.reference room r b is) e = absurd (omega (arith, ref_kind r, e))
item_atom _ _ _ (s.Item.newer_reference room r b is) e = absurd (omega (arith, ref_kind r, e))
item_atom _ _ _ (s.Item.binary room content few fits) e = absurd (omega (arith, binary_kind content, e))
item_atom _ _ _ (s.Item.small_tuple room ts b few are) e = absurd (omega (arith, tuple_kind ts, e))
item_atom _ _ _ (s.Item.large_tuple room ts b few are) e = absurd (omega (arith, tuple_kind ts, e))
item_atom _ _ _ (s.Item.list room ts b are) e = absurd (omega (arith, list_kind ts, e))

-- an item that is an integer
pub data IsInt : Term → List ℕ → Type 0 where
  byte : (n : ℕ) → IsInt (Int (pos n)) (97 ∷ n ∷ [])
  word : (n : ℕ) → n < 2 ^ 32 → IsInt (Int (cast_signed w32 n)) (98 ∷ to_be_bytes w32 n)
  big : (sign : ℕ) (digits : List ℕ) → FitsSigned w64 (big_value sign digits) → IsInt (Int (big_value sign digits)) (110 ∷ length digits ∷ sign ∷ digits)

atom_kind : (a : List ℕ) → kind_of (Atom a) ≡ 1
atom_kind a = search (rules, the_lemmas)

item_int : (room : ℕ) (t : Term) (b : List ℕ) → Item room t b → kind_of t ≡ 0 → IsInt t b
item_int _ _ _ (s.Item.small_integer room n few) e = byte n
item_int _ _ _ (s.Item.integer room n few) e = word n few
item_int _ _ _ (s.Item.small_big room sign digits few long fits signed) e = big sign digits signed
item_int _ _ _ (s.Item.atom room a b is) e = absurd (omega (arith, atom_kind a, e))
item_int _ _ _ (s.Item.pid room p b is) e = absurd (omega (arith, pid_kind p, e))
item_int _ _ _ (s.Item.new_pid room p b is) e = absurd (omega (arith, pid_kind p, e))
item_int _ _ _ (s.Item.old_reference room r b is) e = absurd (omega (arith, ref_kind r, e))
item_int _ _ _ (s.Item.reference room r b is) e = absurd (omega (arith, ref_kind r, e))
item_int _ _ _ (s.Item.newer_reference room r b is) e = absurd (omega (arith, ref_kind r, e))
item_int _ _ _ (s.Item.binary room content few fits) e = absurd (omega (arith, binary_kind content, e))
item_int _ _ _ (s.Item.small_tuple room ts b few are) e = absurd (omega (arith, tuple_kind ts, e))
item_int _ _ _ (s.Item.large_tuple room ts b few are) e = absurd (omega (arith, tuple_kind ts, e))
item_int _ _ _ (s.Item.list room ts b are) e = absurd (omega (arith, list_kind ts, e))

-- what an item at the front of the bytes is
pub record Stood (P : Term → List ℕ → Type 0) (bytes : List ℕ) (t : Term) (rest : List ℕ) : Type 0 where
  pub text : List ℕ
  pub parts : bytes ≡ text ++ rest
  pub is : P t text

module _ (P : Term → List ℕ → Type 0) (kind : ℕ) (item : (room : ℕ) (t : Term) (b : List ℕ) → Item room t b → kind_of t ≡ kind → P t b) where
  stood_by : (room : ℕ) (bytes : List ℕ) (read : Read Term) (t : Term) (rest : List ℕ) → Right (Item room) (BreaksItem room) bytes read → read ≡ Ok (t, rest) → kind_of t ≡ kind → Stood P bytes t rest
  stood_by room bytes (Ok x) t rest h e one =
      let text : Took (Item room) bytes x = h in
      let same : x ≡ (t, rest) = cc in
      let term : x.0 ≡ t = ap (λ (p : Term × List ℕ). p.0) same in
      let end : x.1 ≡ rest = ap (λ (p : Term × List ℕ). p.1) same in
      record { text = text.text; parts = text.parts ∙ ap (λ (r : List ℕ). text.text ++ r) end; is = subst (λ (u : Term). P u text.text) term (item room x.0 text.text text.is (ap kind_of term ∙ one)) }
  stood_by room bytes (Err f) t rest h e one = absurd cc

  stood : (room : ℕ) (bytes : List ℕ) (t : Term) (rest : List ℕ) → EachByte bytes → item_at room bytes ≡ Ok (t, rest) → kind_of t ≡ kind → Stood P bytes t rest
  stood room bytes t rest fits e one = stood_by room bytes (item_at room bytes) t rest ((levels room).0 bytes fits) e one

pub atom_there : (room : ℕ) (bytes : List ℕ) (t : Term) (rest : List ℕ) → EachByte bytes → item_at room bytes ≡ Ok (t, rest) → kind_of t ≡ 1 → Stood IsAtomItem bytes t rest
atom_there = stood IsAtomItem 1 item_atom

pub int_there : (room : ℕ) (bytes : List ℕ) (t : Term) (rest : List ℕ) → EachByte bytes → item_at room bytes ≡ Ok (t, rest) → kind_of t ≡ 0 → Stood IsInt bytes t rest
int_there = stood IsInt 0 item_int

pub atom_read : (room : ℕ) (bytes : List ℕ) (t : Term) (rest : List ℕ) → EachByte bytes → item_at room bytes ≡ Ok (t, rest) → kind_of t ≡ 1 → is_name t ≡ true
atom_read room bytes t rest fits e one =
    let there = atom_there room bytes t rest fits e one in
    ap is_name there.is.is ∙ atom_named there.is.characters (few_characters there.is.characters there.text there.is.spelled)
