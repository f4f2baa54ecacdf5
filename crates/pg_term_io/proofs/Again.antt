-- What is spelled so is read so.
use Rattle.std.proofs.Common.{◌≡◌, ℕ, zero, suc, ◌<◌, ◌≤◌, ◌^◌, false, cond, ltb, eqb, ◌||◌}
use Rattle.std.proofs.Common.{◌&&◌, ℤ, FitsSigned, List, [], ◌∷◌, ◌++◌, length, length-append}
use Rattle.std.proofs.Common.{map, Ok, Err, refl, sym, ap, ◌∙◌, append_assoc, arith}
use Rattle.std.specs.Int.{Width, w8, w16, w32, w64, byte_len, to_be_bytes, from_be_bytes, cast_signed}
use Rattle.std.specs.List.{flat_map, AllByRecursion}
use Rattle.std.specs.Str.{chars, IsUtf8}
use Rattle.std.proofs.lemmas.Bool.{le-ltb}
use Rattle.std.proofs.lemmas.Bool.{ne_eqb}
use Rattle.pg_term.specs.declared.fault.TermFault.TheVariants.{BadReference, TooDeep}
use Rattle.std.proofs.lemmas.List.{take_at, drop_at, append-nil}
use Rattle.std.proofs.lemmas.Nat.{from_be_bytes-to_be_bytes_2, from_be_bytes-to_be_bytes_4}
use Rattle.std.proofs.lemmas.Str.{is_utf8-from_IsUtf8}
use Rattle.pg_term.specs.declared.pid.Pid.{Pid}
use Rattle.pg_term.specs.declared.term.Term.{Term, Tuple, List as Listed}
use Rattle.pg_term.specs.declared.term.Term.TheVariants.{Int, Atom as Name, Ref, Pid as Process, Binary}
use Rattle.pg_term.specs.RefParts.{RefParts}
use Rattle.pg_term_io.specs.Numbers.{int_of, big_value}
use Rattle.pg_term_io.specs.Reading.{Read, ◌>>=◌, byte_at, number_at, bytes_at, big_at, named_at, utf8_atom}
use Rattle.pg_term_io.specs.Reading.{latin_atom, atom_behind, atom_at, pid_at, old_reference_at, words_at}
use Rattle.pg_term_io.specs.Reading.{new_reference_at, binary_at, items_at, string_at, list_at, elements_behind}
use Rattle.pg_term_io.specs.Reading.{item_behind, leaf_behind, readers, item_at, tail_at, term_of}
use Rattle.pg_term_io.specs.Spelling.{IsAtom, IsPid, IsOldRef, IsRef, Item, Items, Elements, Tail, Spells}
use Rattle.pg_term_io.specs.Spelling as s
use Rattle.pg_term_io.proofs.Bigs.{fits-is_i64}

number_again : (w : Width) (text rest : List ℕ) (n : ℕ) → length text ≡ byte_len w → from_be_bytes w text ≡ n → number_at w (text ++ rest) ≡ Ok (n, rest)
number_again w text rest n len back =
    let long : ltb (length (text ++ rest)) (byte_len w) ≡ false = le-ltb _ _ (omega (arith, length-append text rest)) in
    rw (long, take_at text rest (byte_len w) len, drop_at text rest (byte_len w) len, back) refl

pub word_again : (n : ℕ) (rest : List ℕ) → n < 2 ^ 32 → number_at w32 (to_be_bytes w32 n ++ rest) ≡ Ok (n, rest)
word_again n rest h = number_again w32 (to_be_bytes w32 n) rest n refl (from_be_bytes-to_be_bytes_4 n h)

pub half_again : (n : ℕ) (rest : List ℕ) → n < 2 ^ 16 → number_at w16 (to_be_bytes w16 n ++ rest) ≡ Ok (n, rest)
half_again n rest h = number_again w16 (to_be_bytes w16 n) rest n refl (from_be_bytes-to_be_bytes_2 n h)

-- a number of so many bits is read again
abbrev NumberAgain : Width → Type 0
NumberAgain w = (n : ℕ) (rest : List ℕ) → n < 256 ^ byte_len w → number_at w (to_be_bytes w n ++ rest) ≡ Ok (n, rest)

small_again : NumberAgain w8
small_again n rest h = number_again w8 (to_be_bytes w8 n) rest n refl (omega (arith, h))

-- behind a number that is read again
behind_word : {B : Type 0} (n : ℕ) (text rest : List ℕ) (f : ℕ × List ℕ → Read B) → n < 2 ^ 32 → (number_at w32 ((to_be_bytes w32 n ++ text) ++ rest) >>= f) ≡ f (n, text ++ rest)
behind_word n text rest f h = ap (λ (r : Read ℕ). r >>= f) (ap (number_at w32) (append_assoc (to_be_bytes w32 n) text rest) ∙ word_again n (text ++ rest) h)

behind_half : {B : Type 0} (n : ℕ) (text rest : List ℕ) (f : ℕ × List ℕ → Read B) → n < 2 ^ 16 → (number_at w16 ((to_be_bytes w16 n ++ text) ++ rest) >>= f) ≡ f (n, text ++ rest)
behind_half n text rest f h = ap (λ (r : Read ℕ). r >>= f) (ap (number_at w16) (append_assoc (to_be_bytes w16 n) text rest) ∙ half_again n (text ++ rest) h)

behind : {A B : Type 0} (read : List ℕ → Read A) (a : A) (text more rest : List ℕ) (f : A × List ℕ → Read B) → read (text ++ (more ++ rest)) ≡ Ok (a, more ++ rest) → (read ((text ++ more) ++ rest) >>= f) ≡ f (a, more ++ rest)
behind {A} read a text more rest f h = ap (λ (r : Read A). r >>= f) (ap read (append_assoc text more rest) ∙ h)

pub bytes_again : (text rest : List ℕ) → bytes_at (length text) (text ++ rest) ≡ Ok (text, rest)
bytes_again text rest =
    let long : ltb (length (text ++ rest)) (length text) ≡ false = le-ltb _ _ (omega (arith, length-append text rest)) in
    rw (long, take_at text rest (length text) refl, drop_at text rest (length text) refl) refl

name_again : (text rest : List ℕ) → IsUtf8 text → length (chars text) ≤ 255 → named_at utf8_atom (length text) (text ++ rest) ≡ Ok (chars text, rest)
unfolding named_at
name_again text rest u le = rw (bytes_again text rest, is_utf8-from_IsUtf8 text u, le-ltb 255 (length (chars text)) le) refl

latin_again : (text rest : List ℕ) → length text ≤ 255 → named_at latin_atom (length text) (text ++ rest) ≡ Ok (text, rest)
unfolding named_at
latin_again text rest le = rw (bytes_again text rest, le-ltb 255 (length text) le) refl

pub atom_again : (a b rest : List ℕ) → IsAtom a b → atom_at (b ++ rest) ≡ Ok (a, rest)
unfolding atom_at atom_behind
atom_again _ _ rest (s.IsAtom.small text lt u le) = name_again text rest u le
atom_again _ _ rest (s.IsAtom.large text lt u le) = behind_half (length text) text rest (λ n. named_at utf8_atom n.0 n.1) lt ∙ name_again text rest u le
atom_again _ _ rest (s.IsAtom.small_latin text le fit) = latin_again text rest le
atom_again _ _ rest (s.IsAtom.latin text le fit) = behind_half (length text) text rest (λ n. named_at latin_atom n.0 n.1) (omega arith) ∙ latin_again text rest le

pid_again : (w : Width) → NumberAgain w → (p : Pid) (b rest : List ℕ) → IsPid w p b → pid_at w (b ++ rest) ≡ Ok (p, rest)
unfolding pid_at
pid_again _ again _ _ rest (s.IsPid.parts w p node a i sr cr) =
    let last = to_be_bytes w p.creation in
    let two = to_be_bytes w32 p.serial ++ last in
    let three = to_be_bytes w32 p.id ++ two in
    behind atom_at p.node node three rest (λ node. number_at w32 node.1 >>= λ id. number_at w32 id.1 >>= λ serial. number_at w serial.1 >>= λ creation. Ok (record { node = node.0; serial = serial.0; id = id.0; creation = creation.0 }, creation.1)) (atom_again p.node node (three ++ rest) a)
    ∙ behind_word p.id two rest (λ id. number_at w32 id.1 >>= λ serial. number_at w serial.1 >>= λ creation. Ok (record { node = p.node; serial = serial.0; id = id.0; creation = creation.0 }, creation.1)) i
    ∙ behind_word p.serial last rest (λ serial. number_at w serial.1 >>= λ creation. Ok (record { node = p.node; serial = serial.0; id = p.id; creation = creation.0 }, creation.1)) sr
    ∙ ap (λ (r : Read ℕ). r >>= λ creation. Ok (record { node = p.node; serial = p.serial; id = p.id; creation = creation.0 }, creation.1)) (again p.creation rest cr)

old_ref_again : (r : RefParts) (b rest : List ℕ) → IsOldRef r b → old_reference_at (b ++ rest) ≡ Ok (r, rest)
unfolding old_reference_at
old_ref_again _ _ rest (s.IsOldRef.parts node text word creation a w c) =
    let last = creation ∷ [] in
    let two = to_be_bytes w32 word ++ last in
    behind atom_at node text two rest (λ node. number_at w32 node.1 >>= λ word. byte_at word.1 >>= λ creation. Ok (record { node = node.0; creation = creation.0; words = word.0 ∷ [] }, creation.1)) (atom_again node text (two ++ rest) a)
    ∙ behind_word word last rest (λ word. byte_at word.1 >>= λ creation. Ok (record { node = node; creation = creation.0; words = word.0 ∷ [] }, creation.1)) w

big_again : (sign : ℕ) (digits rest : List ℕ) → FitsSigned w64 (big_value sign digits) → big_at ((length digits ∷ sign ∷ digits) ++ rest) ≡ Ok (big_value sign digits, rest)
unfolding big_at
big_again sign digits rest fits = rw (bytes_again digits rest, fits-is_i64 (big_value sign digits) fits) refl

words_again : (ws rest : List ℕ) → AllByRecursion (λ w. w < 2 ^ 32) ws → items_at (number_at w32) (length ws) (flat_map (to_be_bytes w32) ws ++ rest) ≡ Ok (ws, rest)
unfolding items_at
words_again [] rest h = refl
words_again (w ∷ ws) rest h =
    behind_word w (flat_map (to_be_bytes w32) ws) rest (λ first. items_at (number_at w32) (length ws) first.1 >>= λ others. Ok (first.0 ∷ others.0, others.1)) h.0
    ∙ ap (λ (r : Read (List ℕ)). r >>= λ others. Ok (w ∷ others.0, others.1)) (words_again ws rest h.1)

ref_again : (w : Width) → NumberAgain w → (r : RefParts) (b rest : List ℕ) → IsRef w r b → new_reference_at w (b ++ rest) ≡ Ok (r, rest)
unfolding new_reference_at words_at
ref_again _ again _ _ rest (s.IsRef.parts w r node some few fits a cr) =
    let n = length r.words in
    let words = flat_map (to_be_bytes w32) r.words in
    let creation = to_be_bytes w r.creation in
    let one : (eqb n 0 || ltb 3 n) ≡ false = rw (ne_eqb n 0 (λ e. absurd (omega arith)), le-ltb 3 n (omega arith)) refl in
    behind_half n (node ++ (creation ++ words)) rest (λ n. cond (eqb n.0 0 || ltb 3 n.0) (Err BadReference) (atom_at n.1 >>= λ node. number_at w node.1 >>= λ creation. words_at node.0 creation.0 n.0 creation.1)) (omega arith)
    ∙ rw one (behind atom_at r.node node (creation ++ words) rest (λ node. number_at w node.1 >>= λ creation. words_at node.0 creation.0 n creation.1) (atom_again r.node node ((creation ++ words) ++ rest) a)
    ∙ behind (number_at w) r.creation creation words rest (λ creation. words_at r.node creation.0 n creation.1) (again r.creation (words ++ rest) cr)
    ∙ ap (λ (x : Read (List ℕ)). x >>= λ words. Ok (record { node = r.node; creation = r.creation; words = words.0 }, words.1)) (words_again r.words rest fits))

binary_again : (bytes rest : List ℕ) → length bytes < 2 ^ 32 → binary_at ((to_be_bytes w32 (length bytes) ++ bytes) ++ rest) ≡ Ok (bytes, rest)
unfolding binary_at
binary_again bytes rest lt = behind_word (length bytes) bytes rest (λ n. bytes_at n.0 n.1) lt ∙ bytes_again bytes rest

abbrev wrap : {A : Type 0} → (A → Term) → A × List ℕ → Read Term
wrap make x = Ok (make x.0, x.1)

atom_tag : (room tag : ℕ) (a b rest : List ℕ) → IsAtom a b → item_at (suc room) (b ++ rest) ≡ Ok (Name a, rest)
unfolding readers item_behind leaf_behind atom_at atom_behind
atom_tag room tag _ _ rest (s.IsAtom.small text lt u le) = ap (λ (r : Read (List ℕ)). r >>= wrap Name) (name_again text rest u le)
atom_tag room tag _ _ rest (s.IsAtom.small_latin text le fit) = ap (λ (r : Read (List ℕ)). r >>= wrap Name) (latin_again text rest le)
atom_tag room tag _ _ rest (s.IsAtom.latin text le fit) = ap (λ (r : Read (List ℕ)). r >>= wrap Name) (behind_half (length text) text rest (λ n. named_at latin_atom n.0 n.1) (omega arith) ∙ latin_again text rest le)
atom_tag room tag _ _ rest (s.IsAtom.large text lt u le) = ap (λ (r : Read (List ℕ)). r >>= wrap Name) (behind_half (length text) text rest (λ n. named_at utf8_atom n.0 n.1) lt ∙ name_again text rest u le)

fits : (room : ℕ) (text : List ℕ) → (room ≡ 0 → text ≡ []) → (eqb room 0 && ltb 0 (length text)) ≡ false
fits zero text deep = rw (deep refl) refl
fits (suc room) text deep = rw (ne_eqb (suc room) 0 (λ e. absurd (omega arith))) refl

string_again : (room : ℕ) (text rest : List ℕ) → length text < 2 ^ 16 → (room ≡ 0 → text ≡ []) → string_at room ((to_be_bytes w16 (length text) ++ text) ++ rest) ≡ Ok (map int_of text, rest)
unfolding string_at
string_again room text rest lt deep =
    behind_half (length text) text rest (λ n. bytes_at n.0 n.1 >>= λ text. cond (eqb room 0 && ltb 0 n.0) (Err TooDeep) (Ok (map int_of text.0, text.1))) lt
    ∙ rw (bytes_again text rest, fits room text deep) refl

cons_again : (room : ℕ) (ts us : List Term) (b c rest : List ℕ) → length ts < 2 ^ 32 → items_at (item_at room) (length ts) (b ++ (c ++ rest)) ≡ Ok (ts, c ++ rest) → tail_at room (c ++ rest) ≡ Ok (us, rest)
    → list_at (readers room) ((to_be_bytes w32 (length ts) ++ (b ++ c)) ++ rest) ≡ Ok (ts ++ us, rest)
unfolding list_at
cons_again room ts us b c rest lt h k =
    behind_word (length ts) (b ++ c) rest (λ n. items_at (item_at room) n.0 n.1 >>= λ items. tail_at room items.1 >>= λ tail. Ok (items.0 ++ tail.0, tail.1)) lt
    ∙ behind (items_at (item_at room) (length ts)) ts b c rest (λ items. tail_at room items.1 >>= λ tail. Ok (items.0 ++ tail.0, tail.1)) h
    ∙ ap (λ (r : Read (List Term)). r >>= λ tail. Ok (ts ++ tail.0, tail.1)) k

-- a list behind its tag, as a tail and as an item
Lists : ℕ → List Term → List ℕ → Type 0
Lists room ts bytes = (rest : List ℕ) → (tail_at (suc room) (bytes ++ rest) ≡ Ok (ts, rest)) × (item_at (suc room) (bytes ++ rest) ≡ Ok (Listed ts, rest))

mutual
  unfolding readers items_at item_behind leaf_behind elements_behind Lists

  pub item_again : (room : ℕ) (t : Term) (b rest : List ℕ) → Item room t b → item_at room (b ++ rest) ≡ Ok (t, rest)
  item_again _ _ _ rest (s.Item.small_integer room n lt) = refl
  item_again _ _ _ rest (s.Item.integer room n lt) = ap (λ (r : Read ℕ). r >>= wrap (λ n. Int (cast_signed w32 n))) (word_again n rest lt)
  item_again _ _ _ rest (s.Item.small_big room sign digits sg few fit fits) = ap (λ (r : Read ℤ). r >>= wrap Int) (big_again sign digits rest fits)
  item_again _ _ _ rest (s.Item.atom room a b h) = atom_tag room 0 a b rest h
  item_again _ _ _ rest (s.Item.pid room p b h) = ap (λ (r : Read Pid). r >>= wrap Process) (pid_again w8 small_again p b rest h)
  item_again _ _ _ rest (s.Item.new_pid room p b h) = ap (λ (r : Read Pid). r >>= wrap Process) (pid_again w32 word_again p b rest h)
  item_again _ _ _ rest (s.Item.old_reference room r b h) = ap (λ (r : Read RefParts). r >>= wrap Ref) (old_ref_again r b rest h)
  item_again _ _ _ rest (s.Item.reference room r b h) = ap (λ (r : Read RefParts). r >>= wrap Ref) (ref_again w8 small_again r b rest h)
  item_again _ _ _ rest (s.Item.newer_reference room r b h) = ap (λ (r : Read RefParts). r >>= wrap Ref) (ref_again w32 word_again r b rest h)
  item_again _ _ _ rest (s.Item.binary room bytes lt fit) = ap (λ (r : Read (List ℕ)). r >>= wrap Binary) (binary_again bytes rest lt)
  item_again _ _ _ rest (s.Item.small_tuple room ts b lt h) = ap (λ (r : Read (List Term)). r >>= wrap Tuple) (items_again room ts b rest h)
  item_again _ _ _ rest (s.Item.large_tuple room ts b lt h) = ap (λ (r : Read (List Term)). r >>= wrap Tuple) (behind_word (length ts) b rest (λ n. items_at (item_at room) n.0 n.1) lt ∙ items_again room ts b rest h)
  item_again _ _ _ rest (s.Item.list room ts b h) = (lists_again room ts b h rest).1

  pub items_again : (room : ℕ) (ts : List Term) (b rest : List ℕ) → Items room ts b → items_at (item_at room) (length ts) (b ++ rest) ≡ Ok (ts, rest)
  items_again _ _ _ rest (s.Items.none room) = refl
  items_again _ _ _ rest (s.Items.more room t ts a b h hs) =
      behind (item_at room) t a b rest (λ first. items_at (item_at room) (length ts) first.1 >>= λ others. Ok (first.0 ∷ others.0, others.1)) (item_again room t a (b ++ rest) h)
      ∙ ap (λ (r : Read (List Term)). r >>= λ others. Ok (t ∷ others.0, others.1)) (items_again room ts b rest hs)

  tail_again : (room : ℕ) (ts : List Term) (b rest : List ℕ) → Tail room ts b → tail_at room (b ++ rest) ≡ Ok (ts, rest)
  tail_again _ _ _ rest (s.Tail.tail room ts b h) = (lists_again room ts b h rest).0

  lists_again : (room : ℕ) (ts : List Term) (b : List ℕ) → Elements room ts b → Lists room ts b
  lists_again _ _ _ (s.Elements.nil room) = λ rest. (refl, refl)
  lists_again _ _ _ (s.Elements.string room text fit lt deep) = λ rest. let e = string_again room text rest lt deep in (e, ap (λ (r : Read (List Term)). r >>= wrap Listed) e)
  lists_again _ _ _ (s.Elements.cons room ts us b c lt h k) = λ rest.
      let e = cons_again room ts us b c rest lt (items_again room ts b (c ++ rest) h) (tail_again room us c rest k) in
      (e, ap (λ (r : Read (List Term)). r >>= wrap Listed) e)

pub term_again : (t : Term) (b : List ℕ) → Spells t b → term_of b ≡ Ok t
unfolding term_of
term_again _ _ (s.Spells.version t b h) =
    let e : item_at 64 b ≡ Ok (t, []) = ap (item_at 64) (sym (append-nil b)) ∙ item_again 64 t b [] h in
    rw e refl
