-- However a term is spelled, it takes at most 400 times the bytes that it is written in.
use Rattle.std.proofs.Common.{◌≡◌, ℕ, pos, ◌+◌, ◌*◌, ◌<◌, ◌≤◌, Bool, true, false, cond, List, []}
use Rattle.std.proofs.Common.{◌∷◌, ◌++◌, length, length-append, map, Ok, Err, ap, arith, rules}
use Rattle.std.specs.Prelude.{nat_lt}
use Rattle.std.specs.Int.{Width, w8, w16, w32, to_be_bytes, cast_signed}
use Rattle.std.specs.List.{flat_map}
use Rattle.std.specs.Str.{chars, encode_utf8_all}
use Rattle.std.proofs.lemmas.Str.{encodes-chars}
use Rattle.std.proofs.Math.ListN.{length-map}
use Rattle.pg_term.specs.declared.pid.Pid.{Pid}
use Rattle.pg_term.specs.declared.term.Term.{Term, Tuple, List as Listed, the_lemmas}
use Rattle.pg_term.specs.declared.term.Term.TheVariants.{Int, Atom as Name, Ref, Pid as Process, Binary}
use Rattle.pg_term.specs.RefParts.{RefParts}
use Rattle.pg_term_io.specs.Numbers.{int_of, big_value}
use Rattle.pg_term_io.specs.Faults.{BreaksItem}
use Rattle.pg_term_io.specs.Reading.{Read, item_at}
use Rattle.pg_term_io.specs.Spelling.{IsAtom, IsPid, IsOldRef, IsRef, Item, Items, Elements, Tail}
use Rattle.pg_term_io.specs.Spelling as s
use Rattle.pg_term_io.specs.Writing.{tagged_text, atom_bytes, pid_bytes, reference_bytes}
use Rattle.pg_term_io.specs.Writing.{tuple_head, list_head, item_bytes, all_bytes}
use Rattle.pg_term_io.proofs.Items.{levels}
use Rattle.pg_term_io.proofs.Weighed.{weight_some, item_light}
use Rattle.pg_term_io.proofs.Outcomes.{EachByte, Took, Right}
use Rattle.pg_term_io.proofs.Written.{tuple_is, list_is, binary_is, head_some, item_some, count_le}
use Rattle.pg_term_io.proofs.WrittenWords.{words_len, reference_len}

-- ---- atoms, pids and references

longer : (n : ℕ) (b : Bool) (x y : List ℕ) → n ≤ length x → n ≤ length y → n ≤ length (cond b x y)
longer n true x y p q = p
longer n false x y p q = q

text_held : (text : List ℕ) → length text ≤ length (tagged_text text)
text_held text =
    longer (length text) (nat_lt (length text) 256) (119 ∷ length text ∷ text) (118 ∷ to_be_bytes w16 (length text) ++ text) (omega arith)
    (omega (arith, length-append (to_be_bytes w16 (length text)) text))

atom_spread : (a b : List ℕ) → IsAtom a b → length b ≤ 258 + length (atom_bytes a)
unfolding atom_bytes
atom_spread _ _ (s.IsAtom.small text lt u le) = omega arith
atom_spread _ _ (s.IsAtom.large text lt u le) =
    omega (arith, text_held (encode_utf8_all (chars text)), ap length (encodes-chars text u), length-append (to_be_bytes w16 (length text)) text)
atom_spread _ _ (s.IsAtom.small_latin text le fit) = omega arith
atom_spread _ _ (s.IsAtom.latin text le fit) = omega (arith, length-append (to_be_bytes w16 (length text)) text)

atom_is : (a : List ℕ) → item_bytes (Name a) ≡ atom_bytes a
atom_is a = search (rules, the_lemmas)

pid_is : (p : Pid) → item_bytes (Process p) ≡ pid_bytes p
pid_is p = search (rules, the_lemmas)

reference_is : (r : RefParts) → item_bytes (Ref r) ≡ reference_bytes r
reference_is r = search (rules, the_lemmas)

pid_held : (p : Pid) → length (atom_bytes p.node) ≤ length (item_bytes (Process p))
unfolding pid_bytes
pid_held p =
    let id = to_be_bytes w32 p.id in
    let serial = to_be_bytes w32 p.serial in
    let creation = to_be_bytes w32 p.creation in
    omega (
      arith,
      ap length (pid_is p),
      length-append (atom_bytes p.node ++ id ++ serial) creation,
      length-append (atom_bytes p.node ++ id) serial,
      length-append (atom_bytes p.node) id,
    )

reference_held : (r : RefParts) → length (atom_bytes r.node) ≤ length (item_bytes (Ref r))
reference_held r = omega (arith, ap length (reference_is r), reference_len r)

-- a creation takes at most four bytes
abbrev IsShort : Width → Type 0
IsShort w = (n : ℕ) → length (to_be_bytes w n) ≤ 4

pid_spread : (w : Width) → IsShort w → (p : Pid) (b : List ℕ) → IsPid w p b → length b + 1 ≤ 400 * length (item_bytes (Process p))
pid_spread _ few _ _ (s.IsPid.parts w p node a i r c) =
    let digits = to_be_bytes w32 p.serial ++ to_be_bytes w p.creation in
    omega (
      arith,
      atom_spread p.node node a,
      pid_held p,
      item_some (Process p),
      few p.creation,
      length-append node (to_be_bytes w32 p.id ++ digits),
      length-append (to_be_bytes w32 p.id) digits,
      length-append (to_be_bytes w32 p.serial) (to_be_bytes w p.creation),
    )

old_reference_spread : (r : RefParts) (b : List ℕ) → IsOldRef r b → length b + 1 ≤ 400 * length (item_bytes (Ref r))
old_reference_spread _ _ (s.IsOldRef.parts node text word creation a i c) =
    let r : RefParts = record { node = node; creation = creation; words = word ∷ [] } in
    omega (
      arith,
      atom_spread node text a,
      reference_held r,
      item_some (Ref r),
      length-append text (to_be_bytes w32 word ++ creation ∷ []),
      length-append (to_be_bytes w32 word) (creation ∷ []),
    )

reference_spread : (w : Width) → IsShort w → (r : RefParts) (b : List ℕ) → IsRef w r b → length b + 1 ≤ 400 * length (item_bytes (Ref r))
reference_spread _ few _ _ (s.IsRef.parts w r node some less fit a c) =
    let words = flat_map (to_be_bytes w32) r.words in
    omega (
      arith,
      atom_spread r.node node a,
      reference_held r,
      item_some (Ref r),
      few r.creation,
      words_len r.words,
      length-append (to_be_bytes w16 (length r.words)) (node ++ (to_be_bytes w r.creation ++ words)),
      length-append node (to_be_bytes w r.creation ++ words),
      length-append (to_be_bytes w r.creation) words,
    )

-- ---- terms

bytes_held : (text : List ℕ) → length text ≤ length (all_bytes (map int_of text))
bytes_held text = omega (arith, count_le (map int_of text), length-map text int_of)

joined_bytes : (ts us : List Term) → length (all_bytes (ts ++ us)) ≡ length (all_bytes ts) + length (all_bytes us)
joined_bytes [] us = omega arith
joined_bytes (t ∷ ts) us =
    omega (arith, joined_bytes ts us, length-append (item_bytes t) (all_bytes (ts ++ us)), length-append (item_bytes t) (all_bytes ts))

tuple_held : (ts : List Term) → 1 + length (all_bytes ts) ≤ length (item_bytes (Tuple ts))
tuple_held ts = omega (arith, ap length (tuple_is ts), head_some (length ts), length-append (tuple_head (length ts)) (all_bytes ts))

list_held : (ts : List Term) → 1 + length (all_bytes ts) ≤ length (item_bytes (Listed ts))
list_held ts = omega (arith, ap length (list_is ts), length-append (list_head (length ts) ++ all_bytes ts) (106 ∷ []), length-append (list_head (length ts)) (all_bytes ts))

mutual
  pub item_spread : (room : ℕ) (t : Term) (b : List ℕ) → room ≤ 64 → Item room t b → length b ≤ 400 * length (item_bytes t)
  item_spread _ _ _ le (s.Item.small_integer room n lt) = omega (arith, item_some (Int (pos n)))
  item_spread _ _ _ le (s.Item.integer room n lt) = omega (arith, item_some (Int (cast_signed w32 n)))
  item_spread _ _ _ le (s.Item.small_big room sign digits one few fit fits) = omega (arith, item_some (Int (big_value sign digits)))
  item_spread _ _ _ le (s.Item.atom room a b h) = omega (arith, atom_spread a b h, ap length (atom_is a), item_some (Name a))
  item_spread _ _ _ le (s.Item.pid room p b h) = omega (arith, pid_spread w8 (λ n. omega arith) p b h)
  item_spread _ _ _ le (s.Item.new_pid room p b h) = omega (arith, pid_spread w32 (λ n. omega arith) p b h)
  item_spread _ _ _ le (s.Item.old_reference room r b h) = omega (arith, old_reference_spread r b h)
  item_spread _ _ _ le (s.Item.reference room r b h) = omega (arith, reference_spread w8 (λ n. omega arith) r b h)
  item_spread _ _ _ le (s.Item.newer_reference room r b h) = omega (arith, reference_spread w32 (λ n. omega arith) r b h)
  item_spread _ _ _ le (s.Item.binary room content lt fit) = omega (arith, ap length (binary_is content), item_some (Binary content))
  item_spread _ _ _ le (s.Item.small_tuple room ts b lt h) = omega (arith, tuple_held ts, items_spread room ts b (omega arith) h)
  item_spread _ _ _ le (s.Item.large_tuple room ts b lt h) =
      omega (arith, tuple_held ts, items_spread room ts b (omega arith) h, length-append (to_be_bytes w32 (length ts)) b)
  item_spread _ _ _ le (s.Item.list room ts b h) = omega (arith, list_held ts, elements_spread room ts b (omega arith) h)

  items_spread : (room : ℕ) (ts : List Term) (b : List ℕ) → room ≤ 64 → Items room ts b → length b ≤ 400 * length (all_bytes ts)
  items_spread _ _ _ le (s.Items.none room) = omega arith
  items_spread _ _ _ le (s.Items.more room t ts a b h hs) =
      omega (arith, item_spread room t a le h, items_spread room ts b le hs, length-append a b, length-append (item_bytes t) (all_bytes ts))

  -- each of the lists that stand as tails, one in the other, takes five bytes and its elements
  elements_spread : (room : ℕ) (ts : List Term) (b : List ℕ) → room ≤ 64 → Elements room ts b → length b ≤ 6 * room + 8 + 400 * length (all_bytes ts)
  elements_spread _ _ _ le (s.Elements.nil room) = omega arith
  elements_spread _ _ _ le (s.Elements.string room text fit lt deep) = omega (arith, bytes_held text, length-append (to_be_bytes w16 (length text)) text)
  elements_spread _ _ _ le (s.Elements.cons room ts us b c lt h k) =
      omega (arith, joined_bytes ts us, items_spread room ts b le h, tail_spread room us c le k, length-append b c, length-append (to_be_bytes w32 (length ts)) (b ++ c))

  tail_spread : (room : ℕ) (ts : List Term) (b : List ℕ) → room ≤ 64 → Tail room ts b → length b + 6 ≤ 6 * room + 8 + 400 * length (all_bytes ts)
  tail_spread _ _ _ le (s.Tail.tail room ts b h) = omega (arith, elements_spread room ts b (omega arith) h)

-- ---- what is read

took : (room : ℕ) (bytes : List ℕ) (read : Read Term) (t : Term) (rest : List ℕ) → room ≤ 64 → Right (Item room) (BreaksItem room) bytes read → read ≡ Ok (t, rest) → length bytes ≤ length rest + 400 * length (item_bytes t)
took room bytes (Ok x) t rest le h e =
    let text : Took (Item room) bytes x = h in
    let same : x ≡ (t, rest) = cc in
    omega (
      arith,
      item_spread room x.0 text.text le text.is,
      ap length text.parts,
      length-append text.text x.1,
      ap (λ (p : Term × List ℕ). length (item_bytes p.0)) same,
      ap (λ (p : Term × List ℕ). length p.1) same,
    )
took room bytes (Err f) t rest le h e = absurd cc

-- an item that is read takes at most 400 times the bytes that it is written in
pub wide : (room : ℕ) (bytes : List ℕ) (t : Term) (rest : List ℕ) → room ≤ 64 → EachByte bytes → item_at room bytes ≡ Ok (t, rest) → length bytes ≤ length rest + 400 * length (item_bytes t)
wide room bytes t rest le fits e = took room bytes (item_at room bytes) t rest le ((levels room).0 bytes fits) e

took_some : (room : ℕ) (bytes : List ℕ) (read : Read Term) (t : Term) (rest : List ℕ) → Right (Item room) (BreaksItem room) bytes read → read ≡ Ok (t, rest) → length rest < length bytes
took_some room bytes (Ok x) t rest h e =
    let text : Took (Item room) bytes x = h in
    let same : x ≡ (t, rest) = cc in
    omega (
      arith,
      item_light room x.0 text.text text.is,
      weight_some x.0,
      ap length text.parts,
      length-append text.text x.1,
      ap (λ (p : Term × List ℕ). length p.1) same,
    )
took_some room bytes (Err f) t rest h e = absurd cc

-- an item takes some bytes
pub shorter : (room : ℕ) (bytes : List ℕ) (t : Term) (rest : List ℕ) → EachByte bytes → item_at room bytes ≡ Ok (t, rest) → length rest < length bytes
shorter room bytes t rest fits e = took_some room bytes (item_at room bytes) t rest ((levels room).0 bytes fits) e
