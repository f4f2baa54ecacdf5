-- Each term takes at least one byte.
use Rattle.std.proofs.Common.{◌≡◌, ℕ, ℤ, ◌+◌, ◌≤◌, List, [], ◌∷◌, ◌++◌, length}
use Rattle.std.proofs.Common.{length-append, map, pos, refl, arith, rules}
use Rattle.std.specs.Int.{w16, w32, to_be_bytes, cast_signed}
use Rattle.pg_term.specs.declared.pid.Pid.{Pid}
use Rattle.pg_term.specs.declared.term.Term.{Term, Tuple, List as Listed, map-Term, out-Term, fold_out-Term, the_lemmas}
use Rattle.pg_term.specs.declared.term.Term.TheOpen.{Term-F}
use Rattle.pg_term.specs.declared.term.Term.TheVariants.{Int, Atom as Name, Ref, Pid as Process, Binary}
use Rattle.pg_term.specs.RefParts.{RefParts}
use Rattle.pg_term_io.specs.Numbers.{int_of, big_value}
use Rattle.pg_term_io.specs.Spelling.{IsAtom, Item, Items, Elements, Tail, Spells}
use Rattle.pg_term_io.specs.Spelling as s
use Rattle.pg_term_io.specs.Weight.{weight_step, weight, total_weight}

-- ---- weights

int_weight : (z : ℤ) → weight (Int z) ≡ 1
int_weight z = search (rules, the_lemmas)

atom_weight : (a : List ℕ) → weight (Name a) ≡ 1
atom_weight a = search (rules, the_lemmas)

reference_weight : (r : RefParts) → weight (Ref r) ≡ 1
reference_weight r = search (rules, the_lemmas)

pid_weight : (p : Pid) → weight (Process p) ≡ 1
pid_weight p = search (rules, the_lemmas)

binary_weight : (content : List ℕ) → weight (Binary content) ≡ 1
binary_weight content = search (rules, the_lemmas)

tuple_weight : (ts : List Term) → weight (Tuple ts) ≡ 1 + total_weight ts
tuple_weight ts = search (rules, the_lemmas)

list_weight : (ts : List Term) → weight (Listed ts) ≡ 1 + total_weight ts
list_weight ts = search (rules, the_lemmas)

step_some : (l : Term-F ℕ) → 1 ≤ weight_step l
step_some (Term-F.Int z) = omega arith
step_some (Term-F.Atom a) = omega arith
step_some (Term-F.Ref r) = omega arith
step_some (Term-F.Pid p) = omega arith
step_some (Term-F.Tuple ws) = omega arith
step_some (Term-F.List ws) = omega arith
step_some (Term-F.Binary content) = omega arith

-- what a term weighs by its outermost form
pub weight_out : (t : Term) → weight t ≡ weight_step (map-Term Term ℕ weight (out-Term t))
weight_out t = fold_out-Term ℕ weight_step t

pub weight_some : (t : Term) → 1 ≤ weight t
weight_some t = rw (weight_out t) (step_some (map-Term Term ℕ weight (out-Term t)))

more_weight : (t : Term) (ts : List Term) → total_weight (t ∷ ts) ≡ weight t + total_weight ts
more_weight t ts = refl

append_weight : (ts us : List Term) → total_weight (ts ++ us) ≡ total_weight ts + total_weight us
append_weight [] us = omega arith
append_weight (t ∷ ts) us = omega (arith, more_weight t (ts ++ us), more_weight t ts, append_weight ts us)

bytes_weight : (text : List ℕ) → total_weight (map int_of text) ≡ length text
bytes_weight [] = refl
bytes_weight (b ∷ text) = omega (arith, more_weight (int_of b) (map int_of text), int_weight (pos b), bytes_weight text)

-- ---- bytes

atom_some : (a b : List ℕ) → IsAtom a b → 1 ≤ length b
atom_some _ _ (s.IsAtom.small text lt u le) = omega arith
atom_some _ _ (s.IsAtom.large text lt u le) = omega arith
atom_some _ _ (s.IsAtom.small_latin text le fit) = omega arith
atom_some _ _ (s.IsAtom.latin text le fit) = omega arith

mutual
  pub item_light : (room : ℕ) (t : Term) (b : List ℕ) → Item room t b → weight t ≤ length b
  item_light _ _ _ (s.Item.small_integer room n lt) = omega (arith, int_weight (pos n))
  item_light _ _ _ (s.Item.integer room n lt) = omega (arith, int_weight (cast_signed w32 n))
  item_light _ _ _ (s.Item.small_big room sign digits one few fit fits) = omega (arith, int_weight (big_value sign digits))
  item_light _ _ _ (s.Item.atom room a b h) = omega (arith, atom_weight a, atom_some a b h)
  item_light _ _ _ (s.Item.pid room p b h) = omega (arith, pid_weight p)
  item_light _ _ _ (s.Item.new_pid room p b h) = omega (arith, pid_weight p)
  item_light _ _ _ (s.Item.old_reference room r b h) = omega (arith, reference_weight r)
  item_light _ _ _ (s.Item.reference room r b h) = omega (arith, reference_weight r)
  item_light _ _ _ (s.Item.newer_reference room r b h) = omega (arith, reference_weight r)
  item_light _ _ _ (s.Item.binary room content lt fit) = omega (arith, binary_weight content)
  item_light _ _ _ (s.Item.small_tuple room ts b lt h) = omega (arith, tuple_weight ts, items_light room ts b h)
  item_light _ _ _ (s.Item.large_tuple room ts b lt h) =
      omega (arith, tuple_weight ts, items_light room ts b h, length-append (to_be_bytes w32 (length ts)) b)
  item_light _ _ _ (s.Item.list room ts b h) = omega (arith, list_weight ts, elements_light room ts b h)

  items_light : (room : ℕ) (ts : List Term) (b : List ℕ) → Items room ts b → total_weight ts ≤ length b
  items_light _ _ _ (s.Items.none room) = omega arith
  items_light _ _ _ (s.Items.more room t ts a b h hs) = omega (arith, more_weight t ts, item_light room t a h, items_light room ts b hs, length-append a b)

  elements_light : (room : ℕ) (ts : List Term) (b : List ℕ) → Elements room ts b → 1 + total_weight ts ≤ length b
  elements_light _ _ _ (s.Elements.nil room) = omega arith
  elements_light _ _ _ (s.Elements.string room text fit lt deep) =
      omega (arith, bytes_weight text, length-append (to_be_bytes w16 (length text)) text)
  elements_light _ _ _ (s.Elements.cons room ts us b c lt h k) =
      omega (arith, append_weight ts us, items_light room ts b h, tail_light room us c k, length-append b c, length-append (to_be_bytes w32 (length ts)) (b ++ c))

  tail_light : (room : ℕ) (ts : List Term) (b : List ℕ) → Tail room ts b → 1 + total_weight ts ≤ length b
  tail_light _ _ _ (s.Tail.tail room ts b h) = elements_light room ts b h

pub light : (t : Term) (bytes : List ℕ) → Spells t bytes → weight t ≤ length bytes
light _ _ (s.Spells.version t b h) = omega (arith, item_light 64 t b h)
