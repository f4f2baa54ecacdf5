-- What is read behind a tag is of the tag's kind.
use Rattle.std.proofs.Common.{◌≡◌, ◌≢◌, ℕ, ℤ, pos, zero, suc, ◌≤◌, List, [], ◌∷◌, length, get_or}
use Rattle.std.proofs.Common.{Option, Some, None, Ok, Err, refl, sym, ap, ◌∙◌, arith, rules}
use Rattle.std.specs.Int.{w32, cast_signed}
use Rattle.std.specs.Option.{option_map}
use Rattle.pg_term.specs.declared.fault.TermFault.{TermFault}
use Rattle.pg_term.specs.declared.pid.Pid.{Pid}
use Rattle.pg_term.specs.declared.term.Term.{Term, Tuple, List as Listed, the_lemmas}
use Rattle.pg_term.specs.declared.term.Term.TheVariants.{Int, Atom as Name, Ref, Pid as Process, Binary}
use Rattle.pg_term.specs.Order.{kind_of}
use Rattle.pg_term.specs.RefParts.{RefParts}
use Rattle.pg_term_io.specs.declared.tag.Size.{Size}
use Rattle.pg_term_io.specs.declared.tag.LeafTag.{LeafTag}
use Rattle.pg_term_io.specs.declared.tag.LeafTag.TheVariants as leaf
use Rattle.pg_term_io.specs.declared.tag.Tag.{Tag}
use Rattle.pg_term_io.specs.declared.tag.Tag.TheVariants as tag
use Rattle.pg_term_io.specs.Kinds.{place_of, kind_in, count_in, arity_in, tuple_in}
use Rattle.pg_term_io.specs.Numbers.{int_of}
use Rattle.pg_term_io.specs.Tags.{tag_of, tuple_size, kind_of_leaf, kind_of_tag}
use Rattle.pg_term_io.specs.Reading.{Read, ◌>>=◌, byte_at, number_at, big_at, atom_behind, creation_width}
use Rattle.pg_term_io.specs.Reading.{arity_at, pid_at, old_reference_at, new_reference_at, binary_at, items_at}
use Rattle.pg_term_io.specs.Reading.{elements_behind, leaf_behind, item_behind, as_term, readers, item_at}

int_kind : (z : ℤ) → kind_of (Int z) ≡ 0
int_kind z = search (rules, the_lemmas)

atom_kind : (a : List ℕ) → kind_of (Name a) ≡ 1
atom_kind a = search (rules, the_lemmas)

reference_kind : (r : RefParts) → kind_of (Ref r) ≡ 2
reference_kind r = search (rules, the_lemmas)

pid_kind : (p : Pid) → kind_of (Process p) ≡ 3
pid_kind p = search (rules, the_lemmas)

pub tuple_kind : (ts : List Term) → kind_of (Tuple ts) ≡ 4
tuple_kind ts = search (rules, the_lemmas)

list_kind : (ts : List Term) → kind_of (Listed ts) ≡ 5
list_kind ts = search (rules, the_lemmas)

binary_kind : (content : List ℕ) → kind_of (Binary content) ≡ 6
binary_kind content = search (rules, the_lemmas)

-- each term that is read is of this kind
abbrev pub OfKind : Option ℕ → Read Term → Type 0
OfKind place read = (t : Term) (rest : List ℕ) → read ≡ Ok (t, rest) → place ≡ Some (kind_of t)

pub made : {A : Type 0} (make : A → Term) (place : ℕ) → ((a : A) → kind_of (make a) ≡ place) → (read : Read A) → OfKind (Some place) (as_term make read)
made make place h (Ok x) t rest e = let same : (make x.0, x.1) ≡ (t, rest) = cc in ap Some (sym (h x.0) ∙ ap (λ (p : Term × List ℕ). kind_of p.0) same)
made make place h (Err f) t rest e = absurd cc

leaf_kind : (form : LeafTag) (bytes : List ℕ) → OfKind (Some (place_of (kind_of_leaf form))) (leaf_behind form bytes)
unfolding leaf_behind
leaf_kind leaf.SmallInteger bytes = made int_of 0 (λ n. int_kind (pos n)) (byte_at bytes)
leaf_kind leaf.Integer bytes = made (λ (n : ℕ). Int (cast_signed w32 n)) 0 (λ n. int_kind (cast_signed w32 n)) (number_at w32 bytes)
leaf_kind leaf.SmallBig bytes = made Int 0 int_kind (big_at bytes)
leaf_kind (leaf.Atom size encoding) bytes = made Name 1 atom_kind (atom_behind size encoding bytes)
leaf_kind (leaf.Pid creation) bytes = made Process 3 pid_kind (pid_at (creation_width creation) bytes)
leaf_kind leaf.OldReference bytes = made Ref 2 reference_kind (old_reference_at bytes)
leaf_kind (leaf.Reference creation) bytes = made Ref 2 reference_kind (new_reference_at (creation_width creation) bytes)
leaf_kind leaf.Binary bytes = made Binary 6 binary_kind (binary_at bytes)

-- the place of what stands behind a tag
abbrev pub place_behind : Option Tag → Option ℕ
place_behind found = option_map place_of (option_map kind_of_tag found)

behind_kind : (room : ℕ) (found : Option Tag) (bytes : List ℕ) → OfKind (place_behind found) (item_behind room (readers room) found bytes)
unfolding item_behind
behind_kind room None bytes = λ t rest e. absurd cc
behind_kind room (Some (tag.Tuple size)) bytes = made Tuple 4 tuple_kind (arity_at size bytes >>= λ n. items_at (item_at room) n.0 n.1)
behind_kind room (Some (tag.List form)) bytes = made Listed 5 list_kind (elements_behind room (readers room) form bytes)
behind_kind room (Some (tag.Leaf form)) bytes = leaf_kind form bytes

pub kind_more : (bytes : List ℕ) → 1 ≤ length bytes → kind_in bytes ≡ option_map kind_of_tag (tag_of (get_or bytes 0 0))
unfolding kind_in
kind_more [] some = absurd (omega arith)
kind_more (byte ∷ bytes) some = refl

-- the kind of an item
pub item_kind : (room : ℕ) (bytes : List ℕ) (t : Term) (rest : List ℕ) → item_at room bytes ≡ Ok (t, rest) → option_map place_of (kind_in bytes) ≡ Some (kind_of t)
unfolding readers kind_in
item_kind zero [] t rest e = absurd cc
item_kind zero (tag ∷ bytes) t rest e = absurd cc
item_kind (suc room) [] t rest e = absurd cc
item_kind (suc room) (tag ∷ bytes) t rest e = behind_kind room (tag_of tag) bytes t rest e

-- no item without a byte
pub no_item : (room : ℕ) (bytes : List ℕ) (t : Term) (rest : List ℕ) → item_at room bytes ≡ Ok (t, rest) → 1 ≤ length bytes
unfolding readers
no_item zero [] t rest e = absurd cc
no_item (suc room) [] t rest e = absurd cc
no_item room (tag ∷ bytes) t rest e = omega arith

-- ---- tuples

abbrev elements : ℕ → ℕ × List ℕ → Read (List Term)
elements room n = items_at (item_at room) n.0 n.1

-- by what stands behind the tag
sized_elements : (room : ℕ) (found : Option Tag) (size : Size) (bytes : List ℕ) → tuple_size found ≡ Some size → item_behind room (readers room) found bytes ≡ as_term Tuple (arity_at size bytes >>= elements room)
unfolding item_behind
sized_elements room (Some (tag.Tuple small)) size bytes is = let same : small ≡ size = cc in ap (λ (size : Size). as_term Tuple (arity_at size bytes >>= elements room)) same
sized_elements room (Some (tag.List form)) size bytes is = absurd cc
sized_elements room (Some (tag.Leaf form)) size bytes is = absurd cc
sized_elements room None size bytes is = absurd cc

pub tuple_elements : (room byte n : ℕ) (size : Size) (bytes rest : List ℕ) → tuple_size (tag_of byte) ≡ Some size → arity_at size bytes ≡ Ok (n, rest) → item_at (suc room) (byte ∷ bytes) ≡ as_term Tuple (items_at (item_at room) n rest)
unfolding readers
tuple_elements room byte n size bytes rest is h = sized_elements room (tag_of byte) size bytes is ∙ ap (λ (r : Read ℕ). as_term Tuple (r >>= elements room)) h

pub tuple_here : (byte : ℕ) (size : Size) (bytes : List ℕ) → tuple_size (tag_of byte) ≡ Some size → tuple_in (byte ∷ bytes) ≡ count_in (arity_at size bytes)
unfolding tuple_in
tuple_here byte size bytes is = ap (λ found. arity_in found bytes) is

pub no_tuple_here : (byte : ℕ) (bytes : List ℕ) → tuple_size (tag_of byte) ≡ None → tuple_in (byte ∷ bytes) ≡ None
unfolding tuple_in
no_tuple_here byte bytes is = ap (λ found. arity_in found bytes) is

pub no_byte : (bytes : List ℕ) → length bytes ≡ 0 → tuple_in bytes ≡ None
unfolding tuple_in
no_byte [] none = refl
no_byte (byte ∷ bytes) none = absurd (omega (arith, none))

pub tuple_uncounted : (room byte : ℕ) (size : Size) (f : TermFault) (bytes : List ℕ) (t : Term) (rest : List ℕ) → tuple_size (tag_of byte) ≡ Some size → arity_at size bytes ≡ Err f → item_at room (byte ∷ bytes) ≡ Ok (t, rest) → ⊥
unfolding readers
tuple_uncounted zero byte size f bytes t rest is h e = absurd cc
tuple_uncounted (suc room) byte size f bytes t rest is h e =
    let no = sym (sized_elements room (tag_of byte) size bytes is ∙ ap (λ (r : Read ℕ). as_term Tuple (r >>= elements room)) h) ∙ e in
    absurd cc

other_kind : (found : Option Tag) → tuple_size found ≡ None → place_behind found ≡ Some 4 → ⊥
other_kind None is four = absurd cc
other_kind (Some (tag.Tuple size)) is four = absurd cc
other_kind (Some (tag.List form)) is four = absurd cc
other_kind (Some (tag.Leaf form)) is four = let same : place_of (kind_of_leaf form) ≡ 4 = cc in no_tuple_leaf form same
  where
    no_tuple_leaf : (form : LeafTag) → place_of (kind_of_leaf form) ≡ 4 → ⊥
    no_tuple_leaf leaf.SmallInteger e = omega (arith, e)
    no_tuple_leaf leaf.Integer e = omega (arith, e)
    no_tuple_leaf leaf.SmallBig e = omega (arith, e)
    no_tuple_leaf (leaf.Atom size encoding) e = omega (arith, e)
    no_tuple_leaf (leaf.Pid creation) e = omega (arith, e)
    no_tuple_leaf leaf.OldReference e = omega (arith, e)
    no_tuple_leaf (leaf.Reference creation) e = omega (arith, e)
    no_tuple_leaf leaf.Binary e = omega (arith, e)

-- no other tag is that of a tuple
pub no_tuple : (room byte : ℕ) (bytes : List ℕ) (t : Term) (rest : List ℕ) → tuple_size (tag_of byte) ≡ None → item_at room (byte ∷ bytes) ≡ Ok (t, rest) → kind_of t ≢ 4
unfolding kind_in
no_tuple room byte bytes t rest is e four = other_kind (tag_of byte) is (item_kind room (byte ∷ bytes) t rest e ∙ ap Some four)

-- ---- lists

-- a term that holds none is no list
pub no_list_leaf : (form : LeafTag) → place_of (kind_of_leaf form) ≡ 5 → ⊥
no_list_leaf leaf.SmallInteger e = omega (arith, e)
no_list_leaf leaf.Integer e = omega (arith, e)
no_list_leaf leaf.SmallBig e = omega (arith, e)
no_list_leaf (leaf.Atom size encoding) e = omega (arith, e)
no_list_leaf (leaf.Pid creation) e = omega (arith, e)
no_list_leaf leaf.OldReference e = omega (arith, e)
no_list_leaf (leaf.Reference creation) e = omega (arith, e)
no_list_leaf leaf.Binary e = omega (arith, e)

pub leaf_is_no_list : (form : LeafTag) (bytes : List ℕ) (t : Term) (rest : List ℕ) → leaf_behind form bytes ≡ Ok (t, rest) → kind_of t ≡ 5 → ⊥
leaf_is_no_list form bytes t rest e five = let place : Some (place_of (kind_of_leaf form)) ≡ Some 5 = leaf_kind form bytes t rest e ∙ ap Some five in let same : place_of (kind_of_leaf form) ≡ 5 = cc in no_list_leaf form same
