-- A walk over bytes ends where reading them ends, or at the same fault.
use Rattle.std.proofs.Common.{◌≡◌, ℕ, zero, suc, Bool, true, false, cond, ltb, eqb, ◌||◌}
use Rattle.std.proofs.Common.{◌&&◌, List, [], ◌∷◌, ◌++◌, length, map, Option, Some, None}
use Rattle.std.proofs.Common.{inl, inr, Result, Ok, Err, refl, sym, ap, subst, ◌∙◌, arith}
use Rattle.std.proofs.lemmas.Bool.{le-ltb}
use Rattle.std.specs.Int.{Width, w8, w16, w32, cast_signed}
use Rattle.pg_term.specs.declared.fault.TermFault.{TermFault}
use Rattle.pg_term.specs.declared.fault.TermFault.TheVariants.{BadVersion, BadReference, TooDeep, TrailingBytes}
use Rattle.pg_term.specs.declared.term.Term.{Term, Tuple, List as Listed}
use Rattle.pg_term.specs.declared.term.Term.TheVariants.{Int, Atom as Name, Ref, Pid as Process, Binary}
use Rattle.pg_term_io.specs.Numbers.{int_of}
use Rattle.pg_term_io.specs.declared.tag.Size.{Size}
use Rattle.pg_term_io.specs.declared.tag.Encoding.{Encoding}
use Rattle.pg_term_io.specs.declared.tag.Creation.{Creation}
use Rattle.pg_term_io.specs.declared.tag.Creation.TheVariants.{Byte, Word}
use Rattle.pg_term_io.specs.declared.tag.LeafTag.{LeafTag}
use Rattle.pg_term_io.specs.declared.tag.LeafTag.TheVariants as leaf
use Rattle.pg_term_io.specs.declared.tag.ListTag.{ListTag}
use Rattle.pg_term_io.specs.declared.tag.ListTag.TheVariants as listed
use Rattle.pg_term_io.specs.declared.tag.Tag.{Tag}
use Rattle.pg_term_io.specs.declared.tag.Tag.TheVariants as tag
use Rattle.pg_term_io.specs.Tags.{list_tag, tag_of}
use Rattle.pg_term_io.specs.Reading.{Read, ◌>>=◌, byte_at, number_at, bytes_at, big_at, named_at, atom_in}
use Rattle.pg_term_io.specs.Reading.{text_length_at, atom_behind, node_behind, atom_at, creation_width}
use Rattle.pg_term_io.specs.Reading.{arity_at, tail_behind, pid_at, old_reference_at, words_at}
use Rattle.pg_term_io.specs.Reading.{new_reference_at, binary_at, items_at, string_at, list_at, elements_behind}
use Rattle.pg_term_io.specs.Reading.{item_behind, leaf_behind, Readers, readers, item_at, tail_at, term_of}
use Rattle.pg_term_io.specs.Scanning.{past, Walk, Walks, over_atom, over_node_behind, over_node, over_creation}
use Rattle.pg_term_io.specs.Scanning.{over_tail_behind, over_byte, over_word, over_pid, over_old_reference}
use Rattle.pg_term_io.specs.Scanning.{over_all, over_words, over_reference, over_binary, over_leaf, over_string}
use Rattle.pg_term_io.specs.Scanning.{over_list, over_elements, over_behind, walks, over_item, over_tail, over_term}
use Rattle.pg_term_io.proofs.Tags.{atom_or_not, list_or_not}

-- ---- steps

-- one step, whose value the walk does not look at
step : {A B : Type 0} (r : Read A) (f : A × List ℕ → Read B) (g : A × List ℕ → Result (List ℕ) TermFault) → ((x : A × List ℕ) → past (f x) ≡ g x) → past (r >>= f) ≡ (r >>= g)
step (Ok x) f g h = h x
step (Err e) f g h = refl

-- one step, of which the walk knows only where it ends
walked : {A B : Type 0} (r : Read A) (w : Result (List ℕ) TermFault) → past r ≡ w → (f : A × List ℕ → Read B) (g : Walk) → ((a : A) (rest : List ℕ) → past (f (a, rest)) ≡ g rest) → past (r >>= f) ≡ (w >>= g)
walked (Ok x) w e f g h = h x.0 x.1 ∙ ap (λ (v : Result (List ℕ) TermFault). v >>= g) e
walked (Err d) w e f g h = ap (λ (v : Result (List ℕ) TermFault). v >>= g) e

-- the value in another form
same_end : {A B : Type 0} (make : A → B) (r : Read A) → past (r >>= λ x. Ok (make x.0, x.1)) ≡ past r
same_end make (Ok x) = refl
same_end make (Err e) = refl

-- whichever way a test goes
tested : {A : Type 0} (b : Bool) (x y : Read A) (v w : Result (List ℕ) TermFault) → past x ≡ v → past y ≡ w → past (cond b x y) ≡ cond b v w
tested true x y v w p q = p
tested false x y v w p q = q

-- ---- leaves

pub atom_end : (size : Size) (encoding : Encoding) (bytes : List ℕ) → past (atom_behind size encoding bytes) ≡ over_atom size encoding bytes
unfolding atom_behind over_atom
atom_end size encoding bytes = step (text_length_at size bytes) (λ n. named_at (atom_in encoding) n.0 n.1) (λ n. past (named_at (atom_in encoding) n.0 n.1)) (λ n. refl)

node_behind_end : (found : Option Tag) (bytes : List ℕ) → past (node_behind found bytes) ≡ over_node_behind found bytes
node_behind_end found bytes = elim (atom_or_not found) [
  | inl a ↦ subst (λ (found : Option Tag). past (node_behind found bytes) ≡ over_node_behind found bytes) (sym a.is) (atom_end a.size a.encoding bytes)
  | inr none ↦ ap past (none.read bytes) ∙ sym (none.walk bytes)
]

pub node_end : (bytes : List ℕ) → past (atom_at bytes) ≡ over_node bytes
unfolding atom_at over_node
node_end [] = refl
node_end (tag ∷ bytes) = node_behind_end (tag_of tag) bytes

-- a creation, and the walk over it
abbrev CreationEnd : Width → Walk → Type 0
CreationEnd w creation = (bytes : List ℕ) → past (number_at w bytes) ≡ creation bytes

small_end : CreationEnd w8 over_byte
small_end [] = refl
small_end (b ∷ bytes) = let long : ltb (length (b ∷ bytes)) 1 ≡ false = le-ltb (length (b ∷ bytes)) 1 (omega arith) in rw long refl

pub word_end : CreationEnd w32 over_word
word_end bytes = refl

creation_end : (creation : Creation) → CreationEnd (creation_width creation) (over_creation creation)
creation_end Byte = small_end
creation_end Word = word_end

pub pid_end : (w : Width) (creation : Walk) → CreationEnd w creation → (bytes : List ℕ) → past (pid_at w bytes) ≡ over_pid creation bytes
unfolding pid_at over_pid
pid_end w creation ends bytes =
    walked (atom_at bytes) (over_node bytes) (node_end bytes) (λ node. number_at w32 node.1 >>= λ id. number_at w32 id.1 >>= λ serial. number_at w serial.1 >>= λ creation. Ok (record { node = node.0; serial = serial.0; id = id.0; creation = creation.0 }, creation.1))
    (λ rest. over_word rest >>= λ rest. over_word rest >>= creation)
    (λ node rest. walked (number_at w32 rest) (over_word rest) refl (λ id. number_at w32 id.1 >>= λ serial. number_at w serial.1 >>= λ creation. Ok (record { node = node; serial = serial.0; id = id.0; creation = creation.0 }, creation.1)) (λ rest. over_word rest >>= creation)
    (λ id rest. walked (number_at w32 rest) (over_word rest) refl (λ serial. number_at w serial.1 >>= λ creation. Ok (record { node = node; serial = serial.0; id = id; creation = creation.0 }, creation.1)) creation
    (λ serial rest. same_end (λ (creation : ℕ). record { node = node; serial = serial; id = id; creation = creation }) (number_at w rest) ∙ ends rest)))

pub old_reference_end : (bytes : List ℕ) → past (old_reference_at bytes) ≡ over_old_reference bytes
unfolding old_reference_at over_old_reference
old_reference_end bytes =
    walked (atom_at bytes) (over_node bytes) (node_end bytes) (λ node. number_at w32 node.1 >>= λ word. byte_at word.1 >>= λ creation. Ok (record { node = node.0; creation = creation.0; words = word.0 ∷ [] }, creation.1))
    (λ rest. over_word rest >>= over_byte)
    (λ node rest. walked (number_at w32 rest) (over_word rest) refl (λ word. byte_at word.1 >>= λ creation. Ok (record { node = node; creation = creation.0; words = word.0 ∷ [] }, creation.1)) over_byte
    (λ word rest. same_end (λ (creation : ℕ). record { node = node; creation = creation; words = word ∷ [] }) (byte_at rest)))

-- n of them, one after the other
all_end : {A : Type 0} (read : List ℕ → Read A) (walk : Walk) → ((bytes : List ℕ) → past (read bytes) ≡ walk bytes) → (n : ℕ) (bytes : List ℕ) → past (items_at read n bytes) ≡ over_all walk n bytes
unfolding items_at over_all
all_end read walk h zero bytes = refl
all_end {A} read walk h (suc n) bytes =
    walked (read bytes) (walk bytes) (h bytes) (λ first. items_at read n first.1 >>= λ others. Ok (first.0 ∷ others.0, others.1)) (over_all walk n)
    (λ a rest. same_end (λ (others : List A). a ∷ others) (items_at read n rest) ∙ all_end read walk h n rest)

words_end : (node : List ℕ) (creation n : ℕ) (bytes : List ℕ) → past (words_at node creation n bytes) ≡ over_words n bytes
unfolding words_at
words_end node creation n bytes = same_end (λ (words : List ℕ). record { node = node; creation = creation; words = words }) (items_at (number_at w32) n bytes) ∙ all_end (number_at w32) over_word (λ b. refl) n bytes

pub reference_end : (w : Width) (creation : Walk) → CreationEnd w creation → (bytes : List ℕ) → past (new_reference_at w bytes) ≡ over_reference creation bytes
unfolding new_reference_at over_reference
reference_end w creation ends bytes =
    step (number_at w16 bytes) (λ n. cond (eqb n.0 0 || ltb 3 n.0) (Err BadReference) (atom_at n.1 >>= λ node. number_at w node.1 >>= λ creation. words_at node.0 creation.0 n.0 creation.1))
    (λ n. cond (eqb n.0 0 || ltb 3 n.0) (Err BadReference) (over_node n.1 >>= λ rest. creation rest >>= over_words n.0))
    (λ n. tested (eqb n.0 0 || ltb 3 n.0) (Err BadReference) (atom_at n.1 >>= λ node. number_at w node.1 >>= λ creation. words_at node.0 creation.0 n.0 creation.1) (Err BadReference) (over_node n.1 >>= λ rest. creation rest >>= over_words n.0) refl
    (walked (atom_at n.1) (over_node n.1) (node_end n.1) (λ node. number_at w node.1 >>= λ creation. words_at node.0 creation.0 n.0 creation.1) (λ rest. creation rest >>= over_words n.0)
    (λ node rest. walked (number_at w rest) (creation rest) (ends rest) (λ creation. words_at node creation.0 n.0 creation.1) (over_words n.0) (λ creation rest. words_end node creation n.0 rest))))

pub binary_end : (bytes : List ℕ) → past (binary_at bytes) ≡ over_binary bytes
unfolding binary_at over_binary
binary_end bytes = step (number_at w32 bytes) (λ n. bytes_at n.0 n.1) (λ n. past (bytes_at n.0 n.1)) (λ n. refl)

pub leaf_end : (form : LeafTag) (bytes : List ℕ) → past (leaf_behind form bytes) ≡ over_leaf form bytes
unfolding leaf_behind over_leaf
leaf_end leaf.SmallInteger bytes = same_end int_of (byte_at bytes)
leaf_end leaf.Integer bytes = same_end (λ (n : ℕ). Int (cast_signed w32 n)) (number_at w32 bytes)
leaf_end leaf.SmallBig bytes = same_end Int (big_at bytes)
leaf_end (leaf.Atom size encoding) bytes = same_end Name (atom_behind size encoding bytes) ∙ atom_end size encoding bytes
leaf_end (leaf.Pid creation) bytes = same_end Process (pid_at (creation_width creation) bytes) ∙ pid_end (creation_width creation) (over_creation creation) (creation_end creation) bytes
leaf_end leaf.OldReference bytes = same_end Ref (old_reference_at bytes) ∙ old_reference_end bytes
leaf_end (leaf.Reference creation) bytes = same_end Ref (new_reference_at (creation_width creation) bytes) ∙ reference_end (creation_width creation) (over_creation creation) (creation_end creation) bytes
leaf_end leaf.Binary bytes = same_end Binary (binary_at bytes) ∙ binary_end bytes

-- ---- lists and tuples

string_end : (room : ℕ) (bytes : List ℕ) → past (string_at room bytes) ≡ over_string room bytes
unfolding string_at over_string
string_end room bytes =
    step (number_at w16 bytes) (λ n. bytes_at n.0 n.1 >>= λ text. cond (eqb room 0 && ltb 0 n.0) (Err TooDeep) (Ok (map int_of text.0, text.1)))
    (λ n. bytes_at n.0 n.1 >>= λ text. cond (eqb room 0 && ltb 0 n.0) (Err TooDeep) (Ok text.1))
    (λ n. step (bytes_at n.0 n.1) (λ text. cond (eqb room 0 && ltb 0 n.0) (Err TooDeep) (Ok (map int_of text.0, text.1))) (λ text. cond (eqb room 0 && ltb 0 n.0) (Err TooDeep) (Ok text.1))
    (λ text. tested (eqb room 0 && ltb 0 n.0) (Err TooDeep) (Ok (map int_of text.0, text.1)) (Err TooDeep) (Ok text.1) refl refl))

-- the walks of one depth end where its readers do
record Together (below : Readers) (under : Walks) : Type 0 where
  item : (bytes : List ℕ) → past (below.item bytes) ≡ under.item bytes
  tail : (bytes : List ℕ) → past (below.tail bytes) ≡ under.tail bytes

module _ (below : Readers) (under : Walks) (t : Together below under) where
  all_items_end : (n : ℕ) (bytes : List ℕ) → past (items_at below.item n bytes) ≡ over_all under.item n bytes
  all_items_end n bytes = all_end below.item under.item t.item n bytes

  list_end : (bytes : List ℕ) → past (list_at below bytes) ≡ over_list under bytes
  unfolding list_at over_list
  list_end bytes =
      step (number_at w32 bytes) (λ n. items_at below.item n.0 n.1 >>= λ items. below.tail items.1 >>= λ tail. Ok (items.0 ++ tail.0, tail.1)) (λ n. over_all under.item n.0 n.1 >>= under.tail)
      (λ n. walked (items_at below.item n.0 n.1) (over_all under.item n.0 n.1) (all_items_end n.0 n.1) (λ items. below.tail items.1 >>= λ tail. Ok (items.0 ++ tail.0, tail.1)) under.tail
      (λ items rest. same_end (λ (tail : List Term). items ++ tail) (below.tail rest) ∙ t.tail rest))

  elements_end : (room : ℕ) (form : ListTag) (bytes : List ℕ) → past (elements_behind room below form bytes) ≡ over_elements room under form bytes
  unfolding elements_behind over_elements
  elements_end room listed.Nil bytes = refl
  elements_end room listed.String bytes = string_end room bytes
  elements_end room listed.List bytes = list_end bytes

  tail_behind_end : (room : ℕ) (found : Option Tag) (bytes : List ℕ) → past (tail_behind room below (list_tag found) bytes) ≡ over_tail_behind room under (list_tag found) bytes
  tail_behind_end room found bytes = elim (list_or_not found) [
    | inl l ↦ subst (λ (found : Option Tag). past (tail_behind room below (list_tag found) bytes) ≡ over_tail_behind room under (list_tag found) bytes) (sym l.is) (elements_end room l.form bytes)
    | inr none ↦ ap past (none.read room below bytes) ∙ sym (none.walk room under bytes)
  ]

  behind_end : (room : ℕ) (found : Option Tag) (bytes : List ℕ) → past (item_behind room below found bytes) ≡ over_behind room under found bytes
  unfolding item_behind over_behind
  behind_end room None bytes = refl
  behind_end room (Some (tag.Tuple size)) bytes =
      same_end Tuple (arity_at size bytes >>= λ n. items_at below.item n.0 n.1) ∙ step (arity_at size bytes) (λ n. items_at below.item n.0 n.1) (λ n. over_all under.item n.0 n.1) (λ n. all_items_end n.0 n.1)
  behind_end room (Some (tag.List form)) bytes = same_end Listed (elements_behind room below form bytes) ∙ elements_end room form bytes
  behind_end room (Some (tag.Leaf form)) bytes = leaf_end form bytes

-- ---- levels

next_level : (room : ℕ) → Together (readers room) (walks room) → Together (readers (suc room)) (walks (suc room))
unfolding readers walks
next_level room t = record { item = item; tail = tail }
  where
    item : (bytes : List ℕ) → past (item_at (suc room) bytes) ≡ over_item (suc room) bytes
    item [] = refl
    item (tag ∷ bytes) = behind_end (readers room) (walks room) t room (tag_of tag) bytes

    tail : (bytes : List ℕ) → past (tail_at (suc room) bytes) ≡ over_tail (suc room) bytes
    tail [] = refl
    tail (tag ∷ bytes) = tail_behind_end (readers room) (walks room) t room (tag_of tag) bytes

no_level : Together (readers zero) (walks zero)
unfolding readers walks
no_level = record { item = item; tail = tail }
  where
    item : (bytes : List ℕ) → past (item_at zero bytes) ≡ over_item zero bytes
    item [] = refl
    item (b ∷ bytes) = refl

    tail : (bytes : List ℕ) → past (tail_at zero bytes) ≡ over_tail zero bytes
    tail [] = refl
    tail (b ∷ bytes) = refl

levels : (room : ℕ) → Together (readers room) (walks room)
levels zero = no_level
levels (suc room) = next_level room (levels room)

pub item_end : (room : ℕ) (bytes : List ℕ) → past (item_at room bytes) ≡ over_item room bytes
item_end room bytes = (levels room).item bytes

-- the fault of a term, and no fault where there is one
abbrev pub Judges : Result (List ℕ) TermFault → Result Term TermFault → Type 0
Judges (Ok rest) read = (t : Term) × (read ≡ Ok t)
Judges (Err e) read = read ≡ Err e

whole_judged : (b : Bool) (t : Term) (rest : List ℕ) → Judges (cond b (Ok rest) (Err TrailingBytes)) (cond b (Ok t) (Err TrailingBytes))
whole_judged true t rest = (t, refl)
whole_judged false t rest = refl

item_judged : (r : Read Term) → Judges (past r >>= λ rest. cond (eqb (length rest) 0) (Ok rest) (Err TrailingBytes)) (r >>= λ x. cond (eqb (length x.1) 0) (Ok x.0) (Err TrailingBytes))
item_judged (Ok x) = whole_judged (eqb (length x.1) 0) x.0 x.1
item_judged (Err e) = refl

version_judged : (b : Bool) (v : Result (List ℕ) TermFault) (r : Result Term TermFault) → Judges v r → Judges (cond b v (Err BadVersion)) (cond b r (Err BadVersion))
version_judged true v r h = h
version_judged false v r h = refl

-- a walk over all of the bytes tells whether they are read, or the fault
pub term_judged : (bytes : List ℕ) → Judges (over_term bytes) (term_of bytes)
unfolding over_term term_of
term_judged [] = refl
term_judged (version ∷ bytes) =
    let read = item_at 64 bytes in
    let P : Result (List ℕ) TermFault → Type 0 = λ v. Judges (v >>= λ rest. cond (eqb (length rest) 0) (Ok rest) (Err TrailingBytes)) (read >>= λ x. cond (eqb (length x.1) 0) (Ok x.0) (Err TrailingBytes)) in
    version_judged (eqb version 131) _ _ (subst P (item_end 64 bytes) (item_judged read))
