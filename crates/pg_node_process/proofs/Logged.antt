-- The law of logs, of src/laws.rt, and how a head is read back.
use Rattle.std.proofs.Common.{◌≡◌, ◌<◌, ◌≤◌, ◌^◌, ℕ, zero, suc, List, [], ◌∷◌, ◌++◌, Some, None, Ok, Option, Bool, false, map, ap, ◌∙◌, refl, length, length-append, arith, nat_eq, nat_lt, cond, lt-ltb, ne_eqb, drop, pos, rules, subst, ◌/◌, ◌%◌, if◌then◌else◌}
use Rattle.std.specs.List.{AllByRecursion, flat_map}
use Rattle.std.specs.Option.{option_map, option_and_then}
use Rattle.pg_frame.proofs.Readings.{written_is_read}
use Rattle.pg_frame.proofs.Fronts.{length-frame}
use Rattle.pg_frame.specs.Frames.{frame, front_of}
use Rattle.pg_frame.specs.Limits.{max_body}
use Rattle.pg_step.specs.PgMessageTypes.Parts.{atom_of, elements_of, items_of}
use Rattle.pg_step.specs.PgMessageTypes.Reading.{read_each}
use Rattle.pg_step.specs.PgTermIo.Reading.{term_of}
use Rattle.pg_step.specs.PgTermIo.Writing.{written, IsWritable}
use Rattle.pg_step.specs.PgTermIo.Spelling.{Spells}
use Rattle.pg_step.proofs.PgTermIo.Again.{term_again}
use Rattle.pg_term.specs.declared.term.Term.{Term, Tuple, List as Listed, the_lemmas}
use Rattle.pg_term.specs.declared.term.Term.TheVariants.{Int, Atom as Word, Binary as Bytes}
use Rattle.pg_node_requests.specs.Requests.{number_of}
use Rattle.pg_node_process.specs.Logs.{Entry, Read, Tried, Handed, Head, HeadIsRead, IsLoggable, LogsAreRead, binary_of, body_at, entries_in, entry_at, entry_bytes, head_bytes, head_framed, head_in, head_of_parts, head_read, head_spelled, head_term, in_format, mark_at, names_of, on_entry}

-- no length of a body begins with 255
low_head : (n : ℕ) → n ≤ 16777216 → nat_eq ((n / 16777216) % 256) 255 ≡ false
low_head n few = ne_eqb ((n / 16777216) % 256) 255 (λ e. omega (arith, few, e))

body_one : (body rest : List ℕ) → length body ≤ max_body → entry_at (frame body ++ rest) ≡ Some (Read body, rest)
unfolding frame
body_one body rest fits =
    ap (λ (b : Bool). cond b (mark_at (drop 1 (frame body ++ rest))) (body_at (frame body ++ rest) (front_of (frame body ++ rest)))) (low_head (length body) fits)
    ∙ (ap (body_at (frame body ++ rest)) (written_is_read.front body rest fits)
    ∙ ap (λ (others : List ℕ). Some (Read body, others)) (written_is_read.behind body rest fits))

one : (entry : Entry) (rest : List ℕ) → IsLoggable entry → entry_at (entry_bytes entry ++ rest) ≡ Some (entry, rest)
one (Read body) rest fits = body_one body rest fits
one (Tried port) rest fits = refl
one (Handed port) rest fits = refl

none_in : (n : ℕ) → entries_in n [] ≡ []
none_in zero = refl
none_in (suc n) = refl

all_in : (n : ℕ) (entries : List Entry) → AllByRecursion IsLoggable entries → length entries ≤ n → entries_in n (flat_map entry_bytes entries) ≡ entries
all_in n [] fits few = none_in n
all_in zero (entry ∷ entries) fits few = let none : ⊥ = omega (arith, few) in absurd none
all_in (suc n) (entry ∷ entries) fits few =
    ap (λ (found : Option (Entry × List ℕ)). on_entry found (λ entry rest. entry ∷ entries_in n rest)) (one entry (flat_map entry_bytes entries) fits.0)
    ∙ ap (λ (others : List Entry). entry ∷ others) (all_in n entries fits.1 (omega (arith, few)))

some_bytes : (entry : Entry) → 1 ≤ length (entry_bytes entry)
some_bytes (Read body) = omega (arith, length-frame body)
some_bytes (Tried port) = omega arith
some_bytes (Handed port) = omega arith

few_entries : (entries : List Entry) → length entries ≤ length (flat_map entry_bytes entries)
few_entries [] = omega arith
few_entries (entry ∷ entries) = let first = some_bytes entry in let others = few_entries entries in let both = length-append (entry_bytes entry) (flat_map entry_bytes entries) in omega (arith, first, others, both)

pub logs_are_read : LogsAreRead
logs_are_read = record {
  one = one;
  all = λ entries fits. all_in (length (flat_map entry_bytes entries)) entries fits (few_entries entries);
}

-- ---- the head

elements_is : (terms : List Term) → elements_of (Tuple terms) ≡ Some terms
elements_is terms = search (rules, the_lemmas)

items_is : (terms : List Term) → items_of (Listed terms) ≡ Some terms
items_is terms = search (rules, the_lemmas)

word_is : (name : List ℕ) → atom_of (Word name) ≡ Some name
word_is name = search (rules, the_lemmas)

binary_is : (bytes : List ℕ) → binary_of (Bytes bytes) ≡ Some bytes
binary_is bytes = search (rules, the_lemmas)

number_is : (bits n : ℕ) → number_of bits (Int (pos n)) ≡ (if nat_lt n (2 ^ bits) then Some n else None)
number_is bits n = search (rules, the_lemmas)

small_is : (bits n : ℕ) → n < 2 ^ bits → number_of bits (Int (pos n)) ≡ Some n
small_is bits n few = number_is bits n ∙ ap (λ (b : Bool). cond b (Some n) None) (lt-ltb n (2 ^ bits) few)

each_name : (names : List (List ℕ)) → read_each atom_of (map Word names) ≡ Some names
each_name [] = refl
each_name (name ∷ names) =
    ap (option_and_then (λ x. option_map (λ xs. x ∷ xs) (read_each atom_of (map Word names)))) (word_is name) ∙ ap (option_map (λ xs. name ∷ xs)) (each_name names)

names_is : (names : List (List ℕ)) → names_of (Listed (map Word names)) ≡ Some names
names_is names = ap (option_and_then (read_each atom_of)) (items_is (map Word names)) ∙ each_name names

-- each part is what it should be
parts_are : (head : Head) (format ports made : Option ℕ) (version own label : Option (List ℕ)) (peers : Option (List (List ℕ)))
    → format ≡ Some 1 → version ≡ Some head.version → own ≡ Some head.own → peers ≡ Some head.peers → ports ≡ Some head.ports → made ≡ Some head.made → label ≡ Some head.label
    → in_format format (head_of_parts version own peers ports made label) ≡ Some head
parts_are head format ports made version own label peers e1 e2 e3 e4 e5 e6 e7 = rw (e1, e2, e3, e4, e5, e6, e7) refl

parts_of : Head → List Term
parts_of head = Int (pos 1) ∷ Bytes head.version ∷ Word head.own ∷ Listed (map Word head.peers) ∷ Int (pos head.ports) ∷ Int (pos head.made) ∷ Bytes head.label ∷ []

term_back : (head : Head) → head.ports < 2 ^ 16 → head.made < 2 ^ 32 → head_spelled (Ok (head_term head)) ≡ Some head
unfolding parts_of
term_back head ports made =
    ap (option_and_then head_in) (elements_is (parts_of head))
    ∙ parts_are head _ _ _ _ _ _ _ (small_is 16 1 (omega arith)) (binary_is head.version) (word_is head.own) (names_is head.peers) (small_is 16 head.ports ports) (small_is 32 head.made made) (binary_is head.label)

head_back : (head : Head) (rest : List ℕ) → head.ports < 2 ^ 16 → head.made < 2 ^ 32 → length (written (head_term head)) ≤ max_body → term_of (written (head_term head)) ≡ Ok (head_term head)
    → head_read (head_bytes head ++ rest) ≡ Some head
head_back head rest ports made fits back = ap head_framed (written_is_read.front (written (head_term head)) rest fits) ∙ (ap head_spelled back ∙ term_back head ports made)

pub head_is_read : (head : Head) (term : Term) → term ≡ head_term head → head.ports < 2 ^ 16 → head.made < 2 ^ 32 → IsWritable term → Spells term (written term)
    → HeadIsRead head
head_is_read head term is ports made writable spelled rest =
    let fits : IsWritable (head_term head) = subst IsWritable is writable in
    let back : Spells (head_term head) (written (head_term head)) = subst (λ t. Spells t (written t)) is spelled in
    head_back head rest ports made (omega (arith, fits.short)) (term_again (head_term head) (written (head_term head)) back)
