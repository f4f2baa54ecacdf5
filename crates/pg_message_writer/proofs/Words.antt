-- Words as atoms, and tuples and lists of few elements.
use Rattle.std.proofs.Common.{◌≡◌, ℕ, ℤ, ◌+◌, ◌≤◌, Bool, true, cond, List, [], ◌∷◌, ◌++◌}
use Rattle.std.proofs.Common.{length, length-append, append_assoc, ap, ◌∙◌, arith, rules}
use Rattle.std.specs.Int.{w16, to_be_bytes}
use Rattle.std.proofs.lemmas.Bool.{lt-ltb}
use Rattle.pg_term.specs.declared.pid.Pid.{Pid}
use Rattle.pg_term.specs.RefParts.{RefParts}
use Rattle.pg_term.specs.declared.term.Term.{Term, Tuple, List as Listed, the_lemmas}
use Rattle.pg_term.specs.declared.term.Term.TheVariants.{Int, Atom, Ref, Pid as Process}
use Rattle.pg_message_types.specs.PgTermIo.Writing.{list_head, item_bytes, int_bytes, atom_bytes}
use Rattle.pg_message_types.specs.PgTermIo.Writing.{pid_bytes, reference_bytes, tagged_text}
use Rattle.std.proofs.lemmas.List.{append-nil}
use Rattle.pg_message_types.proofs.PgTermIo.Written.{list_is}
use Rattle.pg_message_types.specs.Writing.{pair, triple, is_plain}
use Rattle.pg_message_types.proofs.Words.{plain_text}

-- what holds no terms
pub int_is : (n : ℤ) → item_bytes (Int n) ≡ int_bytes n
int_is n = search (rules, the_lemmas)

pub atom_is : (a : List ℕ) → item_bytes (Atom a) ≡ atom_bytes a
atom_is a = search (rules, the_lemmas)

pub pid_is : (p : Pid) → item_bytes (Process p) ≡ pid_bytes p
pid_is p = search (rules, the_lemmas)

pub reference_is : (r : RefParts) → item_bytes (Ref r) ≡ reference_bytes r
reference_is r = search (rules, the_lemmas)

pub pair_bytes : (a b : Term) → item_bytes (pair a b) ≡ 104 ∷ 2 ∷ (item_bytes a ++ (item_bytes b ++ []))
pair_bytes a b = search (rules, the_lemmas)

pub triple_bytes : (a b c : Term) → item_bytes (triple a b c) ≡ 104 ∷ 3 ∷ (item_bytes a ++ (item_bytes b ++ (item_bytes c ++ [])))
triple_bytes a b c = search (rules, the_lemmas)

pub pair_len : (a b : Term) → length (item_bytes (Tuple (a ∷ b ∷ []))) ≡ 2 + length (item_bytes a) + length (item_bytes b)
pair_len a b = omega (arith, ap length (pair_bytes a b), length-append (item_bytes a) (item_bytes b ++ []), length-append (item_bytes b) [])

pub triple_len : (a b c : Term) → length (item_bytes (Tuple (a ∷ b ∷ c ∷ []))) ≡ 2 + length (item_bytes a) + length (item_bytes b) + length (item_bytes c)
triple_len a b c = omega (arith, ap length (triple_bytes a b c), length-append (item_bytes a) (item_bytes b ++ (item_bytes c ++ [])), length-append (item_bytes b) (item_bytes c ++ []), length-append (item_bytes c) [])

-- a word as an atom
pub word_bytes : (w : List ℕ) → is_plain w ≡ true → length w ≤ 255 → item_bytes (Atom w) ≡ 119 ∷ length w ∷ w
unfolding atom_bytes
word_bytes w e few = atom_is w ∙ ap tagged_text (plain_text w e) ∙ ap (λ (b : Bool). cond b (119 ∷ length w ∷ w) (118 ∷ to_be_bytes w16 (length w) ++ w)) (lt-ltb (length w) 256 (omega arith))

pub word_len : (w : List ℕ) → is_plain w ≡ true → length w ≤ 255 → length (item_bytes (Atom w)) ≡ 2 + length w
word_len w e few = omega (arith, ap length (word_bytes w e few))

-- a list of two
pub two_bytes : (a b : Term) → item_bytes (Listed (a ∷ b ∷ [])) ≡ list_head 2 ++ (item_bytes a ++ (item_bytes b ++ (106 ∷ [])))
two_bytes a b = list_is (a ∷ b ∷ []) ∙ regrouped (list_head 2) (item_bytes a) (item_bytes b)
  where
    regrouped : (h x y : List ℕ) → (h ++ (x ++ (y ++ []))) ++ 106 ∷ [] ≡ h ++ (x ++ (y ++ (106 ∷ [])))
    regrouped h x y = simp (append_assoc, append-nil)

pub two_len : (a b : Term) → length (item_bytes (Listed (a ∷ b ∷ []))) ≡ 6 + length (item_bytes a) + length (item_bytes b)
two_len a b =
    let y = item_bytes b ++ (106 ∷ []) in
    omega (arith, ap length (two_bytes a b), length-append (list_head 2) (item_bytes a ++ y), length-append (item_bytes a) y, length-append (item_bytes b) (106 ∷ []))
