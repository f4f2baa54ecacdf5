-- One level of a walk, and things one after the other.
use Rattle.std.proofs.Common.{◌≡◌, ℕ, zero, suc, ◌-◌, ◌+◌, ◌<◌, ◌≤◌, List, [], ◌∷◌, length}
use Rattle.std.proofs.Common.{get_or, take, drop, Result, Ok, Err, refl, sym, ap, ◌∙◌, arith}
use Rattle.std.proofs.Math.Seq.{take-length}
use Rattle.pg_term.specs.declared.fault.TermFault.{TermFault}
use Rattle.pg_term.specs.declared.fault.TermFault.TheVariants.{Truncated, TooDeep}
use Rattle.pg_term_io.specs.Reading.{◌>>=◌, bytes_at, named_at}
use Rattle.pg_term_io.specs.Tags.{tag_of, list_tag}
use Rattle.pg_term_io.specs.Scanning.{past, Walk, over_all, over_behind, over_tail_behind, walks, over_item, over_tail}

-- ---- one level

pub item-nothing : (room : ℕ) (bytes : List ℕ) → length bytes < 1 → over_item room bytes ≡ Err Truncated
unfolding walks
item-nothing zero [] h = refl
item-nothing (suc room) [] h = refl
item-nothing room (tag ∷ bytes) h = absurd (omega arith)

pub tail-nothing : (room : ℕ) (bytes : List ℕ) → length bytes < 1 → over_tail room bytes ≡ Err Truncated
unfolding walks
tail-nothing zero [] h = refl
tail-nothing (suc room) [] h = refl
tail-nothing room (tag ∷ bytes) h = absurd (omega arith)

pub item-deep : (room : ℕ) (bytes : List ℕ) → 1 ≤ length bytes → room ≡ 0 → over_item room bytes ≡ Err TooDeep
unfolding walks
item-deep room [] h e = absurd (omega arith)
item-deep room (tag ∷ bytes) h e = rw e refl

pub tail-deep : (room : ℕ) (bytes : List ℕ) → 1 ≤ length bytes → room ≡ 0 → over_tail room bytes ≡ Err TooDeep
unfolding walks
tail-deep room [] h e = absurd (omega arith)
tail-deep room (tag ∷ bytes) h e = rw e refl

pub item-more : (room : ℕ) (bytes : List ℕ) → 1 ≤ length bytes → (room ≡ 0 → ⊥) → over_item room bytes ≡ over_behind (room - 1) (walks (room - 1)) (tag_of (get_or bytes 0 0)) (take (length bytes - 1) (drop 1 bytes))
unfolding walks
item-more room [] h e = absurd (omega arith)
item-more zero (tag ∷ bytes) h e = absurd (e refl)
item-more (suc room) (tag ∷ bytes) h e = let k : suc room - 1 ≡ room = omega arith in let n : length (tag ∷ bytes) - 1 ≡ length bytes = omega arith in rw (k, n, take-length bytes) refl

pub tail-more : (room : ℕ) (bytes : List ℕ) → 1 ≤ length bytes → (room ≡ 0 → ⊥) → over_tail room bytes ≡ over_tail_behind (room - 1) (walks (room - 1)) (list_tag (tag_of (get_or bytes 0 0))) (take (length bytes - 1) (drop 1 bytes))
unfolding walks
tail-more room [] h e = absurd (omega arith)
tail-more zero (tag ∷ bytes) h e = absurd (e refl)
tail-more (suc room) (tag ∷ bytes) h e = let k : suc room - 1 ≡ room = omega arith in let n : length (tag ∷ bytes) - 1 ≡ length bytes = omega arith in rw (k, n, take-length bytes) refl

-- ---- one after the other

module _ (walk : Walk) (count i : ℕ) (bytes : List ℕ) (total : Result (List ℕ) TermFault) where
  pub goes_on : (after : List ℕ) → i < count → walk bytes ≡ Ok after → over_all walk (count - i) bytes ≡ total → over_all walk (count - (i + 1)) after ≡ total
  unfolding over_all
  goes_on after lt h so_far =
      let k : count - i ≡ suc (count - (i + 1)) = omega arith in
      let one : over_all walk (count - i) bytes ≡ over_all walk (count - (i + 1)) after = rw (k, h) refl in
      sym one ∙ so_far

  pub stops : (e : TermFault) → i < count → walk bytes ≡ Err e → over_all walk (count - i) bytes ≡ total → total ≡ Err e
  unfolding over_all
  stops e lt h so_far =
      let k : count - i ≡ suc (count - (i + 1)) = omega arith in
      let one : over_all walk (count - i) bytes ≡ Err e = rw (k, h) refl in
      sym so_far ∙ one

  pub is_done : count ≤ i → over_all walk (count - i) bytes ≡ total → total ≡ Ok bytes
  unfolding over_all
  is_done le so_far =
      let k : count - i ≡ 0 = omega arith in
      let one : over_all walk (count - i) bytes ≡ Ok bytes = rw k refl in
      sym so_far ∙ one

-- ---- texts

pub name_past : (name : List ℕ → Result (List ℕ) TermFault) (n : ℕ) (bytes text rest a : List ℕ) → bytes_at n bytes ≡ Ok (text, rest) → name text ≡ Ok a → past (named_at name n bytes) ≡ Ok rest
unfolding named_at
name_past name n bytes text rest a h k = rw h (ap (λ (r : Result (List ℕ) TermFault). past (r >>= λ atom. Ok (atom, rest))) k)
