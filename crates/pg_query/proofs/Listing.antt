-- What is picked from lists of members, and names in another order.
use Rattle.std.proofs.Common.{◌≡◌, ℕ, suc, zero, ◌<◌, ◌%◌, Bool, true, false, cond, Some, None}
use Rattle.std.proofs.Common.{List, [], ◌∷◌, length, min, refl, sym, ap, ◌∙◌, inl, inr, arith}
use Rattle.std.specs.Prelude.{slice_get}
use Rattle.std.specs.List.Sorted.{IsPermutation}
use Rattle.std.proofs.lemmas.List.Sorted.{list_any-IsPermutation}
use Rattle.std.proofs.lemmas.Map.Keys.{IsDistinct-IsPermutation}
use Rattle.std.proofs.lemmas.Bool.{cases_lt}
use Rattle.std.proofs.Math.Nat.{mod-eq_of_lt}
use Rattle.pg_term.specs.declared.pid.Pid.{Pid}
use Rattle.pg_term.specs.declared.term.Term.{Term}
use Rattle.pg_term.specs.Same.{same_term}
use Rattle.pg_term.specs.contracts.term.TermEq.TheImpl.Laws as term_laws
use Rattle.pg_group.specs.Value.{Value, count_in}
use Rattle.pg_group.specs.Scope.{anywhere}
use Rattle.pg_group.specs.Members.{IsMemberList}
use Rattle.pg_group.specs.Table.{Table, AreNames}
use Rattle.pg_query.specs.Closest.{picked}

get_within : (xs : List Pid) (i : ℕ) → i < length xs → slice_get xs i ≡ None → ⊥
get_within [] i h e = omega arith
get_within (y ∷ ys) zero h e = cc
get_within (y ∷ ys) (suc i) h e = get_within ys i (omega arith) e

-- a group has one list of its members that pass a test
abbrev pub HasOneList : Value → (Pid → Bool) → Type 0
HasOneList v among = (pids others : List Pid) → IsMemberList v among pids → IsMemberList v among others → pids ≡ others

-- nothing is picked from an empty list alone
pub picked_none : (pids : List Pid) (word : ℕ) → None ≡ picked pids word → pids ≡ []
picked_none [] word e = refl
picked_none (pid ∷ pids) word e = absurd (get_within (pid ∷ pids) (word % length (pid ∷ pids)) (let n : 0 < length (pid ∷ pids) = omega arith in omega arith) (sym e))

module _ (v : Value) (among : Pid → Bool) (unique : HasOneList v among) where
  -- a group without members has none that pass a test
  pub nobody_among : (pids : List Pid) → IsMemberList v anywhere [] → IsMemberList v among pids → pids ≡ []
  nobody_among pids empty is = unique pids [] is (record { ordered = tt; each = λ pid. go (among pid) (count_in v pid) (empty.each pid) })
    where
      go : (b : Bool) (n : ℕ) → 0 ≡ n → 0 ≡ cond b n 0
      go true n e = e
      go false n e = refl

  pub picked_some : (pids : List Pid) (word : ℕ) (pid : Pid) → IsMemberList v anywhere [] → IsMemberList v among pids → Some pid ≡ picked pids word → ⊥
  picked_some pids word pid empty is at =
      let e : Some pid ≡ picked [] word = at ∙ ap (λ (l : List Pid). picked l word) (nobody_among pids empty is) in
      cc

-- the names in another order
pub names_sorted : (table : Table) (names sorted : List Term) → IsPermutation names sorted → AreNames table names → AreNames table sorted
names_sorted table names sorted moved are = record {
  each = λ name. sym (list_any-IsPermutation (same_term name) names sorted moved) ∙ are.each name;
  once = IsDistinct-IsPermutation same_term term_laws.laws-law.symm names sorted moved are.once;
}

-- a word of 32 bits picks the same by a size that stops at the greatest number of 64 bits
pub same_place : (word size all : ℕ) → word < 4294967296 → size ≡ min all 18446744073709551615 → word % size ≡ word % all
same_place word size all low is =
    elim (cases_lt all 18446744073709551616) [
      | inl fits ↦ let e : size ≡ all = omega arith in ap (λ n. word % n) e
      | inr long ↦ let a : word < size = omega arith in let b : word < all = omega arith in mod-eq_of_lt a ∙ sym (mod-eq_of_lt b)
    ]
