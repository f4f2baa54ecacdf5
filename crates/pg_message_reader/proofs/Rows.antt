-- Values that stand one after the other, read by a loop, and the lists of them.
use Rattle.std.proofs.Common.{◌≡◌, ℕ, suc, ◌-◌, ◌+◌, ◌<◌, ◌≤◌, Bool, true, List, [], ◌∷◌, ◌++◌, map, Ok, ap, ◌∙◌, arith}
use Rattle.std.specs.Prelude.{◌&&◌}
use Rattle.std.specs.List.{list_all}
use Rattle.std.proofs.lemmas.List.{map-append, append-nil}
use Rattle.std.proofs.lemmas.List.Folds.{list_all-append}
use Rattle.pg_term.specs.declared.term.Term.{Term, List as Listed}
use Rattle.pg_term_io.specs.Reading.{Read, ◌>>=◌, readers, item_behind, elements_behind}
use Rattle.pg_term_io.specs.Reading.{list_at, items_at, item_at, tail_at, with_front}
use Rattle.pg_term_io.proofs.Again.{word_again}
use Rattle.pg_term_io.proofs.Loop.{goes_on, is_done}
use Rattle.pg_message_reader.specs.Standing.{Stands, IsListHead}
use Rattle.pg_message_reader.proofs.Standing.{more_items, no_items}

module _ {A : Type 0} (make : A → Term) (read : List ℕ → Read Term) (count : ℕ) where
  module _ (xs : List A) (i : ℕ) (bytes : List ℕ) (total : Read (List Term)) where
    pub row_goes_on : (x : A) (after : List ℕ) → i < count → read bytes ≡ Ok (make x, after) → with_front (map make xs) (items_at read (count - i) bytes) ≡ total
        → with_front (map make (xs ++ x ∷ [])) (items_at read (count - (i + 1)) after) ≡ total
    row_goes_on x after lt h so_far =
        ap (λ (front : List Term). with_front front (items_at read (count - (i + 1)) after)) (map-append make xs (x ∷ []))
        ∙ goes_on read (map make xs) count i bytes (make x) after total lt h so_far

    pub row_is_done : count ≤ i → with_front (map make xs) (items_at read (count - i) bytes) ≡ total → total ≡ Ok (map make xs, bytes)
    row_is_done le so_far = is_done read (map make xs) count i bytes total le so_far

-- one more passes
pub all_with : {A : Type 0} (test : A → Bool) (xs : List A) (x : A) → list_all test xs ≡ true → test x ≡ true → list_all test (xs ++ x ∷ []) ≡ true
all_with test xs x before passes = list_all-append test xs (x ∷ []) ∙ (λ i. before i && (passes i && true))

-- ---- lists

module _ (room : ℕ) where
  pub nil_stands : (bytes rest : List ℕ) → bytes ≡ 106 ∷ rest → Stands room (Listed []) bytes rest
  unfolding readers item_behind elements_behind
  nil_stands bytes rest e = ap (item_at (suc room)) e

  pub list_stands : (ts : List Term) (count : ℕ) (bytes mid end rest : List ℕ) → IsListHead count bytes mid → items_at (item_at (suc room)) count mid ≡ Ok (ts, end) → end ≡ 106 ∷ rest → Stands (suc room) (Listed ts) bytes rest
  unfolding readers item_behind elements_behind list_at
  list_stands ts count bytes mid end rest head h e =
      let tail : List Term × List ℕ → Read (List Term) = λ items. tail_at (suc room) items.1 >>= λ tail. Ok (items.0 ++ tail.0, tail.1) in
      let listed : Read (List Term) → Read Term = λ r. r >>= λ x. Ok (Listed x.0, x.1) in
      ap (item_at (suc (suc room))) head.head
      ∙ ap (λ (r : Read ℕ). listed (r >>= λ n. items_at (item_at (suc room)) n.0 n.1 >>= tail)) head.count_first
      ∙ ap (λ (r : Read (List Term)). listed (r >>= tail)) h
      ∙ ap (λ (x : List ℕ). listed (tail (ts, x))) e
      ∙ ap (λ (us : List Term). Ok (Listed us, rest)) (append-nil ts)

  -- a list of two
  pub pair_listed : (a b : Term) (bytes mid then end rest : List ℕ) → bytes ≡ 108 ∷ 0 ∷ 0 ∷ 0 ∷ 2 ∷ mid → Stands room a mid then → Stands room b then end → end ≡ 106 ∷ rest → Stands (suc room) (Listed (a ∷ b ∷ [])) bytes rest
  pair_listed a b bytes mid then end rest e h k l =
      let read = item_at (suc room) in
      let two : IsListHead 2 bytes mid = record { behind = 0 ∷ 0 ∷ 0 ∷ 2 ∷ mid; head = e; count_first = word_again 2 mid (omega arith) } in
      list_stands (a ∷ b ∷ []) 2 bytes mid end rest two (more_items read 1 a (b ∷ []) mid then end h (more_items read 0 b [] then end end k (no_items read end))) l
