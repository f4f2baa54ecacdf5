-- The bytes of a list whose elements are made from values.
use Rattle.std.proofs.Common.{◌≡◌, ℕ, zero, suc, ◌+◌, ◌<◌, ◌≤◌, Bool, true, false, List, [], ◌∷◌, ◌++◌}
use Rattle.std.proofs.Common.{length, length-append, get_or, map, take, refl, sym, ap, ◌∙◌, arith}
use Rattle.std.specs.List.{list_all}
use Rattle.std.specs.Prelude.{◌&&◌}
use Rattle.std.proofs.Math.ListN.{length-map}
use Rattle.std.proofs.lemmas.List.{get_or-map, take_all, take_more}
use Rattle.pg_term.specs.declared.term.Term.{Term, List as Listed}
use Rattle.pg_message_types.specs.PgTermIo.Writing.{item_bytes, all_bytes, list_head, IsSpelled, AreSpelled}
use Rattle.pg_message_types.proofs.PgTermIo.Written.{list_is, bytes_more, len_more, part_fits}
use Rattle.pg_message_types.proofs.PgTermIo.Spelled.{spelled_more}

module _ {A : Type 0} (f : A → Term) (xs : List A) where
  -- all of them
  pub all_taken : (i : ℕ) → i ≡ length xs → take i (map f xs) ≡ map f xs
  all_taken i e = take_all i (map f xs) (omega (arith, length-map xs f))

  -- how many bytes the list takes
  pub made_len : length (item_bytes (Listed (map f xs))) ≡ length (list_head (length xs)) + length (all_bytes (map f xs)) + 1
  made_len =
      let b = all_bytes (map f xs) in
      let n = length (map f xs) in
      omega (arith, ap length (list_is (map f xs)), length-append (list_head n ++ b) (106 ∷ []), length-append (list_head n) b, ap (λ (m : ℕ). length (list_head m)) (length-map xs f))

  module _ (i : ℕ) (x : A) (h : i < length xs) (is : x ≡ get_or xs i x) where
    within : i < length (map f xs)
    within = omega (arith, length-map xs f)

    here : f x ≡ get_or (map f xs) i (f x)
    here = ap f is ∙ sym (get_or-map f xs i x (f x) h)

    pub part_bytes : all_bytes (take (i + 1) (map f xs)) ≡ all_bytes (take i (map f xs)) ++ item_bytes (f x)
    part_bytes = bytes_more (map f xs) i (f x) within here

    pub part_len : length (all_bytes (take (i + 1) (map f xs))) ≡ length (all_bytes (take i (map f xs))) + length (item_bytes (f x))
    part_len = len_more (map f xs) i (f x) within here

    pub part_room : length (all_bytes (take i (map f xs))) + length (item_bytes (f x)) ≤ length (all_bytes (map f xs))
    part_room = part_fits (map f xs) i (f x) within here

    pub part_spelled : AreSpelled (take i (map f xs)) → IsSpelled (f x) → AreSpelled (take (i + 1) (map f xs))
    part_spelled = spelled_more (map f xs) i (f x) within here

module _ {A : Type 0} (test : A → Bool) where
  all_push : (xs : List A) (x : A) → list_all test (xs ++ x ∷ []) ≡ list_all test xs && test x
  all_push [] x = and_true (test x)
    where
      and_true : (b : Bool) → b && true ≡ b
      and_true true = refl
      and_true false = refl
  all_push (y ∷ ys) x = ap (λ (b : Bool). test y && b) (all_push ys x) ∙ sym (assoc (test y) (list_all test ys) (test x))
    where
      assoc : (a b c : Bool) → (a && b) && c ≡ a && (b && c)
      assoc true b c = refl
      assoc false b c = refl

  -- one more passes
  pub all_more : (xs : List A) (i : ℕ) (x : A) → i < length xs → x ≡ get_or xs i x → test x ≡ true → list_all test (take i xs) ≡ true → list_all test (take (i + 1) xs) ≡ true
  all_more xs i x h is pass before =
      ap (list_all test) (take_more xs i x h ∙ ap (λ (y : A). take i xs ++ y ∷ []) (sym is)) ∙ all_push (take i xs) x ∙ (λ k. before k && pass k)

  -- one that does not pass
  pub not_all : (xs : List A) (i : ℕ) (x : A) → i < length xs → x ≡ get_or xs i x → test x ≡ false → list_all test xs ≡ false
  not_all [] i x h is fails = absurd (omega arith)
  not_all (y ∷ ys) zero x h is fails = ap (λ (b : Bool). b && list_all test ys) (ap test (sym is) ∙ fails)
  not_all (y ∷ ys) (suc i) x h is fails = ap (λ (b : Bool). test y && b) (not_all ys i x (omega arith) is fails) ∙ and_false (test y)
    where
      and_false : (b : Bool) → b && false ≡ false
      and_false true = refl
      and_false false = refl
