-- Members as a list: there is one, and it is read off the entries of an ordered map.
use Rattle.std.proofs.Common.{◌≡◌, ℕ, ◌+◌, Bool, false, cond, List, [], ◌∷◌, refl, sym, ap, ◌∙◌, arith}
use Rattle.std.specs.Prelude.{count_by}
use Rattle.std.specs.List.{AllByRecursion}
use Rattle.std.specs.Ordering.{is_gt, is_eq, ordering_reverse}
use Rattle.std.specs.declared.cmp.Ordering.{Ordering}
use Rattle.std.specs.declared.cmp.Ordering.TheVariants.{Less, Equal, Greater}
use Rattle.std.proofs.lemmas.List.Sums.{sum_by-cons}
use Rattle.pg_term.specs.declared.pid.Pid.{Pid}
use Rattle.pg_term.specs.Same.{same_pid, pid_cmp}
use Rattle.pg_term.specs.contracts.pid.PidOrd.TheImpl.Laws as order_laws
use Rattle.pg_term.specs.contracts.pid.PidEq.TheImpl.Laws as equality_laws
use Rattle.pg_term.proofs.Same.{pid_is}
use Rattle.pg_group.specs.Value.{Value}
use Rattle.pg_group.specs.Members.{IsInOrder, IsMemberList}

pub counted : (q x : Pid) (xs : List Pid) → count_by (same_pid q) (x ∷ xs) ≡ cond (same_pid q x) 1 0 + count_by (same_pid q) xs
counted q x xs = sum_by-cons (λ y. cond (same_pid q y) 1 0) x xs

pub counted_first : (x : Pid) (xs : List Pid) → count_by (same_pid x) (x ∷ xs) ≡ 1 + count_by (same_pid x) xs
counted_first x xs = counted x x xs ∙ ap (λ b. cond b 1 0 + count_by (same_pid x) xs) (equality_laws.laws-law.refl x)

-- ---- there is one list

-- a pid that is below all of a list is not in it
less_is_other : (x y : Pid) → pid_cmp x y ≡ Less → same_pid x y ≡ false
less_is_other x y e = order_laws.matches_eq-law x y ∙ ap is_eq e

not_greater : (o : Ordering) → o ≡ Less → is_gt o ≡ false
not_greater o e = ap is_gt e

below_none : (x : Pid) (ys : List Pid) → AllByRecursion (λ y. pid_cmp x y ≡ Less) ys → count_by (same_pid x) ys ≡ 0
below_none x [] h = refl
below_none x (y ∷ ys) h = counted x y ys ∙ (λ i. cond (less_is_other x y h.0 i) 1 0 + below_none x ys h.1 i) ∙ omega arith

below_step : (x y z : Pid) → pid_cmp x y ≡ Less → is_gt (pid_cmp y z) ≡ false → pid_cmp x z ≡ Less
below_step x y z e h = go (pid_cmp y z) refl h
  where
    go : (o : Ordering) → pid_cmp y z ≡ o → is_gt o ≡ false → pid_cmp x z ≡ Less
    go Less f g = order_laws.total-law.trans x y z e f
    go Equal f g = ap (pid_cmp x) (sym (pid_is y z (order_laws.matches_eq-law y z ∙ ap is_eq f))) ∙ e
    go Greater f g = absurd cc

below_all : (x y : Pid) (ys : List Pid) → pid_cmp x y ≡ Less → AllByRecursion (λ z. is_gt (pid_cmp y z) ≡ false) ys → AllByRecursion (λ z. pid_cmp x z ≡ Less) ys
below_all x y [] e h = tt
below_all x y (z ∷ zs) e h = (below_step x y z e h.0, below_all x y zs e h.1)

-- two lists in order do not differ in their first pid, if they have it equally often
not_below : (x : Pid) (xs : List Pid) (y : Pid) (ys : List Pid) → IsInOrder (y ∷ ys) → count_by (same_pid x) (x ∷ xs) ≡ count_by (same_pid x) (y ∷ ys) → pid_cmp x y ≡ Less → ⊥
not_below x xs y ys h same e =
    let none : count_by (same_pid x) (y ∷ ys) ≡ 0 = below_none x (y ∷ ys) (e, below_all x y ys e h.0) in
    let some : count_by (same_pid x) (x ∷ xs) ≡ 1 + count_by (same_pid x) xs = counted_first x xs in
    omega arith

turned : (x y : Pid) → pid_cmp x y ≡ Greater → pid_cmp y x ≡ Less
turned x y e = order_laws.total-law.antisymm y x ∙ ap ordering_reverse e

one_first : (x : Pid) (xs : List Pid) (y : Pid) (ys : List Pid) → IsInOrder (x ∷ xs) → IsInOrder (y ∷ ys) → ((q : Pid) → count_by (same_pid q) (x ∷ xs) ≡ count_by (same_pid q) (y ∷ ys)) → x ≡ y
one_first x xs y ys g h same = go (pid_cmp x y) refl
  where
    go : (o : Ordering) → pid_cmp x y ≡ o → x ≡ y
    go Less e = absurd (not_below x xs y ys h (same x) e)
    go Equal e = pid_is x y (order_laws.matches_eq-law x y ∙ ap is_eq e)
    go Greater e = absurd (not_below y ys x xs g (sym (same y)) (turned x y e))

pub in_order_one : (xs ys : List Pid) → IsInOrder xs → IsInOrder ys → ((q : Pid) → count_by (same_pid q) xs ≡ count_by (same_pid q) ys) → xs ≡ ys
in_order_one [] [] g h same = refl
in_order_one [] (y ∷ ys) g h same = absurd (let e = counted_first y ys in let f : 0 ≡ count_by (same_pid y) (y ∷ ys) = same y in omega arith)
in_order_one (x ∷ xs) [] g h same = absurd (let e = counted_first x xs in let f : count_by (same_pid x) (x ∷ xs) ≡ 0 = same x in omega arith)
in_order_one (x ∷ xs) (y ∷ ys) g h same =
    let first : x ≡ y = one_first x xs y ys g h same in
    let rest : xs ≡ ys = in_order_one xs ys g.1 h.1 (λ q. tails q (cond (same_pid q x) 1 0) (cond (same_pid q y) 1 0) (ap (λ (p : Pid). cond (same_pid q p) 1 0) first) (sym (counted q x xs) ∙ same q ∙ counted q y ys)) in
    λ i. first i ∷ rest i
  where
    tails : (q : Pid) (m n : ℕ) → m ≡ n → m + count_by (same_pid q) xs ≡ n + count_by (same_pid q) ys → count_by (same_pid q) xs ≡ count_by (same_pid q) ys
    tails q m n e f = omega arith

pub member_list_one : (v : Value) (among : Pid → Bool) (xs ys : List Pid) → IsMemberList v among xs → IsMemberList v among ys → xs ≡ ys
member_list_one v among xs ys g h = in_order_one xs ys g.ordered h.ordered (λ q. g.each q ∙ sym (h.each q))
