-- How many pids a set has, where one more is put in.
use Rattle.std.proofs.Common.{◌≡◌, ◌⊎◌, inl, inr, ◌+◌, ◌-◌, ◌^◌, ℕ, Bool, true, false, ◌||◌, cond, List, [], ◌∷◌, length}
use Rattle.std.proofs.Common.{refl, sym, ap, subst, ◌∙◌, arith}
use Rattle.std.specs.Prelude.{min, not}
use Rattle.std.specs.BTreeMap.{is_at}
use Rattle.std.specs.BTreeSet.{insert_key}
use Rattle.std.specs.Cmp.{IsTotalOrder}
use Rattle.std.specs.List.{AllByRecursion, list_any}
use Rattle.std.specs.List.Sorted.{IsStrictlySortedBy}
use Rattle.std.specs.Ordering.{is_eq, match_ordering}
use Rattle.std.specs.declared.cmp.Ordering.{Ordering}
use Rattle.std.specs.declared.cmp.Ordering.TheVariants.{Less, Equal, Greater}
use Rattle.std.specs.Int.{from_bool}
use Rattle.pg_term.specs.declared.pid.Pid.{Pid}
use Rattle.pg_term.specs.Same.{pid_cmp}
use Rattle.pg_term.specs.contracts.pid.PidOrd.TheImpl.Laws as pid_laws
use Rattle.pg_group.specs.declared.ended.Ended.{Ended}
use Rattle.pg_group.specs.Ended.{IsEndedCount, ended_of, is_whole}
use Rattle.pg_group.specs.Ends.{AreCounted, has_pid}
use Rattle.pg_group.proofs.Ordered.{flop, none_above}

module _ {K : Type 0} {R : K → K → Ordering} (o : IsTotalOrder R) where
  all_put : (P : K → Type 0) (xs : List K) (k : K) → P k → AllByRecursion P xs → AllByRecursion P (insert_key R xs k)
  all_put P [] k p h = (p, tt)
  all_put P (x ∷ xs) k p h = go (R k x) (all_put P xs k p h.1)
    where
      go : (r : Ordering) → AllByRecursion P (insert_key R xs k) → AllByRecursion P (match_ordering r (k ∷ x ∷ xs) (x ∷ xs) (x ∷ insert_key R xs k))
      go Less g = (p, h)
      go Equal g = h
      go Greater g = (h.0, g)

  all_after : (k x : K) (xs : List K) → R k x ≡ Less → AllByRecursion (λ y. R x y ≡ Less) xs → AllByRecursion (λ y. R k y ≡ Less) xs
  all_after k x [] e h = tt
  all_after k x (y ∷ ys) e h = (o.trans k x y e h.0, all_after k x ys e h.1)

  -- it stays in order
  pub sorted_put : (xs : List K) (k : K) → IsStrictlySortedBy R xs → IsStrictlySortedBy R (insert_key R xs k)
  unfolding IsStrictlySortedBy
  sorted_put [] k h = (tt, tt)
  sorted_put (x ∷ xs) k h = go (R k x) refl (sorted_put xs k h.1)
    where
      go : (r : Ordering) → R k x ≡ r → IsStrictlySortedBy R (insert_key R xs k) → IsStrictlySortedBy R (match_ordering r (k ∷ x ∷ xs) (x ∷ xs) (x ∷ insert_key R xs k))
      go Less e g = ((e, all_after k x xs e h.0), h)
      go Equal e g = h
      go Greater e g = (all_put (λ y. R x y ≡ Less) xs k (flop o k x e) h.0, g)

  -- it has one more, where that was not there
  pub length_put : (xs : List K) (k : K) → IsStrictlySortedBy R xs → length (insert_key R xs k) ≡ length xs + cond (list_any (is_at (R k)) xs) 0 1
  unfolding IsStrictlySortedBy
  length_put [] k h = refl
  length_put (x ∷ xs) k h = go (R k x) refl (length_put xs k h.1)
    where
      go : (r : Ordering) → R k x ≡ r → length (insert_key R xs k) ≡ length xs + cond (list_any (is_at (R k)) xs) 0 1
          → length (match_ordering r (k ∷ x ∷ xs) (x ∷ xs) (x ∷ insert_key R xs k)) ≡ length (x ∷ xs) + cond (is_eq r || list_any (is_at (R k)) xs) 0 1
      go Less e g = omega (arith, ap {B = ℕ} (λ b. cond b 0 1) (none_above o xs k (all_after k x xs e h.0)))
      go Equal e g = omega arith
      go Greater e g = omega (arith, g)

-- ---- pids

pub none_counted : AreCounted [] 0
unfolding IsStrictlySortedBy
none_counted = record { ordered = tt; length = refl }

-- one more pid is counted where it was not there
pub one_counted : (old new : List Pid) (pid : Pid) (count more next : ℕ) → AreCounted old count → new ≡ insert_key pid_cmp old pid
    → more ≡ cond (has_pid old pid) 0 1 → next ≡ min (count + more) (2 ^ 64 - 1) → AreCounted new next
one_counted old new pid count more next h is added e = record {
  ordered = subst (IsStrictlySortedBy pid_cmp) (sym is) (sorted_put pid_laws.total-law old pid h.ordered);
  length = omega (arith, e, added, h.length, ap length is ∙ length_put pid_laws.total-law old pid h.ordered);
}

pub absent_from : (b c : Bool) → c ≡ b → from_bool (not c) ≡ cond b 0 1
absent_from true c e = ap {B = ℕ} (λ d. from_bool (not d)) e
absent_from false c e = ap {B = ℕ} (λ d. from_bool (not d)) e

-- those of a list and those of whole nodes have ended
pub counts_ended : (ended : Ended) (count : ℕ) → AreCounted ended.pids count → IsEndedCount (ended_of ended) count
counts_ended ended count counted = record {
  pids = ended.pids;
  counted = counted;
  each = λ pid h. among (is_whole ended pid.node) (has_pid ended.pids pid) h;
  all = λ pid h. either pid (is_whole ended pid.node) refl h;
}
  where
    among : (whole has : Bool) → has ≡ true → (whole || has) ≡ true
    among true has h = refl
    among false has h = h

    either : (pid : Pid) (whole : Bool) → is_whole ended pid.node ≡ whole → (whole || has_pid ended.pids pid) ≡ true
        → (has_pid ended.pids pid ≡ true) ⊎ ((other : Pid) → other.node ≡ pid.node → ended_of ended other ≡ true)
    either pid true e h = inr (λ other same. ap (λ b. b || has_pid ended.pids other) (ap (is_whole ended) same ∙ e))
    either pid false e h = inl h
