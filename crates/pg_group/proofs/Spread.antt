-- The entries of a group's members, read as a list of pids.
use Rattle.std.proofs.Common.{◌≡◌, ℕ, ◌+◌, ◌-◌, ◌<◌, ◌≤◌, Bool, true, false, cond, Option, Some, None, List, []}
use Rattle.std.proofs.Common.{◌∷◌, ◌++◌, length, refl, sym, ap, subst, ◌∙◌, arith, append_assoc, append-nil}
use Rattle.std.specs.Prelude.{count_by, slice_get, unwrap_or}
use Rattle.std.specs.List.{AllByRecursion}
use Rattle.std.specs.Map.{lookup, keys_of}
use Rattle.std.specs.BTreeMap.{is_at, IsOrdered}
use Rattle.std.specs.Ordering.{is_gt, is_eq}
use Rattle.std.specs.declared.cmp.Ordering.TheVariants.{Less}
use Rattle.std.specs.List.Sorted.{IsStrictlySortedBy}
use Rattle.std.proofs.lemmas.Map.Keys.{sorted_head, sorted_tail}
use Rattle.pg_term.specs.declared.pid.Pid.{Pid}
use Rattle.pg_term.specs.Same.{same_pid, pid_cmp}
use Rattle.pg_term.specs.contracts.pid.PidOrd.TheImpl.Laws as order_laws
use Rattle.pg_term.proofs.Same.{pid_is}
use Rattle.pg_group.specs.Scope.{anywhere}
use Rattle.pg_group.specs.Members.{IsInOrder, IsMemberList, put}
use Rattle.pg_group.specs.Counted.{CountMap, counts_in}
use Rattle.pg_group.proofs.Put.{length-put, get-put_low, get-put_high, all-put, ordered-put, count-put, put-append}

-- the pids that pass a test, each as often as its count
abbrev pub spread : (Pid → Bool) → List (Pid × ℕ) → List Pid
spread among [] = []
spread among (e ∷ es) = put (cond (among e.0) e.1 0) e.0 (spread among es)

module _ (among : Pid → Bool) where
  -- ---- one entry more

  pub length-spread : (pid : Pid) (n : ℕ) (es : List (Pid × ℕ)) → length (spread among ((pid, n) ∷ es)) ≡ cond (among pid) n 0 + length (spread among es)
  length-spread pid n es = length-put (cond (among pid) n 0) pid (spread among es)

  pub get-spread_other : (pid : Pid) (n : ℕ) (es : List (Pid × ℕ)) (i : ℕ) → among pid ≡ false → slice_get (spread among ((pid, n) ∷ es)) i ≡ slice_get (spread among es) i
  get-spread_other pid n es i e = ap (λ b. slice_get (put (cond b n 0) pid (spread among es)) i) e

  pub get-spread_low : (pid : Pid) (n : ℕ) (es : List (Pid × ℕ)) (i : ℕ) → among pid ≡ true → i < n → slice_get (spread among ((pid, n) ∷ es)) i ≡ Some pid
  get-spread_low pid n es i e h = ap (λ b. slice_get (put (cond b n 0) pid (spread among es)) i) e ∙ get-put_low n pid (spread among es) i h

  pub get-spread_high : (pid : Pid) (n : ℕ) (es : List (Pid × ℕ)) (i : ℕ) → among pid ≡ true → n ≤ i → slice_get (spread among ((pid, n) ∷ es)) i ≡ slice_get (spread among es) (i - n)
  get-spread_high pid n es i e h = ap (λ b. slice_get (put (cond b n 0) pid (spread among es)) i) e ∙ get-put_high n pid (spread among es) i h

  -- ---- the members of a group

  all-spread : (P : Pid → Type 0) (es : List (Pid × ℕ)) → AllByRecursion P (keys_of es) → AllByRecursion P (spread among es)
  all-spread P [] h = tt
  all-spread P (e ∷ es) h = all-put P (cond (among e.0) e.1 0) e.0 (spread among es) h.0 (all-spread P es h.1)

  not_greater : (x : Pid) (ks : List Pid) → AllByRecursion (λ y. pid_cmp x y ≡ Less) ks → AllByRecursion (λ y. is_gt (pid_cmp x y) ≡ false) ks
  not_greater x [] h = tt
  not_greater x (k ∷ ks) h = (ap is_gt h.0, not_greater x ks h.1)

  ordered-spread : (es : List (Pid × ℕ)) → IsStrictlySortedBy pid_cmp (keys_of es) → IsInOrder (spread among es)
  ordered-spread [] h = tt
  ordered-spread (e ∷ es) h =
      ordered-put (cond (among e.0) e.1 0) e.0 (spread among es)
      (all-spread (λ later. is_gt (pid_cmp e.0 later) ≡ false) es (not_greater e.0 (keys_of es) (sorted_head pid_cmp e.0 (keys_of es) h)))
      (ordered-spread es (sorted_tail pid_cmp e.0 (keys_of es) h))

  none_later : (x : Pid) (es : List (Pid × ℕ)) → AllByRecursion (λ y. pid_cmp x y ≡ Less) (keys_of es) → lookup (is_at (pid_cmp x)) es ≡ None
  none_later x [] h = refl
  none_later x (e ∷ es) h = ap (λ o. cond (is_eq o) (Some e.1) (lookup (is_at (pid_cmp x)) es)) h.0 ∙ none_later x es h.1

  count-spread : (q : Pid) (es : List (Pid × ℕ)) → IsStrictlySortedBy pid_cmp (keys_of es) → count_by (same_pid q) (spread among es) ≡ cond (among q) (unwrap_or (lookup (is_at (pid_cmp q)) es) 0) 0
  count-spread q [] h = go (among q)
    where
      go : (b : Bool) → ◌≡◌ {A = ℕ} 0 (cond b 0 0)
      go true = refl
      go false = refl
  count-spread q (e ∷ es) h =
      count-put q (cond (among e.0) e.1 0) e.0 (spread among es) ∙ ap (λ c. cond (same_pid q e.0) (cond (among e.0) e.1 0) 0 + c) (count-spread q es (sorted_tail pid_cmp e.0 (keys_of es) h))
      ∙ go (same_pid q e.0) refl ∙ ap (λ b. cond (among q) (unwrap_or (cond b (Some e.1) (lookup (is_at (pid_cmp q)) es)) 0) 0) (order_laws.matches_eq-law q e.0)
    where
      nothing : (b : Bool) → ◌≡◌ {A = ℕ} (cond b 0 0) 0
      nothing true = refl
      nothing false = refl

      go : (b : Bool) → same_pid q e.0 ≡ b → cond b (cond (among e.0) e.1 0) 0 + cond (among q) (unwrap_or (lookup (is_at (pid_cmp q)) es) 0) 0 ≡ cond (among q) (unwrap_or (cond b (Some e.1) (lookup (is_at (pid_cmp q)) es)) 0) 0
      go true t =
          let one : e.0 ≡ q = sym (pid_is q e.0 t) in
          let gone : lookup (is_at (pid_cmp q)) es ≡ None = subst (λ (p : Pid). lookup (is_at (pid_cmp p)) es ≡ None) one (none_later e.0 es (sorted_head pid_cmp e.0 (keys_of es) h)) in
          let none : cond (among q) (unwrap_or (lookup (is_at (pid_cmp q)) es) 0) 0 ≡ 0 = ap (λ o. cond (among q) (unwrap_or o 0) 0) gone ∙ nothing (among q) in
          let here : cond (among e.0) e.1 0 ≡ cond (among q) e.1 0 = ap (λ p. cond (among p) e.1 0) one in
          omega arith
      go false t = omega arith

  -- the entries of an ordered map are a group's members
  pub members-spread : (m : CountMap) → IsOrdered pid_cmp m → IsMemberList (Some (counts_in m)) among (spread among m.entries)
  members-spread m ordered = record { ordered = ordered-spread m.entries ordered; each = λ q. count-spread q m.entries ordered }

  -- ---- the entries, one after the other

  pub sized_more : (pid : Pid) (k : ℕ) (left es : List (Pid × ℕ)) → left ≡ (pid, k) ∷ es → among pid ≡ true → length (spread among left) ≡ k + length (spread among es)
  sized_more pid k left es is e = ap (λ l. length (spread among l)) is ∙ length-spread pid k es ∙ ap (λ b. cond b k 0 + length (spread among es)) e

  pub sized_none : (left : List (Pid × ℕ)) → left ≡ [] → length (spread among left) ≡ 0
  sized_none left is = ap (λ l. length (spread among l)) is

  pub place_here : (i : ℕ) (found : Option Pid) (pid : Pid) (k : ℕ) (left es : List (Pid × ℕ)) → left ≡ (pid, k) ∷ es → among pid ≡ true → i < k → slice_get (spread among left) i ≡ found → Some pid ≡ found
  place_here i found pid k left es is e h f = sym (ap (λ l. slice_get (spread among l) i) is ∙ get-spread_low pid k es i e h) ∙ f

  pub place_later : (i : ℕ) (found : Option Pid) (pid : Pid) (k : ℕ) (left es : List (Pid × ℕ)) → left ≡ (pid, k) ∷ es → among pid ≡ true → k ≤ i → slice_get (spread among left) i ≡ found → slice_get (spread among es) (i - k) ≡ found
  place_later i found pid k left es is e h f = sym (ap (λ l. slice_get (spread among l) i) is ∙ get-spread_high pid k es i e h) ∙ f

  pub place_past : (i : ℕ) (found : Option Pid) (left : List (Pid × ℕ)) → left ≡ [] → slice_get (spread among left) i ≡ found → None ≡ found
  place_past i found left is f = sym (ap (λ l. slice_get (spread among l) i) is) ∙ f

  -- a list of the members so far, and one entry more
  pub listed_more : (told now all : List Pid) (pid : Pid) (k : ℕ) (left es : List (Pid × ℕ)) → left ≡ (pid, k) ∷ es → among pid ≡ true → now ≡ told ++ put k pid [] → told ++ spread among left ≡ all → now ++ spread among es ≡ all
  listed_more told now all pid k left es is e n h =
      ap (λ l. l ++ spread among es) n
      ∙ append_assoc told (put k pid []) (spread among es)
      ∙ ap (λ l. told ++ l) (put-append k pid [] (spread among es) ∙ sym (ap (spread among) is ∙ ap (λ b. put (cond b k 0) pid (spread among es)) e))
      ∙ h

  pub listed_all : (told all : List Pid) (left : List (Pid × ℕ)) → left ≡ [] → told ++ spread among left ≡ all → told ≡ all
  listed_all told all left is h = sym (append-nil told) ∙ ap (λ l. told ++ spread among l) (sym is) ∙ h

  -- those that pass a test are no more than all
  pub length-spread_le : (es : List (Pid × ℕ)) → length (spread among es) ≤ length (spread anywhere es)
  length-spread_le [] = omega arith
  length-spread_le (e ∷ es) =
      let less = length-spread_le es in
      let one : length (spread among (e ∷ es)) ≡ cond (among e.0) e.1 0 + length (spread among es) = length-put (cond (among e.0) e.1 0) e.0 (spread among es) in
      let all : length (spread anywhere (e ∷ es)) ≡ e.1 + length (spread anywhere es) = length-put e.1 e.0 (spread anywhere es) in
      let fewer : cond (among e.0) e.1 0 ≤ e.1 = at_most (among e.0) e.1 in
      omega arith
    where
      at_most : (b : Bool) (n : ℕ) → cond b n 0 ≤ n
      at_most true n = omega arith
      at_most false n = omega arith
