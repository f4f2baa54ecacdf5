-- Losses in a merge: each stands right behind the last entry of its node.
use Rattle.std.proofs.Common.{◌≡◌, ◌≢◌, ℕ, ◌+◌, ◌<◌, ◌≤◌, Bool, true, false, ◌&&◌, cond, nat_eq, nat_lt, drop, length}
use Rattle.std.proofs.Common.{List, [], ◌∷◌, ◌++◌, refl, ap, sym, ◌∙◌, subst, inl, inr, ◌⊎◌, arith, zero, suc}
use Rattle.std.specs.List.{AllByRecursion, flat_map}
use Rattle.std.proofs.lemmas.Bool.{cases_eq, cases_lt, eq-eqb, ne_eqb, lt-ltb, le-ltb, ltb-true, ltb-false, eqb-true}
use Rattle.std.proofs.lemmas.List.{append-nil, append_assoc, length-drop}
use Rattle.pg_world.specs.PgStep.Machines.Places.{set_at}
use Rattle.pg_world.proofs.PgStep.Machines.Places.{set_at_here, set_at_other}
use Rattle.pg_cluster_judges.specs.Merge.{ComesFirst, IsNext, rest_of, MergesRest, Merges}
use Rattle.pg_cluster_judges.specs.Losses.{last_from, with_loss, loss_alone, losses_alone, loss_behind, with_losses}
use Rattle.pg_cluster_judges.proofs.Acts.{drop_next}

-- what is left of a list, and of more behind it
drop_on : (n : ℕ) (xs ys : List ℕ) (c : ℕ) (cs : List ℕ) → drop n xs ≡ c ∷ cs → drop n (xs ++ ys) ≡ (c ∷ cs) ++ ys
drop_on zero xs ys c cs e = ap (λ zs. zs ++ ys) e
drop_on (suc n) [] ys c cs e = absurd (cc)
drop_on (suc n) (x ∷ xs) ys c cs e = drop_on n xs ys c cs e

drop_all : (xs ys : List ℕ) → drop (length xs) (xs ++ ys) ≡ ys
drop_all [] ys = refl
drop_all (x ∷ xs) ys = drop_all xs ys

last_is : (n : ℕ) (xs : List ℕ) (before c : ℕ) → drop n xs ≡ c ∷ [] → last_from before xs ≡ c
last_is zero [] before c e = absurd (cc)
last_is zero (x ∷ xs) before c e =
    let first : x ≡ c = cc in
    let rest : xs ≡ [] = cc in
    ap (last_from x) rest ∙ first
last_is (suc n) [] before c e = absurd (cc)
last_is (suc n) (x ∷ xs) before c e = last_is n xs x c e

none_left : (xs : List ℕ) → length xs ≡ 0 → xs ≡ []
none_left [] e = refl
none_left (x ∷ xs) e = absurd (cc)

both_so : (a b : Bool) → (a && b) ≡ true → (a ≡ true) × (b ≡ true)
both_so true true e = (refl, refl)
both_so true false e = absurd (cc)
both_so false b e = absurd (cc)

module _ (size : ℕ) (lost : ℕ → Bool) (clocks : ℕ → List ℕ) where
  abbrev full : ℕ → List ℕ
  full i = with_loss (lost i) (clocks i)

  abbrev tail : ℕ → List ℕ
  tail i = cond (lost i) (last_from 0 (clocks i) ∷ []) []

  -- So far the logs with losses are read as far as those without: where those have an entry both are at it, and else both are read.
  record AtOnce (read reads : ℕ → ℕ) : Type 0 where
    done : (i : ℕ) → i < size → drop (read i) (clocks i) ≡ [] → drop (reads i) (full i) ≡ []
    at : (i c : ℕ) (cs : List ℕ) → i < size → drop (read i) (clocks i) ≡ c ∷ cs → reads i ≡ read i

  module _ (read reads : ℕ → ℕ) (far : AtOnce read reads) where
    -- what is left there, where an entry is
    left_at : (i c : ℕ) (cs : List ℕ) → i < size → drop (read i) (clocks i) ≡ c ∷ cs → rest_of full reads i ≡ (c ∷ cs) ++ tail i
    left_at i c cs low e = ap (λ n. drop n (full i)) (far.at i c cs low e) ∙ drop_on (read i) (clocks i) (tail i) c cs e

    -- what is next there is next here
    same_head : (i other : ℕ) (others : List ℕ) → i < size → rest_of full reads i ≡ other ∷ others → (cs : List ℕ) × (drop (read i) (clocks i) ≡ other ∷ cs)
    same_head i other others low e = go (drop (read i) (clocks i)) refl
      where
        go : (r : List ℕ) → drop (read i) (clocks i) ≡ r → (cs : List ℕ) × (drop (read i) (clocks i) ≡ other ∷ cs)
        go [] is = let no : [] ≡ other ∷ others = sym (far.done i low is) ∙ e in absurd (cc)
        go (c ∷ cs) is =
            let both : c ∷ (cs ++ tail i) ≡ other ∷ others = sym (left_at i c cs low is) ∙ e in
            let same : c ≡ other = cc in
            (cs, is ∙ ap (λ k. k ∷ cs) same)

    module _ (x : ℕ × ℕ) (place : x.1 ≡ read x.0) (next : IsNext size (rest_of clocks read) x.0) where
      next_too : IsNext size (rest_of full reads) x.0
      next_too = record {
        there = next.there;
        clock = next.clock;
        later = next.later ++ tail x.0;
        next = left_at x.0 next.clock next.later next.there next.next;
        first = λ j other others low e. let head = same_head j other others low e in next.first j other head.0 low head.1;
      }

      place_too : x.1 ≡ reads x.0
      place_too = place ∙ sym (far.at x.0 next.clock next.later next.there next.next)

      -- ---- behind it
      abbrev read_on : ℕ → ℕ
      read_on = set_at read x.0 (x.1 + 1)

      abbrev reads_on : ℕ → ℕ
      reads_on = set_at reads x.0 (x.1 + 1)

      later_here : drop (x.1 + 1) (clocks x.0) ≡ next.later
      later_here = ap (λ n. drop (n + 1) (clocks x.0)) place ∙ drop_next (read x.0) (clocks x.0) next.clock next.later next.next

      long : length (clocks x.0) ≡ x.1 + 1 + length next.later
      long =
          let all : length (drop (read x.0) (clocks x.0)) ≡ length (next.clock ∷ next.later) = ap length next.next in
          omega (arith, all, length-drop (read x.0) (clocks x.0), place)

      -- where nothing more is to come of the node, or more of its own
      on_done : (lost x.0 && nat_eq (x.1 + 1) (length (clocks x.0))) ≡ false → (i : ℕ) → i < size → (i ≡ x.0) ⊎ (i ≡ x.0 → ⊥) → drop (read_on i) (clocks i) ≡ [] → drop (reads_on i) (full i) ≡ []
      on_done not_yet i low (inl same) e = subst (λ k. drop (reads_on k) (full k) ≡ []) (sym same) (go (lost x.0) refl)
        where
          at_end : drop (x.1 + 1) (clocks x.0) ≡ []
          at_end = ap (λ n. drop n (clocks x.0)) (sym (set_at_here read x.0 (x.1 + 1) x.0 refl)) ∙ subst (λ k. drop (read_on k) (clocks k) ≡ []) same e

          ends : x.1 + 1 ≡ length (clocks x.0)
          ends =
              let none : length next.later ≡ 0 = ap length (sym later_here ∙ at_end) in
              omega (arith, none, long)

          go : (b : Bool) → lost x.0 ≡ b → drop (reads_on x.0) (full x.0) ≡ []
          go true is = let yes_so : true ≡ false = sym (ap (λ b. b && nat_eq (x.1 + 1) (length (clocks x.0))) is ∙ eq-eqb (x.1 + 1) (length (clocks x.0)) ends) ∙ not_yet in absurd (cc)
          go false is = ap (λ n. drop n (full x.0)) (set_at_here reads x.0 (x.1 + 1) x.0 refl)
              ∙ (ap (λ b. drop (x.1 + 1) (clocks x.0 ++ cond b (last_from 0 (clocks x.0) ∷ []) [])) is ∙ (ap (drop (x.1 + 1)) (append-nil (clocks x.0)) ∙ at_end))
      on_done not_yet i low (inr apart) e =
          ap (λ n. drop n (full i)) (set_at_other reads x.0 (x.1 + 1) i apart)
          ∙ far.done i low (ap (λ n. drop n (clocks i)) (sym (set_at_other read x.0 (x.1 + 1) i apart)) ∙ e)

      on_at : (i c : ℕ) (cs : List ℕ) → i < size → (i ≡ x.0) ⊎ (i ≡ x.0 → ⊥) → drop (read_on i) (clocks i) ≡ c ∷ cs → reads_on i ≡ read_on i
      on_at i c cs low (inl same) e = set_at_here reads x.0 (x.1 + 1) i same ∙ sym (set_at_here read x.0 (x.1 + 1) i same)
      on_at i c cs low (inr apart) e =
          set_at_other reads x.0 (x.1 + 1) i apart
          ∙ (far.at i c cs low (ap (λ n. drop n (clocks i)) (sym (set_at_other read x.0 (x.1 + 1) i apart)) ∙ e) ∙ sym (set_at_other read x.0 (x.1 + 1) i apart))

      far_on : (lost x.0 && nat_eq (x.1 + 1) (length (clocks x.0))) ≡ false → AtOnce read_on reads_on
      far_on not_yet = record { done = λ i low e. on_done not_yet i low (cases_eq i x.0) e; at = λ i c cs low e. on_at i c cs low (cases_eq i x.0) e }

      -- where its loss comes next
      module _ (yes_so : (lost x.0 && nat_eq (x.1 + 1) (length (clocks x.0))) ≡ true) where
        is_lost : lost x.0 ≡ true
        is_lost = (both_so (lost x.0) (nat_eq (x.1 + 1) (length (clocks x.0))) yes_so).0

        is_last : x.1 + 1 ≡ length (clocks x.0)
        is_last = eqb-true (x.1 + 1) (length (clocks x.0)) (both_so (lost x.0) (nat_eq (x.1 + 1) (length (clocks x.0))) yes_so).1

        none_later : next.later ≡ []
        none_later = none_left next.later (omega (arith, is_last, long))

        clock_is : last_from 0 (clocks x.0) ≡ next.clock
        clock_is = last_is (read x.0) (clocks x.0) 0 next.clock (next.next ∙ ap (λ cs. next.clock ∷ cs) none_later)

        loss_left : rest_of full reads_on x.0 ≡ next.clock ∷ []
        loss_left =
            ap (λ n. drop n (full x.0)) (set_at_here reads x.0 (x.1 + 1) x.0 refl ∙ is_last)
            ∙ (drop_all (clocks x.0) (tail x.0)
            ∙ (ap (λ b. cond b (last_from 0 (clocks x.0) ∷ []) []) is_lost ∙ ap (λ c. c ∷ []) clock_is))

        loss_first_of : (j other : ℕ) (others : List ℕ) → j < size → (j ≡ x.0) ⊎ (j ≡ x.0 → ⊥) → rest_of full reads_on j ≡ other ∷ others → ComesFirst next.clock x.0 other j
        loss_first_of j other others low (inl same) e =
            let both : next.clock ∷ [] ≡ other ∷ others = sym loss_left ∙ (ap (rest_of full reads_on) (sym same) ∙ e) in
            let is : next.clock ≡ other = cc in
            record { clocks = omega (arith, is); places = λ _. omega (arith, same) }
        loss_first_of j other others low (inr apart) e =
            let head = same_head j other others low (ap (λ n. drop n (full j)) (sym (set_at_other reads x.0 (x.1 + 1) j apart)) ∙ e) in
            next.first j other head.0 low head.1

        loss_next : IsNext size (rest_of full reads_on) x.0
        loss_next = record {
          there = next.there;
          clock = next.clock;
          later = [];
          next = loss_left;
          first = λ j other others low e. loss_first_of j other others low (cases_eq j x.0) e;
        }

        abbrev reads_lost : ℕ → ℕ
        reads_lost = set_at reads_on x.0 (x.1 + 1 + 1)

        lost_done : (i : ℕ) → i < size → (i ≡ x.0) ⊎ (i ≡ x.0 → ⊥) → drop (read_on i) (clocks i) ≡ [] → drop (reads_lost i) (full i) ≡ []
        lost_done i low (inl same) e =
            subst (λ k. drop (reads_lost k) (full k) ≡ []) (sym same)
            (ap (λ n. drop n (full x.0)) (set_at_here reads_on x.0 (x.1 + 1 + 1) x.0 refl)
            ∙ drop_next (x.1 + 1) (full x.0) next.clock [] (ap (λ n. drop n (full x.0)) (sym (set_at_here reads x.0 (x.1 + 1) x.0 refl)) ∙ loss_left))
        lost_done i low (inr apart) e =
            ap (λ n. drop n (full i)) (set_at_other reads_on x.0 (x.1 + 1 + 1) i apart ∙ set_at_other reads x.0 (x.1 + 1) i apart)
            ∙ far.done i low (ap (λ n. drop n (clocks i)) (sym (set_at_other read x.0 (x.1 + 1) i apart)) ∙ e)

        lost_at : (i c : ℕ) (cs : List ℕ) → i < size → (i ≡ x.0) ⊎ (i ≡ x.0 → ⊥) → drop (read_on i) (clocks i) ≡ c ∷ cs → reads_lost i ≡ read_on i
        lost_at i c cs low (inl same) e =
            let here : drop (x.1 + 1) (clocks x.0) ≡ c ∷ cs = ap (λ n. drop n (clocks x.0)) (sym (set_at_here read x.0 (x.1 + 1) x.0 refl)) ∙ subst (λ k. drop (read_on k) (clocks k) ≡ c ∷ cs) same e in
            let no : [] ≡ c ∷ cs = sym none_later ∙ (sym later_here ∙ here) in
            absurd (cc)
        lost_at i c cs low (inr apart) e = set_at_other reads_on x.0 (x.1 + 1 + 1) i apart ∙ on_at i c cs low (inr apart) e

        far_lost : AtOnce read_on reads_lost
        far_lost = record { done = λ i low e. lost_done i low (cases_eq i x.0) e; at = λ i c cs low e. lost_at i c cs low (cases_eq i x.0) e }

  abbrev blocks : List (ℕ × ℕ) → List (ℕ × ℕ)
  blocks order = flat_map (λ x. x ∷ loss_behind lost clocks x) order

  merges_blocks : (order : List (ℕ × ℕ)) (read reads : ℕ → ℕ) → AtOnce read reads → MergesRest size clocks read order → MergesRest size full reads (blocks order)
  merges_blocks [] read reads far none = λ i low. far.done i low (none i low)
  merges_blocks (x ∷ order) read reads far merges =
      let next : IsNext size (rest_of clocks read) x.0 = merges.1 in
      (place_too read reads far x merges.0 next, next_too read reads far x merges.0 next, go (lost x.0 && nat_eq (x.1 + 1) (length (clocks x.0))) refl (λ reads2 far2. merges_blocks order (set_at read x.0 (x.1 + 1)) reads2 far2 merges.2))
    where
      go : (b : Bool) → (lost x.0 && nat_eq (x.1 + 1) (length (clocks x.0))) ≡ b
          → ((reads2 : ℕ → ℕ) → AtOnce (set_at read x.0 (x.1 + 1)) reads2 → MergesRest size full reads2 (blocks order))
          → MergesRest size full (set_at reads x.0 (x.1 + 1)) (cond b ((x.0, x.1 + 1) ∷ []) [] ++ blocks order)
      go false is again =
          let next : IsNext size (rest_of clocks read) x.0 = merges.1 in
          again (set_at reads x.0 (x.1 + 1)) (far_on read reads far x merges.0 next is)
      go true is again =
          let next : IsNext size (rest_of clocks read) x.0 = merges.1 in (
            sym (set_at_here reads x.0 (x.1 + 1) x.0 refl),
            loss_next read reads far x merges.0 next is,
            again (reads_lost read reads far x merges.0 next is) (far_lost read reads far x merges.0 next is),
          )

  -- ---- nodes that did nothing
  abbrev is_alone : ℕ → Bool
  is_alone i = lost i && nat_eq (length (clocks i)) 0

  -- how many entries of each log are read, where the losses of the first so many nodes are
  abbrev alone_read : ℕ → ℕ → ℕ
  alone_read n i = cond (nat_lt i n && is_alone i) 1 0

  read_one : (n i : ℕ) → nat_lt i n ≡ true → is_alone i ≡ true → alone_read n i ≡ 1
  read_one n i under is = ap (λ b. one (b && is_alone i)) under ∙ ap one is
    where
      one : Bool → ℕ
      one b = cond b 1 0

  read_none : (n i : ℕ) → is_alone i ≡ false → alone_read n i ≡ 0
  read_none n i is = go (nat_lt i n) (is_alone i) is
    where
      go : (a b : Bool) → b ≡ false → cond {A = ℕ} (a && b) 1 0 ≡ 0
      go true true e = absurd (cc)
      go true false e = refl
      go false b e = refl

  read_above : (n i : ℕ) → nat_lt i n ≡ false → alone_read n i ≡ 0
  read_above n i is = ap (λ b. one (b && is_alone i)) is
    where
      one : Bool → ℕ
      one b = cond b 1 0

  same_below : (i n : ℕ) → i ≢ n → nat_lt i n ≡ nat_lt i (suc n)
  same_below i n apart = go (nat_lt i n) refl
    where
      go : (b : Bool) → nat_lt i n ≡ b → nat_lt i n ≡ nat_lt i (suc n)
      go true is = is ∙ sym (lt-ltb i (suc n) (let under = ltb-true i n is in omega (arith, under)))
      go false is = is ∙ sym (le-ltb i (suc n) (let above = ltb-false i n is in let less : n < i = strict above in omega (arith, less)))
        where
          strict : n ≤ i → n < i
          strict above = go2 (cases_lt n i)
            where
              go2 : (n < i) ⊎ (i ≤ n) → n < i
              go2 (inl less) = less
              go2 (inr more) = absurd (apart (omega (arith, more, above)))

  module _ (rise : (i : ℕ) → i < size → AllByRecursion (λ clock. 0 < clock) (clocks i)) where
    alone_left : (i : ℕ) → is_alone i ≡ true → full i ≡ 0 ∷ []
    alone_left i is =
        let both = both_so (lost i) (nat_eq (length (clocks i)) 0) is in
        let none = none_left (clocks i) (eqb-true (length (clocks i)) 0 both.1) in
        ap (λ cs. cs ++ cond (lost i) (last_from 0 cs ∷ []) []) none ∙ ap (λ b. cond b (0 ∷ []) []) both.0

    -- what is left of a log whose node is not alone is nothing, or begins later
    late : (j : ℕ) → j < size → is_alone j ≡ false → (other : ℕ) (others : List ℕ) → full j ≡ other ∷ others → 0 < other
    late j low busy other others e = go (clocks j) refl (rise j low)
      where
        go : (cs : List ℕ) → clocks j ≡ cs → AllByRecursion (λ clock. 0 < clock) cs → 0 < other
        go (c ∷ cs) is up =
            let both : c ∷ (cs ++ tail j) ≡ other ∷ others = sym (ap (λ zs. zs ++ tail j) is) ∙ e in
            let same : c ≡ other = cc in
            subst (λ k. 0 < k) same up.0
        go [] is up = absurd (nobody (lost j) refl)
          where
            nobody : (b : Bool) → lost j ≡ b → ⊥
            nobody true lost_is = let clash : true ≡ false = sym (ap (λ b. b && nat_eq (length (clocks j)) 0) lost_is ∙ ap (λ zs. nat_eq (length zs) 0) is) ∙ busy in absurd (cc)
            nobody false lost_is = let none : [] ≡ other ∷ others = sym (ap (λ b. clocks j ++ cond b (last_from 0 (clocks j) ∷ []) []) lost_is ∙ ap (λ zs. zs ++ []) is) ∙ e in absurd (cc)

    alone_first : (n : ℕ) (j other : ℕ) (others : List ℕ) → j < size → rest_of full (alone_read n) j ≡ other ∷ others → ComesFirst 0 n other j
    alone_first n j other others low e = go (nat_lt j n) refl (is_alone j) refl
      where
        go : (a : Bool) → nat_lt j n ≡ a → (b : Bool) → is_alone j ≡ b → ComesFirst 0 n other j
        go true under true alone =
            let none : [] ≡ other ∷ others = sym (ap (λ k. drop k (full j)) (read_one n j under alone) ∙ ap (drop 1) (alone_left j alone)) ∙ e in
            absurd (cc)
        go a under false alone =
            let up : 0 < other = late j low alone other others (ap (λ k. drop k (full j)) (sym (read_none n j alone)) ∙ e) in
            record { clocks = omega arith; places = λ same. absurd (omega (arith, up, same)) }
        go false above true alone = record { clocks = omega arith; places = λ same. ltb-false j n above }

    read_more : (n : ℕ) → is_alone n ≡ true → set_at (alone_read n) n 1 ≡ alone_read (suc n)
    read_more n is = λ k i. go i (cases_eq i n) k
      where
        go : (i : ℕ) → (i ≡ n) ⊎ (i ≡ n → ⊥) → set_at (alone_read n) n 1 i ≡ alone_read (suc n) i
        go i (inl same) = set_at_here (alone_read n) n 1 i same ∙ sym (read_one (suc n) i (lt-ltb i (suc n) (omega (arith, same))) (ap is_alone same ∙ is))
        go i (inr apart) = set_at_other (alone_read n) n 1 i apart ∙ ap (λ b. one (b && is_alone i)) (same_below i n apart)
          where
            one : Bool → ℕ
            one b = cond b 1 0

    read_same : (n : ℕ) → is_alone n ≡ false → alone_read n ≡ alone_read (suc n)
    read_same n busy = λ k i. go i (cases_eq i n) k
      where
        go : (i : ℕ) → (i ≡ n) ⊎ (i ≡ n → ⊥) → alone_read n i ≡ alone_read (suc n) i
        go i (inl same) = read_none n i (ap is_alone same ∙ busy) ∙ sym (read_none (suc n) i (ap is_alone same ∙ busy))
        go i (inr apart) = ap (λ b. one (b && is_alone i)) (same_below i n apart)
          where
            one : Bool → ℕ
            one b = cond b 1 0

    one_alone : (n : ℕ) (more : List (ℕ × ℕ)) → n < size → MergesRest size full (alone_read (suc n)) more → MergesRest size full (alone_read n) (loss_alone lost clocks n ++ more)
    one_alone n more low merges = go (is_alone n) refl
      where
        unread : alone_read n n ≡ 0
        unread = read_above n n (le-ltb n n (omega arith))

        go : (b : Bool) → is_alone n ≡ b → MergesRest size full (alone_read n) (cond b ((n, 0) ∷ []) [] ++ more)
        go true is = (
          sym unread,
          record {
            there = low;
            clock = 0;
            later = [];
            next = ap (λ k. drop k (full n)) unread ∙ alone_left n is;
            first = λ j other others lj e. alone_first n j other others lj e;
          },
          subst (λ (r : ℕ → ℕ). MergesRest size full r more) (sym (read_more n is)) merges,
        )
        go false is = subst (λ (r : ℕ → ℕ). MergesRest size full r more) (sym (read_same n is)) merges

    all_alone : (n : ℕ) (more : List (ℕ × ℕ)) → n ≤ size → MergesRest size full (alone_read n) more → MergesRest size full (alone_read 0) (losses_alone lost clocks n ++ more)
    all_alone zero more low merges = merges
    all_alone (suc n) more low merges =
        subst (MergesRest size full (alone_read 0)) (sym (append_assoc (losses_alone lost clocks n) (loss_alone lost clocks n) more))
        (all_alone n (loss_alone lost clocks n ++ more) (omega (arith, low)) (one_alone n more (omega (arith, low)) merges))

    begun_at_once : AtOnce (λ i. 0) (alone_read size)
    begun_at_once = record { done = done; at = at }
      where
        done : (i : ℕ) → i < size → clocks i ≡ [] → drop (alone_read size i) (full i) ≡ []
        done i low none = go (is_alone i) refl
          where
            not_lost : is_alone i ≡ false → (b : Bool) → lost i ≡ b → tail i ≡ []
            not_lost is true lost_is = let clash : true ≡ false = sym (ap (λ b. b && nat_eq (length (clocks i)) 0) lost_is ∙ ap (λ (zs : List ℕ). nat_eq (length zs) 0) none) ∙ is in absurd (cc)
            not_lost is false lost_is = ap (λ b. cond b (last_from 0 (clocks i) ∷ []) []) lost_is

            go : (b : Bool) → is_alone i ≡ b → drop (alone_read size i) (full i) ≡ []
            go true is = ap (λ n. drop n (full i)) (read_one size i (lt-ltb i size low) is) ∙ ap (drop 1) (alone_left i is)
            go false is = ap (λ n. drop n (full i)) (read_none size i is) ∙ (ap (λ cs. cs ++ tail i) none ∙ not_lost is (lost i) refl)

        at : (i c : ℕ) (cs : List ℕ) → i < size → clocks i ≡ c ∷ cs → alone_read size i ≡ 0
        at i c cs low e = read_none size i (ap (λ (zs : List ℕ). lost i && nat_eq (length zs) 0) e ∙ never (lost i))
          where
            never : (b : Bool) → (b && nat_eq (length (c ∷ cs)) 0) ≡ false
            never true = ne_eqb (length (c ∷ cs)) 0 (λ d. let some : suc (length cs) ≡ 0 = d in absurd (omega (arith, some)))
            never false = refl

pub merges_with_losses : (size : ℕ) (lost : ℕ → Bool) (clocks : ℕ → List ℕ) (order : List (ℕ × ℕ)) → Merges size clocks order
    → ((i : ℕ) → i < size → AllByRecursion (λ clock. 0 < clock) (clocks i))
    → Merges size (λ i. with_loss (lost i) (clocks i)) (with_losses size lost clocks order)
merges_with_losses size lost clocks order merges rise =
    let unread : ◌≡◌ {A = ℕ → ℕ} (alone_read size lost clocks 0) (λ i. 0) = λ k i. read_above size lost clocks 0 i (le-ltb i 0 (omega arith)) k in
    subst (λ (r : ℕ → ℕ). MergesRest size (full size lost clocks) r (with_losses size lost clocks order)) unread
    (all_alone size lost clocks rise size (blocks size lost clocks order) (omega arith)
    (merges_blocks size lost clocks order (λ i. 0) (alone_read size lost clocks size) (begun_at_once size lost clocks rise) merges))
