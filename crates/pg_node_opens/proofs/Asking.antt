-- The marks of the nodes, and what they say of those that count.
use Rattle.std.proofs.Common.{◌≡◌, ℕ, ◌<◌, zero, suc, Bool, true, false, not, ◌&&◌, ◌||◌, ◌==◌, cond, nat_lt}
use Rattle.std.proofs.Common.{get_or, drop, length, List, [], ◌∷◌, refl, ap, sym, ◌∙◌, subst, inl, inr, ◌⊎◌, arith}
use Rattle.std.specs.List.{AllByRecursion, IsDistinct, list_any, list_all, filter}
use Rattle.std.proofs.Math.Path.{fun_ext}
use Rattle.std.proofs.lemmas.Bool.{eq-eqb, ne_eqb, cases_eq}
use Rattle.std.proofs.lemmas.Bool.Decides.{nat_tests}
use Rattle.pg_term.specs.Same.{same_atom}
use Rattle.pg_step.specs.Nodes.{Node, every, is_node, is_peer}
use Rattle.pg_step.specs.State.Status.{Unasked, Asked}
use Rattle.pg_step.specs.Attempts.{is_unasked, asks, own_verdict, with_asked}
use Rattle.pg_node_opens.specs.declared.mark.Mark.{Mark}
use Rattle.pg_node_opens.specs.declared.mark.Mark.TheVariants as mark
use Rattle.pg_node_opens.specs.declared.mark.Asked.{Asked as Whom}
use Rattle.pg_node_opens.specs.declared.mark.Asked.TheVariants.{Nobody, One, All}
use Rattle.pg_node_opens.specs.declared.mark.Wanted.{Wanted}
use Rattle.pg_node_opens.specs.declared.mark.Wanted.TheVariants.{Granted}
use Rattle.pg_node_opens.specs.Marks.{status_of, has_yes, asked_mark, passes, is_wanted}
use Rattle.pg_node_opens.specs.Marks.{mark_at, asked_in, all_below, all_marks}
use Rattle.pg_node_opens.specs.Places.{name_at, lost_in, live_in, ArePlaces}
use Rattle.pg_node_opens.specs.Named.{statuses, replies, whom, has_place}
use Rattle.pg_node_opens.proofs.Named.{clash, atom_self, atom_other, names_differ, reads_at, reads_nobody}
use Rattle.pg_node_opens.proofs.Named.{by_places, all_below_same, all_names, all_filtered, any_filtered}

-- ---- tests of some of the nodes

any_other : (f : Node → Bool) (n : Node) (ns : List Node) → AllByRecursion (λ y. same_atom n y ≡ false) ns → list_any (λ x. f x && same_atom n x) ns ≡ false
any_other f n [] h = refl
any_other f n (m ∷ ns) h = ap (λ b. (f m && b) || list_any (λ x. f x && same_atom n x) ns) h.0 ∙ (no (f m) ∙ any_other f n ns h.1)
  where
    no : (b : Bool) → ((b && false) || list_any (λ x. f x && same_atom n x) ns) ≡ list_any (λ x. f x && same_atom n x) ns
    no true = refl
    no false = refl

suc_less : (k n : ℕ) → suc k < suc n → k < n
suc_less k n h = omega arith

none_less : (k : ℕ) → k < 0 → ⊥
none_less k h = omega arith

-- of the names one is that of a place
any_at : (f : Node → Bool) (names : List Node) (k : ℕ) → IsDistinct same_atom names → k < length names → list_any (λ x. f x && same_atom (name_at names k) x) names ≡ f (name_at names k)
unfolding IsDistinct
any_at f [] k h l = absurd (none_less k l)
any_at f (n ∷ ns) zero h l = ap (λ b. (f n && b) || list_any (λ x. f x && same_atom n x) ns) (atom_self n) ∙ (ap (λ b. (f n && true) || b) (any_other f n ns h.0) ∙ yes (f n))
  where
    yes : (b : Bool) → ((b && true) || false) ≡ b
    yes true = refl
    yes false = refl
any_at f (n ∷ ns) (suc k) h l = ap (λ b. (f n && b) || list_any (λ x. f x && same_atom (name_at ns k) x) ns) (atom_other n (name_at ns k) (other n ns k h.0 (suc_less k (length ns) l)))
    ∙ (no (f n) (list_any (λ x. f x && same_atom (name_at ns k) x) ns) ∙ any_at f ns k h.1 (suc_less k (length ns) l))
  where
    no : (b c : Bool) → ((b && false) || c) ≡ c
    no true c = refl
    no false c = refl

    other : (n : Node) (ns : List Node) (k : ℕ) → AllByRecursion (λ y. same_atom n y ≡ false) ns → k < length ns → same_atom n (name_at ns k) ≡ false
    other n [] k h l = absurd (none_less k l)
    other n (m ∷ ns) zero h l = h.0
    other n (m ∷ ns) (suc k) h l = other n ns k h.1 (suc_less k (length ns) l)

any_nobody : (f : Node → Bool) (q : Node) (names : List Node) → list_any (same_atom q) names ≡ false → list_any (λ x. f x && same_atom q x) names ≡ false
any_nobody f q [] e = refl
any_nobody f q (n ∷ ns) e = both (f n) (same_atom q n) (list_any (same_atom q) ns) e (any_nobody f q ns)
  where
    both : (b c d : Bool) → (c || d) ≡ false → (d ≡ false → list_any (λ x. f x && same_atom q x) ns ≡ false) → ((b && c) || list_any (λ x. f x && same_atom q x) ns) ≡ false
    both b true d e h = absurd (clash e)
    both true false d e h = h e
    both false false d e h = h e

module _ (names : List Node) (lost : List Bool) (apart : IsDistinct same_atom names) (places : ArePlaces names lost) where
  pub lost_at : (k : ℕ) → k < length names → lost_in names lost (name_at names k) ≡ get_or lost k false
  lost_at k l = reads_at (λ b. b) false names lost k false apart places.flags l

  -- the own node stands first, and it counts
  pub own_here : lost_in names lost (name_at names 0) ≡ false
  own_here = lost_at 0 places.some ∙ places.own

  all_left : (names' : List Node) (t : Node → Bool) → 0 < length names' → lost_in names lost (name_at names' 0) ≡ false
      → list_all t (name_at names' 0 ∷ filter (λ q. not (lost_in names lost q)) (drop 1 names')) ≡ list_all (λ q. lost_in names lost q || t q) names'
  all_left [] t l e = absurd (none_less 0 l)
  all_left (n ∷ ns) t l e = ap (λ b. t n && b) (all_filtered (λ q. not (lost_in names lost q)) t ns) ∙ one (t n) (lost_in names lost n) e
      (same ns)
    where
      twice : (b : Bool) → not (not b) ≡ b
      twice true = refl
      twice false = refl

      same : (ns : List Node) → list_all (λ q. not (not (lost_in names lost q)) || t q) ns ≡ list_all (λ q. lost_in names lost q || t q) ns
      same ns = ap (λ (p : Node → Bool). list_all p ns) (fun_ext (λ q. ap (λ b. b || t q) (twice (lost_in names lost q))))

      one : (b c : Bool) → c ≡ false → list_all (λ q. not (not (lost_in names lost q)) || t q) ns ≡ list_all (λ q. lost_in names lost q || t q) ns
          → (b && list_all (λ q. not (not (lost_in names lost q)) || t q) ns) ≡ ((c || b) && list_all (λ q. lost_in names lost q || t q) ns)
      one b true e s = absurd (clash e)
      one b false e s = ap (λ z. b && z) s

  -- a test of every node that counts is one of all places
  pub every_at : (t : Node → Bool) → every (live_in names lost) t ≡ all_below (length names) (λ k. get_or lost k false || t (name_at names k))
  every_at t = all_left names t places.some own_here ∙ (all_names names (λ q. lost_in names lost q || t q)
      ∙ all_below_same (length names) (λ k. lost_in names lost (name_at names k) || t (name_at names k)) (λ k. get_or lost k false || t (name_at names k))
      (λ k l. ap (λ b. b || t (name_at names k)) (lost_at k l)))

  any_left : (names' : List Node) (q : Node) → 0 < length names' → lost_in names lost (name_at names' 0) ≡ false
      → list_any (same_atom q) (name_at names' 0 ∷ filter (λ x. not (lost_in names lost x)) (drop 1 names')) ≡ list_any (λ x. not (lost_in names lost x) && same_atom q x) names'
  any_left [] q l e = absurd (none_less 0 l)
  any_left (n ∷ ns) q l e = ap (λ b. same_atom q n || b) (any_filtered (λ x. not (lost_in names lost x)) (same_atom q) ns) ∙ one (same_atom q n) (lost_in names lost n) e
    where
      one : (b c : Bool) → c ≡ false → (b || list_any (λ x. not (lost_in names lost x) && same_atom q x) ns) ≡ ((not c && b) || list_any (λ x. not (lost_in names lost x) && same_atom q x) ns)
      one b true e = absurd (clash e)
      one b false e = refl

  pub node_at : (k : ℕ) → k < length names → is_node (live_in names lost) (name_at names k) ≡ not (get_or lost k false)
  node_at k l = any_left names (name_at names k) places.some own_here ∙ (any_at (λ x. not (lost_in names lost x)) names k apart l ∙ ap not (lost_at k l))

  pub node_nobody : (q : Node) → list_any (same_atom q) names ≡ false → is_node (live_in names lost) q ≡ false
  node_nobody q e = any_left names q places.some own_here ∙ any_nobody (λ x. not (lost_in names lost x)) q names e

  pub same_at : (j k : ℕ) → j < length names → k < length names → same_atom (name_at names j) (name_at names k) ≡ (j == k)
  same_at j k lj lk = go (cases_eq j k)
    where
      go : (j ≡ k) ⊎ (j ≡ k → ⊥) → same_atom (name_at names j) (name_at names k) ≡ (j == k)
      go (inl e) = ap (λ z. same_atom (name_at names j) (name_at names z)) (sym e) ∙ (atom_self (name_at names j) ∙ sym (eq-eqb j k e))
      go (inr n) = names_differ names j k apart lj lk n ∙ sym (ne_eqb j k n)

  pub own_at : (k : ℕ) → k < length names → same_atom (name_at names 0) (name_at names k) ≡ (k == 0)
  own_at k l = same_at 0 k places.some l ∙ swap 0 k
    where
      swap : (a b : ℕ) → (a == b) ≡ (b == a)
      swap a b = grind (arith, nat_tests)

  -- the own name is no peer's
  pub own_no_peer : (f : Node → Bool) (names' : List Node) → IsDistinct same_atom names' → list_any (same_atom (name_at names' 0)) (filter f (drop 1 names')) ≡ false
  unfolding IsDistinct
  own_no_peer f [] h = refl
  own_no_peer f (n ∷ ns) h = any_filtered f (same_atom n) ns ∙ any_other f n ns h.0

  -- the peers that count, place by place
  pub peer_at : (k : ℕ) → k < length names → is_peer (live_in names lost) (name_at names k) ≡ (not (k == 0) && not (get_or lost k false))
  peer_at k l = go (cases_eq k 0)
    where
      go : (k ≡ 0) ⊎ (k ≡ 0 → ⊥) → is_peer (live_in names lost) (name_at names k) ≡ (not (k == 0) && not (get_or lost k false))
      go (inl e) = ap (λ z. is_peer (live_in names lost) (name_at names z)) e
          ∙ (own_no_peer (λ q. not (lost_in names lost q)) names apart ∙ sym (ap (λ b. not b && not (get_or lost k false)) (eq-eqb k 0 e)))
      go (inr n) = sym (ap (λ b. b || is_peer (live_in names lost) (name_at names k)) (same_at k 0 l places.some ∙ ne_eqb k 0 n))
          ∙ (node_at k l ∙ sym (ap (λ b. not b && not (get_or lost k false)) (ne_eqb k 0 n)))

  -- another node than the own one is a peer that counts where it is not lost
  pub peer_left : (k : ℕ) → k < length names → 0 < k → is_peer (live_in names lost) (name_at names k) ≡ not (lost_in names lost (name_at names k))
  peer_left k l above = peer_at k l ∙ (ap (λ b. not b && not (get_or lost k false)) (ne_eqb k 0 (apart_from k above)) ∙ sym (ap not (lost_at k l)))
    where
      apart_from : (k : ℕ) → 0 < k → k ≡ 0 → ⊥
      apart_from k above e = omega arith

  pub whom_at : (who : Whom) (k : ℕ) → has_place who (length names) ≡ true → k < length names → whom names who (name_at names k) ≡ is_wanted who k
  whom_at Nobody k h l = refl
  whom_at (One only) k h l = same_at only k (below only (length names) h) l
    where
      below : (a b : ℕ) → nat_lt a b ≡ true → a < b
      below a b e = grind (arith, nat_tests)
  whom_at All k h l = refl

  ask_one : (b w o g : Bool) (m : Mark) → cond (b && (w && is_unasked (status_of m))) (cond o (own_verdict g) Asked) (status_of m) ≡ status_of (asked_mark m (b && w) o g)
  ask_one true true true true mark.Unasked = refl
  ask_one true true true false mark.Unasked = refl
  ask_one true true false g mark.Unasked = refl
  ask_one true false o g mark.Unasked = refl
  ask_one false w o g mark.Unasked = refl
  ask_one true true o g mark.Asked = refl
  ask_one true false o g mark.Asked = refl
  ask_one false w o g mark.Asked = refl
  ask_one true true o g mark.Yes = refl
  ask_one true false o g mark.Yes = refl
  ask_one false w o g mark.Yes = refl
  ask_one true true o g mark.No = refl
  ask_one true false o g mark.No = refl
  ask_one false w o g mark.No = refl

  module _ (marks : List Mark) (same : length marks ≡ length names) where
    pub status_at : (k : ℕ) → k < length names → statuses names marks (name_at names k) ≡ status_of (get_or marks k mark.Unasked)
    status_at k l = reads_at status_of Unasked names marks k mark.Unasked apart same l

    pub reply_at : (k : ℕ) → k < length names → replies names marks (name_at names k) ≡ has_yes (get_or marks k mark.Unasked)
    reply_at k l = reads_at has_yes false names marks k mark.Unasked apart same l

    -- who is asked, place by place
    pub asked_at : (who : Whom) (k : ℕ) → has_place who (length names) ≡ true → k < length names
        → (not (lost_in names lost (name_at names k)) && asks (whom names who) (statuses names marks) (name_at names k)) ≡ asked_in (get_or marks k mark.Unasked) (get_or lost k false) who k
    asked_at who k h l = ap (λ b. not b && asks (whom names who) (statuses names marks) (name_at names k)) (lost_at k l)
        ∙ (ap (λ b. not (get_or lost k false) && (b && is_unasked (statuses names marks (name_at names k)))) (whom_at who k h l)
        ∙ ap (λ z. not (get_or lost k false) && (is_wanted who k && is_unasked z)) (status_at k l))

    -- what the nodes are asked, place by place
    pub with_at : (who : Whom) (granted : Bool) (k : ℕ) → has_place who (length names) ≡ true → k < length names
        → with_asked (live_in names lost) (whom names who) (statuses names marks) granted (name_at names k) ≡ status_of (mark_at (get_or marks k mark.Unasked) (get_or lost k false) who k granted)
    with_at who granted k h l =
        ap (λ b. cond (b && asks (whom names who) (statuses names marks) (name_at names k)) (cond (same_atom (name_at names 0) (name_at names k)) (own_verdict granted) Asked) (statuses names marks (name_at names k))) (node_at k l)
        ∙ (ap (λ b. cond (not (get_or lost k false) && (b && is_unasked (statuses names marks (name_at names k)))) (cond (same_atom (name_at names 0) (name_at names k)) (own_verdict granted) Asked) (statuses names marks (name_at names k))) (whom_at who k h l)
        ∙ (ap (λ b. cond (not (get_or lost k false) && (is_wanted who k && is_unasked (statuses names marks (name_at names k)))) (cond b (own_verdict granted) Asked) (statuses names marks (name_at names k))) (own_at k l)
        ∙ (ap (λ z. cond (not (get_or lost k false) && (is_wanted who k && is_unasked z)) (cond (k == 0) (own_verdict granted) Asked) z) (status_at k l)
        ∙ ask_one (not (get_or lost k false)) (is_wanted who k) (k == 0) granted (get_or marks k mark.Unasked))))

    -- the marks once these were asked
    pub asked_statuses : (marks' : List Mark) (who : Whom) (granted : Bool) → length marks' ≡ length names → has_place who (length names) ≡ true
        → ((k : ℕ) → k < length marks → get_or marks' k mark.Unasked ≡ mark_at (get_or marks k mark.Unasked) (get_or lost k false) who k granted)
        → statuses names marks' ≡ with_asked (live_in names lost) (whom names who) (statuses names marks) granted
    asked_statuses marks' who granted same' h each = by_places names (statuses names marks') (with_asked (live_in names lost) (whom names who) (statuses names marks) granted)
        (λ k l. reads_at status_of Unasked names marks' k mark.Unasked apart same' l ∙ (ap status_of (each k (subst (λ z. k < z) (sym same) l)) ∙ sym (with_at who granted k h l)))
        (λ q e. reads_nobody status_of Unasked names marks' q e ∙ sym (ap (λ b. cond (b && asks (whom names who) (statuses names marks) q) (cond (same_atom (name_at names 0) q) (own_verdict granted) Asked) (statuses names marks q)) (node_nobody q e)
        ∙ reads_nobody status_of Unasked names marks q e))

    nobody_mark : (l o g : Bool) (m : Mark) → asked_mark m (not l && false) o g ≡ m
    nobody_mark true o g mark.Unasked = refl
    nobody_mark false o g mark.Unasked = refl
    nobody_mark l o g mark.Asked = refl
    nobody_mark l o g mark.Yes = refl
    nobody_mark l o g mark.No = refl

    -- tests of the nodes that count are tests of the marks
    pub every_nobody : (wanted : Wanted) (granted : Bool) → every (live_in names lost) (λ q. passes wanted (statuses names marks q)) ≡ all_marks marks lost wanted Nobody granted
    every_nobody wanted granted = every_at (λ q. passes wanted (statuses names marks q))
        ∙ (all_below_same (length names) _ _ (λ k l. ap (λ z. get_or lost k false || passes wanted z)
        (status_at k l ∙ ap status_of (sym (nobody_mark (get_or lost k false) (k == 0) granted (get_or marks k mark.Unasked)))))
        ∙ ap (λ n. all_below n (λ place. get_or lost place false || passes wanted (status_of (mark_at (get_or marks place mark.Unasked) (get_or lost place false) Nobody place granted)))) (sym same))

    pub every_all : (wanted : Wanted) (granted : Bool) → every (live_in names lost) (λ q. passes wanted (with_asked (live_in names lost) (λ q. true) (statuses names marks) granted q)) ≡ all_marks marks lost wanted All granted
    every_all wanted granted = every_at (λ q. passes wanted (with_asked (live_in names lost) (λ q. true) (statuses names marks) granted q))
        ∙ (all_below_same (length names) _ _ (λ k l. ap (λ z. get_or lost k false || passes wanted z) (with_at All granted k refl l))
        ∙ ap (λ n. all_below n (λ place. get_or lost place false || passes wanted (status_of (mark_at (get_or marks place mark.Unasked) (get_or lost place false) All place granted)))) (sym same))

    pub every_reply : every (live_in names lost) (replies names marks) ≡ all_marks marks lost Granted Nobody false
    every_reply = every_at (replies names marks)
        ∙ (all_below_same (length names) _ _ (λ k l. ap (λ b. get_or lost k false || b)
        (reply_at k l ∙ ap has_yes (sym (nobody_mark (get_or lost k false) (k == 0) false (get_or marks k mark.Unasked)))))
        ∙ ap (λ n. all_below n (λ place. get_or lost place false || passes Granted (status_of (mark_at (get_or marks place mark.Unasked) (get_or lost place false) Nobody place false)))) (sym same))
