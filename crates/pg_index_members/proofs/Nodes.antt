-- The members of one node among all.
use Rattle.std.proofs.Common.{◌≡◌, ℕ, suc, zero, ◌+◌, ◌-◌, ◌<◌, ◌≤◌, Bool, true, false, cond}
use Rattle.std.proofs.Common.{None, Some, List, [], ◌∷◌, length, refl, sym, ap, subst, ◌∙◌, arith}
use Rattle.std.specs.Prelude.{slice_get, nat_le}
use Rattle.std.specs.List.{AllByRecursion}
use Rattle.std.specs.Ordering.{is_lt, is_le, is_eq}
use Rattle.std.proofs.lemmas.Bool.Decides.{nat_tests}
use Rattle.std.specs.declared.cmp.Ordering.{Ordering}
use Rattle.std.specs.declared.cmp.Ordering.TheVariants.{Less, Equal, Greater}
use Rattle.pg_term.specs.declared.pid.Pid.{Pid}
use Rattle.pg_term.specs.Same.{atom_cmp}
use Rattle.pg_group.specs.Scope.{anywhere, at_node}
use Rattle.pg_index_members.specs.declared.row.Row.{Row}
use Rattle.pg_index_members.specs.Rows.{spread, AreRows}
use Rattle.pg_index_members.proofs.Order.{at_node_is, downward_node, downward_past}
use Rattle.pg_group.specs.Members.{put}
use Rattle.pg_group.proofs.Put.{length-put, get-put_low, get-put_high, all-put}
use Rattle.pg_index_members.proofs.Parts.{not_later, length_after}

module _ (node : List ℕ) where
  abbrev pub front : Pid → Bool
  front pid = is_lt (atom_cmp pid.node node)

  abbrev pub through : Pid → Bool
  through pid = is_le (atom_cmp pid.node node)

  one_of : (o : Ordering) (n : ℕ) → cond (is_eq o) n 0 + cond (is_lt o) n 0 ≡ cond (is_le o) n 0
  one_of Less n = omega arith
  one_of Equal n = omega arith
  one_of Greater n = refl

  -- the members of a node stand between its two edges
  pub between : (rows : List Row) → length (spread (at_node node) rows) + length (spread front rows) ≡ length (spread through rows)
  between [] = refl
  between (r ∷ rs) =
      let e = between rs in
      let a = length-put (cond (at_node node r.pid) r.count 0) r.pid (spread (at_node node) rs) in
      let b = length-put (cond (front r.pid) r.count 0) r.pid (spread front rs) in
      let c = length-put (cond (through r.pid) r.count 0) r.pid (spread through rs) in
      let is : cond (at_node node r.pid) r.count 0 ≡ cond (is_eq (atom_cmp r.pid.node node)) r.count 0 = ap (λ t. cond t r.count 0) (at_node_is r.pid.node node) in
      let one = one_of (atom_cmp r.pid.node node) r.count in
      omega arith

  none_at : (rows : List Row) → AllByRecursion (λ r. through r.pid ≡ false) rows → length (spread (at_node node) rows) ≡ 0
  none_at rows h = let e = between rows in let f = length_after through rows h in omega arith

  -- a place among the members of the node, among all
  pub placed : (rows : List Row) (k : ℕ) → AreRows rows → k < length (spread (at_node node) rows) → slice_get (spread anywhere rows) (length (spread front rows) + k) ≡ slice_get (spread (at_node node) rows) k
  placed [] k h i = absurd (omega arith)
  placed (r ∷ rs) k h i = go (atom_cmp r.pid.node node) refl (λ m. placed rs m h.2)
    where
      go : (o : Ordering) → atom_cmp r.pid.node node ≡ o → ((m : ℕ) → m < length (spread (at_node node) rs) → slice_get (spread anywhere rs) (length (spread front rs) + m) ≡ slice_get (spread (at_node node) rs) m) → slice_get (spread anywhere (r ∷ rs)) (length (spread front (r ∷ rs)) + k) ≡ slice_get (spread (at_node node) (r ∷ rs)) k
      go Less e next =
          let at : at_node node r.pid ≡ false = at_node_is r.pid.node node ∙ ap is_eq e in
          let is : spread (at_node node) (r ∷ rs) ≡ spread (at_node node) rs = ap (λ t. put (cond t r.count 0) r.pid (spread (at_node node) rs)) at in
          let len : length (spread front (r ∷ rs)) ≡ r.count + length (spread front rs) = ap (λ o. length (put (cond (is_lt o) r.count 0) r.pid (spread front rs))) e ∙ length-put r.count r.pid (spread front rs) in
          let few : k < length (spread (at_node node) rs) = subst (λ (l : List Pid). k < length l) is i in
          let sum : length (spread front (r ∷ rs)) + k - r.count ≡ length (spread front rs) + k = omega arith in
          get-put_high r.count r.pid (spread anywhere rs) (length (spread front (r ∷ rs)) + k) (omega arith)
          ∙ ap (slice_get (spread anywhere rs)) sum
          ∙ next k few
          ∙ ap (λ l. slice_get l k) (sym is)
      go Equal e next = here (nat_le r.count k) refl
        where
          is : spread (at_node node) (r ∷ rs) ≡ put r.count r.pid (spread (at_node node) rs)
          is = ap (λ t. put (cond t r.count 0) r.pid (spread (at_node node) rs)) (at_node_is r.pid.node node ∙ ap is_eq e)

          none : length (spread front rs) ≡ 0
          none = length_after front rs (not_later front (downward_node node) r rs (ap is_lt e) h.1)

          len : length (spread front (r ∷ rs)) ≡ 0
          len = ap (λ o. length (put (cond (is_lt o) r.count 0) r.pid (spread front rs))) e ∙ none

          all : length (spread (at_node node) (r ∷ rs)) ≡ r.count + length (spread (at_node node) rs)
          all = ap length is ∙ length-put r.count r.pid (spread (at_node node) rs)

          here : (t : Bool) → nat_le r.count k ≡ t → slice_get (spread anywhere (r ∷ rs)) (length (spread front (r ∷ rs)) + k) ≡ slice_get (spread (at_node node) (r ∷ rs)) k
          here false f =
              let few : k < r.count = grind (arith, nat_tests) in
              let first : length (spread front (r ∷ rs)) + k < r.count = omega (arith, len) in
              get-put_low r.count r.pid (spread anywhere rs) (length (spread front (r ∷ rs)) + k) first
              ∙ sym (get-put_low r.count r.pid (spread (at_node node) rs) k few) ∙ ap (λ l. slice_get l k) (sym is)
          here true f =
              let many : r.count ≤ k = grind (arith, nat_tests) in
              let past : r.count ≤ length (spread front (r ∷ rs)) + k = omega (arith, len) in
              let sum : length (spread front (r ∷ rs)) + k - r.count ≡ length (spread front rs) + (k - r.count) = omega (arith, len, none) in
              let left : k - r.count < length (spread (at_node node) rs) = omega (arith, all) in
              get-put_high r.count r.pid (spread anywhere rs) (length (spread front (r ∷ rs)) + k) past
              ∙ ap (slice_get (spread anywhere rs)) sum
              ∙ next (k - r.count) left
              ∙ sym (get-put_high r.count r.pid (spread (at_node node) rs) k many) ∙ ap (λ l. slice_get l k) (sym is)
      go Greater e next =
          let at : at_node node r.pid ≡ false = at_node_is r.pid.node node ∙ ap is_eq e in
          let is : spread (at_node node) (r ∷ rs) ≡ spread (at_node node) rs = ap (λ t. put (cond t r.count 0) r.pid (spread (at_node node) rs)) at in
          let few : k < length (spread (at_node node) rs) = subst (λ (l : List Pid). k < length l) is i in
          let none = none_at rs (not_later through (downward_past node) r rs (ap is_le e) h.1) in
          absurd (omega arith)

all-get : (Q : Pid → Type 0) (pids : List Pid) (i : ℕ) (pid : Pid) → AllByRecursion Q pids → slice_get pids i ≡ Some pid → Q pid
all-get Q [] i pid h e = absurd cc
all-get Q (p ∷ pids) zero pid h e = let f : p ≡ pid = cc in subst Q f h.0
all-get Q (p ∷ pids) (suc i) pid h e = all-get Q pids i pid h.1 e

-- the members that pass a test do
all-passed : (p : Pid → Bool) (rows : List Row) → AllByRecursion (λ pid. p pid ≡ true) (spread p rows)
all-passed p [] = tt
all-passed p (r ∷ rs) = go (p r.pid) refl (all-passed p rs)
  where
    go : (t : Bool) → p r.pid ≡ t → AllByRecursion (λ pid. p pid ≡ true) (spread p rs) → AllByRecursion (λ pid. p pid ≡ true) (put (cond t r.count 0) r.pid (spread p rs))
    go true e h = all-put (λ pid. p pid ≡ true) r.count r.pid (spread p rs) e h
    go false e h = h

-- all members of rows that fail a test fail it
all-failed : (p : Pid → Bool) (rows : List Row) → AllByRecursion (λ r. p r.pid ≡ false) rows → AllByRecursion (λ pid. p pid ≡ false) (spread anywhere rows)
all-failed p [] h = tt
all-failed p (r ∷ rs) h = all-put (λ pid. p pid ≡ false) r.count r.pid (spread anywhere rs) h.0 (all-failed p rs h.1)

past_off : (o : Ordering) → is_le o ≡ false → is_eq o ≡ false
past_off Less e = absurd cc
past_off Equal e = absurd cc
past_off Greater e = refl

pub past_end : (pids : List Pid) (i : ℕ) → length pids ≤ i → slice_get pids i ≡ None
past_end [] i h = refl
past_end (p ∷ pids) zero h = absurd (omega arith)
past_end (p ∷ pids) (suc i) h = past_end pids i (omega arith)

module _ (node : List ℕ) where
  -- after the members of a node stand others
  after : (rows : List Row) (k : ℕ) (pid : Pid) → AreRows rows → length (spread (at_node node) rows) ≤ k → slice_get (spread anywhere rows) (length (spread (front node) rows) + k) ≡ Some pid → at_node node pid ≡ false
  after [] k pid h i e = absurd cc
  after (r ∷ rs) k pid h i e = go (atom_cmp r.pid.node node) refl (λ m. after rs m pid h.2)
    where
      go : (o : Ordering) → atom_cmp r.pid.node node ≡ o → ((m : ℕ) → length (spread (at_node node) rs) ≤ m → slice_get (spread anywhere rs) (length (spread (front node) rs) + m) ≡ Some pid → at_node node pid ≡ false) → at_node node pid ≡ false
      go Less f next =
          let at : at_node node r.pid ≡ false = at_node_is r.pid.node node ∙ ap is_eq f in
          let is : spread (at_node node) (r ∷ rs) ≡ spread (at_node node) rs = ap (λ t. put (cond t r.count 0) r.pid (spread (at_node node) rs)) at in
          let len : length (spread (front node) (r ∷ rs)) ≡ r.count + length (spread (front node) rs) = ap (λ o. length (put (cond (is_lt o) r.count 0) r.pid (spread (front node) rs))) f ∙ length-put r.count r.pid (spread (front node) rs) in
          let few : length (spread (at_node node) rs) ≤ k = subst (λ (l : List Pid). length l ≤ k) is i in
          let sum : length (spread (front node) (r ∷ rs)) + k - r.count ≡ length (spread (front node) rs) + k = omega arith in
          next k few (ap (slice_get (spread anywhere rs)) (sym sum) ∙ sym (get-put_high r.count r.pid (spread anywhere rs) (length (spread (front node) (r ∷ rs)) + k) (omega arith)) ∙ e)
      go Equal f next =
          let at : at_node node r.pid ≡ true = at_node_is r.pid.node node ∙ ap is_eq f in
          let all : length (spread (at_node node) (r ∷ rs)) ≡ r.count + length (spread (at_node node) rs) = ap (λ t. length (put (cond t r.count 0) r.pid (spread (at_node node) rs))) at ∙ length-put r.count r.pid (spread (at_node node) rs) in
          let none : length (spread (front node) rs) ≡ 0 = length_after (front node) rs (not_later (front node) (downward_node node) r rs (ap is_lt f) h.1) in
          let len : length (spread (front node) (r ∷ rs)) ≡ 0 = ap (λ o. length (put (cond (is_lt o) r.count 0) r.pid (spread (front node) rs))) f ∙ none in
          let sum : length (spread (front node) (r ∷ rs)) + k - r.count ≡ length (spread (front node) rs) + (k - r.count) = omega (arith, len, none) in
          next (k - r.count) (omega arith) (ap (slice_get (spread anywhere rs)) (sym sum) ∙ sym (get-put_high r.count r.pid (spread anywhere rs) (length (spread (front node) (r ∷ rs)) + k) (omega arith)) ∙ e)
      go Greater f next =
          let past = not_later (through node) (downward_past node) r rs (ap is_le f) h.1 in
          let off = all-get (λ q. through node q ≡ false) (spread anywhere (r ∷ rs)) (length (spread (front node) (r ∷ rs)) + k) pid (all-failed (through node) (r ∷ rs) (ap is_le f, past)) e in
          at_node_is pid.node node ∙ past_off (atom_cmp pid.node node) off

  -- the place of a node's member among all, where the pid there is one of the node
  pub placed_on : (rows : List Row) (k : ℕ) (pid : Pid) → AreRows rows → slice_get (spread anywhere rows) (length (spread (front node) rows) + k) ≡ Some pid → at_node node pid ≡ true → slice_get (spread (at_node node) rows) k ≡ Some pid
  placed_on rows k pid h e on = go (nat_le (length (spread (at_node node) rows)) k) refl
    where
      go : (b : Bool) → nat_le (length (spread (at_node node) rows)) k ≡ b → slice_get (spread (at_node node) rows) k ≡ Some pid
      go true f = absurd (let off = after rows k pid h (let i : length (spread (at_node node) rows) ≤ k = grind (arith, nat_tests) in i) e in cc)
      go false f = let i : k < length (spread (at_node node) rows) = grind (arith, nat_tests) in sym (placed node rows k h i) ∙ e

  -- no such member, where the pid there is of another node, or there is none
  pub placed_off : (rows : List Row) (k : ℕ) (pid : Pid) → AreRows rows → slice_get (spread anywhere rows) (length (spread (front node) rows) + k) ≡ Some pid → at_node node pid ≡ false → slice_get (spread (at_node node) rows) k ≡ None
  placed_off rows k pid h e off = go (nat_le (length (spread (at_node node) rows)) k) refl
    where
      go : (b : Bool) → nat_le (length (spread (at_node node) rows)) k ≡ b → slice_get (spread (at_node node) rows) k ≡ None
      go true f = let i : length (spread (at_node node) rows) ≤ k = grind (arith, nat_tests) in past_end (spread (at_node node) rows) k i
      go false f = absurd (
          let i : k < length (spread (at_node node) rows) = grind (arith, nat_tests) in
          let on = all-get (λ q. at_node node q ≡ true) (spread (at_node node) rows) k pid (all-passed (at_node node) rows) (sym (placed node rows k h i) ∙ e) in
          cc)

  pub placed_none : (rows : List Row) (k : ℕ) → AreRows rows → slice_get (spread anywhere rows) (length (spread (front node) rows) + k) ≡ None → slice_get (spread (at_node node) rows) k ≡ None
  placed_none rows k h e = go (nat_le (length (spread (at_node node) rows)) k) refl
    where
      go : (b : Bool) → nat_le (length (spread (at_node node) rows)) k ≡ b → slice_get (spread (at_node node) rows) k ≡ None
      go true f = let i : length (spread (at_node node) rows) ≤ k = grind (arith, nat_tests) in past_end (spread (at_node node) rows) k i
      go false f = let i : k < length (spread (at_node node) rows) = grind (arith, nat_tests) in sym (placed node rows k h i) ∙ e
