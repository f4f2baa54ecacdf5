-- live nodes have applied all updates of a group of which no lost node has one, where one of them sees its lock free.
use Rattle.std.proofs.Common.{◌≡◌, ◌⊎◌, inl, inr, ℕ, ◌+◌, ◌≤◌, zero, suc, Bool, true, false, ◌&&◌, cond}
use Rattle.std.proofs.Common.{nat_eq, List, [], ◌∷◌, ◌++◌, None, refl, ap, sym, ◌∙◌, subst, arith}
use Rattle.std.specs.List.{AllByRecursion, IsDistinct}
use Rattle.std.proofs.lemmas.Bool.{eq-eqb}
use Rattle.pg_term.specs.declared.term.Term.{Term}
use Rattle.pg_term.specs.Same.{same_atom, same_term}
use Rattle.pg_laws.specs.PgGroup.Value.{name_of}
use Rattle.pg_laws.specs.PgRefs.Numbered.{numbered}
use Rattle.pg_laws.specs.PgLock.Locks.{is_holder}
use Rattle.pg_laws.specs.PgStep.Machines.Losing.{LosingEvent}
use Rattle.pg_laws.specs.PgStep.Attempts.{same_op}
use Rattle.pg_laws.specs.PgStep.declared.command.OpId.{OpId}
use Rattle.pg_laws.specs.PgStep.Config.{Config, name_at, names_of}
use Rattle.pg_laws.specs.PgStep.LossLaws.{LosingFrameWorld}
use Rattle.pg_laws.specs.PgStep.Step.{Action}
use Rattle.pg_laws.specs.History.{Entry, answered_count, applied_by, entries, history, of_group, times, updates_of}
use Rattle.pg_laws.specs.WithLosses.{Marked, all_entries, has_seen, left_of, left_out}
use Rattle.pg_laws.proofs.places.Prefixes.{node_here}
use Rattle.pg_laws.proofs.places.Shown.{IsHere}
use Rattle.pg_laws_losses.specs.Reached.{LosingReaches}
use Rattle.pg_laws_losses.specs.Survived.{OneHistoryPastLosses}
use Rattle.pg_laws_losses.specs.Thinned.{AppliesThinned}
use Rattle.pg_laws_losses.proofs.Bridge.{not_true, whole_of}
use Rattle.pg_laws_losses.proofs.Bridges.{Bridged, bridged}
use Rattle.pg_laws_losses.proofs.Lossy.{bare}
use Rattle.pg_laws_losses.specs.Remains.Heard.{NoneOfLost}
use Rattle.pg_laws_losses.proofs.Remains.Passing.{EachKeeps}

-- ---- marks

-- none is left out, where none may be
kept_whole : (among : ℕ → Bool) (marked : Marked) → ((node : ℕ) → left_out node marked ≤ cond {A = ℕ} (among node) 1 0) → AllByRecursion (λ (e : Entry). among e.node ≡ false) (all_entries marked) → left_of marked ≡ all_entries marked
kept_whole among [] few all = refl
kept_whole among (m ∷ ms) few all = go m.1 refl (kept_whole among ms fewer all.1)
  where
    fewer : (node : ℕ) → left_out node ms ≤ cond {A = ℕ} (among node) 1 0
    fewer node = let f = few node in omega (arith, f)

    go : (b : Bool) → m.1 ≡ b → left_of ms ≡ all_entries ms → cond m.1 (m.0 ∷ left_of ms) (left_of ms) ≡ m.0 ∷ all_entries ms
    go true is rest = ap (λ b. cond b (m.0 ∷ left_of ms) (left_of ms)) is ∙ ap (λ xs. m.0 ∷ xs) rest
    go false is rest =
        let out : cond {A = ℕ} (nat_eq m.0.node m.0.node && cond m.1 false true) 1 0 ≡ 1 = (λ k. cond {A = ℕ} (eq-eqb m.0.node m.0.node refl k && cond (is k) false true) 1 0) in
        let none : cond {A = ℕ} (among m.0.node) 1 0 ≡ 0 = ap (λ b. cond {A = ℕ} b 1 0) all.0 in
        let f = few m.0.node in
        absurd (omega (arith, out, none, f))

-- what is so of each place of a list is so of all
by_places : (P : Entry → Type 0) (xs : List Entry) → ((before after : List Entry) (e : Entry) → xs ≡ before ++ e ∷ after → P e) → AllByRecursion P xs
by_places P [] each = tt
by_places P (x ∷ xs) each = (each [] xs x refl, by_places P xs (λ before after e is. each (x ∷ before) after e (ap (λ ys. x ∷ ys) is)))

first_ones : (P : Entry → Type 0) (xs ys : List Entry) → AllByRecursion P (xs ++ ys) → AllByRecursion P xs
first_ones P [] ys all = tt
first_ones P (x ∷ xs) ys all = (all.0, first_ones P xs ys all.1)

-- ---- how often a command stands

times-append : (i : ℕ) (op : OpId) (xs ys : List Entry) → times i op (xs ++ ys) ≡ times i op xs + times i op ys
times-append i op [] ys = omega arith
times-append i op (x ∷ xs) ys = let rest = times-append i op xs ys in omega (arith, rest)

times_of_group : (i : ℕ) (op : OpId) (name : Term) (es : List Entry) → times i op (of_group name es) ≤ times i op es
times_of_group i op name [] = omega arith
times_of_group i op name (e ∷ es) = go (same_term name (name_of e.update)) (times_of_group i op name es)
  where
    go : (b : Bool) → times i op (of_group name es) ≤ times i op es → times i op (cond b (e ∷ of_group name es) (of_group name es)) ≤ cond {A = ℕ} (nat_eq e.node i && same_op op e.op) 1 0 + times i op es
    go true rest = omega (arith, rest)
    go false rest = omega (arith, rest)

same_op_itself : (op : OpId) → same_op op op ≡ true
same_op_itself op = ap (λ b. b && nat_eq op.number op.number) (eq-eqb op.port op.port refl) ∙ eq-eqb op.number op.number refl

itself : (e : Entry) → cond {A = ℕ} (nat_eq e.node e.node && same_op e.op e.op) 1 0 ≡ 1
itself e = (λ k. cond {A = ℕ} (eq-eqb e.node e.node refl k && same_op_itself e.op k) 1 0)

-- twice
stands_twice : (kept later : List Entry) (e : Entry) → 2 ≤ times e.node e.op ((kept ++ e ∷ later) ++ e ∷ [])
stands_twice kept later e =
    let a = times-append e.node e.op (kept ++ e ∷ later) (e ∷ []) in
    let b = times-append e.node e.op kept (e ∷ later) in
    let one = itself e in
    omega (arith, a, b, one)

-- ---- a world

module _ (law : EachKeeps) (config : Config) (apart : IsDistinct same_atom (names_of config)) (es : List (LosingEvent Action)) (w : LosingFrameWorld) (l : LosingReaches config es w) (name : Term)
    (none : NoneOfLost w name) (x : ℕ) (there : IsHere config x) (left : w.gone x ≡ false) (free : (w.world.node x).state.locks name ≡ None) where
  all : OneHistoryPastLosses config es w
  all = law config w es apart l

  bridge : Bridged config apart (bare w)
  bridge = bridged config apart es w l

  node_there : (before after : List Entry) (e : Entry) → history name w.world.reported ≡ before ++ e ∷ after → IsHere config e.node
  node_there before after e is = node_here config apart (whole_of config apart (bare w) bridge.has.ways) bridge.has.world bridge.has.shows bridge.places name before after e is

  -- of a node that is not lost no loss is seen
  unseen : (i j : ℕ) → IsHere config i → IsHere config j → w.gone j ≡ false → has_seen config w i j ≡ false
  unseen i j hi hj alive = not_true (has_seen config w i j) (λ seen.
      let gone : w.gone j ≡ true = bridge.has.gone (name_at config i) j hj (bridge.has.sees i (name_at config j) hi ∙ seen) in absurd (cc (sym alive ∙ gone)))

  module _ (i : ℕ) (here : IsHere config i) (lives : w.gone i ≡ false) where
    a : AppliesThinned config w i name
    a = all.applies i name here lives

    unseen_all : AllByRecursion (λ (e : Entry). has_seen config w i e.node ≡ false) (history name w.world.reported)
    unseen_all = by_places (λ (e : Entry). has_seen config w i e.node ≡ false) (history name w.world.reported) (λ before after e is. unseen i e.node here (node_there before after e is) (none before after e is))

    unseen_before : AllByRecursion (λ (e : Entry). has_seen config w i e.node ≡ false) a.before
    unseen_before = go a.whole
      where
        go : (a.before ≡ history name w.world.reported) ⊎ ((last : Entry) × (a.before ++ last ∷ [] ≡ history name w.world.reported)) → AllByRecursion (λ (e : Entry). has_seen config w i e.node ≡ false) a.before
        go (inl whole) = subst (AllByRecursion (λ (e : Entry). has_seen config w i e.node ≡ false)) (sym whole) unseen_all
        go (inr (last, whole)) = first_ones (λ (e : Entry). has_seen config w i e.node ≡ false) a.before (last ∷ []) (subst (AllByRecursion (λ (e : Entry). has_seen config w i e.node ≡ false)) (sym whole) unseen_all)

    thin_is : a.thin ≡ a.before
    thin_is = sym a.thinned.stay ∙ (kept_whole (has_seen config w i) a.thinned.marked a.thinned.few (subst (AllByRecursion (λ (e : Entry). has_seen config w i e.node ≡ false)) (sym a.thinned.all) unseen_before) ∙ a.thinned.all)

    -- the last is not left out: where it is not answered its node holds the lock
    last_in : (last : Entry) → a.before ++ last ∷ [] ≡ history name w.world.reported → (n : ℕ) → answered_count last.node last.op w.world.reported ≡ n → ⊥
    last_in last whole zero is =
        let alive : w.gone last.node ≡ false = none a.before [] last (sym whole) in
        let stands = all.unanswered name a.before [] last (sym whole) is alive in
        let held : is_holder ((w.world.node x).state.locks name) (numbered (name_at config last.node) stands.granted.0) ≡ true =
        stands.granted.1 x there (unseen last.node x (node_there a.before [] last (sym whole)) there left) in
        absurd (cc (sym (ap (λ o. is_holder o (numbered (name_at config last.node) stands.granted.0)) free) ∙ held))
    last_in last whole (suc n) is =
        let stays = a.answered last a.before [] (sym whole) (omega (arith, is)) in
        let parts : history name w.world.reported ≡ (stays.0 ++ last ∷ stays.1) ++ last ∷ [] = sym whole ∙ ap (λ xs. xs ++ last ∷ []) (sym thin_is ∙ stays.2) in
        let two : 2 ≤ times last.node last.op (history name w.world.reported) = subst (λ xs. 2 ≤ times last.node last.op xs) (sym parts) (stands_twice stays.0 stays.1 last) in
        let few : times last.node last.op (history name w.world.reported) ≤ times last.node last.op (entries w.world.reported) = times_of_group last.node last.op name (entries w.world.reported) in
        let once = all.stands.at_most_once last.node last.op in
        absurd (omega (arith, two, few, once))

    -- so it has applied them all
    pub all_applied : applied_by i name w.world.reported ≡ updates_of (history name w.world.reported)
    all_applied = sym a.applied ∙ ap updates_of (thin_is ∙ go a.whole)
      where
        go : (a.before ≡ history name w.world.reported) ⊎ ((last : Entry) × (a.before ++ last ∷ [] ≡ history name w.world.reported)) → a.before ≡ history name w.world.reported
        go (inl whole) = whole
        go (inr (last, whole)) = absurd (last_in last whole (answered_count last.node last.op w.world.reported) refl)
