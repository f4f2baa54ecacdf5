-- Worlds that have the same of each group that is named have the same of every group.
use Rattle.std.proofs.Common.{◌≡◌, ℕ, suc, Bool, true, false, cond, nat_eq, ◌&&◌, ◌||◌, Option}
use Rattle.std.proofs.Common.{Some, None, List, [], ◌∷◌, ◌++◌, refl, sym, ap, subst, ◌∙◌, arith}
use Rattle.std.specs.Prelude.{is_some, IsSome}
use Rattle.std.specs.BTreeMap.{BTreeMap, get, keys}
use Rattle.std.specs.List.{All, AllByRecursion, list_any}
use Rattle.std.specs.Option.{option_map_or}
use Rattle.std.specs.Ordering.{eq_by_cmp}
use Rattle.pg_term.specs.declared.term.Term.{Term}
use Rattle.pg_term.specs.Same.{same_term, term_cmp}
use Rattle.pg_term.specs.contracts.term.TermOrd.TheImpl.Laws as term_order
use Rattle.pg_term.proofs.Same.{same_term as term_is}
use Rattle.pg_node_opens.specs.PgGroup.Value.{name_of}
use Rattle.pg_laws_losses.specs.PgLaws.History.{of_group}
use Rattle.pg_node_opens.proofs.Named.{clash}
use Rattle.pg_world_account.specs.declared.entry.Entry.{Entry}
use Rattle.pg_world_account.specs.declared.histories.Histories.{Histories}
use Rattle.pg_world_account.specs.declared.row.Row.{Row}
use Rattle.pg_world_account.specs.Agreeing.{HaveSameUpdates, IsNamedLast, AgreeOnNamed}
use Rattle.pg_world_account.specs.Histories.{account_of, as_entry, entries_of, count_at}
use Rattle.pg_world_account.specs.Histories.{history_in, applied_in, last_entries, last_count}

-- the same the other way round
pub turned : (count : ℕ) (one other : Histories) (name : Term) → HaveSameUpdates count (account_of one) (account_of other) name → HaveSameUpdates count (account_of other) (account_of one) name
turned count one other name h = record { history = sym h.history; applied = λ i within. sym (h.applied i within) }

-- ---- a group that is not named

-- the entry that is not in its row yet is of that group
is_last : Option Entry → Term → Bool
is_last None name = false
is_last (Some entry) name = same_term name (name_of entry.update)

last_named : (last : Option Entry) (name : Term) → is_last last name ≡ true → IsNamedLast last name
unfolding is_last
last_named None name e = clash (sym e)
last_named (Some entry) name e = sym (term_is name (name_of entry.update) e)

module _ (h : Histories) (name : Term) (no_row : get term_cmp h.rows name ≡ None) (not_last : is_last h.last name ≡ false) where
  no_entries : (last : Option Entry) → is_last last name ≡ false → of_group name (last_entries last) ≡ []
  unfolding is_last
  no_entries None e = refl
  no_entries (Some entry) e = ap (λ b. cond b (as_entry entry ∷ []) []) e

  no_count : (i : ℕ) (last : Option Entry) → is_last last name ≡ false → ◌≡◌ {A = ℕ} (last_count last i name) 0
  unfolding is_last
  no_count i None e = refl
  no_count i (Some entry) e = zero_of (nat_eq entry.node i) (same_term name (name_of entry.update)) e
    where
      zero_of : (b d : Bool) → d ≡ false → ◌≡◌ {A = ℕ} (cond (b && d) 1 0) 0
      zero_of true true f = absurd (clash f)
      zero_of true false f = refl
      zero_of false d f = refl

  unnamed_history : history_in h name ≡ []
  unnamed_history = (λ j. option_map_or entries_of (no_row j) [] ++ no_entries h.last not_last j)

  unnamed_applied : (i : ℕ) → ◌≡◌ {A = ℕ} (applied_in h i name) 0
  unnamed_applied i =
      let none : ◌≡◌ {A = ℕ} (option_map_or (λ (row : Row). count_at row.tally i) (get term_cmp h.rows name) 0) 0 = ap (λ (o : Option Row). option_map_or (λ (row : Row). count_at row.tally i) o 0) no_row in
      let last = no_count i h.last not_last in
      omega (arith, none, last)

-- ---- all groups

pub agree_on_all : (count : ℕ) (one other : Histories) → AgreeOnNamed count one other → AgreeOnNamed count other one → (name : Term) → HaveSameUpdates count (account_of one) (account_of other) name
agree_on_all count one other mine theirs name =
    go (get term_cmp one.rows name) (get term_cmp other.rows name) (is_last one.last name) (is_last other.last name) refl refl refl refl
  where
    go : (o p : Option Row) (b c : Bool) → get term_cmp one.rows name ≡ o → get term_cmp other.rows name ≡ p → is_last one.last name ≡ b → is_last other.last name ≡ c
        → HaveSameUpdates count (account_of one) (account_of other) name
    go (Some row) p b c e f l m = mine.rows name (ap (λ (r : Option Row). is_some r) e)
    go None (Some row) b c e f l m = turned count other one name (theirs.rows name (ap (λ (r : Option Row). is_some r) f))
    go None None true c e f l m = mine.last name (last_named one.last name l)
    go None None false true e f l m = turned count other one name (theirs.last name (last_named other.last name m))
    go None None false false e f l m = record {
      history = unnamed_history one name e l ∙ sym (unnamed_history other name f m);
      applied = λ i within. unnamed_applied one name e l i ∙ sym (unnamed_applied other name f m i);
    }

pub agree_on_named : (count : ℕ) (one other : Histories) → ((name : Term) → HaveSameUpdates count (account_of one) (account_of other) name) → AgreeOnNamed count one other
agree_on_named count one other all = record { last = λ name named. all name; rows = λ name named. all name }

-- ---- the entry that is not in its row yet

module _ (P : Term → Type 0) (last : Option Entry) where
  pub of_last : (entry : Entry) → last ≡ Some entry → P (name_of entry.update) → (name : Term) → IsNamedLast last name → P name
  of_last entry is p name named =
      let same : name_of entry.update ≡ name = subst (λ (o : Option Entry). IsNamedLast o name) is named in
      subst P same p

  pub at_last : (entry : Entry) → last ≡ Some entry → ((name : Term) → IsNamedLast last name → P name) → P (name_of entry.update)
  at_last entry is all = all (name_of entry.update) (subst (λ (o : Option Entry). IsNamedLast o (name_of entry.update)) (sym is) refl)

  pub of_none : last ≡ None → (name : Term) → IsNamedLast last name → P name
  of_none is name named = absurd (subst (λ (o : Option Entry). IsNamedLast o name) is named)

-- ---- rows

-- Of the names of all rows these are left: P holds of all if it holds of those that are left, and the other way round.
pub record AreLeft (P : Term → Type 0) (whole left : List Term) : Type 0 where
  pub forth : AllByRecursion P left → AllByRecursion P whole
  pub back : AllByRecursion P whole → AllByRecursion P left

module _ (P : Term → Type 0) (whole : List Term) where
  pub all_left : (left : List Term) → left ≡ whole → AreLeft P whole left
  all_left left is = record { forth = subst (AllByRecursion P) is; back = subst (AllByRecursion P) (sym is) }

  pub one_less : (name : Term) (before left : List Term) → before ≡ name ∷ left → P name → AreLeft P whole before → AreLeft P whole left
  one_less name before left is p h = record {
    forth = λ all. h.forth (subst (AllByRecursion P) (sym is) (p, all));
    back = λ all. let both : P name × AllByRecursion P left = subst (AllByRecursion P) is (h.back all) in both.1;
  }

  pub first_holds : (name : Term) (before left : List Term) → before ≡ name ∷ left → AreLeft P whole before → AllByRecursion P whole → P name
  first_holds name before left is h all = let both : P name × AllByRecursion P left = subst (AllByRecursion P) is (h.back all) in both.0

  pub none_left : (left : List Term) → left ≡ [] → AreLeft P whole left → AllByRecursion P whole
  none_left left is h = h.forth (subst (AllByRecursion P) (sym is) tt)

names_decide : (x y : Term) → eq_by_cmp term_cmp x y ≡ true → x ≡ y
names_decide x y e = term_is x y (term_order.matches_eq-law x y ∙ e)

module _ (P : Term → Type 0) (rows : BTreeMap Term Row) where
  among : (names : List Term) (q : Term) → list_any (eq_by_cmp term_cmp q) names ≡ true → AllByRecursion P names → P q
  among [] q e all = absurd (clash (sym e))
  among (name ∷ names) q e all = go (eq_by_cmp term_cmp q name) refl e (λ h. among names q h all.1)
    where
      go : (b : Bool) → eq_by_cmp term_cmp q name ≡ b → (b || list_any (eq_by_cmp term_cmp q) names) ≡ true → (list_any (eq_by_cmp term_cmp q) names ≡ true → P q) → P q
      go true is h later = subst P (sym (names_decide q name is)) all.0
      go false is h later = later h

  pub of_rows : ((q : Term) → is_some (get term_cmp rows q) ≡ list_any (eq_by_cmp term_cmp q) (keys rows)) → AllByRecursion P (keys rows) → (name : Term) → IsSome (get term_cmp rows name) → P name
  of_rows has all name there = among (keys rows) name (sym (has name) ∙ there) all

  each_there : (names : List Term) → All (λ name. IsSome (get term_cmp rows name)) names → ((name : Term) → IsSome (get term_cmp rows name) → P name) → AllByRecursion P names
  each_there [] found all = tt
  each_there (name ∷ names) found all = (all name (found 0 name (omega arith)), each_there names (λ k d below. found (suc k) d (omega arith)) all)

  pub at_rows : All (λ name. IsSome (get term_cmp rows name)) (keys rows) → ((name : Term) → IsSome (get term_cmp rows name) → P name) → AllByRecursion P (keys rows)
  at_rows found all = each_there (keys rows) found all
