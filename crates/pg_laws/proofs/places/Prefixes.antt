-- What a world by names shows of the history, said of the world by places that shows it.
use Rattle.std.proofs.Common.{length-append, ◌≡◌, ℕ, ◌+◌, Bool, true, false, ◌&&◌, cond, nat_eq, length, map, List}
use Rattle.std.proofs.Common.{[], ◌∷◌, ◌++◌, Option, Some, None, refl, ap, sym, ◌∙◌, subst, arith, inl, inr, ◌⊎◌}
use Rattle.std.specs.Prelude.{take}
use Rattle.std.specs.List.{AllByRecursion, IsDistinct}
use Rattle.std.proofs.lemmas.Bool.{cases_eq, eq-eqb, ne_eqb}
use Rattle.std.proofs.lemmas.List.{length-map, map-append, take_all, take_at}
use Rattle.pg_term.specs.declared.term.Term.{Term}
use Rattle.pg_term.specs.Same.{same_atom, same_term}
use Rattle.pg_step.specs.PgGroup.declared.update.Update.{Update}
use Rattle.pg_step.specs.PgGroup.Value.{name_of}
use Rattle.pg_step.specs.declared.command.OpId.{OpId}
use Rattle.pg_step.specs.Nodes.{Node, Nodes}
use Rattle.pg_step.specs.Turns.{Report}
use Rattle.pg_step.specs.Attempts.{same_op}
use Rattle.pg_step.specs.Config.{Config, names_of, name_at}
use Rattle.pg_step.specs.FrameMachine.{FrameWorld}
use Rattle.pg_laws.specs.History.{Entry, entries, entry_of, of_group, history, updates_of, answered_count, is_op}
use Rattle.pg_laws.proofs.steps.Ways.{all_both}
use Rattle.pg_laws.proofs.locks.Telling.{answers-append}
use Rattle.pg_laws.proofs.places.Located.{same_names}
use Rattle.pg_laws.proofs.locks.Named.{World, answer_of, of_name, updates}
use Rattle.pg_laws.proofs.locks.Kept.{answers_of}
use Rattle.pg_laws.proofs.locks.Agreed.{IsAllButOne}
use Rattle.pg_laws.proofs.places.Shown.{IsHere, by_name, answers, ShowsAs}

-- ---- entries

module _ (config : Config) where
  names_kept : (N : Term) (es : List Entry) → of_name N (map (by_name config) es) ≡ map (by_name config) (of_group N es)
  names_kept N [] = refl
  names_kept N (e ∷ es) = go (same_term N (name_of e.update)) (names_kept N es)
    where
      go : (b : Bool) → of_name N (map (by_name config) es) ≡ map (by_name config) (of_group N es)
          → cond b (by_name config e ∷ of_name N (map (by_name config) es)) (of_name N (map (by_name config) es)) ≡ map (by_name config) (cond b (e ∷ of_group N es) (of_group N es))
      go true same = ap (λ xs. by_name config e ∷ xs) same
      go false same = same

  updates_kept : (es : List Entry) → updates (map (by_name config) es) ≡ updates_of es
  updates_kept [] = refl
  updates_kept (e ∷ es) = ap (λ us. e.update ∷ us) (updates_kept es)

  -- the nodes of entries are there
  entries_here : (reported : List (ℕ × Report)) → AllByRecursion (λ (t : ℕ × Report). IsHere config t.0) reported → AllByRecursion (λ (e : Entry). IsHere config e.node) (entries reported)
  entries_here [] all = tt
  entries_here (t ∷ ts) all = all_both (λ (e : Entry). IsHere config e.node) (entry_of t.0 t.1.began) (entries ts) (one t.1.began) (entries_here ts all.1)
    where
      one : (o : Option (OpId × Update)) → AllByRecursion (λ (e : Entry). IsHere config e.node) (entry_of t.0 o)
      one None = tt
      one (Some x) = (all.0, tt)

  group_here : (N : Term) (es : List Entry) → AllByRecursion (λ (e : Entry). IsHere config e.node) es → AllByRecursion (λ (e : Entry). IsHere config e.node) (of_group N es)
  group_here N [] all = tt
  group_here N (e ∷ es) all = go (same_term N (name_of e.update)) (group_here N es all.1)
    where
      go : (b : Bool) → AllByRecursion (λ (e : Entry). IsHere config e.node) (of_group N es) → AllByRecursion (λ (e : Entry). IsHere config e.node) (cond b (e ∷ of_group N es) (of_group N es))
      go true rest = (all.0, rest)
      go false rest = rest

  the_middle : (before after : List Entry) (e : Entry) → AllByRecursion (λ (e : Entry). IsHere config e.node) (before ++ e ∷ after) → IsHere config e.node
  the_middle [] after e all = all.0
  the_middle (x ∷ before) after e all = the_middle before after e all.1

  -- ---- answers

  module _ (apart : IsDistinct same_atom (names_of config)) where
    one_answer : (i j : ℕ) (op : OpId) (o : Option OpId) → IsHere config i → IsHere config j → answers_of (name_at config i) op (answer_of (name_at config j) o) ≡ cond (nat_eq j i && is_op op o) 1 0
    one_answer i j op None there here = go (nat_eq j i)
      where
        go : (b : Bool) → ◌≡◌ {A = ℕ} 0 (cond (b && false) 1 0)
        go true = refl
        go false = refl
    one_answer i j op (Some other) there here =
        let same : same_atom (name_at config i) (name_at config j) ≡ nat_eq j i = same_names config apart i j there here ∙ turned i j in
        ap (λ b. cond {A = ℕ} (b && same_op op other) 1 0 + 0) same ∙ no_more (cond (nat_eq j i && same_op op other) 1 0)
      where
        no_more : (n : ℕ) → n + 0 ≡ n
        no_more n = omega arith

        turned : (i j : ℕ) → nat_eq i j ≡ nat_eq j i
        turned i j = go (cases_eq i j)
          where
            go : (i ≡ j) ⊎ (i ≡ j → ⊥) → nat_eq i j ≡ nat_eq j i
            go (inl e) = eq-eqb i j e ∙ sym (eq-eqb j i (sym e))
            go (inr n) = ne_eqb i j n ∙ sym (ne_eqb j i (λ e. n (sym e)))

    answers_are : (i : ℕ) (op : OpId) (reported : List (ℕ × Report)) → IsHere config i → AllByRecursion (λ (t : ℕ × Report). IsHere config t.0) reported
        → answers_of (name_at config i) op (answers config reported) ≡ answered_count i op reported
    answers_are i op [] there all = refl
    answers_are i op (t ∷ ts) there all =
        answers-append (name_at config i) op (answer_of (name_at config t.0) t.1.answered) (answers config ts)
        ∙ (λ k. one_answer i t.0 op t.1.answered there all.0 k + answers_are i op ts there all.1 k)

-- ---- what a node has applied

-- all, or all but the last, is as much of a list as it is long
pub as_long : (xs ys : List Update) → IsAllButOne xs ys → xs ≡ take (length xs) ys
as_long xs ys (inl e) = sym (ap (take (length xs)) (sym e) ∙ take_all (length xs) xs (omega arith))
as_long xs ys (inr last) = sym (ap (take (length xs)) (sym last.1) ∙ take_at xs (last.0 ∷ []) (length xs) refl)

pub lengths : (xs ys : List Update) → IsAllButOne xs ys → (length xs ≡ length ys) ⊎ (length xs + 1 ≡ length ys)
lengths xs ys (inl e) = inl (ap length e)
lengths xs ys (inr last) = inr (sym (length-append xs (last.0 ∷ [])) ∙ ap length last.1)

module _ (config : Config) (apart : IsDistinct same_atom (names_of config)) {seat : ℕ → Nodes} {seen : Node → Node → Bool} (v : FrameWorld) (w : World) (shows : ShowsAs config seat seen v w)
    (places : AllByRecursion (λ (t : ℕ × Report). IsHere config t.0) v.reported) where
  pub group_shown : (N : Term) → of_name N w.history ≡ map (by_name config) (history N v.reported)
  group_shown N = ap (of_name N) shows.history ∙ names_kept config N (entries v.reported)

  pub updates_shown : (N : Term) → updates (of_name N w.history) ≡ updates_of (history N v.reported)
  updates_shown N = ap updates (group_shown N) ∙ updates_kept config (history N v.reported)

  pub answers_shown : (i : ℕ) (op : OpId) → IsHere config i → answers_of (name_at config i) op w.answered ≡ answered_count i op v.reported
  answers_shown i op here = ap (answers_of (name_at config i) op) shows.answered ∙ answers_are config apart i op v.reported here places

  pub split_shown : (N : Term) (before after : List Entry) (e : Entry) → history N v.reported ≡ before ++ e ∷ after → of_name N w.history ≡ map (by_name config) before ++ by_name config e ∷ map (by_name config) after
  split_shown N before after e is = group_shown N ∙ ap (map (by_name config)) is ∙ map-append (by_name config) before (e ∷ after)

  pub node_here : (N : Term) (before after : List Entry) (e : Entry) → history N v.reported ≡ before ++ e ∷ after → IsHere config e.node
  node_here N before after e is = the_middle config before after e
      (subst (AllByRecursion (λ (e : Entry). IsHere config e.node)) is (group_here config N (entries v.reported) (entries_here config v.reported places)))

  pub as_many_updates : (N : Term) → length (updates_of (history N v.reported)) ≡ length (history N v.reported)
  as_many_updates N = length-map (history N v.reported) (λ e. e.update)
