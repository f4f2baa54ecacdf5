-- The locks after names changed their holders: those of a sorted list, and those beyond it.
use Rattle.std.proofs.Common.{◌≡◌, ℕ, ◌<◌, ◌≤◌, Bool, true, false, not, ◌&&◌, cond, if◌then◌else◌, Option}
use Rattle.std.proofs.Common.{Some, None, Result, Ok, Err, List, length, get_or, refl, sym, ap, subst, ◌∙◌}
use Rattle.std.proofs.Math.Path.{fun_ext}
use Rattle.std.specs.BTreeMap.{BTreeMap, get, is_at, IsOrdered, UpdatesBy}
use Rattle.std.specs.List.{filter, insert, remove}
use Rattle.std.specs.Map.{keys_of}
use Rattle.std.specs.Option.{is_some}
use Rattle.std.specs.Result.{OnOk, OnErr}
use Rattle.std.proofs.lemmas.Map.Entries.{option_filter, lookup-filter-values}
use Rattle.std.proofs.lemmas.Map.Keys.{IsDistinct-from_sorted}
use Rattle.pg_term.specs.declared.term.Term.{Term}
use Rattle.pg_term.specs.RefParts.{RefParts}
use Rattle.pg_term.specs.Same.{same_atom, same_term, term_cmp}
use Rattle.pg_term.specs.contracts.term.TermOrd.TheImpl.Laws as term_laws
use Rattle.pg_lock.specs.Holders.{AreSorted, AreApart, holder_among, holder_in, first_holder, IsPlace}
use Rattle.pg_lock.specs.Locks.{held, freed_of, without_node}
use Rattle.pg_lock.proofs.Sorted.{Holder, laws, named, found, absent, sorted_with}
use Rattle.pg_lock.proofs.Sorted.{among_with, sorted_without, among_without, sorted_passing}

abbrev Beyond : Type 0
Beyond = BTreeMap Term RefParts

-- a name has one holder at most
abbrev One : Option RefParts → Option RefParts → Type 0
One near far = (is_some near && is_some far) ≡ false

no_far : (near far : Option RefParts) → far ≡ None → One near far
no_far None far is = refl
no_far (Some holder) far is = ap is_some is

no_near : (near far : Option RefParts) → near ≡ None → One near far
no_near near far is = ap (λ h. is_some h && is_some far) is

-- who has one holder near has none far
pub far_free : (near far : Option RefParts) (holder : RefParts) → near ≡ Some holder → One near far → far ≡ None
far_free near None holder is one = refl
far_free near (Some far) holder is one = absurd (cc (sym (ap (λ h. is_some h && true) is) ∙ one))

pub near_free : (near far : Option RefParts) (holder : RefParts) → far ≡ Some holder → One near far → near ≡ None
near_free None far holder is one = refl
near_free (Some near) far holder is one = absurd (cc (sym (ap is_some is) ∙ one))

alone : (near far : Option RefParts) → far ≡ None → first_holder near far ≡ near
alone None far is = is
alone (Some holder) far is = refl

-- ---- one name changed its holder: near, or far

abbrev pub Changes : Term → Option RefParts → (Term → Option RefParts) → (Term → Option RefParts) → Type 0
Changes name holder before after = (other : Term) → after other ≡ cond (is_at (term_cmp name) other) holder (before other)

-- by whether another name is the one that changed
by_name : (name other : Term) (P : Bool → Type 0) → P false → (name ≡ other → P true) → P (is_at (term_cmp name) other)
by_name name other P apart same = go (is_at (term_cmp name) other) refl
  where
    go : (b : Bool) → is_at (term_cmp name) other ≡ b → P b
    go false e = apart
    go true e = same (named name other e)

is_same : (name other : Term) → same_term name other ≡ is_at (term_cmp name) other
is_same name other = term_laws.matches_eq-law name other

module _ (near far near' far' : Term → Option RefParts) (name : Term) (holder : Option RefParts) where
  pub near_changed : Changes name holder near near' → far name ≡ None → (λ n. first_holder (near' n) (far n)) ≡ held (λ n. first_holder (near n) (far n)) name holder
  unfolding held
  near_changed changed none = fun_ext (λ other.
      ap (λ h. first_holder h (far other)) (changed other)
      ∙ by_name name other (λ b. first_holder (cond b holder (near other)) (far other) ≡ cond b holder (first_holder (near other) (far other))) refl (λ e. alone holder (far other) (ap far (sym e) ∙ none))
      ∙ ap (λ b. cond b holder (first_holder (near other) (far other))) (sym (is_same name other)))

  pub far_changed : Changes name holder far far' → near name ≡ None → (λ n. first_holder (near n) (far' n)) ≡ held (λ n. first_holder (near n) (far n)) name holder
  unfolding held
  far_changed changed none = fun_ext (λ other.
      ap (first_holder (near other)) (changed other)
      ∙ by_name name other (λ b. first_holder (near other) (cond b holder (far other)) ≡ cond b holder (first_holder (near other) (far other))) refl (λ e. ap (λ h. first_holder h holder) (ap near (sym e) ∙ none))
      ∙ ap (λ b. cond b holder (first_holder (near other) (far other))) (sym (is_same name other)))

  pub near_apart : Changes name holder near near' → far name ≡ None → ((n : Term) → One (near n) (far n)) → (n : Term) → One (near' n) (far n)
  near_apart changed none one other = ap (λ h. is_some h && is_some (far other)) (changed other)
      ∙ by_name name other (λ b. One (cond b holder (near other)) (far other)) (one other) (λ e. no_far holder (far other) (ap far (sym e) ∙ none))

  pub far_apart : Changes name holder far far' → near name ≡ None → ((n : Term) → One (near n) (far n)) → (n : Term) → One (near n) (far' n)
  far_apart changed none one other = ap (λ h. is_some (near other) && is_some h) (changed other)
      ∙ by_name name other (λ b. One (near other) (cond b holder (far other))) (one other) (λ e. no_near (near other) holder (ap near (sym e) ∙ none))

-- ---- the holders that are not of a node were kept

abbrev pub is_left : List ℕ → Holder → Bool
is_left node e = not (same_atom node e.1.node)

pub among_kept : (node : List ℕ) (es : List Holder) → AreSorted es → (name : Term) → holder_among (filter (is_left node) es) name ≡ freed_of node (holder_among es name)
among_kept node es sorted name = lookup-filter-values laws (λ holder. not (same_atom node holder.node)) name es (IsDistinct-from_sorted term_cmp (keys_of es) sorted) ∙ left (holder_among es name)
  where
    left : (o : Option RefParts) → option_filter (λ holder. not (same_atom node holder.node)) o ≡ freed_of node o
    left None = refl
    left (Some holder) = go (same_atom node holder.node)
      where
        go : (b : Bool) → cond (not b) (Some holder) None ≡ cond b None (Some holder)
        go true = refl
        go false = refl

one_freed : (node : List ℕ) (near far : Option RefParts) → One near far → One (freed_of node near) (freed_of node far)
one_freed node None far one = refl
one_freed node (Some holder) None one = no_far (freed_of node (Some holder)) None refl
one_freed node (Some holder) (Some other) one = absurd (cc one)

first_freed : (node : List ℕ) (near far : Option RefParts) → One near far → first_holder (freed_of node near) (freed_of node far) ≡ freed_of node (first_holder near far)
first_freed node None far one = refl
first_freed node (Some holder) None one = alone (freed_of node (Some holder)) None refl
first_freed node (Some holder) (Some other) one = absurd (cc one)

module _ (node : List ℕ) (es fs : List Holder) (before after : Beyond) (sorted : AreSorted es) (ordered : IsOrdered term_cmp before) (near : fs ≡ filter (is_left node) es) (far : after.entries ≡ filter (is_left node) before.entries) where
  near_is : (name : Term) → holder_among fs name ≡ freed_of node (holder_among es name)
  near_is name = ap (λ l. holder_among l name) near ∙ among_kept node es sorted name

  far_is : (name : Term) → get term_cmp after name ≡ freed_of node (get term_cmp before name)
  far_is name = ap (λ l. holder_among l name) far ∙ among_kept node before.entries ordered name

  pub kept_apart : AreApart es before → AreApart fs after
  kept_apart one name = (λ i. is_some (near_is name i) && is_some (far_is name i)) ∙ one_freed node (holder_among es name) (get term_cmp before name) (one name)

  pub kept_without : AreApart es before → holder_in fs after ≡ without_node (holder_in es before) node
  kept_without one = fun_ext (λ name. (λ i. first_holder (near_is name i) (far_is name i)) ∙ first_freed node (holder_among es name) (get term_cmp before name) (one name))

  pub kept_sorted : AreSorted fs
  kept_sorted = subst AreSorted (sym near) (sorted_passing (is_left node) es sorted)

-- ---- one more name, or none where memory was short

module _ (name : Term) (holder : RefParts) (es : List Holder) (i : ℕ) (sorted : AreSorted es) (within : i ≤ length es) (place : IsPlace es name (Err i)) where
  no_holder : holder_among es name ≡ None
  no_holder = absent es name i sorted within place

  module _ (beyond : Beyond) (free : get term_cmp beyond name ≡ None) (one : AreApart es beyond) where
    pub with_near : (other : Term) → holder_among (insert es i (name, holder)) other ≡ cond (is_at (term_cmp name) other) (Some holder) (holder_among es other)
    with_near = among_with name holder es i no_holder

    pub near_put : (xs : List Holder) → xs ≡ insert es i (name, holder) → holder_in xs beyond ≡ held (holder_in es beyond) name (Some holder)
    near_put xs is = near_changed (holder_among es) (get term_cmp beyond) (holder_among xs) (get term_cmp beyond) name (Some holder) (λ other. ap (λ l. holder_among l other) is ∙ with_near other) free

    pub near_tried : (xs : List Holder) (put : Bool) → xs ≡ (if put then insert es i (name, holder) else es) → record { ordered : AreSorted xs; apart : AreApart xs beyond }
    near_tried xs true is = record {
      ordered = subst AreSorted (sym is) (sorted_with name holder es i sorted within place);
      apart = near_apart (holder_among es) (get term_cmp beyond) (holder_among xs) (get term_cmp beyond) name (Some holder) (λ other. ap (λ l. holder_among l other) is ∙ with_near other) free one;
    }
    near_tried xs false is = record { ordered = subst AreSorted (sym is) sorted; apart = subst (λ l. AreApart l beyond) (sym is) one }

    pub far_put : (after : Beyond) → UpdatesBy term_cmp (term_cmp name) beyond after (Some holder) → holder_in es after ≡ held (holder_in es beyond) name (Some holder)
    far_put after updates = far_changed (holder_among es) (get term_cmp beyond) (holder_among es) (get term_cmp after) name (Some holder) updates.0 no_holder

    pub far_tried : {A E : Type 0} (after : Beyond) (put : Result A E) → OnOk put (UpdatesBy term_cmp (term_cmp name) beyond after (Some holder)) → OnErr put (after.entries ≡ beyond.entries) → record { ordered : AreSorted es; apart : AreApart es after }
    far_tried after (Ok v) updates same = record { ordered = sorted; apart = far_apart (holder_among es) (get term_cmp beyond) (holder_among es) (get term_cmp after) name (Some holder) updates.0 no_holder one }
    far_tried after (Err e) updates same = record { ordered = sorted; apart = λ n. ap (λ l. is_some (holder_among es n) && is_some (holder_among l n)) same ∙ one n }

-- ---- one name less

module _ (name : Term) (es : List Holder) (beyond : Beyond) (sorted : AreSorted es) (one : AreApart es beyond) where
  module _ (i : ℕ) (within : i < length es) (place : IsPlace es name (Ok i)) (e : Holder) (at : e ≡ get_or es i e) where
    pub here : holder_among es name ≡ Some e.1
    here = found es name i sorted within place e at

    none_far : get term_cmp beyond name ≡ None
    none_far = far_free (holder_among es name) (get term_cmp beyond name) e.1 here (one name)

    pub near_taken : (xs : List Holder) → xs ≡ remove es i → holder_in xs beyond ≡ held (holder_in es beyond) name None
    near_taken xs is = near_changed (holder_among es) (get term_cmp beyond) (holder_among xs) (get term_cmp beyond) name None (λ other. ap (λ l. holder_among l other) is ∙ among_without name es i sorted within place other) none_far

    pub near_left : (xs : List Holder) → xs ≡ remove es i → record { ordered : AreSorted xs; apart : AreApart xs beyond }
    near_left xs is = record {
      ordered = subst AreSorted (sym is) (sorted_without es i sorted);
      apart = near_apart (holder_among es) (get term_cmp beyond) (holder_among xs) (get term_cmp beyond) name None (λ other. ap (λ l. holder_among l other) is ∙ among_without name es i sorted within place other) none_far one;
    }

  module _ (i : ℕ) (within : i ≤ length es) (place : IsPlace es name (Err i)) where
    pub not_near : holder_among es name ≡ None
    not_near = absent es name i sorted within place

    pub far_taken : (after : Beyond) → UpdatesBy term_cmp (term_cmp name) beyond after None → holder_in es after ≡ held (holder_in es beyond) name None
    far_taken after updates = far_changed (holder_among es) (get term_cmp beyond) (holder_among es) (get term_cmp after) name None updates.0 not_near

    pub far_left : (after : Beyond) → UpdatesBy term_cmp (term_cmp name) beyond after None → record { ordered : AreSorted es; apart : AreApart es after }
    far_left after updates = record { ordered = sorted; apart = far_apart (holder_among es) (get term_cmp beyond) (holder_among es) (get term_cmp after) name None updates.0 not_near one }
