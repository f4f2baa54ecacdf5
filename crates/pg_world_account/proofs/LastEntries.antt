-- Histories that are compared: the entries of a row, and one more behind them where there is one.
use Rattle.std.proofs.Common.{◌≡◌, Option, Some, None, List, [], ◌∷◌, ◌++◌, map, sym, ap, subst, ◌∙◌, append-nil}
use Rattle.std.specs.Prelude.{◌↔◌}
use Rattle.std.proofs.lemmas.List.{map-append, same_from_push}
use Rattle.pg_laws_losses.specs.PgLaws.History.{Entry as Recorded}
use Rattle.pg_world_account.specs.declared.entry.Entry.{Entry}
use Rattle.pg_world_account.specs.Histories.{as_entry, last_entries}

module _ (P : Type 0) (xs ys : List Recorded) (o p : Option Entry) where
  -- by the last entries of both
  along : (a b : Option Entry) → o ≡ a → p ≡ b → (P ↔ (xs ++ last_entries a ≡ ys ++ last_entries b)) → P ↔ (xs ++ last_entries o ≡ ys ++ last_entries p)
  along a b e f h =
      subst (λ (z : Option Entry). P ↔ (xs ++ last_entries z ≡ ys ++ last_entries p)) (sym e)
      (subst (λ (z : Option Entry). P ↔ (xs ++ last_entries a ≡ ys ++ last_entries z)) (sym f) h)

  pub with_none : o ≡ None → p ≡ None → (P ↔ (xs ≡ ys)) → P ↔ (xs ++ last_entries o ≡ ys ++ last_entries p)
  with_none e f h = along None None e f (
    λ t. append-nil xs ∙ (h.0 t ∙ sym (append-nil ys)),
    λ s. h.1 (sym (append-nil xs) ∙ (s ∙ append-nil ys)),
  )

  pub with_first : (x : Entry) → o ≡ Some x → p ≡ None → (P ↔ (ys ≡ xs ++ as_entry x ∷ [])) → P ↔ (xs ++ last_entries o ≡ ys ++ last_entries p)
  with_first x e f h = along (Some x) None e f (
    λ t. sym (h.0 t) ∙ sym (append-nil ys),
    λ s. h.1 (sym (s ∙ append-nil ys)),
  )

  pub with_second : (y : Entry) → o ≡ None → p ≡ Some y → (P ↔ (xs ≡ ys ++ as_entry y ∷ [])) → P ↔ (xs ++ last_entries o ≡ ys ++ last_entries p)
  with_second y e f h = along None (Some y) e f (
    λ t. append-nil xs ∙ h.0 t,
    λ s. h.1 (sym (append-nil xs) ∙ s),
  )

  pub with_both : (x y : Entry) → o ≡ Some x → p ≡ Some y → as_entry x ≡ as_entry y → (P ↔ (xs ≡ ys)) → P ↔ (xs ++ last_entries o ≡ ys ++ last_entries p)
  with_both x y e f same h = along (Some x) (Some y) e f (
    λ t i. h.0 t i ++ same i ∷ [],
    λ s. h.1 (same_from_push xs ys (as_entry x) (as_entry y) s).0,
  )

  pub with_others : (x y : Entry) → o ≡ Some x → p ≡ Some y → (P → ⊥) → (as_entry x ≡ as_entry y → ⊥) → P ↔ (xs ++ last_entries o ≡ ys ++ last_entries p)
  with_others x y e f not apart = along (Some x) (Some y) e f (
    λ t. absurd (not t),
    λ s. absurd (apart (same_from_push xs ys (as_entry x) (as_entry y) s).1),
  )

-- entries that end with one, before which these others stand
module _ (P : Type 0) (entries rest others : List Entry) (end last : Entry) (is : entries ≡ rest ++ end ∷ []) where
  split : map as_entry entries ≡ map as_entry rest ++ as_entry end ∷ []
  split = ap (λ (es : List Entry). map as_entry es) is ∙ map-append as_entry rest (end ∷ [])

  pub ends_so : as_entry end ≡ as_entry last → (P ↔ (map as_entry rest ≡ map as_entry others)) → P ↔ (map as_entry entries ≡ map as_entry others ++ as_entry last ∷ [])
  ends_so same h = (
    λ t. split ∙ (λ i. h.0 t i ++ same i ∷ []),
    λ s. h.1 (same_from_push (map as_entry rest) (map as_entry others) (as_entry end) (as_entry last) (sym split ∙ s)).0,
  )

  pub ends_otherwise : (P → ⊥) → (as_entry end ≡ as_entry last → ⊥) → P ↔ (map as_entry entries ≡ map as_entry others ++ as_entry last ∷ [])
  ends_otherwise not apart = (
    λ t. absurd (not t),
    λ s. absurd (apart (same_from_push (map as_entry rest) (map as_entry others) (as_entry end) (as_entry last) (sym split ∙ s)).1),
  )
