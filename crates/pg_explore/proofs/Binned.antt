-- Bins of which one is changed.
use Rattle.std.proofs.Common.{◌≡◌, ◌<◌, ap, refl, ℕ, zero, suc, List, [], ◌∷◌, ◌++◌, length, arith, subst, sym}
use Rattle.std.proofs.lemmas.List.Elements.{Contains-append_left, Contains-push}
use Rattle.std.specs.Prelude.{slice_get, slice_set, Option, Some, Result, Ok, Err, OnOk, OnErr, get_or}
use Rattle.std.proofs.lemmas.Option.{slice_get_read}
use Rattle.std.specs.List.{Contains}
use Rattle.std.specs.Option.{option_map_or}
use Rattle.pg_explore.specs.declared.bins.Bin.{Bin}
use Rattle.pg_explore.specs.declared.bins.Spot.{Spot}
use Rattle.pg_explore.specs.Bins.{spots_in}

abbrev pub spots_at : List Bin → ℕ → List Spot
spots_at bins i = option_map_or spots_in (slice_get bins i) []

pub kept_set : (bins : List Bin) (i : ℕ) (b : Bin) → ((spot : Spot) → Contains (spots_at bins i) spot → Contains (spots_in b) spot) → (j : ℕ) (spot : Spot) → Contains (spots_at bins j) spot
    → Contains (spots_at (slice_set bins i b) j) spot
kept_set [] i b h j spot c = c
kept_set (a ∷ bins) zero b h zero spot c = h spot c
kept_set (a ∷ bins) zero b h (suc j) spot c = c
kept_set (a ∷ bins) (suc i) b h zero spot c = c
kept_set (a ∷ bins) (suc i) b h (suc j) spot c = kept_set bins i b h j spot c

pub added_set : (bins : List Bin) (i : ℕ) (b : Bin) (spot : Spot) → i < length bins → Contains (spots_in b) spot → Contains (spots_at (slice_set bins i b) i) spot
added_set [] i b spot l c = absurd (omega (arith, l))
added_set (a ∷ bins) zero b spot l c = c
added_set (a ∷ bins) (suc i) b spot l c = added_set bins i b spot (omega (arith, l)) c

-- what stood in a bin stands there still, whether one was added or not
pub kept_by : {E : Type 0} (result : Result (Unit {0}) E) (bins : List Bin) (i : ℕ) (old new : Bin) (spot : Spot) → i < length bins → old ≡ get_or bins i old
    → OnOk result (spots_in new ≡ spots_in old ++ spot ∷ []) → OnErr result (spots_in new ≡ spots_in old) → (other : Spot) → Contains (spots_at bins i) other → Contains (spots_in new) other
kept_by (Ok done) bins i old new spot l at ok err other c = subst (λ xs. Contains xs other) (sym ok) (Contains-append_left (spots_in old) (spot ∷ []) other (there bins i old other l at c))
  where
    there : (bins : List Bin) (i : ℕ) (old : Bin) (other : Spot) → i < length bins → old ≡ get_or bins i old → Contains (spots_at bins i) other → Contains (spots_in old) other
    there bins i old other l at c = subst (λ (o : Option Bin). Contains (option_map_or spots_in o []) other) (slice_get_read bins _ i old refl l at) c
kept_by (Err e) bins i old new spot l at ok err other c = subst (λ xs. Contains xs other) (sym err) (there bins i old other l at c)
  where
    there : (bins : List Bin) (i : ℕ) (old : Bin) (other : Spot) → i < length bins → old ≡ get_or bins i old → Contains (spots_at bins i) other → Contains (spots_in old) other
    there bins i old other l at c = subst (λ (o : Option Bin). Contains (option_map_or spots_in o []) other) (slice_get_read bins _ i old refl l at) c

pub added_by : {E : Type 0} (result : Result (Unit {0}) E) (bins : List Bin) (i j : ℕ) (old new : Bin) (spot : Spot) → i < length bins → i ≡ j → OnOk result (spots_in new ≡ spots_in old ++ spot ∷ [])
    → OnOk result (Contains (spots_at (slice_set bins i new) j) spot)
added_by (Ok done) bins i j old new spot l e ok = subst (λ k. Contains (spots_at (slice_set bins i new) k) spot) e (added_set bins i new spot l (subst (λ xs. Contains xs spot) (sym ok) (Contains-push (spots_in old) spot)))
added_by (Err f) bins i j old new spot l e ok = tt
