-- How a term may hold the `Fields` that hold it: as `Items` may be held, which are their one field. They compare by how
-- many they are first, before and after each element is mapped.
use Rattle.std.specs.Prelude.{◌&&◌, Some, map, nat_eq}
use Rattle.std.specs.Cmp.Derive.Mapped.{pointwise-map, lex_map, slice_partial_cmp-map}
use Rattle.std.specs.Ordering.{nat_cmp, ordering_then, partial_ordering_then}
use Rattle.std.specs.declared.cmp.Ord as total
use Rattle.std.specs.declared.cmp.PartialEq as equal
use Rattle.std.specs.declared.cmp.PartialOrd as partial
use Rattle.pg_term.specs.Arity.{arity_eq, arity_cmp, arity_partial_cmp}
use Rattle.pg_term.specs.contracts.fields.Fields as contract
use Rattle.pg_term.specs.declared.fields.Fields.TheInside.{Inside}
use Rattle.pg_term.specs.declared.fields.Fields.TheView as shown
use Rattle.pg_term.specs.formers.items.Items as items
use denote.Hole.Carrier.{listed}
use denote.Hole.Fix.{over}
use denote.HoleLaws.{Alike}
use denote.HolePlaces.{Recodes, struct_places, laid}
use denote.Model.Placed.{view_places}
use denote.Param.Weighed.{Weighed}
use denote.RattleType.{RattleType}
use lib.ListN.{length-map}
use mathlib.Core.Former.{Former, this, list, via, children}
use mathlib.Core.List.{List}
use mathlib.Core.Path.{◌≡◌, refl}

-- ---- as `Items`

abbrev pub the_former : Former {0} → Former {0}
the_former = items.the_former

abbrev pub the_weighed : {element : Former {0}} → Weighed element → Weighed (the_former element)
the_weighed = items.the_weighed

abbrev pub the_items : (X : Type 0) → List X → List X
the_items = items.the_items

pub the_items_listed : (X : Type 0) (held : List X) → listed _ (children (the_former this) X held) ≡ the_items X held
the_items_listed = items.the_items_listed

pub the_empty : List ⊥
the_empty = items.the_empty

abbrev inside : Former {0}
inside = via (items.the_former this) Inside (λ X held. held.elements) (λ X held. record { elements = held }) (λ X held. refl) (λ X held. refl)

module _ (A B : RattleType) (h : A.Denot → B.Denot) where
  abbrev along : List A.Denot → List B.Denot
  along = (the_former this).map A.Denot B.Denot h

  pub the_codes_placed : Recodes A B h → Recodes (contract.the_row A) (contract.the_row B) along
  the_codes_placed = items.the_codes_placed A B h

  pub the_places : Alike A B h → Alike (contract.the_row A) (contract.the_row B) along
  the_places alike =
      let field = items.the_places A B h alike in
      view_places inside (list this) shown.view (λ X Y k held. refl) (λ X held. refl) A.Denot B.Denot h (contract.the_row A).coded (contract.the_row B).coded
      (shown.invariant A.Denot) (shown.invariant B.Denot) (λ held p q. refl) (λ held p q. refl) (λ held e. tt) (λ held e. tt)
      (over (contract.TheInside.the_row A)) (over (contract.TheInside.the_row B))
      (struct_places (contract.TheInside.the_type A) (contract.TheInside.the_type B) (along, tt) _ (λ d. refl) refl (laid _ _ _ field, tt))

-- ---- by how many they are first

module _ (X Y : Type 0) (h : X → Y) where
  pub the_eq_natural : (E : equal.Ghosts Y) (a b : List X) → arity_eq E.eq (map h a) (map h b) ≡ arity_eq (λ x y. E.eq (h x) (h y)) a b
  the_eq_natural E a b = λ i. nat_eq (length-map a h i) (length-map b h i) && pointwise-map h E.eq a b i

  pub the_partial_cmp_natural : (C : partial.Ghosts Y) (E : equal.Ghosts Y) (a b : List X) → arity_partial_cmp C.partial_cmp (map h a) (map h b) ≡ arity_partial_cmp (λ x y. C.partial_cmp (h x) (h y)) a b
  the_partial_cmp_natural C E a b = λ i. partial_ordering_then (Some (nat_cmp (length-map a h i) (length-map b h i))) (slice_partial_cmp-map h C.partial_cmp a b i)

  pub the_cmp_natural : (O : total.Ghosts Y) (E : equal.Ghosts Y) (C : partial.Ghosts Y) (a b : List X) → arity_cmp O.cmp (map h a) (map h b) ≡ arity_cmp (λ x y. O.cmp (h x) (h y)) a b
  the_cmp_natural O E C a b = λ i. ordering_then (nat_cmp (length-map a h i) (length-map b h i)) (lex_map h O.cmp a b i)
