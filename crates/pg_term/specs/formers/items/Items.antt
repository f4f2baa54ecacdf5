-- How a term may hold the `Items` that hold it: they are made of their elements and nothing else, and lie in memory as
-- their one field does, a vector of the elements that they are seen as.
use Rattle.std.specs.declared.alloc.Global.{Global}
use Rattle.std.specs.contracts.alloc.Global as on_heap
use Rattle.std.specs.contracts.impls.GlobalAllocator.TheImpl as allocator
use Rattle.std.specs.formers.vec.Vec as vector
use Rattle.pg_term.specs.contracts.items.Items as contract
use Rattle.pg_term.specs.declared.items.Items.TheInside.{Inside}
use Rattle.pg_term.specs.declared.items.Items.TheView as shown
use base.Stored.{code_map}
use denote.Hole.Carrier.{listed, list-listed}
use denote.Hole.Fix.{over}
use denote.HoleLaws.{Alike}
use denote.HolePlaces.{Recodes, struct_places, laid}
use denote.Model.Placed.{view_places}
use denote.Param.Weighed.{Weighed, w_list}
use denote.RattleType.{RattleType}
use mathlib.Core.Former.{Former, this, list, via, children}
use mathlib.Core.List.{List, []}
use mathlib.Core.Path.{◌≡◌, refl, sym}

-- ---- what they are made of

abbrev pub the_former : Former {0} → Former {0}
the_former element = list element

abbrev pub the_weighed : {element : Former {0}} → Weighed element → Weighed (the_former element)
the_weighed = w_list

abbrev pub the_items : (X : Type 0) → List X → List X
the_items X held = held

pub the_items_listed : (X : Type 0) (held : List X) → listed _ (children (the_former this) X held) ≡ the_items X held
the_items_listed = list-listed

pub the_empty : List ⊥
the_empty = []

-- ---- where they lie

abbrev inside : Former {0}
inside = via (vector.the_former this Global) Inside (λ X held. held.elements) (λ X held. record { elements = held }) (λ X held. refl) (λ X held. refl)

module _ (A B : RattleType) (h : A.Denot → B.Denot) where
  abbrev along : List A.Denot → List B.Denot
  along = (the_former this).map A.Denot B.Denot h

  pub the_codes_placed : Recodes A B h → Recodes (contract.the_row A) (contract.the_row B) along
  the_codes_placed codes held = sym (code_map A.coded.code B.coded.code h (λ x. sym (codes x)) held)

  pub the_places : Alike A B h → Alike (contract.the_row A) (contract.the_row B) along
  the_places alike =
      let field = vector.the_places on_heap.the_row allocator.ghosts A B h alike in
      view_places inside (list this) shown.view (λ X Y k held. refl) (λ X held. refl) A.Denot B.Denot h (contract.the_row A).coded (contract.the_row B).coded
      (shown.invariant A.Denot) (shown.invariant B.Denot) (λ held p q. refl) (λ held p q. refl) (λ held e. tt) (λ held e. tt)
      (over (contract.TheInside.the_row A)) (over (contract.TheInside.the_row B))
      (struct_places (contract.TheInside.the_type A) (contract.TheInside.the_type B) (vector.mapped h, tt) _ (λ d. refl) refl (laid _ _ _ field, tt))
