-- The parts in which the members of a node stand.
use Rattle.std.proofs.Common.{◌≡◌, ℕ, suc, ◌+◌, ◌-◌, ◌<◌, ◌≤◌, Bool, true, false, ◌&&◌, List, [], ◌∷◌, ◌++◌}
use Rattle.std.proofs.Common.{length, get_or, take, drop, refl, sym, ap, subst, ◌∙◌, arith, add-one, append-nil}
use Rattle.std.specs.Prelude.{nat_le}
use Rattle.std.specs.List.{AllByRecursion, flat_map}
use Rattle.std.specs.Ordering.{is_lt, is_le, is_eq}
use Rattle.std.proofs.lemmas.Bool.Decides.{nat_tests}
use Rattle.std.proofs.lemmas.List.{get_or-take, length-take, take-take, drop-take}
use Rattle.std.specs.declared.cmp.Ordering.{Ordering}
use Rattle.std.specs.declared.cmp.Ordering.TheVariants.{Less, Equal, Greater}
use Rattle.pg_term.specs.declared.pid.Pid.{Pid}
use Rattle.pg_term.specs.Same.{atom_cmp}
use Rattle.pg_group.specs.Scope.{at_node}
use Rattle.pg_index_members.specs.declared.row.Row.{Row}
use Rattle.pg_index_members.specs.Rows.{AreRows, all_before, spread}
use Rattle.pg_index_members.specs.Levels.{IsChoice}
use Rattle.pg_index_members.proofs.Order.{at_node_is, downward_past}
use Rattle.pg_index_members.proofs.Flat.{all_map, rows_right}
use Rattle.pg_index_members.proofs.Places.{spread-append, spread_none}
use Rattle.pg_index_members.proofs.Nodes.{front, through}
use Rattle.pg_index_members.proofs.Parts.{around, halves, after_choice, all_part, first_or}

before_if : (p : Pid → Bool) (rows : List Row) → AllByRecursion (λ r. p r.pid ≡ true) rows → all_before p rows ≡ true
before_if p [] h = refl
before_if p (r ∷ rs) h = ap (λ t. t && all_before p rs) h.0 ∙ before_if p rs h.1

le_of_lt : (o : Ordering) → is_lt o ≡ true → is_le o ≡ true
le_of_lt Less e = refl
le_of_lt Equal e = absurd cc
le_of_lt Greater e = absurd cc

other_of_lt : (o : Ordering) → is_lt o ≡ true → is_eq o ≡ false
other_of_lt Less e = refl
other_of_lt Equal e = absurd cc
other_of_lt Greater e = absurd cc

other_of_gt : (o : Ordering) → is_le o ≡ false → is_eq o ≡ false
other_of_gt Less e = absurd cc
other_of_gt Equal e = absurd cc
other_of_gt Greater e = refl

module _ (node : List ℕ) where
  before_node : (rows : List Row) → AllByRecursion (λ r. front node r.pid ≡ true) rows → spread (at_node node) rows ≡ []
  before_node rows h = spread_none (at_node node) rows (all_map (λ r. front node r.pid ≡ true) (λ r. at_node node r.pid ≡ false) (λ r e. at_node_is r.pid.node node ∙ other_of_lt (atom_cmp r.pid.node node) e) rows h)

  past_node : (rows : List Row) → AllByRecursion (λ r. through node r.pid ≡ false) rows → spread (at_node node) rows ≡ []
  past_node rows h = spread_none (at_node node) rows (all_map (λ r. through node r.pid ≡ false) (λ r. at_node node r.pid ≡ false) (λ r e. at_node_is r.pid.node node ∙ other_of_gt (atom_cmp r.pid.node node) e) rows h)

  module _ {P : Type 0} (rows : P → List Row) (parts : List P) (from last : ℕ) (first : IsChoice rows (front node) parts from) (end : IsChoice rows (through node) parts last) where
    pub chosen_le : from ≤ last
    chosen_le = go (nat_le from last) refl
      where
        go : (b : Bool) → nat_le from last ≡ b → from ≤ last
        go true e = grind (arith, nat_tests)
        go false e = absurd (
            let k : last < from = grind (arith, nat_tests) in
            let some = first_or rows parts last end.within in
            let within : last < length (take from parts) = (let l = length-take from parts in let f = first.within in omega arith) in
            let all = all_part rows (λ r. front node r.pid ≡ true) (take from parts) last some.0 within first.front in
            let here : AllByRecursion (λ r. front node r.pid ≡ true) (rows (get_or parts last some.0)) = subst (λ (x : P). AllByRecursion (λ r. front node r.pid ≡ true) (rows x)) (get_or-take from parts last some.0 k) all in
            let passed : all_before (through node) (rows (get_or parts last some.0)) ≡ true = before_if (through node) (rows (get_or parts last some.0)) (all_map (λ r. front node r.pid ≡ true) (λ r. through node r.pid ≡ true) (λ r f. le_of_lt (atom_cmp r.pid.node node) f) (rows (get_or parts last some.0)) here) in
            let not : all_before (through node) (rows (get_or parts last some.0)) ≡ false = end.next some.0 (let f = first.within in omega arith) in
            cc)

    asked_all : AreRows (flat_map rows parts) → spread (at_node node) (flat_map rows (drop from (take (last + 1) parts))) ≡ spread (at_node node) (flat_map rows parts)
    asked_all h =
        let some = first_or rows parts last end.within in
        let rest : AreRows (rows some.0 ++ flat_map rows (drop (suc last) parts)) = rows_right (flat_map rows (take last parts)) (rows some.0 ++ flat_map rows (drop (suc last) parts)) (subst AreRows (around rows parts last some.0 end.within some.1) h) in
        let past : spread (at_node node) (flat_map rows (drop (last + 1) parts)) ≡ [] = ap (λ n. spread (at_node node) (flat_map rows (drop n parts))) (add-one last) ∙ past_node (flat_map rows (drop (suc last) parts)) (after_choice rows (through node) (downward_past node) parts last some.0 rest end some.1) in
        let low : spread (at_node node) (flat_map rows (take from (take (last + 1) parts))) ≡ [] = ap (λ l. spread (at_node node) (flat_map rows l)) front_part ∙ before_node (flat_map rows (take from parts)) first.front in
        sym (
        ap (spread (at_node node)) (halves rows parts (last + 1)) ∙ spread-append (at_node node) (flat_map rows (take (last + 1) parts)) (flat_map rows (drop (last + 1) parts))
        ∙ ap (λ l. spread (at_node node) (flat_map rows (take (last + 1) parts)) ++ l) past ∙ append-nil (spread (at_node node) (flat_map rows (take (last + 1) parts)))
        ∙ ap (spread (at_node node)) (halves rows (take (last + 1) parts) from) ∙ spread-append (at_node node) (flat_map rows (take from (take (last + 1) parts))) (flat_map rows (drop from (take (last + 1) parts)))
        ∙ ap (λ l. l ++ spread (at_node node) (flat_map rows (drop from (take (last + 1) parts)))) low)
      where
        front_part : take from (take (last + 1) parts) ≡ take from parts
        front_part = take-take from (last + 1) parts (let k = chosen_le in omega arith)

    pub spanned : AreRows (flat_map rows parts) → spread (at_node node) (flat_map rows (take (last + 1 - from) (drop from parts))) ≡ spread (at_node node) (flat_map rows parts)
    spanned h =
        let le = chosen_le in
        let sum : last + 1 ≡ from + (last + 1 - from) = omega arith in
        ap (λ l. spread (at_node node) (flat_map rows l)) (sym (drop-take from (last + 1 - from) parts) ∙ ap (λ n. drop from (take n parts)) (sym sum)) ∙ asked_all h
