-- Rows that are all of one node, as the first and the last are.
use Rattle.std.proofs.Common.{◌≡◌, ℕ, ◌-◌, true, false, Some, List, [], ◌∷◌, ◌++◌}
use Rattle.std.proofs.Common.{length, take, refl, sym, ap, subst, ◌∙◌, arith}
use Rattle.std.specs.Prelude.{slice_get}
use Rattle.std.specs.List.{AllByRecursion}
use Rattle.std.specs.Ordering.{is_eq, is_gt, ordering_reverse}
use Rattle.std.specs.Cmp.Lexicographic.{bytes_decides, texts_ties, nat_list_cmp_total}
use Rattle.std.proofs.lemmas.Cmp.{tied_itself}
use Rattle.std.specs.declared.cmp.Ordering.{Ordering}
use Rattle.std.specs.declared.cmp.Ordering.TheVariants.{Less, Equal, Greater}
use Rattle.pg_term.specs.Same.{pid_cmp, atom_cmp}
use Rattle.pg_index_members.specs.declared.row.Row.{Row}
use Rattle.pg_index_members.specs.Rows.{AreRows}
use Rattle.pg_index_members.proofs.Order.{node_of_less}
use Rattle.pg_index_members.proofs.Flat.{all_append, all_map, rows_across}
use Rattle.pg_index_members.proofs.Cut.{ends_at, some_row}

-- a node that is neither before nor after another
between_is : (a b : List ℕ) → is_gt (atom_cmp a b) ≡ false → is_gt (atom_cmp b a) ≡ false → a ≡ b
between_is a b e f = go (atom_cmp a b) refl
  where
    go : (o : Ordering) → atom_cmp a b ≡ o → a ≡ b
    go Less g = absurd (let h : is_gt (atom_cmp b a) ≡ true = ap is_gt (nat_list_cmp_total.antisymm b a ∙ ap ordering_reverse g) in cc)
    go Equal g = (bytes_decides a b).0 (texts_ties a b ∙ ap is_eq g)
    go Greater g = absurd (let h = ap is_gt g in cc)

not_after_itself : (a : List ℕ) → is_gt (atom_cmp a a) ≡ false
not_after_itself a = ap is_gt (tied_itself nat_list_cmp_total a)

both : (P Q R : Row → Type 0) → ((r : Row) → P r → Q r → R r) → (rows : List Row) → AllByRecursion P rows → AllByRecursion Q rows → AllByRecursion R rows
both P Q R f [] h k = tt
both P Q R f (r ∷ rs) h k = (f r h.0 k.0, both P Q R f rs h.1 k.1)

from_first : (rows : List Row) (first : Row) → AreRows rows → slice_get rows 0 ≡ Some first → AllByRecursion (λ r. is_gt (atom_cmp first.pid.node r.pid.node) ≡ false) rows
from_first [] first h e = tt
from_first (r ∷ rs) first h e =
    let is : r ≡ first = cc in
    subst (λ (x : Row). AllByRecursion (λ s. is_gt (atom_cmp x.pid.node s.pid.node) ≡ false) (r ∷ rs)) is
    (not_after_itself r.pid.node, all_map (λ s. pid_cmp r.pid s.pid ≡ Less) (λ s. is_gt (atom_cmp r.pid.node s.pid.node) ≡ false) (λ s f. node_of_less r.pid s.pid f) rs h.1)

up_to_last : (rows : List Row) (last : Row) → AreRows rows → slice_get rows (length rows - 1) ≡ Some last → AllByRecursion (λ r. is_gt (atom_cmp r.pid.node last.pid.node) ≡ false) rows
up_to_last rows last h e =
    let some = some_row rows (length rows - 1) last e in
    let front = take (length rows - 1) rows in
    let ends : front ++ last ∷ [] ≡ rows = ends_at rows (length rows - 1) last (omega arith) e in
    subst (AllByRecursion (λ r. is_gt (atom_cmp r.pid.node last.pid.node) ≡ false)) ends
    (all_append (λ r. is_gt (atom_cmp r.pid.node last.pid.node) ≡ false) front (last ∷ [])
    (all_map (λ r. AllByRecursion (λ s. pid_cmp r.pid s.pid ≡ Less) (last ∷ [])) (λ r. is_gt (atom_cmp r.pid.node last.pid.node) ≡ false) (λ r f. node_of_less r.pid last.pid f.0) front (rows_across front (last ∷ []) (subst AreRows (sym ends) h)))
    (not_after_itself last.pid.node, tt))

pub all_on_node : (node : List ℕ) (rows : List Row) (first last : Row) → AreRows rows → slice_get rows 0 ≡ Some first → slice_get rows (length rows - 1) ≡ Some last
    → first.pid.node ≡ node → last.pid.node ≡ node → AllByRecursion (λ r. r.pid.node ≡ node) rows
all_on_node node rows first last h e f one other =
    both (λ r. is_gt (atom_cmp first.pid.node r.pid.node) ≡ false) (λ r. is_gt (atom_cmp r.pid.node last.pid.node) ≡ false) (λ r. r.pid.node ≡ node)
    (λ r low high. between_is r.pid.node node (ap (λ (n : List ℕ). is_gt (atom_cmp r.pid.node n)) (sym other) ∙ high) (ap (λ (n : List ℕ). is_gt (atom_cmp n r.pid.node)) (sym one) ∙ low))
    rows (from_first rows first h e) (up_to_last rows last h f)
