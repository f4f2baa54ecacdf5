-- Two worlds of a picture are never at one point.
use Rattle.std.proofs.Common.{◌≡◌, ◌≢◌, ℕ, zero, suc, ◌+◌, ◌-◌, ◌*◌, ◌/◌, ◌<◌, ◌≤◌, cond, true, nat_eq, List}
use Rattle.std.proofs.Common.{[], ◌∷◌, take, length, get_or, Some, None, slice_get, ap, sym, ◌∙◌, refl, arith}
use Rattle.std.proofs.lemmas.Bool.{eq-eqb}
use Rattle.std.proofs.lemmas.Option.{get_or_from_slice_get, slice_get_within}
use Rattle.pg_script_diagram.specs.declared.graph.Spot.{Spot}
use Rattle.pg_script_diagram.specs.declared.shapes.Point.{Point}
use Rattle.pg_script_diagram.specs.Graphs.{worlds_in_row, point_in, point_of, width_of}
use Rattle.pg_script_diagram.proofs.Worlds.{count_taken}

-- of more worlds no fewer are in a row
counts_grow : (row : ℕ) (xs : List Spot) (i j : ℕ) → i ≤ j → worlds_in_row row (take i xs) ≤ worlds_in_row row (take j xs)
counts_grow row xs zero j le = omega arith
counts_grow row [] (suc i) j le = omega arith
counts_grow row (x ∷ xs) (suc i) zero le = absurd (omega (arith, le))
counts_grow row (x ∷ xs) (suc i) (suc j) le =
    let later = counts_grow row xs i j (omega (arith, le)) in omega (arith, later)

-- a world of the row itself is one more
one_more_here : (xs : List Spot) (i j : ℕ) (x : Spot) → i < length xs → get_or xs i x ≡ x → i < j → worlds_in_row x.row (take i xs) < worlds_in_row x.row (take j xs)
one_more_here xs i j x within here before =
    let counted : worlds_in_row x.row (take (i + 1) xs) ≡ worlds_in_row x.row (take i xs) + 1 =
    count_taken x.row i xs x within ∙ ap (λ b. worlds_in_row x.row (take i xs) + cond b 1 0) (eq-eqb (get_or xs i x).row x.row (ap (λ s. s.row) here)) in
    let grown = counts_grow x.row xs (i + 1) j (omega (arith, before)) in
    omega (arith, counted, grown)

-- so their columns differ where their rows do not
same_place : (most row count one other : ℕ) → (point_in most row count one).x ≡ (point_in most row count other).x → one ≡ other
same_place most row count one other same = omega (arith, same)

pub worlds_apart : (most : ℕ) (spots : List Spot) (one other : ℕ) (s t : Spot) → slice_get spots one ≡ Some s → slice_get spots other ≡ Some t → one < other
    → point_of most spots one s.row ≢ point_of most spots other t.row
worlds_apart most spots one other s t first second before same =
    let low : 64 * s.row + 104 ≡ 64 * t.row + 104 = ap (λ p. p.y) same in
    let rows : s.row ≡ t.row = omega (arith, low) in
    let counted = one_more_here spots one other s (slice_get_within spots one s first) (get_or_from_slice_get spots one s s first) before in
    let columns : (point_of most spots one s.row).x ≡ (point_of most spots other s.row).x = ap (λ p. p.x) same ∙ ap (λ row. (point_of most spots other row).x) (sym rows) in
    let equal = same_place most s.row (worlds_in_row s.row spots) (worlds_in_row s.row (take one spots)) (worlds_in_row s.row (take other spots)) columns in
    absurd (omega (arith, counted, equal))
