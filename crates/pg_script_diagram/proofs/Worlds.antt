-- The worlds and the steps of a graph, one after another.
use Rattle.std.proofs.Common.{◌≡◌, ℕ, ◌+◌, ◌<◌, cond, nat_eq, List, [], ◌∷◌, ◌++◌}
use Rattle.std.proofs.Common.{take, length, get_or, append_assoc, ap, sym, ◌∙◌, arith}
use Rattle.std.specs.List.{flat_map}
use Rattle.std.proofs.lemmas.Grind.{flat_map-append}
use Rattle.std.proofs.lemmas.List.{append-nil, take_more, length-take-le}
use Rattle.pg_script_diagram.specs.declared.graph.Link.{Link}
use Rattle.pg_script_diagram.specs.declared.graph.Spot.{Spot}
use Rattle.pg_script_diagram.specs.declared.pen.Pen.{Pen}
use Rattle.pg_script_diagram.specs.Graphs.{worlds_in_row, point_of, spot_text, spots_text}
use Rattle.pg_script_diagram.specs.Pens.{Writes}
use Rattle.pg_script_diagram.proofs.Penned.{wrote_as, wrote_both}

-- one world more is counted where it is in the row
pub count_more : (row : ℕ) (xs : List Spot) (x : Spot) → worlds_in_row row (xs ++ x ∷ []) ≡ worlds_in_row row xs + cond (nat_eq x.row row) 1 0
count_more row [] x = omega arith
count_more row (y ∷ ys) x = let more = count_more row ys x in omega (arith, more)

pub count_taken : (row k : ℕ) (xs : List Spot) (d : Spot) → k < length xs
    → worlds_in_row row (take (k + 1) xs) ≡ worlds_in_row row (take k xs) + cond (nat_eq (get_or xs k d).row row) 1 0
count_taken row k xs d within = ap (worlds_in_row row) (take_more xs k d within) ∙ count_more row (take k xs) (get_or xs k d)

-- one step more is drawn
pub links_more : (f : Link → List ℕ) (xs : List Link) (k : ℕ) (x : Link) (a b c : Pen) → k < length xs → x ≡ get_or xs k x
    → Writes (flat_map f (take k xs)) a b → Writes (f x) b c → Writes (flat_map f (take (k + 1) xs)) a c
links_more f xs k x a b c within here so more =
    wrote_as (flat_map f (take k xs) ++ f x) (flat_map f (take (k + 1) xs)) a c
    (ap (λ t. flat_map f (take k xs) ++ t) (sym (append-nil (f x))) ∙ sym (flat_map-append f (take k xs) (x ∷ []))
    ∙ ap (flat_map f) (ap (λ y. take k xs ++ y ∷ []) here ∙ sym (take_more xs k x within)))
    (wrote_both (flat_map f (take k xs)) (f x) a b c so more)

-- one world more is drawn
spots_end : (most : ℕ) (all : List Spot) (place : ℕ) (xs : List Spot) (x : Spot)
    → spots_text most all place (xs ++ x ∷ []) ≡ spots_text most all place xs ++ spot_text x (point_of most all (place + length xs) x.row) (place + length xs + 1)
spots_end most all place [] x =
    append-nil (spot_text x (point_of most all place x.row) (place + 1)) ∙ ap (λ n. spot_text x (point_of most all n x.row) (n + 1)) (omega arith)
spots_end most all place (y ∷ ys) x =
    let first = spot_text y (point_of most all place y.row) (place + 1) in
    ap (λ t. first ++ t) (spots_end most all (place + 1) ys x)
    ∙ ap (λ n. first ++ (spots_text most all (place + 1) ys ++ spot_text x (point_of most all n x.row) (n + 1))) (omega arith)
    ∙ sym (append_assoc first (spots_text most all (place + 1) ys) (spot_text x (point_of most all (place + length (y ∷ ys)) x.row) (place + length (y ∷ ys) + 1)))

pub spots_more : (most : ℕ) (all : List Spot) (k : ℕ) (x : Spot) (a b c : Pen) → k < length all → x ≡ get_or all k x
    → Writes (spots_text most all 0 (take k all)) a b → Writes (spot_text x (point_of most all k x.row) (k + 1)) b c
    → Writes (spots_text most all 0 (take (k + 1) all)) a c
spots_more most all k x a b c within here so more =
    let counted : length (take k all) ≡ k = length-take-le k all (omega (arith, within)) in
    wrote_as (spots_text most all 0 (take k all) ++ spot_text x (point_of most all k x.row) (k + 1)) (spots_text most all 0 (take (k + 1) all)) a c
    (ap (λ n. spots_text most all 0 (take k all) ++ spot_text x (point_of most all n x.row) (n + 1)) (sym counted)
    ∙ ap (λ n. spots_text most all 0 (take k all) ++ spot_text x (point_of most all n x.row) (n + 1)) (omega arith)
    ∙ sym (spots_end most all 0 (take k all) x)
    ∙ ap (spots_text most all 0) (ap (λ y. take k all ++ y ∷ []) here ∙ sym (take_more all k x within)))
    (wrote_both (spots_text most all 0 (take k all)) (spot_text x (point_of most all k x.row) (k + 1)) a b c so more)
