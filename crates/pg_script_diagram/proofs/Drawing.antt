-- The arrows of a picture, one after another.
use Rattle.std.proofs.Common.{◌≡◌, ℕ, ◌+◌, ◌<◌, List, [], ◌∷◌, ◌++◌, take}
use Rattle.std.proofs.Common.{length, get_or, append_assoc, ap, sym, ◌∙◌, refl}
use Rattle.std.proofs.lemmas.List.{append-nil, take_more}
use Rattle.pg_script_diagram.specs.declared.arrows.Arrow.{Arrow}
use Rattle.pg_script_diagram.specs.declared.data.Event.{Event}
use Rattle.pg_script_diagram.specs.declared.pen.Pen.{Pen}
use Rattle.pg_script_diagram.specs.Arrows.{ending_of}
use Rattle.pg_script_diagram.specs.Drawn.{Places, drawn, all_drawn, row_after}
use Rattle.pg_script_diagram.specs.Pens.{Writes}
use Rattle.pg_script_diagram.proofs.Penned.{wrote_as, wrote_both}

-- the row of a packet on its way, behind these arrows
abbrev pub last_after : List Event → ℕ → List Arrow → ℕ
last_after all last [] = last
last_after all last (arrow ∷ arrows) = last_after all (row_after last (ending_of all arrow)) arrows

pub last_more : (all : List Event) (last : ℕ) (xs : List Arrow) (x : Arrow) → last_after all last (xs ++ x ∷ []) ≡ row_after (last_after all last xs) (ending_of all x)
last_more all last [] x = refl
last_more all last (y ∷ ys) x = last_more all (row_after last (ending_of all y)) ys x

pub drawn_more : (places : Places) (all : List Event) (last : ℕ) (xs : List Arrow) (x : Arrow)
    → all_drawn places all last (xs ++ x ∷ []) ≡ all_drawn places all last xs ++ drawn places all (last_after all last xs) x
drawn_more places all last [] x = append-nil (drawn places all last x)
drawn_more places all last (y ∷ ys) x =
    ap (λ t. drawn places all last y ++ t) (drawn_more places all (row_after last (ending_of all y)) ys x)
    ∙ sym (append_assoc (drawn places all last y) (all_drawn places all (row_after last (ending_of all y)) ys) (drawn places all (last_after all (row_after last (ending_of all y)) ys) x))

-- one arrow more is drawn
pub draws_more : (places : Places) (all : List Event) (first : ℕ) (arrows : List Arrow) (k last : ℕ) (x : Arrow) (a b c : Pen) → k < length arrows → x ≡ get_or arrows k x → last ≡ last_after all first (take k arrows)
    → Writes (all_drawn places all first (take k arrows)) a b → Writes (drawn places all last x) b c → Writes (all_drawn places all first (take (k + 1) arrows)) a c
draws_more places all first arrows k last x a b c within here is so more =
    wrote_as (all_drawn places all first (take k arrows) ++ drawn places all last x) (all_drawn places all first (take (k + 1) arrows)) a c
    (ap (λ n. all_drawn places all first (take k arrows) ++ drawn places all n x) is
    ∙ sym (drawn_more places all first (take k arrows) x)
    ∙ ap (λ xs. all_drawn places all first xs) (taken arrows k x within here))
    (wrote_both (all_drawn places all first (take k arrows)) (drawn places all last x) a b c so more)
  where
    taken : (arrows : List Arrow) (k : ℕ) (x : Arrow) → k < length arrows → x ≡ get_or arrows k x → take k arrows ++ x ∷ [] ≡ take (k + 1) arrows
    taken arrows k x within here = ap (λ y. take k arrows ++ y ∷ []) here ∙ sym (take_more arrows k x within)

-- the row of the next packet on its way
pub last_on : (all : List Event) (first : ℕ) (arrows : List Arrow) (k last next : ℕ) (x : Arrow) → k < length arrows → x ≡ get_or arrows k x → last ≡ last_after all first (take k arrows)
    → next ≡ row_after last (ending_of all x) → next ≡ last_after all first (take (k + 1) arrows)
last_on all first arrows k last next x within here is so =
    so ∙ ap (λ n. row_after n (ending_of all x)) is ∙ sym (last_more all first (take k arrows) x)
    ∙ ap (λ xs. last_after all first xs) (ap (λ y. take k arrows ++ y ∷ []) here ∙ sym (take_more arrows k x within))
