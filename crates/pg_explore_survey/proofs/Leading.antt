-- Steps that were lent, as ways, lines and spots, one after another.
use Rattle.std.proofs.Common.{◌≡◌, ◌⊎◌, ◌<◌, ℕ, ◌+◌, List, [], ◌∷◌, ◌++◌, Some, length, get_or, drop}
use Rattle.std.proofs.Common.{map, take, refl, sym, ap, ◌∙◌, subst, arith, append_assoc, inl, inr}
use Rattle.std.specs.Prelude.{slice_get}
use Rattle.std.specs.Global.{Vec}
use Rattle.std.proofs.lemmas.Bool.{cases_lt}
use Rattle.std.proofs.lemmas.List.{drop_more, get_or-map, get_or_append_left, get_or_at}
use Rattle.std.proofs.lemmas.List.{length-map, length_push, map_push, take_more}
use Rattle.std.proofs.lemmas.Option.{get_or_from_slice_get, slice_get-get_or, slice_get_within}
use Rattle.pg_script.specs.PgScriptDiagram.declared.graph.Link.{Link}
use Rattle.pg_script.specs.PgScriptDiagram.declared.graph.Spot.{Spot}
use Rattle.pg_explore.specs.declared.visitor.Led.{Led}
use Rattle.pg_explore_tally.specs.declared.ways.Way.{Way}
use Rattle.pg_explore_survey.specs.declared.findings.Findings.{Findings}
use Rattle.pg_explore_survey.specs.Findings.{AreSpots, IsSpot, link_line, links_from}
use Rattle.pg_explore_survey.specs.Ways.{AreWaysOf, all_led, rows_of, way_of}

-- those of one more world
pub led_more : (rows : List (Vec Led)) (row : Vec Led) (led : List Led) → row.items ≡ led → all_led (rows ++ row ∷ []) ≡ all_led rows ++ led ∷ []
led_more rows row led e = map_push (λ (r : Vec Led). r.items) rows row ∙ ap (λ (xs : List Led). all_led rows ++ xs ∷ []) e

pub ways_more : (led : List (Vec Led)) (i : ℕ) (row : Vec Led) (ways : List (Vec Way)) (next : Vec Way) → i < length led → row ≡ get_or led i row → AreWaysOf (all_led (take i led)) ways
    → next.items ≡ map way_of row.items → AreWaysOf (all_led (take (i + 1) led)) (ways ++ next ∷ [])
ways_more led i row ways next l is h e =
    let f : List Led → List Way = λ (r : List Led). map way_of r in
    let old = all_led (take i led) in
    let more : all_led (take (i + 1) led) ≡ old ++ row.items ∷ [] = ap all_led (take_more led i row l) ∙ map_push (λ (r : Vec Led). r.items) (take i led) (get_or led i row) ∙ ap (λ (r : Vec Led). old ++ r.items ∷ []) (sym is) in
    map_push (λ (r : Vec Way). r.items) ways next ∙ ap (λ (xs : List (List Way)). xs ++ next.items ∷ []) h ∙ ap (λ (x : List Way). map f old ++ x ∷ []) e
    ∙ sym (map_push f old row.items) ∙ sym (ap (map f) more)

-- ---- lines

pub links_more : (rows : List (List Led)) (i : ℕ) (row : List Led) (links new all : List Link) → i < length rows → row ≡ get_or rows i row → new ≡ links ++ map (link_line i) row
    → links ++ links_from i (drop i rows) ≡ all → new ++ links_from (i + 1) (drop (i + 1) rows) ≡ all
links_more rows i row links new all l is e h =
    let cut : drop i rows ≡ row ∷ drop (i + 1) rows = drop_more rows i row l ∙ ap (λ (r : List Led). r ∷ drop (i + 1) rows) (sym is) in
    ap (λ (xs : List Link). xs ++ links_from (i + 1) (drop (i + 1) rows)) e ∙ append_assoc links (map (link_line i) row) (links_from (i + 1) (drop (i + 1) rows))
    ∙ ap (λ (rs : List (List Led)). links ++ links_from i rs) (sym cut) ∙ h

-- the same where a world's steps were lent by a slice
pub links_led : (led : List (Vec Led)) (i : ℕ) (row : Vec Led) (part : List Led) (links new all : List Link) → i < length led → row ≡ get_or led i row → part ≡ row.items
    → new ≡ links ++ map (link_line i) part → links ++ links_from i (drop i (all_led led)) ≡ all → new ++ links_from (i + 1) (drop (i + 1) (all_led led)) ≡ all
links_led led i row part links new all l is e n h =
    let within : i < length (all_led led) = subst (λ (k : ℕ). i < k) (sym (length-map led (λ (r : Vec Led). r.items))) l in
    let at : row.items ≡ get_or (all_led led) i row.items = ap (λ (r : Vec Led). r.items) is ∙ sym (get_or-map (λ (r : Vec Led). r.items) led i row row.items l) in
    links_more (all_led led) i row.items links new all within at (n ∙ ap (λ (p : List Led). links ++ map (link_line i) p) e) h

-- ---- spots

pub spots_more : (found : Findings) (n : ℕ) (spots : List Spot) (spot : Spot) → AreSpots found n spots → IsSpot found n spot → AreSpots found (n + 1) (spots ++ spot ∷ [])
spots_more found n spots spot h s = record {
  len = length_push spots spot ∙ ap (λ (k : ℕ). k + 1) h.len;
  are = λ place other at.
      let l = slice_get_within (spots ++ spot ∷ []) place other at in
      let is = get_or_from_slice_get (spots ++ spot ∷ []) place other other at in
      elim (cases_lt place (length spots)) as (λ _. IsSpot found place other) [
        | inl m ↦ h.are place other (slice_get-get_or spots place other m ∙ ap Some (sym (get_or_append_left spots (spot ∷ []) other place m) ∙ is))
        | inr m ↦
            let e : length spots ≡ place = omega (arith, length_push spots spot) in
            subst (λ (o : Spot). IsSpot found place o) (sym (get_or_at spots spot [] other place e) ∙ is) (subst (λ (k : ℕ). IsSpot found k spot) (sym h.len ∙ e) s)
      ];
}
