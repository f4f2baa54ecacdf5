-- Walks, and what is known of the takes on them.
use Rattle.std.proofs.Common.{◌≡◌, ◌≢◌, ◌<◌, ◌≤◌, ℕ, ◌+◌, Bool, true, false, List, [], ◌∷◌}
use Rattle.std.proofs.Common.{◌++◌, Option, Some, None, Result, Ok, length, get_or, take}
use Rattle.std.proofs.Common.{drop, min, max, refl, sym, ap, ◌∙◌, subst, arith, ◌⊎◌, inl, inr}
use Rattle.std.proofs.lemmas.Bool.Decides.{nat_tests}
use Rattle.std.proofs.lemmas.Option.{slice_get_past, slice_get_read}
use Rattle.std.specs.declared.alloc.AllocError.{AllocError}
use Rattle.std.specs.Option.{option_map_or}
use Rattle.std.specs.Prelude.{nat_lt}
use Rattle.std.specs.Global.{Vec}
use Rattle.std.specs.List.{Contains}
use Rattle.std.proofs.Math.ListN.{set}
use Rattle.std.proofs.lemmas.List.{get_or-set_same, get_or-set_other, length-set, set_past, take-append-le, take_all}
use Rattle.std.proofs.lemmas.List.Elements.{Contains-push_cases}
use Rattle.std.proofs.lemmas.List.Sums.{sum_by-cons, sum_by_push}
use Rattle.std.proofs.Math.Nat.{eq-or-lt_of_le}
use Rattle.std.proofs.lemmas.Bool.{cases_lt}
use Rattle.pg_explore_tally.specs.declared.takes.Takes.{Takes}
use Rattle.pg_explore_tally.specs.declared.ways.Way.{Way}
use Rattle.pg_explore_tally.specs.Takes.{AreClosed, AreKept, AreTakes, AreTakesTo, AreWalked, AreWider}
use Rattle.pg_explore_tally.specs.Takes.{HasFirst, IsClosedAt, IsClosedBy, IsReachedUntaken, IsTaken, IsWalked}
use Rattle.pg_explore_tally.specs.Takes.{IsWider, IsInBounds, followed, followed_from, takes_after, widened_to}
use Rattle.pg_explore_tally.specs.Walks.{IsWalk, takes_of, takes_on, ways_at}

-- one way more
walk_on : (worlds : List (Vec Way)) (from : ℕ) (ways : List Way) (to : ℕ) (way : Way) → IsWalk worlds from ways to → Contains (ways_at worlds to) way → way.place < length worlds
    → IsWalk worlds from (ways ++ way ∷ []) way.place
walk_on worlds from [] to way h c l = (subst (λ (p : ℕ). Contains (ways_at worlds p) way) (sym h.1) c, (l, refl))
walk_on worlds from (w ∷ ways) to way h c l = (h.0, walk_on worlds w.place ways to way h.1 c l)

taken_on : (worlds : List (Vec Way)) (place count : ℕ) (way : Way) → IsTaken worlds place count → Contains (ways_at worlds place) way → way.place < length worlds
    → IsTaken worlds way.place (count + takes_on way)
taken_on worlds place count way h c l = record {
  ways = h.ways ++ way ∷ [];
  walk = walk_on worlds 0 h.ways place way h.walk c l;
  takes = sum_by_push takes_on h.ways way ∙ ap (λ (n : ℕ). n + takes_on way) h.takes;
}

walked_on : (worlds : List (Vec Way)) (place : ℕ) (from : Takes) (way : Way) → IsWalked worlds place from → Contains (ways_at worlds place) way → way.place < length worlds
    → IsWalked worlds way.place (takes_after from way)
walked_on worlds place from way h c l = record { fewest = taken_on worlds place from.fewest way h.fewest c l; most = taken_on worlds place from.most way h.most c l }

-- the fewest and the most of both
least : (worlds : List (Vec Way)) (place a b : ℕ) → IsTaken worlds place a → IsTaken worlds place b → IsTaken worlds place (min a b)
least worlds place a b h k = elim (cases_lt b a) as (λ _. IsTaken worlds place (min a b)) [
  | inl l ↦ subst (λ (n : ℕ). IsTaken worlds place n) (let e : b ≡ min a b = omega arith in e) k
  | inr l ↦ subst (λ (n : ℕ). IsTaken worlds place n) (let e : a ≡ min a b = omega arith in e) h
]

greatest : (worlds : List (Vec Way)) (place a b : ℕ) → IsTaken worlds place a → IsTaken worlds place b → IsTaken worlds place (max a b)
greatest worlds place a b h k = elim (cases_lt b a) as (λ _. IsTaken worlds place (max a b)) [
  | inl l ↦ subst (λ (n : ℕ). IsTaken worlds place n) (let e : a ≡ max a b = omega arith in e) h
  | inr l ↦ subst (λ (n : ℕ). IsTaken worlds place n) (let e : b ≡ max a b = omega arith in e) k
]

walked_both : (worlds : List (Vec Way)) (place : ℕ) (old : Option Takes) (new : Takes) → ((takes : Takes) → old ≡ Some takes → IsWalked worlds place takes) → IsWalked worlds place new
    → IsWalked worlds place (widened_to old new)
walked_both worlds place None new h k = k
walked_both worlds place (Some old) new h k = record { fewest = least worlds place old.fewest new.fewest (h old refl).fewest k.fewest; most = greatest worlds place old.most new.most (h old refl).most k.most }

some_same : {A : Type 0} (a b : A) → Some a ≡ Some b → a ≡ b
some_same a b e = cc

pub is_same : (i j : ℕ) → (j ≡ i) ⊎ (j ≢ i)
is_same i j = elim (cases_lt i j) as (λ _. (j ≡ i) ⊎ (j ≢ i)) [
  | inl l ↦ inr (λ e. absurd (omega arith))
  | inr l ↦ elim (eq-or-lt_of_le l) as (λ _. (j ≡ i) ⊎ (j ≢ i)) [ inl e ↦ inl e | inr m ↦ inr (λ e. absurd (omega arith)) ]
]

-- what stands at a place of a list that was changed at another
pub set_cases : {A : Type 0} (xs : List A) (i j : ℕ) (x d : A) → ((j ≡ i) × (get_or (set xs i x) j d ≡ x)) ⊎ (get_or (set xs i x) j d ≡ get_or xs j d)
set_cases xs i j x d = elim (cases_lt i (length xs)) as (λ _. ((j ≡ i) × (get_or (set xs i x) j d ≡ x)) ⊎ (get_or (set xs i x) j d ≡ get_or xs j d)) [
  | inl l ↦ elim (is_same i j) as (λ _. ((j ≡ i) × (get_or (set xs i x) j d ≡ x)) ⊎ (get_or (set xs i x) j d ≡ get_or xs j d)) [
    | inl e ↦ inl (e, subst (λ (k : ℕ). get_or (set xs i x) k d ≡ x) (sym e) (get_or-set_same xs i x d l))
    | inr n ↦ inr (get_or-set_other xs i j x d n)
  ]
  | inr l ↦ inr (ap (λ (ys : List _). get_or ys j d) (set_past xs i x l))
]

walked_set : (worlds : List (Vec Way)) (all : List (Option Takes)) (i : ℕ) (new : Takes) → AreWalked worlds all → IsWalked worlds i new → AreWalked worlds (set all i (Some new))
walked_set worlds all i new h k place takes e = elim (set_cases all i place (Some new) None) as (λ _. IsWalked worlds place takes) [
  | inl at ↦ subst (λ (t : Takes). IsWalked worlds place t) (some_same new takes (sym at.1 ∙ e)) (subst (λ (p : ℕ). IsWalked worlds p new) (sym at.0) k)
  | inr other ↦ h place takes (sym other ∙ e)
]

first_both : (old : Option Takes) (new : Takes) → IsReachedUntaken old → IsReachedUntaken (Some (widened_to old new))
first_both None new h = absurd h
first_both (Some old) new h = omega (arith, h)

first_set : (all : List (Option Takes)) (i : ℕ) (new : Takes) → HasFirst all → HasFirst (set all i (Some (widened_to (get_or all i None) new)))
first_set all i new h l = elim (set_cases all i 0 (Some (widened_to (get_or all i None) new)) None) as (λ _. IsReachedUntaken (get_or (set all i (Some (widened_to (get_or all i None) new))) 0 None)) [
  | inl at ↦ subst (λ (o : Option Takes). IsReachedUntaken o) (sym at.1) (first_both (get_or all i None) new (subst (λ (p : ℕ). IsReachedUntaken (get_or all p None)) at.0 (h (subst (λ (n : ℕ). 0 < n) (length-set all i (Some (widened_to (get_or all i None) new))) l))))
  | inr other ↦ subst (λ (o : Option Takes). IsReachedUntaken o) (sym other) (h (subst (λ (n : ℕ). 0 < n) (length-set all i (Some (widened_to (get_or all i None) new))) l))
]

-- what is kept where a way is followed
kept_from : (worlds : List (Vec Way)) (all : List (Option Takes)) (place : ℕ) (known : Option Takes) (way : Way) → known ≡ get_or all place None → AreKept worlds all → Contains (ways_at worlds place) way
    → AreKept worlds (followed_from all known way)
kept_from worlds all place None way e h c = h
kept_from worlds all place (Some from) way e h c = elim (cases_lt way.place (length all)) as (λ _. AreKept worlds (followed_from all (Some from) way)) [
  | inl l ↦
      let within : way.place < length worlds = omega (arith, h.len) in
      let after = takes_after from way in
      record {
        len = length-set all way.place (Some (widened_to (get_or all way.place None) after)) ∙ h.len;
        walked = walked_set worlds all way.place (widened_to (get_or all way.place None) after) h.walked
            (walked_both worlds way.place (get_or all way.place None) after (λ takes is. h.walked way.place takes is) (walked_on worlds place from way (h.walked place from (sym e)) c within));
        first = first_set all way.place after h.first;
      }
  | inr l ↦ subst (λ (xs : List (Option Takes)). AreKept worlds xs) (sym (set_past all way.place (Some (widened_to (get_or all way.place None) (takes_after from way))) l)) h
]

pub kept_step : (worlds : List (Vec Way)) (all : List (Option Takes)) (place : ℕ) (way : Way) → AreKept worlds all → Contains (ways_at worlds place) way → AreKept worlds (followed all place way)
kept_step worlds all place way h c = kept_from worlds all place (get_or all place None) way refl h c

wider : (old : Option Takes) (from : Takes) (way : Way) → IsWider from way (widened_to old (takes_after from way))
wider None from way = record { fewest = omega arith; most = omega arith }
wider (Some old) from way = record { fewest = omega arith; most = omega arith }

-- a way that changes nothing
closed_from : (all : List (Option Takes)) (place : ℕ) (known : Option Takes) (way : Way) → followed_from all known way ≡ all → way.place < length all → AreWider known way (get_or all way.place None)
closed_from all place None way e l = tt
closed_from all place (Some from) way e l =
    let now = widened_to (get_or all way.place None) (takes_after from way) in
    let is : get_or all way.place None ≡ Some now = sym (ap (λ (xs : List (Option Takes)). get_or xs way.place None) e) ∙ get_or-set_same all way.place (Some now) None l in
    subst (λ (o : Option Takes). AreWider (Some from) way o) (sym is) (wider (get_or all way.place None) from way)

pub closed_step : (all : List (Option Takes)) (place : ℕ) (way : Way) → followed all place way ≡ all → IsClosedBy all place way
closed_step all place way e l = closed_from all place (get_or all place None) way e l

-- so far the ways were followed, and nothing has changed where it says so
pub record IsFollowing (worlds : List (Vec Way)) (place : ℕ) (seen : List Way) (old new : List (Option Takes)) (changed : Bool) : Type 0 where
  pub kept : AreKept worlds new
  pub same : changed ≡ false → new ≡ old
  pub closed : changed ≡ false → (way : Way) → Contains seen way → IsClosedBy old place way

pub none_followed : (worlds : List (Vec Way)) (place : ℕ) (old : List (Option Takes)) (changed : Bool) → AreKept worlds old → IsFollowing worlds place [] old old changed
none_followed worlds place old changed h = record { kept = h; same = λ _. refl; closed = λ _ way c. absurd (no_element way c) }
  where
    no_element : (way : Way) → Contains [] way → ⊥
    no_element way c = omega (arith, c.1)

-- a way more, by which nothing changed
pub followed_same : (worlds : List (Vec Way)) (place : ℕ) (seen : List Way) (old now new : List (Option Takes)) (changed : Bool) (way : Way) → IsFollowing worlds place seen old now changed
    → Contains (ways_at worlds place) way → new ≡ followed now place way → new ≡ now → IsFollowing worlds place (seen ++ way ∷ []) old new changed
followed_same worlds place seen old now new changed way h c is same = record {
  kept = subst (λ (xs : List (Option Takes)). AreKept worlds xs) (sym is) (kept_step worlds now place way h.kept c);
  same = λ e. same ∙ h.same e;
  closed = λ e other d. elim (Contains-push_cases seen way other d) as (λ _. IsClosedBy old place other) [
    | inl before ↦ h.closed e other before
    | inr this ↦ subst (λ (w : Way). IsClosedBy old place w) this (subst (λ (xs : List (Option Takes)). IsClosedBy xs place way) (h.same e) (closed_step now place way (sym is ∙ same)))
  ];
}

-- a way more, by which something did
pub followed_changed : (worlds : List (Vec Way)) (place : ℕ) (seen more : List Way) (old now new : List (Option Takes)) (changed : Bool) (way : Way) → IsFollowing worlds place seen old now changed
    → Contains (ways_at worlds place) way → new ≡ followed now place way → IsFollowing worlds place more old new true
followed_changed worlds place seen more old now new changed way h c is = record {
  kept = subst (λ (xs : List (Option Takes)). AreKept worlds xs) (sym is) (kept_step worlds now place way h.kept c);
  same = λ e. absurd (cc);
  closed = λ e. absurd (cc);
}

-- the ways from a place, where it is looked up
pub ways_are : (worlds : List (Vec Way)) (place : ℕ) (ways : Vec Way) → true ≡ nat_lt place (length worlds) → ways ≡ get_or worlds place ways → ways_at worlds place ≡ ways.items
ways_are worlds place ways l e = ap (λ (o : Option (Vec Way)). option_map_or (λ (w : Vec Way). w.items) o []) (slice_get_read worlds (length worlds) place ways refl (within place (length worlds) l) e)
  where
    within : (a b : ℕ) → true ≡ nat_lt a b → a < b
    within a b e = grind (arith, nat_tests)

-- where nothing changed, each way is closed
pub closed_at : (worlds : List (Vec Way)) (place : ℕ) (seen : List Way) (old new : List (Option Takes)) (changed : Bool) → IsFollowing worlds place seen old new changed → ways_at worlds place ≡ seen
    → changed ≡ false → IsClosedAt worlds new place
closed_at worlds place seen old new changed h is e way c = subst (λ (xs : List (Option Takes)). IsClosedBy xs place way) (sym (h.same e)) (h.closed e way (subst (λ (ways : List Way). Contains ways way) is c))

pub ok_same : (a b : Bool) → ◌≡◌ {A = Result Bool AllocError} (Ok a) (Ok b) → a ≡ b
ok_same a b e = cc

-- so far the ways from these places were followed
pub record IsPassing (worlds : List (Vec Way)) (count : ℕ) (old new : List (Option Takes)) (changed : Bool) : Type 0 where
  pub kept : AreKept worlds new
  pub same : changed ≡ false → new ≡ old
  pub closed : changed ≡ false → (place : ℕ) → place < count → IsClosedAt worlds old place

pub none_passed : (worlds : List (Vec Way)) (old : List (Option Takes)) (changed : Bool) → AreKept worlds old → IsPassing worlds 0 old old changed
none_passed worlds old changed h = record { kept = h; same = λ _. refl; closed = λ _ place l. absurd (omega arith) }

pub passed_same : (worlds : List (Vec Way)) (count : ℕ) (old now new : List (Option Takes)) (changed : Bool) → IsPassing worlds count old now changed
    → AreKept worlds new → new ≡ now → IsClosedAt worlds new count → IsPassing worlds (count + 1) old new changed
passed_same worlds count old now new changed h kept same closed = record {
  kept = kept;
  same = λ e. same ∙ h.same e;
  closed = λ e place l. elim (is_same count place) as (λ _. IsClosedAt worlds old place) [
    | inl at ↦ subst (λ (p : ℕ). IsClosedAt worlds old p) (sym at) (subst (λ (xs : List (Option Takes)). IsClosedAt worlds xs count) (same ∙ h.same e) closed)
    | inr other ↦ h.closed e place (omega arith)
  ];
}

pub passed_changed : (worlds : List (Vec Way)) (count : ℕ) (old new : List (Option Takes)) → AreKept worlds new → IsPassing worlds count old new true
passed_changed worlds count old new kept = record { kept = kept; same = λ e. absurd (cc); closed = λ e. absurd (cc) }

pub no_ways : (worlds : List (Vec Way)) (place : ℕ) → length worlds ≤ place → ways_at worlds place ≡ []
no_ways worlds place l = ap (λ (o : Option (Vec Way)). option_map_or (λ (w : Vec Way). w.items) o []) (slice_get_past worlds place l)

no_element : (way : Way) → Contains [] way → ⊥
no_element way c = omega (arith, c.1)

pub passed_all : (worlds : List (Vec Way)) (count : ℕ) (old new : List (Option Takes)) (changed : Bool) → IsPassing worlds count old new changed → length worlds ≤ count → changed ≡ false → AreClosed worlds new
passed_all worlds count old new changed h l e place = subst (λ (xs : List (Option Takes)). IsClosedAt worlds xs place) (sym (h.same e)) (elim (cases_lt place count) as (λ _. IsClosedAt worlds old place) [
  | inl m ↦ h.closed e place m
  | inr m ↦ λ way c. absurd (no_element way (subst (λ (ways : List Way). Contains ways way) (no_ways worlds place (omega arith)) c))
])

-- ---- the beginning

none_is_some : (t : Takes) → None ≡ Some t → ⊥
none_is_some t e = absurd (cc)

-- what is known at first: the first world is reached
first_known : (place : ℕ) (none : List (Option Takes)) (takes : Takes) → ((p : ℕ) → get_or none p None ≡ None) → get_or (set none 0 (Some (record { fewest = 0; most = 0 }))) place None ≡ Some takes
    → (place ≡ 0) × (record { fewest = 0; most = 0 } ≡ takes)
first_known place none takes h e = elim (set_cases none 0 place (Some (record { fewest = 0; most = 0 })) None) as (λ _. (place ≡ 0) × (record { fewest = 0; most = 0 } ≡ takes)) [
  | inl at ↦ (at.0, some_same (record { fewest = 0; most = 0 }) takes (sym at.1 ∙ e))
  | inr other ↦ absurd (none_is_some takes (sym (h place) ∙ sym other ∙ e))
]

-- the first world is reached without a take
first_walked : (worlds : List (Vec Way)) → 0 < length worlds → IsWalked worlds 0 (record { fewest = 0; most = 0 })
first_walked worlds l = record { fewest = record { ways = []; walk = (l, refl); takes = refl }; most = record { ways = []; walk = (l, refl); takes = refl } }

some_world : (none : List (Option Takes)) (takes : Takes) → ((p : ℕ) → get_or none p None ≡ None) → get_or (set none 0 (Some (record { fewest = 0; most = 0 }))) 0 None ≡ Some takes → 0 < length none
some_world none takes h e = elim (cases_lt 0 (length none)) as (λ _. 0 < length none) [
  | inl l ↦ l
  | inr l ↦ absurd (none_is_some takes (sym (h 0) ∙ sym (ap (λ (xs : List (Option Takes)). get_or xs 0 None) (set_past none 0 (Some (record { fewest = 0; most = 0 })) l)) ∙ e))
]

pub kept_first : (worlds : List (Vec Way)) (none : List (Option Takes)) → length none ≡ length worlds → ((p : ℕ) → get_or none p None ≡ None) → AreKept worlds (set none 0 (Some (record { fewest = 0; most = 0 })))
kept_first worlds none len h = record {
  len = length-set none 0 (Some (record { fewest = 0; most = 0 })) ∙ len;
  walked = λ place takes e.
      let known = first_known place none takes h e in
      let some = some_world none takes h (ap (λ (p : ℕ). get_or (set none 0 (Some (record { fewest = 0; most = 0 }))) p None) (sym known.0) ∙ e) in
      subst (λ (p : ℕ). IsWalked worlds p takes) (sym known.0) (subst (λ (t : Takes). IsWalked worlds 0 t) known.1 (first_walked worlds (omega arith)));
  first = λ l. subst (λ (o : Option Takes). IsReachedUntaken o) (sym (get_or-set_same none 0 (Some (record { fewest = 0; most = 0 })) None (subst (λ (n : ℕ). 0 < n) (length-set none 0 (Some (record { fewest = 0; most = 0 }))) l))) refl;
}

-- ---- the end

-- a place from which a walk leads is one
walk_in : (worlds : List (Vec Way)) (from : ℕ) (ways : List Way) (to : ℕ) → IsWalk worlds from ways to → from < length worlds
walk_in worlds from [] to walk = walk.0
walk_in worlds from (way ∷ ways) to walk = elim (cases_lt from (length worlds)) as (λ _. from < length worlds) [
  | inl l ↦ l
  | inr l ↦ absurd (no_element way (subst (λ (ways : List Way). Contains ways way) (no_ways worlds from l) walk.0))
]

-- what is known where a walk ends that began where something was known
record IsEnd (all : List (Option Takes)) (at : Takes) (count to : ℕ) : Type 0 where
  pub end : Takes
  pub known : get_or all to None ≡ Some end
  pub fewest : end.fewest ≤ at.fewest + count
  pub most : at.most + count ≤ end.most

further : (all : List (Option Takes)) (at mid : Takes) (way : Way) (count to : ℕ) → IsWider at way mid → IsEnd all mid count to → IsEnd all at (takes_on way + count) to
further all at mid way count to wide end = record { end = end.end; known = end.known; fewest = omega (arith, end.fewest, wide.fewest); most = omega (arith, end.most, wide.most) }

walked_mid : (all : List (Option Takes)) (way : Way) (ways : List Way) (to : ℕ) (at : Takes) (mid : Option Takes) → AreWider (Some at) way mid
    → ((next : Takes) → mid ≡ Some next → IsEnd all next (takes_of ways) to) → IsEnd all at (takes_of (way ∷ ways)) to
walked_mid all way ways to at None wide rest = absurd wide
walked_mid all way ways to at (Some mid) wide rest = subst (λ (n : ℕ). IsEnd all at n to) (sym (sum_by-cons takes_on way ways)) (further all at mid way (takes_of ways) to wide (rest mid refl))

walked_to : (worlds : List (Vec Way)) (all : List (Option Takes)) (from : ℕ) (ways : List Way) (to : ℕ) (at : Takes) → length all ≡ length worlds → AreClosed worlds all → get_or all from None ≡ Some at
    → IsWalk worlds from ways to → IsEnd all at (takes_of ways) to
walked_to worlds all from [] to at len closed e walk = record { end = at; known = ap (λ (p : ℕ). get_or all p None) (sym walk.1) ∙ e; fewest = omega arith; most = omega arith }
walked_to worlds all from (way ∷ ways) to at len closed e walk =
    walked_mid all way ways to at (get_or all way.place None)
    (subst (λ (o : Option Takes). AreWider o way (get_or all way.place None)) e (closed from way walk.0 (let l = walk_in worlds way.place ways to walk.1 in omega arith)))
    (λ next is. walked_to worlds all way.place ways to next len closed is walk.1)

-- what is known of the end of each walk
from_first : (worlds : List (Vec Way)) (all : List (Option Takes)) (ways : List Way) (to : ℕ) (at : Option Takes) → AreKept worlds all → AreClosed worlds all → get_or all 0 None ≡ at → IsReachedUntaken at
    → IsWalk worlds 0 ways to → (first : Takes) × (first.fewest ≡ 0) × IsEnd all first (takes_of ways) to
from_first worlds all ways to None kept closed e start walk = absurd start
from_first worlds all ways to (Some at) kept closed e start walk = (at, start, walked_to worlds all 0 ways to at kept.len closed e walk)

known_to : (worlds : List (Vec Way)) (all : List (Option Takes)) (ways : List Way) (to : ℕ) → AreKept worlds all → AreClosed worlds all → IsWalk worlds 0 ways to
    → (first : Takes) × (first.fewest ≡ 0) × IsEnd all first (takes_of ways) to
known_to worlds all ways to kept closed walk =
    from_first worlds all ways to (get_or all 0 None) kept closed refl (kept.first (let l = walk_in worlds 0 ways to walk in omega (arith, kept.len))) walk

are_takes_to : (worlds : List (Vec Way)) (all : List (Option Takes)) (to : ℕ) (known : Option Takes) → AreKept worlds all → AreClosed worlds all → get_or all to None ≡ known → AreTakesTo worlds to known
are_takes_to worlds all to None kept closed e = λ ways walk. let k = known_to worlds all ways to kept closed walk in none_is_some k.2.end (sym e ∙ k.2.known)
are_takes_to worlds all to (Some takes) kept closed e = (
  kept.walked to takes e,
  λ ways walk.
      let k = known_to worlds all ways to kept closed walk in
      subst (λ (t : Takes). IsInBounds t (takes_of ways)) (some_same k.2.end takes (sym k.2.known ∙ e)) (record { fewest = omega (arith, k.2.fewest, k.1); most = omega (arith, k.2.most) }),
)

pub are_takes : (worlds : List (Vec Way)) (all : List (Option Takes)) → AreKept worlds all → AreClosed worlds all → AreTakes worlds all
are_takes worlds all kept closed = record { len = kept.len; are = λ place. are_takes_to worlds all place (get_or all place None) kept closed refl }

-- what is left of a vector whose slice was changed
pub slice_left : {A : Type 0} (n : ℕ) (new old : List A) → n ≡ length old → length new ≡ length old → take n (new ++ drop (length new) old) ≡ new
slice_left n new old e l = take-append-le n new (drop (length new) old) (omega arith) ∙ take_all n new (omega arith)
