-- What is known of the takes to some places, where one more is looked at.
use Rattle.std.proofs.Common.{◌≡◌, ◌<◌, ◌≤◌, ℕ, ◌+◌, Bool, true, false, List, [], ◌∷◌, ◌++◌, Option, Some}
use Rattle.std.proofs.Common.{None, length, get_or, min, max, refl, sym, ap, ◌∙◌, subst, arith, ◌⊎◌, inl, inr}
use Rattle.std.specs.List.{Contains}
use Rattle.std.specs.Global.{Vec}
use Rattle.std.proofs.lemmas.Bool.{cases_lt}
use Rattle.std.proofs.lemmas.List.Elements.{Contains-append_left, Contains-push, Contains-push_cases}
use Rattle.pg_explore_tally.specs.declared.runs.Run.{Run}
use Rattle.pg_explore_tally.specs.declared.streaks.Hop.{Hop}
use Rattle.pg_explore_tally.specs.declared.takes.Takes.{Takes}
use Rattle.pg_explore_tally.specs.declared.ways.Way.{Way}
use Rattle.pg_explore_tally.specs.Runs.{IsLongest, IsMarked, IsRun}
use Rattle.pg_explore_tally.specs.Takes.{AreTakes, AreTakesTo, IsTaken, IsInBounds, widened_to}
use Rattle.pg_explore_tally.specs.Walks.{IsWalk, takes_of}
use Rattle.pg_explore_survey.specs.Findings.{AreAmong, IsSpan, IsTakenTo, IsWhereMarked, joined_takes}

-- ---- takes

more : (worlds : List (Vec Way)) (places : List ℕ) (place count : ℕ) → IsTakenTo worlds places count → IsTakenTo worlds (places ++ place ∷ []) count
more worlds places place count h = record { place = h.place; among = Contains-append_left places (place ∷ []) h.place h.among; taken = h.taken }

here : (worlds : List (Vec Way)) (places : List ℕ) (place count : ℕ) → IsTaken worlds place count → IsTakenTo worlds (places ++ place ∷ []) count
here worlds places place count h = record { place = place; among = Contains-push places place; taken = h }

least : (worlds : List (Vec Way)) (places : List ℕ) (a b : ℕ) → IsTakenTo worlds places a → IsTakenTo worlds places b → IsTakenTo worlds places (min a b)
least worlds places a b h k = elim (cases_lt b a) as (λ _. IsTakenTo worlds places (min a b)) [
  | inl l ↦ subst (λ (n : ℕ). IsTakenTo worlds places n) (let e : b ≡ min a b = omega arith in e) k
  | inr l ↦ subst (λ (n : ℕ). IsTakenTo worlds places n) (let e : a ≡ min a b = omega arith in e) h
]

greatest : (worlds : List (Vec Way)) (places : List ℕ) (a b : ℕ) → IsTakenTo worlds places a → IsTakenTo worlds places b → IsTakenTo worlds places (max a b)
greatest worlds places a b h k = elim (cases_lt b a) as (λ _. IsTakenTo worlds places (max a b)) [
  | inl l ↦ subst (λ (n : ℕ). IsTakenTo worlds places n) (let e : a ≡ max a b = omega arith in e) h
  | inr l ↦ subst (λ (n : ℕ). IsTakenTo worlds places n) (let e : b ≡ max a b = omega arith in e) k
]

-- a walk to the place that is added
to_added : (worlds : List (Vec Way)) (place other : ℕ) (ways : List Way) → place ≡ other → IsWalk worlds 0 ways other → IsWalk worlds 0 ways place
to_added worlds place other ways e walk = subst (λ (p : ℕ). IsWalk worlds 0 ways p) (sym e) walk

join : (worlds : List (Vec Way)) (places : List ℕ) (place : ℕ) (among next : Option Takes) → AreTakesTo worlds place next → AreAmong worlds places among → AreAmong worlds (places ++ place ∷ []) (joined_takes among next)
join worlds places place None None h k = λ other ways c walk. elim (Contains-push_cases places place other c) as (λ _. ⊥) [
  | inl before ↦ k other ways before walk
  | inr this ↦ h ways (to_added worlds place other ways this walk)
]
join worlds places place (Some among) None h k = record {
  fewest = more worlds places place among.fewest k.fewest;
  most = more worlds places place among.most k.most;
  within = λ other ways c walk. elim (Contains-push_cases places place other c) as (λ _. IsInBounds among (takes_of ways)) [
    | inl before ↦ k.within other ways before walk
    | inr this ↦ absurd (h ways (to_added worlds place other ways this walk))
  ];
}
join worlds places place None (Some next) h k = record {
  fewest = here worlds places place next.fewest h.0.fewest;
  most = here worlds places place next.most h.0.most;
  within = λ other ways c walk. elim (Contains-push_cases places place other c) as (λ _. IsInBounds next (takes_of ways)) [
    | inl before ↦ absurd (k other ways before walk)
    | inr this ↦ h.1 ways (to_added worlds place other ways this walk)
  ];
}
join worlds places place (Some among) (Some next) h k = record {
  fewest = least worlds (places ++ place ∷ []) among.fewest next.fewest (more worlds places place among.fewest k.fewest) (here worlds places place next.fewest h.0.fewest);
  most = greatest worlds (places ++ place ∷ []) among.most next.most (more worlds places place among.most k.most) (here worlds places place next.most h.0.most);
  within = λ other ways c walk. elim (Contains-push_cases places place other c) as (λ _. IsInBounds (widened_to (Some among) next) (takes_of ways)) [
    | inl before ↦ let w = k.within other ways before walk in record { fewest = omega (arith, w.fewest); most = omega (arith, w.most) }
    | inr this ↦ let w = h.1 ways (to_added worlds place other ways this walk) in record { fewest = omega (arith, w.fewest); most = omega (arith, w.most) }
  ];
}

pub join_step : (worlds : List (Vec Way)) (takes : List (Option Takes)) (places : List ℕ) (place : ℕ) (among : Option Takes) → AreTakes worlds takes → AreAmong worlds places among
    → AreAmong worlds (places ++ place ∷ []) (joined_takes among (get_or takes place None))
join_step worlds takes places place among h k = join worlds places place among (get_or takes place None) (h.are place) k

-- ---- runs

begins : (worlds : List (Vec Way)) (marks : List Bool) (place : ℕ) (hops : List Hop) → IsRun worlds marks place hops → IsMarked marks place
begins worlds marks place [] run = run
begins worlds marks place (hop ∷ hops) run = run.0

pub where_found : (worlds : List (Vec Way)) (marks : List Bool) (run : Run) → IsLongest worlds marks (Some run) → IsWhereMarked marks true
where_found worlds marks run h = record { some = λ _. (run.first, begins worlds marks run.first run.hops.items h.0); none = λ e. absurd (cc) }
