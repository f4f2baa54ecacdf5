-- Steps that happen, and where they lead.
use Rattle.std.proofs.Common.{◌≡◌, ◌⊎◌, ◌↔◌, ◌<◌, ◌≤◌, ℕ, ◌+◌, List, [], ◌∷◌, ◌++◌, length}
use Rattle.std.proofs.Common.{get_or, refl, sym, ap, ◌∙◌, inl, inr, subst, arith, append_assoc}
use Rattle.std.proofs.lemmas.List.{append-nil, get_or_append_left, get_or_at, length_push}
use Rattle.std.proofs.lemmas.List.Elements.{Contains-append_left, Contains-push, Contains-push_cases}
use Rattle.std.proofs.lemmas.Option.{slice_get_read}
use Rattle.std.specs.Prelude.{slice_get, Option, Some, None, Result, Ok, Err, IfOk}
use Rattle.std.specs.List.{Contains}
use Rattle.std.specs.Option.{ForSome}
use Rattle.pg_explore.specs.declared.explored.Arrival.{Arrival}
use Rattle.pg_explore.specs.declared.explored.Arrival.TheVariants.{Nowhere, At, Beyond}
use Rattle.pg_explore.specs.declared.explored.Met.{Met}
use Rattle.pg_explore.specs.declared.moves.Move.{Move}
use Rattle.pg_explore.specs.declared.plan.Plan.{Plan}
use Rattle.pg_explore.specs.declared.visitor.Led.{Led}
use Rattle.pg_explore.specs.Explorations.{AreFollowedAt, MeetsMore, IsFollowed, IsOpenAt, LeadsFrom, sight_in}
use Rattle.pg_explore.specs.Listings.{IsOpenMove}
use Rattle.pg_explore.specs.Moments.{Sight}
use Rattle.pg_explore.specs.Moves.{MoveLeads, Stays}
use Rattle.pg_explore.specs.Ways.{AreLed, AreLedAt, AreLentWays, AreWays, Arrives, IsAmong}
use Rattle.pg_explore.specs.Ways.{IsArrived, IsLentWays, LeadsTo, LeadsToAt, StaysAt}
use Rattle.pg_explore.proofs.Expanding.{LedBelow}
use Rattle.pg_explore.proofs.Optional.{inside_some, some_is}
use Rattle.pg_explore.proofs.Reached.{low_or_same}

-- ---- the moment of a place

-- what stands at a place is what stood there
same_at : (old new : List Met) (place : ℕ) (was met : Met) → MeetsMore old new → slice_get old place ≡ Some was → slice_get new place ≡ Some met → was ≡ met
same_at old new place was met grows at here = some_is was met (sym (grows place was at) ∙ here)

pub leads_to_on : (plans : List Plan) (old new : List Met) (sight : Sight) (step : Move) (place : ℕ) → MeetsMore old new → LeadsTo plans old sight step place → LeadsTo plans new sight step place
leads_to_on plans old new sight step place grows h = (h.0, h.1, (h.2.0, grows place h.2.0 h.2.1, h.2.2))

pub stays_at_on : (plans : List Plan) (old new : List Met) (place : ℕ) (step : Move) → MeetsMore old new → place < length old → StaysAt plans old place step → StaysAt plans new place step
stays_at_on plans old new place step grows inside h = λ met at.
    let was = inside_some old place inside in
    subst (λ (m : Met). Stays plans (sight_in m) step) (same_at old new place was.0 met grows was.1 at) (h was.0 was.1)

pub leads_to_at_on : (plans : List Plan) (old new : List Met) (place : ℕ) (step : Move) (reached : ℕ) → MeetsMore old new → place < length old
    → LeadsToAt plans old place step reached → LeadsToAt plans new place step reached
leads_to_at_on plans old new place step reached grows inside h = λ met at.
    let was = inside_some old place inside in
    subst (λ (m : Met). LeadsTo plans new (sight_in m) step reached) (same_at old new place was.0 met grows was.1 at)
    (leads_to_on plans old new (sight_in was.0) step reached grows (h was.0 was.1))

leads_from_on : (plans : List Plan) (old new : List Met) (place : ℕ) (step : Move) (sight : Sight) → MeetsMore old new → place < length old → LeadsFrom plans old place step sight → LeadsFrom plans new place step sight
leads_from_on plans old new place step sight grows inside h = λ met at.
    let was = inside_some old place inside in
    subst (λ (m : Met). MoveLeads plans (sight_in m) step sight) (same_at old new place was.0 met grows was.1 at) (h was.0 was.1)

-- ---- where a step leads

pub arrives_by : {E : Type 0} (r : Result Arrival E) (plans : List Plan) (old new : List Met) (place : ℕ) (step : Move) (sight : Sight) → MeetsMore old new → place < length old
    → LeadsFrom plans old place step sight → IfOk r (IsArrived new sight) → IfOk r (Arrives plans new place step)
arrives_by (Ok Nowhere) plans old new place step sight grows inside leads h = absurd h
arrives_by (Ok (At reached)) plans old new place step sight grows inside leads h = λ met at. (sight, leads_from_on plans old new place step sight grows inside leads met at, h)
arrives_by (Ok Beyond) plans old new place step sight grows inside leads h = tt
arrives_by (Err f) plans old new place step sight grows inside leads h = tt

-- ---- the steps of a moment, one after another

-- one that does not happen
pub below_stays : (plans : List Plan) (old new : List Met) (place : ℕ) (moves : List Move) (i : ℕ) (step : Move) (led : List Led) → MeetsMore old new → place < length old → slice_get moves i ≡ Some step
    → StaysAt plans new place step → LedBelow plans old place moves i led → LedBelow plans new place moves (i + 1) led
below_stays plans old new place moves i step led grows inside at here h = record {
  lead = λ way among. let l = h.lead way among in (l.0, leads_to_at_on plans old new place way.step way.place grows inside l.1);
  all = λ k other l is. go k other is (low_or_same k i l);
}
  where
    go : (k : ℕ) (other : Move) → slice_get moves k ≡ Some other → (k < i) ⊎ (k ≡ i) → StaysAt plans new place other ⊎ IsAmong led other
    go k other is (inl l) = elim (h.all k other l is) as (λ _. StaysAt plans new place other ⊎ IsAmong led other) [
      | inl s ↦ inl (stays_at_on plans old new place other grows inside s)
      | inr a ↦ inr a
    ]
    go k other is (inr e) = inl (subst (λ (s : Move). StaysAt plans new place s) (some_is step other (sym at ∙ ap (slice_get moves) (sym e) ∙ is)) here)

among_more : (led : List Led) (way : Led) (step : Move) → IsAmong led step → IsAmong (led ++ way ∷ []) step
among_more led way step h = (h.0, Contains-append_left led (way ∷ []) h.0 h.1, h.2)

-- one that leads to a moment
pub below_leads : (plans : List Plan) (old new : List Met) (place : ℕ) (moves : List Move) (i : ℕ) (step : Move) (led : List Led) (reached : ℕ) → MeetsMore old new → place < length old
    → slice_get moves i ≡ Some step → Contains moves step → LeadsToAt plans new place step reached → LedBelow plans old place moves i led
    → LedBelow plans new place moves (i + 1) (led ++ record { step = step; place = reached } ∷ [])
below_leads plans old new place moves i step led reached grows inside at listed here h = record { lead = lead; all = λ k other l is. go k other is (low_or_same k i l) }
  where
    lead : (other : Led) → Contains (led ++ record { step = step; place = reached } ∷ []) other → Contains moves other.step × LeadsToAt plans new place other.step other.place
    lead other among = elim (Contains-push_cases led (record { step = step; place = reached }) other among) as (λ _. Contains moves other.step × LeadsToAt plans new place other.step other.place) [
      | inl c ↦ let l = h.lead other c in (l.0, leads_to_at_on plans old new place other.step other.place grows inside l.1)
      | inr e ↦ subst (λ (w : Led). Contains moves w.step × LeadsToAt plans new place w.step w.place) e (listed, here)
    ]

    go : (k : ℕ) (other : Move) → slice_get moves k ≡ Some other → (k < i) ⊎ (k ≡ i) → StaysAt plans new place other ⊎ IsAmong (led ++ record { step = step; place = reached } ∷ []) other
    go k other is (inl l) = elim (h.all k other l is) as (λ _. StaysAt plans new place other ⊎ IsAmong (led ++ record { step = step; place = reached } ∷ []) other) [
      | inl s ↦ inl (stays_at_on plans old new place other grows inside s)
      | inr a ↦ inr (among_more led (record { step = step; place = reached }) other a)
    ]
    go k other is (inr e) = inr (record { step = step; place = reached }, Contains-push led (record { step = step; place = reached }), some_is step other (sym at ∙ ap (slice_get moves) (sym e) ∙ is))

-- all of them
pub led_all : (plans : List Plan) (most : ℕ) (old new : List Met) (place : ℕ) (moves : List Move) (count : ℕ) (led : List Led) → MeetsMore old new → place < length old → length moves ≤ count
    → ((step : Move) → Contains moves step ↔ IsOpenAt plans most old place step) → LedBelow plans new place moves count led → AreLedAt plans most new place led
led_all plans most old new place moves count led grows inside past listed h = λ met at.
    let was = inside_some old place inside in
    let same : was.0 ≡ met = same_at old new place was.0 met grows was.1 at in
    record {
      lead = λ way among.
          let l = h.lead way among in
          let o = (listed way.step).0 l.0 in
          (subst (λ (m : Met). IsOpenMove plans most (sight_in m) way.step) (some_is o.0 was.0 (sym o.1 ∙ was.1) ∙ same) o.2, l.1 met at);
      all = λ step can.
          let among = (listed step).1 (was.0, was.1, subst (λ (m : Met). IsOpenMove plans most (sight_in m) step) (sym same) can) in
          elim (h.all among.0 step (omega (arith, past, among.1)) (slice_get_read moves _ among.0 step refl among.1 (sym among.2))) as (λ _. Stays plans (sight_in met) step ⊎ IsAmong led step) [
            | inl s ↦ inl (s met at)
            | inr a ↦ inr a
          ];
    }

-- what leads to a moment that was met is followed
pub followed_by : (plans : List Plan) (most : ℕ) (mets : List Met) (place : ℕ) (led : List Led) → AreLedAt plans most mets place led → AreFollowedAt plans most mets place
followed_by plans most mets place led h = λ met step at can.
    let l = h met at in
    elim (l.all step can) as (λ _. IsFollowed plans mets (sight_in met) step) [
      | inl s ↦ inl s
      | inr a ↦
          let to = subst (λ (s : Move). LeadsTo plans mets (sight_in met) s a.0.place) a.2 (l.lead a.0 a.1).1 in
          inr (to.0, to.1, (a.0.place, to.2))
    ]

-- ---- those of moments that were lent

led_on : (plans : List Plan) (most : ℕ) (old new : List Met) (sight : Sight) (led : List Led) → MeetsMore old new → AreLed plans most old sight led → AreLed plans most new sight led
led_on plans most old new sight led grows h = record {
  lead = λ way among. let l = h.lead way among in (l.0, leads_to_on plans old new sight way.step way.place grows l.1);
  all = h.all;
}

ways_on : (plans : List Plan) (most : ℕ) (old new : List Met) (n : ℕ) (all : List (List Led)) → MeetsMore old new → n ≤ length old → AreWays plans most old n all → AreWays plans most new n all
ways_on plans most old new n all grows many h = record {
  len = h.len;
  led = λ place met inside at.
      let was = inside_some old place (omega (arith, inside, many)) in
      led_on plans most old new (sight_in met) (get_or all place []) grows
      (subst (λ (m : Met). AreLed plans most old (sight_in m) (get_or all place [])) (same_at old new place was.0 met grows was.1 at) (h.led place was.0 inside was.1));
}

ways_push : (plans : List Plan) (most : ℕ) (mets : List Met) (n : ℕ) (all : List (List Led)) (led : List Led) → AreWays plans most mets n all → AreLedAt plans most mets n led → AreWays plans most mets (n + 1) (all ++ led ∷ [])
ways_push plans most mets n all led h here = record {
  len = length_push all led ∙ ap (λ (k : ℕ). k + 1) h.len;
  led = λ place met inside at. go place met at (low_or_same place n inside);
}
  where
    go : (place : ℕ) (met : Met) → slice_get mets place ≡ Some met → (place < n) ⊎ (place ≡ n) → AreLed plans most mets (sight_in met) (get_or (all ++ led ∷ []) place [])
    go place met at (inl l) = subst (λ (ways : List Led). AreLed plans most mets (sight_in met) ways) (sym (get_or_append_left all (led ∷ []) [] place (omega (arith, l, h.len)))) (h.led place met l at)
    go place met at (inr e) = subst (λ (ways : List Led). AreLed plans most mets (sight_in met) ways) (sym (get_or_at all led [] [] place (h.len ∙ sym e))) (here met (ap (slice_get mets) (sym e) ∙ at))

pub no_ways : (before : Option (List (List Led))) (plans : List Plan) (most : ℕ) (mets : List Met) → AreLentWays before before (AreWays plans most mets 0)
no_ways None plans most mets = tt
no_ways (Some xs) plans most mets = ([], ap Some (sym (append-nil xs)), record { len = refl; led = λ place met inside at. absurd (omega (arith, inside)) })

pub ways_more : (before mid after : Option (List (List Led))) (plans : List Plan) (most : ℕ) (old new : List Met) (n : ℕ) (led : List Led) → MeetsMore old new → n ≤ length old
    → AreLentWays before mid (AreWays plans most old n) → AreLedAt plans most new n led → IsLentWays mid after led → AreLentWays before after (AreWays plans most new (n + 1))
ways_more None mid after plans most old new n led grows many h here k = tt
ways_more (Some xs) mid after plans most old new n led grows many h here k =
    let last : IsLentWays (Some (xs ++ h.0)) after led = subst (λ (o : Option (List (List Led))). IsLentWays o after led) h.1 k in
    (h.0 ++ led ∷ [], last ∙ ap Some (append_assoc xs h.0 (led ∷ [])), ways_push plans most new n h.0 led (ways_on plans most old new n h.0 grows many h.2) here)

pub ways_same : (before mid after : Option (List (List Led))) (plans : List Plan) (most : ℕ) (old new : List Met) (n m : ℕ) → MeetsMore old new → n ≤ length old → m ≡ n → after ≡ mid
    → AreLentWays before mid (AreWays plans most old n) → AreLentWays before after (AreWays plans most new m)
ways_same None mid after plans most old new n m grows many e same h = tt
ways_same (Some xs) mid after plans most old new n m grows many e same h =
    (h.0, same ∙ h.1, subst (λ (k : ℕ). AreWays plans most new k h.0) (sym e) (ways_on plans most old new n h.0 grows many h.2))
