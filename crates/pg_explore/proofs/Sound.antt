-- What holds of the moments that were met, as one is added.
use Rattle.std.proofs.Common.{◌≡◌, ◌⊎◌, ◌<◌, ◌≤◌, ℕ, ◌+◌, List, [], ◌∷◌, ◌++◌, length}
use Rattle.std.proofs.Common.{Option, Some, None, refl, sym, ap, ◌∙◌, inl, inr, subst, arith}
use Rattle.std.specs.Prelude.{slice_get}
use Rattle.std.specs.List.{Contains}
use Rattle.pg_world_packets.specs.PgStep.Config.{Config}
use Rattle.pg_explore.specs.declared.bins.Bins.{Bins}
use Rattle.pg_explore.specs.declared.explored.Before.{Before}
use Rattle.pg_explore.specs.declared.explored.Met.{Met}
use Rattle.pg_explore.specs.declared.moves.Move.{Move}
use Rattle.pg_explore.specs.declared.plan.Plan.{Plan}
use Rattle.pg_explore.specs.Bins.{Keeps, spots_of}
use Rattle.pg_explore.specs.Explorations.{AreUnlike, AreFollowed, AreBinned, AreMomentsOf, AreReached}
use Rattle.pg_explore.specs.Explorations.{MeetsMore, IsAlikeAt, IsFollowed, IsFound, IsKnown}
use Rattle.pg_explore.specs.Explorations.{IsOpenAt, IsLedTo, IsSound, LeadsFrom, sight_in}
use Rattle.pg_explore.specs.Listings.{IsOpenMove}
use Rattle.pg_explore.specs.Moments.{AreAlike, IsFirst, IsMomentOf, Sight}
use Rattle.pg_explore.specs.Moves.{MoveLeads}
use Rattle.pg_explore.specs.Numbers.{number_in}
use Rattle.pg_explore.proofs.Alike.{alike_back}
use Rattle.pg_explore.proofs.Getting.{get_left, get_last, get_push, some_same}

-- ---- moments that are there stay

pub grows_push : (mets : List Met) (met : Met) → MeetsMore mets (mets ++ met ∷ [])
grows_push mets met = λ place other at. get_left mets (met ∷ []) place other at

pub grows_on : (one two three : List Met) → MeetsMore one two → MeetsMore two three → MeetsMore one three
grows_on one two three h k = λ place met at. k place met (h place met at)

pub known_on : (old new : List Met) (sight : Sight) → MeetsMore old new → IsKnown old sight → IsKnown new sight
known_on old new sight grows h = (h.0, (h.1.0, grows h.0 h.1.0 h.1.1, h.1.2))

pub followed_on : (plans : List Plan) (old new : List Met) (sight : Sight) (step : Move) → MeetsMore old new → IsFollowed plans old sight step → IsFollowed plans new sight step
followed_on plans old new sight step grows (inl stays) = inl stays
followed_on plans old new sight step grows (inr led) = inr (led.0, led.1, known_on old new led.0 grows led.2)

-- ---- one more

module _ (config : Config) (plans : List Plan) (most : ℕ) where
  reached_on : (old new : List Met) (place : ℕ) (sight : Sight) (before : Option Before) → MeetsMore old new
      → IsLedTo config plans most old place sight before → IsLedTo config plans most new place sight before
  reached_on old new place sight None grows h = h
  reached_on old new place sight (Some before) grows h = (h.0, (h.1.0, grows before.place h.1.0 h.1.1, h.1.2, h.1.3))

  -- a moment that is led to by a step from an earlier one is reached
  pub reached_by : (mets : List Met) (place : ℕ) (step : Move) (sight : Sight) → place < length mets → IsOpenAt plans most mets place step → LeadsFrom plans mets place step sight
      → IsLedTo config plans most mets (length mets) sight (Some (record { place = place; step = step }))
  reached_by mets place step sight inside can leads = (inside, (can.0, can.1, can.2, leads can.0 can.1))

  module _ (bins others : Bins) (mets : List Met) (met : Met) (sound : IsSound config plans most bins mets) where
    abbrev pub all : List Met
    all = mets ++ met ∷ []

    of_push : IsMomentOf config met.moment → AreMomentsOf config all
    of_push of place other at = go (get_push mets met place other at)
      where
        go : (slice_get mets place ≡ Some other) ⊎ ((place ≡ length mets) × (met ≡ other)) → IsMomentOf config other.moment
        go (inl h) = sound.of place other h
        go (inr h) = subst (λ m. IsMomentOf config m.moment) h.1 of

    reached_push : IsLedTo config plans most mets (length mets) (sight_in met) met.before → AreReached config plans most all
    reached_push new place other at = go (get_push mets met place other at)
      where
        go : (slice_get mets place ≡ Some other) ⊎ ((place ≡ length mets) × (met ≡ other)) → IsLedTo config plans most (mets ++ met ∷ []) place (sight_in other) other.before
        go (inl h) = reached_on mets (mets ++ met ∷ []) place (sight_in other) other.before (grows_push mets met) (sound.reached place other h)
        go (inr h) = subst (λ m. IsLedTo config plans most (mets ++ met ∷ []) place (sight_in m) m.before) h.1
            (subst (λ k. IsLedTo config plans most (mets ++ met ∷ []) k (sight_in met) met.before) (sym h.0)
            (reached_on mets (mets ++ met ∷ []) (length mets) (sight_in met) met.before (grows_push mets met) new))

    apart_push : IsFound mets (sight_in met) None → AreUnlike all
    apart_push fresh i j one other at here alike = go (get_push mets met i one at) (get_push mets met j other here)
      where
        go : (slice_get mets i ≡ Some one) ⊎ ((i ≡ length mets) × (met ≡ one)) → (slice_get mets j ≡ Some other) ⊎ ((j ≡ length mets) × (met ≡ other)) → i ≡ j
        go (inl h) (inl k) = sound.distinct i j one other h k alike
        go (inl h) (inr k) = absurd (fresh i (one, h, subst (λ m. AreAlike (sight_in one) (sight_in m)) (sym k.1) alike))
        go (inr h) (inl k) = absurd (fresh j (other, k, alike_back _ _ (subst (λ m. AreAlike (sight_in m) (sight_in other)) (sym h.1) alike)))
        go (inr h) (inr k) = h.0 ∙ sym k.0

    -- one more that is not known yet is as sound
    pub sound_push : IsMomentOf config met.moment → IsLedTo config plans most mets (length mets) (sight_in met) met.before → IsFound mets (sight_in met) None
        → AreBinned others all → IsSound config plans most others all
    sound_push of new fresh kept = record { of = of_push of; reached = reached_push new; distinct = apart_push fresh; kept = kept }

-- ---- bins

-- what is in its bin stays there, and one more is
pub kept_push : (bins others : Bins) (mets : List Met) (met : Met) → Keeps bins others
    → Contains (spots_of others (number_in (sight_in met))) (record { number = number_in (sight_in met); place = length mets })
    → AreBinned bins mets → AreBinned others (mets ++ met ∷ [])
kept_push bins others mets met keeps added kept = λ place other at. go place other (get_push mets met place other at)
  where
    go : (place : ℕ) (other : Met) → (slice_get mets place ≡ Some other) ⊎ ((place ≡ length mets) × (met ≡ other))
        → Contains (spots_of others (number_in (sight_in other))) (record { number = number_in (sight_in other); place = place })
    go place other (inl h) = keeps _ _ (kept place other h)
    go place other (inr h) = subst (λ m. Contains (spots_of others (number_in (sight_in m))) (record { number = number_in (sight_in m); place = place })) h.1
        (subst (λ k. Contains (spots_of others (number_in (sight_in met))) (record { number = number_in (sight_in met); place = k })) (sym h.0) added)
