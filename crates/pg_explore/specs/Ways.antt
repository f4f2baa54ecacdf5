-- The steps that happen at a moment, and where they lead.
use Rattle.std.specs.Prelude.{◌≡◌, ◌⊎◌, ◌<◌, ℕ, length, get_or, slice_get, List}
use Rattle.std.specs.Prelude.{[], ◌∷◌, ◌++◌, Bool, true, false, Option, Some, None}
use Rattle.std.specs.List.{Contains}
use Rattle.pg_explore.specs.declared.explored.Arrival.{Arrival}
use Rattle.pg_explore.specs.declared.explored.Arrival.TheVariants.{Nowhere, At, Beyond}
use Rattle.pg_explore.specs.declared.explored.Met.{Met}
use Rattle.pg_explore.specs.declared.moves.Move.{Move}
use Rattle.pg_explore.specs.declared.plan.Plan.{Plan}
use Rattle.pg_explore.specs.declared.visitor.Led.{Led}
use Rattle.pg_explore.specs.Explorations.{IsAlikeAt, sight_in}
use Rattle.pg_explore.specs.Listings.{IsOpenMove}
use Rattle.pg_explore.specs.Moments.{Sight}
use Rattle.pg_explore.specs.Moves.{MoveLeads, Stays}

-- a step leads to the moment of a place, but for clocks and stamps
abbrev pub LeadsTo : List Plan → List Met → Sight → Move → ℕ → Type 0
LeadsTo plans mets sight step place = (new : Sight) × MoveLeads plans sight step new × IsAlikeAt mets place new

-- a step is among them
abbrev pub IsAmong : List Led → Move → Type 0
IsAmong led step = (way : Led) × Contains led way × (way.step ≡ step)

-- The steps that happen at a moment, each with the place to which it leads: each can be made there and leads to its place, and a step
-- that can be made and is not among them does not happen.
pub record AreLed (plans : List Plan) (most : ℕ) (mets : List Met) (sight : Sight) (led : List Led) : Type 0 where
  pub lead : (way : Led) → Contains led way → IsOpenMove plans most sight way.step × LeadsTo plans mets sight way.step way.place
  pub all : (step : Move) → IsOpenMove plans most sight step → Stays plans sight step ⊎ IsAmong led step

-- those of the first moments, so many, by their places
pub record AreWays (plans : List Plan) (most : ℕ) (mets : List Met) (count : ℕ) (all : List (List Led)) : Type 0 where
  pub len : length all ≡ count
  pub led : (place : ℕ) (met : Met) → place < count → slice_get mets place ≡ Some met → AreLed plans most mets (sight_in met) (get_or all place [])

-- ---- what a visitor was lent

-- the steps of one more moment; None claims nothing
abbrev pub IsLentWays : Option (List (List Led)) → Option (List (List Led)) → List Led → Type 0
IsLentWays None after led = Unit {0}
IsLentWays (Some before) after led = after ≡ Some (before ++ led ∷ [])

-- those of some more, of which this holds
abbrev pub AreLentWays : Option (List (List Led)) → Option (List (List Led)) → (List (List Led) → Type 0) → Type 0
AreLentWays None after Are = Unit {0}
AreLentWays (Some before) after Are = (all : List (List Led)) × (after ≡ Some (before ++ all)) × Are all

-- ---- how the code keeps it

-- those of the moment of a place
abbrev pub AreLedAt : List Plan → ℕ → List Met → ℕ → List Led → Type 0
AreLedAt plans most mets place led = (met : Met) → slice_get mets place ≡ Some met → AreLed plans most mets (sight_in met) led

-- a step of the moment of a place does not happen
abbrev pub StaysAt : List Plan → List Met → ℕ → Move → Type 0
StaysAt plans mets place step = (met : Met) → slice_get mets place ≡ Some met → Stays plans (sight_in met) step

-- or leads to the moment of another
abbrev pub LeadsToAt : List Plan → List Met → ℕ → Move → ℕ → Type 0
LeadsToAt plans mets place step reached = (met : Met) → slice_get mets place ≡ Some met → LeadsTo plans mets (sight_in met) step reached

-- where a step of the moment of a place leads
abbrev pub Arrives : List Plan → List Met → ℕ → Move → Arrival → Type 0
Arrives plans mets place step Nowhere = StaysAt plans mets place step
Arrives plans mets place step (At reached) = LeadsToAt plans mets place step reached
Arrives plans mets place step Beyond = Unit {0}

-- where a moment is that a step leads to
abbrev pub IsArrived : List Met → Sight → Arrival → Type 0
IsArrived mets sight Nowhere = ⊥
IsArrived mets sight (At reached) = IsAlikeAt mets reached sight
IsArrived mets sight Beyond = Unit {0}

-- those of one more moment were lent, or none
abbrev pub LendsWays : Option (List (List Led)) → Option (List (List Led)) → (List Led → Type 0) → Bool → Type 0
LendsWays before after Are true = (led : List Led) × Are led × IsLentWays before after led
LendsWays before after Are false = after ≡ before
