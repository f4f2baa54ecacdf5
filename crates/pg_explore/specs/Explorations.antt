-- What an exploration has met.
use Rattle.std.specs.Prelude.{◌≡◌, ◌⊎◌, ◌<◌, ℕ, ◌+◌, Bool, true, false, length, slice_get, List, Option, Some, None}
use Rattle.std.specs.List.{Contains}
use Rattle.pg_world_packets.specs.PgStep.Config.{Config}
use Rattle.pg_explore.specs.declared.bins.Bins.{Bins}
use Rattle.pg_explore.specs.declared.explored.Before.{Before}
use Rattle.pg_explore.specs.declared.explored.Explored.{Explored}
use Rattle.pg_explore.specs.declared.explored.Met.{Met}
use Rattle.pg_explore.specs.declared.moves.Move.{Move}
use Rattle.pg_explore.specs.declared.plan.Plan.{Plan}
use Rattle.pg_explore.specs.Bins.{spots_of}
use Rattle.pg_explore.specs.Listings.{IsOpenMove}
use Rattle.pg_explore.specs.Lent.{IsLent}
use Rattle.pg_explore.specs.Moments.{AreAlike, IsFirst, IsMomentOf, IsSized, Sight, sight_of}
use Rattle.pg_explore.specs.Moves.{MoveLeads, Stays}
use Rattle.pg_explore.specs.Numbers.{number_in}

-- the moments that were met, in the order in which they were
abbrev pub met_of : Explored → List Met
met_of explored = explored.met.items

abbrev pub sight_in : Met → Sight
sight_in met = sight_of met.moment

-- ---- each is reached

-- A moment that was met is led to by a step that can be made at an earlier one; or it is the first of all, with which the configuration begins.
abbrev pub IsLedTo : Config → List Plan → ℕ → List Met → ℕ → Sight → Option Before → Type 0
IsLedTo config plans most mets place sight None = (place ≡ 0) × IsFirst config sight
IsLedTo config plans most mets place sight (Some before) = (before.place < place) × ((old : Met) × (slice_get mets before.place ≡ Some old)
    × IsOpenMove plans most (sight_in old) before.step × MoveLeads plans (sight_in old) before.step sight)

abbrev pub AreReached : Config → List Plan → ℕ → List Met → Type 0
AreReached config plans most mets = (place : ℕ) (met : Met) → slice_get mets place ≡ Some met → IsLedTo config plans most mets place (sight_in met) met.before

-- ---- no two are the same

-- no two of them are the same but for clocks and stamps
abbrev pub AreUnlike : List Met → Type 0
AreUnlike mets = (i j : ℕ) (one other : Met) → slice_get mets i ≡ Some one → slice_get mets j ≡ Some other → AreAlike (sight_in one) (sight_in other) → i ≡ j

-- ---- all are met

-- a moment is met that is the same but for clocks and stamps
abbrev pub IsKnown : List Met → Sight → Type 0
IsKnown mets sight = (place : ℕ) × ((met : Met) × (slice_get mets place ≡ Some met) × AreAlike (sight_in met) sight)

-- a step does not happen at a moment, or what it leads to is known
abbrev pub IsFollowed : List Plan → List Met → Sight → Move → Type 0
IsFollowed plans mets sight step = Stays plans sight step ⊎ ((new : Sight) × MoveLeads plans sight step new × IsKnown mets new)

-- each step that can be made at one of the first moments, so many, is followed
abbrev pub AreFollowed : List Plan → ℕ → List Met → ℕ → Type 0
AreFollowed plans most mets count = (place : ℕ) (met : Met) (step : Move) → place < count → slice_get mets place ≡ Some met
    → IsOpenMove plans most (sight_in met) step → IsFollowed plans mets (sight_in met) step

-- ---- how the code keeps it

-- all are moments of the configuration
abbrev pub AreMomentsOf : Config → List Met → Type 0
AreMomentsOf config mets = (place : ℕ) (met : Met) → slice_get mets place ≡ Some met → IsMomentOf config met.moment

-- the place of each is in the bin of its number
abbrev pub AreBinned : Bins → List Met → Type 0
AreBinned bins mets = (place : ℕ) (met : Met) → slice_get mets place ≡ Some met
    → Contains (spots_of bins (number_in (sight_in met))) (record { number = number_in (sight_in met); place = place })

-- what holds of moments all along
pub record IsSound (config : Config) (plans : List Plan) (most : ℕ) (bins : Bins) (mets : List Met) : Type 0 where
  pub of : AreMomentsOf config mets
  pub reached : AreReached config plans most mets
  pub distinct : AreUnlike mets
  pub kept : AreBinned bins mets

abbrev pub ExploredHolds : Config → List Plan → ℕ → Explored → Type 0
ExploredHolds config plans most explored = IsSound config plans most explored.bins explored.met.items

-- more are met, and the others stand where they stood
abbrev pub MeetsMore : List Met → List Met → Type 0
MeetsMore old new = (place : ℕ) (met : Met) → slice_get old place ≡ Some met → slice_get new place ≡ Some met

-- a moment of this place is the same
abbrev pub IsAlikeAt : List Met → ℕ → Sight → Type 0
IsAlikeAt mets place sight = (met : Met) × (slice_get mets place ≡ Some met) × AreAlike (sight_in met) sight

-- a place where such a moment stands, or there is none
abbrev pub IsFound : List Met → Sight → Option ℕ → Type 0
IsFound mets sight (Some place) = IsAlikeAt mets place sight
IsFound mets sight None = (place : ℕ) → IsAlikeAt mets place sight → ⊥

-- ---- at a place

-- the worlds of all have as many nodes as there are plans
abbrev pub AreSized : List Met → Type 0
AreSized mets = (place : ℕ) (met : Met) → slice_get mets place ≡ Some met → IsSized met.moment

-- a step can be made at the moment of a place
abbrev pub IsOpenAt : List Plan → ℕ → List Met → ℕ → Move → Type 0
IsOpenAt plans most mets place step = (met : Met) × (slice_get mets place ≡ Some met) × IsOpenMove plans most (sight_in met) step

-- a step leads from the moment of a place
abbrev pub LeadsFrom : List Plan → List Met → ℕ → Move → Sight → Type 0
LeadsFrom plans mets place step new = (met : Met) → slice_get mets place ≡ Some met → MoveLeads plans (sight_in met) step new

-- a step of the moment of a place is followed
abbrev pub IsFollowedAt : List Plan → List Met → ℕ → Move → Type 0
IsFollowedAt plans mets place step = (met : Met) → slice_get mets place ≡ Some met → IsFollowed plans mets (sight_in met) step

-- each that can be made there is
abbrev pub AreFollowedAt : List Plan → ℕ → List Met → ℕ → Type 0
AreFollowedAt plans most mets place = (met : Met) (step : Move) → slice_get mets place ≡ Some met → IsOpenMove plans most (sight_in met) step → IsFollowed plans mets (sight_in met) step

-- one more was lent, or none
abbrev pub Lends : Option (List Met) → Option (List Met) → ℕ → ℕ → List Met → Bool → Type 0
Lends before after old new mets true = (new ≡ old + 1) × ((met : Met) × (slice_get mets old ≡ Some met) × IsLent before after met)
Lends before after old new mets false = (new ≡ old) × (after ≡ before)
