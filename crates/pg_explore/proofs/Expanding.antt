-- What holds while the steps of a moment are followed.
use Rattle.std.proofs.Common.{◌≡◌, ◌⊎◌, ◌<◌, ◌≤◌, ℕ, ◌+◌, max, List, ◌∷◌}
use Rattle.std.proofs.Common.{◌++◌, length, Some, inl, inr, subst, sym, arith}
use Rattle.std.specs.Prelude.{slice_get}
use Rattle.std.specs.List.{Contains}
use Rattle.pg_world_packets.specs.PgStep.Config.{Config}
use Rattle.pg_explore.specs.declared.bins.Bins.{Bins}
use Rattle.pg_explore.specs.declared.bins.Spot.{Spot}
use Rattle.pg_explore.specs.declared.explored.Met.{Met}
use Rattle.pg_explore.specs.declared.moves.Move.{Move}
use Rattle.pg_explore.specs.declared.plan.Plan.{Plan}
use Rattle.pg_explore.specs.declared.visitor.Led.{Led}
use Rattle.pg_explore.specs.Explorations.{MeetsMore, IsAlikeAt, IsSound}
use Rattle.pg_explore.specs.Moments.{Sight}
use Rattle.pg_explore.specs.Ways.{IsAmong, LeadsToAt, StaysAt}

-- of the first steps of a list, so many, those that happen, and where they lead
pub record LedBelow (plans : List Plan) (mets : List Met) (place : ℕ) (moves : List Move) (count : ℕ) (led : List Led) : Type 0 where
  pub lead : (way : Led) → Contains led way → Contains moves way.step × LeadsToAt plans mets place way.step way.place
  pub all : (k : ℕ) (step : Move) → k < count → slice_get moves k ≡ Some step → StaysAt plans mets place step ⊎ IsAmong led step

pub record SoFar (config : Config) (plans : List Plan) (most limit : ℕ) (place : ℕ) (moves : List Move) (count : ℕ) (old : List Met) (lent now_lent : ℕ) (bins : Bins) (mets : List Met) (ways : List Led) : Type 0 where
  pub holds : IsSound config plans most bins mets
  pub grows : MeetsMore old mets
  pub few : length mets ≤ max (length old) limit
  pub lent_same : now_lent ≡ lent
  pub led : LedBelow plans mets place moves count ways

-- no spot among the first of a bin, so many, is that of a moment that is alike
abbrev pub NoneBelow : List Met → Sight → ℕ → List Spot → ℕ → Type 0
NoneBelow mets sight number spots count = (k : ℕ) (spot : Spot) → k < count → slice_get spots k ≡ Some spot → spot.number ≡ number → IsAlikeAt mets spot.place sight → ⊥
