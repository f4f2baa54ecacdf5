-- Runs through the worlds that were met.
use Rattle.std.specs.Prelude.{◌≡◌, ℕ, List, [], ◌∷◌, slice_get, option_and_then}
use Rattle.std.specs.Prelude.{option_map, reverse, Option, Some, None}
use Rattle.pg_explore.specs.declared.explored.Before.{Before}
use Rattle.pg_explore.specs.declared.explored.Met.{Met}
use Rattle.pg_explore_survey.specs.declared.hops.Stride.{Stride}

-- a step that was made at the world of a place
abbrev pub stride_of : Before → Stride
stride_of before = record { place = before.place; step = before.step }

-- the step by which the world of a place was met; None: it is the first
abbrev pub met_by : List Met → ℕ → Option Stride
met_by mets place = option_and_then (λ (met : Met). option_map stride_of met.before) (slice_get mets place)

-- the steps by which the world of a place was met, the last first
abbrev pub IsWayBack : List Met → ℕ → List Stride → Type 0
IsWayBack mets place [] = met_by mets place ≡ None
IsWayBack mets place (stride ∷ strides) = (met_by mets place ≡ Some stride) × IsWayBack mets stride.place strides

-- in their order, from the first world on
abbrev pub IsRunTo : List Met → ℕ → List Stride → Type 0
IsRunTo mets place strides = IsWayBack mets place (reverse strides)

-- ---- how the code keeps it

-- the last of them lead from one world to another
abbrev pub AreBack : List Met → ℕ → List Stride → ℕ → Type 0
AreBack mets place [] reached = place ≡ reached
AreBack mets place (stride ∷ strides) reached = (met_by mets place ≡ Some stride) × AreBack mets stride.place strides reached
