-- Places by their numbers.
use Rattle.std.specs.Prelude.{ℕ, ◌/◌, ◌^◌, List, [], slice_get}
use Rattle.std.specs.List.{Contains}
use Rattle.std.specs.Option.{option_map_or}
use Rattle.pg_explore.specs.declared.bins.Bin.{Bin}
use Rattle.pg_explore.specs.declared.bins.Bins.{Bins}
use Rattle.pg_explore.specs.declared.bins.Spot.{Spot}

-- which bin is that of a number of 64 bits: its first 16 bits
abbrev pub bin_of : ℕ → ℕ
bin_of number = number / 2 ^ 48

abbrev pub spots_in : Bin → List Spot
spots_in bin = bin.spots.items

-- what is in the bin of a number
abbrev pub spots_of : Bins → ℕ → List Spot
spots_of bins number = option_map_or spots_in (slice_get bins.bins.items (bin_of number)) []

-- nothing is taken out
abbrev pub Keeps : Bins → Bins → Type 0
Keeps old new = (number : ℕ) (spot : Spot) → Contains (spots_of old number) spot → Contains (spots_of new number) spot
