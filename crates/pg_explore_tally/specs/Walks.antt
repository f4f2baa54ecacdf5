-- Walks from world to world.
use Rattle.std.specs.Prelude.{◌≡◌, ◌<◌, ℕ, cond, length, slice_get, List, [], ◌∷◌}
use Rattle.std.specs.List.{Contains, sum_by}
use Rattle.std.specs.Option.{option_map_or}
use Rattle.std.specs.Global.{Vec}
use Rattle.pg_explore_tally.specs.declared.ways.Way.{Way}

-- the ways from the world of a place
abbrev pub ways_at : List (Vec Way) → ℕ → List Way
ways_at worlds place = option_map_or (λ (ways : Vec Way). ways.items) (slice_get worlds place) []

-- ways, one after another, from one of some worlds to another
abbrev pub IsWalk : List (Vec Way) → ℕ → List Way → ℕ → Type 0
IsWalk worlds from [] to = (from < length worlds) × (from ≡ to)
IsWalk worlds from (way ∷ ways) to = Contains (ways_at worlds from) way × IsWalk worlds way.place ways to

-- how many packets are taken
abbrev pub takes_on : Way → ℕ
takes_on way = cond way.is_take 1 0

abbrev pub takes_of : List Way → ℕ
takes_of ways = sum_by takes_on ways
