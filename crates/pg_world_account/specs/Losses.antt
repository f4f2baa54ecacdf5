-- The nodes of a world that are lost.
use Rattle.std.specs.Prelude.{ℕ, Bool, nat_eq, List}
use Rattle.std.specs.List.{list_any}
use Rattle.pg_world_account.specs.declared.losses.Losses.{Losses}

-- their places
abbrev pub lost_in : Losses → List ℕ
lost_in losses = losses.places.items

-- the node at that place is one of them
abbrev pub is_lost : List ℕ → ℕ → Bool
is_lost places node = list_any (λ place. nat_eq place node) places
