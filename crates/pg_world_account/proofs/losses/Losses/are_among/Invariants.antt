use Rattle.std.proofs.Common.{◌≡◌, drop}
use Rattle.std.specs.List.{list_all}
use Rattle.pg_world_account.specs.Losses.{is_lost}
use Rattle.pg_world_account.proofs.losses.Losses.are_among.Given as goal

-- what is left of the list says what all of it says
abbrev pub invariant-loop-place : goal.invariant-loop-place
invariant-loop-place l = list_all (is_lost l.other.places.items) (drop l.place-index l.self.places.items) ≡ list_all (is_lost l.other.places.items) l.self.places.items
