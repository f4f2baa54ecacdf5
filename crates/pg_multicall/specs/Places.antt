-- Some of the nodes of a set, by their places.
use Rattle.std.specs.Prelude.{ℕ, Bool, ◌&&◌, nat_eq, nat_lt}
use Rattle.std.specs.Int.{bit_at}
use Rattle.pg_multicall.specs.declared.places.Places.{Places}

-- whether the bit of a place is set
abbrev pub is_set : ℕ → ℕ → Bool
is_set bits place = nat_lt place 16 && nat_eq (bit_at bits place) 1

-- whether the node at a place is among them
abbrev pub has_of : Places → ℕ → Bool
has_of places = is_set places.bits
