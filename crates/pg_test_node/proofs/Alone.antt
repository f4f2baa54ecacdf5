-- A node without peers.
use Rattle.std.proofs.Common.{◌≡◌, ℕ, List, [], ◌∷◌}
use Rattle.std.specs.List.{IsDistinct}
use Rattle.pg_term.specs.Same.{same_atom}

-- its name alone is distinct
pub alone : (own : List ℕ) (peers : List (List ℕ)) → peers ≡ [] → IsDistinct same_atom (own ∷ peers)
unfolding IsDistinct
alone own [] e = (tt, tt)
alone own (peer ∷ peers) e = absurd cc
