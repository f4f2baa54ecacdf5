-- Three names that differ.
use Rattle.std.proofs.Common.{◌≡◌, subst, false, List, [], ◌∷◌, sym}
use Rattle.std.specs.List.{IsDistinct}
use Rattle.pg_term.specs.Same.{same_atom}
use Rattle.pg_node_opens.specs.PgStep.Nodes.{Node}

-- a list of three names, each of which differs from the others, names none twice
pub three_apart : (names : List Node) (a b c : Node) → names ≡ a ∷ b ∷ c ∷ [] → same_atom a b ≡ false → same_atom a c ≡ false → same_atom b c ≡ false → IsDistinct same_atom names
unfolding IsDistinct
three_apart names a b c e ab ac bc = subst (IsDistinct same_atom) (sym e) ((ab, (ac, tt)), ((bc, tt), (tt, tt)))
