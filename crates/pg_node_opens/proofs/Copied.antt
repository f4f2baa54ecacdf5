-- What is kept of equal lists is the same.
use Rattle.std.proofs.Common.{◌≡◌, ℕ, Bool, length, List, [], ◌∷◌, ap, refl, sym, subst}
use Rattle.std.specs.List.{AllZip, IsDistinct}
use Rattle.pg_term.specs.Same.{same_atom}
use Rattle.pg_step.specs.Nodes.{Node}
use Rattle.pg_node_opens.specs.declared.command.OpenCommand.{OpenCommand}
use Rattle.pg_node_opens.specs.declared.opens.Opens.{Opens}
use Rattle.pg_node_opens.specs.Commands.{uses_in, stages_in, AreKnown}
use Rattle.pg_node_opens.specs.Opens.{AreSame}
use Rattle.pg_node_opens.specs.Places.{ArePlaces, lost_in}

pub flags_same : (xs ys : List Bool) → AllZip (λ x y. y ≡ x) xs ys → ys ≡ xs
flags_same [] [] z = refl
flags_same [] (y ∷ ys) z = absurd z
flags_same (x ∷ xs) [] z = absurd z
flags_same (x ∷ xs) (y ∷ ys) z = λ i. z.0 i ∷ flags_same xs ys z.1 i

module _ (names them : List Node) (lost flags : List Bool) (made : ℕ) (os ps : List OpenCommand) (is : them ≡ names) (same : flags ≡ lost) (copied : ps ≡ os) where
  pub kept_too : IsDistinct same_atom names → ArePlaces names lost → AreKnown names made os
      → record { apart : IsDistinct same_atom them; places : ArePlaces them flags; known : AreKnown them made ps }
  kept_too apart places known = record {
    apart = subst (IsDistinct same_atom) (sym is) apart;
    places = subst (λ ns. ArePlaces ns flags) (sym is) (subst (ArePlaces names) (sym same) places);
    known = subst (λ ns. AreKnown ns made ps) (sym is) (subst {A = List OpenCommand} (AreKnown names made) (sym copied) known);
  }

pub all_same : (one other : Opens) → other.names.items ≡ one.names.items → other.lost.items ≡ one.lost.items → other.references ≡ one.references → other.commands.items ≡ one.commands.items → AreSame one other
all_same one other names lost made commands = record {
  names = sym names;
  lost_peers = λ i. lost_in (sym names i) (sym lost i);
  references = sym made;
  uses = λ i. uses_in (sym names i) (sym made i) (sym commands i);
  opened = ap (λ (os : List OpenCommand). length os) (sym commands);
  stages = λ i. stages_in (sym commands i);
}
