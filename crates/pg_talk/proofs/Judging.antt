-- What a cluster that was closed is found to be.
use Rattle.std.proofs.Common.{◌≡◌, ℕ, zero, suc, Bool, true, false, List, [], ◌∷◌, refl, arith}
use Rattle.std.specs.List.{list_any}
use Rattle.pg_cluster.specs.PgClusterJudges.Schedule.{NobodyLost}
use mathlib.Core.Logic.{∥∥₁_elim}
use Rattle.std.proofs.Props.{props}

-- what is told of a fact that holds is told
pub told_so : (F : Type 0) (told : Bool) → ∥ F ∥₁ → (F → told ≡ true) → told ≡ true
told_so F told fact tells = ∥∥₁_elim fact (hlevel props) (λ (f : F). tells f)

-- where none is lost each is not
none_lost : (lost : List Bool) → list_any (λ one. one) lost ≡ false → NobodyLost lost
none_lost [] e i d low = absurd (omega (arith, low))
none_lost (true ∷ lost) e i d low = absurd (cc)
none_lost (false ∷ lost) e zero d low = refl
none_lost (false ∷ lost) e (suc i) d low = none_lost lost e i d (omega (arith, low))

-- and the other way
pub none_there : (lost : List Bool) → NobodyLost lost → list_any (λ one. one) lost ≡ false
none_there [] nobody = refl
none_there (true ∷ lost) nobody = let e : true ≡ false = nobody 0 true (omega arith) in absurd (cc e)
none_there (false ∷ lost) nobody = none_there lost (λ i d low. nobody (suc i) d (omega (arith, low)))

-- what is told of all nodes where none was lost, and of those that were not lost where one was, is told, if both hold
pub told_by_losses : (F G : Type 0) (lost : List Bool) (told : Bool) → (NobodyLost lost → ∥ F ∥₁) → ∥ G ∥₁
    → (NobodyLost lost → F → told ≡ true) → (list_any (λ one. one) lost ≡ true → G → told ≡ true) → told ≡ true
told_by_losses F G lost told all left nobody some = go (list_any (λ one. one) lost) refl
  where
    go : (b : Bool) → list_any (λ one. one) lost ≡ b → told ≡ true
    go true is = told_so G told left (some is)
    go false is = told_so F told (all (none_lost lost is)) (nobody (none_lost lost is))
