-- The names that an offer gives.
use Rattle.std.proofs.Common.{◌≡◌, ◌≢◌, ℕ, suc, Bool, ◌||◌, List, [], ◌∷◌, length, map}
use Rattle.std.proofs.Common.{Result, Ok, Err, refl, ap, ◌∙◌, subst, inl, inr}
use Rattle.std.specs.Prelude.{IfOk, IfErr, chars}
use Rattle.std.specs.Borrow.{Bor}
use Rattle.std.specs.Global.{Vec}
use Rattle.std.specs.List.{list_any}
use Rattle.pg_program.specs.CommandLine.{texts_of}
use Rattle.pg_program.specs.Services.{CantSpell, NamesEnd, is_too_long}
use Rattle.pg_program.specs.declared.fault.Fault.{Fault}

-- names of texts
pub told : (names : List (Bor (List ℕ))) → map (λ (name : Bor (List ℕ)). chars name.now) names ≡ map chars (texts_of names)
told [] = refl
told (name ∷ names) = ap (λ (rest : List (List ℕ)). chars name.now ∷ rest) (told names)

pub long : (names : List (Bor (List ℕ))) → list_any (λ (name : Bor (List ℕ)). is_too_long name.now) names ≡ list_any is_too_long (texts_of names)
long [] = refl
long (name ∷ names) = ap (λ (b : Bool). is_too_long name.now || b) (long names)

counted : (names : List (Bor (List ℕ))) → length (texts_of names) ≡ length names
counted [] = refl
counted (name ∷ names) = ap (λ (n : ℕ). suc n) (counted names)

pub as_many : (count : ℕ) (names : List (Bor (List ℕ))) (end : Result (Vec (List ℕ)) Fault) → length names ≢ 0 → length names ≡ count
    → IfOk end (λ atoms. atoms.items ≡ map (λ (name : Bor (List ℕ)). chars name.now) names)
    → IfErr end (CantSpell (list_any (λ (name : Bor (List ℕ)). is_too_long name.now) names)) → NamesEnd count (texts_of names) end
as_many count [] end n e ok err = absurd (n refl)
as_many count (name ∷ names) (Ok atoms) n e ok err = (counted (name ∷ names) ∙ e, ok ∙ told (name ∷ names))
as_many count (name ∷ names) (Err fault) n e ok err = inr (counted (name ∷ names) ∙ e, subst (λ (b : Bool). CantSpell b fault) (long (name ∷ names)) err)
