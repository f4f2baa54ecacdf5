-- What words ask of the program itself.
use Rattle.std.specs.Prelude.{◌≡◌, ◌⊎◌, ℕ, List, [], ◌∷◌, Option, Some, None, codes}
use Rattle.pg_program_faults.specs.declared.asides.Aside.{Aside}
use Rattle.pg_program_faults.specs.declared.asides.Aside.TheVariants.{Says, Shows, NoFault}

-- `fault` asks for a text, or that there is no such fault; `help` and `version` for what other words print
abbrev pub IsAskedBy : List ℕ → Aside → Type 0
IsAskedBy word (Says text) = word ≡ codes "fault"
IsAskedBy word NoFault = word ≡ codes "fault"
IsAskedBy word (Shows words) = (word ≡ codes "help") ⊎ (word ≡ codes "version")

-- what is asked is asked by this word; None: nothing is
abbrev pub IsAskedIn : List ℕ → Option Aside → Type 0
IsAskedIn word None = Unit {0}
IsAskedIn word (Some aside) = IsAskedBy word aside

-- by the first of some words
abbrev pub IsAside : List (List ℕ) → Option Aside → Type 0
IsAside [] aside = aside ≡ None
IsAside (word ∷ words) aside = IsAskedIn word aside
