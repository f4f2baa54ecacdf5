-- What a visitor was lent.
use Rattle.std.specs.Prelude.{◌≡◌, List, [], ◌∷◌, ◌++◌, Option, Some, None}
use Rattle.pg_explore.specs.declared.explored.Met.{Met}

-- these moments were lent, behind those before; None claims nothing
abbrev pub AreLent : Option (List Met) → Option (List Met) → List Met → Type 0
AreLent None after mets = Unit {0}
AreLent (Some before) after mets = after ≡ Some (before ++ mets)

-- one was
abbrev pub IsLent : Option (List Met) → Option (List Met) → Met → Type 0
IsLent before after met = AreLent before after (met ∷ [])
