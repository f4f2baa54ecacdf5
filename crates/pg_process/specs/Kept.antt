-- What a host has that mirrors the table, once it has heard what deeds say.
use Rattle.std.specs.Prelude.{◌≡◌, true, List, ⊤}
use Rattle.std.specs.List.{AllByRecursion}
use Rattle.pg_node_process.specs.Mirrors.{mirror}
use Rattle.pg_process.specs.Chains.{AllDo, Step, said_in}
use Rattle.pg_process.specs.Deeds.{Brought, Deed}
use Rattle.pg_process.specs.Situations.{Setting, Situation, table_of}

-- the groups that the first body brought are not told
abbrev pub NotBrought : Deed → Type 0
NotBrought Brought = ⊥
NotBrought deed = ⊤

abbrev pub NoneBrought : List Step → Type 0
NoneBrought steps = AllByRecursion (λ step. NotBrought step.deed) steps

-- A host that had the table has it behind all that these deeds say, and goes on to be told.
pub record KeepsMirror (a : Situation) (steps : List Step) (b : Situation) : Type 0 where
  pub table : mirror (said_in steps) (table_of a) ≡ table_of b
  pub told : b.told.mirrored ≡ true

-- so it is with each chain of deeds, of a process whose host mirrors the table
abbrev pub ChainsKeepMirrors : Type 0
ChainsKeepMirrors = (set : Setting) (a : Situation) (steps : List Step) (b : Situation) → AllDo set a steps b → a.told.mirrored ≡ true → NoneBrought steps → KeepsMirror a steps b
