-- Deeds of a process, one after another.
use Rattle.std.specs.Prelude.{◌≡◌, ◌⊎◌, ℕ, List, [], ◌∷◌, ◌++◌, Err, ⊤}
use Rattle.std.specs.List.{AllByRecursion, flat_map}
use Rattle.pg_node.specs.PgNodeOpens.Places.{whole_in}
use Rattle.pg_node.specs.PgNodeState.declared.state.fault.NodeFault.TheVariants.{Refused}
use Rattle.pg_node.specs.PgStep.Step.{Action, step_act}
use Rattle.pg_node.specs.PgStep.declared.refusal.Refusal.TheVariants as refusals
use Rattle.pg_node_process.specs.Logs.{Entry, entry_bytes}
use Rattle.pg_node_process.specs.Outputs.{IsFramed, Output, said as bytes_said}
use Rattle.pg_process.specs.declared.fault.ProcessFault.{ProcessFault}
use Rattle.pg_process.specs.declared.fault.ProcessFault.TheVariants.{ClockFull, OutOfMemory}
use Rattle.pg_process.specs.declared.process.Process.{Process}
use Rattle.pg_process.specs.Deeds.{Asked, Blamed, Brought, Deed, Does, Fed, Queued, Read, Shared, Timed, logged, told_next}
use Rattle.pg_process.specs.Situations.{Setting, Situation, setting_of, situation_of}

-- ---- one deed

-- A deed of a process: it does what the deed says; what it says is gathered to go out, and is heard as what it is; what is logged of it is
-- gathered for the log.
pub record Makes (deed : Deed) (a b : Process) : Type 0 where
  pub said : List Output
  pub does : Does (setting_of a) (situation_of a) deed said (situation_of b)
  pub heard : AllByRecursion IsFramed said
  pub gathered : b.outlet.gathered.items ≡ a.outlet.gathered.items ++ flat_map bytes_said said
  pub journal : b.journal.gathered.items ≡ a.journal.gathered.items ++ flat_map entry_bytes (logged deed)
  pub setting : setting_of b ≡ setting_of a

-- nothing is done
pub record Rests (a b : Process) : Type 0 where
  pub same : situation_of b ≡ situation_of a
  pub gathered : b.outlet.gathered.items ≡ a.outlet.gathered.items
  pub journal : b.journal.gathered.items ≡ a.journal.gathered.items
  pub setting : setting_of b ≡ setting_of a

-- A deed fails for want of memory: it says nothing, and may be logged.
pub record Fails (deed : Deed) (fault : ProcessFault) (a b : Process) : Type 0 where
  pub memory : fault ≡ OutOfMemory
  pub gathered : b.outlet.gathered.items ≡ a.outlet.gathered.items
  pub journal : (b.journal.gathered.items ≡ a.journal.gathered.items)
      ⊎ (b.journal.gathered.items ≡ a.journal.gathered.items ++ flat_map entry_bytes (logged deed))

-- nothing is said, and nothing is logged
pub record Silent (a b : Process) : Type 0 where
  pub gathered : b.outlet.gathered.items ≡ a.outlet.gathered.items
  pub journal : b.journal.gathered.items ≡ a.journal.gathered.items

-- ---- one after another

-- a deed, and what it says
pub record Step : Type 0 where
  pub deed : Deed
  pub said : List Output

-- each makes of what is kept what the next finds
abbrev pub AllDo : Setting → Situation → List Step → Situation → Type 0
AllDo set a [] b = b ≡ a
AllDo set a (step ∷ steps) b = (m : Situation) × Does set a step.deed step.said m × AllDo set m steps b

-- what they say, and what is logged of them
abbrev pub said_in : List Step → List Output
said_in steps = flat_map (λ step. step.said) steps

abbrev pub logged_in : List Step → List Entry
logged_in steps = flat_map (λ step. logged step.deed) steps

-- A process came from one to the other by these deeds. What they say is gathered to go out, and is heard as what it is; what is logged of
-- them is gathered for the log.
pub record Goes (steps : List Step) (a b : Process) : Type 0 where
  pub does : AllDo (setting_of a) (situation_of a) steps (situation_of b)
  pub heard : AllByRecursion IsFramed (said_in steps)
  pub gathered : b.outlet.gathered.items ≡ a.outlet.gathered.items ++ flat_map bytes_said (said_in steps)
  pub journal : b.journal.gathered.items ≡ a.journal.gathered.items ++ flat_map entry_bytes (logged_in steps)
  pub setting : setting_of b ≡ setting_of a

-- ---- a body, and what follows from it

-- a deed that no body asks for: it follows from what is kept
abbrev pub IsWork : Deed → Type 0
IsWork (Read body) = ⊥
IsWork Brought = ⊥
IsWork Blamed = ⊥
IsWork Timed = ⊥
IsWork (Shared port) = ⊥
IsWork (Asked port command) = ⊥
IsWork (Queued port command) = ⊥
IsWork (Fed peer bytes) = ⊥
IsWork deed = ⊤

abbrev pub AreWork : List Step → Type 0
AreWork steps = AllByRecursion (λ step. IsWork step.deed) steps

-- what follows is done
pub record Works (a b : Process) : Type 0 where
  pub steps : List Step
  pub work : AreWork steps
  pub goes : Goes steps a b

-- the step of the node refuses what would be next, as its clock is full
abbrev pub IsFull : Setting → Situation → Type 0
IsFull set m =
    ((peer : ℕ) × (told_next set m peer ≡ Err (Refused refusals.ClockFull)))
    ⊎ ((action : Action) × (step_act (whole_in set.names) set.ports action m.node.state ≡ Err refusals.ClockFull))

abbrev pub IsCause : Setting → Situation → ProcessFault → Type 0
IsCause set m ClockFull = IsFull set m
IsCause set m OutOfMemory = ⊤

-- Where memory runs out or the clock is full, these deeds were done before. What they say is gathered to go out, and what is logged of them
-- for the log, where there may be more.
pub record Ends (steps : List Step) (fault : ProcessFault) (a b : Process) : Type 0 where
  pub last : Situation
  pub does : AllDo (setting_of a) (situation_of a) steps last
  pub cause : IsCause (setting_of a) last fault
  pub heard : AllByRecursion IsFramed (said_in steps)
  pub gathered : b.outlet.gathered.items ≡ a.outlet.gathered.items ++ flat_map bytes_said (said_in steps)
  pub more : List Entry
  pub journal : b.journal.gathered.items ≡ a.journal.gathered.items ++ flat_map entry_bytes (logged_in steps ++ more)

pub record WorksUntil (fault : ProcessFault) (a b : Process) : Type 0 where
  pub steps : List Step
  pub work : AreWork steps
  pub ends : Ends steps fault a b
