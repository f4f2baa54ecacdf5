-- Why a service did not come to its end.
use Rattle.std.specs.Prelude.{⊤, ℕ}
use Rattle.pg_cluster.specs.Fault.{CantRun}
use Rattle.pg_cluster.specs.PgStep.Config.{Config}
use Rattle.pg_talk.specs.declared.service.fault.ServiceFault.{ServiceFault}
use Rattle.pg_talk.specs.declared.service.fault.ServiceFault.TheVariants.{Start, BadText, WriteFault, OutOfMemory}

-- one that serves was interrupted: a write or a flush failed, or there was no memory
abbrev pub Interrupted : Type 0 → ServiceFault → Type 0
Interrupted unwritten (Start fault) = ⊥
Interrupted unwritten BadText = ⊥
Interrupted unwritten WriteFault = unwritten
Interrupted unwritten OutOfMemory = ⊤

-- no cluster of these nodes was started, with such rings, or no thread that reads, as this fault tells, and nothing was written; or it was interrupted
abbrev pub NotServed : ℕ → Config → Type 0 → Type 0 → ServiceFault → Type 0
NotServed ring given unchanged unwritten (Start fault) = ∥ CantRun ring given fault ∥₁ × unchanged
NotServed ring given unchanged unwritten BadText = ⊥
NotServed ring given unchanged unwritten WriteFault = unwritten
NotServed ring given unchanged unwritten OutOfMemory = ⊤
