-- Why a run ends early.
use Rattle.std.specs.Prelude.{◌≤◌, ⊤, ℕ, List}
use Rattle.std.specs.List.{flat_map}
use Rattle.pg_script_trace.specs.PgStep.Config as starts
use Rattle.pg_script_trace.specs.PgStep.Config.{IsConfig}
use Rattle.pg_script_trace.specs.PgStep.declared.answer.Answer.{Answer}
use Rattle.pg_script_trace.specs.PgScriptLines.Printing.{answer_line}
use Rattle.pg_script_trace.specs.PgWorldConfig.declared.config.Config.{Config}
use Rattle.pg_script_trace.specs.PgWorldPackets.Openings.{AllFit, CantBegin}
use Rattle.pg_script.specs.declared.fault.RunFault.{RunFault}
use Rattle.pg_script.specs.declared.fault.RunFault.TheVariants.{World, OutOfMemory, WriteFault}

-- a configuration was refused, as it had to be, and nothing was done; or a write failed; or there was no memory
abbrev pub CausedBy : Config → Type 0 → Type 0 → RunFault → Type 0
CausedBy config unchanged unwritten (World fault) = CantBegin config.ring config.starts.items fault × unchanged
CausedBy config unchanged unwritten OutOfMemory = ⊤
CausedBy config unchanged unwritten WriteFault = unwritten

-- the same, where the run has begun
abbrev pub Refused : Type 0 → RunFault → Type 0
Refused unwritten (World fault) = ⊥
Refused unwritten OutOfMemory = ⊤
Refused unwritten WriteFault = unwritten

-- a configuration is one, its rings have a capacity, and what each node tells as it begins fits into a frame
abbrev pub CanRun : ℕ → starts.Config → Type 0
CanRun ring config = IsConfig config × (1 ≤ ring) × (ring ≤ 65536) × AllFit config

-- the lines of answers of a node, one after another
abbrev pub answer_lines : List ℕ → List Answer → List ℕ
answer_lines node = flat_map (answer_line node)

-- a configuration was refused, as it had to be; or there was no memory
abbrev pub CantRun : Config → RunFault → Type 0
CantRun config (World fault) = CantBegin config.ring config.starts.items fault
CantRun config OutOfMemory = ⊤
CantRun config WriteFault = ⊥
