-- The groups that a scenario names.
use Rattle.std.specs.Prelude.{◌↔◌, ◌⊎◌, List, [], ◌∷◌, Option, Some, None}
use Rattle.std.specs.List.{Contains, flat_map}
use Rattle.pg_term.specs.declared.pid.Pid.{Pid}
use Rattle.pg_term.specs.declared.term.Term.{Term}
use Rattle.pg_script.specs.PgStep.declared.command.Command.{Command}
use Rattle.pg_script.specs.PgStep.declared.command.Command.TheVariants.{Create, Delete, Join, Leave}
use Rattle.pg_script.specs.PgStep.declared.start.Start.{Start}
use Rattle.pg_script.specs.PgWorldPackets.declared.step.FrameStep.TheVariants as events
use Rattle.pg_explore.specs.declared.plan.Plan.{Plan}
use Rattle.pg_explore.specs.declared.plan.Planned.{Planned}
use Rattle.pg_explore.specs.declared.plan.Planned.TheVariants as planned

-- the group that a command changes, if it changes one
abbrev pub command_names : Command → List Term
command_names (Create name) = name ∷ []
command_names (Delete name) = name ∷ []
command_names (Join name pid) = name ∷ []
command_names (Leave name pid) = name ∷ []
command_names other = []

abbrev pub changed_by : Planned → List Term
changed_by (planned.Step (events.Command i port command)) = command_names command
changed_by other = []

-- those that the commands of some plans change
abbrev pub changed_in : List Plan → List Term
changed_in plans = flat_map (λ (plan : Plan). flat_map changed_by plan.steps.items) plans

-- those that nodes know as they start
abbrev pub known_by : (Term × List Pid) → List Term
known_by group = group.0 ∷ []

abbrev pub known_in : List Start → List Term
known_in starts = flat_map (λ (start : Start). flat_map known_by start.groups) starts

-- a name is there just where it was, or is one of these
abbrev pub AddsNames : List Term → List Term → List Term → Type 0
AddsNames more old new = (name : Term) → Contains new name ↔ (Contains old name ⊎ Contains more name)

abbrev pub name_list : Option Term → List Term
name_list None = []
name_list (Some name) = name ∷ []
