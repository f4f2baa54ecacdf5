-- Scenarios: what is planned of nodes.
use Rattle.std.specs.Prelude.{◌≡◌, ℕ, ◌+◌, ◌-◌, List, [], ◌∷◌, ◌++◌, length, map, cond, Bool, true, false, not}
use Rattle.std.specs.Prelude.{nat_le, nat_eq, slice_get, Option, Some, None, Result, Ok, Err, if◌then◌else◌}
use Rattle.std.specs.Borrow.{Bor}
use Rattle.std.specs.Global.{Vec}
use Rattle.std.specs.List.{range_with_len}
use Rattle.pg_script.specs.PgScriptLines.declared.line.Line.{Line}
use Rattle.pg_script.specs.PgScriptLines.declared.line.Line.TheVariants.{Ring, Node, Has, Pair, At, Settle, History}
use Rattle.pg_script.specs.PgScriptLines.declared.line.NodeForm.{NodeForm}
use Rattle.pg_script.specs.PgScriptLines.declared.line.NodeForm.TheVariants as node
use Rattle.pg_script.specs.PgScriptLines.Forms.{line_of}
use Rattle.pg_script.specs.PgWorldPackets.declared.step.FrameStep.{FrameStep}
use Rattle.pg_script.specs.PgWorldPackets.declared.step.FrameStep.TheVariants as events
use Rattle.pg_script.specs.PgWorld.declared.step.Step.{Step}
use Rattle.pg_script.specs.PgWorld.declared.step.Step.TheVariants as steps
use Rattle.pg_explore.specs.declared.plan.Plan.{Plan}
use Rattle.pg_explore.specs.declared.plan.Planned.{Planned}
use Rattle.pg_explore.specs.declared.plan.Planned.TheVariants as planned
use Rattle.pg_explore_survey.specs.declared.scenario.Scenario.{Scenario}
use Rattle.pg_script.specs.declared.act.Act.{Act}
use Rattle.pg_script.specs.declared.act.Act.TheVariants as act
use Rattle.pg_script.specs.declared.fault.LineFault.TheVariants.{BadLine}
use Rattle.pg_script.specs.declared.fault.ScriptFault.{ScriptFault}
use Rattle.pg_script.specs.declared.script.ScriptLine.{ScriptLine}
use Rattle.pg_script.specs.Scripts.{Contents, is_skipped, lines_in, script_of}

-- ---- which lines there are

-- commands and losses
abbrev pub is_planned_form : NodeForm → Bool
is_planned_form (node.Command command) = true
is_planned_form node.Lose = true
is_planned_form (node.Retry number) = false
is_planned_form (node.Lock group) = false

-- and declarations of nodes and of what they know
abbrev pub is_planned : Line → Bool
is_planned (Node name made) = true
is_planned (Has name group members) = true
is_planned (At name form) = is_planned_form form
is_planned (Ring capacity) = false
is_planned (Pair first second form) = false
is_planned (Settle rounds) = false
is_planned (History group) = false

-- a line has a form, but none of these
abbrev pub is_other_form : Option Line → Bool
is_other_form None = false
is_other_form (Some line) = not (is_planned line)

abbrev pub is_other : List ℕ → Bool
is_other text = if is_skipped text then false else is_other_form (line_of text)

-- the number of the first such line; the lines are numbered from this number on
abbrev pub other_in : ℕ → List (List ℕ) → Option ℕ
other_in number [] = None
other_in number (text ∷ texts) = if is_other text then Some number else other_in (number + 1) texts

-- ---- what a text says

abbrev pub bad_line : ℕ → ScriptFault
bad_line number = record { line = number; fault = BadLine }

-- a line of another form is a fault as those of a script are: the first line with a fault is reported
abbrev pub first_fault : Option ℕ → ScriptFault → ScriptFault
first_fault None fault = fault
first_fault (Some number) fault = if nat_le number fault.line then bad_line number else fault

abbrev pub without_others : Option ℕ → Result Contents ScriptFault → Result Contents ScriptFault
without_others None (Ok contents) = Ok contents
without_others (Some number) (Ok contents) = Err (bad_line number)
without_others found (Err fault) = Err (first_fault found fault)

-- what a text says, or its first faulty line
abbrev pub scenario_of : List ℕ → Result Contents ScriptFault
scenario_of text = without_others (other_in 1 (lines_in text)) (script_of text)

-- ---- what is planned

-- this is planned of one node alone
abbrev pub planned_of : ℕ → Planned → ℕ → List Planned
planned_of i step place = if nat_eq i place then step ∷ [] else []

-- what an event plans of the node of a place
abbrev pub planned_event : ℕ → FrameStep → List Planned
planned_event place (events.Command i port command) = planned_of i (planned.Step (events.Command i port command)) place
planned_event place other = []

-- what a step of a script does
abbrev pub planned_step : ℕ → Step → List Planned
planned_step place (steps.Event event) = planned_event place event
planned_step place (steps.Lose i) = planned_of i planned.Loss place
planned_step place other = []

abbrev pub planned_act : ℕ → Act → List Planned
planned_act place (act.Step step) = planned_step place step
planned_act place other = []

-- what some lines plan of a node, in their order
abbrev pub planned_at : ℕ → List ScriptLine → List Planned
planned_at place [] = []
planned_at place (line ∷ lines) = planned_act place line.act ++ planned_at place lines

-- the plan of each node
pub record ArePlans (lines : List ScriptLine) (plans : List Plan) : Type 0 where
  pub is : (place : ℕ) (plan : Plan) → slice_get plans place ≡ Some plan → plan.steps.items ≡ planned_at place lines

-- of each node more is planned
pub record AddPlans (more : ℕ → List Planned) (old new : List Plan) : Type 0 where
  pub len : length new ≡ length old
  pub is : (place : ℕ) (before after : Plan) → slice_get old place ≡ Some before → slice_get new place ≡ Some after → after.steps.items ≡ before.steps.items ++ more place

-- ---- which line is that of a command

abbrev pub is_command_of : ℕ → Act → Bool
is_command_of place (act.Step (steps.Event (events.Command i port command))) = nat_eq i place
is_command_of place other = false

-- the places of the lines of a node's commands, in their order
abbrev pub command_lines : ℕ → List ScriptLine → List ℕ
command_lines place [] = []
command_lines place (line ∷ lines) = cond (is_command_of place line.act) ((line.number - 1) ∷ command_lines place lines) (command_lines place lines)

-- those of each of so many nodes
abbrev pub AreCommands : List ScriptLine → ℕ → List (Vec ℕ) → Type 0
AreCommands lines count commands = map (λ (places : Vec ℕ). places.items) commands ≡ map (λ place. command_lines place lines) (range_with_len 0 count)

abbrev pub texts_of : List (Bor (List ℕ)) → List (List ℕ)
texts_of lines = map (λ (line : Bor (List ℕ)). line.now) lines

-- a scenario is what a text says
pub record IsScenarioOf (contents : Contents) (scenario : Scenario) : Type 0 where
  pub starts : scenario.config.starts.items ≡ contents.starts
  pub ring : scenario.config.ring ≡ contents.ring
  pub len : length scenario.plans.items ≡ length contents.starts
  pub plans : ArePlans contents.lines scenario.plans.items
  pub commands : AreCommands contents.lines (length contents.starts) scenario.commands.items

abbrev pub IsScenario : Result Contents ScriptFault → Scenario → Type 0
IsScenario (Ok contents) scenario = IsScenarioOf contents scenario
IsScenario (Err fault) scenario = ⊥
