-- What comes of a change that is handed over or tried again.
use Rattle.std.specs.Prelude.{⊤, ◌≡◌, ◌⊎◌, ◌≢◌, ℕ, Bool, true, false, List, [], ◌∷◌, ◌++◌, ◌+◌, Option, Some, None, Err}
use Rattle.std.specs.List.{AllByRecursion, flat_map}
use Rattle.pg_node.specs.PgNodeOpens.Places.{whole_in}
use Rattle.pg_node.specs.PgStep.Step.{Issue, Retry, step_act}
use Rattle.pg_node.specs.PgStep.declared.command.OpId.{OpId}
use Rattle.pg_node.specs.PgStep.declared.refusal.Refusal.{Refusal}
use Rattle.pg_node.specs.PgStep.declared.refusal.Refusal.TheVariants as refusals
use Rattle.pg_node_process.specs.declared.desk.Numbered.{Numbered}
use Rattle.pg_node_process.specs.Desks.{Handed as Opened, Port, port_after, with_answer}
use Rattle.pg_node_process.specs.Logs.{Handed as LoggedHand, entry_bytes}
use Rattle.pg_node_process.specs.Outputs.{IsFramed, Output, said as bytes_said}
use Rattle.pg_node_requests.specs.Replies.{refused_term}
use Rattle.pg_node_run.specs.Acts.{Act}
use Rattle.pg_process.specs.declared.fault.ProcessFault.{ProcessFault}
use Rattle.pg_process.specs.declared.fault.ProcessFault.TheVariants.{ClockFull, OutOfMemory}
use Rattle.pg_process.specs.declared.process.Process.{Process}
use Rattle.pg_process.specs.Chains.{Fails, Makes, Rests, Silent}
use Rattle.pg_process.specs.Deeds.{Declined, Handed, IsReply, Tried, number_of}
use Rattle.pg_term.specs.declared.term.Term.{Term}
use Rattle.pg_node.specs.PgStep.State.{State}
use Rattle.pg_node.specs.PgStep.declared.command.Command.{Command}
use Rattle.pg_node.specs.PgStep.declared.command.Command.TheVariants.{Finish}
use Rattle.pg_node_process.specs.Mirrors.{AreGroupsOf}
use Rattle.pg_process.specs.Situations.{at_place, setting_of, situation_of}

-- ---- a change is handed over

-- one is with the node, or none waits
abbrev pub HasNothing : Port → Type 0
HasNothing port = (port.current ≢ None) ⊎ (port.waiting ≡ [])

-- the groups that the process of a command leaves, which has not ended
abbrev pub LeavesBy : Command → State → List Term → Type 0
LeavesBy (Finish pid) s names = (s.ended pid ≡ false → AreGroupsOf s.table pid names) × (s.ended pid ≡ true → names ≡ [])
LeavesBy command s names = ⊤

abbrev pub LeavesFor : Bool → Command → State → List Term → Type 0
LeavesFor true command s names = LeavesBy command s names
LeavesFor false command s names = ⊤

-- it was taken by the node, or refused
abbrev pub HandsOver : ℕ → Bool → Process → Process → Type 0
HandsOver port true a b = ((act : Act) × Makes (Handed port act) a b) ⊎ ((refusal : Refusal) × Makes (Declined port refusal) a b)
HandsOver port false a b = Rests a b × HasNothing ((situation_of a).ports port)

abbrev pub told_of_change : Process → ℕ → Option Numbered → Type 0
told_of_change a port (Some change) =
    step_act (whole_in (setting_of a).names) (setting_of a).ports (Issue port change.command) (situation_of a).node.state ≡ Err refusals.ClockFull
told_of_change a port None = ⊥

-- Nothing is said. The hand may be logged where memory runs out. A full clock is what the step tells.
abbrev pub StopsHanding : ℕ → ProcessFault → Process → Process → Type 0
StopsHanding port ClockFull a b = Silent a b × told_of_change a port (port_after ((situation_of a).ports port) Opened).current
StopsHanding port OutOfMemory a b = (refusal : Refusal) × Fails (Declined port refusal) OutOfMemory a b

-- The change that is with the node is refused by a number: that is its answer.
pub record Refuses (port number : ℕ) (a b : Process) : Type 0 where
  pub said : List Output
  pub says : IsReply (setting_of a) port (number_of ((situation_of a).ports port).current) (refused_term number) said
  pub heard : AllByRecursion IsFramed said
  pub gathered : b.outlet.gathered.items ≡ a.outlet.gathered.items ++ flat_map bytes_said said
  pub journal : b.journal.gathered.items ≡ a.journal.gathered.items ++ flat_map entry_bytes (LoggedHand (port + 1) ∷ [])
  pub after : situation_of b ≡ record (situation_of a) { ports = at_place port with_answer (situation_of a).ports }
  pub setting : setting_of b ≡ setting_of a

-- ---- a change is tried again

-- it was tried, or the step refuses that
abbrev pub Retries : OpId → Bool → Process → Process → Type 0
Retries op true a b = (act : Act) × Makes (Tried op.port act) a b
Retries op false a b = Rests a b × ((refusal : Refusal) × (step_act (whole_in (setting_of a).names) (setting_of a).ports (Retry op) (situation_of a).node.state ≡ Err refusal))

abbrev pub StopsTrying : OpId → ProcessFault → Process → Process → Type 0
StopsTrying op ClockFull a b = Silent a b × (step_act (whole_in (setting_of a).names) (setting_of a).ports (Retry op) (situation_of a).node.state ≡ Err refusals.ClockFull)
StopsTrying op OutOfMemory a b = Silent a b ⊎ ((act : Act) × Fails (Tried op.port act) OutOfMemory a b)
