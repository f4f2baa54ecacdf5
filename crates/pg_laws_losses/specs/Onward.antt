-- What a run keeps in which nodes may be lost, of each world on its way: what stays, and what each event did.
use Rattle.std.specs.Prelude.{◌≡◌, ◌≢◌, ◌↔◌, ℕ, true, false, length, List, [], ◌∷◌, ◌++◌, Some, None}
use Rattle.pg_term.specs.declared.pid.Pid.{Pid}
use Rattle.pg_term.specs.declared.term.Term.{Term}
use Rattle.pg_laws.specs.PgGroup.Value.{Counts}
use Rattle.pg_laws.specs.PgGroup.declared.update.Update.{Update}
use Rattle.pg_laws.specs.PgMessageTypes.declared.message.Message.{Message}
use Rattle.pg_laws.specs.PgStep.Machines.Clocked.{plain}
use Rattle.pg_laws.specs.PgStep.Machines.Losing.{LosingEvent, Step, losing_happens}
use Rattle.pg_laws.specs.PgStep.Machines.Machine.{Event, Turn, Take, Do, node_of}
use Rattle.pg_laws.specs.PgStep.Machines.Places.{is_place}
use Rattle.pg_laws.specs.PgStep.Machines.Runs.{reported_by}
use Rattle.pg_laws.specs.PgStep.declared.answer.Reply.{Reply}
use Rattle.pg_laws.specs.PgStep.declared.answer.Reply.TheVariants as reply
use Rattle.pg_laws.specs.PgStep.declared.command.Command.{Command}
use Rattle.pg_laws.specs.PgStep.declared.command.Command.TheVariants as commands
use Rattle.pg_laws.specs.PgStep.declared.command_fault.CommandFault.{CommandFault}
use Rattle.pg_laws.specs.PgStep.Commands.{change_of, fault_of, has_large_name, next_op, refused}
use Rattle.pg_laws.specs.PgStep.Config.{Config, nodes_at}
use Rattle.pg_laws.specs.PgStep.FrameMachine.{last_notice, losing_frame_machine}
use Rattle.pg_laws.specs.PgStep.Losses.{see_loss}
use Rattle.pg_laws.specs.PgStep.LossLaws.{LosingFrameWorld}
use Rattle.pg_laws.specs.PgStep.Nodes.{Node}
use Rattle.pg_laws.specs.PgStep.State.{Response, State, formed}
use Rattle.pg_laws.specs.PgStep.State.Response.{Given, Read}
use Rattle.pg_laws.specs.PgStep.Step.{Action, Issue}
use Rattle.pg_laws.specs.PgStep.StepLaws.{OnlyAnswers, is_query}
use Rattle.pg_laws.specs.PgStep.Turns.{Report, nothing}
use Rattle.pg_laws.specs.History.{answers_by}
use Rattle.pg_laws.specs.Lasting.{Tabling, at_once, refused_by}
use Rattle.pg_laws.specs.ReferencesFit.{ReferencesFit, UseFollows}
use Rattle.pg_laws.specs.WithLosses.{has_seen}
use Rattle.pg_laws_losses.specs.Quiet.{IsQuietLive}
use Rattle.pg_laws_losses.specs.Reached.{LosingReaches, nodes_of}

-- ---- what stays, of a world w to which events led: m is a world to which the first of them had led

-- each answer, with its number and its response
abbrev pub AnswersStay : Config → List (LosingEvent Action) → LosingFrameWorld → Type 0
AnswersStay config events w = (first last : List (LosingEvent Action)) (m : LosingFrameWorld) (i port : ℕ) → events ≡ first ++ last → LosingReaches config first m
    → (more : List (ℕ × Response)) × (answers_by i w.world.reported port ≡ answers_by i m.world.reported port ++ more)

-- What becomes of formation and of ends.
pub record FormationStays (config : Config) (events : List (LosingEvent Action)) (w : LosingFrameWorld) : Type 0 where
  -- a node that was formed is
  pub stays : (first last : List (LosingEvent Action)) (m : LosingFrameWorld) (i : ℕ) → events ≡ first ++ last → LosingReaches config first m
      → formed (nodes_at config i) (m.world.node i).state ≡ true → formed (nodes_at config i) (w.world.node i).state ≡ true
  -- so is each live node, where nothing is on the way to a live node
  pub quiet : (i : ℕ) → IsQuietLive config w → is_place (length config) i ≡ true → w.gone i ≡ false → formed (nodes_at config i) (w.world.node i).state ≡ true
  -- an end that a node had taken it has
  pub ended : (first last : List (LosingEvent Action)) (m : LosingFrameWorld) (i : ℕ) (pid : Pid) → events ≡ first ++ last → LosingReaches config first m
      → (m.world.node i).state.ended pid ≡ true → (w.world.node i).state.ended pid ≡ true

-- What becomes of losses.
pub record LossesStay (config : Config) (events : List (LosingEvent Action)) (w : LosingFrameWorld) : Type 0 where
  -- a node that was lost is, with the state that it had, and has reported nothing more
  pub still : (first last : List (LosingEvent Action)) (m : LosingFrameWorld) (i : ℕ) → events ≡ first ++ last → LosingReaches config first m → m.gone i ≡ true
      → (w.gone i ≡ true) × ((w.world.node i).state ≡ (m.world.node i).state) × (reported_by i w.world.reported ≡ reported_by i m.world.reported)
  -- a loss that was seen is
  pub seen : (first last : List (LosingEvent Action)) (m : LosingFrameWorld) (i p : ℕ) → events ≡ first ++ last → LosingReaches config first m
      → has_seen config m i p ≡ true → has_seen config w i p ≡ true
  -- and who saw it has taken nothing from the lost since then
  pub unheard : (first before after : List (LosingEvent Action)) (m : LosingFrameWorld) (i p : ℕ) → events ≡ first ++ (before ++ Step (Take i p) ∷ after)
      → LosingReaches config first m → has_seen config m i p ≡ true → ⊥

-- Each reference has one use, for good.
pub record UsesReferencesOnce (config : Config) (events : List (LosingEvent Action)) (w : LosingFrameWorld) : Type 0 where
  pub fitting : (i : ℕ) → ReferencesFit (w.world.node i).state
  pub later : (first last : List (LosingEvent Action)) (m : LosingFrameWorld) (i c : ℕ) → events ≡ first ++ last → LosingReaches config first m
      → UseFollows ((m.world.node i).state.uses c) ((w.world.node i).state.uses c)

-- ---- what an event did that led from the world m to the world v

-- this is so of each step among events, of the world before it and of the one behind it
abbrev pub EachStep : Config → List (LosingEvent Action) → (Event Action → LosingFrameWorld → LosingFrameWorld → Type 0) → Type 0
EachStep config events Did = (first last : List (LosingEvent Action)) (m v : LosingFrameWorld) (d : Event Action) → events ≡ first ++ Step d ∷ last → LosingReaches config first m
    → losing_happens (losing_frame_machine config) last_notice m (Step d) ≡ Some v → Did d m v

-- and this of each command among them, by its node and its port
abbrev pub EachCommand : Config → List (LosingEvent Action) → (ℕ → ℕ → Command → LosingFrameWorld → LosingFrameWorld → Type 0) → Type 0
EachCommand config events Did = (first last : List (LosingEvent Action)) (m v : LosingFrameWorld) (i port : ℕ) (c : Command)
    → events ≡ first ++ Step (Do i (Issue port c)) ∷ last → LosingReaches config first m
    → losing_happens (losing_frame_machine config) last_notice m (Step (Do i (Issue port c))) ≡ Some v → Did i port c m v

-- A command was answered so at once, and nothing else came of it.
pub record AnswersAlone (i port : ℕ) (response : Response) (m v : LosingFrameWorld) : Type 0 where
  pub nodes : OnlyAnswers i port response (nodes_of m) (nodes_of v)
  pub ways : (x y : ℕ) → (plain v.world).wire x y ≡ (plain m.world).wire x y

-- A query whose name can be sent was answered by what it read in its node's table, formed or not.
abbrev pub ReadsTable : ℕ → ℕ → Command → LosingFrameWorld → LosingFrameWorld → Type 0
ReadsTable i port c m v = is_query c ≡ true → has_large_name c ≡ false → AnswersAlone i port (Read c (m.world.node i).state.table) m v

-- What the look answers, where a command has no fault.
pub record LookAnswers (config : Config) (i port : ℕ) (c : Command) (m v : LosingFrameWorld) : Type 0 where
  pub created : (name : Term) (counts : Counts) → c ≡ commands.Create name → fault_of (nodes_at config i) (m.world.node i).state c ≡ None
      → (m.world.node i).state.table name ≡ Some counts → AnswersAlone i port (Given reply.Ok) m v
  pub joined : (name : Term) (pid : Pid) → c ≡ commands.Join name pid → fault_of (nodes_at config i) (m.world.node i).state c ≡ None
      → (m.world.node i).state.table name ≡ None → AnswersAlone i port (Given (reply.NoSuchGroup name)) m v
  pub left : (name : Term) (pid : Pid) → c ≡ commands.Leave name pid → fault_of (nodes_at config i) (m.world.node i).state c ≡ None
      → (m.world.node i).state.table name ≡ None → AnswersAlone i port (Given (reply.NoSuchGroup name)) m v

-- A command was refused, and a change answered at once, exactly where it should be.
pub record RefusesExactly (config : Config) (i port : ℕ) (c : Command) (m v : LosingFrameWorld) : Type 0 where
  pub report : Report
  pub reported : v.world.reported ≡ m.world.reported ++ (i, report) ∷ []
  -- by the first fault that it has, or as too many are open
  pub by_fault : (fault : CommandFault) → (report.gave ≡ Some (next_op port (m.world.node i).state, refused fault)) ↔ (refused_by (nodes_at config i) (m.world.node i).state c ≡ Some fault)
  -- by what the look finds, or as too many are open
  pub by_look : (update : Update) (r : Reply) → change_of c ≡ Some update → fault_of (nodes_at config i) (m.world.node i).state c ≡ None
      → ((report.gave ≡ Some (next_op port (m.world.node i).state, Given r)) × (report.answered ≡ None)) ↔ (at_once (m.world.node i).state update ≡ Some r)

-- what became of the table of a node: what a turn makes of it that knows of no loss, or it saw the loss of a peer
pub data TableFollows (s t : State) (report : Report) : Type 0 where
  Turned : (turn : Turn State Message Report) → Tabling s turn → t ≡ turn.state → report ≡ turn.reported → TableFollows s t report
  SawLoss : (peer : Node) → t ≡ (see_loss peer s).state → report ≡ nothing → TableFollows s t report

-- An event applied at most one update, which its node reported, and changed no other node.
pub record AppliesOnce (d : Event Action) (m v : LosingFrameWorld) : Type 0 where
  pub report : Report
  pub reported : v.world.reported ≡ m.world.reported ++ (node_of d, report) ∷ []
  pub table : TableFollows (m.world.node (node_of d)).state (v.world.node (node_of d)).state report
  pub others : (j : ℕ) → j ≢ node_of d → (v.world.node j).state ≡ (m.world.node j).state
