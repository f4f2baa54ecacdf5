-- What the phases of a turn make of a node, its links and its ports.
use Rattle.std.specs.Prelude.{◌≡◌, ◌≢◌, ℕ, ◌+◌, ◌<◌, ◌≤◌, cond, nat_eq, get_or, length, map, List}
use Rattle.std.specs.Prelude.{[], ◌∷◌, ◌++◌, Option, Some, None, Bool, true, false, Result, Ok, Err}
use Rattle.std.specs.List.{flat_map}
use Rattle.pg_node.specs.PgGroup.declared.table.GroupTable.{Ghosts}
use Rattle.pg_node.specs.PgNodeState.declared.state.fault.NodeFault.{NodeFault}
use Rattle.pg_node.specs.Nodes.{held_by}
use Rattle.pg_node.specs.PgNodeState.States.{answers_of}
use Rattle.pg_node_run.specs.declared.linked.LinkedNode.{LinkedNode}
use Rattle.pg_node_run.specs.declared.port.Asked.{Asked}
use Rattle.pg_node_run.specs.declared.port.Port.{Port}
use Rattle.pg_node_run.specs.declared.notices.Notice.{Notice}
use Rattle.pg_node_run.specs.declared.notices.Notices.{Notices}
use Rattle.pg_node_run.specs.Acts.{Act, Given, Took, Saw, Did, seen_by}
use Rattle.pg_node_run.specs.Follows.{Follows, node_of}
use Rattle.pg_node_run.specs.Notices.{NoticesGo}
use Rattle.pg_node_run.specs.Ports.{asked, asked_kept, SamePort, HandedOver}
use Rattle.pg_node.specs.PgStep.declared.answer.Answer.{Answer}
use Rattle.pg_node.specs.PgStep.declared.command.Command.{Command}
use Rattle.pg_node.specs.PgStep.declared.command.OpId.{OpId}
use Rattle.pg_node.specs.PgStep.State.{Response}
use Rattle.pg_node.specs.PgStep.Step.{Issue, Retry}

-- ---- commands of a port

-- the command of an input, where it came in at the port at a place
abbrev pub command_at : ℕ → Given → List Command
command_at place (Took p x) = []
command_at place (Saw p last) = []
command_at place (Did (Issue port command)) = cond (nat_eq port place) (command ∷ []) []
command_at place (Did (Retry op)) = []

-- the commands of these acts that came in at the port at a place
abbrev pub commands_at : ℕ → List Act → List Command
commands_at place acts = flat_map (λ act. command_at place act.input) acts

-- ---- answers of a port

-- how many answers of a turn are at the port at a place
abbrev pub gave_at : ℕ → Option (OpId × Response) → ℕ
gave_at place None = 0
gave_at place (Some gave) = cond (nat_eq gave.0.port place) 1 0

-- Of each command of these acts that came in at the port at a place, how many answers the port had then, where it had so many at
-- first.
abbrev pub answered_at : ℕ → ℕ → List Act → List ℕ
answered_at place count [] = []
answered_at place count (act ∷ acts) = map (λ command. count) (command_at place act.input) ++ answered_at place (count + gave_at place act.turn.reported.gave) acts

-- Of each of these commands there was such a count of answers when it came in, and its client had polled no more of them when it
-- submitted the command.
abbrev pub AreLater : List Asked → List ℕ → Type 0
AreLater [] [] = Unit {0}
AreLater (asked ∷ others) (count ∷ counts) = (asked.polled ≤ count) × AreLater others counts
AreLater others counts = ⊥

-- ---- one port

-- A port came, by these acts of its node, from what it was: the commands that it gave are those that came in there, in their order,
-- each no sooner than the answers that its client had polled, and behind them it keeps one at most; where what was handed over was
-- the first of the answers, it is so now.
pub record PortFollows (place : ℕ) (acts : List Act) (answers answers2 : List Answer) (a b : Port) : Type 0 where
  pub same : SamePort a b
  pub given : List Asked
  pub asked : (before : List Asked) → asked a ≡ before ++ asked_kept a → asked b ≡ (before ++ given) ++ asked_kept b
  pub commands : map (λ (x : Asked). x.command) given ≡ commands_at place acts
  pub later : HandedOver answers a → AreLater given (answered_at place (length answers) acts)
  pub handed : HandedOver answers a → HandedOver answers2 b

-- the same of all ports
pub record PortsFollow (acts : List Act) (answers answers2 : ℕ → List Answer) (ports ports2 : List Port) : Type 0 where
  pub len : length ports2 ≡ length ports
  pub each : (place : ℕ) (none : Port) → place < length ports
      → PortFollows place acts (answers place) (answers2 place) (get_or ports place none) (get_or ports2 place none)

-- ---- the node

module _ {T L I : Type 0} {g : Ghosts T} (accepts : L → List ℕ → L → Type 0) (gives : I → List ℕ → I → Type 0) where
  -- it came by acts, of which none is a command that came in, and which saw these losses
  pub record GoesOnSeeing (losses : List Notice) (a b : LinkedNode T L I g) : Type 0 where
    pub acts : List Act
    pub follows : Follows accepts gives acts a b
    pub quiet : (place : ℕ) → commands_at place acts ≡ []
    pub seen : seen_by acts ≡ losses

  -- the same by acts that saw no loss
  abbrev pub GoesOn : LinkedNode T L I g → LinkedNode T L I g → Type 0
  GoesOn a b = GoesOnSeeing [] a b

  -- the loss of which a notice tells was seen, or none
  abbrev pub SeesOnce : Notice → Result Bool NodeFault → LinkedNode T L I g → LinkedNode T L I g → Type 0
  SeesOnce notice (Ok true) a b = GoesOnSeeing (notice ∷ []) a b
  SeesOnce notice (Ok false) a b = GoesOn a b
  SeesOnce notice (Err fault) a b = GoesOn a b

  -- it came by acts that saw losses of which it was told
  pub record SeesTold (a : LinkedNode T L I g) (notices : Notices) (b : LinkedNode T L I g) (notices2 : Notices) : Type 0 where
    pub losses : List Notice
    pub going : GoesOnSeeing losses a b
    pub told : NoticesGo losses notices notices2

  -- it came by acts that saw these losses, and its ports with it
  pub record ServesSeeing (losses : List Notice) (a : LinkedNode T L I g) (ports : List Port) (b : LinkedNode T L I g) (ports2 : List Port) : Type 0 where
    pub acts : List Act
    pub follows : Follows accepts gives acts a b
    pub served : PortsFollow acts (answers_of (held_by (node_of a))) (answers_of (held_by (node_of b))) ports ports2
    pub seen : seen_by acts ≡ losses

  abbrev pub Serves : LinkedNode T L I g → List Port → LinkedNode T L I g → List Port → Type 0
  Serves a ports b ports2 = ServesSeeing [] a ports b ports2

  -- the same of the port at one place: no command came in at another
  pub record ServesPort (place : ℕ) (a : LinkedNode T L I g) (port : Port) (b : LinkedNode T L I g) (port2 : Port) : Type 0 where
    pub acts : List Act
    pub follows : Follows accepts gives acts a b
    pub served : PortFollows place acts (answers_of (held_by (node_of a)) place) (answers_of (held_by (node_of b)) place) port port2
    pub quiet : (other : ℕ) → other ≢ place → commands_at other acts ≡ []
    pub seen : seen_by acts ≡ []
