-- What a node does at once, and how two such turns make one.
use Rattle.std.specs.Prelude.{List, ◌++◌, Option, Some, None}
use Rattle.pg_message_types.specs.PgGroup.declared.update.Update.{Update}
use Rattle.pg_message_types.specs.declared.message.Message.{Message}
use Rattle.pg_step.specs.declared.command.OpId.{OpId}
use Rattle.pg_step.specs.declared.answer.Odd.{Odd}
use Rattle.pg_step.specs.Nodes.{Node, to_nobody}
use Rattle.pg_step.specs.State.{State, Response}

-- what a turn reports beside what it sends
pub record Report : Type 0 where
  -- the update that the node applied to its table
  pub applied : Option Update
  -- the command that got its last grant, with its update
  pub began : Option (OpId × Update)
  -- the command that was answered behind its lock
  pub answered : Option OpId
  -- the answer that was given: the command, by its port and its number there, and the response
  pub gave : Option (OpId × Response)
  -- a reply that completed nothing
  pub odd : Option Odd

abbrev pub nothing : Report
nothing = record { applied = None; began = None; answered = None; gave = None; odd = None }

pub record NodeTurn : Type 0 where
  pub state : State
  -- what goes to each peer, the earliest first
  pub sends : Node → List Message
  pub reported : Report

-- the state changes, and no more
abbrev pub becomes : State → NodeTurn
becomes s = record { state = s; sends = to_nobody; reported = nothing }

-- the state changes, and messages go out
abbrev pub becomes_and_sends : State → (Node → List Message) → NodeTurn
becomes_and_sends s sends = record { state = s; sends = sends; reported = nothing }

abbrev pub first_of : {A : Type 0} → Option A → Option A → Option A
first_of None later = later
first_of (Some x) later = Some x

abbrev pub both_reports : Report → Report → Report
both_reports t u = record {
  applied = first_of t.applied u.applied;
  began = first_of t.began u.began;
  answered = first_of t.answered u.answered;
  gave = first_of t.gave u.gave;
  odd = first_of t.odd u.odd;
}

-- one turn after the other
abbrev pub and_then : NodeTurn → (State → NodeTurn) → NodeTurn
and_then t next = record {
  state = (next t.state).state;
  sends = λ q. t.sends q ++ (next t.state).sends q;
  reported = both_reports t.reported (next t.state).reported;
}
