-- Which commands a node refuses, and what it answers at once, by example: the answer that the step gives.
use Rattle.std.specs.Prelude.{◌≡◌, ℕ, true, false, Option, Some, None, Result, Ok, Err, option_map}
use Rattle.pg_term.specs.declared.term.Term.{Term}
use Rattle.pg_laws.specs.PgEnds.Numbers.{pid_of}
use Rattle.pg_laws.specs.PgStep.declared.answer.Reply.TheVariants as reply
use Rattle.pg_laws.specs.PgStep.declared.command.Command.{Command}
use Rattle.pg_laws.specs.PgStep.declared.command.Command.TheVariants as command
use Rattle.pg_laws.specs.PgStep.declared.refusal.Refusal.{Refusal}
use Rattle.pg_laws.specs.PgStep.declared.refusal.Refusal.TheVariants.{NotWaiting}
use Rattle.pg_laws.specs.PgStep.Config.{nodes_at}
use Rattle.pg_laws.specs.PgStep.Nodes.{Nodes}
use Rattle.pg_laws.specs.PgStep.State.{State, Response}
use Rattle.pg_laws.specs.PgStep.State.Response.{Given}
use Rattle.pg_laws.specs.PgStep.Step.{Issue, Retry, node_acts}
use Rattle.pg_laws.specs.PgStep.Turns.{NodeTurn}
use Rattle.pg_laws_examples.specs.Examples.{a, a1, b1, c1, op_at, two_nodes, busy_node, mourning_node, keeping_node}

-- the node a of a and b
abbrev pub at_a : Nodes
at_a = nodes_at two_nodes 0

abbrev pub answer_in : Result NodeTurn Refusal → Option Response
answer_in (Ok t) = option_map (λ given. given.1) t.reported.gave
answer_in (Err refusal) = None

-- what the node answers at once to a command at its port
abbrev pub answer_to : State → Command → Option Response
answer_to s c = answer_in (node_acts at_a 1 (Issue 0 c) s)

abbrev pub opened_in : Result NodeTurn Refusal → ℕ
opened_in (Ok t) = t.state.opened
opened_in (Err refusal) = 0

abbrev pub refused : ℕ → Option Response
refused number = Some (Given (reply.Refused number))

-- Names that are too large to be sent: of each command with a name, and before any other fault.
pub record LargeNames (name : Term) : Type 0 where
  pub create : answer_to (busy_node true 0 0) (command.Create name) ≡ refused 23
  pub delete : answer_to (busy_node true 0 0) (command.Delete name) ≡ refused 23
  pub join : answer_to (busy_node true 0 0) (command.Join name a1) ≡ refused 23
  pub join_foreign : answer_to (busy_node true 0 0) (command.Join name c1) ≡ refused 23
  pub leave : answer_to (busy_node true 0 0) (command.Leave name a1) ≡ refused 23
  pub members : answer_to (busy_node true 0 0) (command.Members name) ≡ refused 23
  pub local_members : answer_to (busy_node true 0 0) (command.LocalMembers name) ≡ refused 23
  pub closest : answer_to (busy_node true 0 0) (command.Closest name 0) ≡ refused 23

-- Processes of a node that is not of the set, whether the group is there or not.
pub record ForeignMembers (g : Term) : Type 0 where
  pub join : answer_to (busy_node true 0 0) (command.Join g c1) ≡ refused 24
  pub leave : answer_to (busy_node true 0 0) (command.Leave g c1) ≡ refused 24
  -- a process of another node of the set is none, made or not
  pub join_peer : answer_to (busy_node true 0 0) (command.Join g b1) ≡ Some (Given (reply.NoSuchGroup g))

-- Ends that are refused, the faults in their order.
pub record RefusedEnds : Type 0 where
  pub foreign : answer_to (busy_node false 1 0) (command.Finish b1) ≡ refused 24
  pub unformed : answer_to (busy_node false 1 0) (command.Finish a1) ≡ refused 25
  pub unformed_unmade : answer_to (busy_node false 0 0) (command.Finish a1) ≡ refused 25
  pub unmade : answer_to (busy_node true 0 0) (command.Finish a1) ≡ refused 26
  pub number_zero : answer_to (busy_node true 1 0) (command.Finish (pid_of a 0)) ≡ refused 26
  pub number_two : answer_to (busy_node true 1 0) (command.Finish (pid_of a 2)) ≡ refused 26
  -- one that has ended and yet was not made
  pub ended_unmade : answer_to (mourning_node 0) (command.Finish a1) ≡ refused 26
  pub again : answer_to (mourning_node 1) (command.Finish a1) ≡ refused 27
  pub once : answer_to (busy_node true 1 0) (command.Finish a1) ≡ Some (Given reply.Ok)

-- The number of processes that a node makes.
pub record ProcessesMade : Type 0 where
  pub last : answer_to (busy_node false 268435454 0) command.Make ≡ Some (Given (reply.Made (pid_of a 268435455)))
  pub none_left : answer_to (busy_node false 268435455 0) command.Make ≡ refused 28

-- What the look answers, of a group that is there and of one that is not. What it does not answer waits for its locks.
pub record LookedFor (g : Term) : Type 0 where
  pub create : answer_to keeping_node (command.Create g) ≡ Some (Given reply.Ok)
  pub join : answer_to keeping_node (command.Join g a1) ≡ None
  pub leave : answer_to keeping_node (command.Leave g a1) ≡ None
  pub create_absent : answer_to (busy_node true 0 0) (command.Create g) ≡ None
  pub delete_absent : answer_to (busy_node true 0 0) (command.Delete g) ≡ None
  pub join_absent : answer_to (busy_node true 0 0) (command.Join g a1) ≡ Some (Given (reply.NoSuchGroup g))
  pub leave_absent : answer_to (busy_node true 0 0) (command.Leave g a1) ≡ Some (Given (reply.NoSuchGroup g))

-- With 255 open commands one more is taken, and waits for its locks; with 256 it is refused, behind its faults and behind
-- the look. A command that is not open is not tried again.
pub record OpenCommands (g : Term) : Type 0 where
  pub taken : answer_to (busy_node true 0 255) (command.Create g) ≡ None
  pub opened : opened_in (node_acts at_a 1 (Issue 0 (command.Create g)) (busy_node true 0 255)) ≡ 256
  pub full : answer_to (busy_node true 0 256) (command.Create g) ≡ refused 22
  pub full_delete : answer_to (busy_node true 0 256) (command.Delete g) ≡ refused 22
  pub foreign_first : answer_to (busy_node true 0 256) (command.Join g c1) ≡ refused 24
  pub looked : answer_to (busy_node true 0 256) (command.Join g a1) ≡ Some (Given (reply.NoSuchGroup g))
  pub closed : node_acts at_a 1 (Retry (op_at 1)) (busy_node true 0 255) ≡ Err NotWaiting
