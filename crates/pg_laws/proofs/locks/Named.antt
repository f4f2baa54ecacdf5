-- The frame world with nodes by their names, and beside it what the proof keeps of each node: the updates that it has
-- applied. A turn of the node's step is performed at once.
use Rattle.std.proofs.Common.{◌≡◌, ℕ, Bool, true, not, ◌&&◌, List, [], ◌∷◌, ◌++◌, Option, Some, None}
use Rattle.std.specs.List.{list_any}
use Rattle.pg_term.specs.declared.term.Term.{Term}
use Rattle.pg_term.specs.Same.{same_atom, same_term}
use Rattle.pg_step.specs.PgGroup.declared.update.Update.{Update}
use Rattle.pg_step.specs.PgGroup.Functions.{upd}
use Rattle.pg_step.specs.PgGroup.Value.{name_of}
use Rattle.pg_step.specs.PgMessageTypes.declared.message.Message.{Message}
use Rattle.pg_step.specs.declared.command.OpId.{OpId}
use Rattle.pg_step.specs.Nodes.{Node, Nodes, is_peer}
use Rattle.pg_step.specs.State.{State}
use Rattle.pg_step.specs.Turns.{NodeTurn}
use Rattle.pg_step.specs.Attempts.{same_op}
use Rattle.std.specs.Prelude.{cond, ◌+◌}

-- an update that has every grant, with its node and its command
pub record Entry : Type 0 where
  pub node : Node
  pub op : OpId
  pub update : Update

pub record World : Type 0 where
  -- the nodes, and how each knows the others
  pub nodes : List Node
  pub seat : Node → Nodes
  pub node : Node → State
  -- from x to y
  pub wire : Node → Node → List Message
  -- whose loss each node has seen
  pub seen : Node → Node → Bool
  -- what each node has applied, the earliest first
  pub log : Node → List Update
  pub history : List Entry
  -- the commands that were answered behind their locks
  pub answered : List (Node × OpId)

-- every node knows itself and all others, but those whose loss it has seen
pub record Seated (nodes : List Node) (seen : Node → Node → Bool) (seat : Node → Nodes) : Type 0 where
  pub own : (a : Node) → list_any (same_atom a) nodes ≡ true → (seat a).own ≡ a
  pub peer : (a q : Node) → list_any (same_atom a) nodes ≡ true → is_peer (seat a) q ≡ ((list_any (same_atom q) nodes && not (same_atom a q)) && not (seen a q))

abbrev pub listed : {A : Type 0} → Option A → List A
listed None = []
listed (Some x) = x ∷ []

abbrev pub entry_of : Node → Option (OpId × Update) → List Entry
entry_of a None = []
entry_of a (Some (op, update)) = record { node = a; op = op; update = update } ∷ []

abbrev pub answer_of : Node → Option OpId → List (Node × OpId)
answer_of a None = []
answer_of a (Some op) = (a, op) ∷ []

-- node a does its turn
abbrev pub perform : World → Node → NodeTurn → World
perform w a t = record w {
  node = upd same_atom w.node a t.state;
  wire = upd {A = Node → List Message} same_atom w.wire a (λ y. w.wire a y ++ t.sends y);
  log = upd same_atom w.log a (w.log a ++ listed t.reported.applied);
  history = w.history ++ entry_of a t.reported.began;
  answered = w.answered ++ answer_of a t.reported.answered;
}

-- the packets from p to a are these
abbrev pub popped : World → Node → Node → List Message → World
popped w p a rest = record w { wire = upd {A = Node → List Message} same_atom w.wire p (upd same_atom (w.wire p) a rest) }

-- the updates of a name in a log
abbrev pub on : Term → List Update → List Update
on N [] = []
on N (u ∷ us) = cond (same_term N (name_of u)) (u ∷ on N us) (on N us)

-- the entries of a name
abbrev pub of_name : Term → List Entry → List Entry
of_name N [] = []
of_name N (e ∷ es) = cond (same_term N (name_of e.update)) (e ∷ of_name N es) (of_name N es)

abbrev pub updates : List Entry → List Update
updates [] = []
updates (e ∷ es) = e.update ∷ updates es

-- how often a command stands in the history
abbrev pub times : Node → OpId → List Entry → ℕ
times a op [] = 0
times a op (e ∷ es) = cond (same_atom a e.node && same_op op e.op) 1 0 + times a op es
