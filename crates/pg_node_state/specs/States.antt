-- What a node's state is seen as, and what an event makes of it.
use Rattle.std.specs.Prelude.{◌≡◌, ℕ, ◌+◌, ◌++◌, Bool, true, false, not, cond, max}
use Rattle.std.specs.Prelude.{nat_eq, drop, List, [], ◌∷◌, Option, Some, None, Result, Ok, Err, OnErr}
use Rattle.pg_node_ports.specs.PgGroup.declared.table.GroupTable.{Ghosts}
use Rattle.pg_node_ports.specs.PgGroup.Ended.{ended_of}
use Rattle.pg_node_ports.specs.PgGroup.Functions.{upd}
use Rattle.pg_node_ports.specs.PgLock.Locks.{locks_of}
use Rattle.pg_node_ports.specs.PgEnds.Processes.{made_of}
use Rattle.pg_node_ports.specs.PgMessageTypes.declared.message.Message.{Message}
use Rattle.pg_node_ports.specs.PgMessageTypes.declared.message.Message.TheVariants.{DelLock, Exchange, Reply as Replied}
use Rattle.pg_node_ports.specs.PgExchange.GroupList.{GroupList}
use Rattle.pg_node_ports.specs.PgStep.Machines.Clocked.{Timed, Stamped}
use Rattle.pg_node_ports.specs.PgMulticall.Gathered.{what_of}
use Rattle.pg_node_ports.specs.PgMulticall.declared.gather.Taken.{Taken}
use Rattle.pg_node_ports.specs.PgMulticall.declared.gather.Taken.TheVariants.{Counted}
use Rattle.pg_node_ports.specs.PgNodeOpens.Opens as opens
use Rattle.pg_node_ports.specs.PgNodeOpens.Places.{name_at}
use Rattle.pg_node_ports.specs.PgStep.declared.answer.Answer.{Answer}
use Rattle.pg_node_ports.specs.PgStep.declared.answer.Reply.{Reply}
use Rattle.pg_node_ports.specs.PgStep.declared.command.OpId.{OpId}
use Rattle.pg_node_ports.specs.PgStep.Nodes.{Node, Nodes}
use Rattle.pg_node_ports.specs.PgStep.State.{State, Response}
use Rattle.pg_node_ports.specs.PgStep.Attempts.{gathered, use_of}
use Rattle.pg_node_ports.specs.PgStep.Commands.{Answers}
use Rattle.pg_node_ports.specs.PgStep.Losses.{see_loss}
use Rattle.pg_node_ports.specs.PgStep.Turns.{NodeTurn}
use Rattle.pg_node_ports.specs.PgStep.Step.{TimedTurn, at_clock, timed}
use Rattle.pg_node_ports.specs.PgStep.declared.refusal.Refusal.{Refusal}
use Rattle.pg_node_ports.specs.PgStep.declared.refusal.Refusal.TheVariants.{NodeLost, NotAMessage}
use Rattle.pg_node_state.specs.declared.state.NodeState.{NodeState}
use Rattle.pg_node_sends.specs.declared.done.Done.{Done}
use Rattle.pg_node_sends.specs.declared.outgoing.Outgoing.{Ghosts as Listing}
use Rattle.pg_node_state.specs.declared.state.fault.NodeFault.{NodeFault}
use Rattle.pg_node_state.specs.declared.state.fault.NodeFault.TheVariants.{Refused, OutOfMemory}
use Rattle.pg_node_state.specs.Ports.{merged_in}
use Rattle.pg_node_ports.specs.Ports.{port_commands, answers_in, forgotten_in}
use Rattle.pg_node_sends.specs.Sent.{sends_in}
use Rattle.pg_node_state.specs.Issued.{ports_of}

-- ---- the state

-- the names of the nodes of the set, the own one first
abbrev pub names_of : {T : Type 0} {g : Ghosts T} → NodeState T g → List Node
names_of node = opens.names_of node.opens

-- the set as the node knows it
abbrev pub nodes_of : {T : Type 0} {g : Ghosts T} → NodeState T g → Nodes
nodes_of node = opens.whole_of node.opens

-- the nodes that count
abbrev pub live_of : {T : Type 0} {g : Ghosts T} → NodeState T g → Nodes
live_of node = opens.live_of node.opens

abbrev pub kept_by : {T : Type 0} {g : Ghosts T} → NodeState T g → State
kept_by {T} {g} node = record {
  table = g.contents node.table;
  ended = ended_of node.ended;
  locks = locks_of node.locks;
  merged = merged_in (names_of node) node.formation;
  lost = opens.lost_of node.opens;
  references = opens.references_of node.opens;
  uses = opens.uses_of node.opens;
  processes = made_of node.processes;
  opened = opens.opened_of node.opens;
  stages = opens.stages_of node.opens;
  counts = port_commands node.ports.items;
}

abbrev pub state_of : {T : Type 0} {g : Ghosts T} → NodeState T g → Timed State
state_of node = record { clock = node.clock; state = kept_by node }

abbrev pub answers_of : {T : Type 0} {g : Ghosts T} → NodeState T g → ℕ → List Answer
answers_of node = answers_in node.ports.items

-- how many answers each port has forgotten
abbrev pub forgotten_of : {T : Type 0} {g : Ghosts T} → NodeState T g → ℕ → ℕ
forgotten_of node = forgotten_in node.ports.items

-- the answers at each port, where the first of one port are left out: all, where there are fewer
abbrev pub left_at : (port count : ℕ) → (ℕ → List Answer) → ℕ → List Answer
left_at port count answers = upd nat_eq answers port (drop count (answers port))

-- ---- what an event makes of it

-- the groups that a node announces
abbrev pub announced_at : ℕ → Node → GroupList → Stamped Message
announced_at stamp node groups = record { stamp = stamp; packet = Exchange node groups }

-- what the loss of a peer leads to, whose clock was this at last
abbrev pub step_see_loss : Node → ℕ → Timed State → Result TimedTurn Refusal
step_see_loss p last s = timed (max s.clock last + 1) (cond (s.state.lost p) (Err NodeLost) (Ok (see_loss p s.state)))

-- what was done is what the turn sends and reports
pub record IsReported {S : Type 0} {h : Listing S} (names : List Node) (t : TimedTurn) (done : Done S h) : Type 0 where
  pub sends : sends_in names (h.listed done.sends) ≡ t.sends
  pub began : done.began ≡ t.reported.began
  pub odd : done.odd ≡ t.reported.odd

-- the answers at each port, with one more where one was given
abbrev pub Gave : Node → Option (OpId × Response) → (ℕ → List Answer) → (ℕ → List Answer) → Type 0
Gave own None before after = after ≡ before
Gave own (Some gave) before after = (r : Reply) × Answers own gave.1 r
    × (after ≡ upd nat_eq before gave.0.port (before gave.0.port ++ record { number = gave.0.number; reply = r } ∷ []))

-- an event happened as the turn does
pub record Happens {S : Type 0} {h : Listing S} (names : List Node) (t : TimedTurn) (done : Done S h) (s : Timed State) (before after : ℕ → List Answer) : Type 0 where
  pub told : IsReported names t done
  pub state : s ≡ t.state
  pub answers : Gave (name_at names 0) t.reported.gave before after

-- What came of an event by what the step tells of it: it happened as the turn does, unless memory ran out, or it was refused
-- as the step refuses it.
abbrev pub Comes : {S : Type 0} {h : Listing S} → List Node → Result TimedTurn Refusal → Result (Done S h) NodeFault → Timed State → (ℕ → List Answer) → (ℕ → List Answer) → Type 0
Comes names (Ok t) (Ok done) s before after = Happens names t done s before after
Comes names (Ok t) (Err OutOfMemory) s before after = Unit {0}
Comes names (Ok t) (Err fault) s before after = ⊥
Comes names (Err refusal) result s before after = result ≡ Err (Refused refusal)

-- the same of a turn without clock, at the clock that the event sets
abbrev pub ComesAt : {S : Type 0} {h : Listing S} → ℕ → List Node → Result NodeTurn Refusal → Result (Done S h) NodeFault → Timed State → (ℕ → List Answer) → (ℕ → List Answer) → Type 0
ComesAt clock names (Ok t) result s before after = Comes names (Ok (at_clock clock t)) result s before after
ComesAt clock names (Err refusal) result s before after = Comes names (Err refusal) result s before after

-- whether what a packet leads to is refused, as no message
abbrev pub IsRefused : Result NodeTurn Refusal → Bool → Type 0
IsRefused (Ok turn) refused = refused ≡ false
IsRefused (Err NotAMessage) refused = refused ≡ true
IsRefused (Err refusal) refused = ⊥

-- what is told of an event for which memory runs out: its refusal, where it is refused
abbrev pub fault_or_memory : Result TimedTurn Refusal → NodeFault
fault_or_memory (Ok t) = OutOfMemory
fault_or_memory (Err refusal) = Refused refusal

-- ---- what stays

-- an event that fails changes nothing, and none changes the names of the nodes, how many ports there are, or how many answers were
-- forgotten
pub record Stays {T A E : Type 0} {g : Ghosts T} (before after : NodeState T g) (result : Result A E) : Type 0 where
  pub state : OnErr result (state_of after ≡ state_of before)
  pub answers : OnErr result (answers_of after ≡ answers_of before)
  pub names : names_of after ≡ names_of before
  pub ports : ports_of after ≡ ports_of before
  pub forgotten : forgotten_of after ≡ forgotten_of before

-- ---- memory

abbrev pub is_counted : Taken → Bool
is_counted Counted = true
is_counted taken = false

-- a packet of p that takes no memory: it frees a lock, or is a reply that completes nothing
abbrev pub takes_none : Nodes → Node → State → Message → Bool
takes_none m p s (DelLock name reference) = true
takes_none m p s (Replied reference said) = not (is_counted (what_of true (gathered (use_of m reference s) p)))
takes_none m p s message = false
