-- What follows from what a process keeps, in its order: denied changes that are due are tried again, and ports hand over.
use Rattle.std.specs.Prelude.{◌≡◌, ℕ, zero, suc, Bool, true, false, nat_lt, List, [], ◌∷◌, Option, Some, None}
use Rattle.std.specs.List.{AllByRecursion}
use Rattle.pg_node.specs.Nodes.{held_by}
use Rattle.pg_node.specs.PgNodeState.States.{answers_of}
use Rattle.pg_node.specs.PgNodeState.Waiting.{AreWaiting}
use Rattle.pg_node.specs.PgStep.declared.command.OpId.{OpId}
use Rattle.pg_node_process.specs.declared.desk.Numbered.{Numbered}
use Rattle.pg_node_process.specs.declared.retries.Seen.{Seen}
use Rattle.pg_node_process.specs.Bodies.{body_of}
use Rattle.pg_node_process.specs.Desks.{Port}
use Rattle.pg_node_process.specs.Retries.{gives_way, is_due}
use Rattle.pg_process.specs.declared.process.Process.{Process}
use Rattle.pg_process.specs.Chains.{Goes, Makes, Rests, Step, Works}
use Rattle.pg_process.specs.Changes.{HandsOver, Retries}
use Rattle.pg_process.specs.Deeds.{Answered, Deed, Looked, Read}
use Rattle.pg_process.specs.Hearing.{deeds_of, heeded, is_tick, whom_of}
use Rattle.pg_process.specs.Locks.{live_of}
use Rattle.pg_process.specs.Settled.{KeepsNone, NoneComes, NoneUnsaid}
use Rattle.pg_process.specs.Situations.{setting_of, situation_of}

-- ---- answers at a port

abbrev pub IsSaidAt : ℕ → Deed → Type 0
IsSaidAt port (Answered place answer) = place ≡ port
IsSaidAt port deed = ⊥

-- nothing is done but that answers at a port are said
pub record Says (port : ℕ) (a b : Process) : Type 0 where
  pub steps : List Step
  pub said : AllByRecursion (λ step. IsSaidAt port step.deed) steps
  pub goes : Goes steps a b

-- each of them is
pub record SaysAll (port : ℕ) (a b : Process) : Type 0 where
  pub says : Says port a b
  pub none : answers_of (held_by b.node) port ≡ []

-- ---- denied changes

-- a denied change that is due is tried, where the step does not refuse that, and its answers are said; with one that is not nothing is done
abbrev pub TriesWhere : Bool → OpId → Process → Process → Type 0
TriesWhere true op a b = (m : Process) × (did : Bool) × Retries op did a m × SaysAll op.port m b
TriesWhere false op a b = b ≡ a

-- Its port looks at the lock of its group. By what it sees, and how it gives way then, the change is due or not.
pub record TriesIfDue (op : OpId) (is_tick : Bool) (a b : Process) : Type 0 where
  pub seen : Seen
  pub behind : Process
  pub looks : Makes (Looked op.port seen is_tick) a behind
  pub tries : TriesWhere (is_due seen is_tick ((situation_of behind).courtesies op.port)) op behind b

-- there is such a port, or nothing is done
abbrev pub TriesAt : Bool → OpId → Bool → Process → Process → Type 0
TriesAt true op is_tick a b = TriesIfDue op is_tick a b
TriesAt false op is_tick a b = b ≡ a

-- what becomes of each denied change, one after another
abbrev pub TriesEach : List OpId → Bool → Process → Process → Type 0
TriesEach [] is_tick a b = b ≡ a
TriesEach (op ∷ ops) is_tick a b = (m : Process) × TriesAt (nat_lt op.port (setting_of a).ports) op is_tick a m × TriesEach ops is_tick m b

-- All changes that were denied their locks have their turn.
pub record RetriesAll (is_tick : Bool) (a b : Process) : Type 0 where
  pub ops : List OpId
  pub all : AreWaiting (live_of (setting_of a) (situation_of a).node.state.state) (situation_of a).node.state.state ops
  pub each : TriesEach ops is_tick a b

-- ---- changes that wait

-- a port that does not give way hands over its next change, and the answers at it are said
pub record HandsOne (port : ℕ) (a b : Process) : Type 0 where
  pub stays : gives_way ((situation_of a).courtesies port) ≡ false
  pub behind : Process
  pub hands : HandsOver port true a behind
  pub says : SaysAll port behind b

-- one, or none, as it gives way or has none
abbrev pub HandsIf : ℕ → Bool → Process → Process → Type 0
HandsIf port true a b = HandsOne port a b
HandsIf port false a b = Rests a b × KeepsNone (situation_of b) port

-- so many, one after another
abbrev pub HandsSome : ℕ → ℕ → Process → Process → Type 0
HandsSome zero port a b = b ≡ a
HandsSome (suc n) port a b = (m : Process) × HandsSome n port a m × HandsOne port m b

-- as many as the port can
pub record HandsMany (port : ℕ) (a b : Process) : Type 0 where
  pub count : ℕ
  pub behind : Process
  pub hands : HandsSome count port a behind
  pub rests : Rests behind b
  pub none : KeepsNone (situation_of b) port

-- no change is with the node, and one waits
abbrev pub has_next : Option Numbered → List Numbered → Bool
has_next None (change ∷ changes) = true
has_next None [] = false
has_next (Some current) changes = false

abbrev pub is_free : Port → Bool
is_free port = has_next port.current port.waiting

-- A port of which none is with the node and one waits looks at the lock of that one's group, and then hands over. Of any other nothing is done.
abbrev pub HandsWhere : Bool → ℕ → Bool → Process → Process → Type 0
HandsWhere true port is_tick a b = (seen : Seen) × (m : Process) × Makes (Looked port seen is_tick) a m × HandsMany port m b
HandsWhere false port is_tick a b = b ≡ a

-- The answers at a port are said, and it hands over.
pub record HandsAt (port : ℕ) (is_tick : Bool) (a b : Process) : Type 0 where
  pub behind : Process
  pub says : SaysAll port a behind
  pub hands : HandsWhere (is_free ((situation_of behind).ports port)) port is_tick behind b

-- each of the first so many ports does, one after another
abbrev pub HandsUpTo : ℕ → Bool → Process → Process → Type 0
HandsUpTo zero is_tick a b = b ≡ a
HandsUpTo (suc port) is_tick a b = (m : Process) × HandsUpTo port is_tick a m × HandsAt port is_tick m b

-- ---- all that follows

-- Answers are said. Then each denied change has its turn, and then each port. The rest tells what there is.
pub record Serves (is_tick : Bool) (a b : Process) : Type 0 where
  pub before : Process
  pub works : Works a before
  pub said : NoneUnsaid before
  pub tried : Process
  pub tries : RetriesAll is_tick before tried
  pub handed : Process
  pub hands : HandsUpTo (setting_of tried).ports is_tick tried handed
  pub rest : Works handed b

-- All packets are taken, then the ports are served, and then bytes go out.
pub record Attends (is_tick : Bool) (a b : Process) : Type 0 where
  pub before : Process
  pub works : Works a before
  pub taken : NoneComes before
  pub behind : Process
  pub serves : Serves is_tick before behind
  pub rest : Works behind b

-- A body is heard, in its order: it is logged, and what it asks for is done. Then comes what follows; a tick is told there.
pub record HearsInTurn (body : List ℕ) (a b : Process) : Type 0 where
  pub steps : List Step
  pub deeds : deeds_of steps ≡ Read body ∷ heeded (body_of (whom_of a) body) body
  pub heeds : Process
  pub goes : Goes steps a heeds
  pub attends : Attends (is_tick (body_of (whom_of a) body)) heeds b
