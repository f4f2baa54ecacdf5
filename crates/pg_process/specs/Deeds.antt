-- What a process does, one thing after another: what each makes of what it keeps, what it says, and what is logged of it.
use Rattle.std.specs.Prelude.{◌≡◌, ◌⊎◌, ◌≤◌, ◌+◌, ◌-◌, ◌^◌, ℕ, min, Bool, true, false, take, length, List, [], ◌∷◌, ◌++◌, Option, Some, None, Result, Err, nat_le}
use Rattle.pg_term.specs.declared.pid.Pid.{Pid}
use Rattle.pg_term.specs.declared.term.Term.{Term}
use Rattle.pg_term.specs.declared.term.Term.TheVariants.{Atom as Word}
use Rattle.pg_node.specs.PgGroup.Ended.{IsEndedCount}
use Rattle.pg_node.specs.Bytes.{damages, marked, passed}
use Rattle.pg_node.specs.Links.{Link, at_link, with_fed, without_front}
use Rattle.pg_node.specs.Nodes.{sent_out, step_link}
use Rattle.pg_node.specs.PgNodeOpens.Places.{name_at, whole_in}
use Rattle.pg_node.specs.PgNodeState.NodeFault.{node_number_of}
use Rattle.pg_node.specs.PgNodeState.States.{left_at}
use Rattle.pg_node.specs.PgNodeState.declared.state.fault.NodeFault.{NodeFault}
use Rattle.pg_node.specs.PgStep.Commands.{Reads}
use Rattle.pg_node.specs.PgStep.Faults.{refusal_number_of}
use Rattle.pg_node.specs.PgStep.Step.{Issue, Retry, TimedTurn, step_act}
use Rattle.pg_node.specs.PgStep.declared.answer.Answer.{Answer}
use Rattle.pg_node.specs.PgStep.declared.answer.Reply.{Reply}
use Rattle.pg_node.specs.PgStep.declared.answer.Reply.TheVariants as replies
use Rattle.pg_node.specs.PgStep.declared.command.Command.{Command}
use Rattle.pg_node.specs.PgStep.declared.command.Command.TheVariants.{Join}
use Rattle.pg_node.specs.PgStep.declared.refusal.Refusal.{Refusal}
use Rattle.pg_node_process.specs.declared.desk.Numbered.{Numbered}
use Rattle.pg_node_process.specs.declared.retries.Seen.{Seen}
use Rattle.pg_node_process.specs.Desks.{Answered as Closed, Changing, Handed as Opened, counted, next_number, port_after, with_answer}
use Rattle.pg_node_process.specs.Logs.{Entry, Read as Logged, Tried as LoggedTrial, Handed as LoggedHand}
use Rattle.pg_node_process.specs.Mirrors.{TellsTable, no_groups}
use Rattle.pg_node_process.specs.Outputs.{Output, Bytes, Clock, Denied as DeniedOutput, Formed as FormedOutput, Said, IsUntellable, untold}
use Rattle.pg_node_process.specs.Retries.{after_answer, after_look, after_share, after_trial}
use Rattle.pg_node_requests.specs.Replies.{bad_request_term, has_ended_term, many_ended_term, numbered_term, old_clock_term, pair, refused_term, reply_term}
use Rattle.pg_node_run.specs.Acts.{Act, ActLeads, Did, Given, Took as TookPacket}
use Rattle.pg_process.specs.Locks.{IsDenied, is_formed, seen_of}
use Rattle.pg_process.specs.Mirrors.{TellsAct}
use Rattle.pg_process.specs.declared.process.Told.{Told}
use Rattle.pg_process.specs.Situations.{Setting, Situation, at_place, own_of, table_of}

-- ---- what is done

pub data Deed : Type 0 where
  -- a body came, and is logged
  Read : (body : List ℕ) → Deed
  -- the groups that the first body brought are told to a host that mirrors the table
  Brought : Deed
  -- a body that asks for nothing is told of; the clock is said; another node was denied the lock of a group of a port
  Blamed : Deed
  Timed : Deed
  Shared : (port : ℕ) → Deed
  -- a query is answered; a change waits, or is refused where too many do
  Asked : (port : ℕ) → Command → Deed
  Queued : (port : ℕ) → Command → Deed
  -- bytes of a peer go in; a packet is taken of them; a fault of them is told
  Fed : (peer : ℕ) → (bytes : List ℕ) → Deed
  Took : (peer : ℕ) → Act → Deed
  Broke : (peer : ℕ) → NodeFault → Deed
  -- the next change of a port is handed over to the node, which refuses it or not
  Handed : (port : ℕ) → Act → Deed
  Declined : (port : ℕ) → Refusal → Deed
  -- a port looks at the lock of its group, at a tick or between two; its change is tried again; it is told to be denied its lock
  Looked : (port : ℕ) → Seen → (is_tick : Bool) → Deed
  Tried : (port : ℕ) → Act → Deed
  Denied : (port : ℕ) → Deed
  -- the first answer at a port is said
  Answered : (port : ℕ) → Answer → Deed
  -- that the node is formed is said
  Formed : Deed
  -- it is told that the clock is old, and that many processes have ended
  Aged : Deed
  Crowded : (count : ℕ) → Deed
  -- bytes for a peer go out
  Sent : (peer : ℕ) → (bytes : List ℕ) → Deed

-- what is logged of it
abbrev pub logged : Deed → List Entry
logged (Read body) = Logged body ∷ []
logged (Handed port act) = LoggedHand (port + 1) ∷ []
logged (Declined port refusal) = LoggedHand (port + 1) ∷ []
logged (Tried port act) = LoggedTrial (port + 1) ∷ []
logged deed = []

-- ---- what is said

-- a notice, where a frame holds it
abbrev pub Tells : Term → List Output → Type 0
Tells term said = (said ≡ Said term ∷ []) ⊎ (IsUntellable term × (said ≡ []))

-- a reply, or, where no frame holds it, that it is refused
abbrev pub IsReply : Setting → ℕ → ℕ → Term → List Output → Type 0
IsReply set port number reply said =
    (said ≡ Said (numbered_term (own_of set) (port + 1) number reply) ∷ [])
    ⊎ (IsUntellable (numbered_term (own_of set) (port + 1) number reply) × (said ≡ untold (own_of set) (port + 1) number reply ∷ []))

-- {{refused, N}, Node}: what is told of the bytes of a peer
abbrev pub fault_term : List ℕ → NodeFault → Term
fault_term peer fault = pair (refused_term (node_number_of fault)) (Word peer)

-- from this clock on it is old, and so many ended processes are many
abbrev pub OLD_CLOCK : ℕ
OLD_CLOCK = 2 ^ 29

abbrev pub MANY_ENDED : ℕ
MANY_ENDED = 1000000

-- the number of the change that is with the node
abbrev pub number_of : Option Numbered → ℕ
number_of None = 0
number_of (Some change) = change.number

-- ---- what it makes of what is kept

abbrev pub next_count : ℕ → ℕ
next_count n = min (n + 1) (2 ^ 64 - 1)

-- a query is counted, and answered by the table as it is
pub record Asks (set : Setting) (a : Situation) (port : ℕ) (command : Command) (said : List Output) (b : Situation) : Type 0 where
  pub reply : Reply
  pub reads : Reads (own_of set) command a.node.state.state.table reply
  pub says : IsReply set port (next_number (a.ports port)) (reply_term reply) said
  pub after : b ≡ record a { ports = at_place port counted a.ports }

-- where 1,024 changes wait one more is refused by 22
abbrev pub SaysFull : Bool → Setting → ℕ → ℕ → List Output → Type 0
SaysFull true set port number said = IsReply set port number (refused_term 22) said
SaysFull false set port number said = said ≡ []

-- a change waits for its turn, or is refused
pub record Queues (set : Setting) (a : Situation) (port : ℕ) (command : Command) (said : List Output) (b : Situation) : Type 0 where
  pub says : SaysFull (nat_le 1024 (length (a.ports port).waiting)) set port (next_number (a.ports port)) said
  pub after : b ≡ record a { ports = at_place port (λ p. port_after p (Changing command)) a.ports }

-- bytes go in behind those that came before, but for those of a damaged link and of a lost peer
abbrev pub fed_by : Bool → Bool → List ℕ → Link → Link
fed_by true damaged bytes link = link
fed_by false true bytes link = link
fed_by false false bytes link = with_fed link bytes

abbrev pub is_lost : Setting → Situation → ℕ → Bool
is_lost set a peer = a.node.state.state.lost (name_at set.names (peer + 1))

-- nothing but the node, its links and what is said once is another
pub record AsideSame (a b : Situation) : Type 0 where
  pub ports : b.ports ≡ a.ports
  pub courtesies : b.courtesies ≡ a.courtesies
  pub came : b.came ≡ a.came

-- that the node is formed, where it is, and that was not said
abbrev pub formed_said : (formed told : Bool) → List Output
formed_said true false = FormedOutput ∷ []
formed_said formed told = []

abbrev pub told_formed : Bool → Told → Told
told_formed true told = record told { formed = true }
told_formed false told = told

-- What an act makes of the table is told, and behind that at once that the node is formed, where it now is.
pub record SaysTaken (set : Setting) (act : Act) (a b : Situation) (said : List Output) : Type 0 where
  pub table : List Output
  pub tells : TellsAct a.told.mirrored act (table_of a) (table_of b) table
  pub says : said ≡ table ++ formed_said (is_formed set b) a.told.formed
  pub told : b.told ≡ told_formed (is_formed set b) a.told

abbrev pub IsOf : ℕ → Given → Type 0
IsOf peer (TookPacket p x) = p ≡ peer
IsOf peer given = ⊥

-- a packet of a peer is taken, in its frame
pub record Takes (set : Setting) (a : Situation) (peer : ℕ) (act : Act) (b : Situation) : Type 0 where
  pub leads : ActLeads set.names set.ports a.node act b.node
  pub given : IsOf peer act.input
  pub sound : (a.links peer).damaged ≡ false
  pub taken : (a.links peer).unread ≡ act.came ++ (b.links peer).unread
  pub links : (place : ℕ) → b.links place ≡ at_link peer passed (sent_out act.sends a.links) place
  pub aside : AsideSame a b

-- what the step and the links tell of the next packet of a peer
abbrev pub told_next : Setting → Situation → ℕ → Result (Option TimedTurn) NodeFault
told_next set a peer = step_link (whole_in set.names) (name_at set.names (peer + 1)) (a.links peer) a.node.state

-- a fault damages the link of a peer
pub record Breaks (set : Setting) (a : Situation) (peer : ℕ) (fault : NodeFault) (said : List Output) (b : Situation) : Type 0 where
  pub told : told_next set a peer ≡ Err fault
  pub harms : damages fault ≡ true
  pub says : Tells (fault_term (name_at set.names (peer + 1)) fault) said
  pub after : b ≡ record a { links = at_link peer (λ link. marked link fault) a.links }

-- an action of the node, by which nothing is taken of a peer
pub record Acts (set : Setting) (a : Situation) (act : Act) (b : Situation) : Type 0 where
  pub leads : ActLeads set.names set.ports a.node act b.node
  pub links : (place : ℕ) → b.links place ≡ sent_out act.sends a.links place

-- the change that waited for longest is with the node
pub record Hands (set : Setting) (a : Situation) (port : ℕ) (act : Act) (b : Situation) : Type 0 where
  pub change : Numbered
  pub next : (b.ports port).current ≡ Some change
  pub given : act.input ≡ Did (Issue port change.command)
  pub acts : Acts set a act b
  pub ports : b.ports ≡ at_place port (λ p. port_after p Opened) a.ports
  pub free : (a.ports port).current ≡ None
  pub courtesies : b.courtesies ≡ a.courtesies
  pub came : b.came ≡ a.came
  pub told : b.told ≡ a.told

-- it is refused by the node, and that is its answer
pub record Declines (set : Setting) (a : Situation) (port : ℕ) (refusal : Refusal) (said : List Output) (b : Situation) : Type 0 where
  pub change : Numbered
  pub next : (port_after (a.ports port) Opened).current ≡ Some change
  pub free : (a.ports port).current ≡ None
  pub told : step_act (whole_in set.names) set.ports (Issue port change.command) a.node.state ≡ Err refusal
  pub says : IsReply set port change.number (refused_term (refusal_number_of refusal)) said
  pub after : b ≡ record a { ports = at_place port (λ p. port_after (port_after p Opened) Closed) a.ports }

-- a denied change is tried again
pub record Tries (set : Setting) (a : Situation) (port : ℕ) (act : Act) (b : Situation) : Type 0 where
  pub number : ℕ
  pub given : act.input ≡ Did (Retry (record { port = port; number = number }))
  pub acts : Acts set a act b
  pub courtesies : b.courtesies ≡ at_place port after_trial a.courtesies
  pub ports : b.ports ≡ a.ports
  pub came : b.came ≡ a.came
  pub told : b.told ≡ a.told

-- the process of a join has ended
abbrev pub join_of_ended : Command → (Pid → Bool) → Bool
join_of_ended (Join name pid) ended = ended pid
join_of_ended command ended = false

-- whether ok is the answer to a join of a process that has ended, which adds nothing
abbrev pub joins_ended : Option Numbered → Reply → (Pid → Bool) → Bool
joins_ended (Some change) replies.Ok ended = join_of_ended change.command ended
joins_ended change reply ended = false

abbrev pub SaysEnded : Bool → Term → List Output → Type 0
SaysEnded true term said = Tells term said
SaysEnded false term said = said ≡ []

-- The reply to a request is said, and before it, where that is so, that its process has ended.
pub record SaysBoth (set : Setting) (port number : ℕ) (has_ended : Bool) (reply : Term) (said : List Output) : Type 0 where
  pub notice : List Output
  pub notices : SaysEnded has_ended (has_ended_term (own_of set) (port + 1) number) notice
  pub answer : List Output
  pub replies : IsReply set port number reply answer
  pub says : said ≡ notice ++ answer

-- an answer is said; before that to a join of a process that has ended it is said that it has
abbrev pub SaysAnswer : Setting → Situation → ℕ → Reply → List Output → Type 0
SaysAnswer set a port reply said =
    SaysBoth set port (number_of (a.ports port).current) (joins_ended (a.ports port).current reply a.node.state.state.ended) (reply_term reply) said

-- the first answer at a port is said under the number of the change that is with the node, and forgotten
pub record Answers (set : Setting) (a : Situation) (port : ℕ) (answer : Answer) (said : List Output) (b : Situation) : Type 0 where
  pub later : List Answer
  pub first : a.node.answers port ≡ answer ∷ later
  pub says : SaysAnswer set a port answer.reply said
  pub after : b ≡ record a {
    node = record a.node { answers = left_at port 1 a.node.answers };
    ports = at_place port with_answer a.ports;
    courtesies = at_place port after_answer a.courtesies;
  }

-- so many bytes for a peer go out
pub record Sends (a : Situation) (peer : ℕ) (bytes : List ℕ) (said : List Output) (b : Situation) : Type 0 where
  pub first : take (length bytes) (a.links peer).outbox ≡ bytes
  pub says : said ≡ Bytes peer bytes ∷ []
  pub after : b ≡ record a { links = at_link peer (λ link. without_front link (length bytes)) a.links }

-- What each deed makes of what is kept, and what it says.
abbrev pub Does : Setting → Situation → Deed → List Output → Situation → Type 0
Does set a (Read body) said b = (said ≡ []) × (b ≡ record a { came = next_count a.came })
Does set a Brought said b = TellsTable a.told.mirrored no_groups (table_of a) said × (b ≡ a)
Does set a Blamed said b = Tells (bad_request_term a.came) said × (b ≡ a)
Does set a Timed said b = (said ≡ Clock a.node.state.clock ∷ []) × (b ≡ a)
Does set a (Shared port) said b = (said ≡ []) × (b ≡ record a { courtesies = at_place port after_share a.courtesies })
Does set a (Asked port command) said b = Asks set a port command said b
Does set a (Queued port command) said b = Queues set a port command said b
Does set a (Fed peer bytes) said b = (said ≡ []) × (b ≡ record a { links = at_link peer (fed_by (is_lost set a peer) (a.links peer).damaged bytes) a.links })
Does set a (Took peer act) said b = SaysTaken set act a b said × Takes set a peer act b
Does set a (Broke peer fault) said b = Breaks set a peer fault said b
Does set a (Handed port act) said b = TellsAct a.told.mirrored act (table_of a) (table_of b) said × Hands set a port act b
Does set a (Declined port refusal) said b = Declines set a port refusal said b
Does set a (Looked port seen is_tick) said b = (said ≡ []) × (seen ≡ seen_of set a port) × (b ≡ record a { courtesies = at_place port (after_look seen is_tick) a.courtesies })
Does set a (Tried port act) said b = TellsAct a.told.mirrored act (table_of a) (table_of b) said × Tries set a port act b
Does set a (Denied port) said b = (said ≡ DeniedOutput (port + 1) ∷ []) × IsDenied set a port × ((a.courtesies port).is_told ≡ false) × (b ≡ record a { courtesies = at_place port (λ c. record c { is_told = true }) a.courtesies })
Does set a (Answered port answer) said b = Answers set a port answer said b
Does set a Formed said b = (said ≡ FormedOutput ∷ []) × (is_formed set a ≡ true) × (a.told.formed ≡ false) × (b ≡ record a { told = record a.told { formed = true } })
Does set a Aged said b = Tells (old_clock_term a.node.state.clock) said × (OLD_CLOCK ≤ a.node.state.clock) × (a.told.old_clock ≡ false) × (b ≡ record a { told = record a.told { old_clock = true } })
Does set a (Crowded count) said b =
    Tells (many_ended_term count) said × IsEndedCount a.node.state.state.ended count × (MANY_ENDED ≤ count) × (a.told.many_ended ≡ false)
    × (b ≡ record a { told = record a.told { many_ended = true } })
Does set a (Sent peer bytes) said b = Sends a peer bytes said b
