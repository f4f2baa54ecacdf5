-- What a whole chain of deeds comes to.
use Rattle.std.specs.Prelude.{◌≡◌, ℕ, nat_eq, Bool, true, false, cond, length, List, [], ◌∷◌, ◌++◌, Option, Some, None, ⊤}
use Rattle.std.specs.List.{flat_map}
use Rattle.pg_node.specs.Links.{Link}
use Rattle.pg_node.specs.PgStep.Commands.{Answers}
use Rattle.pg_node.specs.PgStep.Machines.Clocked.{Timed}
use Rattle.pg_node.specs.PgStep.Nodes.{Node}
use Rattle.pg_node.specs.PgStep.State.{Response, State}
use Rattle.pg_node.specs.PgStep.Step.{Issue}
use Rattle.pg_node.specs.PgStep.declared.answer.Answer.{Answer}
use Rattle.pg_node.specs.PgStep.declared.answer.Reply.{Reply}
use Rattle.pg_node.specs.PgStep.declared.command.Command.{Command}
use Rattle.pg_node.specs.PgStep.declared.command.OpId.{OpId}
use Rattle.pg_node_process.specs.declared.desk.Numbered.{Numbered}
use Rattle.pg_node_process.specs.Desks.{Answered as Closed, Asked as Counted, Changing, Handed as Opened, Happening, Port, all_out, port_after, port_at_last}
use Rattle.pg_node_run.specs.Acts.{Act, ActLeads, Did, Given, frames_sent, frames_taken}
use Rattle.pg_process.specs.Chains.{AllDo, Step}
use Rattle.pg_process.specs.Deeds.{Answered, Asked, Declined, Deed, Fed, Handed, Queued, Sent, Took, Tried}
use Rattle.pg_process.specs.Situations.{Setting, Situation, own_of}

-- ---- what the node did

-- the act of a deed, where the node made a step
abbrev pub act_of : Deed → List Act
act_of (Took peer act) = act ∷ []
act_of (Handed port act) = act ∷ []
act_of (Tried port act) = act ∷ []
act_of deed = []

-- the acts of these deeds, in their order
abbrev pub acts_of : List Step → List Act
acts_of steps = flat_map (λ step. act_of step.deed) steps

-- An act leads the node with these names and ports from one state to another, whatever answers were kept.
pub record StateLeads (names : List Node) (ports : ℕ) (s : Timed State) (act : Act) (t : Timed State) : Type 0 where
  pub before : ℕ → List Answer
  pub after : ℕ → List Answer
  pub leads : ActLeads names ports (record { state = s; answers = before }) act (record { state = t; answers = after })

-- the acts, one after another
abbrev pub StatesLead : List Node → ℕ → Timed State → List Act → Timed State → Type 0
StatesLead names ports s [] t = t ≡ s
StatesLead names ports s (act ∷ acts) t = (m : Timed State) × StateLeads names ports s act m × StatesLead names ports m acts t

-- ---- bytes

-- what is there, where its place is this one
abbrev pub at_this : {A : Type 0} → ℕ → ℕ → List A → List A
at_this this place things = cond (nat_eq place this) things []

-- the bytes of a peer that come by a deed, and those that go out to it
abbrev pub fed_of : ℕ → Deed → List ℕ
fed_of this (Fed peer bytes) = at_this this peer bytes
fed_of this deed = []

abbrev pub sent_of : ℕ → Deed → List ℕ
sent_of this (Sent peer bytes) = at_this this peer bytes
sent_of this deed = []

-- the same of all deeds, in their order
abbrev pub fed_in : ℕ → List Step → List ℕ
fed_in peer steps = flat_map (λ step. fed_of peer step.deed) steps

abbrev pub sent_in : ℕ → List Step → List ℕ
sent_in peer steps = flat_map (λ step. sent_of peer step.deed) steps

-- Of the bytes that came of a peer the first were let in: what was there to be read, then these, are the frames that were taken, then what is there now. The later
-- ones came where the link was damaged, and do nothing. Into a link that was damaged before none are let, nothing is taken of it, and it stays damaged.
pub record BytesCame (fed frames : List ℕ) (a b : Link) : Type 0 where
  pub first : List ℕ
  pub later : List ℕ
  pub parts : fed ≡ first ++ later
  pub taken : a.unread ++ first ≡ frames ++ b.unread
  pub sound : b.damaged ≡ false → later ≡ []
  pub damaged : a.damaged ≡ true → (first ≡ []) × (frames ≡ []) × (b.damaged ≡ true)

-- What waited for a peer, then the frames for it, are the bytes that went out, then what waits now.
abbrev pub BytesWent : List ℕ → List ℕ → Link → Link → Type 0
BytesWent frames sent a b = a.outbox ++ frames ≡ sent ++ b.outbox

-- ---- answers

-- what an act gave at a port: an answer, or none
abbrev pub GivesAt : Node → ℕ → Option (OpId × Response) → List Answer → Type 0
GivesAt own port None given = given ≡ []
GivesAt own port (Some gave) given = (reply : Reply) × Answers own gave.1 reply × (given ≡ at_this port gave.0.port (record { number = gave.0.number; reply = reply } ∷ []))

-- what these acts gave there, in their order
abbrev pub GiveAt : Node → ℕ → List Act → List Answer → Type 0
GiveAt own port [] given = given ≡ []
GiveAt own port (act ∷ acts) given =
    (first : List Answer) × (later : List Answer) × (given ≡ first ++ later) × GivesAt own port act.turn.reported.gave first × GiveAt own port acts later

-- the answer that is said at a port by a deed
abbrev pub said_of : ℕ → Deed → List Answer
said_of this (Answered port answer) = at_this this port (answer ∷ [])
said_of this deed = []

abbrev pub answers_in : ℕ → List Step → List Answer
answers_in port steps = flat_map (λ step. said_of port step.deed) steps

-- The answers that were kept at a port, then those that the acts gave there, are those that were said, then those that are kept now.
pub record AnswersGo (own : Node) (port : ℕ) (acts : List Act) (said before after : List Answer) : Type 0 where
  pub given : List Answer
  pub gave : GiveAt own port acts given
  pub kept : before ++ given ≡ said ++ after

-- ---- requests

-- What happens at a port by a deed. A change that the node refuses is handed over, and answered by that.
abbrev pub happened_of : ℕ → Deed → List Happening
happened_of this (Asked port command) = at_this this port (Counted ∷ [])
happened_of this (Queued port command) = at_this this port (Changing command ∷ [])
happened_of this (Handed port act) = at_this this port (Opened ∷ [])
happened_of this (Declined port refusal) = at_this this port (Opened ∷ Closed ∷ [])
happened_of this (Answered port answer) = at_this this port (Closed ∷ [])
happened_of this deed = []

abbrev pub happened_in : ℕ → List Step → List Happening
happened_in port steps = flat_map (λ step. happened_of port step.deed) steps

-- where a change is handed over none is with the node
abbrev pub IsFree : Port → Happening → Type 0
IsFree port Opened = port.current ≡ None
IsFree port happening = ⊤

-- each change is answered before the next is handed over
abbrev pub AreInTurn : Port → List Happening → Type 0
AreInTurn port [] = ⊤
AreInTurn port (happening ∷ later) = IsFree port happening × AreInTurn (port_after port happening) later

-- A port comes from one to the other by what happens there, one thing after another. What that is of a port where nothing came before, `ChangesInTurn` of the same list says.
pub record PortGoes (happened : List Happening) (a b : Port) : Type 0 where
  pub last : b ≡ port_at_last a happened
  pub turns : AreInTurn a happened

-- whether the node takes the change that a deed hands over at a port, or refuses it
abbrev pub hands_of : ℕ → Deed → List Bool
hands_of this (Handed port act) = at_this this port (true ∷ [])
hands_of this (Declined port refusal) = at_this this port (false ∷ [])
hands_of this deed = []

abbrev pub hands_in : ℕ → List Step → List Bool
hands_in port steps = flat_map (λ step. hands_of port step.deed) steps

-- the commands of the changes that it takes
abbrev pub taken_of : List Bool → List Numbered → List Command
taken_of [] changes = []
taken_of (hand ∷ hands) [] = []
taken_of (hand ∷ hands) (change ∷ changes) = cond hand (change.command ∷ []) [] ++ taken_of hands changes

-- the command that the node is issued at a port by an act
abbrev pub issued_of : ℕ → Given → List Command
issued_of this (Did (Issue port command)) = at_this this port (command ∷ [])
issued_of this given = []

abbrev pub issued_in : ℕ → List Act → List Command
issued_in port acts = flat_map (λ act. issued_of port act.input) acts

-- Each deed that hands over has its change, in the order in which a port hands them over, and the node is issued the commands of those that it takes, and no others.
pub record HandsGo (hands : List Bool) (commands : List Command) (changes : List Numbered) : Type 0 where
  pub each : length hands ≡ length changes
  pub issued : commands ≡ taken_of hands changes

-- ---- all of it

-- The acts lead the node from its first state to its last, and see no loss. Of each peer, the bytes that come are the frames that are taken, and the frames that are
-- sent are the bytes that go out. At each port, the answers that are given are said, requests go in turn, and the changes handed over are what the node is issued.
pub record Accounts (set : Setting) (a : Situation) (steps : List Step) (b : Situation) : Type 0 where
  pub acts : StatesLead set.names set.ports a.node.state (acts_of steps) b.node.state
  pub lost : b.node.state.state.lost ≡ a.node.state.state.lost
  pub came : (peer : ℕ) → BytesCame (fed_in peer steps) (frames_taken peer (acts_of steps)) (a.links peer) (b.links peer)
  pub went : (peer : ℕ) → BytesWent (frames_sent peer (acts_of steps)) (sent_in peer steps) (a.links peer) (b.links peer)
  pub answers : (port : ℕ) → AnswersGo (own_of set) port (acts_of steps) (answers_in port steps) (a.node.answers port) (b.node.answers port)
  pub ports : (port : ℕ) → PortGoes (happened_in port steps) (a.ports port) (b.ports port)
  pub hands : (port : ℕ) → HandsGo (hands_in port steps) (issued_in port (acts_of steps)) (all_out (a.ports port) (happened_in port steps))

-- the node has seen no loss
abbrev pub LostNone : Situation → Type 0
LostNone a = (node : Node) → a.node.state.state.lost node ≡ false

-- all of it holds of each chain of deeds, from where the node has seen no loss
abbrev pub ChainsAccount : Type 0
ChainsAccount = (set : Setting) (a : Situation) (steps : List Step) (b : Situation) → AllDo set a steps b → LostNone a → Accounts set a steps b
