-- What a service makes of its input: the replies at each port, and the notices.
use Rattle.std.specs.Prelude.{◌≡◌, ◌⊎◌, ◌<◌, ◌≤◌, ◌+◌, ℕ, zero, suc, Bool, true, false, cond, nat_eq, nat_lt, List, []}
use Rattle.std.specs.Prelude.{◌∷◌, ◌++◌, ⊤, Option, Some, None, if◌then◌else◌, get_or, length, map, set}
use Rattle.std.specs.Io.KnownBytes.{Appends}
use Rattle.std.specs.List.{All, flat_map}
use Rattle.pg_cluster.specs.PgNodeRun.declared.port.Asked.{Asked}
use Rattle.pg_cluster.specs.PgNodeRun.declared.port.Client.{Client}
use Rattle.pg_cluster.specs.PgNodeRun.Ports.{polled, submitted}
use Rattle.pg_cluster.specs.PgStep.Config.{Config}
use Rattle.pg_cluster.specs.PgStep.declared.answer.Answer.{Answer}
use Rattle.pg_cluster.specs.PgStep.declared.command.Command.{Command}
use Rattle.pg_term.specs.declared.term.Term.{Term}
use Rattle.pg_node_requests.specs.declared.input.Input.{Input}
use Rattle.pg_node_requests.specs.declared.input.Input.TheVariants as forms
use Rattle.pg_node_requests.specs.Replies.{bad_request_term, lost_term, node_lost_term}
use Rattle.pg_node_requests.specs.Replies.{numbered_term, refused_term, reply_term, unknown_term}
use Rattle.pg_talk.specs.declared.service.ending.Ending.{Ending}
use Rattle.pg_talk.specs.declared.service.ending.Ending.TheVariants.{Lost, Open, Unasked}
use Rattle.pg_talk.specs.Asking.{AlternateWithAnswers}
use Rattle.pg_talk.specs.Frames.{framed, IsUntellable, untellable_number}

-- ---- ports

-- a port: the place and the name of its node, and its number there, from 1
pub record PortName : Type 0 where
  pub node : ℕ
  pub name : List ℕ
  pub number : ℕ

-- so many ports of a node, from this number on
abbrev pub ports_from : ℕ → ℕ → List ℕ → ℕ → List PortName
ports_from first node name zero = []
ports_from first node name (suc count) = record { node = node; name = name; number = first } ∷ ports_from (suc first) node name count

-- the ports of all nodes, those of the first node first, which is at this place: so the clients have their places
abbrev pub ports_in : ℕ → Config → List PortName
ports_in place [] = []
ports_in place (start ∷ starts) = ports_from 1 place start.name start.ports ++ ports_in (suc place) starts

-- ---- what is written

-- what stands in a frame, and the client whose reply it is; a notice is no client's
pub record Written : Type 0 where
  pub term : Term
  pub client : Option ℕ

-- the bytes of frames
abbrev pub bytes_of : List Written → List ℕ
bytes_of frames = flat_map (λ frame. framed frame.term) frames

abbrev pub is_to : ℕ → Option ℕ → Bool
is_to client None = false
is_to client (Some other) = nat_eq other client

abbrev pub is_notice : Option ℕ → Bool
is_notice None = true
is_notice (Some client) = false

-- the replies to a client, in their order
abbrev pub replies_to : ℕ → List Written → List Term
replies_to client frames = flat_map (λ frame. cond (is_to client frame.client) (frame.term ∷ []) []) frames

-- the notices
abbrev pub notices_in : List Written → List Term
notices_in frames = flat_map (λ frame. cond (is_notice frame.client) (frame.term ∷ []) []) frames

-- it is a notice, or a reply to one of so many clients
abbrev pub IsAddressed : ℕ → Option ℕ → Type 0
IsAddressed count None = ⊤
IsAddressed count (Some client) = client < count

-- ---- the input

-- a request, if it goes to the port of this client
abbrev pub request_to : ℕ → Input → List Command
request_to client (forms.Ask other command) = cond (nat_eq other client) (command ∷ []) []
request_to client (forms.Lose node) = []
request_to client forms.Bad = []
request_to client forms.End = []
request_to client (forms.Broken number) = []

-- the requests of a client, in their order
abbrev pub requests_to : ℕ → List Input → List Command
requests_to client inputs = flat_map (request_to client) inputs

-- what inputs came to: how many bodies they are, which nodes were lost, which notices are due, and whether the input is over, and by
-- which fault
pub record InputsSeen : Type 0 where
  pub bodies : ℕ
  pub lost : List Bool
  pub notices : List Term
  pub over : Option (Option ℕ)

-- whether an input was over because a clock was full
abbrev pub is_full_end : Option (Option ℕ) → Bool
is_full_end None = false
is_full_end (Some None) = false
is_full_end (Some (Some number)) = nat_eq number 30

-- how it is over, where it is over so: once a clock was full, for that reason
abbrev pub over_by : Option (Option ℕ) → Option ℕ → Option (Option ℕ)
over_by over fault = if is_full_end over then over else Some fault

-- before the first
abbrev pub none_told : Config → InputsSeen
none_told given = record { bodies = 0; lost = map (λ start. false) given; notices = []; over = None }

-- a body that asks for nothing is told by its number
abbrev pub tell_bad : InputsSeen → InputsSeen
tell_bad told = record told { bodies = told.bodies + 1; notices = told.notices ++ bad_request_term (told.bodies + 1) ∷ [] }

-- a node is lost, which is told by its name
abbrev pub tell_lost : Config → ℕ → InputsSeen → InputsSeen
tell_lost given node told = record told {
  bodies = told.bodies + 1;
  lost = set told.lost node true;
  notices = told.notices ++ lost_term (get_or (map (λ start. start.name) given) node []) ∷ [];
}

-- the next input: a request to a port that is not there asks for nothing, as does the loss of a node that is not there any more
abbrev pub tell_next : Config → InputsSeen → Input → InputsSeen
tell_next given told (forms.Ask client command) = if nat_lt client (length (ports_in 0 given)) then record told { bodies = told.bodies + 1 } else tell_bad told
tell_next given told (forms.Lose node) = if get_or told.lost node true then tell_bad told else tell_lost given node told
tell_next given told forms.Bad = tell_bad told
tell_next given told forms.End = record told { over = over_by told.over None }
tell_next given told (forms.Broken number) = record told { over = over_by told.over (Some number) }

abbrev pub tell_on : Config → InputsSeen → List Input → InputsSeen
tell_on given told [] = told
tell_on given told (input ∷ inputs) = tell_on given (tell_next given told input) inputs

-- all inputs
abbrev pub told_by : Config → List Input → InputsSeen
told_by given inputs = tell_on given (none_told given) inputs

-- ---- one port

-- the commands that were handed over
abbrev pub commands_of : List Asked → List Command
commands_of asked = map (λ one. one.command) asked

-- what is told of why a request has no answer
abbrev pub ending_term : List ℕ → Ending → Term
ending_term name Lost = node_lost_term name
ending_term name Open = unknown_term 30
ending_term name Unasked = refused_term 30

-- what a port is told: the answers of its node, and then why the others have none
abbrev pub outcomes : List ℕ → List Answer → List Ending → List Term
outcomes name heard endings = map (λ answer. reply_term answer.reply) heard ++ map (ending_term name) endings

-- what is known at a port: whether its node was lost, and whether a clock was full
pub record Known : Type 0 where
  pub lost : Bool
  pub full : Bool

-- a request that was handed over, or not, has no answer for this reason
abbrev pub IsDue : Known → Bool → Ending → Type 0
IsDue known handed Lost = known.lost ≡ true
IsDue known handed Open = (known.full ≡ true) × (handed ≡ true)
IsDue known handed Unasked = (known.full ≡ true) × (handed ≡ false)

-- the term is this outcome under a number of the port; or, where no frame holds that, that it is refused by the number of that fault
abbrev pub IsReply : PortName → ℕ → Term → Term → Type 0
IsReply port number outcome term =
    (term ≡ numbered_term port.name port.number number outcome)
    ⊎ (IsUntellable (numbered_term port.name port.number number outcome)
    × (term ≡ numbered_term port.name port.number number (refused_term (untellable_number (numbered_term port.name port.number number outcome)))))

-- the replies are these outcomes, one for each, in their order, numbered from 1
pub record AreReplies (port : PortName) (told replies : List Term) : Type 0 where
  pub count : length replies ≡ length told
  pub each : (k : ℕ) (none : Term) → k < length told → IsReply port (k + 1) (get_or told k none) (get_or replies k none)

-- What was done with requests at a port, of which so many are still with its node, by what its client said and heard.
pub record IsServed (port : PortName) (known : Known) (requests : List Command) (with_node : ℕ) (said : List Asked) (heard : List Answer) (replies : List Term) : Type 0 where
  -- the first of them were handed over, in their order, each once all before it were answered; the others were refused
  pub refused : List Command
  pub handed : requests ≡ commands_of said ++ refused
  pub turns : AlternateWithAnswers said
  -- what the node answered was replied, in its order and once, and then of each other request why it has no answer
  pub endings : List Ending
  pub due : (k : ℕ) (none : Ending) → k < length endings → IsDue known (nat_lt (length heard + k) (length said)) (get_or endings k none)
  pub replied : AreReplies port (outcomes port.name heard endings) replies
  -- each of the others has its reply; none was refused for nothing
  pub each : length requests ≡ length replies + with_node
  pub few : length refused ≤ length endings
  pub under_way : length said ≤ length heard + 1

-- ---- all ports

-- what the client at a place said and heard; nothing where there is none
abbrev pub said_at : ℕ → List Client → List Asked
said_at client clients = get_or (map submitted clients) client []

abbrev pub heard_at : ℕ → List Client → List Answer
heard_at client clients = get_or (map polled clients) client []

abbrev pub is_lost_at : ℕ → List Bool → Bool
is_lost_at node lost = get_or lost node false

-- what is known at the ports of a node
abbrev pub known_at : ℕ → InputsSeen → Known
known_at node told = record { lost = is_lost_at node told.lost; full = is_full_end told.over }

-- What was written for all these inputs, by what the clients said and heard: frames, and nothing else. Each request has one reply at its port.
-- All other frames are the notices that are due.
pub record AllServed (given : Config) (inputs : List Input) (clients : List Client) (before after : Option (List ℕ)) : Type 0 where
  pub frames : List Written
  pub wrote : Appends before after (bytes_of frames)
  pub addressed : All (λ frame. IsAddressed (length (ports_in 0 given)) frame.client) frames
  pub notices : notices_in frames ≡ (told_by given inputs).notices
  pub ports : (client : ℕ) (none : PortName) → client < length (ports_in 0 given) → (port : PortName) → port ≡ get_or (ports_in 0 given) client none
      → IsServed port (known_at port.node (told_by given inputs)) (requests_to client inputs) 0 (said_at client clients) (heard_at client clients) (replies_to client frames)
