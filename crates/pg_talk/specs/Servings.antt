-- A service that runs, and what it made of its input so far.
use Rattle.std.specs.Prelude.{◌≡◌, ◌<◌, ℕ, Bool, true, false, List, [], ◌∷◌, ◌+◌}
use Rattle.std.specs.Prelude.{◌++◌, Option, Some, None, get_or, length, map, set}
use Rattle.std.specs.Io.KnownBytes.{Appends}
use Rattle.std.specs.List.{All, list_all}
use Rattle.pg_cluster.specs.declared.running.Running.{Running}
use Rattle.pg_cluster.specs.Running.{clients_in, config_in, losses_in, threads_in}
use Rattle.pg_cluster.specs.Threads.{Thread}
use Rattle.rand_pcg.specs.Lcg.{Lcg}
use Rattle.pg_cluster.specs.PgNodeRun.declared.port.Asked.{Asked}
use Rattle.pg_cluster.specs.PgNodeRun.declared.port.Client.{Client}
use Rattle.pg_cluster.specs.PgStep.Config.{Config}
use Rattle.pg_cluster.specs.PgStep.declared.answer.Answer.{Answer}
use Rattle.pg_cluster.specs.PgStep.declared.command.Command.{Command}
use Rattle.pg_term.specs.declared.term.Term.{Term}
use Rattle.pg_node_requests.specs.declared.input.Input.{Input}
use Rattle.pg_node_requests.specs.declared.input.Input.TheVariants.{Broken}
use Rattle.pg_node_requests.specs.Replies.{bad_request_term, lost_term}
use Rattle.pg_talk.specs.declared.service.desk.Desk.{Desk}
use Rattle.pg_talk.specs.declared.service.ending.Ending.{Ending}
use Rattle.pg_talk.specs.declared.service.serving.ServedNode.{ServedNode}
use Rattle.pg_talk.specs.declared.service.serving.Serving.{Serving}
use Rattle.pg_talk.specs.Conversations.{saturated}
use Rattle.pg_talk.specs.Desks.{is_idle, waiting_at}
use Rattle.pg_talk.specs.Frames.{framed, WritesReply}
use Rattle.pg_talk.specs.Written.{InputsSeen, IsAddressed, IsDue, IsServed, Known, PortName, Written, bytes_of}
use Rattle.pg_talk.specs.Written.{ending_term, heard_at, is_full_end, known_at, notices_in, ports_in, replies_to}
use Rattle.pg_talk.specs.Written.{requests_to, said_at, told_by}

-- ---- desks

-- the port of a desk
abbrev pub port_at : Desk → PortName
port_at desk = record { node = desk.node; name = desk.name; number = desk.port }

abbrev pub ports_of : List Desk → List PortName
ports_of desks = map port_at desks

-- whether a request of the client at a place is with its node
abbrev pub asked_at : ℕ → List Desk → Bool
asked_at client desks = get_or (map (λ desk. desk.is_asked) desks) client false

-- the place of its node
abbrev pub node_at : ℕ → List Desk → ℕ
node_at client desks = get_or (map (λ desk. desk.node) desks) client 0

-- how many requests are with the node
abbrev pub with_node : Bool → ℕ
with_node true = 1
with_node false = 0

-- nothing came to it
pub record IsNew (desk : Desk) : Type 0 where
  pub empty : waiting_at desk ≡ []
  pub idle : desk.is_asked ≡ false
  pub replied : desk.replied ≡ 0

-- one more request was replied to there, and none is with the node
abbrev pub replied_at : Desk → Desk
replied_at desk = record desk { is_asked = false; replied = saturated (desk.replied + 1) }

-- Of the requests that came to a port the first were taken up, and the others wait. Where a request was told to have no answer, none is with the node.
pub record IsKept (port : PortName) (known : Known) (requests waiting : List Command) (is_asked : Bool) (replied : ℕ) (said : List Asked) (heard : List Answer) (replies : List Term) : Type 0 where
  pub up : List Command
  pub line : requests ≡ up ++ waiting
  pub served : IsServed port known up (with_node is_asked) said heard replies
  pub count : replied ≡ saturated (length replies)
  pub closed : is_asked ≡ true → served.endings ≡ []

-- the same of a desk
abbrev pub IsKeptAt : InputsSeen → List Command → Desk → List Asked → List Answer → List Term → Type 0
IsKeptAt told requests desk said heard replies = IsKept (port_at desk) (known_at desk.node told) requests (waiting_at desk) desk.is_asked desk.replied said heard replies

-- and of all desks
abbrev pub AreDesksKept : InputsSeen → List Input → List Desk → List Client → List Written → Type 0
AreDesksKept told inputs desks clients frames = (client : ℕ) (none : Desk) → client < length desks
    → IsKeptAt told (requests_to client inputs) (get_or desks client none) (said_at client clients) (heard_at client clients) (replies_to client frames)

-- ---- a service

abbrev pub names_of : List ServedNode → List (List ℕ)
names_of nodes = map (λ node. node.name) nodes

-- which of the nodes are held for lost
abbrev pub known_lost : List ServedNode → List Bool
known_lost nodes = map (λ node. node.is_lost) nodes

abbrev pub is_known_lost : ℕ → List ServedNode → Bool
is_known_lost node nodes = get_or (known_lost nodes) node false

-- what is seen of a service: its cluster, the requests of each port, its nodes, how many bodies came, and whether the input is over
pub record View : Type 0 where
  pub running : Running
  pub desks : List Desk
  pub nodes : List ServedNode
  pub bodies : ℕ
  pub over : Option (Option ℕ)

-- it is the service of this configuration, and knows so much of its input
pub record Knows (given : Config) (told : InputsSeen) (view : View) : Type 0 where
  pub config : (config_in view.running).starts.items ≡ given
  pub ports : ports_of view.desks ≡ ports_in 0 given
  pub names : names_of view.nodes ≡ map (λ start. start.name) given
  pub bodies : view.bodies ≡ saturated told.bodies
  pub lost : losses_in view.running ≡ told.lost
  pub known : known_lost view.nodes ≡ told.lost
  pub over : view.over ≡ told.over

-- with what a service begins: its threads, and what was written before
pub record Begun : Type 0 where
  pub threads : List (Thread Lcg)
  pub written : Option (List ℕ)

-- the frames that were written for these inputs so far, which came to so much; the threads are those of the beginning
pub record ServesTold (given : Config) (told : InputsSeen) (first : Begun) (inputs : List Input) (view : View) (now : Option (List ℕ)) : Type 0 where
  pub knows : Knows given told view
  pub threads : threads_in view.running ≡ first.threads
  pub frames : List Written
  pub wrote : Appends first.written now (bytes_of frames)
  pub addressed : All (λ frame. IsAddressed (length view.desks) frame.client) frames
  pub notices : notices_in frames ≡ told.notices
  pub kept : AreDesksKept told inputs view.desks (clients_in view.running) frames

abbrev pub Serves : Config → Begun → List Input → View → Option (List ℕ) → Type 0
Serves given first inputs view now = ServesTold given (told_by given inputs) first inputs view now

abbrev pub running_of : Serving → Running
running_of serving = serving.running

abbrev pub desks_of : Serving → List Desk
desks_of serving = serving.desks.items

abbrev pub nodes_of : Serving → List ServedNode
nodes_of serving = serving.nodes.items

abbrev pub view_of : Serving → View
view_of serving = record { running = serving.running; desks = serving.desks.items; nodes = serving.nodes.items; bodies = serving.bodies; over = serving.end }

-- a request of a client, which was handed over or not, has no answer for this reason
abbrev pub IsDueAt : View → ℕ → Bool → Ending → Type 0
IsDueAt view client handed ending = IsDue (record { lost = is_known_lost (node_at client view.desks) view.nodes; full = is_full_end view.over }) handed ending

-- whether the node of a client is held for lost
abbrev pub lost_at : ℕ → Serving → Bool
lost_at client serving = is_known_lost (node_at client (desks_of serving)) (nodes_of serving)

abbrev pub kept_in : Option Input → List Input
kept_in None = []
kept_in (Some input) = input ∷ []

-- all that came was served, but for the input that is kept
pub record HasServedAll (given : Config) (first : Begun) (came : List Input) (serving : Serving) (now : Option (List ℕ)) : Type 0 where
  pub inputs : List Input
  pub whole : came ≡ inputs ++ kept_in serving.kept
  pub serves : Serves given first inputs (view_of serving) now

-- all that came was served, and then that a clock is full; nothing is kept
pub record HasServedFull (given : Config) (first : Begun) (came : List Input) (serving : Serving) (now : Option (List ℕ)) : Type 0 where
  pub kept : serving.kept ≡ None
  pub serves : Serves given first (came ++ Broken 30 ∷ []) (view_of serving) now

-- the input is over, and each request was replied to
pub record IsOver (serving : Serving) : Type 0 where
  pub fault : Option ℕ
  pub over : serving.end ≡ Some fault
  pub kept : serving.kept ≡ None
  pub idle : list_all is_idle (desks_of serving) ≡ true

-- ---- its steps

-- from inputs that came but for what is kept, to the same with what came meanwhile
abbrev pub CameSince : List Input → List Input → List Input → List Input → Type 0
CameSince came kept came2 kept2 = (inputs : List Input) → came ≡ inputs ++ kept → came2 ≡ inputs ++ kept2

-- what came meanwhile was served
abbrev pub Advances : Serving → Serving → List Input → List Input → Option (List ℕ) → Option (List ℕ) → Type 0
Advances a b came came2 before after = (given : Config) (first : Begun) → HasServedAll given first came a before → HasServedAll given first came2 b after

-- and then a clock was full
abbrev pub EndsFull : Serving → Serving → List Input → List Input → Option (List ℕ) → Option (List ℕ) → Type 0
EndsFull a b came came2 before after = (given : Config) (first : Begun) → HasServedAll given first came a before → HasServedFull given first came2 b after

-- the same inputs are served still
pub record ServingGoes (a b : Serving) (before after : Option (List ℕ)) : Type 0 where
  pub kept : b.kept ≡ a.kept
  pub goes : (given : Config) (first : Begun) (inputs : List Input) → Serves given first inputs (view_of a) before → Serves given first inputs (view_of b) after

-- and nothing is written
abbrev pub WritesNothing : Serving → Serving → Type 0
WritesNothing a b = (now : Option (List ℕ)) → ServingGoes a b now now

-- one input more is served
pub record ServesOne (input : Input) (a b : Serving) (before after : Option (List ℕ)) : Type 0 where
  pub kept : b.kept ≡ a.kept
  pub takes : (given : Config) (first : Begun) (inputs : List Input) → Serves given first inputs (view_of a) before
      → Serves given first (inputs ++ input ∷ []) (view_of b) after

-- a reply was written under the next number of a port, and is counted
pub record RepliesBy (client : ℕ) (reply : Desk → Term) (a b : Serving) (before after : Option (List ℕ)) : Type 0 where
  pub desk : Desk
  pub was : desk ≡ get_or (desks_of a) client desk
  pub view : view_of b ≡ record (view_of a) { desks = set (desks_of a) client (replied_at desk) }
  pub kept : b.kept ≡ a.kept
  pub wrote : WritesReply before after desk.name desk.port (saturated (desk.replied + 1)) (reply desk)

abbrev pub RepliesNext : ℕ → Term → Serving → Serving → Option (List ℕ) → Option (List ℕ) → Type 0
RepliesNext client reply a b before after = RepliesBy client (λ desk. reply) a b before after

-- the reply was why the request has no answer
abbrev pub RepliesEnding : ℕ → Ending → Serving → Serving → Option (List ℕ) → Option (List ℕ) → Type 0
RepliesEnding client ending a b before after = RepliesBy client (λ desk. ending_term desk.name ending) a b before after

-- a body was counted, and told to ask for nothing
pub record TellsBad (a b : Serving) (before after : Option (List ℕ)) : Type 0 where
  pub view : view_of b ≡ record (view_of a) { bodies = saturated (a.bodies + 1) }
  pub kept : b.kept ≡ a.kept
  pub wrote : Appends before after (framed (bad_request_term (saturated (a.bodies + 1))))

-- a body was counted, and a node is held for lost, and told so
pub record LosesNode (node : ℕ) (a b : Serving) (before after : Option (List ℕ)) : Type 0 where
  pub served : ServedNode
  pub was : served ≡ get_or (nodes_of a) node served
  pub view : view_of b ≡ record (view_of a) { nodes = set (nodes_of a) node (record served { is_lost = true }); bodies = saturated (a.bodies + 1) }
  pub wrote : Appends before after (framed (lost_term served.name))
