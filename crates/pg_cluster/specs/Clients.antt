-- The clients of a cluster: at which ports they are, and what of that which they said and heard its nodes did.
use Rattle.std.specs.Prelude.{◌≡◌, ℕ, ◌<◌, cond, nat_eq, get_or, length, map, List, [], ◌∷◌, ◌++◌}
use Rattle.std.specs.List.{flat_map}
use Rattle.pg_cluster_judges.specs.PgNodeState.Issued.{ports_of}
use Rattle.pg_cluster_judges.specs.PgNode.Nodes.{held_by}
use Rattle.pg_cluster_judges.specs.PgNodeState.States.{names_of, answers_of}
use Rattle.pg_cluster_judges.specs.PgNodeRun.declared.log.NodeEvent.{NodeEvent}
use Rattle.pg_cluster_judges.specs.PgNodeRun.declared.log.NodeEvent.TheVariants as events
use Rattle.pg_cluster_judges.specs.PgNodeRun.declared.port.Asked.{Asked}
use Rattle.pg_cluster_judges.specs.PgNodeRun.declared.port.Client.{Client}
use Rattle.pg_cluster_judges.specs.PgNodeRun.declared.port.Port.{Port}
use Rattle.pg_cluster_judges.specs.PgNodeRun.Acts.{Act, AllLead, log_entry}
use Rattle.pg_cluster_judges.specs.PgNodeRun.Follows.{standing_of}
use Rattle.pg_cluster_judges.specs.PgNodeRun.Ports.{ArePort, AreNew, SameClient, ClientRests, submitted, polled}
use Rattle.pg_cluster_judges.specs.PgNodeRun.Runs.{ports_at}
use Rattle.pg_cluster_judges.specs.PgNodeRun.Turns.{answered_at, AreLater}
use Rattle.pg_cluster_judges.specs.PgStep.declared.answer.Answer.{Answer}
use Rattle.pg_cluster_judges.specs.PgStep.declared.command.Command.{Command}
use Rattle.pg_cluster.specs.Threads.{RunOf, RanOf, Thread, begun_by, node_in, ports_of_runs}
use Rattle.pg_cluster_judges.specs.NodeOf.{NodeOf}

-- ---- at which ports they are

-- two lists of one length, of which the elements at each place stand to each other so
pub record AllPairs {X Y : Type 0} (R : X → Y → Type 0) (xs : List X) (ys : List Y) : Type 0 where
  pub len : length xs ≡ length ys
  pub each : (i : ℕ) (x : X) (y : Y) → i < length ys → R (get_or xs i x) (get_or ys i y)

-- a client and the port that it is the other end of, over which nothing went
abbrev pub IsOpenClient : Client → Port → Type 0
IsOpenClient client port = ArePort client port × AreNew client port

-- to clients of so many ports there come those of these ports
abbrev pub OpensMore : List Client → List Client → List Port → Type 0
OpensMore old new ports = (before : List Port) → AllPairs IsOpenClient old before → AllPairs IsOpenClient new (before ++ ports)

module _ {K : Type 0} where
  -- the ports of the nodes of these threads as they began, those of the first node first
  abbrev pub ports_begun : List (Thread K) → List Port
  ports_begun threads = ports_of_runs (map begun_by threads)

  -- and of nodes that ran
  abbrev pub ports_ended : List (RanOf K) → List Port
  ports_ended rans = ports_of_runs (map (λ ran. ran.run) rans)

  -- they are the other ends of the ports of these nodes, in their order
  abbrev pub AreClients : List (Thread K) → List Client → Type 0
  AreClients threads clients = AllPairs ArePort clients (ports_begun threads)

-- the same ends, in the same order
pub record SameClients (a b : List Client) : Type 0 where
  pub len : length b ≡ length a
  pub each : (place : ℕ) (none : Client) → SameClient (get_or a place none) (get_or b place none)

-- the same ends, in the same order, at which nothing was submitted or polled meanwhile
pub record ClientsRest (a b : List Client) : Type 0 where
  pub len : length b ≡ length a
  pub each : (place : ℕ) (none : Client) → ClientRests (get_or a place none) (get_or b place none)

-- ---- what they said and heard

-- the command of an event, where it came in at the port at a place
abbrev pub command_in : ℕ → NodeEvent → List Command
command_in place (events.Take peer) = []
command_in place (events.Command port command) = cond (nat_eq port place) (command ∷ []) []
command_in place (events.Retry op) = []
command_in place (events.SeeLoss peer) = []

-- the commands of a log that came in at the port at a place
abbrev pub commands_in : ℕ → List (ℕ × NodeEvent) → List Command
commands_in place log = flat_map (λ entry. command_in place entry.1) log

-- What the client at a port said and heard, of a node that came by these acts to this log and to these answers at the port.
pub record ClientHeard (place begun : ℕ) (acts : List Act) (log : List (ℕ × NodeEvent)) (answers : List Answer) (client : Client) : Type 0 where
  -- the commands of the log are, in order, the first of those that it submitted
  pub taken : List Asked
  pub further : List Asked
  pub submitted : submitted client ≡ taken ++ further
  pub logged : map (λ (x : Asked). x.command) taken ≡ commands_in place log
  -- when one came in there were the answers that it had polled before it submitted it
  pub later : AreLater taken (answered_at place begun acts)
  -- what it polled is, in order, the first of the answers
  pub unpolled : List Answer
  pub polled : answers ≡ polled client ++ unpolled

-- What the clients of a node said and heard, in the order of its ports: the node came by acts, of which its log tells, from where it
-- began to where it ended.
pub record NodeHeard {K : Type 0} (begun : RunOf K) (ended : NodeOf) (log : List (ℕ × NodeEvent)) (clients : List Client) : Type 0 where
  pub acts : List Act
  pub lead : AllLead (names_of (held_by (node_in begun))) (ports_of (held_by (node_in begun))) (standing_of (node_in begun)) acts (standing_of ended)
  pub logged : log ≡ map log_entry acts
  pub count : length clients ≡ length (ports_at begun)
  pub each : (place : ℕ) (none : Client) → place < length clients
      → ClientHeard place (length (answers_of (held_by (node_in begun)) place)) acts log (answers_of (held_by ended) place) (get_or clients place none)

module _ {K : Type 0} where
  -- the same of the clients of all nodes, those of the first node first
  abbrev pub AllHeard : List (Thread K) → List NodeOf → List (List (ℕ × NodeEvent)) → List Client → Type 0
  AllHeard [] [] [] clients = clients ≡ []
  AllHeard (thread ∷ threads) (node ∷ nodes) (log ∷ logs) clients =
      (own others : List Client) × (clients ≡ own ++ others) × NodeHeard (begun_by thread) node log own × AllHeard threads nodes logs others
  AllHeard threads nodes logs clients = ⊥
