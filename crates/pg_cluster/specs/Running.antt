-- A cluster with its clients and its configuration, in one hand.
use Rattle.std.specs.Prelude.{◌≡◌, ◌≢◌, ℕ, Bool, List, get_or, length}
use Rattle.rand_pcg.specs.Lcg.{Lcg}
use Rattle.pg_ring.specs.declared.slot_out.SlotOut.{SlotOut}
use Rattle.pg_cluster_judges.specs.PgNodeRun.declared.notices.Notice.{Notice}
use Rattle.pg_cluster_judges.specs.PgNodeRun.declared.port.Asked.{Asked}
use Rattle.pg_cluster_judges.specs.PgNodeRun.declared.port.Client.{Client}
use Rattle.pg_cluster_judges.specs.PgNodeRun.Ports.{submitted, polled, places_free, answers_left}
use Rattle.pg_cluster_judges.specs.PgStep.declared.answer.Answer.{Answer}
use Rattle.pg_cluster_judges.specs.PgWorldConfig.declared.config.Config.{Config}
use Rattle.pg_cluster.specs.declared.running.Running.{Running}
use Rattle.pg_cluster.specs.Clients.{SameClients}
use Rattle.pg_cluster.specs.Clusters.{tellers_of, threads_of, lost_of}
use Rattle.pg_cluster.specs.Threads.{Thread}

-- its clients, those of the first node first
abbrev pub clients_in : Running → List Client
clients_in running = running.clients.items

-- the configuration that it was started with
abbrev pub config_in : Running → Config
config_in running = running.config

-- its threads, by the places of their nodes, and which nodes were lost
abbrev pub threads_in : Running → List (Thread Lcg)
threads_in running = threads_of running.cluster

abbrev pub losses_in : Running → List Bool
losses_in running = lost_of running.cluster

-- where each of its nodes is told of losses
abbrev pub tellers_in : Running → List (SlotOut Notice)
tellers_in running = tellers_of running.cluster

-- nothing but what the client at a place said and heard is changed
pub record OnlyClient (place : ℕ) (a b : Running) : Type 0 where
  pub count : length (clients_in b) ≡ length (clients_in a)
  pub same : SameClients (clients_in a) (clients_in b)
  pub others : (i : ℕ) (none : Client) → i ≢ place → get_or (clients_in b) i none ≡ get_or (clients_in a) i none
  pub cluster : b.cluster ≡ a.cluster
  pub config : b.config ≡ a.config

-- what the client at a place submitted, and what it polled
abbrev pub submitted_at : ℕ → Client → Running → List Asked
submitted_at place none running = submitted (get_or (clients_in running) place none)

abbrev pub polled_at : ℕ → Client → Running → List Answer
polled_at place none running = polled (get_or (clients_in running) place none)

-- for how many commands that client knows a free place, and the answers that it knows to be there
abbrev pub free_at : ℕ → Client → Running → ℕ
free_at place none running = places_free (get_or (clients_in running) place none)

abbrev pub left_at : ℕ → Client → Running → List Answer
left_at place none running = answers_left (get_or (clients_in running) place none)

-- nothing but what the clients said and heard is changed
pub record RunningGoes (a b : Running) : Type 0 where
  pub same : SameClients (clients_in a) (clients_in b)
  pub cluster : b.cluster ≡ a.cluster
  pub config : b.config ≡ a.config
