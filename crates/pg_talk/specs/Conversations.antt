-- What a conversation of clients with a cluster came to.
use Rattle.std.specs.Prelude.{◌≡◌, ⊤, ℕ, Bool, true, ◌<◌, ◌+◌, ◌*◌, ◌-◌, ◌^◌, min, List, [], ◌∷◌, ◌++◌, get_or, length, map}
use Rattle.std.specs.List.{All, sum_by}
use Rattle.pg_cluster.specs.PgNodeRun.Ports.{polled}
use Rattle.pg_cluster.specs.PgNodeRun.Runs.{generator_of}
use Rattle.pg_cluster.specs.PgNodeRun.declared.port.Client.{Client}
use Rattle.pg_cluster.specs.PgStep.Config.{Config}
use Rattle.pg_cluster.specs.PgStep.declared.start.Start.{Start}
use Rattle.pg_cluster.specs.Fault.{CantRun}
use Rattle.pg_cluster.specs.declared.fault.StartFault.{StartFault}
use Rattle.pg_cluster.specs.declared.fault.StartFault.TheVariants.{World}
use Rattle.pg_cluster.specs.PgWorldConfig.declared.fault.WorldFault.TheVariants.{OutOfMemory}
use Rattle.rand_pcg.specs.Lcg.{Lcg}
use Rattle.pg_cluster.specs.PgClusterJudges.Schedule.{NobodyLost}
use Rattle.pg_cluster.specs.Seeds.{AreSeeded}
use Rattle.pg_cluster.specs.Threads.{HaveRings, Thread, begun_by, limit_of}
use Rattle.pg_talk.specs.declared.conversation.Conversation.{Conversation}
use Rattle.pg_talk.specs.declared.conversation.Outcome.{Outcome}
use Rattle.pg_talk.specs.Asking.{AllSpoke}
use Rattle.pg_node_requests.specs.Members.{node_name}
use Rattle.pg_talk.specs.Verdicts.{IsJudged}

-- the node of this number, with so many ports, no group, and no process
pub record IsBare (ports number : ℕ) (start : Start) : Type 0 where
  pub named : start.name ≡ node_name number
  pub ports_are : start.ports ≡ ports
  pub no_process : start.made ≡ 0
  pub no_group : start.groups ≡ []

-- nodes that are numbered from 1 on, each with so many ports
abbrev pub AreBare : ℕ → List Start → Type 0
AreBare ports starts = (i : ℕ) (none : Start) → i < length starts → IsBare ports (i + 1) (get_or starts i none)

-- the nodes that are asked for: each has a port for each of its clients
pub record AreAsked (asked : Conversation) (given : Config) : Type 0 where
  pub count : length given ≡ asked.nodes
  pub each : AreBare asked.clients given

-- memory ran out; or a cluster of the nodes that are asked for, with rings of 64 KB, was not started, as this fault tells
abbrev pub CantTalk : Conversation → StartFault → Type 0
CantTalk asked (World OutOfMemory) = ⊤
CantTalk asked fault = (given : Config) × AreAsked asked given × CantRun 65536 given fault

-- a number of 64 bits at most
abbrev pub saturated : ℕ → ℕ
saturated n = min n (2 ^ 64 - 1)

-- how many clients all nodes have
abbrev pub all_clients : Conversation → ℕ
all_clients asked = saturated (asked.nodes * asked.clients)

-- how many commands each client asks but for the create: a make, and a join and a leave in each round
abbrev pub each_asks : Conversation → ℕ
each_asks asked = saturated (saturated (asked.rounds * 2) + 1)

-- how many commands are asked
abbrev pub all_commands : Conversation → ℕ
all_commands asked = saturated (saturated (all_clients asked * each_asks asked) + 1)

-- how many answers all clients polled
abbrev pub all_polled : List Client → ℕ
all_polled clients = sum_by (λ client. length (polled client)) clients

-- The clients spoke with a cluster of the nodes that were asked for, and it was closed. It was one run, of which the headline holds;
-- its nodes agree; and the schedule replays. Both are told so. What the clients said and heard is in it, and what is told to be
-- answered is all that they heard.
pub record TookPlace (asked : Conversation) (outcome : Outcome) : Type 0 where
  pub given : Config
  pub are : AreAsked asked given
  pub lost : List Bool
  pub nobody : NobodyLost lost
  pub threads : List (Thread Lcg)
  pub clients : List Client
  pub judged : IsJudged given lost threads clients (record { agree = outcome.agree; replay = outcome.replay })
  pub nodes_told : outcome.nodes ≡ asked.nodes
  pub clients_told : outcome.clients ≡ all_clients asked
  -- each ring between two nodes has room for 64 KB, and the pauses of each node are those of its own seed
  pub rings : HaveRings 65536 (map begun_by threads)
  pub seeds : AreSeeded asked.seed (map generator_of (map begun_by threads))
  -- each node made so many turns at most, and each client asked just what it was to ask
  pub limits : All (λ thread. limit_of thread ≡ asked.turns) threads
  pub spoke : AllSpoke asked.rounds clients
  pub answered_told : outcome.answered ≡ saturated (all_polled clients)
  pub asked_told : outcome.asked ≡ all_commands asked
  -- where it is told that a clock was full, not all was answered
  pub full_told : outcome.is_full ≡ true → outcome.answered < outcome.asked
