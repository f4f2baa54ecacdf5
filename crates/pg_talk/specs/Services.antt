-- What a service came to, and why it did not come to its end.
use Rattle.std.specs.Prelude.{◌≡◌, ◌⊎◌, ◌-◌, ◌^◌, ℕ, List, [], ◌∷◌, ◌++◌, Option, Some, map}
use Rattle.std.specs.List.{All}
use Rattle.pg_cluster.specs.PgNodeRun.Runs.{generator_of}
use Rattle.pg_cluster.specs.PgNodeRun.declared.port.Client.{Client}
use Rattle.pg_node_requests.specs.declared.input.Input.{Input}
use Rattle.pg_node_requests.specs.declared.input.Input.TheVariants.{Broken}
use Rattle.pg_node_requests.specs.declared.layout.NodePorts.{NodePorts}
use Rattle.pg_cluster.specs.PgRing.Slots.{taken}
use Rattle.pg_node_requests.specs.Layouts.{layout_of}
use Rattle.rand_pcg.specs.Lcg.{Lcg}
use Rattle.pg_cluster.specs.Running.{threads_in}
use Rattle.pg_cluster.specs.Seeds.{AreSeeded}
use Rattle.pg_cluster.specs.Threads.{HaveRings, Thread, begun_by, limit_of}
use Rattle.pg_cluster.specs.Fault.{start_number_of}
use Rattle.pg_talk.specs.declared.service.Service.{Service}
use Rattle.pg_talk.specs.declared.service.fault.ServiceFault.{ServiceFault}
use Rattle.pg_talk.specs.declared.service.fault.ServiceFault.TheVariants as faults
use Rattle.pg_talk.specs.declared.service.reader.Reader.{Reader}
use Rattle.pg_talk.specs.declared.service.run.Served.{Served}
use Rattle.pg_talk.specs.Readers.{IsPaired, Reads}
use Rattle.pg_talk.specs.Servings.{Serves, View}
use Rattle.pg_talk.specs.Written.{AllServed, told_by}
use Rattle.pg_talk.specs.Readings.{AreRead}
use Rattle.pg_talk.specs.Verdicts.{IsJudged}

-- the number of each
abbrev pub service_number_of : ServiceFault → ℕ
service_number_of (faults.Start fault) = start_number_of fault
service_number_of faults.BadText = 40
service_number_of faults.WriteFault = 32
service_number_of faults.OutOfMemory = 10

-- A clock was full: these are the inputs that had come by then from a thread that reads the source, and that the clock is full. Nobody waits for that thread, which may be in a
-- read that never ends; where it ends, the inputs are the first that it read (`Reader::join`).
pub record CameUntilFull {S : Type 0} (remaining : S → Option (List ℕ)) (nodes : List NodePorts) (wanted : ℕ) (source : Option (List ℕ)) (inputs : List Input) : Type 0 where
  pub reader : Reader S
  pub reads : Reads remaining nodes wanted source reader
  pub paired : IsPaired reader
  pub came : inputs ≡ taken reader.inlet ++ Broken 30 ∷ []

-- what came in of the source: all that is read of it, until so many requests came; or what had come when a clock was full
abbrev pub CameOf : {S : Type 0} → (S → Option (List ℕ)) → (S → S → Type 0) → List NodePorts → ℕ → Option (List ℕ) → List Input → Type 0
CameOf remaining fails nodes wanted source inputs = AreRead remaining fails nodes wanted source inputs ⊎ CameUntilFull remaining nodes wanted source inputs

-- The threads are those of a service: each ring between two nodes has room for as many bytes as it says, the pauses of each node are those of its own seed, and each makes
-- 2^64 - 1 turns at most.
pub record AreThreadsOf (service : Service) (threads : List (Thread Lcg)) : Type 0 where
  pub rings : HaveRings service.config.ring (map begun_by threads)
  pub seeds : AreSeeded service.seed (map generator_of (map begun_by threads))
  pub limits : All (λ thread. limit_of thread ≡ 2 ^ 64 - 1) threads

-- a service begins: its threads are its own, and nothing came or was written so far
pub record Begins (service : Service) (view : View) (now : Option (List ℕ)) : Type 0 where
  pub own : AreThreadsOf service (threads_in view.running)
  pub serves : Serves service.config.starts.items (record { threads = threads_in view.running; written = now }) [] view now

-- A cluster of the configuration of a service ran, by just its threads, and was closed and judged. The inputs are those that came in of the source. The last of them says by which
-- fault the input ended, if by one; the nodes that they lose were lost, and all of them were served.
pub record WasServed {S : Type 0} (remaining : S → Option (List ℕ)) (fails : S → S → Type 0) (service : Service) (source before after : Option (List ℕ)) (served : Served) : Type 0 where
  pub inputs : List Input
  pub read : CameOf remaining fails (layout_of 0 service.config.starts.items) service.requests source inputs
  pub over : (told_by service.config.starts.items inputs).over ≡ Some served.fault
  pub threads : List (Thread Lcg)
  pub own : AreThreadsOf service threads
  pub clients : List Client
  pub judged : IsJudged service.config.starts.items (told_by service.config.starts.items inputs).lost threads clients served.verdict
  pub all : AllServed service.config.starts.items inputs clients before after
