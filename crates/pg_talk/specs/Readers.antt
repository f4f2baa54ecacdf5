-- The thread that reads, and what it promised.
use Rattle.std.specs.Prelude.{◌≡◌, ℕ, List, [], Option}
use Rattle.pg_cluster.specs.PgRing.Slots.{AreSlots, given}
use Rattle.pg_node_requests.specs.declared.layout.NodePorts.{NodePorts}
use Rattle.pg_talk.specs.declared.service.reader.Reader.{Reader}
use Rattle.pg_talk.specs.declared.service.reading.Reading.{Reading}

module _ {S : Type 0} where
  -- what the thread held when it was started
  abbrev pub held_by : Reader S → Reading S
  held_by reader = reader.thread.promise.reading.value

  -- what it gives on comes in here
  abbrev pub IsPaired : Reader S → Type 0
  IsPaired reader = AreSlots (held_by reader).out reader.inlet

  -- it reads such a source, for the ports of these nodes, until so many requests came
  pub record Reads (remaining : S → Option (List ℕ)) (nodes : List NodePorts) (wanted : ℕ) (source : Option (List ℕ)) (reader : Reader S) : Type 0 where
    pub nodes_are : (held_by reader).layout.nodes.items ≡ nodes
    pub wanted_are : (held_by reader).requests ≡ wanted
    pub source_is : remaining (held_by reader).source ≡ source
    pub unread : (held_by reader).deframer.unread ≡ []
    pub none : given (held_by reader).out ≡ []
