-- What becomes of an input that is served by a node of a given name.
use Rattle.std.specs.Prelude.{◌≡◌, ◌⊎◌, ⊤, ℕ, List, Option, Result, Ok, Err}
use Rattle.pg_term.specs.Fault.{checked_atom}
use Rattle.pg_term.specs.declared.fault.TermFault.TheVariants.{BadAtom, OutOfMemory}
use Rattle.pg_cluster.specs.PgMessageTypes.declared.fault.MessageFault.TheVariants.{Term}
use Rattle.pg_cluster.specs.PgNode.Replicas.Causes.{Cause}
use Rattle.pg_cluster.specs.PgNode.Replicas.Replica.{Pair, Serves}
use Rattle.pg_cluster.specs.PgNode.declared.replica.fault.ServeFault.TheVariants.{Message}
use Rattle.pg_program.specs.declared.bytes.BytesFault.{BytesFault}
use Rattle.pg_program.specs.declared.bytes.BytesFault.TheVariants.{Names, Serve}

-- the node and its peer
abbrev pub pair_of_texts : List ℕ → List ℕ → Pair
pair_of_texts own peer = record { own = own; peer = peer }

-- a text is no name: it is too long; or there was no memory
abbrev pub NameFault : List ℕ → BytesFault → Type 0
NameFault text (Names number) = (number ≡ 6) × (checked_atom text ≡ Err BadAtom)
NameFault text (Serve fault) = fault ≡ Message (Term OutOfMemory)

-- two texts are no names of two nodes: one is too long, or they are equal; or there was no memory
abbrev pub NamesFault : List ℕ → List ℕ → BytesFault → Type 0
NamesFault own peer (Names number) = ((number ≡ 6) × ((checked_atom own ≡ Err BadAtom) ⊎ (checked_atom peer ≡ Err BadAtom))) ⊎ ((number ≡ 15) × (own ≡ peer))
NamesFault own peer (Serve fault) = fault ≡ Message (Term OutOfMemory)

-- an input was served; or the names are none, and nothing was written
abbrev pub ServesAs : List ℕ → List ℕ → Option (List ℕ) → Option (List ℕ) → List ℕ → Result (Unit {0}) BytesFault → Type 0
ServesAs own peer before after input (Ok done) = Serves (pair_of_texts own peer) before after input (Ok done)
ServesAs own peer before after input (Err (Serve fault)) = Serves (pair_of_texts own peer) before after input (Err fault)
ServesAs own peer before after input (Err (Names number)) = NamesFault own peer (Names number) × (after ≡ before)

-- what a fault of reading and one of writing come from
abbrev pub BytesCause : Type 0 → Type 0 → BytesFault → Type 0
BytesCause unread unwritten (Serve fault) = Cause unread unwritten fault
BytesCause unread unwritten (Names number) = ⊤
