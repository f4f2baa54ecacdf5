-- Peers that are marked, by their places, and the packets to them.
use Rattle.std.specs.Prelude.{ℕ, zero, suc, Bool, false, cond, drop, get_or, List, [], ◌∷◌, ◌++◌}
use Rattle.pg_node_opens.specs.PgMessageTypes.declared.message.Message.{Message}
use Rattle.pg_node_opens.specs.PgMessageTypes.declared.packet.Packet.{Packet}
use Rattle.pg_node_opens.specs.PgMulticall.Places.{has_of}
use Rattle.pg_node_opens.specs.PgMulticall.declared.places.Places.{Places}
use Rattle.pg_node_opens.specs.Places.{reads}
use Rattle.pg_node_opens.specs.PgStep.Nodes.{Node}

-- the peers with a mark, by the marks of all peers
abbrev pub is_marked : List Node → List Bool → Node → Bool
is_marked names marks = reads (λ mark. mark) false (drop 1 names) marks

-- the marks of so many peers, of which these are marked
abbrev pub marks_of : Places → ℕ → List Bool
marks_of places zero = []
marks_of places (suc n) = marks_of places n ++ has_of places n ∷ []

-- a packet to the peer at a place, where it is marked
abbrev pub one_sent : ℕ → Message → List Bool → ℕ → List (ℕ × Packet)
one_sent clock message goes n = cond (get_or goes n false) ((n, record { stamp = clock; message = message }) ∷ []) []

-- the packets to the marked peers at the places below n
abbrev pub sent_below : ℕ → Message → List Bool → ℕ → List (ℕ × Packet)
sent_below clock message goes zero = []
sent_below clock message goes (suc n) = sent_below clock message goes n ++ one_sent clock message goes n
