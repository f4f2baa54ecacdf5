-- What a node sends as it begins.
use Rattle.std.proofs.Common.{◌≡◌, ◌≤◌, ◌<◌, ◌+◌, ℕ, zero, suc, Bool, true, false, cond, get_or, List, [], ◌∷◌, ◌++◌, length, ◌∙◌, arith}
use Rattle.std.specs.Prelude.{Result, Ok, Err, IfOk}
use Rattle.pg_node_opens.specs.PgGroup.Table.{Table}
use Rattle.pg_node_opens.specs.PgStep.Machines.Clocked.{Stamped, stamped}
use Rattle.pg_node_opens.specs.PgMessageTypes.declared.message.Message.{Message}
use Rattle.pg_node_opens.specs.PgMessageTypes.declared.packet.Packet.{Packet}
use Rattle.pg_node_opens.specs.PgStep.Nodes.{Node, Nodes, to_peers}
use Rattle.pg_node_sends.specs.Marked.{sent_below}
use Rattle.pg_node_sends.specs.Opening.{Announces, GoToPeers, IsAnnouncement}

-- the packets to the marked at the places below a number go to places of peers
pub places_below : (names : List Node) (clock : ℕ) (message : Message) (goes : List Bool) (n : ℕ) → n + 1 ≤ length names → GoToPeers names (sent_below clock message goes n)
places_below names clock message goes zero within = tt
places_below names clock message goes (suc n) within = go (get_or goes n false) (sent_below clock message goes n) (places_below names clock message goes n (before n (length names) within))
  where
    here : (n k : ℕ) → suc n + 1 ≤ k → n + 1 < k
    here n k l = omega (arith, l)

    before : (n k : ℕ) → suc n + 1 ≤ k → n + 1 ≤ k
    before n k l = omega (arith, l)

    go : (b : Bool) (xs : List (ℕ × Packet)) → GoToPeers names xs → GoToPeers names (xs ++ cond b ((n, record { stamp = clock; message = message }) ∷ []) [])
    go true [] all = (here n (length names) within, tt)
    go false [] all = tt
    go b (x ∷ xs) all = (all.0, go b xs all.1)

pub announced : {A E : Type 0} (r : Result A E) (sent : A → Node → List (Stamped Message)) (table : Table) (m : Nodes) (packet : Packet) → IsAnnouncement table m.own packet
    → IfOk r (λ sends. sent sends ≡ (λ q. stamped packet.stamp (to_peers m (λ q. true) packet.message q))) → IfOk r (λ sends. Announces table m (sent sends))
announced (Ok sends) sent table m packet is h = (is.0, is.1, h ∙ (λ i q. stamped (is.2 i).stamp (to_peers m (λ q. true) (is.2 i).message q)))
announced (Err e) sent table m packet is h = tt
