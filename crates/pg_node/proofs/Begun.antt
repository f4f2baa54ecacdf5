-- A node over bytes that begins.
use Rattle.std.proofs.Common.{◌≡◌, ◌<◌, ◌+◌, ℕ, zero, suc, Bool, true, false, cond}
use Rattle.std.proofs.Common.{nat_lt, List, [], ◌∷◌, ◌++◌, length, Option, Some, None, Result, Ok, Err, refl, sym, ap, arith}
use Rattle.std.specs.Prelude.{IfSome}
use Rattle.pg_node_state.specs.PgGroup.Table.{Table}
use Rattle.pg_node_state.specs.PgTermIo.Limits.{max_len}
use Rattle.pg_node_state.specs.PgTermIo.Writing.{written}
use Rattle.pg_term.specs.declared.fault.TermFault.TheVariants as term
use Rattle.pg_node_state.specs.PgMessageTypes.declared.fault.MessageFault.{MessageFault}
use Rattle.pg_node_state.specs.PgMessageTypes.declared.fault.MessageFault.TheVariants.{Term}
use Rattle.pg_node_state.specs.PgMessageTypes.declared.packet.Packet.{Packet}
use Rattle.pg_node_state.specs.PgMessageTypes.Reading.{packet_of}
use Rattle.pg_node_state.specs.PgMessageTypes.Writing.{body_of, length_of, sent, term_of_packet}
use Rattle.pg_node_state.specs.PgStep.Nodes.{Node}
use Rattle.pg_node.specs.declared.node.wire.Wire.{Wire}
use Rattle.pg_node_state.specs.declared.state.fault.NodeFault.TheVariants.{OutOfMemory}
use Rattle.pg_node.specs.Begun.{BeginsLinked, IsOpened, CantBegin, unsent}
use Rattle.pg_node.specs.Links.{Link, link_of, links_in}
use Rattle.pg_node_state.specs.PgNodeSends.Opening.{IsAnnouncement}

-- what has a length is the body
pub has_body : (packet : Packet) (n : ℕ) → Ok n ≡ length_of (body_of packet) → body_of packet ≡ Ok (written (term_of_packet packet))
has_body packet n e = go (packet_of (term_of_packet packet)) e
  where
    body : List ℕ
    body = written (term_of_packet packet)

    fits : (p : Packet) (b : Bool) → Ok n ≡ length_of (cond b (Err (Term term.TooLong)) (Ok body)) → cond b (Err (Term term.TooLong)) (Ok body) ≡ Ok body
    fits p true f = absurd cc
    fits p false f = refl

    go : (r : Result Packet MessageFault) → Ok n ≡ length_of (sent r body) → sent r body ≡ Ok body
    go (Ok p) f = fits p (nat_lt max_len (length body)) f
    go (Err fault) f = absurd cc

-- all links are opened, and what goes out there can be written
pub begins_so : {A : Type 0} (r : Option A) (links : A → ℕ → Link) (table : Table) (own : Node) (n peers : ℕ) (packet : Packet) → n ≡ peers → IsAnnouncement table own packet
    → IfSome r (λ a. body_of packet ≡ Ok (written (term_of_packet packet))) → IfSome r (λ a. (place : ℕ) → place < n → IsOpened packet (links a place)) → IfSome r (λ a. BeginsLinked table own peers (links a))
begins_so (Some a) links table own n peers packet same tells body each = (packet, record { tells = tells; body = body; each = λ place l. each place (omega (arith, l, same)) })
begins_so None links table own n peers packet same tells body each = tt

-- where what tells the groups goes out, memory alone can run out
pub memory_alone : (table : Table) (own : Node) (peers : ℕ) (links : ℕ → Link) → BeginsLinked table own peers links → CantBegin table own OutOfMemory
memory_alone table own peers links (packet, begins) = (packet, begins.tells, sym (ap unsent begins.body))

-- one more link is opened
pub opened_more : (packet : Packet) (wires : List Wire) (wire : Wire) → IsOpened packet (link_of wire) → ((k : ℕ) → k < length wires → IsOpened packet (links_in wires k))
    → (k : ℕ) → k < length wires + 1 → IsOpened packet (links_in (wires ++ wire ∷ []) k)
opened_more packet [] wire is each zero l = is
opened_more packet [] wire is each (suc k) l = absurd (omega (arith, l))
opened_more packet (x ∷ xs) wire is each zero l = each zero (omega arith)
opened_more packet (x ∷ xs) wire is each (suc k) l = opened_more packet xs wire is (λ j lj. each (suc j) (omega (arith, lj))) k (omega (arith, l))

pub one_longer : (wires : List Wire) (wire : Wire) → length (wires ++ wire ∷ []) ≡ length wires + 1
one_longer [] wire = refl
one_longer (x ∷ xs) wire = omega (arith, one_longer xs wire)

pub if_some_any : {A P : Type 0} (r : Option A) → P → IfSome r (λ a. P)
if_some_any (Some a) p = p
if_some_any None p = tt
