-- Whatever a node does in a world, all stays that is held of it, and no reply is odd.
use Rattle.std.proofs.Common.{◌≡◌, ℕ, List, ◌∷◌, None, Ok, sym, subst}
use Rattle.pg_term.specs.RefParts.{RefParts}
use Rattle.pg_step.specs.PgMessageTypes.declared.message.Message.{Message}
use Rattle.pg_step.specs.PgMessageTypes.declared.message.Message.TheVariants.{Reply}
use Rattle.pg_step.specs.PgMessageTypes.declared.message.Said.{Said}
use Rattle.pg_step.specs.Nodes.{Node, Nodes}
use Rattle.pg_step.specs.Turns.{NodeTurn}
use Rattle.pg_step.specs.Step.{Action, acted, taken}
use Rattle.pg_laws.proofs.locks.Named.{World, perform, popped}
use Rattle.pg_laws.proofs.locks.Kept.{live, near, Inv}
use Rattle.pg_laws.proofs.locks.Seats.{Sits, seated}
use Rattle.pg_laws.proofs.locks.Issued.{acted_keeps}
use Rattle.pg_laws.proofs.locks.Odd.{acted_even}
use Rattle.pg_laws.proofs.locks.Packets.{reply_heard, taken_keeps, taken_even}

sits_of : (w : World) (a : Node) → Inv w → live w a → Sits w.nodes w.seen a (w.seat a).peers
sits_of w a inv la = record { peer = λ q. inv.seats.peer a q la.there }

seat_is : (w : World) (a : Node) → Inv w → live w a → w.seat a ≡ seated a (w.seat a).peers
seat_is w a inv la = let own = inv.seats.own a la.there in λ i. record { own = own i; peers = (w.seat a).peers }

-- a command that comes in, or a retry
pub acts_keep : (w : World) (a : Node) → live w a → Inv w → (whole : Nodes) (ports : ℕ) (action : Action) (t : NodeTurn) → acted whole (w.seat a) ports action (w.node a) ≡ Ok t → Inv (perform w a t)
acts_keep w a la inv whole ports action t e = acted_keeps w a (w.seat a).peers (sits_of w a inv la) la inv whole ports action t
    (subst (λ (m : Nodes). acted whole m ports action (w.node a) ≡ Ok t) (seat_is w a inv la) e)

-- a packet that is taken
pub takes_keep : (w : World) (a p : Node) (x : Message) (rest : List Message) (t : NodeTurn) → live w a → near w p a → Inv w → w.wire p a ≡ x ∷ rest → taken (w.seat a) p x (w.node a) ≡ Ok t
    → Inv (perform (popped w p a rest) a t)
takes_keep w a p x rest t la meets inv is e = taken_keeps w a (w.seat a).peers (sits_of w a inv la) la inv p meets rest x t is
    (subst (λ (m : Nodes). taken m p x (w.node a) ≡ Ok t) (seat_is w a inv la) e)

-- neither tells of an odd reply
pub acts_even : (w : World) (a : Node) → live w a → Inv w → (whole : Nodes) (ports : ℕ) (action : Action) (t : NodeTurn) → acted whole (w.seat a) ports action (w.node a) ≡ Ok t → t.reported.odd ≡ None
acts_even w a la inv whole ports action t e = acted_even (w.seat a) whole ports action (w.node a) t e

pub takes_even : (w : World) (a p : Node) (x : Message) (rest : List Message) (t : NodeTurn) → live w a → near w p a → Inv w → w.wire p a ≡ x ∷ rest → taken (w.seat a) p x (w.node a) ≡ Ok t
    → t.reported.odd ≡ None
takes_even w a p x rest t la meets inv is e = taken_even w a (w.seat a).peers (sits_of w a inv la) la inv p meets rest x t is
    (subst (λ (m : Nodes). taken m p x (w.node a) ≡ Ok t) (seat_is w a inv la) e)

-- and a reply that comes in is taken
pub replies_taken : (w : World) (a p : Node) (r : RefParts) (said : Said) (rest : List Message) → live w a → near w p a → Inv w → w.wire p a ≡ Reply r said ∷ rest
    → (t : NodeTurn) × (taken (w.seat a) p (Reply r said) (w.node a) ≡ Ok t)
replies_taken w a p r said rest la meets inv is =
    let made = reply_heard w a (w.seat a).peers (sits_of w a inv la) la inv p meets rest r said is in
    (made.0, subst (λ (m : Nodes). taken m p (Reply r said) (w.node a) ≡ Ok made.0) (sym (seat_is w a inv la)) made.1)
