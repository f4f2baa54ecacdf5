use Rattle.std.proofs.Common.{◌≡◌, ◌∙◌, ℕ, Bool, true, false, refl, sym, arith}
use Rattle.pg_node_opens.specs.PgMulticall.Places.{has_of}
use Rattle.pg_node_sends.specs.Orders.{message_of}
use Rattle.pg_node_sends.proofs.Sent.{nobody_marked}
use Rattle.pg_node_sends.proofs.framing.FramedOutgoing.to_marked.Goals as goal

no_more : (a b : Bool) → (a ≡ true → b ≡ true) → b ≡ false → a ≡ false
no_more true b within none = absurd (cc (within refl))
no_more false b within none = refl

pub returns-then-are_within-clause-sends : goal.returns-then-are_within-clause-sends
returns-then-are_within-clause-sends c =
    let goes = c.args.goes in
    let none : (peer : ℕ) → has_of goes peer ≡ false = λ peer.
    no_more (has_of goes peer) (has_of c.none.result peer) (c.are_within.ensures.0 c.if-are_within.true peer) (c.none.ensures peer) in
    c.nobody.ensures ∙ sym (nobody_marked c.args.stamp (message_of c.args.order) goes none c.args.peers c.args.peers (omega arith))
