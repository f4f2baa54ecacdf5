use Rattle.std.proofs.Common.{not, ap, sym, ◌∙◌, arith}
use Rattle.std.proofs.lemmas.Bool.{eq-eqb}
use Rattle.pg_step.specs.Nodes.{is_peer}
use Rattle.pg_node_opens.specs.Places.{name_at, lost_in, live_in}
use Rattle.pg_node_opens.proofs.Asking.{own_no_peer, peer_left}
use Rattle.pg_node_opens.proofs.opens.Opens.is_live.Goals as goal

pub returns-then-place-ne0 : goal.returns-then-place-ne0
returns-then-place-ne0 c = ap not c.is_lost.ensures
    ∙ sym (peer_left c.args.self.now.names.items c.args.self.now.lost.items c.args.self.now.apart c.args.self.now.places c.args.place c.requires (omega arith))

pub returns-else-place-ne0 : goal.returns-else-place-ne0
returns-else-place-ne0 c = ap not (eq-eqb c.args.place 0 c.if-place-ne0.false)
    ∙ sym (ap (λ k. is_peer (live_in c.args.self.now.names.items c.args.self.now.lost.items) (name_at c.args.self.now.names.items k)) c.if-place-ne0.false
    ∙ own_no_peer c.args.self.now.names.items c.args.self.now.lost.items c.args.self.now.apart c.args.self.now.places (λ q. not (lost_in c.args.self.now.names.items c.args.self.now.lost.items q)) c.args.self.now.names.items c.args.self.now.apart)
