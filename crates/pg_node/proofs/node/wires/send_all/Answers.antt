use Rattle.std.proofs.Common.{◌≡◌, ◌∙◌, ◌&&◌, ℕ, List, [], true, cond, nat_eq, length, sym, subst}
use Rattle.pg_node_state.specs.PgNodeSends.declared.goes.Goes.TheVariants.{One, Marked}
use Rattle.pg_node_state.specs.PgNodeSends.Frames.{IsFrame}
use Rattle.pg_node.specs.Links.{links_in, with_more}
use Rattle.pg_node.proofs.Linked.{one_out, one_small, many_fit, many_out, many_small}
use Rattle.pg_node.proofs.node.wires.send_all.Goals as goal

pub returns-in-One-clause-sent : goal.returns-in-One-clause-sent
returns-in-One-clause-sent c =
    let framed = c.args.framed.now in
    let start = c.args.wires.now.items in
    let wires = c.append_if.new.wires.items in
    let peer = c.in-One.peer in
    let goes : framed.goes ≡ One peer = sym c.goes.ensures ∙ c.in-One.is in
    one_out framed peer goes start wires (λ place.
    subst (λ (bytes : List ℕ). links_in wires place ≡ with_more (links_in start place) (cond (true && nat_eq peer place) bytes [])) c.frame.ensures (c.append_if.ensures.sent place))

pub returns-in-One-clause-small : goal.returns-in-One-clause-small
returns-in-One-clause-small c =
    let framed = c.args.framed.now in
    let goes : framed.goes ≡ One c.in-One.peer = sym c.goes.ensures ∙ c.in-One.is in
    one_small framed c.in-One.peer goes

pub append_marked-requires-clause-fit : goal.append_marked-requires-clause-fit
append_marked-requires-clause-fit c =
    let framed = c.args.framed.now in
    let goes : framed.goes ≡ Marked c.in-Marked.marked c.in-Marked.peers = sym c.goes.ensures ∙ c.in-Marked.is in
    let fit = many_fit framed c.in-Marked.marked c.in-Marked.peers goes (length c.args.wires.now.items) c.requires.fit in
    (fit.0, subst (λ (bytes : List ℕ). IsFrame bytes fit.0) (sym c.frame-in-Marked.ensures) fit.1, fit.2)

pub returns-in-Marked-clause-sent : goal.returns-in-Marked-clause-sent
returns-in-Marked-clause-sent c =
    let framed = c.args.framed.now in
    let goes : framed.goes ≡ Marked c.in-Marked.marked c.in-Marked.peers = sym c.goes.ensures ∙ c.in-Marked.is in
    many_out framed c.in-Marked.marked c.in-Marked.peers goes c.args.wires.now.items c.append_marked.new.wires.items
    (λ packet is. c.append_marked.ensures.sent packet (subst (λ (bytes : List ℕ). IsFrame bytes packet) (sym c.frame-in-Marked.ensures) is))

pub returns-in-Marked-clause-small : goal.returns-in-Marked-clause-small
returns-in-Marked-clause-small c =
    let framed = c.args.framed.now in
    let goes : framed.goes ≡ Marked c.in-Marked.marked c.in-Marked.peers = sym c.goes.ensures ∙ c.in-Marked.is in
    many_small framed c.in-Marked.marked c.in-Marked.peers goes
