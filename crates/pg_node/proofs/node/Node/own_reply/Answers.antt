use Rattle.std.proofs.Common.{◌≡◌, ◌<◌, ◌∙◌, List, ℕ, Some, Ok, length, sym, arith, subst}
use Rattle.std.specs.Prelude.{IfSome}
use Rattle.pg_node_state.specs.PgNodeOpens.Places.{name_at}
use Rattle.pg_message_reader.specs.Own.{own_reply}
use Rattle.pg_node_state.specs.States.{names_of}
use Rattle.pg_node.specs.Bytes.{next_packet}
use Rattle.pg_node.specs.Links.{Link, link_of, idle_link, links_in}
use Rattle.pg_node.specs.Nodes.{read_next}
use Rattle.pg_node.proofs.Linked.{part_here}
use Rattle.pg_node.proofs.node.Node.own_reply.Goals as goal

pub returns : goal.returns
returns g c =
    let wires = c.args.self.now.wires.items in
    let within : c.args.peer < length wires = omega (arith, c.args.self.now.linked, c.requires) in
    let here = subst (λ (link : Link). IfSome c.own_reply.result (λ reply. next_packet link ≡ Ok (Some (own_reply c.own.result.now reply)))) (sym (part_here link_of idle_link wires c.args.peer c.index.result.now within c.index.ensures)) c.own_reply.ensures in
    let named = subst (λ (own : List ℕ). IfSome c.own_reply.result (λ reply. next_packet (links_in wires c.args.peer) ≡ Ok (Some (own_reply own reply)))) c.own.ensures here in
    subst (λ lost. IfSome c.own_reply.result (λ reply. read_next lost (links_in wires c.args.peer) ≡ Ok (Some (own_reply (name_at (names_of c.args.self.now.state) 0) reply)))) (sym (sym c.is_lost.ensures ∙ c.if-is_lost.false)) named
