use Rattle.std.proofs.Common.{◌≡◌, ◌<◌, ◌∙◌, None, Ok, length, sym, arith, subst}
use Rattle.std.specs.Prelude.{◌↔◌, true, false}
use Rattle.pg_node.specs.Bytes.{next_packet}
use Rattle.pg_node.specs.Links.{Link, link_of, idle_link, links_in}
use Rattle.pg_node.specs.Nodes.{read_next}
use Rattle.pg_node.proofs.Events.{idle_next}
use Rattle.pg_node.proofs.Linked.{part_here}
use Rattle.pg_node.proofs.node.Node.is_idle.Goals as goal

pub returns-then-is_lost : goal.returns-then-is_lost
returns-then-is_lost g c =
    subst (λ lost. (false ≡ true) ↔ (read_next lost (links_in c.args.self.now.wires.items c.args.peer) ≡ Ok None)) (sym (sym c.is_lost.ensures ∙ c.if-is_lost.true))
    (λ e. absurd (cc), λ e. absurd (cc))

pub returns : goal.returns
returns g c =
    let wires = c.args.self.now.wires.items in
    let within : c.args.peer < length wires = omega (arith, c.args.self.now.linked, c.requires) in
    let here = subst (λ (link : Link). (c.is_idle.result ≡ true) ↔ (next_packet link ≡ Ok None)) (sym (part_here link_of idle_link wires c.args.peer c.index.result.now within c.index.ensures))
    (idle_next (link_of c.index.result.now) c.is_idle.result c.is_idle.ensures) in
    subst (λ lost. (c.is_idle.result ≡ true) ↔ (read_next lost (links_in wires c.args.peer) ≡ Ok None)) (sym (sym c.is_lost.ensures ∙ c.if-is_lost.false)) here
