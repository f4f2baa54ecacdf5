use Rattle.std.proofs.Common.{◌<◌, length, sym, ap, arith}
use Rattle.pg_node.specs.Links.{Link, link_of, idle_link}
use Rattle.pg_node.proofs.Linked.{part_here}
use Rattle.pg_node.proofs.node.Node.damaged.Goals as goal

pub returns : goal.returns
returns g c =
    let wires = c.args.self.now.wires.items in
    let within : c.args.peer < length wires = omega (arith, c.args.self.now.linked, c.requires.place) in
    sym (ap (λ (link : Link). link.damaged) (part_here link_of idle_link wires c.args.peer c.index.result.now within c.index.ensures))
