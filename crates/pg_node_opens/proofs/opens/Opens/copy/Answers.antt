use Rattle.std.proofs.Common.{refl}
use Rattle.pg_node_opens.proofs.Copied.{flags_same, kept_too, all_same}
use Rattle.pg_node_opens.proofs.opens.Opens.copy.Goals as goal

pub invariant_of-result : goal.invariant_of-result
invariant_of-result c =
    let was = c.args.self.now in
    kept_too was.names.items c.in_ok-names.names.items was.lost.items c.in_ok-lost.lost.items was.references was.commands.items c.in_ok-commands.commands.items
    c.in_ok-names.ensures (flags_same was.lost.items c.in_ok-lost.lost.items c.in_ok-lost.ensures.cases.0) c.in_ok-commands.ensures was.apart was.places was.known

pub returns : goal.returns
returns c =
    all_same c.args.self.now _ c.in_ok-names.ensures (flags_same c.args.self.now.lost.items c.in_ok-lost.lost.items c.in_ok-lost.ensures.cases.0) refl c.in_ok-commands.ensures
