use Rattle.pg_node_opens.proofs.Placed.{found_node, found_name}
use Rattle.pg_node_opens.proofs.opens.Opens.place_of_name.Goals as goal

pub returns-clause-node : goal.returns-clause-node
returns-clause-node c = found_node c.args.self.now.names.items c.deref.result.now c.args.name.now c.place_of_atom.result c.deref.ensures.value c.args.self.now.places.some
    c.place_of_atom.ensures.none c.place_of_atom.ensures.within c.place_of_atom.ensures.some

pub returns-clause-some : goal.returns-clause-some
returns-clause-some c = found_name c.args.self.now.names.items c.deref.result.now c.args.name.now c.place_of_atom.result c.deref.ensures.value
    c.place_of_atom.ensures.within c.place_of_atom.ensures.some
