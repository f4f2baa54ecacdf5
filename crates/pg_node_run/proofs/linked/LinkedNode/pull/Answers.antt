use Rattle.std.proofs.Common.{min, refl}
use Rattle.pg_node.specs.Nodes.{links_of}
use Rattle.pg_node_run.proofs.Following.{only_moved}
use Rattle.pg_node_run.proofs.Passing.{have_tried, pull_count, pull_many, pull_marks}
use Rattle.pg_node_run.proofs.linked.LinkedNode.pull.Goals as goal

pub returns-clause-follows : goal.returns-clause-follows
returns-clause-follows g c =
    let run = c.args.self.now in
    only_moved g.L.Link.accepts g.I.Inlet.gives run _ c.pull.ensures.state refl
    (pull_marks g.I.Inlet.gives (links_of run.node) (links_of c.pull.new.self) c.args.peer c.pull.result _ _ c.pull.ensures.fed c.pull.ensures.err)
    (have_tried g.L.Link.accepts g.I.Inlet.gives g.met.L.Link.rests g.met.I.Inlet.rests (links_of run.node) (links_of c.pull.new.self) run.peers.items c.args.peer c.pull.result
    c.index_mut-links.result.now _ c.requires.place c.index_mut-links.ensures.value refl c.pull.ensures.fed c.pull.ensures.err c.pull.ensures.err_inlet)

pub returns-clause-count : goal.returns-clause-count
returns-clause-count g c = pull_count g.I.Inlet.gives (links_of c.args.self.now.node) (links_of c.pull.new.self) c.args.peer c.pull.result _ _ c.pull.ensures.fed

pub returns-clause-many : goal.returns-clause-many
returns-clause-many g c =
    pull_many c.args.self.now.peers.items c.args.peer c.index_mut-links.result.now (λ count of. g.I.Inlet.moves of.inlet (min c.args.max 65536) count) c.pull.result c.requires.place c.index_mut-links.ensures.value
    c.pull.ensures.many
