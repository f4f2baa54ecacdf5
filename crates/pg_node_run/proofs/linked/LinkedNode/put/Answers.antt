use Rattle.std.proofs.Common.{◌≡◌, ◌∙◌, ◌-◌, ◌^◌, ℕ, List, length, min, refl, sym, ap}
use Rattle.std.specs.Prelude.{true, eqb, slice_get}
use Rattle.pg_node.specs.Nodes.{links_of}
use Rattle.pg_node_run.proofs.Acting.{nothing_held}
use Rattle.pg_node_run.proofs.Following.{only_moved}
use Rattle.pg_node_run.proofs.Passing.{have_put, none_put, peer_holds, put_count, put_marks, unput}
use Rattle.pg_node_run.proofs.linked.LinkedNode.put.Goals as goal

-- ---- nothing waits

pub returns-then-is_empty-clause-follows : goal.returns-then-is_empty-clause-follows
returns-then-is_empty-clause-follows g c =
    nothing_held g.L.Link.accepts g.I.Inlet.gives g.met.L.Link.rests g.met.I.Inlet.rests c.args.self.now _ refl refl refl refl

pub returns-then-is_empty-clause-many : goal.returns-then-is_empty-clause-many
returns-then-is_empty-clause-many g c =
    let outbox = (links_of c.args.self.now.node c.args.peer).outbox in
    let none : eqb (length outbox) 0 ≡ true = ap (λ (bytes : List ℕ). eqb (length bytes) 0) (sym c.outbox.ensures) ∙ (sym c.is_empty.ensures ∙ c.if-is_empty.true) in
    none_put g.L.Link.moves g.met.L.Link.idles (2 ^ 64 - 1) outbox none (slice_get c.args.self.now.peers.items c.args.peer)

pub returns-then-is_empty-clause-rest : goal.returns-then-is_empty-clause-rest
returns-then-is_empty-clause-rest g c = unput (links_of c.args.self.now.node) c.args.peer

-- ---- something does

pub returns-clause-follows : goal.returns-clause-follows
returns-clause-follows g c =
    let run = c.args.self.now in
    only_moved g.L.Link.accepts g.I.Inlet.gives run _ c.put.ensures.state refl (put_marks (links_of run.node) (links_of c.put.new.self) c.args.peer c.put.result c.put.ensures.rest)
    (have_put g.L.Link.accepts g.I.Inlet.gives g.met.L.Link.rests g.met.I.Inlet.rests (links_of run.node) (links_of c.put.new.self) run.peers.items c.args.peer c.put.result
    c.index_mut-links.result.now _ c.requires.place c.index_mut-links.ensures.value c.put.ensures.rest c.put.ensures.moved refl)

pub returns-clause-count : goal.returns-clause-count
returns-clause-count g c = put_count (links_of c.args.self.now.node) (links_of c.put.new.self) c.args.peer c.put.result c.put.ensures.rest c.put.ensures.some

pub returns-clause-many : goal.returns-clause-many
returns-clause-many g c =
    peer_holds c.args.self.now.peers.items c.args.peer c.index_mut-links.result.now
    (λ of. g.L.Link.moves of.link (min (2 ^ 64 - 1) (length (links_of c.args.self.now.node c.args.peer).outbox)) c.put.result) c.requires.place c.index_mut-links.ensures.value c.put.ensures.many
