use Rattle.std.proofs.Common.{refl, sym, ◌∙◌}
use Rattle.pg_node.specs.Nodes.{has_lost, held_by, links_of}
use Rattle.pg_process.proofs.Feeding.{fed_first, fed_kept, fed_more, fed_none, not_memory, pulled, unpulled}
use Rattle.pg_process.proofs.process.Process.feed.Goals as goal

pub loop-portion-init : goal.loop-portion-init
loop-portion-init c = fed_first c.args.peer c.args.bytes.now c.args.self.now

pub loop-portion-preserved : goal.loop-portion-preserved
loop-portion-preserved c =
    let b = c.loop-portion.self in
    let fed = c.in-Ok.ensures.fed in
    let healthy = pulled (has_lost (held_by b.node) c.args.peer) (links_of b.node c.args.peer).damaged c.pull.result c.in-Ok.field-0 c.in-Ok.is c.pull.ensures.lost c.pull.ensures.damaged in
    fed_more c.args.peer c.args.bytes.now c.loop-portion.portion.rest.now c.pull.new.inlet.rest.now fed.0 c.args.self.now b _ c.loop-portion.invariant fed.2 fed.3 c.pull.ensures.state healthy
    refl refl refl refl refl refl

pub returns-then-tells_none-clause-made : goal.returns-then-tells_none-clause-made
returns-then-tells_none-clause-made c =
    let b = c.loop-portion.self in
    let none = sym c.tells_none.ensures ∙ c.if-tells_none.true in
    let broken = unpulled (has_lost (held_by b.node) c.args.peer) (links_of b.node c.args.peer).damaged c.pull.result c.in-Err.fault c.in-Err.is (not_memory c.in-Err.fault none) c.pull.ensures.memory in
    fed_none c.args.peer c.args.bytes.now c.loop-portion.portion.rest.now c.args.self.now b _ c.loop-portion.invariant
    (fed_kept c.args.peer c.args.bytes.now c.loop-portion.portion.rest.now c.args.self.now b _ c.loop-portion.invariant
    c.in-Err.ensures.err c.pull.ensures.state refl refl refl refl refl refl) broken
