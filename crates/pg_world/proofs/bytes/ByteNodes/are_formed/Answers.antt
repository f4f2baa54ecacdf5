use Rattle.std.proofs.Common.{◌≡◌, ◌<◌, ◌+◌, ◌&&◌, ◌∷◌, ℕ, suc, List, drop, get_or, length, map, sym, ap, subst, ◌∙◌, arith, drop-cons}
use Rattle.std.specs.List.{list_all}
use Rattle.pg_world_packets.specs.PgGroup.declared.table.GroupTable.{Ghosts}
use Rattle.pg_node.specs.declared.node.Node.{Node}
use Rattle.pg_world_packets.specs.PgNodeState.declared.state.NodeState.{NodeState}
use Rattle.pg_world_packets.specs.PgNodeState.States.{kept_by, live_of}
use Rattle.pg_world_packets.specs.PgStep.State.{formed}
use Rattle.pg_world_packets.specs.Losing.{is_formed}
use Rattle.pg_world.specs.Crossings.{node_of}
use Rattle.pg_world.proofs.bytes.ByteNodes.are_formed.Goals as goal

-- what the nodes say from one on: what that node says, and those behind it
from_one : {T : Type 0} {g : Ghosts T} (nodes : List (Node T g)) (k : ℕ) (node : Node T g) → k < length nodes → node ≡ get_or nodes k node
    → list_all is_formed (map node_of (drop k nodes)) ≡ (is_formed (node_of node) && list_all is_formed (map node_of (drop (k + 1) nodes)))
from_one {T} {g} nodes k node below is = ap (λ (ns : List (Node T g)). list_all is_formed (map node_of ns)) (drop-cons nodes k node below ∙ ap (λ n. get_or nodes k node ∷ drop n nodes) next)
    ∙ ap (λ (n : Node T g). is_formed (node_of n) && list_all is_formed (map node_of (drop (k + 1) nodes))) (sym is)
  where
    next : suc k ≡ k + 1
    next = omega arith

pub returns-then-not-formed : goal.returns-then-not-formed
returns-then-not-formed g c =
    let nodes = c.args.self.now.nodes.items in
    let all = c.deref-over-items.ensures.value in
    let k = c.loop-over.over-index in
    let told = c.if-not-formed.ensures ∙ ap (λ (s : NodeState _ _). formed (live_of s) (kept_by s)) c.state.ensures in
    ap (λ b. b && list_all is_formed (map node_of (drop (k + 1) nodes))) told
    ∙ (sym (from_one nodes k c.over-item.result (subst (λ (ns : List (Node _ _)). k < length ns) all c.loop-over-test.true)
    (c.over-item.is ∙ ap (λ (ns : List (Node _ _)). get_or ns k c.over-item.result) all)) ∙ c.loop-over.invariant)

pub loop-over-preserved : goal.loop-over-preserved
loop-over-preserved g c =
    let nodes = c.args.self.now.nodes.items in
    let all = c.deref-over-items.ensures.value in
    let k = c.loop-over.over-index in
    let told = sym c.if-not-formed.false ∙ (c.formed.ensures ∙ ap (λ (s : NodeState _ _). formed (live_of s) (kept_by s)) c.state.ensures) in
    ap (λ b. b && list_all is_formed (map node_of (drop (k + 1) nodes))) told
    ∙ (sym (from_one nodes k c.over-item.result (subst (λ (ns : List (Node _ _)). k < length ns) all c.loop-over-test.true)
    (c.over-item.is ∙ ap (λ (ns : List (Node _ _)). get_or ns k c.over-item.result) all)) ∙ c.loop-over.invariant)
