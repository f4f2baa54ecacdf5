use Rattle.std.proofs.Common.{◌≡◌, ◌∙◌, List, map, sym}
use Rattle.std.proofs.lemmas.Result.{IfOk-weaker}
use Rattle.pg_node_state.specs.PgGroup.declared.table.GroupTable.{Ghosts}
use Rattle.pg_node_state.specs.declared.state.NodeState.{NodeState}
use Rattle.pg_node_state.proofs.PgNodeOpens.Named.{clash}
use Rattle.pg_world_packets.specs.Alike.{without_clock}
use Rattle.pg_world_config.specs.Seen.{seen_of}
use Rattle.pg_world_packets.proofs.world.FrameNodes.is_alike.Goals as goal

all_seen : {T : Type 0} {g : Ghosts T} (nodes others : List (NodeState T g)) → nodes ≡ others → map without_clock (map seen_of nodes) ≡ map without_clock (map seen_of others)
all_seen nodes others same = λ i. map without_clock (map seen_of (same i))

pub returns-then-is_alike_beside : goal.returns-then-is_alike_beside
returns-then-is_alike_beside g c =
    let beside = c.is_alike_beside.ensures.0 c.if-is_alike_beside.true in
    let mine = all_seen c.deref.result.now c.args.self.now.nodes.items c.deref.ensures.value in
    let theirs = all_seen c.deref-then-is_alike_beside.result.now c.args.other.now.nodes.items c.deref-then-is_alike_beside.ensures.value in
    IfOk-weaker c.are_alike.result _ _
    (λ alike h. (
      λ t. record { nodes = sym mine ∙ (h.0 t ∙ theirs); ways = beside.ways; updates = beside.updates; losses = beside.losses },
      λ s. h.1 (mine ∙ (s.nodes ∙ sym theirs)),
    ))
    c.are_alike.ensures

pub returns-else-is_alike_beside : goal.returns-else-is_alike_beside
returns-else-is_alike_beside g c = (
  λ e. absurd (clash (sym e)),
  λ s. sym c.if-is_alike_beside.false ∙ c.is_alike_beside.ensures.1 (record { ways = s.ways; updates = s.updates; losses = s.losses }),
)
