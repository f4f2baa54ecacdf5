use Rattle.std.proofs.Common.{◌<◌, ◌∙◌, List, length, map, refl, sym, arith}
use Rattle.pg_node_state.specs.PgGroup.declared.table.GroupTable.{Ghosts}
use Rattle.pg_node_state.specs.declared.state.NodeState.{NodeState}
use Rattle.pg_node_state.proofs.PgNodeOpens.Named.{clash}
use Rattle.pg_world_packets.specs.Alike.{without_clock}
use Rattle.pg_world_config.specs.Seen.{Seen, seen_of}
use Rattle.pg_world_account.proofs.Compared.{same_more, same_at, same_all, same_length, twice_length, twice_at}
use Rattle.pg_world_packets.proofs.NodesAlike.{seen_alike, alike_seen}
use Rattle.pg_world_packets.proofs.world.alike.are_alike.Goals as goal

abbrev seen : {T : Type 0} {g : Ghosts T} → NodeState T g → Seen
seen node = without_clock (seen_of node)

abbrev all_seen : {T : Type 0} {g : Ghosts T} → List (NodeState T g) → List Seen
all_seen nodes = map without_clock (map seen_of nodes)

pub returns-then-nodes-others : goal.returns-then-nodes-others
returns-then-nodes-others g c = (
  λ e. absurd (clash (sym e)),
  λ h. absurd (c.if-nodes-others.true (same_length seen all_seen (twice_length seen_of without_clock) (twice_at seen_of without_clock) c.args.nodes.now c.args.others.now h)),
)

pub loop-place-preserved : goal.loop-place-preserved
loop-place-preserved g c =
    let nodes = c.args.nodes.now in
    let others = c.args.others.now in
    let place = c.loop-place.place in
    let within : place < length nodes = c.loop-place-test.true in
    let count = c.if-nodes-others.false in
    same_more seen all_seen (twice_length seen_of without_clock) (twice_at seen_of without_clock) nodes others place c.index-nodes-place.result c.index-others-place.result within (omega (arith, within, count))
    c.index-nodes-place.is c.index-others-place.is (seen_alike _ _ (c.in_ok-is_alike.ensures.0 c.if-not-branch.false)) c.loop-place.invariant

pub returns-then-not-branch : goal.returns-then-not-branch
returns-then-not-branch g c =
    let nodes = c.args.nodes.now in
    let others = c.args.others.now in
    let place = c.loop-place.place in
    let within : place < length nodes = c.loop-place-test.true in
    let count = c.if-nodes-others.false in (
      λ e. absurd (clash (sym e)),
      λ h. sym c.if-not-branch.true ∙ c.in_ok-is_alike.ensures.1 (alike_seen _ _
          (same_at seen all_seen (twice_length seen_of without_clock) (twice_at seen_of without_clock) nodes others place c.index-nodes-place.result c.index-others-place.result within (omega (arith, within, count))
          c.index-nodes-place.is c.index-others-place.is h)),
    )

pub returns : goal.returns
returns g c = (
  λ e. same_all seen all_seen (twice_length seen_of without_clock) (twice_at seen_of without_clock) c.args.nodes.now c.args.others.now c.loop-place.place c.if-nodes-others.false c.loop-place-test.false c.loop-place.invariant,
  λ h. refl,
)
