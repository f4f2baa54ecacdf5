use Rattle.std.proofs.Common.{◌<◌, ◌∙◌, List, length, map, refl, sym, arith}
use Rattle.pg_node_state.specs.PgMessageTypes.declared.message.Message.{Message}
use Rattle.pg_node_state.proofs.PgNodeOpens.Named.{clash}
use Rattle.pg_world_packets.specs.declared.ways.Ways.{Ways}
use Rattle.pg_world_packets.specs.Alike.{without_stamps}
use Rattle.pg_world_packets.specs.Views.{ways_of}
use Rattle.pg_world_account.proofs.Compared.{same_more, same_at, same_all, same_length, twice_length, twice_at}
use Rattle.pg_world_packets.proofs.world.alike.same_ways.Goals as goal

abbrev said : Ways → List (List Message)
said outgoing = without_stamps (ways_of outgoing)

abbrev all_said : List Ways → List (List (List Message))
all_said outgoing = map without_stamps (map ways_of outgoing)

pub returns-then-outgoing-others : goal.returns-then-outgoing-others
returns-then-outgoing-others c = (
  λ e. absurd (clash (sym e)),
  λ h. absurd (c.if-outgoing-others.true (same_length said all_said (twice_length ways_of without_stamps) (twice_at ways_of without_stamps) c.args.outgoing.now c.args.others.now h)),
)

pub loop-place-preserved : goal.loop-place-preserved
loop-place-preserved c =
    let outgoing = c.args.outgoing.now in
    let others = c.args.others.now in
    let place = c.loop-place.place in
    let within : place < length outgoing = c.loop-place-test.true in
    let count = c.if-outgoing-others.false in
    same_more said all_said (twice_length ways_of without_stamps) (twice_at ways_of without_stamps) outgoing others place c.index-outgoing-place.result c.index-others-place.result within (omega (arith, within, count))
    c.index-outgoing-place.is c.index-others-place.is (c.is_alike.ensures.0 c.if-not-is_alike.false) c.loop-place.invariant

pub returns-then-not-is_alike : goal.returns-then-not-is_alike
returns-then-not-is_alike c =
    let outgoing = c.args.outgoing.now in
    let others = c.args.others.now in
    let place = c.loop-place.place in
    let within : place < length outgoing = c.loop-place-test.true in
    let count = c.if-outgoing-others.false in (
      λ e. absurd (clash (sym e)),
      λ h. sym c.if-not-is_alike.true ∙ c.is_alike.ensures.1
          (same_at said all_said (twice_length ways_of without_stamps) (twice_at ways_of without_stamps) outgoing others place c.index-outgoing-place.result c.index-others-place.result within (omega (arith, within, count))
          c.index-outgoing-place.is c.index-others-place.is h),
    )

pub returns : goal.returns
returns c = (
  λ e. same_all said all_said (twice_length ways_of without_stamps) (twice_at ways_of without_stamps) c.args.outgoing.now c.args.others.now c.loop-place.place c.if-outgoing-others.false c.loop-place-test.false c.loop-place.invariant,
  λ h. refl,
)
