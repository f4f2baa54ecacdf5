use Rattle.std.proofs.Common.{◌≡◌, ◌<◌, ◌≤◌, ◌∙◌, List, length, map, refl, sym, arith}
use Rattle.pg_node_state.specs.PgMessageTypes.declared.message.Message.{Message}
use Rattle.pg_node_state.specs.PgStep.Machines.Clocked.{packets_of as unstamped}
use Rattle.pg_node_state.proofs.PgNodeOpens.Named.{clash}
use Rattle.pg_world_packets.specs.declared.way.Way.{Way}
use Rattle.pg_world_packets.specs.Views.{packets_of}
use Rattle.pg_world_account.proofs.Compared.{same_more, same_at, same_all, same_length, twice_length, twice_at}
use Rattle.pg_world_packets.proofs.ways.Ways.is_alike.Goals as goal

abbrev said : Way → List Message
said way = unstamped (packets_of way)

abbrev all_said : List Way → List (List Message)
all_said ways = map unstamped (map packets_of ways)

pub returns-then-len : goal.returns-then-len
returns-then-len c =
    let ways = c.args.self.now.ways in
    let others = c.args.other.now.ways in
    let ok = ways.ok in
    let other_ok = others.ok in (
      λ e. absurd (clash (sym e)),
      λ h.
          let same : length ways.items ≡ length others.items = same_length said all_said (twice_length packets_of unstamped) (twice_at packets_of unstamped) ways.items others.items h in
          absurd (omega (arith, same, ok, other_ok, c.len.ensures, c.len-2.ensures, c.if-len.true)),
    )

pub loop-place-preserved : goal.loop-place-preserved
loop-place-preserved c =
    let ways = c.args.self.now.ways in
    let others = c.args.other.now.ways in
    let place = c.loop-place.place in
    let ok = ways.ok in
    let other_ok = others.ok in
    let within : place < length ways.items = omega (arith, c.loop-place-test.true, c.loop-place.auto.place-end, c.len-place-end.ensures, ok) in
    let beside : place < length others.items = omega (arith, within, ok, other_ok, c.len.ensures, c.len-2.ensures, c.if-len.false) in
    same_more said all_said (twice_length packets_of unstamped) (twice_at packets_of unstamped) ways.items others.items place c.index-way.result.now c.index-twin.result.now within beside
    c.index-way.ensures c.index-twin.ensures (c.is_alike.ensures.0 c.if-not-is_alike.false) c.loop-place.invariant

pub returns-then-not-is_alike : goal.returns-then-not-is_alike
returns-then-not-is_alike c =
    let ways = c.args.self.now.ways in
    let others = c.args.other.now.ways in
    let place = c.loop-place.place in
    let ok = ways.ok in
    let other_ok = others.ok in
    let within : place < length ways.items = omega (arith, c.loop-place-test.true, c.loop-place.auto.place-end, c.len-place-end.ensures, ok) in
    let beside : place < length others.items = omega (arith, within, ok, other_ok, c.len.ensures, c.len-2.ensures, c.if-len.false) in (
      λ e. absurd (clash (sym e)),
      λ h. sym c.if-not-is_alike.true ∙ c.is_alike.ensures.1
          (same_at said all_said (twice_length packets_of unstamped) (twice_at packets_of unstamped) ways.items others.items place c.index-way.result.now c.index-twin.result.now within beside
          c.index-way.ensures c.index-twin.ensures h),
    )

pub returns : goal.returns
returns c =
    let ways = c.args.self.now.ways in
    let others = c.args.other.now.ways in
    let ok = ways.ok in
    let other_ok = others.ok in
    let count : length ways.items ≡ length others.items = omega (arith, ok, other_ok, c.len.ensures, c.len-2.ensures, c.if-len.false) in
    let past : length ways.items ≤ c.loop-place.place = omega (arith, ok, c.len-place-end.ensures, c.loop-place.auto.place-end, c.loop-place-test.false) in
    (λ e. same_all said all_said (twice_length packets_of unstamped) (twice_at packets_of unstamped) ways.items others.items c.loop-place.place count past c.loop-place.invariant, λ h. refl)
