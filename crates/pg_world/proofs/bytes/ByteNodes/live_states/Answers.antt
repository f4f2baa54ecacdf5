use Rattle.std.proofs.Common.{[], ◌∷◌, ◌++◌, ◌<◌, ◌∙◌, ap, arith, length, map, sym, take_all}
use Rattle.std.proofs.lemmas.List.{length-map, map-append}
use Rattle.pg_world.specs.Crossings.{node_of}
use Rattle.pg_world_packets.specs.PgWorldAccount.Losses.{lost_in}
use Rattle.pg_world_packets.specs.Pending.{live_from, lent_as}
use Rattle.pg_world_packets.specs.PgWorldConfig.Seen.{seen_of}
use Rattle.pg_world_packets.proofs.Listed.{next_left, next_lost}
use Rattle.pg_world.proofs.bytes.ByteNodes.live_states.Goals as goal
use Rattle.pg_world.proofs.bytes.ByteNodes.live_states.Goals.{then-not-has+in_ok-push, else-not-has}

pub loop-place-init : goal.loop-place-init
loop-place-init g c = ap lent_as c.new-left.ensures.items

pub loop-place-preserved : goal.loop-place-preserved
loop-place-preserved g c =
    let nodes = c.args.self.now.nodes.items in
    let lost = lost_in c.args.self.now.losses in
    let place = c.loop-place.place in
    let before = lent_as c.loop-place.left.items in
    let below = c.loop-place-test.true in
    let end = c.len-place-end.ensures in
    let ok = c.args.self.now.nodes.ok in
    let within : place < length nodes = omega (arith, below, end, ok) in
    elim c.if-not-has.branch [
      | then-not-has+in_ok-push w ↦
          ap (λ v. lent_as v.items) w.left-is ∙ ap lent_as w.in_ok-push.ensures.items ∙ map-append (λ node. seen_of node.now) c.loop-place.left.items (w.state.result ∷ []) ∙ ap (λ node. lent_as c.loop-place.left.items ++ seen_of node ∷ []) w.state.ensures
          ∙ next_left node_of nodes lost place w.index-over.result.now within w.index-over.ensures before c.loop-place.invariant (sym c.has.ensures ∙ w.if-not-has.true)
      | else-not-has w ↦ ap (λ v. lent_as v.items) w.left-is ∙ next_lost node_of nodes lost place within before c.loop-place.invariant (sym c.has.ensures ∙ w.if-not-has.false)
    ]

pub returns : goal.returns
returns g c =
    let nodes = c.args.self.now.nodes.items in
    let e = c.loop-place.auto.place-end in
    let f = c.loop-place-test.false in
    let end = c.len-place-end.ensures in
    let ok = c.args.self.now.nodes.ok in
    let many = length-map nodes node_of in
    c.loop-place.invariant ∙ ap (λ all. live_from 0 all (lost_in c.args.self.now.losses)) (take_all c.loop-place.place (map node_of nodes) (omega (arith, e, f, end, ok, many)))
