use Rattle.std.proofs.Common.{◌∙◌, ap, arith, take_all}
use Rattle.std.proofs.lemmas.List.{length-map}
use Rattle.pg_world_packets.specs.Pending.{lent_as, pending_among}
use Rattle.pg_world_config.specs.Seen.{seen_of}
use Rattle.pg_world_packets.proofs.Listed.{next_home}
use Rattle.pg_world_packets.proofs.pending.pending_among.Goals as goal

pub loop-place-init : goal.loop-place-init
loop-place-init g c = c.new-pids.ensures.items

pub loop-place-preserved : goal.loop-place-preserved
loop-place-preserved g c = c.in_ok-add_pending.ensures
    ∙ next_home c.args.left.now c.loop-place.place c.index-left-place.result c.loop-place.pids.items c.loop-place-test.true c.index-left-place.is c.loop-place.invariant

pub returns : goal.returns
returns g c =
    let left = lent_as c.args.left.now in
    let e = c.loop-place.auto.place-end in
    let f = c.loop-place-test.false in
    let many = length-map c.args.left.now (λ node. seen_of node.now) in
    c.loop-place.invariant ∙ ap (pending_among left) (take_all c.loop-place.place left (omega (arith, e, f, many)))
