use Rattle.std.proofs.Common.{◌<◌, ◌∙◌, ◌++◌, length, Ok, Err, sym, ap, arith, subst}
use Rattle.std.specs.Prelude.{slice_set}
use Rattle.std.proofs.lemmas.List.{length-map}
use Rattle.pg_node_state.specs.States.{state_of, answers_of}
use Rattle.pg_node_state.specs.PgStep.Step.{Retry}
use Rattle.pg_world_config.specs.Seen.{seen_of}
use Rattle.pg_world_packets.specs.Views.{ways_of, packets_to, traffic_in, HaveWayRoom, IsWhole}
use Rattle.pg_world_packets.proofs.Barred.{own_in}
use Rattle.pg_world_packets.proofs.Ported.{port_there, port_place}
use Rattle.pg_node_state.specs.PgStep.Machines.Machine.{Do}
use Rattle.std.specs.Prelude.{None, refl}
use Rattle.pg_world_packets.specs.Effects.{effect_by}
use Rattle.pg_world_packets.specs.Losing.{lost_of}
use Rattle.pg_world_packets.specs.Worlds.{view_of}
use Rattle.pg_world_packets.specs.declared.step.Stepped.TheVariants.{Happened}
use Rattle.pg_node_state.specs.declared.state.fault.NodeFault.TheVariants.{OutOfMemory}
use Rattle.pg_world_packets.proofs.Recording.{shows_all, view_is, grew_own}
use Rattle.pg_world_packets.proofs.Queued.{own_refused, own_happened}
use Rattle.pg_world_packets.proofs.Viewing.{is_set, seen_same, view_room, view_refused, seen_here, fit_ways, sent_nodes}
use Rattle.pg_world_packets.proofs.Viewing.{sent_view, sent_whole, sent_there, sent_others, whole_as, way_as}
use Rattle.pg_world_packets.proofs.world.FrameNodes.retry.Goals as goal

pub invariant_of-self : goal.invariant_of-self
invariant_of-self g c =
    let nodes = c.args.self.now.nodes.items in
    let outs = c.args.self.now.outgoing.items in
    let whole = c.args.self.now.whole in
    let within = port_there nodes c.args.node c.args.op.port c.requires.port in
    let inside : c.args.node < length outs = omega (arith, within, whole.rows, length-map outs ways_of, length-map nodes seen_of) in
    let outs1 = slice_set outs c.args.node c.make_room.new.self in
    let room = view_room nodes outs c.args.node c.index_mut-outgoing.result.now c.make_room.new.self inside c.index_mut-outgoing.ensures.value c.make_room.ensures.same in
    record { whole = subst IsWhole (sym room) whole }

pub returns-in-Err-clause-err : goal.returns-in-Err-clause-err
returns-in-Err-clause-err g c =
    let nodes = c.args.self.now.nodes.items in
    let outs = c.args.self.now.outgoing.items in
    let whole = c.args.self.now.whole in
    let within = port_there nodes c.args.node c.args.op.port c.requires.port in
    let inside : c.args.node < length outs = omega (arith, within, whole.rows, length-map outs ways_of, length-map nodes seen_of) in
    let outs1 = slice_set outs c.args.node c.make_room.new.self in
    let room = view_room nodes outs c.args.node c.index_mut-outgoing.result.now c.make_room.new.self inside c.index_mut-outgoing.ensures.value c.make_room.ensures.same in
    view_is _ _ room refl

pub index_mut-state-requires : goal.index_mut-state-requires
index_mut-state-requires g c =
    let nodes = c.args.self.now.nodes.items in
    let outs = c.args.self.now.outgoing.items in
    let whole = c.args.self.now.whole in
    let within = port_there nodes c.args.node c.args.op.port c.requires.port in
    let inside : c.args.node < length outs = omega (arith, within, whole.rows, length-map outs ways_of, length-map nodes seen_of) in
    omega (arith, within, c.args.self.now.nodes.ok)

pub retry-requires : goal.retry-requires
retry-requires g c =
    let nodes = c.args.self.now.nodes.items in
    let outs = c.args.self.now.outgoing.items in
    let whole = c.args.self.now.whole in
    let within = port_there nodes c.args.node c.args.op.port c.requires.port in
    let inside : c.args.node < length outs = omega (arith, within, whole.rows, length-map outs ways_of, length-map nodes seen_of) in
    let state = c.index_mut-state.result.now in
    let here = c.index_mut-state.ensures.value in
    record { place = port_place nodes c.args.node c.args.op.port c.requires.port state (seen_here nodes outs c.args.node whole within state here) }

pub index_mut-outgoing-requires-in-Ok-retry : goal.index_mut-outgoing-requires-in-Ok-retry
index_mut-outgoing-requires-in-Ok-retry g c =
    let nodes = c.args.self.now.nodes.items in
    let outs = c.args.self.now.outgoing.items in
    let whole = c.args.self.now.whole in
    let within = port_there nodes c.args.node c.args.op.port c.requires.port in
    let inside : c.args.node < length outs = omega (arith, within, whole.rows, length-map outs ways_of, length-map nodes seen_of) in
    omega (arith, inside, c.args.self.now.outgoing.ok)

pub send_all-requires-clause-fit : goal.send_all-requires-clause-fit
send_all-requires-clause-fit g c =
    let nodes = c.args.self.now.nodes.items in
    let outs = c.args.self.now.outgoing.items in
    let whole = c.args.self.now.whole in
    let within = port_there nodes c.args.node c.args.op.port c.requires.port in
    let inside : c.args.node < length outs = omega (arith, within, whole.rows, length-map outs ways_of, length-map nodes seen_of) in
    let outs1 = slice_set outs c.args.node c.make_room.new.self in
    let room = view_room nodes outs c.args.node c.index_mut-outgoing.result.now c.make_room.new.self inside c.index_mut-outgoing.ensures.value c.make_room.ensures.same in
    let state = c.index_mut-state.result.now in
    let here = c.index_mut-state.ensures.value in
    let after = c.retry.new.self in
    let out = c.index_mut-outgoing-in-Ok-retry.result.now in
    let there = c.index_mut-outgoing-in-Ok-retry.ensures.value in
    let sends = c.in-Ok-retry.done.sends.items in
    let whole1 = whole_as nodes outs outs1 room whole in
    fit_ways nodes outs1 c.args.node whole1 within state here out sends there c.in-Ok-retry.ensures.fits

pub send_all-requires-clause-room : goal.send_all-requires-clause-room
send_all-requires-clause-room g c =
    let nodes = c.args.self.now.nodes.items in
    let outs = c.args.self.now.outgoing.items in
    let whole = c.args.self.now.whole in
    let within = port_there nodes c.args.node c.args.op.port c.requires.port in
    let inside : c.args.node < length outs = omega (arith, within, whole.rows, length-map outs ways_of, length-map nodes seen_of) in
    subst HaveWayRoom (is_set outs c.args.node c.make_room.new.self c.index_mut-outgoing-in-Ok-retry.result.now inside c.index_mut-outgoing-in-Ok-retry.ensures.value) c.in-Ok.ensures.room

pub invariant_of-self-in-Ok-retry : goal.invariant_of-self-in-Ok-retry
invariant_of-self-in-Ok-retry g c =
    let nodes = c.args.self.now.nodes.items in
    let outs = c.args.self.now.outgoing.items in
    let whole = c.args.self.now.whole in
    let within = port_there nodes c.args.node c.args.op.port c.requires.port in
    let inside : c.args.node < length outs = omega (arith, within, whole.rows, length-map outs ways_of, length-map nodes seen_of) in
    let outs1 = slice_set outs c.args.node c.make_room.new.self in
    let room = view_room nodes outs c.args.node c.index_mut-outgoing.result.now c.make_room.new.self inside c.index_mut-outgoing.ensures.value c.make_room.ensures.same in
    let state = c.index_mut-state.result.now in
    let here = c.index_mut-state.ensures.value in
    let after = c.retry.new.self in
    let out = c.index_mut-outgoing-in-Ok-retry.result.now in
    let there = c.index_mut-outgoing-in-Ok-retry.ensures.value in
    let sends = c.in-Ok-retry.done.sends.items in
    let whole1 = whole_as nodes outs outs1 room whole in
    record { whole = sent_whole nodes outs1 c.args.node whole1 within state here after out c.send_all.new.self sends c.in-Ok-retry.ensures.stays.names there c.send_all.ensures.len c.send_all.ensures.sent }

pub invariant_of-self-in-Err-retry : goal.invariant_of-self-in-Err-retry
invariant_of-self-in-Err-retry g c =
    let nodes = c.args.self.now.nodes.items in
    let outs = c.args.self.now.outgoing.items in
    let whole = c.args.self.now.whole in
    let within = port_there nodes c.args.node c.args.op.port c.requires.port in
    let inside : c.args.node < length outs = omega (arith, within, whole.rows, length-map outs ways_of, length-map nodes seen_of) in
    let state = c.index_mut-state.result.now in
    let here = c.index_mut-state.ensures.value in
    let after = c.retry.new.self in
    let seen = seen_same nodes outs state after c.in-Err-retry.ensures.stays.names c.in-Err-retry.ensures.stays.ports c.in-Err-retry.ensures.stays.state c.in-Err-retry.ensures.stays.answers in
    let same = view_refused nodes outs c.args.node c.index_mut-outgoing.result.now c.make_room.new.self state after inside c.index_mut-outgoing.ensures.value c.make_room.ensures.same within here seen in
    record { whole = subst IsWhole (sym same) whole }

pub returns-in-Err-retry-clause-err : goal.returns-in-Err-retry-clause-err
returns-in-Err-retry-clause-err g c =
    let nodes = c.args.self.now.nodes.items in
    let outs = c.args.self.now.outgoing.items in
    let whole = c.args.self.now.whole in
    let within = port_there nodes c.args.node c.args.op.port c.requires.port in
    let inside : c.args.node < length outs = omega (arith, within, whole.rows, length-map outs ways_of, length-map nodes seen_of) in
    let state = c.index_mut-state.result.now in
    let here = c.index_mut-state.ensures.value in
    let after = c.retry.new.self in
    let seen = seen_same nodes outs state after c.in-Err-retry.ensures.stays.names c.in-Err-retry.ensures.stays.ports c.in-Err-retry.ensures.stays.state c.in-Err-retry.ensures.stays.answers in
    let same = view_refused nodes outs c.args.node c.index_mut-outgoing.result.now c.make_room.new.self state after inside c.index_mut-outgoing.ensures.value c.make_room.ensures.same within here seen in
    view_is _ _ same refl

pub returns-in-Err-clause-losing : goal.returns-in-Err-clause-losing
returns-in-Err-clause-losing g c = λ config u shown.
    own_in config (view_of c.args.self.now) _ u (lost_of c.args.self.now) _ shown refl (Err OutOfMemory) (λ e. absurd (cc)) (returns-in-Err-clause-err g c) c.args.node (Retry c.args.op) c.requires.port c.requires.lives
    tt

pub returns-in-Ok-retry-clause-losing : goal.returns-in-Ok-retry-clause-losing
returns-in-Ok-retry-clause-losing g c =
    let nodes = c.args.self.now.nodes.items in
    let outs = c.args.self.now.outgoing.items in
    let whole = c.args.self.now.whole in
    let within = port_there nodes c.args.node c.args.op.port c.requires.port in
    let inside : c.args.node < length outs = omega (arith, within, whole.rows, length-map outs ways_of, length-map nodes seen_of) in
    let outs1 = slice_set outs c.args.node c.make_room.new.self in
    let room = view_room nodes outs c.args.node c.index_mut-outgoing.result.now c.make_room.new.self inside c.index_mut-outgoing.ensures.value c.make_room.ensures.same in
    let state = c.index_mut-state.result.now in
    let here = c.index_mut-state.ensures.value in
    let after = c.retry.new.self in
    let out = c.index_mut-outgoing-in-Ok-retry.result.now in
    let there = c.index_mut-outgoing-in-Ok-retry.ensures.value in
    let sends = c.in-Ok-retry.done.sends.items in
    let whole1 = whole_as nodes outs outs1 room whole in
    λ config u shown.
    let w = shown.frames in
    let shows = shown.shows in
    own_in config (view_of c.args.self.now) _ u (lost_of c.args.self.now) _ shown refl (Ok (Happened c.of-effect.result)) (λ e. absurd (cc)) tt c.args.node (Retry c.args.op) c.requires.port c.requires.lives
    (shows_all config (view_of c.args.self.now) _ w (Do c.args.node (Retry c.args.op)) c.args.node None c.in-Ok-retry.done.began (effect_by c.in-Ok-retry.done) c.of-effect.result c.of-effect.ensures shows
    (grew_own (view_of c.args.self.now).account _ c.args.node c.in-Ok-retry.done.began c.send_all.result c.send_all.ensures.began c.begin.ensures.history c.begin.ensures.applied c.begin.ensures.marked)
    (own_happened config (traffic_in nodes outs) w c.args.node (Retry c.args.op) (seen_of state) shows.traffic (seen_here nodes outs c.args.node whole within state here)
    (sent_view nodes outs1 c.args.node whole1 within state here after out c.send_all.new.self sends c.in-Ok-retry.ensures.stays.names there c.send_all.ensures.len c.send_all.ensures.sent) (seen_of after) c.in-Ok-retry.done (sent_nodes nodes outs1 c.args.node whole1 within state here after out c.send_all.new.self sends c.in-Ok-retry.ensures.stays.names there c.send_all.ensures.len c.send_all.ensures.sent) c.in-Ok-retry.ensures.stays.names c.in-Ok-retry.ensures.stays.ports c.in-Ok-retry.ensures.fits
    (λ k. sent_there nodes outs1 c.args.node whole1 within state here after out c.send_all.new.self sends c.in-Ok-retry.ensures.stays.names there c.send_all.ensures.len c.send_all.ensures.sent k ∙ ap (λ xs. xs ++ packets_to sends k) (way_as nodes outs outs1 room c.args.node k))
    (λ x n k. sent_others nodes outs1 c.args.node whole1 within state here after out c.send_all.new.self sends c.in-Ok-retry.ensures.stays.names there c.send_all.ensures.len c.send_all.ensures.sent x n k ∙ way_as nodes outs outs1 room x k)
    c.in-Ok-retry.ensures.event))

pub returns-in-Err-retry-clause-losing : goal.returns-in-Err-retry-clause-losing
returns-in-Err-retry-clause-losing g c =
    let nodes = c.args.self.now.nodes.items in
    let outs = c.args.self.now.outgoing.items in
    let whole = c.args.self.now.whole in
    let within = port_there nodes c.args.node c.args.op.port c.requires.port in
    let inside : c.args.node < length outs = omega (arith, within, whole.rows, length-map outs ways_of, length-map nodes seen_of) in
    let state = c.index_mut-state.result.now in
    let here = c.index_mut-state.ensures.value in
    λ config u shown.
    let w = shown.frames in
    let shows = shown.shows in
    own_in config (view_of c.args.self.now) _ u (lost_of c.args.self.now) _ shown refl (Err c.in-Err-retry.fault) (λ e. absurd (cc)) (returns-in-Err-retry-clause-err g c) c.args.node (Retry c.args.op) c.requires.port c.requires.lives
    (own_refused config (traffic_in nodes outs) w c.args.node (Retry c.args.op) (seen_of state) shows.traffic (seen_here nodes outs c.args.node whole within state here)
    c.in-Err-retry.fault (state_of c.retry.new.self) (answers_of state) (answers_of c.retry.new.self) _ c.in-Err-retry.ensures.event)
