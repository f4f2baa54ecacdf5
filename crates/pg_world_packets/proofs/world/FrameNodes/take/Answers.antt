use Rattle.std.proofs.Common.{◌≡◌, ◌<◌, ◌+◌, ◌∙◌, ◌++◌, get_or, drop, length, [], Ok, Err, sym, ap, subst}
use Rattle.std.specs.Prelude.{slice_set}
use Rattle.std.proofs.lemmas.List.{get_or-set_other}
use Rattle.pg_node_state.specs.PgNodeOpens.Places.{name_at}
use Rattle.pg_node_state.specs.PgStep.Step.{step_take}
use Rattle.pg_node_state.specs.States.{names_of, nodes_of, state_of, answers_of, Comes}
use Rattle.pg_node_state.specs.PgNodeSends.contracts.sends.VecTuple2UsizePacketOutgoing.TheImpl as packets
use Rattle.pg_node_state.specs.PgNodeSends.Sent.{stamped_of}
use Rattle.pg_world_config.specs.Seen.{seen_of}
use Rattle.pg_world_packets.specs.Views.{ways_of, packets_to, next_packet_of, traffic_in, peer_place, HaveWayRoom, IsWhole}
use Rattle.pg_world_packets.proofs.Taking.{taker_there, row_there, apart, taker_place, sender_place}
use Rattle.pg_world_packets.proofs.Barred.{take_in}
use Rattle.pg_world_packets.proofs.Taking.{sender_way, passed_whole, passed_here, passed_else}
use Rattle.pg_node_state.specs.PgStep.Machines.Machine.{Take}
use Rattle.std.specs.Prelude.{refl}
use Rattle.pg_world_packets.specs.Effects.{effect_by}
use Rattle.pg_world_packets.specs.Losing.{lost_of}
use Rattle.pg_world_packets.specs.Worlds.{view_of}
use Rattle.pg_world_packets.specs.declared.step.Stepped.TheVariants.{Nothing, Happened}
use Rattle.pg_node_state.specs.declared.state.fault.NodeFault.TheVariants.{OutOfMemory}
use Rattle.pg_world_account.specs.Histories.{account_of, update_asked_by}
use Rattle.pg_world_packets.proofs.Recording.{shows_all, view_is, grew_taken}
use Rattle.pg_world_packets.proofs.Queued.{take_nothing, take_refused, take_happened}
use Rattle.pg_world_packets.proofs.Viewing.{is_set, seen_same, view_room, view_refused, seen_here, fit_ways, sent_nodes}
use Rattle.pg_world_packets.proofs.Viewing.{sent_view, sent_whole, sent_there, sent_others, whole_as, way_as}
use Rattle.pg_world_packets.proofs.world.FrameNodes.take.Goals as goal

pub invariant_of-self : goal.invariant_of-self
invariant_of-self g c =
    let nodes = c.args.self.now.nodes.items in
    let outs = c.args.self.now.outgoing.items in
    let whole = c.args.self.now.whole in
    let node = c.args.node in
    let peer = c.args.peer in
    let within = taker_there nodes outs whole node peer c.requires.pair in
    let inside = row_there nodes outs whole node peer c.requires.pair in
    let outs1 = slice_set outs node c.make_room.new.self in
    let room = view_room nodes outs node c.index_mut-outgoing.result.now c.make_room.new.self inside c.index_mut-outgoing.ensures.value c.make_room.ensures.same in
    let whole1 = whole_as nodes outs outs1 room whole in
    record { whole = whole1 }

pub returns-in-Err-clause-err : goal.returns-in-Err-clause-err
returns-in-Err-clause-err g c =
    let nodes = c.args.self.now.nodes.items in
    let outs = c.args.self.now.outgoing.items in
    let whole = c.args.self.now.whole in
    let node = c.args.node in
    let peer = c.args.peer in
    let within = taker_there nodes outs whole node peer c.requires.pair in
    let inside = row_there nodes outs whole node peer c.requires.pair in
    let outs1 = slice_set outs node c.make_room.new.self in
    let room = view_room nodes outs node c.index_mut-outgoing.result.now c.make_room.new.self inside c.index_mut-outgoing.ensures.value c.make_room.ensures.same in
    let whole1 = whole_as nodes outs outs1 room whole in
    view_is _ _ room refl

pub returns-in-Err-make_room-clause-err : goal.returns-in-Err-make_room-clause-err
returns-in-Err-make_room-clause-err g c =
    let nodes = c.args.self.now.nodes.items in
    let outs = c.args.self.now.outgoing.items in
    let whole = c.args.self.now.whole in
    let node = c.args.node in
    let peer = c.args.peer in
    let within = taker_there nodes outs whole node peer c.requires.pair in
    let inside = row_there nodes outs whole node peer c.requires.pair in
    let outs1 = slice_set outs node c.make_room.new.self in
    let room = view_room nodes outs node c.index_mut-outgoing.result.now c.make_room.new.self inside c.index_mut-outgoing.ensures.value c.make_room.ensures.same in
    let whole1 = whole_as nodes outs outs1 room whole in
    view_is _ _ room c.make_room-in-Some.ensures.account

pub invariant_of-self-in-Err-make_room : goal.invariant_of-self-in-Err-make_room
invariant_of-self-in-Err-make_room g c =
    let nodes = c.args.self.now.nodes.items in
    let outs = c.args.self.now.outgoing.items in
    let whole = c.args.self.now.whole in
    let node = c.args.node in
    let peer = c.args.peer in
    let within = taker_there nodes outs whole node peer c.requires.pair in
    let inside = row_there nodes outs whole node peer c.requires.pair in
    let outs1 = slice_set outs node c.make_room.new.self in
    let room = view_room nodes outs node c.index_mut-outgoing.result.now c.make_room.new.self inside c.index_mut-outgoing.ensures.value c.make_room.ensures.same in
    let whole1 = whole_as nodes outs outs1 room whole in
    record { whole = whole1 }

pub first-requires : goal.first-requires
first-requires g c =
    let nodes = c.args.self.now.nodes.items in
    let outs = c.args.self.now.outgoing.items in
    let whole = c.args.self.now.whole in
    let node = c.args.node in
    let peer = c.args.peer in
    let within = taker_there nodes outs whole node peer c.requires.pair in
    let inside = row_there nodes outs whole node peer c.requires.pair in
    let outs1 = slice_set outs node c.make_room.new.self in
    let room = view_room nodes outs node c.index_mut-outgoing.result.now c.make_room.new.self inside c.index_mut-outgoing.ensures.value c.make_room.ensures.same in
    let whole1 = whole_as nodes outs outs1 room whole in
    let sender = c.index-sender.result.now in
    let there = c.index-sender.ensures in
    record { place = subst (λ k. k < length (ways_of sender)) (sym c.peer_place.ensures) (sender_place nodes outs1 whole1 node peer c.requires.pair sender there) }

pub invariant_of-self-in-None : goal.invariant_of-self-in-None
invariant_of-self-in-None g c =
    let nodes = c.args.self.now.nodes.items in
    let outs = c.args.self.now.outgoing.items in
    let whole = c.args.self.now.whole in
    let node = c.args.node in
    let peer = c.args.peer in
    let within = taker_there nodes outs whole node peer c.requires.pair in
    let inside = row_there nodes outs whole node peer c.requires.pair in
    let outs1 = slice_set outs node c.make_room.new.self in
    let room = view_room nodes outs node c.index_mut-outgoing.result.now c.make_room.new.self inside c.index_mut-outgoing.ensures.value c.make_room.ensures.same in
    let whole1 = whole_as nodes outs outs1 room whole in
    record { whole = whole1 }

pub take-requires-clause-place : goal.take-requires-clause-place
take-requires-clause-place g c =
    let nodes = c.args.self.now.nodes.items in
    let outs = c.args.self.now.outgoing.items in
    let whole = c.args.self.now.whole in
    let node = c.args.node in
    let peer = c.args.peer in
    let within = taker_there nodes outs whole node peer c.requires.pair in
    let inside = row_there nodes outs whole node peer c.requires.pair in
    let outs1 = slice_set outs node c.make_room.new.self in
    let room = view_room nodes outs node c.index_mut-outgoing.result.now c.make_room.new.self inside c.index_mut-outgoing.ensures.value c.make_room.ensures.same in
    let whole1 = whole_as nodes outs outs1 room whole in
    let state = c.index_mut-state.result.now in
    let here = c.index_mut-state.ensures.value in
    subst (λ k. k + 1 < length (names_of state)) (sym c.peer_place-in-Some.ensures) (taker_place nodes outs whole node peer c.requires.pair state here)

pub send_all-requires-clause-fit : goal.send_all-requires-clause-fit
send_all-requires-clause-fit g c =
    let nodes = c.args.self.now.nodes.items in
    let outs = c.args.self.now.outgoing.items in
    let whole = c.args.self.now.whole in
    let node = c.args.node in
    let peer = c.args.peer in
    let within = taker_there nodes outs whole node peer c.requires.pair in
    let inside = row_there nodes outs whole node peer c.requires.pair in
    let outs1 = slice_set outs node c.make_room.new.self in
    let room = view_room nodes outs node c.index_mut-outgoing.result.now c.make_room.new.self inside c.index_mut-outgoing.ensures.value c.make_room.ensures.same in
    let whole1 = whole_as nodes outs outs1 room whole in
    let state = c.index_mut-state.result.now in
    let here = c.index_mut-state.ensures.value in
    let from = c.index_mut-sender.result.now in
    let fromthere = c.index_mut-sender.ensures.value in
    let passed = c.pass.new.self in
    let is = subst (λ k. ways_of passed ≡ slice_set (ways_of from) k (drop 1 (get_or (ways_of from) k []))) c.peer_place-in-Ok-take.ensures c.pass.ensures in
    let outs2 = slice_set outs1 peer passed in
    let whole2 = passed_whole nodes outs1 whole1 node peer c.requires.pair from fromthere passed is in
    let after = c.take.new.self in
    let out = c.index_mut-outgoing-in-Ok-take.result.now in
    let outthere = c.index_mut-outgoing-in-Ok-take.ensures.value in
    let sends = c.in-Ok-take.done.sends.items in
    let apart = apart nodes outs whole node peer c.requires.pair in
    fit_ways nodes outs2 node whole2 within state here out sends outthere c.in-Ok-take.ensures.fits

pub send_all-requires-clause-room : goal.send_all-requires-clause-room
send_all-requires-clause-room g c =
    let nodes = c.args.self.now.nodes.items in
    let outs = c.args.self.now.outgoing.items in
    let whole = c.args.self.now.whole in
    let node = c.args.node in
    let peer = c.args.peer in
    let within = taker_there nodes outs whole node peer c.requires.pair in
    let inside = row_there nodes outs whole node peer c.requires.pair in
    let outs1 = slice_set outs node c.make_room.new.self in
    let room = view_room nodes outs node c.index_mut-outgoing.result.now c.make_room.new.self inside c.index_mut-outgoing.ensures.value c.make_room.ensures.same in
    let whole1 = whole_as nodes outs outs1 room whole in
    let state = c.index_mut-state.result.now in
    let here = c.index_mut-state.ensures.value in
    let from = c.index_mut-sender.result.now in
    let fromthere = c.index_mut-sender.ensures.value in
    let passed = c.pass.new.self in
    let is = subst (λ k. ways_of passed ≡ slice_set (ways_of from) k (drop 1 (get_or (ways_of from) k []))) c.peer_place-in-Ok-take.ensures c.pass.ensures in
    let outs2 = slice_set outs1 peer passed in
    let whole2 = passed_whole nodes outs1 whole1 node peer c.requires.pair from fromthere passed is in
    let after = c.take.new.self in
    let out = c.index_mut-outgoing-in-Ok-take.result.now in
    let outthere = c.index_mut-outgoing-in-Ok-take.ensures.value in
    let sends = c.in-Ok-take.done.sends.items in
    let apart = apart nodes outs whole node peer c.requires.pair in
    subst HaveWayRoom (is_set outs node c.make_room.new.self out inside (outthere ∙ get_or-set_other outs1 peer node passed out (λ e. apart (sym e)))) c.in-Ok.ensures.room

pub invariant_of-self-in-Ok-take : goal.invariant_of-self-in-Ok-take
invariant_of-self-in-Ok-take g c =
    let nodes = c.args.self.now.nodes.items in
    let outs = c.args.self.now.outgoing.items in
    let whole = c.args.self.now.whole in
    let node = c.args.node in
    let peer = c.args.peer in
    let within = taker_there nodes outs whole node peer c.requires.pair in
    let inside = row_there nodes outs whole node peer c.requires.pair in
    let outs1 = slice_set outs node c.make_room.new.self in
    let room = view_room nodes outs node c.index_mut-outgoing.result.now c.make_room.new.self inside c.index_mut-outgoing.ensures.value c.make_room.ensures.same in
    let whole1 = whole_as nodes outs outs1 room whole in
    let state = c.index_mut-state.result.now in
    let here = c.index_mut-state.ensures.value in
    let from = c.index_mut-sender.result.now in
    let fromthere = c.index_mut-sender.ensures.value in
    let passed = c.pass.new.self in
    let is = subst (λ k. ways_of passed ≡ slice_set (ways_of from) k (drop 1 (get_or (ways_of from) k []))) c.peer_place-in-Ok-take.ensures c.pass.ensures in
    let outs2 = slice_set outs1 peer passed in
    let whole2 = passed_whole nodes outs1 whole1 node peer c.requires.pair from fromthere passed is in
    let after = c.take.new.self in
    let out = c.index_mut-outgoing-in-Ok-take.result.now in
    let outthere = c.index_mut-outgoing-in-Ok-take.ensures.value in
    let sends = c.in-Ok-take.done.sends.items in
    let apart = apart nodes outs whole node peer c.requires.pair in
    record { whole = sent_whole nodes outs2 node whole2 within state here after out c.send_all.new.self sends c.in-Ok-take.ensures.stays.names outthere c.send_all.ensures.len c.send_all.ensures.sent }

pub invariant_of-self-in-Err-take : goal.invariant_of-self-in-Err-take
invariant_of-self-in-Err-take g c =
    let nodes = c.args.self.now.nodes.items in
    let outs = c.args.self.now.outgoing.items in
    let whole = c.args.self.now.whole in
    let node = c.args.node in
    let peer = c.args.peer in
    let within = taker_there nodes outs whole node peer c.requires.pair in
    let inside = row_there nodes outs whole node peer c.requires.pair in
    let outs1 = slice_set outs node c.make_room.new.self in
    let room = view_room nodes outs node c.index_mut-outgoing.result.now c.make_room.new.self inside c.index_mut-outgoing.ensures.value c.make_room.ensures.same in
    let whole1 = whole_as nodes outs outs1 room whole in
    let state = c.index_mut-state.result.now in
    let here = c.index_mut-state.ensures.value in
    let after = c.take.new.self in
    let seen = seen_same nodes outs state after c.in-Err-take.ensures.stays.names c.in-Err-take.ensures.stays.ports c.in-Err-take.ensures.stays.state c.in-Err-take.ensures.stays.answers in
    let same = view_refused nodes outs node c.index_mut-outgoing.result.now c.make_room.new.self state after inside c.index_mut-outgoing.ensures.value c.make_room.ensures.same within here seen in
    record { whole = subst IsWhole (sym same) whole }

pub returns-in-None-clause-nothing : goal.returns-in-None-clause-nothing
returns-in-None-clause-nothing g c =
    let nodes = c.args.self.now.nodes.items in
    let outs = c.args.self.now.outgoing.items in
    let whole = c.args.self.now.whole in
    let node = c.args.node in
    let peer = c.args.peer in
    let within = taker_there nodes outs whole node peer c.requires.pair in
    let inside = row_there nodes outs whole node peer c.requires.pair in
    let outs1 = slice_set outs node c.make_room.new.self in
    let room = view_room nodes outs node c.index_mut-outgoing.result.now c.make_room.new.self inside c.index_mut-outgoing.ensures.value c.make_room.ensures.same in
    let whole1 = whole_as nodes outs outs1 room whole in
    λ _. view_is _ _ room refl

pub returns-in-Err-take-clause-err : goal.returns-in-Err-take-clause-err
returns-in-Err-take-clause-err g c =
    let nodes = c.args.self.now.nodes.items in
    let outs = c.args.self.now.outgoing.items in
    let whole = c.args.self.now.whole in
    let node = c.args.node in
    let peer = c.args.peer in
    let within = taker_there nodes outs whole node peer c.requires.pair in
    let inside = row_there nodes outs whole node peer c.requires.pair in
    let outs1 = slice_set outs node c.make_room.new.self in
    let room = view_room nodes outs node c.index_mut-outgoing.result.now c.make_room.new.self inside c.index_mut-outgoing.ensures.value c.make_room.ensures.same in
    let whole1 = whole_as nodes outs outs1 room whole in
    let state = c.index_mut-state.result.now in
    let here = c.index_mut-state.ensures.value in
    let after = c.take.new.self in
    let seen = seen_same nodes outs state after c.in-Err-take.ensures.stays.names c.in-Err-take.ensures.stays.ports c.in-Err-take.ensures.stays.state c.in-Err-take.ensures.stays.answers in
    let same = view_refused nodes outs node c.index_mut-outgoing.result.now c.make_room.new.self state after inside c.index_mut-outgoing.ensures.value c.make_room.ensures.same within here seen in
    view_is _ _ same c.make_room-in-Some.ensures.account

pub returns-in-Err-clause-losing : goal.returns-in-Err-clause-losing
returns-in-Err-clause-losing g c = λ config u shown.
    take_in config (view_of c.args.self.now) _ u (lost_of c.args.self.now) _ shown refl (Err OutOfMemory) (λ e. absurd (cc)) (returns-in-Err-clause-err g c) c.args.node c.args.peer c.requires.pair c.requires.lives
    tt

pub returns-in-Err-make_room-clause-losing : goal.returns-in-Err-make_room-clause-losing
returns-in-Err-make_room-clause-losing g c = λ config u shown.
    take_in config (view_of c.args.self.now) _ u (lost_of c.args.self.now) _ shown refl (Err OutOfMemory) (λ e. absurd (cc)) (returns-in-Err-make_room-clause-err g c) c.args.node c.args.peer c.requires.pair c.requires.lives
    tt

pub returns-in-None-clause-losing : goal.returns-in-None-clause-losing
returns-in-None-clause-losing g c =
    let nodes = c.args.self.now.nodes.items in
    let outs = c.args.self.now.outgoing.items in
    let whole = c.args.self.now.whole in
    let node = c.args.node in
    let peer = c.args.peer in
    let within = taker_there nodes outs whole node peer c.requires.pair in
    let inside = row_there nodes outs whole node peer c.requires.pair in
    let outs1 = slice_set outs node c.make_room.new.self in
    let room = view_room nodes outs node c.index_mut-outgoing.result.now c.make_room.new.self inside c.index_mut-outgoing.ensures.value c.make_room.ensures.same in
    let whole1 = whole_as nodes outs outs1 room whole in
    let sender = c.index-sender.result.now in
    let there = c.index-sender.ensures in
    let way = sender_way nodes outs1 whole1 node peer c.requires.pair sender there ∙ way_as nodes outs outs1 room peer (peer_place peer node) in
    λ config u shown.
    let w = shown.frames in
    let shows = shown.shows in
    take_in config (view_of c.args.self.now) _ u (lost_of c.args.self.now) _ shown refl (Ok Nothing) (returns-in-None-clause-nothing g c) tt node peer c.requires.pair c.requires.lives
    (take_nothing config (traffic_in nodes outs) w node peer shows.traffic c.requires.pair
    (c.in-None.ensures.first ∙ (ap (λ k. next_packet_of (get_or (ways_of sender) k [])) c.peer_place.ensures ∙ ap next_packet_of way)) (λ v. Unit {0}))

pub returns-in-Ok-take-clause-losing : goal.returns-in-Ok-take-clause-losing
returns-in-Ok-take-clause-losing g c =
    let nodes = c.args.self.now.nodes.items in
    let outs = c.args.self.now.outgoing.items in
    let whole = c.args.self.now.whole in
    let node = c.args.node in
    let peer = c.args.peer in
    let within = taker_there nodes outs whole node peer c.requires.pair in
    let inside = row_there nodes outs whole node peer c.requires.pair in
    let outs1 = slice_set outs node c.make_room.new.self in
    let room = view_room nodes outs node c.index_mut-outgoing.result.now c.make_room.new.self inside c.index_mut-outgoing.ensures.value c.make_room.ensures.same in
    let whole1 = whole_as nodes outs outs1 room whole in
    let sender = c.index-sender.result.now in
    let there = c.index-sender.ensures in
    let state = c.index_mut-state.result.now in
    let here = c.index_mut-state.ensures.value in
    let way = sender_way nodes outs1 whole1 node peer c.requires.pair sender there ∙ way_as nodes outs outs1 room peer (peer_place peer node) in
    let from = c.index_mut-sender.result.now in
    let fromthere = c.index_mut-sender.ensures.value in
    let passed = c.pass.new.self in
    let is = subst (λ k. ways_of passed ≡ slice_set (ways_of from) k (drop 1 (get_or (ways_of from) k []))) c.peer_place-in-Ok-take.ensures c.pass.ensures in
    let outs2 = slice_set outs1 peer passed in
    let whole2 = passed_whole nodes outs1 whole1 node peer c.requires.pair from fromthere passed is in
    let after = c.take.new.self in
    let out = c.index_mut-outgoing-in-Ok-take.result.now in
    let outthere = c.index_mut-outgoing-in-Ok-take.ensures.value in
    let sends = c.in-Ok-take.done.sends.items in
    let apart = apart nodes outs whole node peer c.requires.pair in
    λ config u shown.
    let w = shown.frames in
    let shows = shown.shows in
    take_in config (view_of c.args.self.now) _ u (lost_of c.args.self.now) _ shown refl (Ok (Happened c.of-effect.result)) (λ e. absurd (cc)) tt node peer c.requires.pair c.requires.lives
    (shows_all config (view_of c.args.self.now) _ w (Take node peer) node (update_asked_by c.in-Some.packet.now.message) c.in-Ok-take.done.began (effect_by c.in-Ok-take.done) c.of-effect.result c.of-effect.ensures shows
    (grew_taken (view_of c.args.self.now).account _ node (update_asked_by c.in-Some.packet.now.message) c.in-Ok-take.done.began c.send_all.result (account_of c.make_room-in-Some.new.self) (account_of c.serve.new.self) c.send_all.ensures.began
    c.make_room-in-Some.ensures.account c.serve.ensures.history c.serve.ensures.applied c.serve.ensures.marked c.begin.ensures.history c.begin.ensures.applied c.begin.ensures.marked)
    (take_happened config (traffic_in nodes outs) w node peer shows.traffic c.requires.pair (seen_of state) (seen_here nodes outs node whole within state here) (stamped_of c.in-Some.packet.now)
    (c.in-Some.ensures.first ∙ (ap (λ k. next_packet_of (get_or (ways_of sender) k [])) c.peer_place.ensures ∙ ap next_packet_of way))
    (sent_view nodes outs2 node whole2 within state here after out c.send_all.new.self sends c.in-Ok-take.ensures.stays.names outthere c.send_all.ensures.len c.send_all.ensures.sent) (seen_of after) c.in-Ok-take.done (sent_nodes nodes outs2 node whole2 within state here after out c.send_all.new.self sends c.in-Ok-take.ensures.stays.names outthere c.send_all.ensures.len c.send_all.ensures.sent) c.in-Ok-take.ensures.stays.names c.in-Ok-take.ensures.stays.ports c.in-Ok-take.ensures.fits
    (λ k. sent_there nodes outs2 node whole2 within state here after out c.send_all.new.self sends c.in-Ok-take.ensures.stays.names outthere c.send_all.ensures.len c.send_all.ensures.sent k ∙ ap (λ xs. xs ++ packets_to sends k) (passed_else nodes outs1 whole1 node peer c.requires.pair from fromthere passed is node k (λ both. apart (sym both.0)) ∙ way_as nodes outs outs1 room node k))
    (sent_others nodes outs2 node whole2 within state here after out c.send_all.new.self sends c.in-Ok-take.ensures.stays.names outthere c.send_all.ensures.len c.send_all.ensures.sent peer apart (peer_place peer node) ∙ (passed_here nodes outs1 whole1 node peer c.requires.pair from fromthere passed is ∙ ap (drop 1) (way_as nodes outs outs1 room peer (peer_place peer node))))
    (λ a k n other. sent_others nodes outs2 node whole2 within state here after out c.send_all.new.self sends c.in-Ok-take.ensures.stays.names outthere c.send_all.ensures.len c.send_all.ensures.sent a n k ∙ (passed_else nodes outs1 whole1 node peer c.requires.pair from fromthere passed is a k other ∙ way_as nodes outs outs1 room a k))
    (subst (λ k. Comes (names_of state) (step_take (nodes_of state) (name_at (names_of state) (k + 1)) (stamped_of c.in-Some.packet.now) (state_of state)) (Ok c.in-Ok-take.done) (state_of after) (answers_of state) (answers_of after))
    c.peer_place-in-Some.ensures c.in-Ok-take.ensures.event)))

pub returns-in-Err-take-clause-losing : goal.returns-in-Err-take-clause-losing
returns-in-Err-take-clause-losing g c =
    let nodes = c.args.self.now.nodes.items in
    let outs = c.args.self.now.outgoing.items in
    let whole = c.args.self.now.whole in
    let node = c.args.node in
    let peer = c.args.peer in
    let within = taker_there nodes outs whole node peer c.requires.pair in
    let inside = row_there nodes outs whole node peer c.requires.pair in
    let outs1 = slice_set outs node c.make_room.new.self in
    let room = view_room nodes outs node c.index_mut-outgoing.result.now c.make_room.new.self inside c.index_mut-outgoing.ensures.value c.make_room.ensures.same in
    let whole1 = whole_as nodes outs outs1 room whole in
    let sender = c.index-sender.result.now in
    let there = c.index-sender.ensures in
    let state = c.index_mut-state.result.now in
    let here = c.index_mut-state.ensures.value in
    let way = sender_way nodes outs1 whole1 node peer c.requires.pair sender there ∙ way_as nodes outs outs1 room peer (peer_place peer node) in
    λ config u shown.
    let w = shown.frames in
    let shows = shown.shows in
    take_in config (view_of c.args.self.now) _ u (lost_of c.args.self.now) _ shown refl (Err c.in-Err-take.fault) (λ e. absurd (cc)) (returns-in-Err-take-clause-err g c) node peer c.requires.pair c.requires.lives
    (take_refused config (traffic_in nodes outs) w node peer shows.traffic c.requires.pair (seen_of state) (seen_here nodes outs node whole within state here) (stamped_of c.in-Some.packet.now)
    (c.in-Some.ensures.first ∙ (ap (λ k. next_packet_of (get_or (ways_of sender) k [])) c.peer_place.ensures ∙ ap next_packet_of way))
    c.in-Err-take.fault (state_of c.take.new.self) (answers_of state) (answers_of c.take.new.self) _
    (subst (λ k. Comes {h = packets.ghosts} (names_of state) (step_take (nodes_of state) (name_at (names_of state) (k + 1)) (stamped_of c.in-Some.packet.now) (state_of state)) (Err c.in-Err-take.fault) (state_of c.take.new.self) (answers_of state) (answers_of c.take.new.self))
    c.peer_place-in-Some.ensures c.in-Err-take.ensures.event))
