use Rattle.std.proofs.Common.{◌≡◌, ◌+◌, ◌<◌, ◌∙◌, true, false, map, length, Ok, Err, refl, sym, ap, subst}
use Rattle.std.specs.Prelude.{slice_set}
use Rattle.std.proofs.lemmas.List.{map-set}
use Rattle.pg_node_state.specs.PgStep.Machines.Clocked.{Timed}
use Rattle.pg_node_state.specs.PgNodeOpens.Places.{name_at}
use Rattle.pg_node_state.specs.PgStep.State.{State}
use Rattle.pg_node_state.specs.PgNodeSends.contracts.sends.VecTuple2UsizePacketOutgoing.TheImpl as packets
use Rattle.pg_node_state.specs.States.{names_of, state_of, answers_of, step_see_loss, Comes}
use Rattle.pg_world_packets.specs.Losing.{lost_of}
use Rattle.pg_world_config.specs.Seen.{seen_of}
use Rattle.pg_world_packets.specs.Views.{ways_of, traffic_in}
use Rattle.pg_world_packets.specs.Worlds.{view_of}
use Rattle.pg_world_packets.proofs.Recording.{view_is}
use Rattle.pg_world_packets.proofs.Seeing.{packets_not_drained, seen_whole, packets_sight_refused, packets_sight_seen}
use Rattle.pg_world_packets.proofs.Taking.{taker_there, peer_there, taker_place}
use Rattle.pg_world_packets.proofs.Viewing.{map_same, seen_here, seen_same}
use Rattle.pg_world_packets.proofs.world.FrameNodes.see_loss.Goals as goal

pub returns-then-has_packet-clause-losing : goal.returns-then-has_packet-clause-losing
returns-then-has_packet-clause-losing g c = λ config u shows.
    let view = view_of c.args.self.now in
    let lost = lost_of c.args.self.now in (
      packets_not_drained config view view u c.args.node c.args.peer lost lost shows c.requires.pair c.requires.lives (sym c.has.ensures ∙ c.if-not-has.false)
          (λ none. let no : true ≡ false = sym c.if-has_packet.true ∙ c.has_packet.ensures.1 none in absurd (cc)),
      shows,
    )

pub see_loss-requires : goal.see_loss-requires
see_loss-requires g c =
    let state = c.index_mut-state.result.now in
    record { place = subst (λ k. k + 1 < length (names_of state)) (sym c.peer_place.ensures) (taker_place c.args.self.now.nodes.items c.args.self.now.outgoing.items c.args.self.now.whole c.args.node c.args.peer c.requires.pair state c.index_mut-state.ensures.value) }

pub invariant_of-self : goal.invariant_of-self
invariant_of-self g c =
    let nodes = c.args.self.now.nodes.items in
    let outs = c.args.self.now.outgoing.items in
    let whole = c.args.self.now.whole in
    let node = c.args.node in
    let peer = c.args.peer in
    let state = c.index_mut-state.result.now in
    let within = taker_there nodes outs whole node peer c.requires.pair in
    let here = seen_here nodes outs node whole within state c.index_mut-state.ensures.value in
    record { whole = seen_whole nodes outs node state c.see_loss.new.self whole here c.see_loss.ensures.stays.names }

pub returns-in-Ok-clause-losing : goal.returns-in-Ok-clause-losing
returns-in-Ok-clause-losing g c = λ config u shows.
    let nodes = c.args.self.now.nodes.items in
    let outs = c.args.self.now.outgoing.items in
    let whole = c.args.self.now.whole in
    let node = c.args.node in
    let peer = c.args.peer in
    let state = c.index_mut-state.result.now in
    let within = taker_there nodes outs whole node peer c.requires.pair in
    let here = seen_here nodes outs node whole within state c.index_mut-state.ensures.value in
    let view = view_of c.args.self.now in
    let lost = lost_of c.args.self.now in
    let gone = sym c.has.ensures ∙ c.if-not-has.false in
    let drained = c.has_packet.ensures.0 c.if-has_packet.false in
    let other = c.index-lost.result.now in
    let there = seen_here nodes outs peer whole (peer_there nodes outs whole node peer c.requires.pair) other c.index-lost.ensures in
    let clock : (shows.frames.node peer).clock ≡ c.clock-last.result = ap (λ (s : Timed State). s.clock) (shows.shows.traffic.nodes.each peer (seen_of other) there).state ∙ sym c.clock-last.ensures in
    let after = c.see_loss.new.self in
    packets_sight_seen config view _ u node peer lost lost shows c.requires.pair c.requires.lives gone drained (seen_of state) here c.clock-last.result clock refl
    (seen_of after) c.in-Ok.done (map-set seen_of nodes node after) c.in-Ok.ensures.stays.names c.in-Ok.ensures.stays.ports (λ x y. refl) refl
    (subst (λ k. Comes (names_of state) (step_see_loss (name_at (names_of state) (k + 1)) c.clock-last.result (state_of state)) (Ok c.in-Ok.done) (state_of after) (answers_of state) (answers_of after)) c.peer_place.ensures c.in-Ok.ensures.event)
    c.nothing.result c.nothing.ensures

pub returns-in-Err-clause-losing : goal.returns-in-Err-clause-losing
returns-in-Err-clause-losing g c = λ config u shows.
    let nodes = c.args.self.now.nodes.items in
    let outs = c.args.self.now.outgoing.items in
    let whole = c.args.self.now.whole in
    let node = c.args.node in
    let peer = c.args.peer in
    let state = c.index_mut-state.result.now in
    let within = taker_there nodes outs whole node peer c.requires.pair in
    let here = seen_here nodes outs node whole within state c.index_mut-state.ensures.value in
    let view = view_of c.args.self.now in
    let lost = lost_of c.args.self.now in
    let gone = sym c.has.ensures ∙ c.if-not-has.false in
    let drained = c.has_packet.ensures.0 c.if-has_packet.false in
    let other = c.index-lost.result.now in
    let there = seen_here nodes outs peer whole (peer_there nodes outs whole node peer c.requires.pair) other c.index-lost.ensures in
    let clock : (shows.frames.node peer).clock ≡ c.clock-last.result = ap (λ (s : Timed State). s.clock) (shows.shows.traffic.nodes.each peer (seen_of other) there).state ∙ sym c.clock-last.ensures in
    let after = c.see_loss.new.self in
    let seen = seen_same nodes outs state after c.in-Err.ensures.stays.names c.in-Err.ensures.stays.ports c.in-Err.ensures.stays.state c.in-Err.ensures.stays.answers in
    let same : traffic_in (slice_set nodes node after) outs ≡ traffic_in nodes outs = λ j. record { nodes = map_same seen_of nodes node state after within c.index_mut-state.ensures.value seen j; ways = map ways_of outs } in
    packets_sight_refused config view _ u node peer lost lost shows c.requires.pair c.requires.lives gone drained (seen_of state) here c.clock-last.result clock refl
    c.in-Err.fault (state_of after) (answers_of state) (answers_of after) (view_is _ _ same refl)
    (subst (λ k. Comes {h = packets.ghosts} (names_of state) (step_see_loss (name_at (names_of state) (k + 1)) c.clock-last.result (state_of state)) (Err c.in-Err.fault) (state_of after) (answers_of state) (answers_of after)) c.peer_place.ensures c.in-Err.ensures.event)

pub returns-in-Err-clause-err : goal.returns-in-Err-clause-err
returns-in-Err-clause-err g c =
    let nodes = c.args.self.now.nodes.items in
    let outs = c.args.self.now.outgoing.items in
    let whole = c.args.self.now.whole in
    let node = c.args.node in
    let peer = c.args.peer in
    let state = c.index_mut-state.result.now in
    let within = taker_there nodes outs whole node peer c.requires.pair in
    let here = seen_here nodes outs node whole within state c.index_mut-state.ensures.value in
    let after = c.see_loss.new.self in
    let seen = seen_same nodes outs state after c.in-Err.ensures.stays.names c.in-Err.ensures.stays.ports c.in-Err.ensures.stays.state c.in-Err.ensures.stays.answers in
    let same : traffic_in (slice_set nodes node after) outs ≡ traffic_in nodes outs = λ j. record { nodes = map_same seen_of nodes node state after within c.index_mut-state.ensures.value seen j; ways = map ways_of outs } in
    view_is _ _ same refl
