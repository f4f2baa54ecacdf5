use Rattle.std.proofs.Common.{◌≡◌, ◌∙◌, Ok, Err, length, refl, sym, ap, subst}
use Rattle.pg_world_packets.specs.PgStep.declared.refusal.Refusal.TheVariants.{NotDrained}
use Rattle.pg_world_packets.specs.declared.step.Stepped.TheVariants.{Happened}
use Rattle.pg_world.specs.Crossings.{crossing_of, link_at, node_of, written_of}
use Rattle.pg_world_packets.specs.PgWorldAccount.Losses.{lost_in}
use Rattle.pg_node.specs.Bytes.{closed}
use Rattle.pg_node.specs.Links.{Link, at_link}
use Rattle.pg_node.specs.Nodes.{held_by, links_of}
use Rattle.pg_world_packets.specs.PgNodeState.States.{names_of, state_of, answers_of}
use Rattle.pg_world_packets.specs.PgWorldAccount.Histories.{account_of}
use Rattle.pg_world_packets.specs.Views.{peer_place}
use Rattle.pg_world_packets.specs.PgNodeState.declared.state.fault.NodeFault.TheVariants.{Refused}
use Rattle.pg_world.proofs.over_bytes.Drained.{bytes_there, drained_told, left_there, sight_bytes, sight_free, sight_told, undrained_told, unseen_at}
use Rattle.pg_world.proofs.over_bytes.Lost.{unbarred, sight_not_lost, sight_made, sight_held}
use Rattle.pg_world.proofs.over_bytes.Seen.{peer_clock, closed_bytes, closed_empty, step_there}
use Rattle.pg_world.proofs.Linked.{alone, closes, first_there, second_there, node_same, seen_kept}
use Rattle.pg_world.proofs.Linked.{seen_there, nodes_set, links_here, part_kept}
use Rattle.pg_world_packets.proofs.Turning.{pair_is}
use Rattle.pg_world.proofs.bytes.ByteNodes.see_loss.Goals as goal

pub returns-in-Ok-clause-changes : goal.returns-in-Ok-clause-changes
returns-in-Ok-clause-changes g c =
    let nodes = c.args.self.now.nodes.items in
    let rings = c.args.self.now.rings.items in
    let i = c.args.node in
    let over = c.index_mut-over.result.now in
    let after = c.see_loss.new.self in
    let l = first_there nodes rings i c.args.peer c.requires.pair c.args.self.now.rows in
    (alone nodes rings i after, closes nodes rings i (peer_place i c.args.peer) over after l c.index_mut-over.ensures.value (subst (λ k. links_of after ≡ at_link k closed (links_of over)) c.peer_place.ensures c.in-Ok.ensures.closed))

pub returns-in-Ok-clause-barred : goal.returns-in-Ok-clause-barred
returns-in-Ok-clause-barred g c =
    let nodes = c.args.self.now.nodes.items in
    let rings = c.args.self.now.rings.items in
    let i = c.args.node in
    let over = c.index_mut-over.result.now in
    let after = c.see_loss.new.self in
    let l = first_there nodes rings i c.args.peer c.requires.pair c.args.self.now.rows in
    let drained = drained_told (names_of (held_by over)) _ c.clock-last.result (link_at (crossing_of c.args.self.now) i c.args.peer) (state_of (held_by over)) (state_of (held_by after)) (answers_of (held_by over)) (answers_of (held_by after)) c.in-Ok.done
    (step_there c.peer_place.result (peer_place i c.args.peer) c.peer_place.ensures over after c.clock-last.result (Ok c.in-Ok.done) (links_here nodes rings i over l c.index_mut-over.ensures.value) c.in-Ok.ensures.event) in
    sight_free (crossing_of c.args.self.now) (lost_in c.args.self.now.losses) i c.args.peer c.requires.pair c.requires.lives (sym c.has.ensures ∙ c.if-not-has.false) (sym c.has_bytes.ensures ∙ c.if-has_bytes.false) (Ok (Happened c.nothing.result)) drained

pub returns-in-Err-clause-changes : goal.returns-in-Err-clause-changes
returns-in-Err-clause-changes g c =
    let nodes = c.args.self.now.nodes.items in
    let rings = c.args.self.now.rings.items in
    let over = c.index_mut-over.result.now in
    let after = c.see_loss.new.self in
    let l = first_there nodes rings c.args.node c.args.peer c.requires.pair c.args.self.now.rows in
    node_same nodes rings c.args.node over after l c.index_mut-over.ensures.value (seen_kept over after c.in-Err.ensures.stays.names c.in-Err.ensures.stays.ports c.in-Err.ensures.stays.state c.in-Err.ensures.stays.answers) c.in-Err.ensures.kept

pub returns-then-has_bytes-clause-barred : goal.returns-then-has_bytes-clause-barred
returns-then-has_bytes-clause-barred g c =
    sight_bytes (crossing_of c.args.self.now) (lost_in c.args.self.now.losses) c.args.node c.args.peer c.requires.pair c.requires.lives (sym c.has.ensures ∙ c.if-not-has.false) (sym c.has_bytes.ensures ∙ c.if-has_bytes.true)

pub returns-in-Err-clause-barred : goal.returns-in-Err-clause-barred
returns-in-Err-clause-barred g c =
    let nodes = c.args.self.now.nodes.items in
    let rings = c.args.self.now.rings.items in
    let lost = lost_in c.args.self.now.losses in
    let i = c.args.node in
    let p = c.args.peer in
    let over = c.index_mut-over.result.now in
    let after = c.see_loss.new.self in
    let at = c.index_mut-over.ensures.value in
    let l = first_there nodes rings i p c.requires.pair c.args.self.now.rows in
    let gone = sym c.has.ensures ∙ c.if-not-has.false in
    let unseen = unseen_at (crossing_of c.args.self.now).nodes lost i p (node_of over) (seen_there nodes rings i over l at) gone c.requires.lives in
    sight_told (crossing_of c.args.self.now) lost i p c.requires.pair c.requires.lives gone (sym c.has_bytes.ensures ∙ c.if-has_bytes.false) (names_of (held_by over)) _ c.clock-last.result (state_of (held_by over)) (state_of (held_by after)) (answers_of (held_by over)) (answers_of (held_by after)) c.in-Err.fault unseen
    (step_there c.peer_place.result (peer_place i p) c.peer_place.ensures over after c.clock-last.result (Err c.in-Err.fault) (links_here nodes rings i over l at) c.in-Err.ensures.event)

pub returns-then-not-has-clause-losing : goal.returns-then-not-has-clause-losing
returns-then-not-has-clause-losing g c = λ config u shows.
    let crossing = crossing_of c.args.self.now in
    let account = account_of c.args.self.now.histories in
    let lost = lost_in c.args.self.now.losses in
    sight_not_lost config crossing crossing account account u c.args.node c.args.peer lost lost shows c.requires.pair c.requires.lives (sym c.has.ensures ∙ c.if-not-has.true)

pub returns-then-has_bytes-clause-losing : goal.returns-then-has_bytes-clause-losing
returns-then-has_bytes-clause-losing g c = λ config u shows.
    let crossing = crossing_of c.args.self.now in
    let account = account_of c.args.self.now.histories in
    let lost = lost_in c.args.self.now.losses in
    (unbarred config crossing crossing account account u c.args.node c.args.peer lost lost shows c.requires.pair c.requires.lives (sym c.has.ensures ∙ c.if-not-has.false), shows)

pub returns-in-Ok-clause-losing : goal.returns-in-Ok-clause-losing
returns-in-Ok-clause-losing g c = λ config u shows.
    let nodes = c.args.self.now.nodes.items in
    let rings = c.args.self.now.rings.items in
    let i = c.args.node in
    let p = c.args.peer in
    let crossing = crossing_of c.args.self.now in
    let account = account_of c.args.self.now.histories in
    let lost = lost_in c.args.self.now.losses in
    let over = c.index_mut-over.result.now in
    let after = c.see_loss.new.self in
    let at = c.index_mut-over.ensures.value in
    let l = first_there nodes rings i p c.requires.pair c.args.self.now.rows in
    let clock : (shows.frames.node p).clock ≡ c.clock-last.result = peer_clock config nodes rings p c.index-lost.result.now shows.frames shows.shows.traffic.nodes
    (second_there nodes rings i p c.requires.pair c.args.self.now.rows) c.index-lost.ensures ∙ (ap (λ s. (state_of s).clock) (sym c.state.ensures) ∙ sym c.clock-last.ensures) in
    let links = subst (λ k. links_of after ≡ at_link k closed (links_of over)) c.peer_place.ensures c.in-Ok.ensures.closed in
    let gone = sym c.has.ensures ∙ c.if-not-has.false in
    sight_made config crossing _ account account u i p lost lost shows c.requires.pair c.requires.lives (λ first others bytes. c.front_is_first_of_cut.ensures.whole written_of first others bytes)
    gone (sym c.has_bytes.ensures ∙ c.if-has_bytes.false) (node_of over) (seen_there nodes rings i over l at) c.clock-last.result clock refl
    (node_of after) c.in-Ok.done (nodes_set nodes rings i after) c.in-Ok.ensures.stays.names c.in-Ok.ensures.stays.ports refl
    (closed_bytes nodes rings i p over after l at links lost gone (pair_is _ i p c.requires.pair).2 (length config))
    (λ x y. part_kept nodes rings rings i (peer_place i p) over after closed l at links (λ (k : Link). k.damaged) (λ k. refl) x (peer_place x y))
    (closed_empty nodes rings i p over after l at links lost gone (pair_is _ i p c.requires.pair).2)
    (step_there c.peer_place.result (peer_place i p) c.peer_place.ensures over after c.clock-last.result (Ok c.in-Ok.done) (links_here nodes rings i over l at) c.in-Ok.ensures.event)
    c.nothing.result c.nothing.ensures

pub returns-in-Err-clause-losing : goal.returns-in-Err-clause-losing
returns-in-Err-clause-losing g c = λ config u shows.
    let nodes = c.args.self.now.nodes.items in
    let rings = c.args.self.now.rings.items in
    let i = c.args.node in
    let p = c.args.peer in
    let crossing = crossing_of c.args.self.now in
    let account = account_of c.args.self.now.histories in
    let lost = lost_in c.args.self.now.losses in
    let over = c.index_mut-over.result.now in
    let after = c.see_loss.new.self in
    let at = c.index_mut-over.ensures.value in
    let l = first_there nodes rings i p c.requires.pair c.args.self.now.rows in
    let clock : (shows.frames.node p).clock ≡ c.clock-last.result = peer_clock config nodes rings p c.index-lost.result.now shows.frames shows.shows.traffic.nodes
    (second_there nodes rings i p c.requires.pair c.args.self.now.rows) c.index-lost.ensures ∙ (ap (λ s. (state_of s).clock) (sym c.state.ensures) ∙ sym c.clock-last.ensures) in
    sight_held config crossing _ account account u i p lost lost shows c.requires.pair c.requires.lives (λ first others bytes. c.front_is_first_of_cut.ensures.whole written_of first others bytes)
    (sym c.has.ensures ∙ c.if-not-has.false) (sym c.has_bytes.ensures ∙ c.if-has_bytes.false) (node_of over) (seen_there nodes rings i over l at) c.clock-last.result clock refl
    c.in-Err.fault (state_of (held_by after)) (answers_of (held_by after))
    (node_same nodes rings i over after l at (seen_kept over after c.in-Err.ensures.stays.names c.in-Err.ensures.stays.ports c.in-Err.ensures.stays.state c.in-Err.ensures.stays.answers) c.in-Err.ensures.kept) refl
    (step_there c.peer_place.result (peer_place i p) c.peer_place.ensures over after c.clock-last.result (Err c.in-Err.fault) (links_here nodes rings i over l at) c.in-Err.ensures.event)

pub returns-then-has_bytes-clause-undrained : goal.returns-then-has_bytes-clause-undrained
returns-then-has_bytes-clause-undrained g c = λ told. bytes_there _ _ (sym c.has_bytes.ensures ∙ c.if-has_bytes.true)

pub returns-in-Err-clause-undrained : goal.returns-in-Err-clause-undrained
returns-in-Err-clause-undrained g c = λ told.
    let nodes = c.args.self.now.nodes.items in
    let rings = c.args.self.now.rings.items in
    let i = c.args.node in
    let over = c.index_mut-over.result.now in
    let after = c.see_loss.new.self in
    let l = first_there nodes rings i c.args.peer c.requires.pair c.args.self.now.rows in
    let fault : c.in-Err.fault ≡ Refused NotDrained = cc in
    left_there _ _ (undrained_told (names_of (held_by over)) _ c.clock-last.result (link_at (crossing_of c.args.self.now) i c.args.peer) (state_of (held_by over)) (state_of (held_by after)) (answers_of (held_by over)) (answers_of (held_by after)) c.in-Err.fault fault
    (step_there c.peer_place.result (peer_place i c.args.peer) c.peer_place.ensures over after c.clock-last.result (Err c.in-Err.fault) (links_here nodes rings i over l c.index_mut-over.ensures.value) c.in-Err.ensures.event))
