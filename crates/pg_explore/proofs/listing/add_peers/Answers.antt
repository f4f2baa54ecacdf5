use Rattle.std.proofs.Common.{◌≡◌, ◌≢◌, ◌<◌, ◌≤◌, ℕ, ◌+◌, ◌-◌, Bool, true, false, List, [], ◌∷◌, ◌++◌}
use Rattle.std.proofs.Common.{length, map, take, get_or, refl, sym, ap, ap₂, ◌∙◌, inl, inr, subst, arith}
use Rattle.std.proofs.lemmas.List.{length-map}
use Rattle.pg_explore.specs.declared.moves.Move.{Move}
use Rattle.pg_explore.specs.Listings.{ListsWanted, AddsOpen, IsMoveOfPeer}
use Rattle.pg_explore.specs.Moments.{progress_of, sight_of}
use Rattle.pg_explore.proofs.Listed.{IsOfBelow, one_peer}
use Rattle.pg_explore.proofs.Opening.{all_peers, no_peer_itself}
use Rattle.pg_explore.proofs.listing.add_peers.Goals as goal
use Rattle.pg_explore.proofs.listing.add_peers.Goals.{then-peer-node+in_ok-add_peer, else-peer-node}

pub loop-peer-preserved : goal.loop-peer-preserved
loop-peer-preserved c =
    let plans = c.args.plans.now in
    let most = c.args.limits.retries in
    let sight = sight_of c.args.moment.now in
    let node = c.args.node in
    let peer = c.loop-peer.peer in
    let old = c.args.moves.now.items in
    let mid = c.loop-peer.moves.items in
    elim c.if-peer-node.branch as (λ _. ListsWanted (IsOfBelow plans most sight node (peer + 1)) old c.if-peer-node.moves.items) [
      | then-peer-node+in_ok-add_peer w ↦ rw w.moves-is (one_peer plans most sight node peer old mid _ c.loop-peer.invariant w.in_ok-add_peer.ensures)
      | else-peer-node w ↦ rw w.moves-is (one_peer plans most sight node peer old mid mid c.loop-peer.invariant
          (subst (λ p. AddsOpen plans most sight (IsMoveOfPeer node p) mid mid) (sym w.if-peer-node.false) (no_peer_itself plans most sight node mid)))
    ]

pub returns : goal.returns
returns c =
    let moment = c.args.moment.now in
    let many : length (map progress_of moment.strands.items) ≤ c.loop-peer.peer = omega (arith, length-map moment.strands.items progress_of, c.loop-peer-test.false, c.loop-peer.auto.peer-end, c.len-peer-end.ensures, moment.strands.ok.0) in
    all_peers c.args.plans.now c.args.limits.retries (sight_of moment) c.args.node c.loop-peer.peer _ _ many c.loop-peer.invariant
