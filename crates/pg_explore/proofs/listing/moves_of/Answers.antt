use Rattle.std.proofs.Common.{◌≡◌, ◌≢◌, ◌<◌, ◌≤◌, ℕ, ◌+◌, ◌-◌, Bool, true, false, List, [], ◌∷◌, ◌++◌, length}
use Rattle.std.proofs.Common.{map, take, get_or, max, refl, sym, ap, ap₂, ◌∙◌, inl, inr, subst, arith}
use Rattle.std.proofs.lemmas.List.{length-map}
use Rattle.pg_explore.specs.Listings.{ListsWanted, IsThere}
use Rattle.pg_explore.specs.Moments.{progress_of, sight_of}
use Rattle.pg_explore.proofs.Listed.{IsBelow, all_listed, lost_more, one_more}
use Rattle.pg_explore.proofs.listing.moves_of.Goals as goal
use Rattle.pg_explore.proofs.listing.moves_of.Goals.{then-not-is_lost+in_ok-add_moves, else-not-is_lost}

clash : false ≡ true → ⊥
clash e = absurd (cc)

pub loop-node-preserved : goal.loop-node-preserved
loop-node-preserved c =
    let plans = c.args.plans.now in
    let most = c.args.limits.retries in
    let sight = sight_of c.args.moment.now in
    let node = c.loop-node.node in
    elim c.if-not-is_lost.branch as (λ _. ListsWanted (IsBelow plans most sight (node + 1)) [] c.if-not-is_lost.moves.items) [
      | then-not-is_lost+in_ok-add_moves w ↦ rw w.moves-is (one_more plans most sight node c.loop-node.moves.items _ c.loop-node.invariant w.in_ok-add_moves.ensures)
      | else-not-is_lost w ↦ rw w.moves-is (lost_more plans most sight node c.loop-node.moves.items (λ there. clash (sym there.alive ∙ sym c.is_lost.ensures ∙ w.if-not-is_lost.false)) c.loop-node.invariant)
    ]

pub returns : goal.returns
returns c =
    let moment = c.args.moment.now in
    let many : length (map progress_of moment.strands.items) ≤ c.loop-node.node = omega (arith, length-map moment.strands.items progress_of, c.loop-node-test.false, c.loop-node.auto.node-end, c.len-node-end.ensures, moment.strands.ok.0) in
    all_listed c.args.plans.now c.args.limits.retries (sight_of moment) c.loop-node.node c.loop-node.moves.items many c.loop-node.invariant
