use Rattle.std.proofs.Common.{◌≡◌, ◌≢◌, ◌<◌, ◌≤◌, ℕ, ◌+◌, ◌-◌, Bool, true, false, List, [], ◌∷◌, ◌++◌}
use Rattle.std.proofs.Common.{length, map, take, get_or, refl, sym, ap, ap₂, ◌∙◌, inl, inr, subst, arith}
use Rattle.pg_explore.specs.declared.moves.Move.{Move}
use Rattle.pg_explore.specs.Listings.{AddsOpen, IsMoveOfPeer}
use Rattle.pg_explore.specs.Moments.{sight_of}
use Rattle.std.proofs.lemmas.List.{length-map}
use Rattle.pg_world_packets.specs.PgStep.Machines.Places.{is_pair}
use Rattle.pg_explore.specs.Moments.{progress_of}
use Rattle.pg_world_packets.specs.FrameWorlds.{traffic_of}
use Rattle.pg_world_packets.specs.Views.{on_the_way}
use Rattle.pg_explore.proofs.Opening.{take_open, sight_open}
use Rattle.pg_explore.proofs.listing.add_peer.Goals as goal

none_there : {A : Type 0} (xs : List A) → (xs ≢ [] → ⊥) → xs ≡ []
none_there [] h = refl
none_there (x ∷ xs) h = absurd (h (λ e. let bad = ap length e in omega (arith, bad)))

pub returns-in_ok-push : goal.returns-in_ok-push
returns-in_ok-push c =
    let moment = c.args.moment.now in
    let sight = sight_of moment in
    let pair = ap (λ n. is_pair n c.args.peer c.args.node) (length-map moment.strands.items progress_of) ∙ c.requires.pair in
    subst (λ (xs : List Move). AddsOpen c.args.plans.now c.args.limits.retries sight (IsMoveOfPeer c.args.node c.args.peer) c.args.moves.now.items xs) (sym c.in_ok-push.ensures.items)
    (take_open c.args.plans.now c.args.limits.retries sight c.args.node c.args.peer c.args.moves.now.items c.requires.there pair (c.has_packet.ensures.0 c.if-has_packet.true))

pub returns-in_ok-push-2 : goal.returns-in_ok-push-2
returns-in_ok-push-2 c =
    let moment = c.args.moment.now in
    let sight = sight_of moment in
    let pair = ap (λ n. is_pair n c.args.peer c.args.node) (length-map moment.strands.items progress_of) ∙ c.requires.pair in
    let seen = c.can_see.ensures.0 c.if-can_see.true in
    let empty : on_the_way (traffic_of moment.world) c.args.peer c.args.node ≡ [] = none_there _ (λ some. let bad = sym c.if-has_packet.false ∙ c.has_packet.ensures.1 some in absurd (cc)) in
    subst (λ (xs : List Move). AddsOpen c.args.plans.now c.args.limits.retries sight (IsMoveOfPeer c.args.node c.args.peer) c.args.moves.now.items xs) (sym c.in_ok-push-2.ensures.items)
    (sight_open c.args.plans.now c.args.limits.retries sight c.args.node c.args.peer c.args.moves.now.items c.requires.there pair empty seen.0 seen.1)
