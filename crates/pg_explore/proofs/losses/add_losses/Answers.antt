use Rattle.std.proofs.Common.{◌≡◌, ◌≢◌, ◌<◌, ◌≤◌, ℕ, ◌+◌, ◌-◌, Bool, true, false, List, [], ◌∷◌, ◌++◌, length}
use Rattle.std.proofs.Common.{map, take, get_or, max, refl, sym, ap, ap₂, ◌∙◌, inl, inr, subst, arith}
use Rattle.std.proofs.lemmas.List.{get_or_read, take_all, take_more}
use Rattle.pg_world_packets.specs.FrameWorlds.{traffic_of}
use Rattle.pg_explore.specs.declared.moves.Move.{Move}
use Rattle.pg_explore.specs.declared.moves.Move.TheVariants.{Loss}
use Rattle.pg_explore.specs.Keeping.{AreUpTo}
use Rattle.pg_explore.specs.Listings.{ListsWanted}
use Rattle.pg_explore.proofs.Opening.{IsLossIn, all_losses, loss_more, no_loss}
use Rattle.pg_explore.proofs.losses.add_losses.Goals as goal

pub loop-keep-init : goal.loop-keep-init
loop-keep-init c = no_loss c.args.node c.args.moves.now.items

pub loop-keep-preserved : goal.loop-keep-preserved
loop-keep-preserved c =
    let keeps = c.as_slice-keep-items.result.now in
    let i = c.loop-keep.keep-index in
    let node = c.args.node in
    let old = c.args.moves.now.items in
    let keep = c.from_vec.result in
    let is : keep ≡ get_or keeps i [] =
    c.from_vec.ensures ∙ (c.in_ok-keep.ensures.items ∙ (c.as_slice-in-loop-keep.ensures ∙ get_or_read keeps i c.keep-item.result c.loop-keep-test.true c.keep-item.is [])) in
    let more = ap (λ (k : List ℕ). take i keeps ++ k ∷ []) is ∙ sym (take_more keeps i [] c.loop-keep-test.true) in
    subst (λ (ks : List (List ℕ)). ListsWanted (IsLossIn node ks) old c.push.new.self.items) more
    (subst (λ (ms : List Move). ListsWanted (IsLossIn node (take i keeps ++ keep ∷ [])) old ms) (sym c.in_ok-push.ensures.items)
    (loss_more node (take i keeps) keep old c.loop-keep.moves.items c.loop-keep.invariant))

pub returns : goal.returns
returns c =
    let keeps = c.as_slice-keep-items.result.now in
    let row = get_or (traffic_of c.args.moment.now.world).ways c.args.node [] in
    let node = c.args.node in
    let old = c.args.moves.now.items in
    let lens = c.as_slice.ensures.value ∙ c.in_ok-lens.ensures in
    let up_to = subst (λ (ks : List (List ℕ)). AreUpTo (map length row) ks) (sym c.as_slice-keep-items.ensures.value) (subst (λ (ls : List ℕ). AreUpTo ls c.in_ok-keeps.keeps.items) lens c.in_ok-keeps.ensures) in
    all_losses node row keeps old c.loop-keep.moves.items up_to
    (subst (λ (ks : List (List ℕ)). ListsWanted (IsLossIn node ks) old c.loop-keep.moves.items) (take_all c.loop-keep.keep-index keeps c.loop-keep-test.false) c.loop-keep.invariant)
