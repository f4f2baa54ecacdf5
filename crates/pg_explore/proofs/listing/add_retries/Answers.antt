use Rattle.std.proofs.Common.{◌↔◌}
use Rattle.std.proofs.Common.{◌≡◌, ◌≢◌, ◌<◌, ◌≤◌, ℕ, ◌+◌, ◌-◌, Bool, true, false, List, [], ◌∷◌, ◌++◌, length}
use Rattle.std.proofs.Common.{map, take, get_or, max, refl, sym, ap, ap₂, ◌∙◌, inl, inr, subst, arith}
use Rattle.std.proofs.lemmas.List.{get_or_read, take_all, take_more}
use Rattle.std.specs.List.{Contains}
use Rattle.pg_world_packets.specs.PgStep.declared.command.OpId.{OpId}
use Rattle.pg_explore.specs.declared.moves.Move.{Move}
use Rattle.pg_explore.specs.declared.moves.Move.TheVariants.{Retry}
use Rattle.pg_explore.specs.Listings.{ListsWanted, sight_waits_at}
use Rattle.pg_explore.specs.Moments.{progress_of, sight_of}
use Rattle.pg_explore.proofs.Opening.{IsRetryIn, all_retries, no_retry, retry_less, retry_more}
use Rattle.pg_explore.proofs.listing.add_retries.Goals as goal
use Rattle.pg_explore.proofs.listing.add_retries.Goals.{then-may_retry+in_ok-push, else-may_retry}

clash : false ≡ true → ⊥
clash e = absurd (cc)

pub loop-op-init : goal.loop-op-init
loop-op-init c = no_retry c.args.plans.now c.args.limits.retries (sight_of c.args.moment.now) c.args.node c.args.moves.now.items

pub loop-op-preserved : goal.loop-op-preserved
loop-op-preserved c =
    let plans = c.args.plans.now in
    let most = c.args.limits.retries in
    let sight = sight_of c.args.moment.now in
    let node = c.args.node in
    let old = c.args.moves.now.items in
    let mid = c.loop-op.moves.items in
    let ops = c.as_slice-op-items.result.now in
    let i = c.loop-op.op-index in
    let d : OpId = record { port = 0; number = 0 } in
    let op = get_or ops i d in
    subst (λ (xs : List OpId). ListsWanted (IsRetryIn plans most sight node xs) old c.if-may_retry.moves.items) (sym (take_more ops i d c.loop-op-test.true))
    (elim c.if-may_retry.branch as (λ _. ListsWanted (IsRetryIn plans most sight node (take i ops ++ op ∷ [])) old c.if-may_retry.moves.items) [
      | then-may_retry+in_ok-push w ↦ rw w.moves-is (subst (λ (ms : List Move). ListsWanted (IsRetryIn plans most sight node (take i ops ++ op ∷ [])) old ms) (sym w.in_ok-push.ensures.items)
          (retry_more plans most sight node (take i ops) op old mid (c.may_retry.ensures.0 w.if-may_retry.true) c.loop-op.invariant))
      | else-may_retry w ↦ rw w.moves-is (retry_less plans most sight node (take i ops) op old mid (λ may. clash (sym w.if-may_retry.false ∙ c.may_retry.ensures.1 may)) c.loop-op.invariant)
    ])

pub returns : goal.returns
returns c =
    let plans = c.args.plans.now in
    let most = c.args.limits.retries in
    let sight = sight_of c.args.moment.now in
    let node = c.args.node in
    let old = c.args.moves.now.items in
    let ops = c.as_slice-op-items.result.now in
    all_retries plans most sight node ops old c.loop-op.moves.items c.requires.there (subst (λ (xs : List OpId). (op : OpId) → Contains xs op ↔ (sight_waits_at sight.view.traffic.nodes node op ≡ true)) (sym c.as_slice-op-items.ensures.value) c.in_ok-ops.ensures)
    (subst (λ (xs : List OpId). ListsWanted (IsRetryIn plans most sight node xs) old c.loop-op.moves.items) (take_all c.loop-op.op-index ops c.loop-op-test.false) c.loop-op.invariant)
