use Rattle.std.proofs.Common.{◌≡◌, ◌≢◌, ◌<◌, ◌≤◌, ℕ, ◌+◌, ◌-◌, Bool, true, false, List, [], ◌∷◌, ◌++◌}
use Rattle.std.proofs.Common.{length, map, take, get_or, refl, sym, ap, ap₂, ◌∙◌, inl, inr, subst, arith}
use Rattle.std.proofs.lemmas.Option.{slice_get-get_or}
use Rattle.pg_explore.specs.declared.bins.Spot.{Spot}
use Rattle.pg_explore.specs.Explorations.{IsAlikeAt, met_of}
use Rattle.pg_explore.specs.Moments.{sight_of}
use Rattle.pg_explore.proofs.Reached.{none_found, none_more}
use Rattle.pg_explore.proofs.explored.Explored.find.Goals as goal
use Rattle.pg_explore.proofs.explored.Explored.find.Goals.{else-spot-number-via-then-spot-number+in_ok-is_alike_at+else-branch}
use Rattle.pg_explore.proofs.explored.Explored.find.Goals.{else-spot-number-via-else-spot-number}

clash : false ≡ true → ⊥
clash e = absurd (cc)

pub returns-then-branch : goal.returns-then-branch
returns-then-branch c = c.in_ok-is_alike_at.ensures.0 c.if-branch.true

pub loop-spot-preserved : goal.loop-spot-preserved
loop-spot-preserved c =
    let mets = met_of c.args.self.now in
    let sight = sight_of c.args.moment.now in
    let spots = c.bin-spot-items.result.now in
    let i = c.loop-spot.spot-index in
    let d : Spot = record { number = 0; place = 0 } in
    let spot = get_or spots i d in
    let not : spot.number ≡ c.args.number → IsAlikeAt mets spot.place sight → ⊥ =
    elim c.else-spot-number.branch as (λ _. spot.number ≡ c.args.number → IsAlikeAt mets spot.place sight → ⊥) [
      | else-spot-number-via-then-spot-number+in_ok-is_alike_at+else-branch w ↦ λ is alike. clash (sym w.if-branch.false ∙ w.in_ok-is_alike_at.ensures.1 alike)
      | else-spot-number-via-else-spot-number w ↦ λ is alike. w.if-spot-number.false is
    ] in
    none_more mets sight c.args.number spots i spot (slice_get-get_or spots i d c.loop-spot-test.true) not c.loop-spot.invariant

pub returns : goal.returns
returns c =
    let spots = c.bin-spot-items.result.now in
    none_found c.args.self.now.bins (met_of c.args.self.now) (sight_of c.args.moment.now) c.args.number spots c.requires.kept c.requires.number c.bin-spot-items.ensures
    (λ k spot inside at is alike. c.loop-spot.invariant k spot (omega (arith, inside, c.loop-spot-test.false)) at is alike)
