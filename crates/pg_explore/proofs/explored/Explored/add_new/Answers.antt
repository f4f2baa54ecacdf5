use Rattle.std.proofs.Common.{◌≡◌, ◌≢◌, ◌<◌, ◌≤◌, ℕ, ◌+◌, ◌-◌, Bool, true, false, List, [], ◌∷◌, ◌++◌}
use Rattle.std.proofs.Common.{length, map, take, get_or, refl, sym, ap, ap₂, ◌∙◌, inl, inr, subst, arith}
use Rattle.std.specs.Prelude.{Some}
use Rattle.pg_explore.specs.declared.explored.Met.{Met}
use Rattle.pg_explore.specs.Explorations.{AreBinned, MeetsMore, IsAlikeAt, IsLedTo, IsSound, met_of}
use Rattle.pg_explore.specs.Moments.{sight_of}
use Rattle.pg_explore.proofs.Alike.{alike_self}
use Rattle.pg_explore.proofs.Getting.{get_last}
use Rattle.pg_explore.proofs.Sound.{grows_push, reached_by, sound_push}
use Rattle.pg_explore.proofs.explored.Explored.add_new.Goals as goal

pub returns-in-Ok-add-clause-holds : goal.returns-in-Ok-add-clause-holds
returns-in-Ok-add-clause-holds c =
    let config = c.args.config.now.starts.items in
    let plans = c.args.plans.now in
    let most = c.args.limits.retries in
    let old = c.args.self.now in
    let met : Met = record { moment = c.args.moment; before = Some (record { place = c.args.place; step = c.in-Ok.step }) } in
    let bins = c.add.new.self.bins in
    let is = c.in-Ok-add.ensures.ok in
    let kept = subst (λ mets. AreBinned bins mets) is (c.add.ensures.kept c.requires.holds.kept) in
    let step_is = c.in-Ok.ensures in
    let reached = subst (λ s. IsLedTo config plans most (met_of old) (length (met_of old)) (sight_of c.args.moment) (Some (record { place = c.args.place; step = s }))) (sym step_is)
    (reached_by config plans most (met_of old) c.args.place c.args.step.now (sight_of c.args.moment) c.requires.place c.requires.can c.requires.leads) in
    subst (λ mets. IsSound config plans most bins mets) (sym is) (sound_push config plans most old.bins bins (met_of old) met c.requires.holds c.requires.of reached c.requires.new kept)

pub returns-in-Ok-add-clause-grows : goal.returns-in-Ok-add-clause-grows
returns-in-Ok-add-clause-grows c =
    let met : Met = record { moment = c.args.moment; before = Some (record { place = c.args.place; step = c.in-Ok.step }) } in
    subst (λ mets. MeetsMore (met_of c.args.self.now) mets) (sym c.in-Ok-add.ensures.ok) (grows_push (met_of c.args.self.now) met)

pub returns-in-Ok-add-clause-arrived : goal.returns-in-Ok-add-clause-arrived
returns-in-Ok-add-clause-arrived c =
    let old = met_of c.args.self.now in
    let sight = sight_of c.args.moment in
    let met : Met = record { moment = c.args.moment; before = Some (record { place = c.args.place; step = c.in-Ok.step }) } in
    subst (λ (mets : List Met). IsAlikeAt mets c.len-new.result sight) (sym c.in-Ok-add.ensures.ok)
    (subst (λ (n : ℕ). IsAlikeAt (old ++ met ∷ []) n sight) (sym (c.len-new.ensures ∙ c.args.self.now.met.ok.0)) (met, get_last old met, alike_self sight))
