use Rattle.std.proofs.Common.{◌≡◌, ◌≢◌, ◌<◌, ◌≤◌, ℕ, ◌+◌, ◌-◌, Bool, true, false, List, [], ◌∷◌, ◌++◌}
use Rattle.std.proofs.Common.{length, map, take, get_or, refl, sym, ap, ap₂, ◌∙◌, inl, inr, subst, arith}
use Rattle.std.proofs.lemmas.Option.{slice_get_read}
use Rattle.pg_explore.specs.Explorations.{AreFollowed, met_of}
use Rattle.pg_explore.specs.declared.visitor.Led.{Led}
use Rattle.pg_explore.specs.Ways.{IsLentWays}
use Rattle.pg_explore.proofs.Leading.{followed_by}
use Rattle.pg_explore.proofs.Reached.{followed_more, followed_still, there_still}
use Rattle.pg_explore.proofs.explored.Explored.lend.Goals as goal

pub index-met-requires : goal.index-met-requires
index-met-requires g c =
    let mets = c.expand.new.self.met in
    let ok = mets.ok.0 in
    let inside = there_still (met_of c.args.self.now) (met_of c.expand.new.self) c.args.self.now.lent c.expand.ensures.grows c.requires.more in
    omega (arith, inside, ok)

pub returns-in_ok-told-in-Ok-Some-clause-followed : goal.returns-in_ok-told-in-Ok-Some-clause-followed
returns-in_ok-told-in-Ok-Some-clause-followed g c =
    let old = met_of c.args.self.now in
    let new = met_of c.expand.new.self in
    let plans = c.args.plans.now in
    let most = c.args.limits.retries in
    let lent = c.args.self.now.lent in
    let still = followed_still plans most old new lent c.expand.ensures.grows (omega (arith, c.requires.more)) c.requires.followed in
    subst (λ n. AreFollowed plans most new (n + 1)) (sym c.expand.ensures.lent) (followed_more plans most new lent still (followed_by plans most new lent c.in-Ok-Some.led.items (c.in-Ok-Some.ensures.led c.in-Ok-Some.led c.in-Ok-Some.field-0-is)))

pub returns-in_ok-told-in-Ok-Some-clause-lends : goal.returns-in_ok-told-in-Ok-Some-clause-lends
returns-in_ok-told-in-Ok-Some-clause-lends g c =
    let mets = met_of c.expand.new.self in
    let inside = there_still (met_of c.args.self.now) mets c.args.self.now.lent c.expand.ensures.grows c.requires.more in
    (ap (λ n. n + 1) c.expand.ensures.lent, (c.index-met.result.now, slice_get_read mets _ c.args.self.now.lent c.index-met.result.now refl inside c.index-met.ensures, c.in_ok-told-in-Ok-Some.ensures.lent))

pub returns-in-Ok-None-clause-followed : goal.returns-in-Ok-None-clause-followed
returns-in-Ok-None-clause-followed g c =
    let old = met_of c.args.self.now in
    let new = met_of c.expand.new.self in
    subst (λ n. AreFollowed c.args.plans.now c.args.limits.retries new n) (sym c.expand.ensures.lent)
    (followed_still c.args.plans.now c.args.limits.retries old new c.args.self.now.lent c.expand.ensures.grows (omega (arith, c.requires.more)) c.requires.followed)

pub returns-in_ok-told-in-Ok-Some-clause-ways : goal.returns-in_ok-told-in-Ok-Some-clause-ways
returns-in_ok-told-in-Ok-Some-clause-ways g c =
    let before = g.V.Visitor.ways c.args.visitor.now in
    let after = g.V.Visitor.ways c.visit-told.new.self in
    (c.in-Ok-Some.led.items, c.in-Ok-Some.ensures.led c.in-Ok-Some.led c.in-Ok-Some.field-0-is, subst (λ (xs : List Led). IsLentWays before after xs) c.as_slice.ensures.value c.in_ok-told-in-Ok-Some.ensures.ways)
