use Rattle.std.proofs.Common.{◌≡◌, ◌≢◌, ◌<◌, ◌≤◌, ℕ, ◌+◌, ◌-◌, Bool, true, false, List, [], ◌∷◌, ◌++◌}
use Rattle.std.proofs.Common.{length, map, take, get_or, refl, sym, ap, ap₂, ◌∙◌, inl, inr, subst, arith}
use Rattle.std.proofs.lemmas.Result.{IfOk-weaker}
use Rattle.std.proofs.lemmas.Option.{slice_get_read}
use Rattle.std.specs.Prelude.{slice_get, Some}
use Rattle.pg_explore.specs.declared.explored.Met.{Met}
use Rattle.pg_explore.specs.Explorations.{met_of, sight_in}
use Rattle.pg_explore.specs.Listings.{IsOpenMove}
use Rattle.pg_explore.proofs.Optional.{some_is}
use Rattle.pg_explore.proofs.explored.Explored.moves_at.Goals as goal

pub returns : goal.returns
returns c =
    let mets = met_of c.args.self.now in
    let met = c.index-met.result.now in
    let plans = c.args.plans.now in
    let most = c.args.limits.retries in
    let at : slice_get mets c.args.place ≡ Some met = slice_get_read mets _ c.args.place met refl c.requires.place c.index-met.ensures in
    IfOk-weaker c.moves_of.result _ _ (λ moves h step. (λ among. (met, at, (h step).0 among), λ can. (h step).1 (subst (λ m. IsOpenMove plans most (sight_in m) step) (some_is can.0 met (sym can.1 ∙ at)) can.2))) c.moves_of.ensures
