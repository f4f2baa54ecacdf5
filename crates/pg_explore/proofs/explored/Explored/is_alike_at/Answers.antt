use Rattle.std.proofs.Common.{◌≡◌, ◌≢◌, ◌<◌, ◌≤◌, ℕ, ◌+◌, ◌-◌, Bool, true, false, List, [], ◌∷◌, ◌++◌}
use Rattle.std.proofs.Common.{length, map, take, get_or, refl, sym, ap, ap₂, ◌∙◌, inl, inr, subst, arith}
use Rattle.std.proofs.lemmas.Bool.{lt-ltb, ltb-true}
use Rattle.std.proofs.lemmas.Option.{slice_get_read, slice_get_within}
use Rattle.std.proofs.lemmas.Result.{IfOk-weaker}
use Rattle.std.specs.Prelude.{slice_get, Some, None, Option}
use Rattle.pg_explore.specs.declared.explored.Met.{Met}
use Rattle.pg_explore.specs.Explorations.{IsAlikeAt, met_of, sight_in}
use Rattle.pg_explore.specs.Moments.{AreAlike, Sight, sight_of}
use Rattle.pg_explore.proofs.Optional.{some_is}
use Rattle.pg_explore.proofs.explored.Explored.is_alike_at.Goals as goal

at_only : (mets : List Met) (place : ℕ) (met : Met) (sight : Sight) → slice_get mets place ≡ Some met → IsAlikeAt mets place sight → AreAlike (sight_in met) sight
at_only mets place met sight at h = subst (λ m. AreAlike (sight_in m) sight) (some_is h.0 met (sym h.1 ∙ at)) h.2

clash : false ≡ true → ⊥
clash e = absurd (cc)

pub returns-in-Some : goal.returns-in-Some
returns-in-Some c =
    let mets = met_of c.args.self.now in
    let items = c.as_slice.result.now in
    let met = c.in-Some.met.now in
    let sight = sight_of c.args.moment.now in
    let found = c.in-Some.ensures.lookup in
    let here : slice_get items c.args.place ≡ Some met = slice_get_read items _ c.args.place met refl (ltb-true c.args.place (length items) (sym found.0)) found.1 in
    let at : slice_get mets c.args.place ≡ Some met = ap (λ (xs : List Met). slice_get xs c.args.place) (sym c.as_slice.ensures.value) ∙ here in
    IfOk-weaker c.is_alike.result _ _ (λ alike h. (λ t. (met, at, h.0 t), λ k. h.1 (at_only mets c.args.place met sight at k))) c.is_alike.ensures

pub returns-in-None : goal.returns-in-None
returns-in-None c =
    let items = c.as_slice.result.now in
    let past = c.in-None.ensures.lookup.0 in (
      λ t. absurd (clash t),
      λ k.
          let at : slice_get items c.args.place ≡ Some k.0 = ap (λ (xs : List Met). slice_get xs c.args.place) c.as_slice.ensures.value ∙ k.1 in
          past ∙ lt-ltb c.args.place (length items) (slice_get_within items c.args.place k.0 at),
    )
