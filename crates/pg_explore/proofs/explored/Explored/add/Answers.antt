use Rattle.std.proofs.Common.{◌≡◌, ◌≢◌, ◌<◌, ◌≤◌, ℕ, ◌+◌, ◌-◌, Bool, true, false, List, [], ◌∷◌, ◌++◌}
use Rattle.std.proofs.Common.{length, map, take, get_or, refl, sym, ap, ap₂, ◌∙◌, inl, inr, subst, arith}
use Rattle.std.specs.List.{Contains}
use Rattle.pg_explore.specs.declared.explored.Met.{Met}
use Rattle.pg_explore.specs.Bins.{spots_of}
use Rattle.pg_explore.specs.Explorations.{AreBinned, met_of}
use Rattle.pg_explore.proofs.Sound.{kept_push}
use Rattle.pg_explore.proofs.explored.Explored.add.Goals as goal

pub returns-in-Ok-clause-kept : goal.returns-in-Ok-clause-kept
returns-in-Ok-clause-kept c = λ kept.
    let old = c.args.self.now in
    let bins = c.make_room.new.self.bins in
    let met : Met = record { moment = c.args.moment; before = c.args.before } in
    let is = c.push_reserved.ensures.items ∙ ap (λ (xs : List Met). xs ++ met ∷ []) c.make_room.ensures.met in
    let added = subst (λ n. Contains (spots_of bins n) (record { number = n; place = length (met_of old) })) c.requires.number c.in-Ok.ensures.added in
    subst (λ mets. AreBinned bins mets) (sym is) (kept_push old.bins bins (met_of old) met c.make_room.ensures.keeps added kept)
