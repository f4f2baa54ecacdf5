use Rattle.std.proofs.Common.{◌≡◌, ◌≢◌, ◌<◌, ◌≤◌, ℕ, ◌+◌, ◌-◌, Bool, true, false, List, [], ◌∷◌, ◌++◌}
use Rattle.std.proofs.Common.{length, map, take, get_or, refl, sym, ap, ap₂, ◌∙◌, inl, inr, subst, arith}
use Rattle.std.proofs.lemmas.List.{length-map, length-replicate}
use Rattle.pg_explore.specs.Moments.{no_progress, progress_of}
use Rattle.pg_explore.proofs.moment.Moment.begin.Goals as goal

pub returns-in-Ok-clause-of : goal.returns-in-Ok-clause-of
returns-in-Ok-clause-of c =
    let strands = c.in_ok-strands.strands.items in
    let starts = c.args.config.now.starts in
    let ok = starts.ok.0 in
    let many = sym (length-map strands progress_of) ∙ ap length c.in_ok-strands.ensures ∙ length-replicate c.len.result no_progress in
    record { given = c.in-Ok.ensures.given; size = omega (arith, many, c.len.ensures, ok) }
