use Rattle.std.proofs.Common.{◌≡◌, ◌≢◌, ◌<◌, ◌≤◌, ℕ, ◌+◌, ◌-◌, Bool, true, false, List, [], ◌∷◌, ◌++◌}
use Rattle.std.proofs.Common.{length, map, take, get_or, refl, sym, ap, ap₂, ◌∙◌, inl, inr, subst, arith}
use Rattle.std.proofs.lemmas.List.{length-map}
use Rattle.pg_world_packets.specs.FrameWorlds.{given_of}
use Rattle.pg_explore.specs.Moments.{progress_after, progress_of}
use Rattle.pg_explore.proofs.Progressing.{length_after}
use Rattle.pg_explore.proofs.Reached.{of_made}
use Rattle.pg_explore.proofs.moment.Moment.after.Goals as goal

pub returns-in-Ok-clause-of : goal.returns-in-Ok-clause-of
returns-in-Ok-clause-of c =
    let moment = c.args.self.now in
    let strands = c.in_ok-strands.strands.items in
    let old = moment.strands.items in
    let many = sym (length-map strands progress_of) ∙ ap length (c.in_ok-strands.ensures ∙ ap (λ xs. progress_after c.args.step.now (map progress_of xs)) c.as_slice.ensures.value) ∙ length_after c.args.step.now (map progress_of old) ∙ length-map old progress_of in
    of_made c.made.result c.args.config.now.starts.items (given_of c.in-Ok.world) strands (c.in-Ok.ensures.given ∙ c.requires.given) (many ∙ c.requires.size) c.made.ensures.given c.made.ensures.strands
