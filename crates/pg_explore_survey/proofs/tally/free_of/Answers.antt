use Rattle.std.proofs.Common.{ℕ, List, [], ◌∷◌, ◌++◌, Bool, take, sym, subst, ◌∙◌}
use Rattle.std.proofs.lemmas.List.{take_more}
use Rattle.pg_explore.specs.declared.explored.Met.{Met}
use Rattle.pg_script.specs.PgWorldPackets.FrameWorlds.{lost_of, traffic_of}
use Rattle.pg_explore_survey.specs.Differing.{DifferFree, Decides}
use Rattle.pg_explore_survey.specs.Findings.{AreMarks, DiffersFreeIn}
use Rattle.pg_explore_survey.proofs.Marking.{marks_more}
use Rattle.pg_explore_survey.proofs.tally.free_of.Goals as goal

pub loop-met-preserved : goal.loop-met-preserved
loop-met-preserved c =
    let mets = c.args.mets.now in
    let names = c.args.names.now in
    let i = c.loop-met.met-index in
    let met = c.met-item.result in
    subst (λ (xs : List Met). AreMarks (DiffersFreeIn names) xs c.push.new.self.items) (sym (take_more mets i met c.loop-met-test.true))
    (subst (λ (m : Met). AreMarks (DiffersFreeIn names) (take i mets ++ m ∷ []) c.push.new.self.items) c.met-item.is
    (subst (λ (bs : List Bool). AreMarks (DiffersFreeIn names) (take i mets ++ met ∷ []) bs) (sym c.in_ok-push.ensures.items)
    (marks_more (DiffersFreeIn names) (take i mets) met c.loop-met.marks.items c.in_ok-mark.mark c.loop-met.invariant
    (subst (λ (n : ℕ). Decides (DifferFree (traffic_of met.moment.world).nodes (lost_of met.moment.world) n names) c.in_ok-mark.mark) (c.len-count.ensures ∙ met.moment.strands.ok.0) c.in_ok-mark.ensures))))
