use Rattle.std.proofs.Common.{ℕ, List, [], ◌∷◌, ◌++◌, Bool, take, sym, subst, ◌∙◌}
use Rattle.std.proofs.lemmas.List.{take_more}
use Rattle.pg_explore.specs.declared.explored.Met.{Met}
use Rattle.pg_script.specs.PgWorldPackets.FrameWorlds.{lost_of, traffic_of}
use Rattle.pg_explore_survey.specs.Differing.{Differ, Decides}
use Rattle.pg_explore_survey.specs.Findings.{AreMarks, DiffersIn}
use Rattle.pg_explore_survey.proofs.Marking.{marks_more}
use Rattle.pg_explore_survey.proofs.tally.differing_of.Goals as goal

pub loop-met-preserved : goal.loop-met-preserved
loop-met-preserved c =
    let mets = c.args.mets.now in
    let names = c.args.names.now in
    let i = c.loop-met.met-index in
    let met = c.met-item.result in
    subst (λ (xs : List Met). AreMarks (DiffersIn names) xs c.push.new.self.items) (sym (take_more mets i met c.loop-met-test.true))
    (subst (λ (m : Met). AreMarks (DiffersIn names) (take i mets ++ m ∷ []) c.push.new.self.items) c.met-item.is
    (subst (λ (bs : List Bool). AreMarks (DiffersIn names) (take i mets ++ met ∷ []) bs) (sym c.in_ok-push.ensures.items)
    (marks_more (DiffersIn names) (take i mets) met c.loop-met.marks.items c.in_ok-mark.mark c.loop-met.invariant
    (subst (λ (n : ℕ). Decides (Differ (traffic_of met.moment.world).nodes (lost_of met.moment.world) n names) c.in_ok-mark.mark) (c.len-count.ensures ∙ met.moment.strands.ok.0) c.in_ok-mark.ensures))))
