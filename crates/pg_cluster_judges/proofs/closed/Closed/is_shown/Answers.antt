use Rattle.std.proofs.Common.{◌↔◌, sym, subst, ◌∙◌}
use Rattle.std.specs.Prelude.{IfOk, IsTrue}
use Rattle.pg_world.specs.PgWorldPackets.FrameWorlds.{view_of}
use Rattle.pg_cluster_judges.specs.Judges.{AreShown}
use Rattle.pg_cluster_judges.proofs.Judging.{both_so, of_ok}
use Rattle.pg_cluster_judges.proofs.closed.Closed.is_shown.Goals as goal

pub returns-clause-shown : goal.returns-clause-shown
returns-clause-shown c =
    both_so (AreShown (view_of c.args.world.now).traffic.nodes c.args.self.now.nodes.items) c.shows_all.result (sym c.all_made.ensures ∙ c.if-not-all_made.false)
    (subst (λ nodes. IfOk c.shows_all.result (λ yes. IsTrue yes ↔ AreShown (view_of c.args.world.now).traffic.nodes nodes)) c.as_slice.ensures.value c.shows_all.ensures)

pub returns-clause-all_made : goal.returns-clause-all_made
returns-clause-all_made c = of_ok c.shows_all.result (sym c.ran_out.ensures ∙ c.if-ran_out.false)
