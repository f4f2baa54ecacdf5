use Rattle.std.proofs.Common.{ap, ◌∙◌}
use Rattle.pg_step.specs.Attempts.{is_complete}
use Rattle.pg_node_opens.specs.Opens.{live_of, uses_of, stages_of}
use Rattle.pg_node_opens.specs.Readings.{waits_by}
use Rattle.pg_node_opens.proofs.Found.{waits_so}
use Rattle.pg_node_opens.proofs.opens.Opens.waits_near.Goals as goal

pub returns : goal.returns
returns c s h = c.waits_in.ensures
    ∙ (ap (λ z. waits_by z (λ number. is_complete (live_of c.args.self.now) (uses_of c.args.self.now number))) c.stage_near.ensures
    ∙ waits_so (live_of c.args.self.now) (stages_of c.args.self.now c.args.op) (uses_of c.args.self.now) s h.uses)
