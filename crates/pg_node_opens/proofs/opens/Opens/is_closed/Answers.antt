use Rattle.std.proofs.Common.{ap, ◌∙◌}
use Rattle.pg_node_opens.specs.Opens.{stages_of}
use Rattle.pg_node_opens.specs.Readings.{is_closed}
use Rattle.pg_node_opens.proofs.Found.{closed_by}
use Rattle.pg_node_opens.proofs.opens.Opens.is_closed.Goals as goal

pub returns : goal.returns
returns c = closed_by c.is_closed.result (stages_of c.args.self.now c.args.op) (c.is_closed.ensures ∙ ap is_closed c.stage.ensures)
