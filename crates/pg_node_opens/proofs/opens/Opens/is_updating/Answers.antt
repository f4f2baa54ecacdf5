use Rattle.std.proofs.Common.{ap, ◌∙◌}
use Rattle.pg_node_opens.specs.Opens.{uses_of}
use Rattle.pg_node_opens.specs.Readings.{is_update}
use Rattle.pg_node_opens.proofs.Found.{update_gathered}
use Rattle.pg_node_opens.proofs.opens.Opens.is_updating.Goals as goal

pub returns : goal.returns
returns c = c.is_update.ensures ∙ (ap is_update c.gathering.ensures ∙ update_gathered (uses_of c.args.self.now c.args.number))
