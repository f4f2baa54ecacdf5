use Rattle.std.proofs.Common.{ap, ◌∙◌}
use Rattle.pg_node_opens.specs.Opens.{uses_of}
use Rattle.pg_node_opens.specs.Readings.{is_lock}
use Rattle.pg_node_opens.proofs.Found.{lock_gathered}
use Rattle.pg_node_opens.proofs.opens.Opens.is_locking.Goals as goal

pub returns : goal.returns
returns c = c.is_lock.ensures ∙ (ap is_lock c.gathering.ensures ∙ lock_gathered (uses_of c.args.self.now c.args.number))
