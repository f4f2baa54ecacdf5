use Rattle.std.proofs.Common.{◌∙◌}
use Rattle.pg_node_sends.proofs.FrameLaws.{nobody_goes}
use Rattle.pg_node_sends.proofs.framed.Framed.nobody.Goals as goal

pub returns : goal.returns
returns c = c.new.ensures ∙ nobody_goes c.new-frame.result.items
