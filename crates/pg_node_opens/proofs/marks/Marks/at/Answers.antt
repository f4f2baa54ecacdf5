use Rattle.std.proofs.Common.{◌∙◌, ap}
use Rattle.pg_node_opens.specs.Marks.{mark_of}
use Rattle.pg_node_opens.proofs.Kept.{mark_is}
use Rattle.pg_node_opens.proofs.marks.Marks.at.Goals as goal

pub returns : goal.returns
returns c = c.of.ensures ∙ (ap mark_of c.reply.ensures ∙ mark_is c.self.inside c.args.self.now c.args.place c.self.view_is c.requires)
