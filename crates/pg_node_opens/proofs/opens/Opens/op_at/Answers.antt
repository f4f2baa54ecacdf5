use Rattle.std.proofs.Common.{length, refl}
use Rattle.std.proofs.lemmas.Option.{slice_get_read}
use Rattle.pg_node_opens.proofs.Listed.{op_here}
use Rattle.pg_node_opens.proofs.opens.Opens.op_at.Goals as goal

pub returns : goal.returns
returns c = op_here c.args.self.now.commands.items c.args.place c.index-command.result.now
    (slice_get_read c.args.self.now.commands.items (length c.args.self.now.commands.items) c.args.place c.index-command.result.now refl c.requires c.index-command.ensures)
