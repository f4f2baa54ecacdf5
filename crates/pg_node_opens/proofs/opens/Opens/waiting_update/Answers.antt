use Rattle.std.proofs.Common.{sym, ap, ◌∙◌}
use Rattle.pg_node_opens.specs.Readings.{waiting_of}
use Rattle.pg_node_opens.proofs.Found.{closed_of, stands_for, waiting_here}
use Rattle.pg_node_opens.proofs.opens.Opens.waiting_update.Goals as goal

pub returns-in-None : goal.returns-in-None
returns-in-None c = sym (ap waiting_of (closed_of c.args.self.now.commands.items c.deref.result.now c.args.op c.deref.ensures.value c.in-None.ensures.none))

pub returns-in-Some : goal.returns-in-Some
returns-in-Some c = c.waiting_update.ensures ∙ waiting_here c.args.self.now.names.items c.args.self.now.references c.args.self.now.commands.items c.in-Some.place c.index-command.result.now c.args.op c.args.self.now.known (stands_for c.args.self.now.commands.items c.deref.result.now c.in-Some.place c.index-command.result.now c.args.op c.deref.ensures.value c.in-Some.ensures.within c.in-Some.ensures.some c.index-command.ensures)
