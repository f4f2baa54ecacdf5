use Rattle.std.proofs.Common.{None, refl, sym, ◌∙◌}
use Rattle.pg_node_opens.specs.Readings.{update_of}
use Rattle.pg_node_opens.proofs.Found.{nothing_of, stands, update_here}
use Rattle.pg_node_opens.proofs.opens.Opens.update.Goals as goal

pub returns-in-None : goal.returns-in-None
returns-in-None c = sym (nothing_of update_of None c.args.self.now.names.items c.args.self.now.references c.args.self.now.commands.items c.deref.result.now c.args.number c.deref.ensures.value c.in-None.ensures.none refl refl)

pub returns-in-Some : goal.returns-in-Some
returns-in-Some c = c.update_under.ensures ∙ update_here c.args.self.now.names.items c.args.self.now.references c.args.self.now.commands.items c.in-Some.place c.index-command.result.now c.args.number c.args.self.now.known (stands c.args.self.now.commands.items c.deref.result.now c.in-Some.place c.index-command.result.now c.args.number c.deref.ensures.value c.in-Some.ensures.within c.in-Some.ensures.some c.index-command.ensures)
