use Rattle.std.proofs.Common.{refl, sym, ◌∙◌}
use Rattle.pg_node_opens.specs.declared.command.Gathering.TheVariants.{Nothing}
use Rattle.pg_node_opens.specs.Readings.{gathering_of}
use Rattle.pg_node_opens.proofs.Found.{nothing_of, stands, gathering_here}
use Rattle.pg_node_opens.proofs.opens.Opens.gathering.Goals as goal

pub returns-in-None : goal.returns-in-None
returns-in-None c = sym (nothing_of gathering_of Nothing _ _ _ _ c.args.number c.deref.ensures.value c.in-None.ensures.none refl refl)

pub returns-in-Some : goal.returns-in-Some
returns-in-Some c = c.gathering.ensures ∙ gathering_here _ _ _ _ _ c.args.number c.args.self.now.known (stands c.args.self.now.commands.items c.deref.result.now c.in-Some.place c.index-command.result.now c.args.number c.deref.ensures.value c.in-Some.ensures.within c.in-Some.ensures.some c.index-command.ensures)
