use Rattle.std.proofs.Common.{refl, sym, ap, false, ◌∙◌}
use Rattle.pg_node_opens.specs.Outlooks.{outlook_in}
use Rattle.pg_node_opens.specs.Readings.{is_locking}
use Rattle.pg_node_opens.proofs.Named.{clash}
use Rattle.pg_node_opens.proofs.Found.{nothing_of, stands, outlook_here}
use Rattle.pg_node_opens.proofs.opens.Opens.outlook.Goals as goal

pub returns-in-None : goal.returns-in-None
returns-in-None c = absurd (clash (sym c.requires ∙ nothing_of is_locking false _ _ _ _ c.args.number c.deref.ensures.value c.in-None.ensures.none refl refl))

pub returns-in-Some : goal.returns-in-Some
returns-in-Some c = c.outlook.ensures
    ∙ (ap (λ z. outlook_in c.index-command.result.now.phase c.index-command.result.now.marks z c.args.granted) c.deref-in-Some.ensures.value
    ∙ outlook_here _ _ _ _ _ _ c.args.self.now.apart c.args.self.now.places c.args.self.now.known c.args.number
    (stands c.args.self.now.commands.items c.deref.result.now c.in-Some.place c.index-command.result.now c.args.number c.deref.ensures.value c.in-Some.ensures.within c.in-Some.ensures.some c.index-command.ensures) c.args.granted c.requires)
