use Rattle.std.proofs.Common.{refl, sym, ap, false, ◌∙◌}
use Rattle.pg_step.specs.Attempts.{is_complete}
use Rattle.pg_node_opens.specs.Places.{live_in}
use Rattle.pg_node_opens.specs.Readings.{complete_in}
use Rattle.pg_node_opens.proofs.Found.{nothing_of, stands, complete_here}
use Rattle.pg_node_opens.proofs.opens.Opens.is_complete_near.Goals as goal

pub returns-in-None : goal.returns-in-None
returns-in-None c = sym (nothing_of (is_complete (live_in c.args.self.now.names.items c.args.self.now.lost.items)) false _ _ _ _ c.args.number c.deref.ensures.value c.in-None.ensures.none refl refl)

pub returns-in-Some : goal.returns-in-Some
returns-in-Some c = c.is_complete.ensures
    ∙ (ap (λ z. complete_in c.index-command.result.now.phase c.index-command.result.now.marks z c.args.number) c.deref-in-Some.ensures.value
    ∙ complete_here _ _ _ _ _ _ c.args.self.now.apart c.args.self.now.places c.args.self.now.known c.args.number
    (stands c.args.self.now.commands.items c.deref.result.now c.in-Some.place c.index-command.result.now c.args.number c.deref.ensures.value c.in-Some.ensures.within c.in-Some.ensures.some c.index-command.ensures))
