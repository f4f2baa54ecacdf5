use Rattle.std.proofs.Common.{refl, sym, true, ◌∙◌}
use Rattle.pg_step.specs.PgMulticall.Gathered.{what_of}
use Rattle.pg_step.specs.PgMulticall.declared.gather.Taken.TheVariants.{Stranger}
use Rattle.pg_step.specs.Attempts.{gathered}
use Rattle.pg_node_opens.specs.Places.{name_at}
use Rattle.pg_node_opens.proofs.Found.{nothing_of, stands, heard_here}
use Rattle.pg_node_opens.proofs.opens.Opens.heard.Goals as goal

pub returns-in-None : goal.returns-in-None
returns-in-None c = sym (nothing_of (λ used. what_of true (gathered used (name_at c.args.self.now.names.items c.args.place))) Stranger _ _ _ _ c.args.number c.deref.ensures.value c.in-None.ensures.none refl refl)

pub returns-in-Some : goal.returns-in-Some
returns-in-Some c = c.heard.ensures ∙ heard_here _ _ _ _ _ _ c.args.number c.args.place c.args.self.now.apart c.args.self.now.places c.args.self.now.known (stands c.args.self.now.commands.items c.deref.result.now c.in-Some.found c.index-command.result.now c.args.number c.deref.ensures.value c.in-Some.ensures.within c.in-Some.ensures.some c.index-command.ensures) c.requires
