use Rattle.std.proofs.Common.{List, sym, subst, ◌∙◌}
use Rattle.pg_step.specs.Attempts.{finish}
use Rattle.pg_node_opens.specs.declared.command.OpenCommand.{OpenCommand}
use Rattle.pg_node_opens.specs.Commands.{AreKnown, stage_at}
use Rattle.pg_node_opens.specs.Opens.{Says, live_of}
use Rattle.pg_node_opens.proofs.Layered.{others_remove}
use Rattle.pg_node_opens.proofs.Uses.{known_ended}
use Rattle.pg_node_opens.proofs.Found.{stands, no_updating}
use Rattle.pg_node_opens.proofs.Followed.{finish_follows}
use Rattle.pg_node_opens.proofs.opens.Opens.finish.Goals as goal

pub invariant_of-self : goal.invariant_of-self
invariant_of-self c = let at = stands c.args.self.now.commands.items c.deref.result.now c.in-Some.place c.remove.result c.args.number c.deref.ensures.value c.in-Some.ensures.within c.in-Some.ensures.some c.remove.ensures.value in record {
  apart = c.args.self.now.apart;
  places = c.args.self.now.places;
  known = subst {A = List OpenCommand} (λ os. AreKnown c.args.self.now.names.items c.args.self.now.references os) (sym (c.remove.ensures.items ∙ others_remove stage_at c.args.self.now.commands.items c.in-Some.place))
      (known_ended c.args.self.now.names.items c.args.self.now.references c.args.self.now.commands.items c.in-Some.place c.remove.result c.args.self.now.known at.here);
}

pub returns-in-Some-clause-turned : goal.returns-in-Some-clause-turned
returns-in-Some-clause-turned c op update lock replied e s h = subst {A = List OpenCommand} (λ os. Says c.args.self.now.names.items c.args.self.now.lost.items c.args.self.now.references os (finish (live_of c.args.self.now) c.args.number op update lock s).state) (sym (c.remove.ensures.items ∙ others_remove stage_at c.args.self.now.commands.items c.in-Some.place))
    (finish_follows c.args.self.now.names.items c.args.self.now.lost.items c.args.self.now.references c.args.self.now.commands.items c.in-Some.place c.remove.result c.args.self.now.known (live_of c.args.self.now) c.args.number op update lock replied (stands c.args.self.now.commands.items c.deref.result.now c.in-Some.place c.remove.result c.args.number c.deref.ensures.value c.in-Some.ensures.within c.in-Some.ensures.some c.remove.ensures.value) e s h)

pub returns-in_default-clause-turned : goal.returns-in_default-clause-turned
returns-in_default-clause-turned c = absurd (no_updating c.args.self.now.names.items c.args.self.now.references c.args.self.now.commands.items c.deref.result.now c.args.number c.deref.ensures.value c.in_default.ensures.none c.requires.updating)
