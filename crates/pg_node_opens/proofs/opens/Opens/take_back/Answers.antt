use Rattle.std.proofs.Common.{List, sym, subst, ◌∙◌}
use Rattle.pg_node_opens.specs.declared.command.OpenCommand.{OpenCommand}
use Rattle.pg_node_opens.specs.Commands.{AreKnown, stage_at}
use Rattle.pg_node_opens.specs.Opens.{Says}
use Rattle.pg_node_opens.specs.TakenBack.{command_taken_back}
use Rattle.pg_node_opens.proofs.Layered.{others_remove}
use Rattle.pg_node_opens.proofs.Uses.{known_ended}
use Rattle.pg_node_opens.proofs.Found.{stands_for, no_waiting}
use Rattle.pg_node_opens.proofs.Followed.{take_back_follows}
use Rattle.pg_node_opens.proofs.opens.Opens.take_back.Goals as goal

pub invariant_of-self : goal.invariant_of-self
invariant_of-self c =
    let at = stands_for c.args.self.now.commands.items c.deref.result.now c.in-Some.place c.remove.result c.args.op c.deref.ensures.value c.in-Some.ensures.within c.in-Some.ensures.some c.remove.ensures.value in
    record {
      apart = c.args.self.now.apart;
      places = c.args.self.now.places;
      known = subst {A = List OpenCommand} (λ os. AreKnown c.args.self.now.names.items c.args.self.now.references os) (sym (c.remove.ensures.items ∙ others_remove stage_at c.args.self.now.commands.items c.in-Some.place))
          (known_ended c.args.self.now.names.items c.args.self.now.references c.args.self.now.commands.items c.in-Some.place c.remove.result c.args.self.now.known at.here);
    }

pub returns-in-Some-clause-turned : goal.returns-in-Some-clause-turned
returns-in-Some-clause-turned c s h =
    let at = stands_for c.args.self.now.commands.items c.deref.result.now c.in-Some.place c.remove.result c.args.op c.deref.ensures.value c.in-Some.ensures.within c.in-Some.ensures.some c.remove.ensures.value in
    subst {A = List OpenCommand} (λ os. Says c.args.self.now.names.items c.args.self.now.lost.items c.args.self.now.references os (command_taken_back c.args.op s).state) (sym (c.remove.ensures.items ∙ others_remove stage_at c.args.self.now.commands.items c.in-Some.place))
    (take_back_follows c.args.self.now.names.items c.args.self.now.lost.items c.args.self.now.references c.args.self.now.commands.items c.in-Some.place c.remove.result c.args.self.now.known c.args.op at c.requires.waits s h)

pub returns-in_default-clause-turned : goal.returns-in_default-clause-turned
returns-in_default-clause-turned c = absurd (no_waiting c.args.self.now.commands.items c.deref.result.now c.args.op c.deref.ensures.value c.in_default.ensures.none c.requires.waits)
