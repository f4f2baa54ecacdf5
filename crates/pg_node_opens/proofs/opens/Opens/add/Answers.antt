use Rattle.std.proofs.Common.{List, refl, sym, subst, ◌∙◌}
use Rattle.pg_step.specs.Commands.{open_command}
use Rattle.pg_node_opens.specs.declared.command.Phase.TheVariants as phase
use Rattle.pg_node_opens.specs.declared.command.OpenCommand.{OpenCommand}
use Rattle.pg_node_opens.specs.Commands.{AreKnown}
use Rattle.pg_node_opens.specs.Opens.{Says}
use Rattle.pg_node_opens.proofs.Added.{add_known, add_follows}
use Rattle.pg_node_opens.proofs.opens.Opens.add.Goals as goal

pub invariant_of-self : goal.invariant_of-self
invariant_of-self c = record {
  apart = c.args.self.now.apart;
  places = c.args.self.now.places;
  known = subst {A = List OpenCommand} (λ os. AreKnown c.args.self.now.names.items c.args.self.now.references os) (sym c.push_reserved.ensures.items)
      (add_known c.args.self.now.names.items c.args.self.now.references c.args.self.now.commands.items (record { op = c.args.op; update = c.args.update; phase = phase.Waiting; marks = c.none.result }) c.args.self.now.known refl c.requires.closed (c.none.ensures.len ∙ (c.len.ensures ∙ c.args.self.now.names.ok.0)) c.args.self.now.places.some);
}

pub returns-clause-turned : goal.returns-clause-turned
returns-clause-turned c s h = subst {A = List OpenCommand} (λ os. Says c.args.self.now.names.items c.args.self.now.lost.items c.args.self.now.references os (open_command c.args.op c.args.update s).state) (sym c.push_reserved.ensures.items)
    (add_follows c.args.self.now.names.items c.args.self.now.references c.args.self.now.commands.items (record { op = c.args.op; update = c.args.update; phase = phase.Waiting; marks = c.none.result }) c.args.self.now.known refl c.requires.closed c.args.self.now.lost.items s h)
