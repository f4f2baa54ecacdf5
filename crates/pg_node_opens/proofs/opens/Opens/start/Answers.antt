use Rattle.pg_node_opens.proofs.Found.{stands_for, no_waiting}
use Rattle.pg_node_opens.proofs.Followed.{start_follows, start_known}
use Rattle.pg_node_opens.proofs.opens.Opens.start.Goals as goal

pub invariant_of-self : goal.invariant_of-self
invariant_of-self c = record {
  apart = c.args.self.now.apart;
  places = c.args.self.now.places;
  known = start_known c.args.self.now.names.items c.args.self.now.references c.args.self.now.commands.items c.in-Some.place c.index_mut-command.result.now c.start.new.self c.args.self.now.known c.args.op c.args.first
      (stands_for c.args.self.now.commands.items c.deref.result.now c.in-Some.place c.index_mut-command.result.now c.args.op c.deref.ensures.value c.in-Some.ensures.within c.in-Some.ensures.some c.index_mut-command.ensures.value) c.requires.waits c.start.ensures.turns c.requires.first;
}

pub returns-in-Some-clause-turned : goal.returns-in-Some-clause-turned
returns-in-Some-clause-turned c update waits = start_follows c.args.self.now.names.items c.args.self.now.lost.items c.args.self.now.references c.args.self.now.commands.items c.in-Some.place c.index_mut-command.result.now c.start.new.self c.args.self.now.apart c.args.self.now.places c.args.self.now.known c.args.op c.args.first update
    (stands_for c.args.self.now.commands.items c.deref.result.now c.in-Some.place c.index_mut-command.result.now c.args.op c.deref.ensures.value c.in-Some.ensures.within c.in-Some.ensures.some c.index_mut-command.ensures.value) waits c.start.ensures.turns c.requires.first c.start.ensures.marks

pub returns-in_default-clause-turned : goal.returns-in_default-clause-turned
returns-in_default-clause-turned c = absurd (no_waiting c.args.self.now.commands.items c.deref.result.now c.args.op c.deref.ensures.value c.in_default.ensures.none c.requires.waits)
