use Rattle.pg_node_opens.proofs.Found.{stands, no_locking}
use Rattle.pg_node_opens.proofs.Followed.{count_answer_follows, same_known}
use Rattle.pg_node_opens.proofs.opens.Opens.count_answer.Goals as goal

pub invariant_of-self : goal.invariant_of-self
invariant_of-self c = record {
  apart = c.args.self.now.apart;
  places = c.args.self.now.places;
  known = same_known c.args.self.now.names.items c.args.self.now.references c.args.self.now.commands.items c.in-Some.found c.index_mut-command.result.now c.count.new.self c.args.self.now.known c.args.number (stands c.args.self.now.commands.items c.deref.result.now c.in-Some.found c.index_mut-command.result.now c.args.number c.deref.ensures.value c.in-Some.ensures.within c.in-Some.ensures.some c.index_mut-command.ensures.value) c.count.ensures.turns;
}

pub returns-in-Some-clause-turned : goal.returns-in-Some-clause-turned
returns-in-Some-clause-turned c op update f st e = count_answer_follows c.args.self.now.names.items c.args.self.now.lost.items c.args.self.now.references c.args.self.now.commands.items c.in-Some.found c.index_mut-command.result.now c.count.new.self c.args.self.now.apart c.args.self.now.places c.args.self.now.known c.args.number c.args.place c.args.granted op update f st
    (stands c.args.self.now.commands.items c.deref.result.now c.in-Some.found c.index_mut-command.result.now c.args.number c.deref.ensures.value c.in-Some.ensures.within c.in-Some.ensures.some c.index_mut-command.ensures.value) e c.count.ensures.turns c.requires.place
    c.count.ensures.marks

pub returns-in_default-clause-turned : goal.returns-in_default-clause-turned
returns-in_default-clause-turned c = absurd (no_locking c.args.self.now.names.items c.args.self.now.references c.args.self.now.commands.items c.deref.result.now c.args.number c.deref.ensures.value c.in_default.ensures.none c.requires.locking)
