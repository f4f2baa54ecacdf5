use Rattle.std.proofs.Common.{sym, subst}
use Rattle.pg_node_opens.specs.Places.{ArePlaces}
use Rattle.pg_node_opens.proofs.Forgotten.{lose_known, lose_follows, lose_places}
use Rattle.pg_node_opens.proofs.opens.Opens.lose.Goals as goal

pub invariant_of-self : goal.invariant_of-self
invariant_of-self c = record {
  apart = c.args.self.now.apart;
  places = subst (λ z. ArePlaces c.args.self.now.names.items z) (sym c.set_lost.ensures) (lose_places c.args.self.now.names.items c.args.self.now.lost.items c.args.place c.args.self.now.places c.requires.peer);
  known = lose_known c.args.self.now.names.items c.args.place c.args.self.now.apart c.requires.place c.args.self.now.references c.args.self.now.commands.items c.forget.new.commands.items c.args.self.now.known c.forget.ensures.len c.forget.ensures.each;
}

pub returns-clause-turned : goal.returns-clause-turned
returns-clause-turned c = lose_follows c.args.self.now.names.items c.args.place c.args.self.now.apart c.requires.place c.args.self.now.references c.args.self.now.commands.items c.forget.new.commands.items c.args.self.now.known c.forget.ensures.len c.forget.ensures.each
    c.args.self.now.lost.items c.set_lost.new.lost.items c.args.self.now.places c.set_lost.ensures
