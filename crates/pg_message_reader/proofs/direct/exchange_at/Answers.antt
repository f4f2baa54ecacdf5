use Rattle.std.proofs.Common.{codes, map}
use Rattle.pg_term.specs.declared.term.Term.{List as Listed}
use Rattle.pg_term.specs.declared.term.Term.TheVariants.{Atom}
use Rattle.pg_message_types.specs.Writing.{triple, group_term}
use Rattle.pg_message_reader.proofs.Standing.{pair_stands, triple_stands}
use Rattle.pg_message_reader.proofs.direct.exchange_at.Goals as goal

pub returns-clause-term : goal.returns-clause-term
returns-clause-term c = λ front inner cast opens.
    let node = Atom c.in_ok-node.node in
    let groups = Listed (map group_term c.in_ok-groups.groups) in
    let rest = c.in_ok-groups.rest.now in
    pair_stands 61 (codes "cast") front inner (triple (Atom (codes "exchange")) node groups) rest cast
    (triple_stands 60 (codes "exchange") inner c.args.bytes.now node groups c.in_ok-node.rest.now rest opens c.in_ok-node.ensures c.in_ok-groups.ensures.term)

pub returns-clause-sayable : goal.returns-clause-sayable
returns-clause-sayable c = c.in_ok-groups.ensures.sayable c.in_ok-node.node
