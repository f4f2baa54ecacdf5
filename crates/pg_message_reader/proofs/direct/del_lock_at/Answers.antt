use Rattle.std.proofs.Common.{codes}
use Rattle.pg_term.specs.declared.term.Term.TheVariants.{Atom, Ref}
use Rattle.pg_message_types.specs.Writing.{triple}
use Rattle.pg_message_reader.proofs.Standing.{pair_stands, triple_stands}
use Rattle.pg_message_reader.proofs.direct.del_lock_at.Goals as goal

pub returns-in-Ok-clause-term : goal.returns-in-Ok-clause-term
returns-in-Ok-clause-term c = λ front inner cast opens.
    let name = c.in_ok-name.name in
    let reference = Ref c.in-Ok.reference in
    let rest = c.in-Ok.rest.now in
    pair_stands 61 (codes "cast") front inner (triple (Atom (codes "del_lock")) name reference) rest cast
    (triple_stands 60 (codes "del_lock") inner c.args.bytes.now name reference c.in_ok-name.rest.now rest opens c.in_ok-name.ensures.term (c.in-Ok.ensures 60))
