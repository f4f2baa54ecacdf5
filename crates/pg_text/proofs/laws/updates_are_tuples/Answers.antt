use Rattle.std.proofs.Common.{codes, refl, sym}
use Rattle.pg_text.specs.Writing.{atom_text}
use Rattle.pg_text.proofs.Tuples.{pair_text, triple_text}
use Rattle.pg_text.proofs.laws.updates_are_tuples.Goals as goal

pub returns-clause-create : goal.returns-clause-create
unfolding atom_text
returns-clause-create c = λ name. sym (pair_text (codes "create") name refl)

pub returns-clause-delete : goal.returns-clause-delete
unfolding atom_text
returns-clause-delete c = λ name. sym (pair_text (codes "delete") name refl)

pub returns-clause-join : goal.returns-clause-join
unfolding atom_text
returns-clause-join c = λ name pid. sym (triple_text (codes "join") name refl pid)

pub returns-clause-leave : goal.returns-clause-leave
unfolding atom_text
returns-clause-leave c = λ name pid. sym (triple_text (codes "leave") name refl pid)
