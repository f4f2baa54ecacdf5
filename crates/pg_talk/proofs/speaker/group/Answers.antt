use Rattle.std.proofs.Common.{ap}
use Rattle.std.specs.Prelude.{codes}
use Rattle.std.specs.Str.{chars}
use Rattle.pg_term.specs.declared.term.Term.TheVariants.{Atom}
use Rattle.pg_talk.proofs.Conversing.{atom_is}
use Rattle.pg_talk.proofs.speaker.group.Goals as goal

pub returns-in-Ok : goal.returns-in-Ok
unfolding chars
returns-in-Ok c = ap Atom (atom_is (codes "g") c.in-Ok.name c.in-Ok.ensures.exact)
