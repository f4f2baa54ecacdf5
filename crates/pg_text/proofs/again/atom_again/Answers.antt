use Rattle.pg_text.proofs.TermsBack.{atom_reads_back, scalars_same}
use Rattle.pg_text.proofs.again.atom_again.Goals as goal

pub returns : goal.returns
returns c = atom_reads_back c.args.atom.now c.as_str-text.ensures.limit (scalars_same c.as_str-text.result.now c.args.atom.now c.as_str-text.utf8 c.as_str-text.ensures.characters)
