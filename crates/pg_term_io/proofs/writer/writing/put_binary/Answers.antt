use Rattle.std.proofs.Common.{◌<◌, ℕ, get_or, rules}
use Rattle.pg_term_io.proofs.Atoms.{all_fit}
use Rattle.pg_term_io.proofs.Spelled.{binary_spelled}
use Rattle.pg_term_io.proofs.writer.writing.put_binary.Goals as goal

pub returns-clause-spelled : goal.returns-clause-spelled
returns-clause-spelled c =
    let fit : (i : ℕ) → get_or c.args.content.now i 0 < 256 = search rules in
    binary_spelled c.args.content.now c.requires.short (all_fit c.args.content.now fit)
