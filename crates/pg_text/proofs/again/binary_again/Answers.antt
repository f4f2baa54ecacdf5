use Rattle.std.proofs.Common.{◌<◌, ℕ, get_or, rules}
use Rattle.pg_text.proofs.TermsBack.{binary_reads_back, all_below}
use Rattle.pg_text.proofs.again.binary_again.Goals as goal

pub returns : goal.returns
returns c =
    let below : (i : ℕ) → get_or c.args._content.now i 0 < 256 = search rules in
    binary_reads_back c.args._content.now (all_below 256 c.args._content.now below)
