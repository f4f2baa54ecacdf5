use Rattle.std.proofs.Common.{◌<◌, ℕ, get_or, rules}
use Rattle.pg_text.proofs.TermsBack.{all_below}
use Rattle.pg_text.proofs.again.words_fit.Goals as goal

pub returns : goal.returns
returns c =
    let below : (i : ℕ) → get_or c.args._words.now i 0 < 4294967296 = search rules in
    all_below 4294967296 c.args._words.now below
