use Rattle.pg_text.proofs.TermsBack.{int_reads_back}
use Rattle.pg_text.proofs.again.integer_again.Goals as goal

pub returns : goal.returns
returns c = int_reads_back c.args._number c.ranges._number
