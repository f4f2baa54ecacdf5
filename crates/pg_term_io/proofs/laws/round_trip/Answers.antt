use Rattle.pg_term_io.proofs.Rewritten as rewritten
use Rattle.pg_term_io.proofs.laws.round_trip.Goals as goal

pub returns-clause-spelled : goal.returns-clause-spelled
returns-clause-spelled c = rewritten.spelled_again

pub returns-clause-back : goal.returns-clause-back
returns-clause-back c = rewritten.read_back

pub returns-clause-apart : goal.returns-clause-apart
returns-clause-apart c = rewritten.apart
