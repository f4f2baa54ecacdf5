use Rattle.pg_laws_examples.proofs.QueriesShown.{queries_read}
use Rattle.pg_laws_examples.proofs.examples.queries_read.Goals as goal

pub returns : goal.returns
returns c = queries_read
