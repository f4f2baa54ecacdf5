use Rattle.std.proofs.Common.{arith}
use Rattle.std.proofs.lemmas.Bool.Decides.{nat_tests}
use Rattle.pg_node_sends.proofs.calls.is_busy.Goals as goal

pub returns : goal.returns
returns c = grind (arith, nat_tests)
