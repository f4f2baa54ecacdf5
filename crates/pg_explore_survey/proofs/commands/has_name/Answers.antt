use Rattle.std.proofs.Common.{sym}
use Rattle.pg_term.proofs.Same as decided
use Rattle.pg_explore_survey.proofs.Naming.{found_there}
use Rattle.pg_explore_survey.proofs.commands.has_name.Goals as goal

pub returns-then-eq : goal.returns-then-eq
returns-then-eq c = λ _.
    let known = c.known-item.result in
    let name = c.args.name.now in
    found_there c.args.names.now c.loop-known.known-index known name c.loop-known-test.true c.known-item.is (decided.same_term known name (sym c.if-eq.ensures))
