use Rattle.pg_test_state.proofs.Apart.{three_apart}
use Rattle.pg_test_state.proofs.commands.steps.opens_of.Goals as goal

pub new-requires-clause-apart : goal.new-requires-clause-apart
new-requires-clause-apart c = three_apart _ c.args.a c.args.b c.args.c c.in_ok-names.ensures.items c.requires.ab c.requires.ac c.requires.bc
