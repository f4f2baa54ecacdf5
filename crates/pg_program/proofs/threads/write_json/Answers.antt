use Rattle.std.proofs.Common.{append_assoc, ◌∙◌}
use Rattle.pg_program.proofs.threads.write_json.Goals as goal

pub returns : goal.returns
returns c = c.in_ok-writeln.ensures.bytes ∙ simp append_assoc
