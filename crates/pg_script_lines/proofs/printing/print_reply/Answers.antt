use Rattle.std.specs.Str.{chars}
use Rattle.pg_script_lines.proofs.printing.print_reply.Goals as goal

pub returns-in-Ok : goal.returns-in-Ok
unfolding chars
returns-in-Ok c = rw c.in-Ok.is c.add_text.ensures

pub returns-in-NoSuchGroup : goal.returns-in-NoSuchGroup
unfolding chars
returns-in-NoSuchGroup c = rw c.in-NoSuchGroup.is c.print_error.ensures

pub returns-in-NoProcess : goal.returns-in-NoProcess
unfolding chars
returns-in-NoProcess c = rw c.in-NoProcess.is c.print_error-in-NoProcess.ensures
