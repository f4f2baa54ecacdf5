use Rattle.std.specs.Str.{chars}
use Rattle.pg_script_diagram.proofs.escape.add_escaped_char.Goals as goal

pub returns-in-38 : goal.returns-in-38
unfolding chars
returns-in-38 c = rw c.in-38.is c.add_text.ensures

pub returns-in-60 : goal.returns-in-60
unfolding chars
returns-in-60 c = rw c.in-60.is c.add_text-in-60.ensures

pub returns-in-62 : goal.returns-in-62
unfolding chars
returns-in-62 c = rw c.in-62.is c.add_text-in-62.ensures

pub returns-in-34 : goal.returns-in-34
unfolding chars
returns-in-34 c = rw c.in-34.is c.add_text-in-34.ensures

pub returns-in-39 : goal.returns-in-39
unfolding chars
returns-in-39 c = rw c.in-39.is c.add_text-in-39.ensures
