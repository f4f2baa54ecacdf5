use Rattle.std.proofs.Common.{refl}
use Rattle.std.specs.Str.{chars}
use Rattle.pg_script_lines.proofs.printing.state_text.Goals as goal

pub returns-then-is_free : goal.returns-then-is_free
unfolding chars
returns-then-is_free c = rw c.if-is_free.true refl

pub returns-else-is_free : goal.returns-else-is_free
unfolding chars
returns-else-is_free c = rw c.if-is_free.false refl
