use Rattle.std.proofs.Common.{◌∙◌}
use Rattle.pg_text.proofs.Characters.{over}
use Rattle.pg_text.proofs.reading.fronts.is_over.Goals as goal

pub returns : goal.returns
returns c = c.is_empty.ensures ∙ over c.args.text.now c.utf8.text
