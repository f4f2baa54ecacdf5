use Rattle.std.proofs.Common.{sym, ◌∙◌}
use Rattle.pg_message_types.proofs.Ascents.{few_ascend}
use Rattle.pg_message_types.proofs.groups.do_ascend.Goals as goal

pub returns : goal.returns
returns c = sym (few_ascend c.loop-left.left.now c.in_default.len_below) ∙ c.loop-left.invariant
