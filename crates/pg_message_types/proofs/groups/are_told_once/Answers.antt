use Rattle.std.proofs.Common.{sym, ◌∙◌}
use Rattle.pg_message_types.proofs.Ascents.{ascending_once}
use Rattle.pg_message_types.proofs.groups.are_told_once.Goals as goal

pub returns-then-do_ascend : goal.returns-then-do_ascend
returns-then-do_ascend c = sym (ascending_once c.args.groups.now (sym c.do_ascend.ensures ∙ c.if-do_ascend.true))
