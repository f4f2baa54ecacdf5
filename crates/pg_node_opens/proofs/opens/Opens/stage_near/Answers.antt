use Rattle.std.proofs.Common.{sym, ap, ◌∙◌}
use Rattle.pg_node_opens.specs.Readings.{stage_seen}
use Rattle.pg_node_opens.proofs.Found.{closed_of, stands_for, stage_seen_here}
use Rattle.pg_node_opens.proofs.opens.Opens.stage_near.Goals as goal

pub returns-in-None : goal.returns-in-None
returns-in-None c = sym (ap stage_seen (closed_of _ _ c.args.op c.deref.ensures.value c.in-None.ensures.none))

pub returns-in-Some : goal.returns-in-Some
returns-in-Some c = c.stage.ensures ∙ stage_seen_here _ _ _ _ _ c.args.op c.args.self.now.known (stands_for c.args.self.now.commands.items c.deref.result.now c.in-Some.place c.index-command.result.now c.args.op c.deref.ensures.value c.in-Some.ensures.within c.in-Some.ensures.some c.index-command.ensures)
