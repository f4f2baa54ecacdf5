use Rattle.std.proofs.Common.{sym, ap, ◌∙◌}
use Rattle.std.specs.List.{list_all}
use Rattle.pg_group.specs.Ended.{ended_of, is_whole}
use Rattle.pg_group.specs.Ends.{Ends, pids_at}
use Rattle.pg_group.proofs.EndedWithin.{whole_passes, singles_pass}
use Rattle.pg_group.proofs.ended.Ended.has_all.Goals as goal

pub returns-then-has_node : goal.returns-then-has_node
returns-then-has_node c = c.if-has_node.true ∙ whole_passes c.args.self.now.nodes c.args.self.now.pids c.args.node.now c.args.some.now (sym c.has_node.ensures ∙ c.if-has_node.true)

pub returns-else-has_node : goal.returns-else-has_node
returns-else-has_node c =
    c.has_all.ensures
    ∙ singles_pass c.self.inside.nodes.keys c.self.inside.numbers c.len-nodes.ensures.ordered c.args.node.now c.args.some.now
    (ap (λ (e : Ends). is_whole e c.args.node.now) c.self.view_is ∙ sym c.has_node.ensures ∙ c.if-has_node.false)
    ∙ ap (λ (e : Ends). list_all (ended_of e) (pids_at (c.args.node.now, c.args.some.now))) c.self.view_is
