use Rattle.std.proofs.Common.{ap, ◌∙◌}
use Rattle.pg_step.specs.PgMulticall.Replies.{replies_of}
use Rattle.pg_node_opens.specs.Marks.{heard_by, lock_heard}
use Rattle.pg_node_opens.proofs.Kept.{mark_is, heard_so}
use Rattle.pg_node_opens.proofs.marks.Marks.heard.Goals as goal

pub returns : goal.returns
returns c = c.heard_by.ensures ∙ (ap (λ taken. heard_by taken c.args.is_first) c.what.ensures
    ∙ (heard_so (replies_of c.self.inside.gather c.args.place) c.args.is_first
    ∙ ap (λ m. lock_heard m c.args.is_first) (mark_is c.self.inside c.args.self.now c.args.place c.self.view_is c.requires)))
