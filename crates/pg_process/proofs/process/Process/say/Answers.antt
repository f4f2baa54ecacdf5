use Rattle.std.proofs.Common.{◌∙◌, ◌+◌, ℕ, List, ap, subst}
use Rattle.pg_node.specs.PgNodeOpens.Places.{name_at}
use Rattle.pg_node.specs.PgNodeState.States.{names_of}
use Rattle.pg_node_process.specs.Outputs.{SaysReply}
use Rattle.pg_process.specs.Situations.{setting_of}
use Rattle.pg_process.proofs.Sayings.{reply_said}
use Rattle.pg_process.proofs.process.Process.say.Goals as goal

pub returns-clause-said : goal.returns-clause-said
returns-clause-said c =
    let a = c.args.self.now in
    reply_said (setting_of a) c.args.port c.args.number c.args.reply a.outlet.gathered.items c.put_reply.new.self.gathered.items
    (subst (λ (name : List ℕ). SaysReply a.outlet.gathered.items c.put_reply.new.self.gathered.items name (c.args.port + 1) c.args.number c.args.reply)
    (c.own.ensures ∙ ap (λ s. name_at (names_of s) 0) c.state.ensures) c.in_ok-put_reply.ensures.ok)
