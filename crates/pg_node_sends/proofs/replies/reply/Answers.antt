use Rattle.std.proofs.Common.{◌∙◌, ap}
use Rattle.pg_node_sends.specs.Sent.{sends_in}
use Rattle.pg_node_sends.proofs.replies.reply.Goals as goal

pub returns-clause-sends : goal.returns-clause-sends
returns-clause-sends g c = λ names. ap (sends_in names) c.done_with.ensures.sends ∙ c.in_ok-sends.ensures.sends names
