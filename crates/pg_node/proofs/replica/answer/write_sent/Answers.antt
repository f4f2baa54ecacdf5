use Rattle.std.proofs.Common.{◌++◌, ◌∙◌, List, ℕ, sym, ap}
use Rattle.pg_node.proofs.Replicas.Taken.{one_packet}
use Rattle.pg_node.proofs.replica.answer.write_sent.Goals as goal

pub returns-in-Some : goal.returns-in-Some
returns-in-Some c = c.write_small.ensures.items ∙ ap (λ (bytes : List ℕ). c.args.out.now.items ++ bytes) (sym (one_packet c.args.sends.now c.in-Some.sent.now c.requires.fit (sym c.in-Some.ensures.value)))
