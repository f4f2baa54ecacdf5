use Rattle.std.proofs.Common.{Some, true, ◌∙◌, ap, cond, nat_eq}
use Rattle.pg_node_opens.proofs.Kept.{kept_len, kept_new, nobody_asked}
use Rattle.pg_node_opens.proofs.marks.Marks.of_own.Goals as goal

pub returns-clause-marks : goal.returns-clause-marks
returns-clause-marks c = kept_new (record { gather = c.count_reply.new.gather; count = c.args.count }) (Some (Some true))
    (λ k. c.count_reply.ensures k ∙ ap (cond (nat_eq 0 k) (Some (Some true))) (nobody_asked c.none.result c.new-gather.result c.none.ensures c.new-gather.ensures k))

pub returns-clause-len : goal.returns-clause-len
returns-clause-len c = kept_len (record { gather = c.count_reply.new.gather; count = c.args.count })
