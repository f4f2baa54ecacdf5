use Rattle.pg_node_opens.proofs.Kept.{kept_len, kept_none}
use Rattle.pg_node_opens.proofs.marks.Marks.none.Goals as goal

pub returns-clause-marks : goal.returns-clause-marks
returns-clause-marks c = kept_none (record { gather = c.new.result; count = c.args.count }) c.none.result c.none.ensures c.new.ensures

pub returns-clause-len : goal.returns-clause-len
returns-clause-len c = kept_len (record { gather = c.new.result; count = c.args.count })
