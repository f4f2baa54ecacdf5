use Rattle.pg_frame.proofs.Readings.{taking_leaves_others}
use Rattle.pg_frame.proofs.laws.taking_leaves_others.Goals as goal

pub returns : goal.returns
returns c = taking_leaves_others
