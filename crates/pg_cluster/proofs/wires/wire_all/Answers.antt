use Rattle.std.proofs.Common.{rules, arith, ◌≡◌}
use Rattle.pg_cluster.proofs.JoiningRows.{joined_more, next_row}
use Rattle.pg_cluster.proofs.wires.wire_all.Goals as goal

pub loop-i-preserved : goal.loop-i-preserved
loop-i-preserved c = (
  joined_more c.args.nodes c.loop-i.rows.items c.connect.new.rows.items c.loop-j.j c.loop-i.i c.loop-i-test.true c.loop-j-test.true (search rules) c.in_ok-connect.ensures.joined c.loop-i.invariant.0,
  c.in_ok-connect.ensures.room c.loop-i.invariant.1,
)

pub loop-j-preserved : goal.loop-j-preserved
loop-j-preserved c = let e : c.loop-i.i ≡ c.loop-j.j = omega arith in (next_row c.args.nodes c.loop-i.rows.items c.loop-j.j (rw e at c.loop-i.invariant.0), c.loop-i.invariant.1)

pub returns-clause-wired : goal.returns-clause-wired
returns-clause-wired c = let e : c.loop-j.j ≡ c.args.nodes = omega arith in rw e at c.loop-j.invariant.0
