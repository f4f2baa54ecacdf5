use Rattle.std.proofs.Common.{sym, ◌∙◌}
use Rattle.pg_query.proofs.SameGroups.{is_in, agree_more}
use Rattle.pg_query.proofs.same.agree_on.Goals as goal

pub returns-then-not-branch : goal.returns-then-not-branch
returns-then-not-branch g c = (
  λ e. absurd (cc e),
  λ agree. sym c.if-not-branch.true ∙ c.in_ok-same_group.ensures.1 (agree c.name-item.result (is_in c.args.names.now c.loop-name.name-index c.name-item.result c.loop-name-test.true c.name-item.is)),
)

pub loop-name-preserved : goal.loop-name-preserved
loop-name-preserved g c =
    agree_more (g.T.GroupTable.contents c.args.one.now) (g.U.GroupTable.contents c.args.other.now) c.args.names.now c.loop-name.name-index c.name-item.result c.loop-name-test.true c.name-item.is
    (c.in_ok-same_group.ensures.0 c.if-not-branch.false) c.loop-name.invariant
