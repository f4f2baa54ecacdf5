use Rattle.std.proofs.Common.{◌∙◌, sym}
use Rattle.pg_node_opens.proofs.Named.{clash}
use Rattle.pg_world_account.proofs.NamedGroups.{agree_on_all, agree_on_named, turned}
use Rattle.pg_world_account.proofs.histories.Histories.agree.Goals as goal

pub returns-then-agree_on_own : goal.returns-then-agree_on_own
returns-then-agree_on_own c =
    let one = c.args.self.now in
    let other = c.args.other.now in
    let count = c.args.nodes in (
      λ e. agree_on_all count one other (c.agree_on_own.ensures.0 c.if-agree_on_own.true) (c.agree_on_own-then-agree_on_own.ensures.0 e),
      λ all. c.agree_on_own-then-agree_on_own.ensures.1 (agree_on_named count other one (λ name. turned count one other name (all name))),
    )

pub returns-else-agree_on_own : goal.returns-else-agree_on_own
returns-else-agree_on_own c = (
  λ e. absurd (clash (sym e ∙ c.if-agree_on_own.false)),
  λ all. c.agree_on_own.ensures.1 (agree_on_named c.args.nodes c.args.self.now c.args.other.now all),
)
