use Rattle.std.proofs.Common.{◌∙◌, sym}
use Rattle.pg_node_opens.proofs.Named.{clash}
use Rattle.pg_world_account.specs.Losses.{lost_in}
use Rattle.pg_world_account.proofs.Compared.{lost_in_both, same_lost_there, same_lost_back}
use Rattle.pg_world_account.proofs.losses.Losses.same.Goals as goal

pub returns-then-are_among : goal.returns-then-are_among
returns-then-are_among c =
    let lost = lost_in c.args.self.now in
    let others = lost_in c.args.other.now in (
      λ e. lost_in_both lost others (sym c.are_among.ensures ∙ c.if-are_among.true) (sym c.are_among-then-are_among.ensures ∙ e),
      λ same. c.are_among-then-are_among.ensures ∙ same_lost_back lost others same,
    )

pub returns-else-are_among : goal.returns-else-are_among
returns-else-are_among c = (
  λ e. absurd (clash (sym e ∙ c.if-are_among.false)),
  λ same. c.are_among.ensures ∙ same_lost_there (lost_in c.args.self.now) (lost_in c.args.other.now) same,
)
