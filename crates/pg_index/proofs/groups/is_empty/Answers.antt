use Rattle.std.proofs.Common.{sym, ap, ◌∙◌}
use Rattle.pg_group.specs.Scope.{anywhere}
use Rattle.pg_index_members.specs.Rows.{counts_of, spread}
use Rattle.pg_index.specs.Groups.{counts_at}
use Rattle.pg_index.proofs.Numbers.{nobody_in}
use Rattle.pg_index.proofs.groups.is_empty.Goals as goal

pub returns-in-Some : goal.returns-in-Some
returns-in-Some c =
    let rows = c.in-Some.members.now in
    let is = ap counts_at c.in-Some.ensures in
    let both = nobody_in (counts_of rows) (spread anywhere rows) c.size.result c.size.ensures.exact c.size.ensures.list in
    (λ e. sym is ∙ both.0 e, λ h. both.1 (is ∙ h))
