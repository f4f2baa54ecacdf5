use Rattle.std.proofs.Common.{◌∙◌, ◌++◌, ap, map}
use Rattle.std.specs.Option.{option_copied, option_to_list}
use Rattle.pg_world.specs.PgWorldAccount.Histories.{as_entry}
use Rattle.pg_cluster_judges.proofs.Histories.{with_last}
use Rattle.pg_cluster_judges.proofs.closed.history.entries_of.Goals as goal

pub returns-in-Ok : goal.returns-in-Ok
returns-in-Ok c =
    let entries = c.history.result.0.now in
    let last = option_copied c.history.result.1 in
    ap (map as_entry) (c.in-Ok.ensures ∙ ap (λ xs. xs ++ entries ++ option_to_list last) c.new-copies.ensures.items) ∙ (with_last entries last ∙ c.history.ensures)
