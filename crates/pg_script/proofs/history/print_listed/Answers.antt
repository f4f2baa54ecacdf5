use Rattle.std.proofs.Common.{◌++◌}
use Rattle.std.proofs.lemmas.Result.{on_ok_weaker}
use Rattle.pg_script_trace.specs.PgText.Writing.{update_text}
use Rattle.pg_script_trace.proofs.PgScriptLines.Adds.{adds_both, adds_as}
use Rattle.pg_script.proofs.Lists.{listed_entries_are}
use Rattle.pg_script.proofs.history.print_listed.Goals as goal

pub returns-in-len1-up : goal.returns-in-len1-up
returns-in-len1-up c =
    on_ok_weaker c.print_more.result (λ h. adds_as (update_text c.first-item.result.update ++ _) _ (adds_both (update_text c.first-item.result.update) _ c.in_ok-write_update.ensures h) (listed_entries_are c.args.entries.now c.first-item.result c.in-len1-up.len_at_least c.first-item.is)) c.print_more.ensures
