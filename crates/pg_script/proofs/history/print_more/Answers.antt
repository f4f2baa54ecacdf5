use Rattle.std.proofs.Common.{[], ◌∷◌, ◌++◌, take, add-one, sym}
use Rattle.pg_script_trace.specs.PgText.Writing.{update_text}
use Rattle.pg_script.specs.Histories.{more_entries}
use Rattle.pg_script_trace.proofs.PgScriptLines.Adds.{adds_both, adds_as, more_at}
use Rattle.pg_script.proofs.history.print_more.Goals as goal

pub loop-entry-preserved : goal.loop-entry-preserved
loop-entry-preserved c =
    adds_as (more_entries (take c.loop-entry.entry-index c.args.entries.now) ++ ((44 ∷ []) ++ update_text c.entry-item.result.update)) _
    (adds_both (more_entries (take c.loop-entry.entry-index c.args.entries.now)) ((44 ∷ []) ++ update_text c.entry-item.result.update) c.loop-entry.invariant
    (adds_both (44 ∷ []) (update_text c.entry-item.result.update) c.in_ok-add_char.ensures c.in_ok-write_update.ensures))
    (rw add-one (sym (more_at (λ entry. 44 ∷ update_text entry.update) c.args.entries.now c.loop-entry.entry-index c.entry-item.result c.loop-entry-test.true c.entry-item.is)))
