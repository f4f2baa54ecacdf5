use Rattle.std.proofs.Common.{◌≡◌, ◌++◌, Bool, length, ap}
use Rattle.std.specs.Prelude.{codes, ◌==◌}
use Rattle.std.specs.Option.{option_copied}
use Rattle.std.specs.Str.{chars}
use Rattle.pg_script.specs.Histories.{listed_entries, last_entry}
use Rattle.pg_script_trace.proofs.PgScriptLines.Adds.{adds_both, adds_as}
use Rattle.pg_script.proofs.history.print_history.Goals as goal

pub returns : goal.returns
unfolding chars
returns c =
    let e : c.is_empty.result ≡ (length c.args.entries.now == 0) = c.is_empty.ensures in
    adds_as (codes "history [" ++ (listed_entries c.args.entries.now ++ (last_entry c.is_empty.result (option_copied c.args.last) ++ codes "]\n"))) _
    (adds_both (codes "history [") (listed_entries c.args.entries.now ++ (last_entry c.is_empty.result (option_copied c.args.last) ++ codes "]\n")) c.in_ok-add_text.ensures
    (adds_both (listed_entries c.args.entries.now) (last_entry c.is_empty.result (option_copied c.args.last) ++ codes "]\n") c.in_ok-print_listed.ensures
    (adds_both (last_entry c.is_empty.result (option_copied c.args.last)) (codes "]\n") c.in_ok-print_last.ensures c.in_ok-add_text-2.ensures)))
    (ap (λ (b : Bool). codes "history [" ++ (listed_entries c.args.entries.now ++ (last_entry b (option_copied c.args.last) ++ codes "]\n"))) e)
