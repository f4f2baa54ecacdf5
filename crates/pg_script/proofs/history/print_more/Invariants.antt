use Rattle.std.proofs.Common.{take}
use Rattle.std.specs.Prelude.{string_bytes}
use Rattle.pg_script_trace.specs.PgText.Writing.{GrowsBy}
use Rattle.pg_script.specs.Histories.{more_entries}
use Rattle.pg_script.proofs.history.print_more.Given as goal

abbrev pub invariant-loop-entry : goal.invariant-loop-entry
invariant-loop-entry l = GrowsBy (more_entries (take l.entry-index l.entries)) (string_bytes l.initial.out) (string_bytes l.out)
