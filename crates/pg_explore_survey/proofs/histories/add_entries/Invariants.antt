use Rattle.std.proofs.Common.{fold, map, take}
use Rattle.pg_script.specs.PgWorldAccount.Histories.{as_entry}
use Rattle.pg_explore_survey.specs.Texts.{EndsAs, with_entry, written}
use Rattle.pg_explore_survey.proofs.histories.add_entries.Given as goal

-- those of the first
abbrev pub invariant-loop-entry : goal.invariant-loop-entry
invariant-loop-entry l = EndsAs (fold (with_entry l.scenario) (written l.initial.pen) (map as_entry (take l.entry-index l.entries))) l.initial.pen l.pen
