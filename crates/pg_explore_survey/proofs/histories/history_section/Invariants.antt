use Rattle.std.proofs.Common.{take}
use Rattle.pg_explore_survey.specs.Texts.{AreCounted, history_text, texts_at}
use Rattle.pg_explore_survey.proofs.histories.history_section.Given as goal

-- those of the first ends
abbrev pub invariant-loop-end : goal.invariant-loop-end
invariant-loop-end l = AreCounted (texts_at (history_text l.scenario l.group) l.mets (take l.end-index l.ends)) l.counts.rows.items
