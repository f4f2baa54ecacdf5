use Rattle.std.proofs.Common.{◌≡◌, ℕ, suc, map}
use Rattle.pg_term.specs.declared.term.Term.TheVariants.{Pid as Process}
use Rattle.pg_term_io.specs.Reading.{items_at, item_at, with_front}
use Rattle.pg_message_reader.proofs.direct.groups.all_pids_at.Given as goal

abbrev pub invariant-loop-more : goal.invariant-loop-more
invariant-loop-more l = (room : ℕ) → with_front (map Process l.pids.items) (items_at (item_at (suc room)) l.more l.rest) ≡ items_at (item_at (suc room)) l.count l.bytes

abbrev pub decreases-loop-more : goal.decreases-loop-more
decreases-loop-more l = l.more
