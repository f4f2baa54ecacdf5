use Rattle.std.proofs.Common.{◌≡◌, ◌-◌}
use Rattle.pg_term_io.specs.Scanning.{over_words}
use Rattle.pg_term_io.proofs.reading.scanning.words.Given as goal

abbrev pub invariant-loop : goal.invariant-loop
invariant-loop l = over_words (l.count - l.counter) l.rest ≡ over_words l.count l.bytes
