use Rattle.std.specs.Prelude.{replicate, string_bytes}
use Rattle.pg_text.specs.Writing.{GrowsBy}
use Rattle.pg_script_lines.proofs.rows.add_spaces.Given as goal

-- so many spaces stand there
abbrev pub invariant-loop : goal.invariant-loop
invariant-loop l = GrowsBy (replicate l.counter 32) (string_bytes l.initial.out) (string_bytes l.out)
