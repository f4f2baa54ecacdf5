use Rattle.std.proofs.Common.{take}
use Rattle.std.specs.Prelude.{string_bytes}
use Rattle.pg_text.specs.Writing.{GrowsBy}
use Rattle.pg_script_lines.specs.Printing.{more_names}
use Rattle.pg_script_lines.proofs.printing.print_more_names.Given as goal

abbrev pub invariant-loop-name : goal.invariant-loop-name
invariant-loop-name l = GrowsBy (more_names (take l.name-index l.names)) (string_bytes l.initial.out) (string_bytes l.out)
