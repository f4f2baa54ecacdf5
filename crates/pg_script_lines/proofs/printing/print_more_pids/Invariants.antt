use Rattle.std.proofs.Common.{take}
use Rattle.std.specs.Prelude.{string_bytes}
use Rattle.pg_text.specs.Writing.{GrowsBy}
use Rattle.pg_script_lines.specs.Printing.{more_pids}
use Rattle.pg_script_lines.proofs.printing.print_more_pids.Given as goal

abbrev pub invariant-loop-pid : goal.invariant-loop-pid
invariant-loop-pid l = GrowsBy (more_pids (take l.pid-index l.pids)) (string_bytes l.initial.out) (string_bytes l.out)
