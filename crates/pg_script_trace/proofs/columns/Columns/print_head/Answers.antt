use Rattle.std.proofs.Common.{string_bytes}
use Rattle.pg_script_trace.specs.Traces.{IsHead}
use Rattle.pg_script_trace.proofs.Printed.{prints_row}
use Rattle.pg_script_trace.proofs.columns.Columns.print_head.Goals as goal

pub returns : goal.returns
returns c =
    prints_row c.args.self.now.widths IsHead _ (string_bytes c.args.out.now) (string_bytes c.print_filled.new.out) c.fill_head-filled.result c.print_filled.result
    c.print_filled.ensures.filled c.fill_head-filled.ensures c.print_filled.ensures.printed
