use Rattle.std.proofs.Common.{string_bytes}
use Rattle.pg_script_trace.specs.Traces.{IsLine}
use Rattle.pg_script_trace.proofs.Printed.{prints_row}
use Rattle.pg_script_trace.proofs.columns.Columns.print_line.Goals as goal

pub returns : goal.returns
returns c =
    prints_row c.args.self.now.widths (IsLine c.args.watch.now.names.items c.args.watch.now.letters.items c.args.sight.now.line c.args.sight.now.seen) _ (string_bytes c.args.out.now) (string_bytes c.print_filled.new.out) c.fill-filled.result c.print_filled.result
    c.print_filled.ensures.filled c.fill-filled.ensures c.print_filled.ensures.printed
