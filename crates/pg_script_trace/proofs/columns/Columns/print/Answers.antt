use Rattle.std.proofs.Common.{refl, string_bytes}
use Rattle.std.proofs.lemmas.Result.{on_ok_weaker}
use Rattle.pg_script_trace.proofs.Printed.{prints_sight}
use Rattle.pg_script_trace.proofs.columns.Columns.print.Goals as goal

pub returns-in-Answered : goal.returns-in-Answered
returns-in-Answered c = rw c.in-Answered.is refl

pub returns-in_default : goal.returns-in_default
returns-in_default c =
    on_ok_weaker c.print_line.result (prints_sight c.args.self.now.widths c.args.watch.now.names.items c.args.watch.now.letters.items c.args.sight.now.line c.args.sight.now.seen
    (string_bytes c.args.out.now) (string_bytes c.print_line.new.out) c.in_default.not-Answered) c.print_line.ensures
