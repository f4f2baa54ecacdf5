use Rattle.std.proofs.Common.{[]}
use Rattle.pg_script_diagram.specs.Lines.{CLOSED, line_text}
use Rattle.pg_script_diagram.proofs.Penned.{wrote_as, wrote_both, line_ends}
use Rattle.pg_script_diagram.proofs.tags.add_line.Goals as goal

pub returns : goal.returns
returns c =
    wrote_as _ _ c.args.pen.now c.add.new.self (line_ends c.args.class.now [] c.args.start c.args.end CLOSED)
    (wrote_both (line_text c.args.class.now [] c.args.start c.args.end []) CLOSED c.args.pen.now c.begin_line.new.pen c.add.new.self c.begin_line.ensures c.add.ensures)
