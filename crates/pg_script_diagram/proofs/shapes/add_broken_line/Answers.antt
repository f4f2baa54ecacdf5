use Rattle.std.proofs.Common.{List, ℕ, [], ap}
use Rattle.std.specs.Prelude.{codes}
use Rattle.pg_script_diagram.specs.Lines.{CLOSED, line_text, way_text}
use Rattle.pg_script_diagram.proofs.Penned.{wrote_as, wrote_both}
use Rattle.pg_script_diagram.proofs.shapes.add_broken_line.Goals as goal

pub returns : goal.returns
returns c =
    let class = c.class_of-class.result.now in
    wrote_as _ _ c.args.pen.now c.add_dashed_line.new.pen (ap (λ (text : List ℕ). way_text text c.args.start c.args.mid c.args.end) c.class_of-class.ensures)
    (wrote_both (line_text class [] c.args.start c.args.mid CLOSED) (line_text class (codes " way") c.args.mid c.args.end CLOSED)
    c.args.pen.now c.add_line.new.pen c.add_dashed_line.new.pen c.add_line.ensures c.add_dashed_line.ensures)
