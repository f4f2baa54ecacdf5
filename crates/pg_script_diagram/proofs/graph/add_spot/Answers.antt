use Rattle.std.proofs.Common.{◌++◌, subst}
use Rattle.pg_script_diagram.specs.Graphs.{circle_text, end_text, number_text, spot_class}
use Rattle.pg_script_diagram.specs.Pens.{Writes}
use Rattle.pg_script_diagram.proofs.Penned.{wrote_both}
use Rattle.pg_script_diagram.proofs.graph.add_spot.Goals as goal

pub returns : goal.returns
returns c =
    let at = c.args.at in
    let spot = c.args.spot.now in
    let circle : Writes (circle_text (spot_class spot) at 14) c.add_end.new.pen c.add_circle.new.pen = subst (λ class. Writes (circle_text class at 14) c.add_end.new.pen c.add_circle.new.pen) c.spot_class.ensures c.add_circle.ensures in
    wrote_both (end_text spot at) (circle_text (spot_class spot) at 14 ++ number_text at c.args.number) c.args.pen.now c.add_end.new.pen c.add_number.new.pen c.add_end.ensures
    (wrote_both (circle_text (spot_class spot) at 14) (number_text at c.args.number) c.add_end.new.pen c.add_circle.new.pen c.add_number.new.pen circle c.add_number.ensures)
