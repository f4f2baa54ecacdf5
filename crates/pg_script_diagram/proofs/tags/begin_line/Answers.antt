use Rattle.std.proofs.Common.{[], ◌++◌, append_assoc}
use Rattle.std.specs.Prelude.{codes, decimal}
use Rattle.pg_script_diagram.specs.Lines.{line_text}
use Rattle.pg_script_diagram.proofs.Penned.{wrote_as, wrote_both, parts_of_line, class_text, places_text}
use Rattle.pg_script_diagram.proofs.tags.begin_line.Goals as goal

pub returns : goal.returns
returns c =
    let class = class_text c.args.class.now c.args.more.now in
    let start = places_text (codes " x1=\"") (codes "\" y1=\"") (decimal c.args.start.x) (decimal c.args.start.y) in
    let end = places_text (codes " x2=\"") (codes "\" y2=\"") (decimal c.args.end.x) (decimal c.args.end.y) in
    wrote_as (class ++ (start ++ end)) (line_text c.args.class.now c.args.more.now c.args.start c.args.end []) c.args.pen.now c.write-3.new.self
    (parts_of_line c.args.class.now c.args.more.now c.args.start c.args.end)
    (wrote_both class (start ++ end) c.args.pen.now c.write.new.self c.write-3.new.self (wrote_as _ class c.args.pen.now c.write.new.self (simp append_assoc) c.write.ensures)
    (wrote_both start end c.write.new.self c.write-2.new.self c.write-3.new.self (wrote_as _ start c.write.new.self c.write-2.new.self (simp append_assoc) c.write-2.ensures) (wrote_as _ end c.write-2.new.self c.write-3.new.self (simp append_assoc) c.write-3.ensures)))
