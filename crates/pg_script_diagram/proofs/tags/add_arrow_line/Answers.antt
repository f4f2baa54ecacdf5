use Rattle.std.proofs.Common.{[], append_assoc}
use Rattle.pg_script_diagram.specs.Lines.{head_of, line_text}
use Rattle.pg_script_diagram.proofs.Penned.{wrote_as, wrote_both, line_ends}
use Rattle.pg_script_diagram.proofs.tags.add_arrow_line.Goals as goal

pub returns : goal.returns
returns c =
    let class = c.args.class.now in
    wrote_as _ _ c.args.pen.now c.write.new.self (line_ends class [] c.args.start c.args.end (head_of class))
    (wrote_both (line_text class [] c.args.start c.args.end []) (head_of class) c.args.pen.now c.begin_line.new.pen c.write.new.self c.begin_line.ensures (wrote_as _ (head_of class) c.begin_line.new.pen c.write.new.self (simp append_assoc) c.write.ensures))
