use Rattle.std.proofs.Common.{append_assoc}
use Rattle.pg_script_diagram.specs.Graphs.{circle_text}
use Rattle.pg_script_diagram.proofs.Penned.{wrote_as}
use Rattle.pg_script_diagram.proofs.graph.add_circle.Goals as goal

pub returns : goal.returns
returns c = wrote_as _ (circle_text c.args.class.now c.args.at c.args.radius) c.args.pen.now c.write.new.self (simp append_assoc) c.write.ensures
