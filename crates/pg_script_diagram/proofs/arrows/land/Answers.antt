use Rattle.std.proofs.Common.{slice_set, ap, ◌∙◌, arith}
use Rattle.pg_script_diagram.specs.Arrows.{lands}
use Rattle.pg_script_diagram.proofs.Landing.{there, beyond}
use Rattle.pg_script_diagram.proofs.arrows.land.Goals as goal

pub returns-then-packet-len : goal.returns-then-packet-len
returns-then-packet-len c =
    ap (λ arrow. slice_set c.args.arrows.now.items c.args.packet arrow) (c.taken_in-arrow.ensures ∙ ap (λ arrow. lands c.args.row arrow) c.index.ensures)
    ∙ there c.args.packet c.args.row 0 c.args.arrows.now.items c.args.packet c.index.result.now (omega arith) (omega (arith, c.if-packet-len.true, c.len.ensures, c.args.arrows.now.ok.0))

pub returns-else-packet-len : goal.returns-else-packet-len
returns-else-packet-len c = beyond c.args.packet c.args.row 0 c.args.arrows.now.items (omega (arith, c.if-packet-len.false, c.len.ensures, c.args.arrows.now.ok.0))
