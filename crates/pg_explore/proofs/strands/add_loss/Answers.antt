use Rattle.std.proofs.Common.{length, map, sym, arith}
use Rattle.std.proofs.lemmas.List.{length-map}
use Rattle.pg_explore.specs.Moments.{progress_of, with_loss}
use Rattle.pg_explore.proofs.Progressing.{changed, unchanged}
use Rattle.pg_explore.proofs.strands.add_loss.Goals as goal

pub returns-in_ok-add_loss : goal.returns-in_ok-add_loss
returns-in_ok-add_loss c = changed progress_of with_loss c.args.strands.now c.args.node c.index-strands-node.result c.add_loss.new.self c.if-node-strands.true c.in_ok-add_loss.ensures

pub returns-else-node-strands : goal.returns-else-node-strands
returns-else-node-strands c = sym (unchanged with_loss (map progress_of c.args.strands.now) c.args.node (omega (arith, c.if-node-strands.false, length-map c.args.strands.now progress_of)))
