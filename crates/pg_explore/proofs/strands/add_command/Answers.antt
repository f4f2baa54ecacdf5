use Rattle.std.proofs.Common.{length, map, sym, arith}
use Rattle.std.proofs.lemmas.List.{length-map}
use Rattle.pg_explore.specs.Moments.{progress_of, with_command}
use Rattle.pg_explore.proofs.Progressing.{changed, unchanged}
use Rattle.pg_explore.proofs.strands.add_command.Goals as goal

pub returns-in_ok-add_command : goal.returns-in_ok-add_command
returns-in_ok-add_command c = changed progress_of with_command c.args.strands.now c.args.node c.index-strands-node.result c.add_command.new.self c.if-node-strands.true c.in_ok-add_command.ensures

pub returns-else-node-strands : goal.returns-else-node-strands
returns-else-node-strands c = sym (unchanged with_command (map progress_of c.args.strands.now) c.args.node (omega (arith, c.if-node-strands.false, length-map c.args.strands.now progress_of)))
