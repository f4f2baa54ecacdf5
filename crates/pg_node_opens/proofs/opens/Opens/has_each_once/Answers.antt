use Rattle.pg_node_opens.specs.Commands.{stage_at}
use Rattle.pg_node_opens.proofs.Layered.{apart_of}
use Rattle.pg_node_opens.proofs.Listed.{ops_count, ops_once, ops_open}
use Rattle.pg_node_opens.proofs.opens.Opens.has_each_once.Goals as goal

pub returns : goal.returns
returns c = record {
  count = ops_count c.args.self.now.commands.items;
  once = ops_once c.args.self.now.commands.items (apart_of stage_at c.args.self.now.commands.items c.args.self.now.known.stages_alone);
  open_ones = ops_open c.args.self.now.commands.items;
}
