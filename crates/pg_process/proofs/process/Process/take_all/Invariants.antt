use Rattle.std.proofs.Common.{◌<◌, length}
use Rattle.pg_node.specs.Nodes.{links_of}
use Rattle.pg_process.specs.Chains.{Works}
use Rattle.pg_process.proofs.Looping.{left_in}
use Rattle.pg_process.proofs.process.Process.take_all.Given as goal

-- what follows was done so far
abbrev pub invariant-loop-fault : goal.invariant-loop-fault
invariant-loop-fault l = record {
  works : Works l.fn.self l.self;
  there : l.peer < length l.self.peers.items;
}

-- what is left to be taken
abbrev pub decreases-loop-fault : goal.decreases-loop-fault
decreases-loop-fault l = left_in (links_of l.self.node l.peer)
