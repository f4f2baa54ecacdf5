use Rattle.std.specs.BTreeMap.{get}
use Rattle.pg_term.specs.Same.{atom_cmp}
use Rattle.pg_index.proofs.Copies.{node_at, EntriesCopied}
use Rattle.pg_index.proofs.listings.copy.Given as goal

-- the nodes so far and those to come
abbrev pub invariant-loop-node : goal.invariant-loop-node
invariant-loop-node l = EntriesCopied node_at (get atom_cmp l.listings) (get atom_cmp l.copy) l.node-iterator
