use Rattle.std.proofs.Common.{◌≡◌, map, take}
use Rattle.pg_term.specs.declared.term.Term.TheVariants.{Atom}
use Rattle.pg_node_process.proofs.journal.names.Given as goal

abbrev pub invariant-loop-atom : goal.invariant-loop-atom
invariant-loop-atom l = l.terms.items ≡ map Atom (take l.atom-index l.atoms)
