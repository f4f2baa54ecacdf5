use Rattle.pg_term.proofs.Ordered as ordered
use Rattle.pg_term.proofs.laws.order_by_kind.Goals as goal

pub returns-clause-kinds : goal.returns-clause-kinds
returns-clause-kinds c = ordered.kinds

pub returns-clause-integers : goal.returns-clause-integers
returns-clause-integers c = ordered.integers

pub returns-clause-atoms : goal.returns-clause-atoms
returns-clause-atoms c = ordered.atoms

pub returns-clause-references : goal.returns-clause-references
returns-clause-references c = ordered.references

pub returns-clause-pids : goal.returns-clause-pids
returns-clause-pids c = ordered.pids

pub returns-clause-tuples : goal.returns-clause-tuples
returns-clause-tuples c = ordered.tuples

pub returns-clause-lists : goal.returns-clause-lists
returns-clause-lists c = ordered.lists

pub returns-clause-fronts : goal.returns-clause-fronts
returns-clause-fronts c = λ xs ys y. ordered.fronts xs y ys

pub returns-clause-binaries : goal.returns-clause-binaries
returns-clause-binaries c = ordered.binaries

pub returns-clause-cut : goal.returns-clause-cut
returns-clause-cut c = λ a b next. ordered.cut a next b
