-- What `==` and `cmp` compute of terms and of their parts.
use Rattle.std.specs.Prelude.{ℕ, Bool, List, nat_eq}
use Rattle.std.specs.Cmp.Lexicographic.{pointwise, slice_cmp}
use Rattle.std.specs.Ordering.{nat_cmp}
use Rattle.std.specs.declared.cmp.Ordering.{Ordering}
use Rattle.pg_term.specs.declared.pid.Pid.{Pid}
use Rattle.pg_term.specs.declared.term.Term.{Term}
use Rattle.pg_term.specs.contracts.term.TermPartialEq.TheImpl.{ghosts as equal_terms}
use Rattle.pg_term.specs.contracts.term.TermOrd.TheImpl.{ghosts as ordered_terms}
use Rattle.pg_term.specs.contracts.pid.PidPartialEq.TheImpl.{ghosts as equal_pids}
use Rattle.pg_term.specs.contracts.pid.PidOrd.TheImpl.{ghosts as ordered_pids}

-- whether two terms are one, as `==` tells
abbrev pub same_term : Term → Term → Bool
same_term = equal_terms.eq

-- which of two terms comes first, as `cmp` tells
abbrev pub term_cmp : Term → Term → Ordering
term_cmp = ordered_terms.cmp

-- the same of pids
abbrev pub same_pid : Pid → Pid → Bool
same_pid = equal_pids.eq

abbrev pub pid_cmp : Pid → Pid → Ordering
pid_cmp = ordered_pids.cmp

-- an atom is seen as its characters
abbrev pub same_atom : List ℕ → List ℕ → Bool
same_atom = pointwise nat_eq

abbrev pub atom_cmp : List ℕ → List ℕ → Ordering
atom_cmp = slice_cmp nat_cmp
