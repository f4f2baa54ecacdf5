-- Erlang's order of terms ("Term Comparisons" in the Erlang Reference Manual), as far as there are such terms here.
use Rattle.std.specs.Prelude.{ℕ, List, length}
use Rattle.std.specs.Cmp.Lexicographic.{slice_cmp}
use Rattle.std.specs.Ordering.{nat_cmp, ordering_then}
use Rattle.std.specs.declared.cmp.Ordering.{Ordering}
use Rattle.pg_term.specs.declared.pid.Pid.{Pid}
use Rattle.pg_term.specs.declared.term.Term.{Term, out-Term}
use Rattle.pg_term.specs.declared.term.Term.TheOpen.{Term-F}
use Rattle.pg_term.specs.RefParts.{RefParts}
use Rattle.pg_term.specs.Same.{term_cmp}

-- number < atom < reference < pid < tuple < list < binary
abbrev pub kind_step : Term-F Term → ℕ
kind_step (Term-F.Int n) = 0
kind_step (Term-F.Atom a) = 1
kind_step (Term-F.Ref r) = 2
kind_step (Term-F.Pid p) = 3
kind_step (Term-F.Tuple ts) = 4
kind_step (Term-F.List ts) = 5
kind_step (Term-F.Binary bytes) = 6

-- the place of a term's kind among the seven
abbrev pub kind_of : Term → ℕ
kind_of t = kind_step (out-Term t)

-- numbers, as characters, words and bytes, one by one from the first: the first two that differ decide, and what ends first is less
abbrev pub numbers_order : List ℕ → List ℕ → Ordering
numbers_order = slice_cmp nat_cmp

-- references by node, then creation, then words
abbrev pub references_order : RefParts → RefParts → Ordering
references_order r s = ordering_then (numbers_order r.node s.node) (ordering_then (nat_cmp r.creation s.creation) (numbers_order r.words s.words))

-- pids by node, then serial, then id, then creation
abbrev pub pids_order : Pid → Pid → Ordering
pids_order p q =
    ordering_then (numbers_order p.node q.node) (ordering_then (nat_cmp p.serial q.serial) (ordering_then (nat_cmp p.id q.id) (nat_cmp p.creation q.creation)))

-- terms one by one from the first: the first two that differ decide, and what ends first is less
abbrev pub elements_order : List Term → List Term → Ordering
elements_order = slice_cmp term_cmp

-- tuples by how many elements, then element by element
abbrev pub tuples_order : List Term → List Term → Ordering
tuples_order xs ys = ordering_then (nat_cmp (length xs) (length ys)) (elements_order xs ys)
