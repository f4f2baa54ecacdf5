-- Lists whose first element is apart.
use Rattle.std.proofs.Common.{◌≡◌, ℕ, ◌≤◌, List, [], ◌∷◌, ◌++◌, ◌-◌, take, drop}
use Rattle.std.proofs.Common.{length, get_or, arith, ap, ap₂, sym, ◌∙◌, refl}
use Rattle.std.proofs.lemmas.Grind.{common_steps}
use Rattle.pg_term.specs.declared.pid.Pid.{Pid}
use Rattle.pg_term.specs.declared.term.Term.{Term}
use Rattle.pg_text.specs.Writing.{pid_text, term_text}
use Rattle.pg_script_lines.specs.Printing.{more_pids, more_names, listed_pids, listed_names}

rest_of : {X : Type 0} (y : X) (ys : List X) → take (length (y ∷ ys) - 1) (drop 1 (y ∷ ys)) ≡ ys
rest_of y ys = grind (arith, common_steps)

pub listed_pids_are : (pids : List Pid) (x : Pid) → 1 ≤ length pids → x ≡ get_or pids 0 x → pid_text x ++ more_pids (take (length pids - 1) (drop 1 pids)) ≡ listed_pids pids
listed_pids_are [] x h e = absurd (omega arith)
listed_pids_are (y ∷ ys) x h e = ap₂ (λ a b. a ++ b) (ap pid_text e) (ap more_pids (rest_of y ys))

pub listed_names_are : (names : List Term) (x : Term) → 1 ≤ length names → x ≡ get_or names 0 x → term_text x ++ more_names (take (length names - 1) (drop 1 names)) ≡ listed_names names
listed_names_are [] x h e = absurd (omega arith)
listed_names_are (y ∷ ys) x h e = ap₂ (λ a b. a ++ b) (ap term_text e) (ap more_names (rest_of y ys))
