-- Lists whose first element is apart.
use Rattle.std.proofs.Common.{◌≡◌, ◌≤◌, List, [], ◌∷◌, ◌++◌, ◌-◌, take, drop, length, get_or, arith, ap, ap₂}
use Rattle.std.proofs.lemmas.Grind.{common_steps}
use Rattle.pg_script_trace.specs.PgText.Writing.{update_text}
use Rattle.pg_script_trace.specs.PgWorldAccount.declared.entry.Entry.{Entry}
use Rattle.pg_script.specs.Histories.{more_entries, listed_entries}

rest_of : {X : Type 0} (y : X) (ys : List X) → take (length (y ∷ ys) - 1) (drop 1 (y ∷ ys)) ≡ ys
rest_of y ys = grind (arith, common_steps)

pub listed_entries_are : (entries : List Entry) (x : Entry) → 1 ≤ length entries → x ≡ get_or entries 0 x → update_text x.update ++ more_entries (take (length entries - 1) (drop 1 entries)) ≡ listed_entries entries
listed_entries_are [] x h e = absurd (omega arith)
listed_entries_are (y ∷ ys) x h e = ap₂ (λ a b. a ++ b) (ap (λ entry. update_text entry.update) e) (ap more_entries (rest_of y ys))
