use Rattle.std.proofs.Common.{◌≡◌, ℕ, List, [], ◌∷◌, ◌++◌, append_assoc, refl}
use Rattle.std.specs.Prelude.{codes, decimal}
use Rattle.std.specs.Str.{chars}
use Rattle.pg_text.specs.Writing.{GrowsBy, atom_text, pid_text, term_text}
use Rattle.pg_script_lines.specs.Printing.{reply_text, refused_text, state_text}
use Rattle.pg_script_lines.specs.Printing.{listed_pids, listed_names, more_pids, more_names}
use Rattle.pg_script_lines.proofs.Adds.{adds_both, adds_same, adds_as}
use Rattle.pg_script_lines.proofs.printing.print_pids.Goals as goal

pub returns : goal.returns
unfolding chars
returns c =
    adds_as ((91 ∷ []) ++ ((listed_pids c.args.pids.now) ++ ((93 ∷ [])))) _ (adds_both (91 ∷ []) ((listed_pids c.args.pids.now) ++ ((93 ∷ []))) c.in_ok-add_char.ensures (adds_both (listed_pids c.args.pids.now) ((93 ∷ [])) c.in_ok-print_listed_pids.ensures (c.in_ok-add_char-2.ensures))) (refl)
