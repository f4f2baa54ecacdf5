use Rattle.std.proofs.Common.{◌≡◌, ℕ, List, [], ◌∷◌, ◌++◌, append_assoc, refl}
use Rattle.std.specs.Prelude.{codes, decimal}
use Rattle.std.specs.Str.{chars}
use Rattle.pg_text.specs.Writing.{GrowsBy, atom_text, pid_text, term_text}
use Rattle.pg_script_lines.specs.Printing.{reply_text, refused_text, state_text}
use Rattle.pg_script_lines.specs.Printing.{listed_pids, listed_names, more_pids, more_names}
use Rattle.pg_script_lines.proofs.Adds.{adds_both, adds_same, adds_as}
use Rattle.pg_script_lines.proofs.printing.print_refused.Goals as goal

pub returns : goal.returns
unfolding chars
returns c =
    adds_as ((codes "line ") ++ ((decimal c.args.line) ++ ((32 ∷ []) ++ ((refused_text c.args.number) ++ ((10 ∷ [])))))) _ (adds_both (codes "line ") ((decimal c.args.line) ++ ((32 ∷ []) ++ ((refused_text c.args.number) ++ ((10 ∷ []))))) c.in_ok-add_text.ensures (adds_both (decimal c.args.line) ((32 ∷ []) ++ ((refused_text c.args.number) ++ ((10 ∷ [])))) c.in_ok-add_number.ensures (adds_both (32 ∷ []) ((refused_text c.args.number) ++ ((10 ∷ []))) c.in_ok-add_char.ensures (adds_both (refused_text c.args.number) ((10 ∷ [])) c.in_ok-print_number.ensures (c.in_ok-add_char-2.ensures))))) (simp append_assoc)
