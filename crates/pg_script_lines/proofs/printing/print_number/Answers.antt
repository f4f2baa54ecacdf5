use Rattle.std.proofs.Common.{◌≡◌, ℕ, List, [], ◌∷◌, ◌++◌, append_assoc, refl}
use Rattle.std.specs.Prelude.{codes, decimal}
use Rattle.std.specs.Str.{chars}
use Rattle.pg_text.specs.Writing.{GrowsBy, atom_text, pid_text, term_text}
use Rattle.pg_script_lines.specs.Printing.{reply_text, refused_text, state_text}
use Rattle.pg_script_lines.specs.Printing.{listed_pids, listed_names, more_pids, more_names}
use Rattle.pg_script_lines.proofs.Adds.{adds_both, adds_same, adds_as}
use Rattle.pg_script_lines.proofs.printing.print_number.Goals as goal

pub returns : goal.returns
unfolding chars
returns c =
    adds_as ((codes "refused ") ++ ((decimal c.from.result))) _ (adds_both (codes "refused ") ((decimal c.from.result)) c.in_ok-add_text.ensures (c.in_ok-add_number.ensures)) (simp (append_assoc, c.from.ensures))
