use Rattle.std.proofs.Common.{◌≡◌, ℕ, List, [], ◌∷◌, ◌++◌, append_assoc, refl}
use Rattle.std.specs.Prelude.{codes, decimal}
use Rattle.std.specs.Str.{chars}
use Rattle.pg_text.specs.Writing.{GrowsBy, atom_text, pid_text, term_text}
use Rattle.pg_script_lines.specs.Printing.{reply_text, refused_text, state_text}
use Rattle.pg_script_lines.specs.Printing.{listed_pids, listed_names, more_pids, more_names}
use Rattle.pg_script_lines.proofs.Adds.{adds_both, adds_same, adds_as}
use Rattle.pg_script_lines.proofs.printing.print_error.Goals as goal

pub returns : goal.returns
unfolding chars
returns c =
    adds_as ((chars c.args.head.now) ++ ((term_text c.args.name.now) ++ ((codes "}}")))) _ (adds_both (chars c.args.head.now) ((term_text c.args.name.now) ++ ((codes "}}"))) c.in_ok-add_text.ensures (adds_both (term_text c.args.name.now) ((codes "}}")) c.in_ok-write_term.ensures.text (c.in_ok-add_text-2.ensures))) (simp append_assoc)
