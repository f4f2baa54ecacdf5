use Rattle.std.proofs.Common.{◌≡◌, ℕ, List, [], ◌∷◌, ◌++◌, append_assoc, refl}
use Rattle.std.specs.Prelude.{codes, decimal}
use Rattle.std.specs.Str.{chars}
use Rattle.pg_text.specs.Writing.{GrowsBy, atom_text, pid_text, term_text}
use Rattle.pg_script_lines.specs.Printing.{reply_text, refused_text, state_text}
use Rattle.pg_script_lines.specs.Printing.{listed_pids, listed_names, more_pids, more_names}
use Rattle.pg_script_lines.proofs.Adds.{adds_both, adds_same, adds_as}
use Rattle.pg_script_lines.proofs.printing.print_lock.Goals as goal

pub returns : goal.returns
unfolding chars
returns c =
    adds_as ((codes "lock ") ++ ((atom_text c.args.node.now) ++ ((32 ∷ []) ++ ((term_text c.args.group.now) ++ ((state_text c.args.is_free)))))) _ (adds_both (codes "lock ") ((atom_text c.args.node.now) ++ ((32 ∷ []) ++ ((term_text c.args.group.now) ++ ((state_text c.args.is_free))))) c.in_ok-add_text.ensures (adds_both (atom_text c.args.node.now) ((32 ∷ []) ++ ((term_text c.args.group.now) ++ ((state_text c.args.is_free)))) c.in_ok-write_atom.ensures (adds_both (32 ∷ []) ((term_text c.args.group.now) ++ ((state_text c.args.is_free))) c.in_ok-add_char.ensures (adds_both (term_text c.args.group.now) ((state_text c.args.is_free)) c.in_ok-write_term.ensures.text (adds_same (chars c.state_text.result.now) (state_text c.args.is_free) c.state_text.ensures c.in_ok-add_text-2.ensures))))) (simp append_assoc)
