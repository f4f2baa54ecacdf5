use Rattle.std.proofs.Common.{◌≡◌, ℕ, List, [], ◌∷◌, ◌++◌, append_assoc, refl}
use Rattle.std.specs.Prelude.{codes, decimal}
use Rattle.std.specs.Str.{chars}
use Rattle.pg_text.specs.Writing.{GrowsBy, atom_text, pid_text, term_text}
use Rattle.pg_script_lines.specs.Printing.{reply_text, refused_text, state_text}
use Rattle.pg_script_lines.specs.Printing.{listed_pids, listed_names, more_pids, more_names}
use Rattle.pg_script_lines.proofs.Adds.{adds_both, adds_same, adds_as}
use Rattle.pg_script_lines.proofs.printing.print_answer.Goals as goal

pub returns : goal.returns
unfolding chars
returns c =
    adds_as ((atom_text c.args.node.now) ++ ((32 ∷ []) ++ ((decimal c.from.result) ++ ((32 ∷ []) ++ ((reply_text c.args.answer.now.reply) ++ ((10 ∷ []))))))) _ (adds_both (atom_text c.args.node.now) ((32 ∷ []) ++ ((decimal c.from.result) ++ ((32 ∷ []) ++ ((reply_text c.args.answer.now.reply) ++ ((10 ∷ [])))))) c.in_ok-write_atom.ensures (adds_both (32 ∷ []) ((decimal c.from.result) ++ ((32 ∷ []) ++ ((reply_text c.args.answer.now.reply) ++ ((10 ∷ []))))) c.in_ok-add_char.ensures (adds_both (decimal c.from.result) ((32 ∷ []) ++ ((reply_text c.args.answer.now.reply) ++ ((10 ∷ [])))) c.in_ok-add_number.ensures (adds_both (32 ∷ []) ((reply_text c.args.answer.now.reply) ++ ((10 ∷ []))) c.in_ok-add_char-2.ensures (adds_both (reply_text c.args.answer.now.reply) ((10 ∷ [])) c.in_ok-print_reply.ensures (c.in_ok-add_char-3.ensures)))))) (simp (append_assoc, c.from.ensures))
