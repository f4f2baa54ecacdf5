use Rattle.std.proofs.Common.{◌≡◌, ℕ, List, [], ◌∷◌, ◌++◌, sym}
use Rattle.std.specs.Prelude.{replicate}
use Rattle.std.proofs.lemmas.List.{replicate-append-replicate}
use Rattle.pg_script_lines.proofs.Adds.{adds_both, adds_as, adds_none}
use Rattle.pg_script_lines.proofs.rows.add_spaces.Goals as goal

pub loop-preserved : goal.loop-preserved
loop-preserved c =
    adds_as (replicate c.loop.counter 32 ++ (32 ∷ [])) _ (adds_both (replicate c.loop.counter 32) (32 ∷ []) c.loop.invariant c.in_ok-add_char.ensures)
    (replicate-append-replicate c.loop.counter 1 32)
