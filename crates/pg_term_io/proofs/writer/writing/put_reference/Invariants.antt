use Rattle.std.proofs.Common.{◌≡◌, ◌+◌, ◌*◌, ◌++◌, ◌∷◌, take, length}
use Rattle.std.specs.Int.{w16, w32, to_be_bytes}
use Rattle.std.specs.List.{flat_map}
use Rattle.pg_term_io.specs.Writing.{atom_bytes}
use Rattle.pg_term_io.proofs.writer.writing.put_reference.Given as goal

abbrev pub invariant-loop-word : goal.invariant-loop-word
invariant-loop-word l =
    (l.out.items ≡ l.fn.out.items ++ (90 ∷ to_be_bytes w16 (length l.reference.words) ++ atom_bytes l.reference.node ++ to_be_bytes w32 l.reference.creation ++ flat_map (to_be_bytes w32) (take l.word-index l.reference.words)))
    × (l.out.spare + 7 + length (atom_bytes l.reference.node) + 4 * l.word-index ≡ l.fn.out.spare)
