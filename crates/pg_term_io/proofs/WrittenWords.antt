-- How many bytes a reference takes.
use Rattle.std.proofs.Common.{◌≡◌, ◌<◌, ◌^◌, suc, get_or, subst, ℕ, ◌+◌, ◌*◌, List}
use Rattle.std.proofs.Common.{[], ◌∷◌, ◌++◌, length, length-append, refl, arith}
use Rattle.std.specs.Int.{w16, w32, to_be_bytes}
use Rattle.std.specs.List.{flat_map, AllByRecursion}
use Rattle.pg_term.specs.RefParts.{RefParts}
use Rattle.pg_term_io.specs.Writing.{atom_bytes, reference_bytes}

pub words_len : (words : List ℕ) → length (flat_map (to_be_bytes w32) words) ≡ 4 * length words
words_len [] = refl
words_len (word ∷ words) = omega (arith, words_len words, length-append (to_be_bytes w32 word) (flat_map (to_be_bytes w32) words))

pub reference_len : (r : RefParts) → length (reference_bytes r) ≡ 7 + length (atom_bytes r.node) + 4 * length r.words
unfolding reference_bytes
reference_len r =
    let count = to_be_bytes w16 (length r.words) in
    let creation = to_be_bytes w32 r.creation in
    omega (
      arith,
      words_len r.words,
      length-append (count ++ atom_bytes r.node ++ creation) (flat_map (to_be_bytes w32) r.words),
      length-append (count ++ atom_bytes r.node) creation,
      length-append count (atom_bytes r.node),
    )

all_below : (words : List ℕ) → ((k : ℕ) → get_or words k 0 < 2 ^ 32) → AllByRecursion (λ w. w < 2 ^ 32) words
all_below [] below = tt
all_below (word ∷ words) below = (below 0, all_below words (λ k. below (suc k)))

-- each word is a number of 32 bits
pub words_below : (read words : List ℕ) → read ≡ words → ((k : ℕ) → get_or read k 0 < 2 ^ 32) → AllByRecursion (λ w. w < 2 ^ 32) words
words_below read words same below = subst (AllByRecursion (λ w. w < 2 ^ 32)) same (all_below read below)
