use Rattle.std.proofs.Common.{◌<◌, ◌^◌, ap, length, get_or, subst, List, ℕ, arith, rules}
use Rattle.pg_term_io.specs.Spelling.{IsAtom}
use Rattle.pg_term_io.specs.Writing.{atom_bytes}
use Rattle.pg_term_io.proofs.Spelled.{reference_spelled}
use Rattle.pg_term_io.proofs.WrittenWords.{reference_len, words_below}
use Rattle.pg_term_io.proofs.writer.writing.put_reference.Goals as goal

pub returns-clause-spare : goal.returns-clause-spare
returns-clause-spare c = omega (arith, reference_len c.args.reference.now, ap length c.words-word-items.ensures.value)

pub returns-clause-spelled : goal.returns-clause-spelled
returns-clause-spelled c =
    let same = ap length c.words.ensures.value in
    let below : (k : ℕ) → get_or c.words-word-items.result.now k 0 < 2 ^ 32 = search rules in
    let words = words_below c.words-word-items.result.now c.args.reference.now.words c.words-word-items.ensures.value below in
    let node = subst (λ (a : List ℕ). IsAtom a (atom_bytes a)) c.node.ensures c.put_atom.ensures.spelled in
    reference_spelled c.args.reference.now node (omega (arith, same, c.words.ensures.some)) (omega (arith, same, c.words.ensures.few)) words (omega (arith, c.creation.ensures))
