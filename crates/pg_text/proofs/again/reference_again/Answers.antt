use Rattle.std.proofs.Common.{◌<◌, length, ap, subst, ◌∙◌, arith}
use Rattle.std.specs.List.{AllByRecursion}
use Rattle.pg_text.proofs.TermsBack.{reference_reads_back, scalars_same}
use Rattle.pg_text.proofs.again.reference_again.Goals as goal

pub returns : goal.returns
returns c =
    let words = subst (AllByRecursion (λ w. w < 4294967296)) c.words.ensures.value c.words_fit.ensures in
    let same = ap length c.words.ensures.value in
    let node = ap length c.node.ensures in
    reference_reads_back c.args.reference.now (omega (arith, node, c.as_str-text.ensures.limit))
    (scalars_same c.as_str-text.result.now c.args.reference.now.node c.as_str-text.utf8 (c.as_str-text.ensures.characters ∙ c.node.ensures))
    (omega (arith, c.creation-creation.ensures)) words (omega (arith, same, c.words.ensures.few)) (omega (arith, same, c.words.ensures.some))
