use Rattle.std.proofs.Common.{sym, ◌∙◌}
use Rattle.std.proofs.lemmas.Bool.{eqb-true}
use Rattle.pg_term.specs.Order.{kind_of}
use Rattle.pg_message_reader.specs.Shapes.Leaves.{characters}
use Rattle.pg_message_reader.proofs.Shapes.Leaves.{no_word, word_is}
use Rattle.pg_message_reader.proofs.shape.leaves.is_word.Goals as goal

pub returns-then-not-is_atom : goal.returns-then-not-is_atom
returns-then-not-is_atom c room t rest e = sym (no_word t c.args.word.now (sym (c.is_atom.ensures.kind room t rest e) ∙ c.if-not-is_atom.true))

pub returns-in-Some : goal.returns-in-Some
returns-in-Some c room t rest e =
    let one = eqb-true (kind_of t) 1 (sym (c.is_atom.ensures.kind room t rest e) ∙ c.if-not-is_atom.false) in
    c.eq.ensures ∙ sym (word_is t (characters c.in-Some.text) c.as_str.result.now c.args.word.now (c.in-Some.ensures room t rest e one) c.as_str.ensures c.as_str.utf8)

pub returns-in-None : goal.returns-in-None
returns-in-None c room t rest e =
    let one = eqb-true (kind_of t) 1 (sym (c.is_atom.ensures.kind room t rest e) ∙ c.if-not-is_atom.false) in
    absurd (c.in-None.ensures room t rest e one)
