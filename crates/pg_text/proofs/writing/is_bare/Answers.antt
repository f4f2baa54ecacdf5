use Rattle.std.proofs.Common.{◌≡◌, ◌&&◌, ◌∙◌, ap, sym, rules, tests}
use Rattle.std.proofs.lemmas.Iterator.{YieldsList-from_chars}
use Rattle.std.proofs.lemmas.Iterator.Search.{all_from_yields_List}
use Rattle.std.specs.List.{list_all}
use Rattle.std.specs.Str.{chars}
use Rattle.pg_text.specs.Writing.{is_word_byte}
use Rattle.pg_text.proofs.writing.is_bare.Goals as goal

pub returns-then-begins_small : goal.returns-then-begins_small
returns-then-begins_small c =
    let words : c.all.result ≡ list_all is_word_byte (chars c.args.text.now) =
    all_from_yields_List is_word_byte _ _ c.all.result c.all.ensures.ran (YieldsList-from_chars c.args.text.now c.utf8.text (cc)) (λ x b q k. search (rules, tests)) in
    words ∙ ap (λ t. t && list_all is_word_byte (chars c.args.text.now)) (sym c.if-begins_small.true ∙ c.begins_small.ensures)
