use Rattle.std.proofs.Common.{◌≡◌, ◌∙◌, Some, None, ap, sym, arith}
use Rattle.std.specs.Option.{option_map}
use Rattle.pg_term_io.specs.Kinds.{place_of, kind_in}
use Rattle.pg_term_io.specs.Tags.{kind_of_tag}
use Rattle.pg_term_io.proofs.Placed.{kind_more, item_kind, no_item}
use Rattle.pg_term_io.proofs.reading.outline.kind_at.Goals as goal

pub returns-in-empty-clause-of_term : goal.returns-in-empty-clause-of_term
returns-in-empty-clause-of_term c room t rest e = absurd (omega (arith, no_item room c.args.bytes.now t rest e, c.in-empty.len_below))

pub returns-in_ok-of-in-len1-up-clause-of_term : goal.returns-in_ok-of-in-len1-up-clause-of_term
returns-in_ok-of-in-len1-up-clause-of_term c room t rest e =
    let here : kind_in c.args.bytes.now ≡ Some c.kind.result =
    kind_more c.args.bytes.now c.in-len1-up.len_at_least ∙ ap (option_map kind_of_tag) (sym c.of.ensures ∙ c.in_ok-of-in-len1-up.was) ∙ ap Some (sym c.kind.ensures) in
    ap (option_map place_of) (sym here) ∙ item_kind room c.args.bytes.now t rest e

pub returns-in_err-of-in-len1-up-clause-of_term : goal.returns-in_err-of-in-len1-up-clause-of_term
returns-in_err-of-in-len1-up-clause-of_term c room t rest e =
    let here : kind_in c.args.bytes.now ≡ None = kind_more c.args.bytes.now c.in-len1-up.len_at_least ∙ ap (option_map kind_of_tag) (sym c.of.ensures ∙ c.in_err-of-in-len1-up.was) in
    ap (option_map place_of) (c.from_residual.ensures ∙ sym here) ∙ item_kind room c.args.bytes.now t rest e
