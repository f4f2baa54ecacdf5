use Rattle.std.proofs.Common.{ap, ◌∙◌, refl}
use Rattle.std.specs.Str.{chars}
use Rattle.pg_text.proofs.Passing.{then_past, behind_past, after_some, after_none, bytes_past}
use Rattle.pg_text.proofs.reading.ends.bytes_end.Goals as goal

pub returns-in_err-byte_list_end-clause-none : goal.returns-in_err-byte_list_end-clause-none
returns-in_err-byte_list_end-clause-none c = λ none. bytes_past (chars c.args.text.now) ∙ ap (λ r. then_past r (behind_past 62)) (c.in_err-byte_list_end.ensures.none refl)

pub returns-clause-some : goal.returns-clause-some
returns-clause-some c =
    after_some c.after.result 62 (chars c.in_ok-byte_list_end.field-0.now) _ (bytes_past (chars c.args.text.now) ∙ ap (λ r. then_past r (behind_past 62)) c.in_ok-byte_list_end.ensures.some) c.after.ensures.some

pub returns-clause-none : goal.returns-clause-none
returns-clause-none c =
    after_none c.after.result 62 (chars c.in_ok-byte_list_end.field-0.now) _ (bytes_past (chars c.args.text.now) ∙ ap (λ r. then_past r (behind_past 62)) c.in_ok-byte_list_end.ensures.some) c.after.ensures.none
