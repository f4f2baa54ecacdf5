use Rattle.std.proofs.Common.{refl, sym, ap, ◌∙◌, []}
use Rattle.std.proofs.lemmas.List.{append-nil}
use Rattle.pg_text.specs.Reading.{term_at, whole}
use Rattle.pg_text.proofs.TextsBack.{text_reads}
use Rattle.pg_text.proofs.laws.texts_are_read.Goals as goal

pub returns : goal.returns
returns c = λ t text is value deep. ap whole (ap (term_at 64) (sym (append-nil text)) ∙ (text_reads t text is value).back 64 [] deep refl)
