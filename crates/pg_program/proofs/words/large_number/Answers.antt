use Rattle.std.proofs.Common.{◌∙◌}
use Rattle.std.specs.Str.Parse.{ExplainsUnsignedError, HasUnsignedDigitsIfOk}
use Rattle.clap.proofs.WalkLemmas.{one_text-rows}
use Rattle.clap.specs.Words.{found_of, one_of, rows_of}
use Rattle.pg_program.proofs.Numbers.{gives_number}
use Rattle.pg_program.proofs.words.large_number.Goals as goal

pub returns : goal.returns
returns c =
    let found = found_of c.args.given.now in
    let is = one_text-rows found c.args.id.now in
    gives_number 64 c.args.default (λ t r. ExplainsUnsignedError 10 t r) (λ t r. HasUnsignedDigitsIfOk t r) (one_of c.args.id.now (rows_of found)) c.get_one.result c.unwrap_or.result
    (λ none. c.get_one.ensures.none (is ∙ none)) (λ t some. c.get_one.ensures.value t (is ∙ some)) c.unwrap_or.ensures
