use Rattle.std.proofs.Common.{◌≡◌, false, ap, ◌∙◌, codes}
use Rattle.std.specs.Prelude.{Option, Some, None}
use Rattle.std.specs.Option.{option_map_or}
use Rattle.std.specs.Str.{bytes_eq}
use Rattle.clap.specs.Words.{Text, found_of, rows_of, first_value}
use Rattle.clap.specs.declared.parser.matches.Found.{Found}
use Rattle.clap.proofs.WalkLemmas.{first_value-rows}
use Rattle.pg_program.specs.CommandLine.{is_flag}
use Rattle.pg_program.proofs.words.is_given.Goals as goal

given : (f : Found) (id word : Text) → Some word ≡ first_value f id → bytes_eq word (codes "true") ≡ is_flag id (rows_of f)
given f id word e = ap (λ (o : Option Text). option_map_or (λ w. bytes_eq w (codes "true")) o false) (e ∙ first_value-rows f id)

none : (f : Found) (id : Text) → None ≡ first_value f id → false ≡ is_flag id (rows_of f)
none f id e = ap (λ (o : Option Text). option_map_or (λ w. bytes_eq w (codes "true")) o false) (e ∙ first_value-rows f id)

pub returns-in-Some : goal.returns-in-Some
returns-in-Some c =
    let same : c.eq.result ≡ bytes_eq c.in-Some.word.now (codes "true") = c.eq.ensures in
    same ∙ given (found_of c.args.given.now) c.args.id.now c.in-Some.word.now c.in-Some.ensures

pub returns-in-None : goal.returns-in-None
returns-in-None c = none (found_of c.args.given.now) c.args.id.now c.in-None.ensures
