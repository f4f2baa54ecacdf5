use Rattle.std.proofs.Common.{◌≡◌, ap, ◌∙◌}
use Rattle.std.specs.Prelude.{Option, Some, None, unwrap_or}
use Rattle.clap.specs.Words.{Text, found_of, rows_of, first_value}
use Rattle.clap.specs.declared.parser.matches.Found.{Found}
use Rattle.clap.proofs.WalkLemmas.{first_value-rows}
use Rattle.pg_program.specs.CommandLine.{given_name}
use Rattle.pg_program.proofs.words.name_or.Goals as goal

given : (f : Found) (id default name : Text) → Some name ≡ first_value f id → name ≡ given_name id default (rows_of f)
given f id default name e = ap (λ (o : Option Text). unwrap_or o default) (e ∙ first_value-rows f id)

none : (f : Found) (id default : Text) → None ≡ first_value f id → default ≡ given_name id default (rows_of f)
none f id default e = ap (λ (o : Option Text). unwrap_or o default) (e ∙ first_value-rows f id)

pub returns-in-Some : goal.returns-in-Some
returns-in-Some c = given (found_of c.args.names.now) c.args.id.now c.args.default.now c.in-Some.name.now c.in-Some.ensures

pub returns-in-None : goal.returns-in-None
returns-in-None c = none (found_of c.args.names.now) c.args.id.now c.args.default.now c.in-None.ensures
