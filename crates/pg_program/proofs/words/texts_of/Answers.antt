use Rattle.std.proofs.Common.{◌≡◌, ap, ◌∙◌, rules}
use Rattle.std.specs.Prelude.{List, [], Option, Some, None, unwrap_or}
use Rattle.std.specs.Option.{option_map}
use Rattle.std.proofs.lemmas.Result.{IfOk-weaker}
use Rattle.clap.specs.Words.{Text, found_of, matched_of, raw_values, rows_of}
use Rattle.clap.specs.declared.parser.matches.Found.{Found}
use Rattle.clap.proofs.WalkLemmas.{raw_values-rows}
use Rattle.pg_program.specs.CommandLine.{given_all, texts_of}
use Rattle.pg_program.proofs.words.texts_of.Goals as goal

given : (f : Found) (id : Text) (texts : List Text) → Some texts ≡ option_map raw_values (matched_of f id) → texts ≡ given_all id (rows_of f)
given f id texts e = ap (λ (o : Option (List Text)). unwrap_or o []) (e ∙ raw_values-rows f id)

none : (f : Found) (id : Text) → None ≡ option_map raw_values (matched_of f id) → [] ≡ given_all id (rows_of f)
none f id e = ap (λ (o : Option (List Text)). unwrap_or o []) (e ∙ raw_values-rows f id)

pub returns-in-Some : goal.returns-in-Some
returns-in-Some c =
    let found = found_of c.args.given.now in
    IfOk-weaker c.to_vec.result _ _ (λ v same. ap texts_of (same (λ x y e. e)) ∙ given found c.args.id.now (texts_of c.in-Some.texts.now) c.in-Some.ensures) c.to_vec.ensures.items_if_clones_equal

pub returns-in-None : goal.returns-in-None
returns-in-None c =
    let empty : c.new.result.items ≡ [] = search rules in
    ap texts_of empty ∙ none (found_of c.args.given.now) c.args.id.now c.in-None.ensures
