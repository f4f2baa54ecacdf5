use Rattle.std.proofs.Common.{Some, None, arith}
use Rattle.std.proofs.lemmas.Str.Pattern.{split_once_first, split_parts}
use Rattle.pg_script.proofs.Walking.{one_line, more_lines}
use Rattle.pg_explore_survey.proofs.forms.first_line.Goals as goal

pub returns-in-Some : goal.returns-in-Some
returns-in-Some c =
    let cut = split_once_first 10 c.args.text.now (Some (c.in-Some.line, c.in-Some.rest)) c.in-Some.ensures.cases (omega arith) in
    more_lines c.args.text.now c.in-Some.line.now c.in-Some.rest.now cut.0 cut.1 cut.2

pub returns-in-None : goal.returns-in-None
returns-in-None c = one_line c.args.text.now (split_parts 10 c.args.text.now None c.in-None.ensures.cases (omega arith))
