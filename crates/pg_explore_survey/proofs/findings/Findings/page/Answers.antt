use Rattle.std.proofs.Common.{◌≡◌}
use Rattle.std.specs.Prelude.{string_bytes}
use Rattle.std.proofs.lemmas.Result.{IfOk-weaker}
use Rattle.pg_explore_tally.specs.Pages.{page_of}
use Rattle.pg_explore_survey.specs.Findings.{IsPage}
use Rattle.pg_explore_survey.proofs.findings.Findings.page.Goals as goal

pub returns : goal.returns
returns c =
    IfOk-weaker c.page-page.result (λ text. string_bytes text ≡ page_of c.in_ok-report.report) (λ text. IsPage c.args.self.now (string_bytes text))
    (λ text e. record { report = c.in_ok-report.report; says = c.in_ok-report.ensures; is = e }) c.page-page.ensures
