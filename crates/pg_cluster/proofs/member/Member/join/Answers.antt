use Rattle.std.proofs.Common.{◌≡◌, ap, sym}
use Rattle.std.specs.Prelude.{true, false, is_none}
use Rattle.std.proofs.Props.{props}
use mathlib.Core.Logic.{∥∥₁_elim, ∥∥₁_map}
use Rattle.pg_cluster.specs.Members.{last_in}
use Rattle.pg_cluster.proofs.Holding.{runs_as, gave_back, holds_something}
use Rattle.pg_cluster.proofs.member.Member.join.Goals as goal

pub returns-in-Some-default-clause-ran : goal.returns-in-Some-default-clause-ran
returns-in-Some-default-clause-ran g c =
    ∣ runs_as c.args.self.joined.value c.in-Some-default.thread c.args.self.thread c.join.result c.in-Some-default.is-0 c.join.ensures ∣₁

pub returns-in-Some-default-clause-alone : goal.returns-in-Some-default-clause-alone
returns-in-Some-default-clause-alone g c = λ runs.
    runs_as c.args.self.joined.value c.in-Some-default.thread c.args.self.thread c.join.result c.in-Some-default.is-0 c.join.ensures

pub returns-in-None-Some-clause-ran : goal.returns-in-None-Some-clause-ran
returns-in-None-Some-clause-ran g c =
    ∥∥₁_map c.args.self.holds (λ holds. gave_back c.args.self.joined.value c.args.self.thread c.args.self.ran c.in-None-Some.ran c.in-None-Some.is-0 c.in-None-Some.is-1 holds)

pub returns-in-None-Some-clause-alone : goal.returns-in-None-Some-clause-alone
returns-in-None-Some-clause-alone g c = λ runs.
    let gone : is_none c.args.self.thread ≡ true = ap is_none c.in-None-Some.is-0 in
    absurd (cc)

pub returns-in-Some-default-clause-last : goal.returns-in-Some-default-clause-last
returns-in-Some-default-clause-last g c = λ gone.
    let runs : is_none c.args.self.thread ≡ false = ap is_none c.in-Some-default.is-0 in
    absurd (cc)

pub returns-in-None-Some-clause-last : goal.returns-in-None-Some-clause-last
returns-in-None-Some-clause-last g c = λ gone. sym (ap last_in c.in-None-Some.is-1)

pub unreachable-requires : goal.unreachable-requires
unreachable-requires g c =
    ∥∥₁_elim c.args.self.holds (hlevel props) (λ holds. holds_something c.args.self.joined.value c.args.self.thread c.args.self.ran c.in-None-None.is-0 c.in-None-None.is-1 holds)
