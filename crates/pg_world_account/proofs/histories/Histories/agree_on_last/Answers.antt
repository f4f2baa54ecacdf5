use Rattle.std.proofs.Common.{sym, refl, subst}
use Rattle.pg_term.specs.declared.term.Term.{Term}
use Rattle.pg_world_account.specs.Agreeing.{HaveSameUpdates}
use Rattle.pg_world_account.specs.Histories.{account_of}
use Rattle.pg_world_account.proofs.NamedGroups.{of_last, at_last, of_none}
use Rattle.pg_world_account.proofs.histories.Histories.agree_on_last.Goals as goal

pub returns-in-Some : goal.returns-in-Some
returns-in-Some c =
    let P = λ (name : Term). HaveSameUpdates c.args.nodes (account_of c.args.self.now) (account_of c.args.other.now) name in (
      λ e. of_last P c.args.self.now.last c.in-Some.entry c.in-Some.is (subst P c.name.ensures (c.agree_on.ensures.0 e)),
      λ all. c.agree_on.ensures.1 (subst P (sym c.name.ensures) (at_last P c.args.self.now.last c.in-Some.entry c.in-Some.is all)),
    )

pub returns-in-None : goal.returns-in-None
returns-in-None c =
    let P = λ (name : Term). HaveSameUpdates c.args.nodes (account_of c.args.self.now) (account_of c.args.other.now) name in
    (λ e. of_none P c.args.self.now.last c.in-None.is, λ all. refl)
