use Rattle.std.proofs.Common.{◌≡◌, ◌∙◌, List, sym, refl, subst}
use Rattle.std.specs.Prelude.{is_some}
use Rattle.std.specs.BTreeMap.{get, keys}
use Rattle.std.specs.List.{list_any}
use Rattle.std.specs.Ordering.{eq_by_cmp}
use Rattle.pg_term.specs.declared.term.Term.{Term}
use Rattle.pg_term.specs.Same.{term_cmp}
use Rattle.pg_node_opens.proofs.Named.{clash}
use Rattle.pg_world_account.specs.Agreeing.{HaveSameUpdates}
use Rattle.pg_world_account.specs.Histories.{account_of}
use Rattle.pg_world_account.proofs.NamedGroups.{all_left, one_less, first_holds, none_left, of_rows, at_rows}
use Rattle.pg_world_account.proofs.histories.Histories.agree_on_rows.Goals as goal

pub loop-name-init : goal.loop-name-init
loop-name-init c =
    let P = HaveSameUpdates c.args.nodes (account_of c.args.self.now) (account_of c.args.other.now) in
    all_left P (keys c.args.self.now.rows) c.into_iter-name-iterator.result (c.into_iter-name-iterator.ensures.into_iter_gives ∙ c.keys-name-items.ensures.rest)

pub loop-name-preserved : goal.loop-name-preserved
loop-name-preserved c =
    let P = HaveSameUpdates c.args.nodes (account_of c.args.self.now) (account_of c.args.other.now) in
    one_less P (keys c.args.self.now.rows) c.in-Some.name.now c.loop-name.name-iterator c.next.new.self c.in-Some.ensures.steps (c.agree_on.ensures.0 c.if-not-agree_on.false) c.loop-name.invariant

pub returns-then-not-agree_on : goal.returns-then-not-agree_on
returns-then-not-agree_on c =
    let P = HaveSameUpdates c.args.nodes (account_of c.args.self.now) (account_of c.args.other.now) in
    let rows = c.args.self.now.rows in (
      λ e. absurd (clash (sym e)),
      λ all. sym c.if-not-agree_on.true ∙ c.agree_on.ensures.1
          (first_holds P (keys rows) c.in-Some.name.now c.loop-name.name-iterator c.next.new.self c.in-Some.ensures.steps c.loop-name.invariant (at_rows P rows c.keys-name-items.ensures.found all)),
    )

pub returns : goal.returns
returns c =
    let P = HaveSameUpdates c.args.nodes (account_of c.args.self.now) (account_of c.args.other.now) in
    let rows = c.args.self.now.rows in
    let has = λ (q : Term). subst (λ (names : List Term). is_some (get term_cmp rows q) ≡ list_any (eq_by_cmp term_cmp q) names) c.keys-name-items.ensures.rest (c.keys-name-items.ensures.has q) in
    (λ e. of_rows P rows has (none_left P (keys rows) c.loop-name.name-iterator c.in-None.ensures.steps.0 c.loop-name.invariant), λ all. refl)
