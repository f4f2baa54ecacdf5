use Rattle.std.proofs.Common.{Some, sym, subst, ◌∙◌}
use Rattle.std.specs.BTreeMap.{UpdatesBy}
use Rattle.pg_term.specs.declared.term.Term.{Term}
use Rattle.pg_term.specs.Same.{term_cmp}
use Rattle.pg_group.proofs.Maps.{created_before, created_now}
use Rattle.pg_group.proofs.rows.create.Goals as goal

pub returns-then-contains_key-clause-ok : goal.returns-then-contains_key-clause-ok
returns-then-contains_key-clause-ok c = created_before c.args.rows.now c.args.name.now (sym c.contains_key.ensures ∙ c.if-contains_key.true)

pub returns-clause-ok : goal.returns-clause-ok
returns-clause-ok c =
    let new = c.insert.new.self in
    created_now c.args.rows.now new c.args.name.now c.new.result (sym c.contains_key.ensures ∙ c.if-contains_key.false) c.new.ensures
    (subst (λ (key : Term). UpdatesBy term_cmp (term_cmp key) c.args.rows.now new (Some c.new.result)) c.in_ok-row.ensures c.in_ok-insert.ensures.updates)
