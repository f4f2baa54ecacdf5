use Rattle.std.proofs.Common.{◌≡◌, Some, subst, sym, ◌∙◌}
use Rattle.pg_term.proofs.Same.{same_term as is_same}
use Rattle.pg_term.specs.declared.term.Term.{Term}
use Rattle.pg_index.specs.Index.{number_of}
use Rattle.pg_index.proofs.index_table.IndexTable.number_again.Goals as goal

pub returns-in-Some : goal.returns-in-Some
returns-in-Some c =
    let same = is_same c.in-Some.found.now c.args.name.now (sym c.eq.ensures ∙ c.if-eq.true) in
    subst (λ (name : Term). Some c.in-Some.number.now ≡ number_of c.args.self.now.numbers name) same (sym c.in-Some.ensures.value)
