use Rattle.std.proofs.Common.{Bool, Option, ℕ, ap, ◌∙◌, sym}
use Rattle.pg_term.specs.declared.term.Term.{Term}
use Rattle.pg_index.proofs.index_table.IndexTableGroupTable.copy.Goals as goal

pub invariant_of-result : goal.invariant_of-result
invariant_of-result c =
    let same = c.in_ok-numbers.ensures in
    record {
      there = λ name group e. ap (λ (u : ℕ → Bool). u group) c.in_ok-memberships.ensures.used ∙ c.args.self.now.there name group (ap (λ (n : Term → Option ℕ). n name) (sym same) ∙ e);
      apart = λ one other group e f. c.args.self.now.apart one other group (ap (λ (n : Term → Option ℕ). n one) (sym same) ∙ e) (ap (λ (n : Term → Option ℕ). n other) (sym same) ∙ f);
    }
