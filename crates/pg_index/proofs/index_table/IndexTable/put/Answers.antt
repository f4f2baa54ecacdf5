use Rattle.std.specs.Map.{lookup}
use Rattle.std.proofs.Common.{◌≡◌, ℕ, Option, None, false, refl, sym, ap, ◌∙◌}
use Rattle.std.specs.Prelude.{is_some}
use Rattle.indexmap.proofs.CallerLemmas.{insert_entry-new}
use Rattle.pg_term.specs.declared.term.Term.{Term}
use Rattle.pg_term.specs.Same.{same_term}
use Rattle.pg_index.specs.Groups.{counts_by_number, is_used}
use Rattle.pg_index.specs.Index.{number_of, contents_of}
use Rattle.pg_index.proofs.Tables.{is_there, made_before, made_now, made_there, made_apart, given_up, given_up_there}
use Rattle.pg_index.proofs.Grown.{grown_same, grown_more, grown_given_up}
use Rattle.pg_index.proofs.index_table.IndexTable.put.Goals as goal

pub returns-in-Some-clause-ok : goal.returns-in-Some-clause-ok
returns-in-Some-clause-ok c =
    let numbers = number_of c.args.self.now.numbers in
    let counts = counts_by_number c.args.self.now.memberships.groups in
    made_before (contents_of numbers counts) c.args.name (is_there numbers counts c.args.name ∙ ap is_some (sym c.in-Some.ensures))

pub invariant_of-self : goal.invariant_of-self
invariant_of-self c = record {
  there = λ name group e. ap (λ u. u group) c.in_default-open.ensures.err ∙ c.args.self.now.there name group e;
  apart = c.args.self.now.apart;
}

pub returns-in_default-open-clause-kept : goal.returns-in_default-open-clause-kept
returns-in_default-open-clause-kept c =
    λ n m grown. grown_same n m c.args.self.now.numbers c.args.self.now.memberships grown c.open.new.self c.in_default-open.ensures.err c.open.ensures.counts

pub invariant_of-self-in-Ok-insert : goal.invariant_of-self-in-Ok-insert
invariant_of-self-in-Ok-insert c =
    let old = number_of c.args.self.now.numbers in
    let new = number_of c.insert.new.self in
    let used = is_used c.args.self.now.memberships.groups in
    let used' = is_used c.open.new.self.groups in
    let counts = counts_by_number c.args.self.now.memberships.groups in
    let absent : is_some (old c.args.name) ≡ false = ap is_some (sym c.number.ensures ∙ c.in_default.is) in
    record {
      there = made_there old new used used' counts c.args.name c.args.name c.in-Ok.number refl c.in-Ok-insert.ensures.updates.0 absent c.in-Ok.ensures.free c.in-Ok.ensures.used c.args.self.now.there;
      apart = made_apart old new used used' counts c.args.name c.args.name c.in-Ok.number refl c.in-Ok-insert.ensures.updates.0 absent c.in-Ok.ensures.free c.in-Ok.ensures.used c.args.self.now.there c.args.self.now.apart;
    }

pub returns-in-Ok-insert-clause-ok : goal.returns-in-Ok-insert-clause-ok
returns-in-Ok-insert-clause-ok c =
    let old = number_of c.args.self.now.numbers in
    let new = number_of c.insert.new.self in
    let used = is_used c.args.self.now.memberships.groups in
    let used' = is_used c.open.new.self.groups in
    let counts = counts_by_number c.args.self.now.memberships.groups in
    let absent : is_some (old c.args.name) ≡ false = ap is_some (sym c.number.ensures ∙ c.in_default.is) in
    ap (contents_of new) c.open.ensures.counts
    ∙ made_now old new used used' counts c.args.name c.args.name c.in-Ok.number refl c.in-Ok-insert.ensures.updates.0 absent c.in-Ok.ensures.free c.in-Ok.ensures.used c.args.self.now.there c.in-Ok.ensures.nobody

pub returns-in-Ok-insert-clause-kept : goal.returns-in-Ok-insert-clause-kept
returns-in-Ok-insert-clause-kept c =
    let none : number_of c.args.self.now.numbers c.args.name ≡ None = sym c.number.ensures ∙ c.in_default.is in
    λ n m grown.
    grown_more n m c.args.self.now.numbers c.args.self.now.memberships grown c.open.new.self c.in-Ok.number c.in-Ok.ensures.free c.in-Ok.ensures.used c.open.ensures.counts
    c.insert.new.self c.args.name (c.in-Ok-insert.ensures.entries ∙ insert_entry-new same_term c.args.self.now.numbers c.args.name c.in-Ok.number none)

pub invariant_of-self-2 : goal.invariant_of-self-2
invariant_of-self-2 c =
    let old = number_of c.args.self.now.numbers in
    let new = number_of c.insert.new.self in
    let same : new ≡ old = (λ i name. lookup (same_term name) (c.in_default-insert.ensures.err i)) in
    record {
      there = given_up_there old new (is_used c.args.self.now.memberships.groups) (is_used c.open.new.self.groups) (is_used c.close.new.self.groups) c.in-Ok.number
          c.args.self.now.there same c.in-Ok.ensures.free c.in-Ok.ensures.used c.close.ensures.used;
      apart = λ one other n e f. c.args.self.now.apart one other n (sym (ap (λ (g : Term → Option ℕ). g one) same) ∙ e) (sym (ap (λ (g : Term → Option ℕ). g other) same) ∙ f);
    }

pub returns-clause-err : goal.returns-clause-err
returns-clause-err c =
    let old = number_of c.args.self.now.numbers in
    let new = number_of c.insert.new.self in
    let same : new ≡ old = (λ i name. lookup (same_term name) (c.in_default-insert.ensures.err i)) in
    let counts = counts_by_number c.args.self.now.memberships.groups in
    let counts' = counts_by_number c.close.new.self.groups in
    ap (λ (f : Term → Option ℕ). contents_of f counts') same
    ∙ ap (contents_of old) (given_up counts (counts_by_number c.open.new.self.groups) counts' c.in-Ok.number c.in-Ok.ensures.nobody c.open.ensures.counts c.close.ensures.counts)

pub returns-clause-kept : goal.returns-clause-kept
returns-clause-kept c =
    λ n m grown.
    grown_given_up n m c.args.self.now.numbers c.args.self.now.memberships grown c.open.new.self c.in-Ok.number c.in-Ok.ensures.free c.in-Ok.ensures.used c.open.ensures.counts
    c.insert.new.self c.close.new.self c.in_default-insert.ensures.err c.close.ensures.used c.close.ensures.counts
