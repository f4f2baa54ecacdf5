use Rattle.std.proofs.Common.{◌≡◌, cond, true, false, ◌∷◌, [], sym, ap, ◌∙◌}
use Rattle.std.specs.Prelude.{Option}
use Rattle.pg_term.specs.Same.{same_term}
use Rattle.pg_node_opens.specs.PgGroup.Value.{name_of}
use Rattle.pg_world_account.specs.declared.entry.Entry.{Entry}
use Rattle.pg_laws_losses.specs.PgLaws.History.{of_group}
use Rattle.pg_world_account.specs.Histories.{as_entry, as_marked, last_entries, last_marks}
use Rattle.pg_world_account.proofs.histories.Histories.last_of.Goals.{in_default-via-in-Some+else-eq}
use Rattle.pg_world_account.proofs.histories.Histories.last_of.Goals.{in_default-via-in_default}
use Rattle.pg_world_account.proofs.histories.Histories.last_of.Goals as goal

pub returns-in-Some-clause-history : goal.returns-in-Some-clause-history
returns-in-Some-clause-history c =
    let name = c.args.name.now in
    let same : same_term name (name_of c.in-Some.entry.update) ≡ true = ap (same_term name) (sym c.name.ensures) ∙ (sym c.eq.ensures ∙ c.if-eq.true) in
    sym (ap (λ (last : Option Entry). of_group name (last_entries last)) c.in-Some.is ∙ ap (λ b. cond b (as_entry c.in-Some.entry ∷ []) []) same)

pub returns-in_default-clause-history : goal.returns-in_default-clause-history
returns-in_default-clause-history c = elim c.in_default.branch [
  | in_default-via-in-Some+else-eq w ↦
      let name = c.args.name.now in
      let same : same_term name (name_of w.in-Some.entry.update) ≡ false = ap (same_term name) (sym w.name.ensures) ∙ (sym w.eq.ensures ∙ w.if-eq.false) in
      sym (ap (λ (last : Option Entry). of_group name (last_entries last)) w.in-Some.is ∙ ap (λ b. cond b (as_entry w.in-Some.entry ∷ []) []) same)
  | in_default-via-in_default w ↦ sym (ap (λ (last : Option Entry). of_group c.args.name.now (last_entries last)) w.in_default.is)
]

pub returns-in-Some-clause-marks : goal.returns-in-Some-clause-marks
returns-in-Some-clause-marks c = λ i.
    let name = c.args.name.now in
    let same : same_term name (name_of c.in-Some.entry.update) ≡ true = ap (same_term name) (sym c.name.ensures) ∙ (sym c.eq.ensures ∙ c.if-eq.true) in
    sym (ap (λ (last : Option Entry). last_marks last i name) c.in-Some.is ∙ ap (λ b. cond b (as_marked i c.in-Some.entry ∷ []) []) same)

pub returns-in_default-clause-marks : goal.returns-in_default-clause-marks
returns-in_default-clause-marks c = λ i. elim c.in_default.branch [
  | in_default-via-in-Some+else-eq w ↦
      let name = c.args.name.now in
      let same : same_term name (name_of w.in-Some.entry.update) ≡ false = ap (same_term name) (sym w.name.ensures) ∙ (sym w.eq.ensures ∙ w.if-eq.false) in
      sym (ap (λ (last : Option Entry). last_marks last i name) w.in-Some.is ∙ ap (λ b. cond b (as_marked i w.in-Some.entry ∷ []) []) same)
  | in_default-via-in_default w ↦ sym (ap (λ (last : Option Entry). last_marks last i c.args.name.now) w.in_default.is)
]
