use Rattle.std.proofs.Common.{◌≡◌, ℕ, true, Some, sym, ap, ◌∙◌, nat_eq}
use Rattle.pg_group.specs.Functions.{upd}
use Rattle.pg_index.specs.Groups.{is_used}
use Rattle.pg_index.proofs.Changed.{used_changed}
use Rattle.pg_index.proofs.memberships.Memberships.open.Goals as goal

pub returns-clause-used : goal.returns-clause-used
returns-clause-used c =
    let group : c.in_ok-insert.field-0 ≡ c.in-Ok.group = c.in_ok-insert.ensures.key ∙ sym c.vacant_key.ensures.value ∙ sym c.in-Ok.ensures.1 in
    used_changed c.args.self.now.groups c.insert.new.self c.in_ok-insert.field-0 (Some c.new.result) c.in_ok-insert.ensures.updates
    ∙ ap (λ (n : ℕ). upd nat_eq (is_used c.args.self.now.groups) n true) group
