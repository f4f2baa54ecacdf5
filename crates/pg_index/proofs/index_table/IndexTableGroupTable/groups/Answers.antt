use Rattle.std.proofs.Common.{◌≡◌, ◌++◌, sym, ap, ◌∙◌, append-nil}
use Rattle.std.specs.HashMap.{keys}
use Rattle.pg_index.specs.Groups.{counts_by_number}
use Rattle.pg_index.proofs.Copies.{keys_are_names, has_among}
use Rattle.pg_index.proofs.index_table.IndexTableGroupTable.groups.Goals as goal

pub returns : goal.returns
returns c =
    let numbers = c.args.self.now.numbers in
    let all : c.loop-name.names.items ≡ keys numbers = sym (append-nil c.loop-name.names.items) ∙ ap (λ rest. c.loop-name.names.items ++ rest) (sym c.in-None.ensures.steps.0) ∙ c.loop-name.invariant in
    keys_are_names numbers (counts_by_number c.args.self.now.memberships.groups) c.loop-name.names.items all (λ q. has_among q numbers.entries) c.keys-name-items.ensures.unique
