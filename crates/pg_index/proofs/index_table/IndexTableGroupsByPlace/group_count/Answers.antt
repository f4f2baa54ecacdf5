use Rattle.std.proofs.Common.{refl}
use Rattle.std.specs.HashMap.{keys}
use Rattle.pg_index.specs.Groups.{counts_by_number}
use Rattle.pg_index.proofs.Copies.{keys_are_names, has_among}
use Rattle.pg_index.proofs.index_table.IndexTableGroupsByPlace.group_count.Goals as goal

pub returns-clause-names : goal.returns-clause-names
returns-clause-names c =
    let numbers = c.args.self.now.numbers in
    keys_are_names numbers (counts_by_number c.args.self.now.memberships.groups) (keys numbers) refl (λ q. has_among q numbers.entries) c.len.ensures.unique
