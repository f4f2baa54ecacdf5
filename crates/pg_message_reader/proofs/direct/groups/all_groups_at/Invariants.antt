use Rattle.std.proofs.Common.{◌≡◌, ◌-◌, true, map}
use Rattle.std.specs.List.{list_all}
use Rattle.pg_term_io.specs.Reading.{items_at, item_at, with_front}
use Rattle.pg_message_types.specs.Name.{is_name}
use Rattle.pg_message_types.specs.Writing.{group_term}
use Rattle.pg_message_reader.proofs.direct.groups.all_groups_at.Given as goal

abbrev pub invariant-loop : goal.invariant-loop
invariant-loop l = (with_front (map group_term l.groups.items) (items_at (item_at 60) (l.count - l.counter) l.rest) ≡ items_at (item_at 60) l.count l.bytes) × (list_all (λ group. is_name group.0) l.groups.items ≡ true)
