use Rattle.std.proofs.Common.{◌≡◌, true, length, min, map, take}
use Rattle.std.specs.List.{list_all}
use Rattle.pg_message_types.specs.PgTermIo.Writing.{all_bytes}
use Rattle.pg_message_types.specs.Name.{is_name}
use Rattle.pg_message_types.specs.Writing.{group_term}
use Rattle.pg_message_writer.proofs.size.all_groups_len.Given as goal

abbrev pub invariant-loop-group : goal.invariant-loop-group
invariant-loop-group l =
    (l.len ≡ min (length (all_bytes (take l.group-index (map group_term l.groups)))) 18446744073709551615)
    × (list_all (λ group. is_name group.0) (take l.group-index l.groups) ≡ true)
