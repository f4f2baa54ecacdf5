-- How many members an exchange tells of a group.
use Rattle.std.specs.Prelude.{ℕ, ◌≤◌, length}
use Rattle.std.specs.List.{AllByRecursion}
use Rattle.pg_message_types.specs.declared.message.Message.{Message}
use Rattle.pg_message_types.specs.declared.message.Message.TheVariants.{Exchange}
use Rattle.pg_message_types.specs.Reading.{Groups}

-- no list of members is longer than limit
abbrev pub HasFewMembers : ℕ → Groups → Type 0
HasFewMembers limit groups = AllByRecursion (λ group. length group.1 ≤ limit) groups

-- nor is one in an exchange; no other message has lists of members
abbrev pub IsShort : ℕ → Message → Type 0
IsShort limit (Exchange node groups) = HasFewMembers limit groups
IsShort limit message = Unit {0}
