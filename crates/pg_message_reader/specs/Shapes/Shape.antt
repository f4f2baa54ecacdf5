-- The lists in an exchange.
use Rattle.std.specs.Prelude.{List, Option}
use Rattle.std.specs.Option.{option_and_then}
use Rattle.pg_term.specs.declared.pid.Pid.{Pid}
use Rattle.pg_term.specs.declared.term.Term.{Term}
use Rattle.pg_message_types.specs.Parts.{items_of, pid_of}
use Rattle.pg_message_types.specs.Reading.{Groups, read_each, group_of}

-- the pids that a term lists
abbrev pub members_of : Term → Option (List Pid)
members_of t = option_and_then (read_each pid_of) (items_of t)

-- the groups that a term lists, be they named once or not
abbrev pub listed_of : Term → Option Groups
listed_of t = option_and_then (read_each group_of) (items_of t)
