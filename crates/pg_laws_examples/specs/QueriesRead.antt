-- What queries read, by example.
use Rattle.std.specs.Prelude.{[], ◌∷◌, Some, None}
use Rattle.pg_term.specs.declared.term.Term.{Term}
use Rattle.pg_laws.specs.PgGroup.Table.{Table}
use Rattle.pg_laws.specs.PgGroup.Value.{Value, listed, nobody}
use Rattle.pg_laws.specs.PgStep.Commands.{Reads}
use Rattle.pg_laws.specs.PgStep.declared.answer.Reply.TheVariants as reply
use Rattle.pg_laws.specs.PgStep.declared.command.Command.TheVariants as command
use Rattle.pg_laws_examples.specs.Examples.{a, b, c, a1, b1}

-- a table in which each name has this group
abbrev pub all_have : Value → Table
all_have v name = v

-- twice the first process of a, and once that of b
abbrev pub members : Value
members = listed (a1 ∷ a1 ∷ b1 ∷ [])

-- The members on a node, and those that a word picks there.
pub record QueriesRead (g : Term) : Type 0 where
  pub local_a : Reads a (command.LocalMembers g) (all_have members) (reply.Pids (a1 ∷ a1 ∷ []))
  pub local_b : Reads b (command.LocalMembers g) (all_have members) (reply.Pids (b1 ∷ []))
  pub local_c : Reads c (command.LocalMembers g) (all_have members) (reply.Pids [])
  pub local_none : Reads a (command.LocalMembers g) (all_have None) (reply.NoSuchGroup g)
  -- a local member, where there is one; the word goes round the list
  pub closest_a : Reads a (command.Closest g 3) (all_have members) (reply.Closest a1)
  pub closest_b : Reads b (command.Closest g 4) (all_have members) (reply.Closest b1)
  -- else one of all
  pub closest_c : Reads c (command.Closest g 1) (all_have members) (reply.Closest a1)
  pub closest_c_last : Reads c (command.Closest g 5) (all_have members) (reply.Closest b1)
  pub closest_empty : Reads a (command.Closest g 0) (all_have (Some nobody)) (reply.NoProcess g)
  pub closest_none : Reads a (command.Closest g 0) (all_have None) (reply.NoSuchGroup g)
