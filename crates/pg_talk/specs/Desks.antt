-- The requests of one port.
use Rattle.std.specs.Prelude.{◌≡◌, Bool, true, false, not, ◌&&◌, List, [], ◌∷◌}
use Rattle.pg_cluster.specs.PgStep.declared.command.Command.{Command}
use Rattle.pg_talk.specs.declared.service.desk.Desk.{Desk}

-- those that wait for their turn, in the order in which they came
abbrev pub waiting_at : Desk → List Command
waiting_at desk = desk.waiting.items

abbrev pub is_none : List Command → Bool
is_none [] = true
is_none (command ∷ commands) = false

-- each request that came was replied to
abbrev pub is_idle : Desk → Bool
is_idle desk = not desk.is_asked && is_none (waiting_at desk)

-- the desk of the same port, at which as much was asked and replied to
pub record SameDesk (a b : Desk) : Type 0 where
  pub name : b.name ≡ a.name
  pub node : b.node ≡ a.node
  pub port : b.port ≡ a.port
  pub asked : b.is_asked ≡ a.is_asked
  pub replied : b.replied ≡ a.replied
