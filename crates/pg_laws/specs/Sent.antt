-- What messages on a way tell, but for locks and updates.
use Rattle.std.specs.Prelude.{Bool, true, false, List, [], ◌∷◌}
use Rattle.pg_term.specs.declared.pid.Pid.{Pid}
use Rattle.pg_step.specs.PgExchange.GroupList.{GroupList}
use Rattle.pg_step.specs.PgMessageTypes.declared.message.Message.{Message}
use Rattle.pg_step.specs.PgMessageTypes.declared.message.Message.TheVariants.{Reply, Exchange, Down}
use Rattle.pg_step.specs.Nodes.{Node}
use Rattle.pg_laws.specs.History.{all_reported}

-- the node and the groups that a message tells of by an exchange
abbrev pub exchange_of : Message → List (Node × GroupList)
exchange_of (Exchange node groups) = (node, groups) ∷ []
exchange_of _ = []

abbrev pub exchanges_in : List Message → List (Node × GroupList)
exchanges_in xs = all_reported exchange_of xs

-- the process whose end a message tells
abbrev pub end_of : Message → List Pid
end_of (Down pid) = pid ∷ []
end_of _ = []

abbrev pub ends_in : List Message → List Pid
ends_in xs = all_reported end_of xs

abbrev pub is_reply : Message → Bool
is_reply (Reply reference said) = true
is_reply _ = false
