-- What the comparison of messages computes.
use Rattle.std.specs.Prelude.{Bool, true, false, ◌&&◌, List}
use Rattle.std.specs.Cmp.Lexicographic.{pointwise}
use Rattle.pg_term.specs.declared.pid.Pid.{Pid}
use Rattle.pg_term.specs.declared.term.Term.{Term}
use Rattle.pg_term.specs.RefParts.{ref_eq}
use Rattle.pg_term.specs.Same.{same_atom, same_pid, same_term}
use Rattle.pg_node_state.specs.PgMessageTypes.declared.message.Message.{Message}
use Rattle.pg_node_state.specs.PgMessageTypes.declared.message.Message.TheVariants.{Call, Reply, DelLock, Exchange, Down}
use Rattle.pg_node_state.specs.PgMessageTypes.declared.message.Request.{Request}
use Rattle.pg_node_state.specs.PgMessageTypes.declared.message.Request.TheVariants.{SetLock, Change}
use Rattle.pg_node_state.specs.PgMessageTypes.declared.message.Said.{Said}
use Rattle.pg_node_state.specs.PgMessageTypes.declared.message.Said.TheVariants.{Granted, Denied, Applied}
use Rattle.pg_node_state.specs.PgNodeOpens.Twins.{same_update}

-- whether two replies say the same
abbrev pub same_said : Said → Said → Bool
same_said Granted Granted = true
same_said Denied Denied = true
same_said Applied Applied = true
same_said said other = false

-- whether two requests are one
abbrev pub same_request : Request → Request → Bool
same_request (SetLock name) (SetLock other) = same_term name other
same_request (Change update) (Change other) = same_update update other
same_request request other = false

-- whether two groups have the same name, and the same members in the same order
abbrev pub same_group : Term × List Pid → Term × List Pid → Bool
same_group group other = same_term group.0 other.0 && pointwise same_pid group.1 other.1

-- whether two messages are one
abbrev pub same_message : Message → Message → Bool
same_message (Call call request) (Call other asked) = ref_eq call other && same_request request asked
same_message (Reply call said) (Reply other told) = ref_eq call other && same_said said told
same_message (DelLock name holder) (DelLock other held) = same_term name other && ref_eq holder held
same_message (Exchange node groups) (Exchange other told) = same_atom node other && pointwise same_group groups told
same_message (Down pid) (Down other) = same_pid pid other
same_message message other = false
