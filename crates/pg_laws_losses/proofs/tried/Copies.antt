-- Steps of losses once more, and why a command is refused, word for word, each to be made wrong by an edit of edits/. What the laws
-- need of them is proved in `Tried`.
use Rattle.std.specs.Prelude.{true, not, cond, [], ◌∷◌, Option, None, Result, Err, option_map}
use Rattle.std.specs.List.{filter}
use Rattle.pg_term.specs.Same.{same_atom}
use Rattle.pg_laws.specs.PgGroup.Ended.{ended_with}
use Rattle.pg_laws.specs.PgGroup.Functions.{upd}
use Rattle.pg_laws.specs.PgGroup.Table.{without_node}
use Rattle.pg_laws.specs.PgLock.Locks.{without_node as locks_without}
use Rattle.pg_laws.specs.PgMessageTypes.declared.message.Message.{Message}
use Rattle.pg_laws.specs.PgStep.Machines.Losing.{LosingWorld}
use Rattle.pg_laws.specs.PgStep.Machines.Machine.{Event, Machine, happens, node_of}
use Rattle.pg_laws.specs.PgStep.Commands.{ends_again, ends_unformed, ends_unmade}
use Rattle.pg_laws.specs.PgStep.Commands.{has_foreign_pid, has_large_name, passes_limit}
use Rattle.pg_laws.specs.PgStep.Faults.{first_that_holds}
use Rattle.pg_laws.specs.PgStep.Losses.{forgets}
use Rattle.pg_laws.specs.PgStep.Nodes.{Node, Nodes}
use Rattle.pg_laws.specs.PgStep.State.{State, Status, live_nodes}
use Rattle.pg_laws.specs.PgStep.State.Status.{Unasked}
use Rattle.pg_laws.specs.PgStep.Step.{taken}
use Rattle.pg_laws.specs.PgStep.Turns.{NodeTurn, becomes}
use Rattle.pg_laws.specs.PgStep.declared.command.Command.{Command}
use Rattle.pg_laws.specs.PgStep.declared.command_fault.CommandFault.{CommandFault}
use Rattle.pg_laws.specs.PgStep.declared.command_fault.CommandFault.TheVariants.{NameTooLarge, ForeignPid, NotFormed}
use Rattle.pg_laws.specs.PgStep.declared.command_fault.CommandFault.TheVariants.{NotMade, AlreadyEnded, ProcessLimit}
use Rattle.pg_laws.specs.PgStep.declared.refusal.Refusal.{Refusal}
use Rattle.pg_laws.specs.PgStep.declared.refusal.Refusal.TheVariants.{NodeLost}

-- a loss is seen
abbrev pub copied_see_loss : Node → State → NodeTurn
copied_see_loss peer s = becomes (record s {
  table = without_node s.table peer;
  ended = ended_with s.ended peer;
  locks = locks_without s.locks peer;
  merged = upd same_atom s.merged peer true;
  lost = upd same_atom s.lost peer true;
  uses = λ c. forgets peer (s.uses c);
})

-- a packet is taken
abbrev pub copied_takes : Nodes → Node → Message → State → Result NodeTurn Refusal
copied_takes m p x s = cond (s.lost p) (Err NodeLost) (taken (live_nodes m s) p x s)

-- a node takes a step
abbrev pub copied_goes : {S P C O : Type 0} → Machine S P C O → LosingWorld S P O → Event C → Option (LosingWorld S P O)
copied_goes m w e = cond (w.gone (node_of e)) None (option_map (λ v. record { world = v; gone = w.gone }) (happens m w.world e))

-- which fault a command is refused by
abbrev pub copied_fault_of : Nodes → State → Command → Option CommandFault
copied_fault_of m s c = first_that_holds (
    (has_large_name c, NameTooLarge) ∷ (has_foreign_pid m c, ForeignPid) ∷ (ends_unformed m s c, NotFormed)
    ∷ (ends_unmade s c, NotMade) ∷ (ends_again s c, AlreadyEnded) ∷ (passes_limit s c, ProcessLimit) ∷ [])

-- the nodes that count for a node
abbrev pub copied_left : Nodes → State → Nodes
copied_left m s = record { own = m.own; peers = filter (λ q. not (s.lost q)) m.peers }

-- what comes of the nodes that are asked for a lock, where the loss of one is seen
abbrev pub copied_forgotten : Node → (Node → Status) → Node → Status
copied_forgotten peer st = upd same_atom st peer Unasked
