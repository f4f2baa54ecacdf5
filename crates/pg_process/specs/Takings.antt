-- What comes of the next packet of a peer.
use Rattle.std.specs.Prelude.{◌≡◌, ◌⊎◌, ◌++◌, ℕ, Bool, true, false, List, Option, Ok, Err, None}
use Rattle.std.specs.List.{AllByRecursion, flat_map}
use Rattle.pg_node.specs.PgGroup.Table.{Table}
use Rattle.pg_node.specs.PgGroup.declared.update.Update.{Update}
use Rattle.pg_node_process.specs.Mirrors.{TellsTable}
use Rattle.pg_node_process.specs.Outputs.{IsFramed, Output, said as bytes_said}
use Rattle.pg_node.specs.Bytes.{marked}
use Rattle.pg_node.specs.Links.{at_link}
use Rattle.pg_node.specs.PgNodeState.Issued.{ports_of}
use Rattle.pg_node.specs.PgNodeState.States.{answers_of, names_of, state_of}
use Rattle.pg_node_run.specs.Events.{IsFault}
use Rattle.pg_node.specs.Nodes.{has_lost, held_by, links_of, read_next}
use Rattle.pg_node.specs.PgNodeState.declared.state.fault.NodeFault.{NodeFault}
use Rattle.pg_node.specs.PgNodeState.declared.state.fault.NodeFault.TheVariants.{Damaged, Refused}
use Rattle.pg_node.specs.PgStep.declared.refusal.Refusal.TheVariants as refusals
use Rattle.pg_node_run.specs.Acts.{Act, Given}
use Rattle.pg_process.specs.declared.fault.ProcessFault.{ProcessFault}
use Rattle.pg_process.specs.declared.fault.ProcessFault.TheVariants.{ClockFull, OutOfMemory}
use Rattle.pg_process.specs.declared.process.Process.{Process}
use Rattle.pg_process.specs.Chains.{Makes, Rests, Silent}
use Rattle.pg_process.specs.Deeds.{Broke, Took, formed_said, told_formed, told_next}
use Rattle.pg_process.specs.Locks.{is_formed}
use Rattle.pg_process.specs.Mirrors.{TellsInput}
use Rattle.pg_process.specs.Situations.{setting_of, situation_of, table_of}

-- a fault tells that nothing of a peer is there to be taken
abbrev pub tells_none : NodeFault → Bool
tells_none Damaged = true
tells_none (Refused refusals.NodeLost) = true
tells_none fault = false

-- a fault tells that the clock is full
abbrev pub tells_full : NodeFault → Bool
tells_full (Refused refusals.ClockFull) = true
tells_full fault = false

-- nothing of the peer is there to be taken
abbrev pub HasNone : ℕ → Process → Type 0
HasNone peer a =
    (has_lost (held_by a.node) peer ≡ true)
    ⊎ (((links_of a.node peer).damaged ≡ true)
    ⊎ (read_next (has_lost (held_by a.node) peer) (links_of a.node peer) ≡ Ok None))

-- a packet was taken, or its fault told
abbrev pub TookOne : ℕ → Process → Process → Type 0
TookOne peer a b = ((act : Act) × Makes (Took peer act) a b) ⊎ ((fault : NodeFault) × Makes (Broke peer fault) a b)

abbrev pub TakesOne : ℕ → Bool → Process → Process → Type 0
TakesOne peer true a b = TookOne peer a b
TakesOne peer false a b = Rests a b × HasNone peer a

-- What is told of an input that made the one table of the other, behind what was said.
pub record TellsMade (mirrored : Bool) (input : Given) (applied : Option Update) (before after : Table) (said0 said1 : List ℕ) : Type 0 where
  pub outputs : List Output
  pub tells : TellsTable mirrored before after outputs
  pub form : TellsInput input applied after outputs
  pub framed : AllByRecursion IsFramed outputs
  pub gathered : said1 ≡ said0 ++ flat_map bytes_said outputs

-- what is told of an input of which the node made what it now has, from this table, and behind that at once that the node is formed, where it is
pub record TellsTaken (input : Given) (applied : Option Update) (before : Table) (a b : Process) : Type 0 where
  pub table : List Output
  pub tells : TellsTable true before (table_of (situation_of a)) table
  pub form : TellsInput input applied (table_of (situation_of a)) table
  pub framed : AllByRecursion IsFramed table
  pub gathered : b.outlet.gathered.items ≡ a.outlet.gathered.items ++ flat_map bytes_said (table ++ formed_said (is_formed (setting_of a) (situation_of a)) a.told.formed)
  pub told : b.told ≡ told_formed (is_formed (setting_of a) (situation_of a)) a.told

-- A fault of what comes of a peer: it is what the step and the link tell, or memory ran out. It may damage the link, and nothing else is another.
pub record Untaken (peer : ℕ) (fault : NodeFault) (a b : Process) : Type 0 where
  pub told : IsFault (told_next (setting_of a) (situation_of a) peer) fault
  pub state : state_of (held_by b.node) ≡ state_of (held_by a.node)
  pub answers : answers_of (held_by b.node) ≡ answers_of (held_by a.node)
  pub names : names_of (held_by b.node) ≡ names_of (held_by a.node)
  pub ports : ports_of (held_by b.node) ≡ ports_of (held_by a.node)
  pub links : links_of b.node ≡ at_link peer (λ link. marked link fault) (links_of a.node)
  pub peers : b.peers ≡ a.peers
  pub desks : b.desks ≡ a.desks
  pub courtesies : b.courtesies ≡ a.courtesies
  pub outlet : b.outlet ≡ a.outlet
  pub journal : b.journal ≡ a.journal
  pub came : b.came ≡ a.came
  pub told_before : b.told ≡ a.told

-- nothing was said or logged; a full clock is what the step tells
abbrev pub Stops : ℕ → ProcessFault → Process → Process → Type 0
Stops peer ClockFull a b = Silent a b × (told_next (setting_of a) (situation_of a) peer ≡ Err (Refused refusals.ClockFull))
Stops peer OutOfMemory a b = Silent a b
