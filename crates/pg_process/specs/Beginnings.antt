-- How a process begins.
use Rattle.std.specs.Prelude.{◌≡◌, ◌≢◌, ◌∷◌, ℕ, Bool, List, [], true, false, length, Ok, Err, ⊤}
use Rattle.pg_step.specs.PgExchange.GroupList.{GroupList}
use Rattle.pg_step.specs.Config.{first_table}
use Rattle.pg_step.specs.Machines.Clocked.{Timed}
use Rattle.pg_step.specs.State.{State, new_state}
use Rattle.pg_step.specs.declared.answer.Answer.{Answer}
use Rattle.pg_node.specs.Begun.{BeginsLinked}
use Rattle.pg_node.specs.Begun.{CantBegin as CantTell}
use Rattle.pg_node.specs.Links.{Link}
use Rattle.pg_node.specs.PgGroup.Table.{Table}
use Rattle.pg_node.specs.PgNodeState.declared.state.fault.NodeFault.TheVariants as node
use Rattle.pg_node_process.specs.declared.config.ProcessConfig.{ProcessConfig}
use Rattle.pg_node_process.specs.declared.groups.GroupsFault.TheVariants as groups_faults
use Rattle.pg_node_process.specs.Configs.{is_config}
use Rattle.pg_node_process.specs.Desks.{nothing_came}
use Rattle.pg_node_process.specs.Groups.{brought}
use Rattle.pg_node_process.specs.Retries.{at_first}
use Rattle.pg_process.specs.declared.fault.BeginFault.{BeginFault}
use Rattle.pg_process.specs.declared.fault.BeginFault.TheVariants.{BadConfig, Groups, Message, OutOfMemory}
use Rattle.pg_process.specs.declared.process.Process.{Process}
use Rattle.pg_process.specs.declared.process.Told.{Told}
use Rattle.pg_process.specs.Situations.{Setting, Situation, setting_of, situation_of}

-- nothing that is said once only was said
abbrev pub none_told : Bool → Told
none_told mirrored = record { formed = false; old_clock = false; many_ended = false; mirrored = mirrored }

-- What a node of a set begins with: its table has these groups, and the frame that announces them waits for each peer. Nothing came, and nothing was said.
pub record StartsAs (config : ProcessConfig) (groups : GroupList) (set : Setting) (a : Situation) : Type 0 where
  pub setting : set ≡ record { names = config.own ∷ config.peers.items; ports = config.ports }
  pub state : a.node.state ≡ record { clock = 0; state = new_state (first_table groups) config.made }
  pub answers : a.node.answers ≡ (λ port. [])
  pub links : BeginsLinked (first_table groups) config.own (length config.peers.items) a.links
  pub ports : a.ports ≡ (λ port. nothing_came)
  pub courtesies : a.courtesies ≡ (λ port. at_first)
  pub came : a.came ≡ 0
  pub told : a.told ≡ none_told config.mirrored

-- A process begins so, and nothing is gathered.
pub record Begins (config : ProcessConfig) (groups : GroupList) (process : Process) : Type 0 where
  pub starts : StartsAs config groups (setting_of process) (situation_of process)
  pub outlet : process.outlet.gathered.items ≡ []
  pub journal : process.journal.gathered.items ≡ []

-- it begins with the groups that its host brings
pub record BeginsBy (config : ProcessConfig) (bytes : List ℕ) (process : Process) : Type 0 where
  pub valid : is_config config ≡ true
  pub groups : GroupList
  pub brings : brought config.own config.made bytes ≡ Ok groups
  pub begins : Begins config groups process

-- why groups are not those of a node of this name that has made so many processes
abbrev pub IsUnbrought : List ℕ → ℕ → List ℕ → BeginFault → Type 0
IsUnbrought own made bytes BadConfig = ⊥
IsUnbrought own made bytes (Groups fault) = (fault ≢ groups_faults.OutOfMemory) × (brought own made bytes ≡ Err fault)
IsUnbrought own made bytes (Message fault) = ⊥
IsUnbrought own made bytes OutOfMemory = ⊤

-- why a node of this name can't begin with a table
abbrev pub CantStart : Table → List ℕ → BeginFault → Type 0
CantStart table own BadConfig = ⊥
CantStart table own (Groups fault) = ⊥
CantStart table own (Message fault) = CantTell table own (node.Message fault)
CantStart table own OutOfMemory = ⊤

-- Why a process can't begin: its config is not valid, which is told whatever memory there is; what the host brings is not its groups; or what
-- announces these can't be written. Else memory ran out.
abbrev pub CantBegin : ProcessConfig → List ℕ → BeginFault → Type 0
CantBegin config bytes BadConfig = is_config config ≡ false
CantBegin config bytes (Groups fault) = (is_config config ≡ true) × (fault ≢ groups_faults.OutOfMemory) × (brought config.own config.made bytes ≡ Err fault)
CantBegin config bytes (Message fault) =
    (is_config config ≡ true) × ((groups : GroupList) × (brought config.own config.made bytes ≡ Ok groups) × CantTell (first_table groups) config.own (node.Message fault))
CantBegin config bytes OutOfMemory = is_config config ≡ true

-- what is kept by a process to whose node nothing came
abbrev pub first_situation : Bool → Timed State → (ℕ → List Answer) → (ℕ → Link) → Situation
first_situation mirrored state answers links = record {
  node = record { state = state; answers = answers };
  links = links;
  ports = λ port. nothing_came;
  courtesies = λ port. at_first;
  came = 0;
  told = none_told mirrored;
}
