-- How one node of a set is served as a process, and how that ends.
use Rattle.std.specs.Prelude.{◌≡◌, ◌⊎◌, ℕ, List, ◌∷◌, Bool, true, false, Option, Some, None, Result, Ok, Err, chars, codes, map}
use Rattle.std.specs.Borrow.{Bor}
use Rattle.std.specs.List.{list_any}
use Rattle.pg_node_process.specs.Configs.{is_config}
use Rattle.pg_node_process.specs.declared.config.ProcessConfig.{ProcessConfig}
use Rattle.pg_node_process.specs.declared.passing.PassFault.TheVariants.{Output}
use Rattle.pg_process.specs.Faults.{end_number_of}
use Rattle.pg_process.specs.declared.fault.BeginFault.TheVariants.{BadConfig}
use Rattle.pg_process.specs.declared.fault.EndFault.{EndFault}
use Rattle.pg_process.specs.declared.fault.EndFault.TheVariants.{Begin, Pass}
use Rattle.pg_program.specs.CommandLine.{texts_of}
use Rattle.pg_program.specs.Services.{CantSpell, is_too_long}
use Rattle.pg_program.specs.declared.fault.Fault.{Fault}
use Rattle.pg_program.specs.declared.fault.Fault.TheVariants.{Run, Given}
use Rattle.pg_program.specs.declared.words.Seat.{Seat}

-- ---- the config

-- the names of a seat
abbrev pub seat_names : Seat → List (List ℕ)
seat_names seat = seat.own.now ∷ texts_of seat.peers.items

-- a name of a seat is too long
abbrev pub is_unspelled : Seat → Bool
is_unspelled seat = list_any is_too_long (seat_names seat)

-- the config has just the names, numbers, label and flag of the seat
pub record IsConfigOf (seat : Seat) (config : ProcessConfig) : Type 0 where
  pub own : config.own ≡ chars seat.own.now
  pub peers : config.peers.items ≡ map chars (texts_of seat.peers.items)
  pub ports : config.ports ≡ seat.ports
  pub made : config.made ≡ seat.made
  pub label : config.label.items ≡ seat.label.now
  pub mirrored : config.mirrored ≡ seat.is_mirrored

-- what a seat says: a config; or there was no memory, or a name is too long, by 6
abbrev pub SeatSays : Seat → Result ProcessConfig Fault → Type 0
SeatSays seat (Ok config) = IsConfigOf seat config × (is_unspelled seat ≡ false)
SeatSays seat (Err fault) = CantSpell (is_unspelled seat) fault

-- what a config comes to: it is valid; or it is refused by 15
abbrev pub IsChecked : ProcessConfig → Result ProcessConfig Fault → Type 0
IsChecked config (Ok checked) = (checked ≡ config) × (is_config config ≡ true)
IsChecked config (Err fault) = (fault ≡ Given 15) × (is_config config ≡ false)

-- what a seat gives: the config that it says, which is valid; or why it gives none
abbrev pub SeatGives : Seat → Result ProcessConfig Fault → Type 0
SeatGives seat end = ((config : ProcessConfig) × SeatSays seat (Ok config) × IsChecked config end) ⊎ ((fault : Fault) × SeatSays seat (Err fault) × (end ≡ Err fault))

-- ---- the log

-- a new file of that name was made, or none where none is named; or it could not be made
abbrev pub BeginsLog : {L : Type 0} → (L → List ℕ → L → Type 0) → (L → L → Type 0) → Option (Bor (List ℕ)) → L → L → Result (Unit {0}) Fault → Type 0
BeginsLog made unmade None old new end = (new ≡ old) × (end ≡ Ok tt)
BeginsLog made unmade (Some name) old new (Ok done) = made old name.now new
BeginsLog made unmade (Some name) old new (Err fault) = unmade old new × (fault ≡ Run 32)

-- ---- how it ends

-- the version that the program says
abbrev pub version : List ℕ
version = codes "of Zulayefi"

-- How a process ended, for the program; false: what its host reads is gone, which is told by the status alone.
abbrev pub end_of_node : Result (Unit {0}) EndFault → Result Bool Fault
end_of_node (Ok done) = Ok true
end_of_node (Err (Pass Output)) = Ok false
end_of_node (Err (Begin BadConfig)) = Err (Given 15)
end_of_node (Err fault) = Err (Run (end_number_of fault))

-- S says how a process of a config and a version went, from a source, a sink and a log to others, and by which result.
module _ {R W L : Type 0} (S : ProcessConfig → List ℕ → R → R → W → W → L → L → Result (Unit {0}) EndFault → Type 0)
    (made : L → List ℕ → L → Type 0) (unmade : L → L → Type 0) where
  -- the log began, and the process went so
  pub record WentLogged (config : ProcessConfig) (file : Option (Bor (List ℕ))) (r0 r1 : R) (w0 w1 : W) (l0 l1 : L) (end : Result Bool Fault) : Type 0 where
    pub log : L
    pub begins : BeginsLog made unmade file l0 log (Ok tt)
    pub result : Result (Unit {0}) EndFault
    pub serves : S config version r0 r1 w0 w1 log l1 result
    pub is : end ≡ end_of_node result

  -- the same; or the log could not be made, and nothing was read or written
  abbrev pub ServesLogged : ProcessConfig → Option (Bor (List ℕ)) → R → R → W → W → L → L → Result Bool Fault → Type 0
  ServesLogged config file r0 r1 w0 w1 l0 l1 end =
      WentLogged config file r0 r1 w0 w1 l0 l1 end
      ⊎ ((fault : Fault) × BeginsLog made unmade file l0 l1 (Err fault) × (r1 ≡ r0) × (w1 ≡ w0) × (end ≡ Err fault))

  -- A seat is served by the config that it gives; or it gives none, and nothing was read, written or made.
  abbrev pub ServesSeat : Seat → R → R → W → W → L → L → Result Bool Fault → Type 0
  ServesSeat seat r0 r1 w0 w1 l0 l1 end =
      ((config : ProcessConfig) × SeatGives seat (Ok config) × ServesLogged config seat.log r0 r1 w0 w1 l0 l1 end)
      ⊎ ((fault : Fault) × SeatGives seat (Err fault) × (r1 ≡ r0) × (w1 ≡ w0) × (l1 ≡ l0) × (end ≡ Err fault))

-- a node was asked for so, and ended so
pub record WasSeated (IsAsked : Seat → Type 0) (E : Seat → Result Bool Fault → Type 0) (end : Result Bool Fault) : Type 0 where
  pub seat : Seat
  pub asked : IsAsked seat
  pub ends : E seat end
