-- The requests of one port.
use Rattle.std.specs.Prelude.{◌≡◌, ◌≢◌, ◌⊎◌, ◌<◌, ◌≤◌, ◌+◌, ◌-◌, ◌^◌, ℕ, zero, suc, min, List, [], ◌∷◌, ◌++◌, Option, Some, None, option_to_list, drop, length, sum_by, nat_lt, if◌then◌else◌}
use Rattle.std.specs.VecDeque.{deque_capacity}
use Rattle.pg_step.specs.declared.command.Command.{Command}
use Rattle.pg_node_process.specs.declared.desk.Desk.{Desk}
use Rattle.pg_node_process.specs.declared.desk.Numbered.{Numbered}
use Rattle.pg_node_process.specs.declared.desk.Taken.{Taken}
use Rattle.pg_node_process.specs.declared.desk.Taken.TheVariants.{Waits, Full}

-- how many requests came, the changes that wait for their turn, and the change that is with the node
pub record Port : Type 0 where
  pub came : ℕ
  pub waiting : List Numbered
  pub current : Option Numbered

abbrev pub port_of : Desk → Port
port_of desk = record { came = desk.came; waiting = desk.waiting.items; current = desk.current }

-- how many changes may wait without further memory
abbrev pub room_of : Desk → ℕ
room_of desk = deque_capacity desk.waiting

abbrev pub HasRoom : Desk → Type 0
HasRoom desk = length desk.waiting.items < room_of desk

abbrev pub nothing_came : Port
nothing_came = record { came = 0; waiting = []; current = None }

-- the number of the next request, which 64 bits hold
abbrev pub next_number : Port → ℕ
next_number port = min (port.came + 1) (2 ^ 64 - 1)

-- one request more came
abbrev pub counted : Port → Port
counted port = record port { came = next_number port }

-- it is a change, and waits
abbrev pub with_waiting : Port → Command → Port
with_waiting port command = record (counted port) { waiting = port.waiting ++ record { number = next_number port; command = command } ∷ [] }

-- A change waits where fewer than 1,024 do, and else is only counted.
abbrev pub TakesIn : Command → Port → Taken → Port → Type 0
TakesIn command old Waits new = (length old.waiting < 1024) × (new ≡ with_waiting old command)
TakesIn command old (Full number) new = (1024 ≤ length old.waiting) × (number ≡ next_number old) × (new ≡ counted old)

-- the first of some changes
abbrev pub first_of : List Numbered → Option Numbered
first_of [] = None
first_of (change ∷ changes) = Some change

-- None was with the node, and the change that waited for longest is.
pub record HandsOver (old new : Port) : Type 0 where
  pub change : Numbered
  pub none : old.current ≡ None
  pub was : old.waiting ≡ change ∷ new.waiting
  pub current : new.current ≡ Some change
  pub came : new.came ≡ old.came

-- A change is with the node, or none waits; and nothing is handed over.
pub record Rests (old new : Port) : Type 0 where
  pub why : (old.current ≢ None) ⊎ (old.waiting ≡ [])
  pub same : new ≡ old

-- the change that was with the node is no more
abbrev pub with_answer : Port → Port
with_answer port = record port { current = None }

-- ---- one after another

-- what happens at a port: a query comes, a change comes, the next change is handed over, the one that is with the node is answered
pub data Happening : Type 0 where
  Asked : Happening
  Changing : Command → Happening
  Handed : Happening
  Answered : Happening

-- what a port hands over: the change that waits for longest, where none is with the node
abbrev pub handed_by : Option Numbered → List Numbered → Option Numbered
handed_by None waiting = first_of waiting
handed_by (Some current) waiting = None

abbrev pub rest_by : Option Numbered → Port → Port
rest_by None port = port
rest_by (Some change) port = record port { waiting = drop 1 port.waiting; current = Some change }

-- the port after it
abbrev pub port_after : Port → Happening → Port
port_after port Asked = counted port
port_after port (Changing command) = if nat_lt (length port.waiting) 1024 then with_waiting port command else counted port
port_after port Handed = rest_by (handed_by port.current port.waiting) port
port_after port Answered = with_answer port

-- the change that waits for its turn because of it, and the one that is handed over
abbrev pub let_in : Port → Happening → List Numbered
let_in port (Changing command) = if nat_lt (length port.waiting) 1024 then record { number = next_number port; command = command } ∷ [] else []
let_in port happening = []

abbrev pub let_out : Port → Happening → List Numbered
let_out port Handed = option_to_list (handed_by port.current port.waiting)
let_out port happening = []

-- the same of all that happens, one after another
abbrev pub port_at_last : Port → List Happening → Port
port_at_last port [] = port
port_at_last port (happening ∷ later) = port_at_last (port_after port happening) later

abbrev pub all_in : Port → List Happening → List Numbered
all_in port [] = []
all_in port (happening ∷ later) = let_in port happening ++ all_in (port_after port happening) later

abbrev pub all_out : Port → List Happening → List Numbered
all_out port [] = []
all_out port (happening ∷ later) = let_out port happening ++ all_out (port_after port happening) later

-- the number that a request gets
abbrev pub numbered_by : Port → Happening → List ℕ
numbered_by port Asked = next_number port ∷ []
numbered_by port (Changing command) = next_number port ∷ []
numbered_by port Handed = []
numbered_by port Answered = []

abbrev pub all_numbers : Port → List Happening → List ℕ
all_numbers port [] = []
all_numbers port (happening ∷ later) = numbered_by port happening ++ all_numbers (port_after port happening) later

-- so many numbers, behind those up to one
abbrev pub numbers_behind : ℕ → ℕ → List ℕ
numbers_behind last zero = []
numbers_behind last (suc n) = (last + 1) ∷ numbers_behind (last + 1) n

-- how many requests come
abbrev pub requests_by : Happening → ℕ
requests_by Asked = 1
requests_by (Changing command) = 1
requests_by Handed = 0
requests_by Answered = 0

abbrev pub requests_in : List Happening → ℕ
requests_in happenings = sum_by requests_by happenings

-- Changes are handed over in the order in which they came, none twice, and none is lost: those that were handed over, then those that wait, are those that were let in. At most
-- 1,024 wait. So many requests came as were counted, and while 64 bits hold that each has the number of its place: 1, 2, and so on.
pub record ChangesInTurn (happenings : List Happening) : Type 0 where
  pub order : all_out nothing_came happenings ++ (port_at_last nothing_came happenings).waiting ≡ all_in nothing_came happenings
  pub few : length (port_at_last nothing_came happenings).waiting ≤ 1024
  pub counted : (port_at_last nothing_came happenings).came ≡ min (requests_in happenings) (2 ^ 64 - 1)
  pub numbers : requests_in happenings < 2 ^ 64 → all_numbers nothing_came happenings ≡ numbers_behind 0 (requests_in happenings)
