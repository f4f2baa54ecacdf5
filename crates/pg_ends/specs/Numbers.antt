-- The numbers of a node's processes: 1, 2, .. in the order in which they are made.
use Rattle.std.specs.Prelude.{ℕ, zero, suc, Bool, ◌+◌, ◌*◌, ◌/◌, ◌%◌, List, [], ◌∷◌, ◌++◌, nat_le, nat_lt, nat_eq, ◌&&◌}
use Rattle.std.specs.List.{filter}
use Rattle.pg_term.specs.declared.pid.Pid.{Pid}

-- the pid of a process, by its node and its number: an ID of 15 bits, then the serial
abbrev pub pid_of : List ℕ → ℕ → Pid
pid_of node number = record { node = node; serial = number / 32768; id = number % 32768; creation = 1 }

-- the number of which a pid tells
abbrev pub number_in : Pid → ℕ
number_in pid = pid.serial * 32768 + pid.id

-- whether a pid of the node is that of one of its first processes
abbrev pub is_among : ℕ → Pid → Bool
is_among made pid = nat_eq pid.creation 1 && nat_lt pid.id 32768 && nat_le 1 (number_in pid) && nat_le (number_in pid) made

-- the pids of the first processes of a node, so many, in the order of their numbers
unfoldable pub first_pids : List ℕ → ℕ → List Pid
first_pids node zero = []
first_pids node (suc n) = first_pids node n ++ pid_of node (suc n) ∷ []

-- those of the first processes that have ended
abbrev pub ended_among : List ℕ → ℕ → (Pid → Bool) → List Pid
ended_among node made ended = filter ended (first_pids node made)
