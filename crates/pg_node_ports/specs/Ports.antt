-- What is kept of ports, by their places.
use Rattle.std.specs.Prelude.{◌≡◌, ℕ, zero, suc, ◌+◌, ◌-◌, ◌^◌, ◌<◌, min, nat_eq, List, [], ◌∷◌, Some, slice_get, vec_len, vec_capacity}
use Rattle.pg_node_opens.specs.PgGroup.Functions.{upd}
use Rattle.pg_node_opens.specs.PgStep.declared.answer.Answer.{Answer}
use Rattle.pg_node_ports.specs.declared.port.Port.{Port}

-- for each port how many commands came in there
abbrev pub port_commands : List Port → ℕ → ℕ
port_commands [] port = 0
port_commands (p ∷ ports) zero = p.count
port_commands (p ∷ ports) (suc n) = port_commands ports n

-- the answers that were given at each port
abbrev pub answers_in : List Port → ℕ → List Answer
answers_in [] port = []
answers_in (p ∷ ports) zero = p.answers.items
answers_in (p ∷ ports) (suc n) = answers_in ports n

-- how many answers were forgotten at each port, which were the first that were given there
abbrev pub forgotten_in : List Port → ℕ → ℕ
forgotten_in [] port = 0
forgotten_in (p ∷ ports) zero = p.forgotten
forgotten_in (p ∷ ports) (suc n) = forgotten_in ports n

-- so many were forgotten, and then the first `count` of so many that were kept: a number of 64 bits, which stays at its greatest
abbrev pub forgotten_on : (forgotten count kept : ℕ) → ℕ
forgotten_on forgotten count kept = min (forgotten + min count kept) (2 ^ 64 - 1)

-- one more command came in at a port
abbrev pub counted_at : ℕ → (ℕ → ℕ) → ℕ → ℕ
counted_at port counts = upd nat_eq counts port (counts port + 1)

-- one more answer at a port needs no memory
abbrev pub HasRoomAt : List Port → ℕ → Type 0
HasRoomAt ports port = (p : Port) → slice_get ports port ≡ Some p → vec_len p.answers < vec_capacity p.answers
