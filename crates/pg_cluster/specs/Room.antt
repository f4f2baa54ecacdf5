-- Room for what the threads give back.
use Rattle.std.specs.Prelude.{◌≡◌, ℕ, ◌≤◌, vec_len, vec_capacity}
use Rattle.pg_cluster.specs.declared.closing.Room.{Room}

-- nothing is in it, and so many nodes with so many ports need no memory
pub record HasClosingRoom (room : Room) (count places : ℕ) : Type 0 where
  pub nodes : (vec_len room.nodes ≡ 0) × (count ≤ vec_capacity room.nodes)
  pub rows : (vec_len room.rows ≡ 0) × (count ≤ vec_capacity room.rows)
  pub logs : (vec_len room.logs ≡ 0) × (count ≤ vec_capacity room.logs)
  pub turns : (vec_len room.turns ≡ 0) × (count ≤ vec_capacity room.turns)
  pub ports : (vec_len room.ports ≡ 0) × (places ≤ vec_capacity room.ports)
  pub notices : (vec_len room.notices ≡ 0) × (count ≤ vec_capacity room.notices)
