-- Places of nodes, and functions that are changed at a place.
use Rattle.std.specs.Prelude.{ℕ, Bool, not, ◌&&◌, nat_eq, nat_lt}
use Rattle.pg_group.specs.Functions.{upd}

-- one of so many places
abbrev pub is_place : ℕ → ℕ → Bool
is_place size i = nat_lt i size

-- two places, apart from each other: node i may take what node p sent
abbrev pub is_pair : ℕ → ℕ → ℕ → Bool
is_pair size i p = is_place size i && (is_place size p && not (nat_eq i p))

-- f with v at k
abbrev pub set_at : {A : Type 0} → (ℕ → A) → ℕ → A → ℕ → A
set_at f k v = upd nat_eq f k v

-- f with v from p to q
abbrev pub set_way : {A : Type 0} → (ℕ → ℕ → A) → ℕ → ℕ → A → ℕ → ℕ → A
set_way {A} f p q v = upd {A = ℕ → A} nat_eq f p (upd nat_eq (f p) q v)
