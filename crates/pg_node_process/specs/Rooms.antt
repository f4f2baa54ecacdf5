-- Room for what is gathered, within which it takes no memory.
use Rattle.std.specs.Prelude.{ℕ, ◌≤◌, ◌+◌, length, Result, MatchResult}
use Rattle.pg_node_process.specs.declared.outlet.Outlet.{Outlet}

-- how many bytes a body may take that is put together before it is framed
abbrev pub body_room : Outlet → ℕ
body_room outlet = length outlet.body.items + outlet.body.spare

-- there is room for a body of so many bytes, and for its frame
abbrev pub HasRoomFor : Outlet → ℕ → Type 0
HasRoomFor outlet len = (len ≤ body_room outlet) × (4 + len ≤ outlet.gathered.spare)

-- so many bytes take no more room than their number, and what is not added takes none
abbrev pub TakesRoom : {T E : Type 0} → Result T E → ℕ → ℕ → ℕ → Type 0
TakesRoom result old new len = MatchResult result (λ _. old ≤ new + len) (λ _. old ≤ new)

-- a body of so many bytes takes the room of its frame
abbrev pub KeepsRoom : {T E : Type 0} → Result T E → Outlet → Outlet → ℕ → Type 0
KeepsRoom result old new len = (body_room old ≤ body_room new) × TakesRoom result old.gathered.spare new.gathered.spare (4 + len)
