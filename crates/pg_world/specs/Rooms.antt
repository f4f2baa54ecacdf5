-- How much room the rings of a node have.
use Rattle.std.specs.Prelude.{◌≡◌, ℕ}
use Rattle.std.specs.List.{All}
use Rattle.pg_world.specs.declared.rings.Rings.{Rings}

-- each ring of a node has room for so many bytes
abbrev pub HaveRoomFor : ℕ → Rings → Type 0
HaveRoomFor capacity row = All (λ ring. ring.capacity ≡ capacity) row.rings.items
