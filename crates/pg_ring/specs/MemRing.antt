-- What a clause sees of a `MemRing`.
use Rattle.std.specs.Prelude.{◌≡◌, ℕ, ◌-◌, List, ◌++◌, length, min, refl}
use Rattle.std.specs.Coded.{Coded, code_by, coded×, coded_list, coded_ℕ}

-- the bytes that were put and not yet taken, and how many there may be
pub record RingBytes : Type 0 where
  pub unread : List ℕ
  pub capacity : ℕ

-- it is stored as the pair of its fields
abbrev pub ring_bytes_code : Coded RingBytes
ring_bytes_code =
    code_by (List ℕ × ℕ) (coded× (coded_list coded_ℕ) coded_ℕ) (λ r. (r.unread, r.capacity)) (λ p. record { unread = p.0; capacity = p.1 }) (λ _. refl)

-- for how many bytes there is room
abbrev pub free_room : RingBytes → ℕ
free_room r = r.capacity - length r.unread

-- the ring took in the bytes xs, behind those that were unread
pub record Grows (a : RingBytes) (xs : List ℕ) (b : RingBytes) : Type 0 where
  pub grown : b.unread ≡ a.unread ++ xs
  pub kept : b.capacity ≡ a.capacity

-- the ring gave the bytes xs, the first that were unread
pub record Loses (a : RingBytes) (xs : List ℕ) (b : RingBytes) : Type 0 where
  pub lost : a.unread ≡ xs ++ b.unread
  pub kept : b.capacity ≡ a.capacity

-- of so many bytes that are offered it takes in as many as there is room for
abbrev pub HasRoomFor : RingBytes → ℕ → ℕ → Type 0
HasRoomFor r offered count = count ≡ min offered (free_room r)

-- where so many bytes are asked for it gives as many as are unread
abbrev pub HasUnread : RingBytes → ℕ → ℕ → Type 0
HasUnread r asked count = count ≡ min asked (length r.unread)
