-- Which numbers faults have.
use Rattle.std.specs.Prelude.{ℕ, List, [], ◌∷◌, ◌++◌, Bool, nat_eq}
use Rattle.std.specs.List.{list_any, range_with_len}

-- 1 to 34, and 40 to 42
abbrev pub fault_numbers : List ℕ
fault_numbers = range_with_len 1 34 ++ (40 ∷ 41 ∷ 42 ∷ [])

-- a fault has this number
abbrev pub is_fault : ℕ → Bool
is_fault number = list_any (λ known. nat_eq known number) fault_numbers
