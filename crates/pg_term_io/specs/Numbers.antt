-- The numbers that bytes stand for.
use Rattle.std.specs.Prelude.{ℕ, zero, suc, ◌+◌, ◌*◌, ℤ, pos, neg_ℤ, List, [], ◌∷◌}
use Rattle.pg_term.specs.declared.term.Term.{Term}
use Rattle.pg_term.specs.declared.term.Term.TheVariants.{Int}

-- an integer from 0 on, as a term
abbrev pub int_of : ℕ → Term
int_of n = Int (pos n)

-- SMALL_BIG_EXT: "B = 256; (d0*B^0 + d1*B^1 + d2*B^2 + ... d(N-1)*B^(N-1))", the least significant digit first
unfoldable pub little_endian : List ℕ → ℕ
little_endian [] = 0
little_endian (digit ∷ digits) = digit + 256 * little_endian digits

-- a number with its sign byte: 0 if it is positive; each other byte is read as minus, where Erlang has 1 alone
abbrev pub with_sign : ℕ → ℕ → ℤ
with_sign zero n = pos n
with_sign (suc sign) n = neg_ℤ (pos n)

abbrev pub big_value : ℕ → List ℕ → ℤ
big_value sign digits = with_sign sign (little_endian digits)
