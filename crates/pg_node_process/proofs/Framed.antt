-- How long a body of two parts is.
use Rattle.std.proofs.Common.{◌≡◌, ◌+◌, ℕ, List, [], ◌++◌, length, length-append, ap, arith}

-- the first part was put in an empty buffer, and then the other
pub two_parts : (cleared reserved first both head rest : List ℕ) → cleared ≡ [] → reserved ≡ cleared → first ≡ reserved ++ head → both ≡ first ++ rest → length both ≡ length head + length rest
two_parts cleared reserved first both head rest none kept one two =
    let empty : length cleared ≡ 0 = ap length none in
    omega (arith, empty, ap length kept, ap length one, ap length two, length-append reserved head, length-append first rest)
