-- What a call that can refuse answers, but for running out of memory.
use Rattle.std.specs.Prelude.{◌≡◌, ℕ, List, length, nat_lt, Result, Ok, Err, if◌then◌else◌}
use Rattle.pg_term.specs.declared.fault.TermFault.{TermFault}
use Rattle.pg_term.specs.declared.fault.TermFault.TheVariants.{Truncated, BadVersion, UnknownTag, TooDeep}
use Rattle.pg_term.specs.declared.fault.TermFault.TheVariants.{IntegerTooLarge, BadAtom, ImproperList}
use Rattle.pg_term.specs.declared.fault.TermFault.TheVariants.{BadReference, TrailingBytes, OutOfMemory, TooLong}

-- a fault is what the definition says, or memory ran out
abbrev pub Fails : {Y : Type 0} → TermFault → Result Y TermFault → Type 0
Fails OutOfMemory read = Unit {0}
Fails e read = read ≡ Err e

abbrev pub Gives : {X Y : Type 0} → (X → Y) → Result X TermFault → Result Y TermFault → Type 0
Gives view (Ok x) read = read ≡ Ok (view x)
Gives view (Err e) read = Fails e read

-- an atom has at most 255 characters
abbrev pub checked_atom : List ℕ → Result (List ℕ) TermFault
checked_atom cs = if nat_lt 255 (length cs) then Err BadAtom else Ok cs

-- the number of a fault in the one list of faults
abbrev pub number_of : TermFault → ℕ
number_of Truncated = 1
number_of BadVersion = 2
number_of UnknownTag = 3
number_of TooDeep = 4
number_of IntegerTooLarge = 5
number_of BadAtom = 6
number_of ImproperList = 7
number_of BadReference = 8
number_of TrailingBytes = 9
number_of OutOfMemory = 10
number_of TooLong = 11
