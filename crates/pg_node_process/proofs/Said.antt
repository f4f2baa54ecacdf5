-- A body that was framed fits, and one that was not lacks room.
use Rattle.std.proofs.Common.{◌≡◌, ◌≤◌, ◌<◌, ◌⊎◌, ◌∙◌, ℕ, List, length, Result, Ok, Err, inl, inr, sym, arith}
use Rattle.std.proofs.lemmas.Bool.{cases_lt}
use Rattle.std.specs.Prelude.{IsErrOf, ◌↔◌}
use Rattle.pg_frame.specs.Frames.{frame}
use Rattle.pg_frame.specs.Limits.{max_body}
use Rattle.pg_frame.specs.declared.fault.FrameFault.{FrameFault}
use Rattle.pg_frame.specs.declared.fault.FrameFault.TheVariants.{OutOfMemory, TooLong}

pub fits_framed : (r : Result (Unit {0}) FrameFault) (done : Unit {0}) (body : List ℕ) → r ≡ Ok done → (IsErrOf r TooLong ↔ (max_body < length body)) → length body ≤ max_body
fits_framed r done body is told = go (cases_lt max_body (length body))
  where
    go : (max_body < length body) ⊎ (length body ≤ max_body) → length body ≤ max_body
    go (inl long) =
        let never : Ok done ≡ Err TooLong = sym is ∙ told.1 long in
        absurd (cc)
    go (inr short) = short

pub lacks_room : (r : Result (Unit {0}) FrameFault) (fault : FrameFault) (body : List ℕ) (spare : ℕ) → r ≡ Err fault → (IsErrOf r TooLong ↔ (max_body < length body))
    → (IsErrOf r OutOfMemory → spare < length (frame body)) → length body ≤ max_body → spare < length (frame body)
lacks_room r TooLong body spare is told memory fits = let never : ⊥ = omega (arith, told.0 is, fits) in absurd never
lacks_room r OutOfMemory body spare is told memory fits = memory is
