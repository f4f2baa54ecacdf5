-- The frames of a list of bytes.
use Rattle.std.specs.Prelude.{Bool, true, false, ℕ, zero, suc, ◌+◌, ◌≡◌, ◌<◌, ◌≤◌, ◌⊎◌, nat_lt, if◌then◌else◌}
use Rattle.std.specs.Prelude.{List, [], ◌∷◌, ◌++◌, length, take, drop, Option, Some, None, Result, Ok, Err}
use Rattle.std.specs.List.{AllByRecursion, flat_map}
use Rattle.std.specs.Int.{w32, to_be_bytes, from_be_bytes}
use Rattle.std.specs.Option.{option_copied}
use Rattle.std.specs.Borrow.{Bor}
use Rattle.pg_frame.specs.declared.fault.TooLong.{TooLong}
use Rattle.pg_frame.specs.Limits.{max_body}

-- each number is a byte
abbrev pub IsBytes : List ℕ → Type 0
IsBytes bytes = AllByRecursion (λ byte. byte < 256) bytes

-- the one value of the fault
abbrev pub too_long : TooLong
too_long = record {}

-- what a frame may hold
abbrev pub IsBody : List ℕ → Type 0
IsBody body = length body ≤ max_body

-- four bytes of length, the highest first, and that many bytes
unfoldable pub frame : List ℕ → List ℕ
frame body = to_be_bytes w32 (length body) ++ body

-- the number in the four bytes that stand in the place of a length
unfoldable pub size_at : List ℕ → ℕ
size_at bytes = from_be_bytes w32 (take 4 bytes)

-- the length is there, and is lawful, and the body is cut off
pub record IsWithinBody (rest : List ℕ) : Type 0 where
  pub has_length : 4 ≤ length rest
  pub lawful : size_at rest ≤ max_body
  pub short : length rest < 4 + size_at rest

-- it ends before its first frame is whole
abbrev pub IsOpen : List ℕ → Type 0
IsOpen rest = (length rest < 4) ⊎ IsWithinBody rest

-- it begins with the length of no frame
pub record IsOverlong (rest : List ℕ) : Type 0 where
  pub has_length : 4 ≤ length rest
  pub unlawful : max_body < size_at rest

-- the bytes are these whole frames, one after another, and a rest that begins with none
pub record Frames (bytes : List ℕ) (bodies : List (List ℕ)) (rest : List ℕ) : Type 0 where
  pub whole : bytes ≡ flat_map frame bodies ++ rest
  pub each : AllByRecursion IsBody bodies
  pub cut : IsOpen rest ⊎ IsOverlong rest

-- the body of the frame that the bytes begin with
unfoldable pub front_of : List ℕ → Result (Option (List ℕ)) TooLong
front_of bytes =
    if nat_lt (length bytes) 4 then Ok None
    else if nat_lt max_body (size_at bytes) then Err too_long
    else if nat_lt (length bytes) (4 + size_at bytes) then Ok None
    else Ok (Some (take (size_at bytes) (drop 4 bytes)))

-- what `front` answers, its slice as a list
abbrev pub contents : Result (Option (Bor (List ℕ))) TooLong → Result (Option (List ℕ)) TooLong
contents (Ok body) = Ok (option_copied body)
contents (Err fault) = Err fault

-- what `next` answers: whether there is such a body
abbrev pub has_frame : Result (Option (List ℕ)) TooLong → Result Bool TooLong
has_frame (Ok (Some body)) = Ok true
has_frame (Ok None) = Ok false
has_frame (Err fault) = Err fault

-- the bytes behind a frame with this body
abbrev pub behind : List ℕ → List ℕ → List ℕ
behind body bytes = drop (4 + length body) bytes

-- what a whole first frame leads to, and what there is without one
abbrev pub on_front : {X : Type 0} → Result (Option (List ℕ)) TooLong → (List ℕ → X) → X → X
on_front (Ok (Some body)) found none = found body
on_front (Ok None) found none = none
on_front (Err fault) found none = none

-- what is left once the first frame is taken out, if there is a whole one
unfoldable pub after_front : List ℕ → List ℕ
after_front bytes = on_front (front_of bytes) (λ body. behind body bytes) bytes

-- the bodies of the first n frames, or of as many as there are
unfoldable pub first_bodies : ℕ → List ℕ → List (List ℕ)
first_bodies zero bytes = []
first_bodies (suc n) bytes = on_front (front_of bytes) (λ body. body ∷ first_bodies n (behind body bytes)) []

-- the bytes behind the first n frames, or behind as many as there are
unfoldable pub behind_first : ℕ → List ℕ → List ℕ
behind_first zero bytes = bytes
behind_first (suc n) bytes = on_front (front_of bytes) (λ body. behind_first n (behind body bytes)) bytes

-- the bodies of all whole frames, of which there are fewer than bytes
unfoldable pub bodies_of : List ℕ → List (List ℕ)
bodies_of bytes = first_bodies (length bytes) bytes

-- the bytes behind all whole frames
unfoldable pub rest_of : List ℕ → List ℕ
rest_of bytes = behind_first (length bytes) bytes

-- once `taken` are taken out of the bytes `all`, `unread` is left
pub record Leaves (all : List ℕ) (taken : List (List ℕ)) (unread : List ℕ) : Type 0 where
  pub bodies : bodies_of all ≡ taken ++ bodies_of unread
  pub rest : rest_of all ≡ rest_of unread
