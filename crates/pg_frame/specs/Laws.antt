-- What holds of all frames. A function of src/laws.rt is proved to meet each record.
use Rattle.std.specs.Prelude.{ℕ, ◌+◌, ◌≡◌, ◌≢◌, ◌≤◌, ◌↔◌, ◌⊎◌, List, [], ◌∷◌, ◌++◌, length, drop, Some, None, Ok, Err}
use Rattle.std.specs.List.{AllByRecursion, flat_map}
use Rattle.pg_frame.specs.Frames.{IsBytes, IsBody, IsOpen, IsOverlong, Frames, Leaves, frame}
use Rattle.pg_frame.specs.Frames.{too_long, front_of, behind, after_front, bodies_of, rest_of}

-- Bytes have one reading, and `bodies_of` and `rest_of` compute it.
pub record OneReading : Type 0 where
  pub found : (bytes : List ℕ) → IsBytes bytes → Frames bytes (bodies_of bytes) (rest_of bytes)
  pub only : (bytes : List ℕ) (bodies : List (List ℕ)) (rest : List ℕ) → Frames bytes bodies rest → (bodies ≡ bodies_of bytes) × (rest ≡ rest_of bytes)

-- A rest is what begins with no whole frame, and it is open or overlong, never both.
pub record RestBeginsNoFrame : Type 0 where
  pub no_frame : (rest body after : List ℕ) → IsOpen rest ⊎ IsOverlong rest → IsBody body → rest ≢ frame body ++ after
  pub either : (rest : List ℕ) → IsBytes rest → ((body after : List ℕ) → IsBody body → rest ≢ frame body ++ after) → IsOpen rest ⊎ IsOverlong rest
  pub apart : (rest : List ℕ) → IsOpen rest → IsOverlong rest → ⊥

-- More bytes add bodies and take none away: what comes is read behind the rest.
pub record PiecesContinue : Type 0 where
  pub prefix : (bytes piece : List ℕ) (bodies others : List (List ℕ)) (rest other : List ℕ) → Frames bytes bodies rest → Frames (bytes ++ piece) others other
      → (added : List (List ℕ)) × (others ≡ bodies ++ added)
  pub bodies : (bytes piece : List ℕ) → bodies_of (bytes ++ piece) ≡ bodies_of bytes ++ bodies_of (rest_of bytes ++ piece)
  pub rest : (bytes piece : List ℕ) → rest_of (bytes ++ piece) ≡ rest_of (rest_of bytes ++ piece)
  pub front : (bytes piece body : List ℕ) → front_of bytes ≡ Ok (Some body) → front_of (bytes ++ piece) ≡ Ok (Some body)
  pub behind : (bytes piece body : List ℕ) → front_of bytes ≡ Ok (Some body) → behind body (bytes ++ piece) ≡ behind body bytes ++ piece
  pub overlong : (bytes piece : List ℕ) → front_of bytes ≡ Err too_long → front_of (bytes ++ piece) ≡ Err too_long

-- Behind an overlong rest no body comes any more.
pub record OverlongStays : Type 0 where
  pub bodies : (bytes piece : List ℕ) → IsOverlong (rest_of bytes) → bodies_of (bytes ++ piece) ≡ bodies_of bytes
  pub rest : (bytes piece : List ℕ) → IsOverlong (rest_of bytes) → rest_of (bytes ++ piece) ≡ rest_of bytes ++ piece
  pub overlong : (bytes piece : List ℕ) → IsOverlong (rest_of bytes) → IsOverlong (rest_of (bytes ++ piece))

-- The front is the first body; without one the rest says why.
pub record FrontIsFirst : Type 0 where
  pub first : (bytes body : List ℕ) → front_of bytes ≡ Ok (Some body) → bodies_of bytes ≡ body ∷ bodies_of (behind body bytes)
  pub again : (bytes body : List ℕ) (bodies : List (List ℕ)) → bodies_of bytes ≡ body ∷ bodies → front_of bytes ≡ Ok (Some body)
  pub open_rest : (bytes : List ℕ) → (front_of bytes ≡ Ok None) ↔ ((bodies_of bytes ≡ []) × IsOpen (rest_of bytes))
  pub overlong_rest : (bytes : List ℕ) → (front_of bytes ≡ Err too_long) ↔ ((bodies_of bytes ≡ []) × IsOverlong (rest_of bytes))

-- The first frame lies at the front of the bytes.
pub record FrontIsFrame : Type 0 where
  pub lawful : (bytes body : List ℕ) → front_of bytes ≡ Ok (Some body) → IsBody body
  pub within : (bytes body : List ℕ) → front_of bytes ≡ Ok (Some body) → 4 + length body ≤ length bytes
  pub frame : (bytes body : List ℕ) → IsBytes bytes → front_of bytes ≡ Ok (Some body) → bytes ≡ frame body ++ behind body bytes
  pub none : (bytes : List ℕ) → bodies_of bytes ≡ [] → rest_of bytes ≡ bytes

-- What is left once the first frame is taken has the other bodies, and the same rest.
pub record TakingLeavesOthers : Type 0 where
  pub whole : (bytes body : List ℕ) → front_of bytes ≡ Ok (Some body) → after_front bytes ≡ behind body bytes
  pub bodies : (bytes : List ℕ) → bodies_of (after_front bytes) ≡ drop 1 (bodies_of bytes)
  pub rest : (bytes : List ℕ) → rest_of (after_front bytes) ≡ rest_of bytes

-- What is written is read again, whatever follows it.
pub record WrittenIsRead : Type 0 where
  pub nothing : (front_of [] ≡ Ok None) × (bodies_of [] ≡ []) × (rest_of [] ≡ [])
  pub length_frame : (body : List ℕ) → length (frame body) ≡ 4 + length body
  pub front : (body after : List ℕ) → IsBody body → front_of (frame body ++ after) ≡ Ok (Some body)
  pub behind : (body after : List ℕ) → IsBody body → behind body (frame body ++ after) ≡ after
  pub bodies : (bodies : List (List ℕ)) (after : List ℕ) → AllByRecursion IsBody bodies → bodies_of (flat_map frame bodies ++ after) ≡ bodies ++ bodies_of after
  pub rest : (bodies : List (List ℕ)) (after : List ℕ) → AllByRecursion IsBody bodies → rest_of (flat_map frame bodies ++ after) ≡ rest_of after

-- What a loop that feeds pieces and takes frames keeps, and what it has when no frame is left.
pub record LoopKeeps : Type 0 where
  pub start : (bytes : List ℕ) → Leaves bytes [] bytes
  pub feeds : (all unread piece : List ℕ) (taken : List (List ℕ)) → Leaves all taken unread → Leaves (all ++ piece) taken (unread ++ piece)
  pub takes : (all unread body : List ℕ) (taken : List (List ℕ)) → Leaves all taken unread → front_of unread ≡ Ok (Some body) → Leaves all (taken ++ body ∷ []) (after_front unread)
  pub waits : (all unread : List ℕ) (taken : List (List ℕ)) → Leaves all taken unread → front_of unread ≡ Ok None → (taken ≡ bodies_of all) × (unread ≡ rest_of all) × IsOpen unread
  pub stops : (all unread : List ℕ) (taken : List (List ℕ)) → Leaves all taken unread → front_of unread ≡ Err too_long → (taken ≡ bodies_of all) × (unread ≡ rest_of all) × IsOverlong unread
