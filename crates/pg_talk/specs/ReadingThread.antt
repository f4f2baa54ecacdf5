-- The thread that reads, and what it gave on so far.
use Rattle.std.specs.Prelude.{◌≡◌, ◌⊎◌, ℕ, Bool, true, false, List, ◌++◌, Option, Some, None, Ok, Err}
use Rattle.std.specs.Io.KnownBytes.{Consumes}
use Rattle.pg_term.specs.declared.faults.TheConstants.{OUT_OF_MEMORY, TOO_LONG}
use Rattle.pg_cluster.specs.PgFrame.declared.fault.TooLong.{TooLong}
use Rattle.pg_cluster.specs.PgFrame.Frames.{after_front, bodies_of, front_of, rest_of}
use Rattle.pg_cluster.specs.PgRing.Slots.{SameSlotOut, given}
use Rattle.pg_node_requests.specs.declared.input.Input.{Input}
use Rattle.pg_node_requests.specs.declared.input.Input.TheVariants as forms
use Rattle.pg_node_requests.specs.declared.layout.NodePorts.{NodePorts}
use Rattle.pg_talk.specs.declared.service.reading.Reading.{Reading}
use Rattle.pg_talk.specs.Readings.{AreReadOn, body_input, inputs_of}

-- whether an input is broken
abbrev pub breaks : Input → Bool
breaks (forms.Ask client command) = false
breaks (forms.Lose node) = false
breaks forms.Bad = false
breaks forms.End = false
breaks (forms.Broken number) = true

-- what a body is, unless memory runs out
abbrev pub IsAsked : List NodePorts → List ℕ → Input → Type 0
IsAsked nodes body input = (input ≡ body_input nodes body) ⊎ (input ≡ forms.Broken OUT_OF_MEMORY)

-- the first frame of the unread bytes is taken out, and this is its input; or they begin with a frame that is too long
abbrev pub TakesFront : List NodePorts → List ℕ → List ℕ → Input → Type 0
TakesFront nodes unread unread2 input =
    ((body : List ℕ) × (front_of unread ≡ Ok (Some body)) × (unread2 ≡ after_front unread) × IsAsked nodes body input)
    ⊎ ((fault : TooLong) × (front_of unread ≡ Err fault) × (input ≡ forms.Broken TOO_LONG))

-- No whole frame is unread, unless no more is wanted.
abbrev pub IsWaiting : ℕ → List ℕ → Type 0
IsWaiting wanted unread = (wanted ≡ 0) ⊎ (front_of unread ≡ Ok None)

-- Bytes were taken from a source. Of those that were unread, these, and all that may follow, some bodies were taken, and the rest is unread. Their inputs were given on, in order.
pub record ReadsOn (nodes : List NodePorts) (before after : Option (List ℕ)) (unread unread2 : List ℕ) (wanted wanted2 : ℕ) (gave gave2 : List Input) : Type 0 where
  pub bytes : List ℕ
  pub consumed : Consumes before after bytes
  pub taken : List (List ℕ)
  pub bodies : (further : List ℕ) → bodies_of (unread ++ (bytes ++ further)) ≡ taken ++ bodies_of (unread2 ++ further)
  pub rest : (further : List ℕ) → rest_of (unread ++ (bytes ++ further)) ≡ rest_of (unread2 ++ further)
  pub inputs : List Input
  pub asked : (others : List (List ℕ)) (last : Input) → inputs_of nodes wanted (taken ++ others) last ≡ inputs ++ inputs_of nodes wanted2 others last
  pub more : gave2 ≡ gave ++ inputs

module _ {S : Type 0} (remaining : S → Option (List ℕ)) (fails : S → S → Type 0) where
  -- it read on
  pub record GoesOn (a b : Reading S) : Type 0 where
    pub layout : b.layout ≡ a.layout
    pub same : SameSlotOut a.out b.out
    pub reads : ReadsOn a.layout.nodes.items (remaining a.source) (remaining b.source) a.deframer.unread b.deframer.unread a.requests b.requests (given a.out) (given b.out)

  -- it read to the end: what it gave on is what is read, or the first of it, where nobody takes the others
  pub record EndsAt (a b : Reading S) : Type 0 where
    pub same : SameSlotOut a.out b.out
    pub inputs : List Input
    pub further : List Input
    pub read : AreReadOn remaining fails a.layout.nodes.items a.requests (remaining a.source) a.deframer.unread (inputs ++ further)
    pub more : given b.out ≡ given a.out ++ inputs
