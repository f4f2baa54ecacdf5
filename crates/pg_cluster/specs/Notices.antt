-- Which nodes of a cluster were lost, and what the others were told of it.
use Rattle.std.specs.Prelude.{◌≡◌, ◌≢◌, ◌<◌, ◌≤◌, ℕ, nat_eq, Bool, true, false}
use Rattle.std.specs.Prelude.{cond, List, [], ◌∷◌, ◌++◌, ◌+◌, get_or, length}
use Rattle.std.specs.List.{AllByRecursion}
use Rattle.pg_ring.specs.declared.slot_in.SlotIn.{SlotIn}
use Rattle.pg_ring.specs.declared.slot_out.SlotOut.{SlotOut}
use Rattle.pg_ring.specs.Slots.{AreSlots, SameSlotOut, given, slots_free, taken}
use Rattle.pg_cluster_judges.specs.PgNodeRun.declared.notices.Notice.{Notice}
use Rattle.pg_cluster_judges.specs.PgWorldPackets.Views.{peer_place}

-- nothing was told there
abbrev pub HasNoNotice : SlotOut Notice → Type 0
HasNoNotice teller = given teller ≡ []

-- there is room for a notice of each of 16 nodes
abbrev pub IsRoomy : SlotOut Notice → Type 0
IsRoomy teller = slots_free teller ≡ 16

-- the two ends of one ring, over which nothing went, with room for a notice of each node
abbrev pub IsFresh : SlotOut Notice → SlotIn Notice → Type 0
IsFresh teller inlet = AreSlots teller inlet × HasNoNotice teller × IsRoomy teller

-- what came is, in order, the first of what was told there
pub record Told (teller : SlotOut Notice) (inlet : SlotIn Notice) : Type 0 where
  pub on_the_way : List Notice
  pub is : given teller ≡ taken inlet ++ on_the_way

-- the same ends, in the same order
pub record SameTellers (a b : List (SlotOut Notice)) : Type 0 where
  pub len : length b ≡ length a
  pub each : (place : ℕ) (none : SlotOut Notice) → SameSlotOut (get_or a place none) (get_or b place none)

-- what the node at a place is told of the loss of another, whose clock was this at last; the lost one is told nothing
abbrev pub notice_for : (place node last : ℕ) → List Notice
notice_for place node last = cond (nat_eq place node) [] (record { peer = peer_place place node; last = last } ∷ [])

-- What the node at a place is told is the loss of another of so many nodes that is lost, with its clock at last.
pub record IsOfLost (size : ℕ) (lost : ℕ → Bool) (last : ℕ → ℕ) (place : ℕ) (notice : Notice) : Type 0 where
  pub node : ℕ
  pub there : node < size
  pub other : node ≢ place
  pub gone : lost node ≡ true
  pub peer : notice.peer ≡ peer_place place node
  pub clock : notice.last ≡ last node

-- All that the nodes were told is of those that were lost, each with its clock at last.
abbrev pub SaysLost : List Bool → List ℕ → List (SlotOut Notice) → Type 0
SaysLost lost lasts tellers = (place : ℕ) (none : SlotOut Notice) → place < length lost
    → AllByRecursion (IsOfLost (length lost) (λ node. get_or lost node false) (λ node. get_or lasts node 0) place) (given (get_or tellers place none))

-- the node at a place was told so, after what it was told before
abbrev pub Notified : (place node last : ℕ) → SlotOut Notice → SlotOut Notice → Type 0
Notified place node last a b = given b ≡ given a ++ notice_for place node last

-- each node was told so
abbrev pub AllNotified : (node last : ℕ) (a b : List (SlotOut Notice)) → Type 0
AllNotified node last a b = (place : ℕ) (none : SlotOut Notice) → place < length a → Notified place node last (get_or a place none) (get_or b place none)

-- The node at a place was told so if there was room for a notice, of which at most one is gone.
pub record NotifiedIfRoom (place node last : ℕ) (a b : SlotOut Notice) : Type 0 where
  pub told : 0 < slots_free a → Notified place node last a b
  pub room : slots_free a ≤ slots_free b + 1

-- each node before a place was told so if there was room, and of the others none was told anything
pub record NotifiedUpTo (node last place : ℕ) (a b : List (SlotOut Notice)) : Type 0 where
  pub told : (i : ℕ) (none : SlotOut Notice) → i < place → NotifiedIfRoom i node last (get_or a i none) (get_or b i none)
  pub rest : (i : ℕ) (none : SlotOut Notice) → place ≤ i → get_or b i none ≡ get_or a i none

-- how many nodes were not lost
abbrev pub count_running : List Bool → ℕ
count_running [] = 0
count_running (true ∷ lost) = count_running lost
count_running (false ∷ lost) = count_running lost + 1

-- At each node there is room for a notice of each node that was not lost.
pub record HaveNoticeRoom (lost : List Bool) (tellers : List (SlotOut Notice)) : Type 0 where
  pub count : length tellers ≡ length lost
  pub room : (place : ℕ) (none : SlotOut Notice) → place < length tellers → count_running lost ≤ slots_free (get_or tellers place none)
