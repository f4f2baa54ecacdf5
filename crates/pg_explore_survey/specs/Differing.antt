-- Whether nodes of a world differ, and which locks they see held.
use Rattle.std.specs.Prelude.{◌≡◌, ◌≢◌, ◌<◌, ℕ, Bool, true, false, is_some, slice_get, List, [], Option, Some, None}
use Rattle.std.specs.List.{Contains}
use Rattle.std.specs.Option.{option_map_or}
use Rattle.pg_term.specs.declared.term.Term.{Term}
use Rattle.pg_script.specs.PgWorldAccount.Losses.{is_lost}
use Rattle.pg_script.specs.PgWorldPackets.Losing.{is_formed}
use Rattle.pg_script.specs.PgWorldPackets.Pending.{pending_of}
use Rattle.pg_script.specs.PgWorldConfig.Seen.{Seen}

-- a test says whether a fact holds
abbrev pub Decides : Type 0 → Bool → Type 0
Decides P true = P
Decides P false = P → ⊥

-- ---- of the nodes of a world, of which some are lost

-- a node is there, formed and not lost
pub record IsLive (nodes : List Seen) (lost : List ℕ) (place : ℕ) (node : Seen) : Type 0 where
  pub at : slice_get nodes place ≡ Some node
  pub formed : is_formed node ≡ true
  pub alive : is_lost lost place ≡ false

-- the node at a place, where it is such a one
abbrev pub IsLiveAt : List Seen → List ℕ → ℕ → Option Seen → Type 0
IsLiveAt nodes lost place None = (node : Seen) → IsLive nodes lost place node → ⊥
IsLiveAt nodes lost place (Some node) = IsLive nodes lost place node

-- one of the first nodes, so many, that is such a one; None: none is
abbrev pub IsSomeLive : List Seen → List ℕ → ℕ → Option Seen → Type 0
IsSomeLive nodes lost count None = (place : ℕ) (node : Seen) → place < count → IsLive nodes lost place node → ⊥
IsSomeLive nodes lost count (Some node) = (place : ℕ) × (place < count) × IsLive nodes lost place node

-- the node at a place is such a one, and has not the same of a group as another
pub record IsApartAt (nodes : List Seen) (lost : List ℕ) (name : Term) (first : Seen) (place : ℕ) : Type 0 where
  pub node : Seen
  pub live : IsLive nodes lost place node
  pub apart : node.state.state.table name ≢ first.state.state.table name

-- it has the same, if it is such a one
abbrev pub IsSameAt : List Seen → List ℕ → Term → Seen → ℕ → Type 0
IsSameAt nodes lost name first place = (node : Seen) → IsLive nodes lost place node → node.state.state.table name ≡ first.state.state.table name

abbrev pub IsApartOrSame : List Seen → List ℕ → Term → Seen → ℕ → Bool → Type 0
IsApartOrSame nodes lost name first place true = IsApartAt nodes lost name first place
IsApartOrSame nodes lost name first place false = IsSameAt nodes lost name first place

-- one of the first nodes has not the same of a group as a node
pub record DiffersFromFirst (nodes : List Seen) (lost : List ℕ) (count : ℕ) (name : Term) (first : Seen) : Type 0 where
  pub place : ℕ
  pub within : place < count
  pub is : IsApartAt nodes lost name first place

-- each of them has
abbrev pub HoldSame : List Seen → List ℕ → ℕ → Term → Seen → Type 0
HoldSame nodes lost count name first = (place : ℕ) → place < count → IsSameAt nodes lost name first place

abbrev pub IsOtherOrSame : List Seen → List ℕ → ℕ → Term → Seen → Bool → Type 0
IsOtherOrSame nodes lost count name first true = DiffersFromFirst nodes lost count name first
IsOtherOrSame nodes lost count name first false = HoldSame nodes lost count name first

-- two of them have not the same of a group
pub record DifferOn (nodes : List Seen) (lost : List ℕ) (count : ℕ) (name : Term) : Type 0 where
  pub place : ℕ
  pub within : place < count
  pub node : Seen
  pub live : IsLive nodes lost place node
  pub other : DiffersFromFirst nodes lost count name node

-- of one of some groups
pub record Differ (nodes : List Seen) (lost : List ℕ) (count : ℕ) (names : List Term) : Type 0 where
  pub name : Term
  pub among : Contains names name
  pub differ : DifferOn nodes lost count name

-- ---- locks

-- a node sees the lock of a group held
abbrev pub is_held_at : List Seen → ℕ → Term → Bool
is_held_at nodes place name = option_map_or (λ (node : Seen). is_some (node.state.state.locks name)) (slice_get nodes place) false

-- a node that is not lost sees the lock held, or free
pub record SeesAt (nodes : List Seen) (lost : List ℕ) (held : Bool) (name : Term) (place : ℕ) : Type 0 where
  pub alive : is_lost lost place ≡ false
  pub sees : is_held_at nodes place name ≡ held

-- one of the first nodes does
pub record Sees (nodes : List Seen) (lost : List ℕ) (held : Bool) (count : ℕ) (name : Term) : Type 0 where
  pub place : ℕ
  pub within : place < count
  pub at : SeesAt nodes lost held name place

-- the lock of one of some groups
pub record SeesOne (nodes : List Seen) (lost : List ℕ) (held : Bool) (count : ℕ) (names : List Term) : Type 0 where
  pub name : Term
  pub among : Contains names name
  pub sees : Sees nodes lost held count name

-- two differ on a group of which a node sees the lock free
pub record DifferFreeOn (nodes : List Seen) (lost : List ℕ) (count : ℕ) (name : Term) : Type 0 where
  pub sees : Sees nodes lost false count name
  pub differ : DifferOn nodes lost count name

-- on one of some groups, and no end is pending
pub record DifferFree (nodes : List Seen) (lost : List ℕ) (count : ℕ) (names : List Term) : Type 0 where
  pub pending : pending_of nodes lost ≡ []
  pub name : Term
  pub among : Contains names name
  pub is : DifferFreeOn nodes lost count name

-- ---- how the code finds it

-- a node, where it is formed and not lost
abbrev pub LiveOf : Seen → Bool → Option Seen → Type 0
LiveOf node lost None = is_formed node ≡ true → lost ≡ false → ⊥
LiveOf node lost (Some found) = (found ≡ node) × (is_formed node ≡ true) × (lost ≡ false)
