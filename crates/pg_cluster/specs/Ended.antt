-- The rings between nodes whose threads have ended.
use Rattle.std.specs.Prelude.{◌≡◌, ℕ, ◌+◌, ◌-◌, ◌<◌, true, get_or, length, List, [], ◌++◌}
use Rattle.std.specs.declared.vec.Vec.{Vec}
use Rattle.std.specs.declared.alloc.Global.{Global}
use Rattle.pg_cluster_judges.specs.PgStep.Machines.Places.{is_pair}
use Rattle.pg_ring.specs.Ends.{AreEnds, Sends, Receives, bytes_sent, bytes_received}
use Rattle.pg_cluster_judges.specs.Apart.{End, Crossed}
use Rattle.pg_cluster_judges.specs.PgWorldPackets.Views.{peer_place}

-- the ends at one node of its rings
abbrev pub row_at : List (List End) → ℕ → List End
row_at rows x = get_or rows x []

-- the ends at node x of its rings to and from node y
abbrev pub end_at : List (List End) → ℕ → ℕ → End → End
end_at rows x y none = get_or (row_at rows x) (peer_place x y) none

-- what was received at one end, and then what is left, is what was sent at the other
pub record Arrived (from to : End) : Type 0 where
  pub left : List ℕ
  pub sent : bytes_received to.inlet ++ left ≡ bytes_sent from.link

-- Each of so many nodes has the ends of its rings to and from each other.
pub record AreJoined (n : ℕ) (rows : List (List End)) : Type 0 where
  pub count : length rows ≡ n
  pub each : (x : ℕ) → x < n → length (row_at rows x) + 1 ≡ n
  pub ends : (x y : ℕ) (none : End) → is_pair n x y ≡ true → AreEnds (end_at rows x y none).link (end_at rows y x none).inlet

-- Each of so many nodes has the ends of its rings to and from each other, over which nothing went.
pub record AreWired (n : ℕ) (rows : List (List End)) : Type 0 where
  pub joined : AreJoined n rows
  pub unsent : (x y : ℕ) (none : End) → is_pair n x y ≡ true → bytes_sent (end_at rows x y none).link ≡ []
  pub unreceived : (x y : ℕ) (none : End) → is_pair n x y ≡ true → bytes_received (end_at rows y x none).inlet ≡ []

-- What was received over each ring, from one time to another, and then what is left, is what was sent.
abbrev pub AllCrossed : ℕ → List (List End) → List (List End) → Type 0
AllCrossed n begun ended = (x y : ℕ) (none : End) → is_pair n x y ≡ true
    → Crossed (end_at begun x y none) (end_at begun y x none) (end_at ended x y none) (end_at ended y x none)

-- and so it is of each ring between them
abbrev pub AllArrived : ℕ → List (List End) → Type 0
AllArrived n rows = (x y : ℕ) (none : End) → is_pair n x y ≡ true → Arrived (end_at rows x y none) (end_at rows y x none)

-- ---- two of them

-- the ends of both rings between two nodes, each at a place of the row of its node
abbrev pub AreEndsAt : List End → ℕ → List End → ℕ → Type 0
AreEndsAt low p high q = (none : End) → AreEnds (get_or low p none).link (get_or high q none).inlet × AreEnds (get_or high q none).link (get_or low p none).inlet

abbrev pub ArrivedAt : List End → ℕ → List End → ℕ → Type 0
ArrivedAt low p high q = (none : End) → Arrived (get_or low p none) (get_or high q none) × Arrived (get_or high q none) (get_or low p none)

-- the same ends, over which nothing went meanwhile
pub record SameEnd (a b : End) : Type 0 where
  pub link : Sends a.link [] b.link
  pub inlet : Receives a.inlet [] b.inlet

pub record SameRow (a b : List End) : Type 0 where
  pub len : length b ≡ length a
  pub each : (place : ℕ) (none : End) → SameEnd (get_or a place none) (get_or b place none)

-- the links of a node to its peers
abbrev pub NodeRow : Type 0
NodeRow = Vec End Global

-- what is asked of the row of a last node, and of those of the nodes before it
abbrev pub AreLast : List NodeRow → List End → Type 0
AreLast rows row = (x : ℕ) (none : NodeRow) → x < length rows
    → (length rows - 1 < length (get_or rows x none).items) × (x < length row) × AreEndsAt (get_or rows x none).items (length rows - 1) row x

abbrev pub SameRows : List NodeRow → List NodeRow → Type 0
SameRows rows rows2 = (length rows2 ≡ length rows) × ((x : ℕ) (none : NodeRow) → SameRow (get_or rows x none).items (get_or rows2 x none).items)

abbrev pub ArrivedLast : List NodeRow → List End → Type 0
ArrivedLast rows row = (x : ℕ) (none : NodeRow) → x < length rows → ArrivedAt (get_or rows x none).items (length rows - 1) row x
