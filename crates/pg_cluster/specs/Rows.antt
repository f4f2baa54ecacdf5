-- The links of each node to its peers, as the rings are made.
use Rattle.std.specs.Prelude.{◌≡◌, ◌≢◌, ℕ, ◌<◌, ◌≤◌, ◌+◌, ◌-◌, List, [], ◌∷◌, ◌++◌, length, slice_index_or}
use Rattle.std.specs.List.{All}
use Rattle.pg_ring.specs.Ends.{AreEnds, bytes_sent, bytes_received, bytes_room}
use Rattle.pg_cluster_judges.specs.Apart.{End}
use Rattle.pg_cluster.specs.Ended.{NodeRow}

-- The ring from the peer at one place of a node to the peer at another of another node, over which nothing went.
abbrev pub Wired : List End → ℕ → List End → ℕ → Type 0
Wired from p to q = (d : End) →
    AreEnds (slice_index_or from p d).link (slice_index_or to q d).inlet
    × (bytes_sent (slice_index_or from p d).link ≡ [])
    × (bytes_received (slice_index_or to q d).inlet ≡ [])

-- the new ends of the two rings between two nodes
pub record Joins (x y : End) : Type 0 where
  pub there : AreEnds x.link y.inlet
  pub back : AreEnds y.link x.inlet
  pub sent : (bytes_sent x.link ≡ []) × (bytes_sent y.link ≡ [])
  pub got : (bytes_received x.inlet ≡ []) × (bytes_received y.inlet ≡ [])

-- nodes i and j have one peer more each, and the others have what they had
pub record AreJoined (xs ys : List NodeRow) (i j : ℕ) : Type 0 where
  pub x : End
  pub y : End
  pub joins : Joins x y
  pub at_i : (d : NodeRow) → (slice_index_or ys i d).items ≡ (slice_index_or xs i d).items ++ x ∷ []
  pub at_j : (d : NodeRow) → (slice_index_or ys j d).items ≡ (slice_index_or xs j d).items ++ y ∷ []
  pub other : (k : ℕ) (d : NodeRow) → k ≢ i → k ≢ j → slice_index_or ys k d ≡ slice_index_or xs k d

-- each ring from a node of these rows has room for so many bytes
abbrev pub HaveRowRoom : ℕ → List NodeRow → Type 0
HaveRowRoom room rows = All (λ row. All (λ peer. bytes_room peer.link ≡ room) row.items) rows

-- the two rings between nodes a and b, where a is before b
pub record PairAt (xs : List NodeRow) (a b : ℕ) (d : NodeRow) : Type 0 where
  pub there : Wired (slice_index_or xs a d).items (b - 1) (slice_index_or xs b d).items a
  pub back : Wired (slice_index_or xs b d).items a (slice_index_or xs a d).items (b - 1)

-- the nodes below j are joined, and node j to those below i
pub record SoFar (n : ℕ) (xs : List NodeRow) (j i : ℕ) : Type 0 where
  pub rows : length xs ≡ n
  pub before : (r : ℕ) (d : NodeRow) → r < i → r < j → r < n → length (slice_index_or xs r d).items ≡ j
  pub between : (r : ℕ) (d : NodeRow) → i ≤ r → r < j → r < n → length (slice_index_or xs r d).items + 1 ≡ j
  pub here : (r : ℕ) (d : NodeRow) → r ≡ j → r < n → length (slice_index_or xs r d).items ≡ i
  pub after : (r : ℕ) (d : NodeRow) → j < r → r < n → length (slice_index_or xs r d).items ≡ 0
  pub earlier : (a b : ℕ) (d : NodeRow) → a < b → b < j → b < n → PairAt xs a b d
  pub these : (a b : ℕ) (d : NodeRow) → a < i → b ≡ j → a < b → b < n → PairAt xs a b d

-- each two of so many nodes have the two rings between them
abbrev pub RowsWired : ℕ → List NodeRow → Type 0
RowsWired n xs = SoFar n xs n 0
