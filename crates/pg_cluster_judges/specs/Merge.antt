-- The order in which the entries of several logs are merged: by clock, and at one clock by place of the log.
use Rattle.std.specs.Prelude.{◌≡◌, ℕ, ◌+◌, ◌<◌, ◌≤◌, cond, nat_eq, drop, take}
use Rattle.std.specs.Prelude.{map, slice_index, slice_index_or, List, [], ◌∷◌}
use Rattle.std.specs.List.{AllByRecursion, flat_map}
use Rattle.pg_world.specs.PgStep.Machines.Places.{set_at}

-- a clock of log i comes no later than another of log j
pub record ComesFirst (clock i other j : ℕ) : Type 0 where
  pub clocks : clock ≤ other
  pub places : clock ≡ other → i ≤ j

-- Of what is still to be read of the first `size` logs, the entry that is next in log i comes first.
pub record IsNext (size : ℕ) (rest : ℕ → List ℕ) (i : ℕ) : Type 0 where
  pub there : i < size
  pub clock : ℕ
  pub later : List ℕ
  pub next : rest i ≡ clock ∷ later
  pub first : (j other : ℕ) (others : List ℕ) → j < size → rest j ≡ other ∷ others → ComesFirst clock i other j

-- what is still to be read of each log, where `read` are read of each
abbrev pub rest_of : (ℕ → List ℕ) → (ℕ → ℕ) → ℕ → List ℕ
rest_of clocks read i = drop (read i) (clocks i)

-- The order in which the rest of the logs is merged, each entry as its log and its place there: again and again the entry
-- that comes first, until no log has one.
abbrev pub MergesRest : ℕ → (ℕ → List ℕ) → (ℕ → ℕ) → List (ℕ × ℕ) → Type 0
MergesRest size clocks read [] = (i : ℕ) → i < size → rest_of clocks read i ≡ []
MergesRest size clocks read (x ∷ order) =
    (x.1 ≡ read x.0) × IsNext size (rest_of clocks read) x.0 × MergesRest size clocks (set_at read x.0 (x.1 + 1)) order

-- The order in which so many logs with these clocks are merged.
abbrev pub Merges : ℕ → (ℕ → List ℕ) → List (ℕ × ℕ) → Type 0
Merges size clocks order = MergesRest size clocks (λ i. 0) order

-- the places of log i in an order
abbrev pub places_of : ℕ → List (ℕ × ℕ) → List ℕ
places_of i [] = []
places_of i (x ∷ order) = cond (nat_eq x.0 i) (x.1 ∷ places_of i order) (places_of i order)

-- no clock is below one before it
abbrev pub IsRising : List ℕ → Type 0
IsRising [] = Unit {0}
IsRising (clock ∷ clocks) = AllByRecursion (λ later. clock ≤ later) clocks × IsRising clocks

-- the clock of an entry
abbrev pub clock_at : (ℕ → List ℕ) → ℕ × ℕ → ℕ
clock_at clocks x = slice_index (clocks x.0) x.1

-- each entry comes no later than those after it, by clock and then by log
abbrev pub IsSorted : (ℕ → List ℕ) → List (ℕ × ℕ) → Type 0
IsSorted clocks [] = Unit {0}
IsSorted clocks (x ∷ order) = AllByRecursion (λ (y : ℕ × ℕ). ComesFirst (clock_at clocks x) x.0 (clock_at clocks y) y.0) order × IsSorted clocks order

-- the clocks of the entries of a log
abbrev pub clocks_of : {E : Type 0} → List (ℕ × E) → List ℕ
clocks_of log = map (λ x. x.0) log

-- the log at a place
abbrev pub log_at : {E : Type 0} → List (List (ℕ × E)) → ℕ → List (ℕ × E)
log_at logs i = slice_index_or logs i []

-- the clocks of each log
abbrev pub clocks_in : {E : Type 0} → List (List (ℕ × E)) → ℕ → List ℕ
clocks_in logs i = clocks_of (log_at logs i)

-- what stands at a place of a log, without its clock; nothing past its end
abbrev pub entry_at : {E : Type 0} → List (ℕ × E) → ℕ → List E
entry_at log place = map (λ x. x.1) (take 1 (drop place log))

-- what stands at these places of these logs, in this order
abbrev pub merged_logs : {E : Type 0} → (ℕ → List (ℕ × E)) → List (ℕ × ℕ) → List E
merged_logs logs order = flat_map (λ x. entry_at (logs x.0) x.1) order

-- a log, with what its entries are seen as beside their clocks
abbrev pub seen_log : {E F : Type 0} → (E → F) → List (ℕ × E) → List (ℕ × F)
seen_log view log = map (λ x. (x.0, view x.1)) log
