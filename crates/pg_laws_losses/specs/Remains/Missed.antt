-- What a loss takes along: entries of nodes whose loss node i has seen which it has not applied.
use Rattle.std.specs.Prelude.{◌≡◌, ◌⊎◌, ◌↔◌, ◌≤◌, ◌+◌, ◌&&◌, ◌||◌, ℕ, Bool, true, false, not, cond, nat_eq}
use Rattle.std.specs.Prelude.{length, List, [], ◌∷◌, ◌++◌}
use Rattle.std.specs.List.{AllByRecursion}
use Rattle.pg_term.specs.declared.term.Term.{Term}
use Rattle.pg_term.specs.Same.{same_atom}
use Rattle.pg_laws.specs.PgGroup.Value.{less}
use Rattle.pg_laws.specs.PgStep.Machines.Losing.{LosingEvent}
use Rattle.pg_laws.specs.PgStep.Machines.Places.{is_pair}
use Rattle.pg_laws.specs.PgStep.Config.{Config, name_at}
use Rattle.pg_laws.specs.PgStep.LossLaws.{LosingFrameWorld}
use Rattle.pg_laws.specs.PgStep.Nodes.{Node}
use Rattle.pg_laws.specs.PgStep.Step.{Action}
use Rattle.pg_laws.specs.PgStep.Turns.{Report}
use Rattle.pg_laws.specs.History.{Entry, answered_count, applied_by, entry_of, history, is_update_of, known}
use Rattle.pg_laws.specs.History.{of_group, replay, updates_of}
use Rattle.pg_laws.specs.WithLosses.{Marked, all_entries, has_seen, left_of}
use Rattle.pg_laws_losses.specs.Remains.Heard.{Heard}

-- ---- which entries a node has applied

-- the last of these is applied
abbrev pub last_applied : Marked → Marked
last_applied [] = []
last_applied (m ∷ []) = (m.0, true) ∷ []
last_applied (m ∷ n ∷ ms) = m ∷ last_applied (n ∷ ms)

-- by a turn of node i an update of the group is applied
abbrev pub applies : ℕ → Term → ℕ × Report → Bool
applies i name t = nat_eq t.0 i && is_update_of name t.1.applied

-- After a turn that began these entries, by which node i applied an update of the group, or not: it is that of the new
-- entry, and where there is none that of the last one.
abbrev pub marked_after : List Entry → Bool → Marked → Marked
marked_after (e ∷ es) applied marked = marked ++ (e, applied) ∷ []
marked_after [] true marked = last_applied marked
marked_after [] false marked = marked

abbrev pub marks_from : ℕ → Term → Marked → List (ℕ × Report) → Marked
marks_from i name marked [] = marked
marks_from i name marked (t ∷ ts) = marks_from i name (marked_after (of_group name (entry_of t.0 t.1.began)) (applies i name t) marked) ts

-- The history of a group, each entry with a mark that says whether node i has applied it. What a node applies is the last
-- entry that is there then: so the reports tell which entries it has applied, also where two have equal updates.
abbrev pub marks : ℕ → Term → List (ℕ × Report) → Marked
marks i name reported = marks_from i name [] reported

-- ---- which it has missed

abbrev pub is_missed : (ℕ → Bool) → Entry × Bool → Bool
is_missed seen m = not m.1 && seen m.0.node

abbrev pub missed_of : (ℕ → Bool) → Marked → List Entry
missed_of seen [] = []
missed_of seen (m ∷ ms) = cond (is_missed seen m) (m.0 ∷ missed_of seen ms) (missed_of seen ms)

abbrev pub others_of : (ℕ → Bool) → Marked → List Entry
others_of seen [] = []
others_of seen (m ∷ ms) = cond (is_missed seen m) (others_of seen ms) (m.0 ∷ others_of seen ms)

-- Of the history of a group the entries of nodes whose loss node i has seen that it has not applied.
abbrev pub missed : Config → LosingFrameWorld → ℕ → Term → List Entry
missed config w i name = missed_of (has_seen config w i) (marks i name w.world.reported)

-- the history without them
abbrev pub not_missed : Config → LosingFrameWorld → ℕ → Term → List Entry
not_missed config w i name = others_of (has_seen config w i) (marks i name w.world.reported)

-- the entries that node i has applied
abbrev pub has_applied : LosingFrameWorld → ℕ → Term → List Entry
has_applied w i name = left_of (marks i name w.world.reported)

-- how many of these are of a node
abbrev pub count_of : ℕ → List Entry → ℕ
count_of node [] = 0
count_of node (e ∷ es) = cond (nat_eq e.node node) 1 0 + count_of node es

-- What the losses that node i has seen took along of a group.
pub record TakenAlong (config : Config) (events : List (LosingEvent Action)) (w : LosingFrameWorld) (i : ℕ) (name : Term) : Type 0 where
  -- the marked entries are the history, and those that it has applied have the updates that it reported, in their order
  pub whole : all_entries (marks i name w.world.reported) ≡ history name w.world.reported
  pub applied : updates_of (has_applied w i name) ≡ applied_by i name w.world.reported
  -- it has applied the history without those that it missed, or all of that but the last entry
  pub others : (has_applied w i name ≡ not_missed config w i name) ⊎ ((last : Entry) × (has_applied w i name ++ last ∷ [] ≡ not_missed config w i name))
  -- none that it missed was answered
  pub unanswered : AllByRecursion (λ (e : Entry). answered_count e.node e.op w.world.reported ≡ 0) (missed config w i name)
  -- of each lost node it missed one at most, and none of a node whose loss it has not seen
  pub few : (node : ℕ) → count_of node (missed config w i name) ≤ cond (has_seen config w i node) 1 0
  -- its table is what the entries that it has applied make of its own groups and those of the exchanges that it took,
  -- less the ends that it took
  pub took : Node → Bool
  pub just : (p : ℕ) → is_pair (length config) i p ≡ true → (took (name_at config p) ≡ true) ↔ Heard config events i p
  pub table : (w.world.node i).state.table name
      ≡ less (replay (known (λ q. same_atom (name_at config i) q || took q) name config) (updates_of (has_applied w i name))) (w.world.node i).state.ended
