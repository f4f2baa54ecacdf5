-- Events one after another, and what was reported of them.
use Rattle.std.specs.Prelude.{◌≡◌, ℕ, nat_eq, cond, List, [], ◌∷◌, Option, Some, None, unwrap_or}
use Rattle.pg_step.specs.Machines.Machine.{Machine, Event, World, node_of, happens}

-- from the world w each of these events happens, one after another, and leaves the world v
abbrev pub Leads : {S P C O : Type 0} → Machine S P C O → World S P O → List (Event C) → World S P O → Type 0
Leads m w [] v = w ≡ v
Leads {S} {P} {C} {O} m w (e ∷ es) v = (u : World S P O) × (happens m w e ≡ Some u) × Leads m u es v

-- the world after an event: one that does not happen changes nothing
abbrev pub after : {S P C O : Type 0} → Machine S P C O → World S P O → Event C → World S P O
after m w e = unwrap_or (happens m w e) w

-- the world after any events, those that do not happen passed over
abbrev pub run : {S P C O : Type 0} → Machine S P C O → World S P O → List (Event C) → World S P O
run m w [] = w
run m w (e ∷ es) = run m (after m w e) es

-- an event before others, where it leaves a world
abbrev pub put_if_some : {A C : Type 0} → Option A → Event C → List (Event C) → List (Event C)
put_if_some None e es = es
put_if_some (Some v) e es = e ∷ es

-- those of the events that happen
abbrev pub ran : {S P C O : Type 0} → Machine S P C O → World S P O → List (Event C) → List (Event C)
ran m w [] = []
ran m w (e ∷ es) = put_if_some (happens m w e) e (ran m (after m w e) es)

-- the events of one node
abbrev pub events_of : {C : Type 0} → ℕ → List (Event C) → List (Event C)
events_of i [] = []
events_of i (e ∷ es) = cond (nat_eq (node_of e) i) (e ∷ events_of i es) (events_of i es)

-- what one node reported
abbrev pub reported_by : {O : Type 0} → ℕ → List (ℕ × O) → List O
reported_by i [] = []
reported_by i (t ∷ ts) = cond (nat_eq t.0 i) (t.1 ∷ reported_by i ts) (reported_by i ts)
