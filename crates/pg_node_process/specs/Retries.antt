-- When a change that was denied its lock is tried again, and when the next one is handed over.
use Rattle.std.specs.Prelude.{◌≡◌, ◌≤◌, List, [], ◌∷◌, sum_by, ℕ, ◌+◌, ◌-◌, ◌^◌, min, nat_lt, nat_le, Bool, true, false, not, ◌&&◌, ◌||◌, cond, if◌then◌else◌}
use Rattle.pg_node_process.specs.declared.retries.Courtesy.{Courtesy}
use Rattle.pg_node_process.specs.declared.retries.Seen.{Seen}
use Rattle.pg_node_process.specs.declared.retries.Seen.TheVariants.{Free, Own, Other}

abbrev pub at_first : Courtesy
at_first = record { streak = 0; shared = 0; has_waited = false; saw_other = false; is_told = false }

-- After four changes of a group that other nodes change, too, a port gives way to them.
abbrev pub gives_way : Courtesy → Bool
gives_way c = nat_lt 0 c.shared && nat_le 4 c.streak

-- at how many ticks more it does
abbrev pub ticks_left : Courtesy → ℕ
ticks_left c = if gives_way c then cond c.has_waited 1 2 else 0

-- A tick: by the second it has given way for long enough.
abbrev pub after_tick : Courtesy → Courtesy
after_tick c = record c { streak = cond (gives_way c && c.has_waited) 0 c.streak; has_waited = gives_way c && not c.has_waited }

-- Another node is seen to hold the lock.
abbrev pub after_other : Courtesy → Courtesy
after_other c = record c { streak = 0; shared = 64; saw_other = true }

-- a look at the lock, at a tick or between two
abbrev pub after_look : Seen → Bool → Courtesy → Courtesy
after_look Other is_tick c = after_other c
after_look Free is_tick c = cond is_tick (after_tick c) c
after_look Own is_tick c = cond is_tick (after_tick c) c

-- other nodes change the group, too
abbrev pub after_share : Courtesy → Courtesy
after_share c = record c { shared = 64 }

abbrev pub is_free : Seen → Bool
is_free Free = true
is_free Own = false
is_free Other = false

-- A change that was denied its lock is tried where the lock is free: at each tick, and once another node held it.
abbrev pub is_due : Seen → Bool → Courtesy → Bool
is_due seen is_tick c = is_free seen && (is_tick || c.saw_other)

-- the change was tried
abbrev pub after_trial : Courtesy → Courtesy
after_trial c = record c { saw_other = false; is_told = false }

-- the change was answered
abbrev pub after_answer : Courtesy → Courtesy
after_answer c = record (after_trial c) { streak = min (c.streak + 1) (2 ^ 32 - 1); shared = c.shared - 1 }

-- ---- one after another

-- what passes while a change waits to be handed over: a look at the lock, at a tick or between two; another node is denied the lock
pub data Passing : Type 0 where
  Looked : Seen → (is_tick : Bool) → Passing
  Shared : Passing

abbrev pub after_passing : Passing → Courtesy → Courtesy
after_passing (Looked seen is_tick) c = after_look seen is_tick c
after_passing Shared c = after_share c

-- it gives way at first, and after each of these
abbrev pub gives_way_all_along : Courtesy → List Passing → Bool
gives_way_all_along c [] = gives_way c
gives_way_all_along c (passing ∷ later) = gives_way c && gives_way_all_along (after_passing passing c) later

abbrev pub ticks_by : Passing → ℕ
ticks_by (Looked seen is_tick) = cond is_tick 1 0
ticks_by Shared = 0

-- While a port gives way all along, one tick passes at most: by the second its next change is handed over.
abbrev pub NoPortWaitsForLong : Type 0
NoPortWaitsForLong = (c : Courtesy) (passings : List Passing) → gives_way_all_along c passings ≡ true → sum_by ticks_by passings ≤ 1
