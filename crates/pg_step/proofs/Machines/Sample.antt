-- A machine of two nodes, computed: each adds what it is told to its number, and tells the sum.
use Rattle.std.proofs.Common.{◌≡◌, ℕ, ◌+◌, cond, nat_eq, List, [], ◌∷◌, Option, Some, None, refl}
use Rattle.pg_group.specs.Functions.{upd}
use Rattle.pg_step.specs.Machines.Machine.{Input, Turn, Machine, Event, World, Taken, Own, Take, Do, start_of, happens}
use Rattle.pg_step.specs.Machines.Runs.{run, ran, reported_by}
use Rattle.pg_step.specs.Machines.Clocked.{Timed, Stamped, clocked}

-- a packet or a command is a number that is added; a command is sent on, and 0 is refused
abbrev add : ℕ → ℕ → Input ℕ ℕ → Option (Turn ℕ ℕ ℕ)
add i s (Taken p x) = Some (record { state = s + x; sends = λ _. []; reported = s + x })
add i s (Own c) = cond (nat_eq c 0) None (Some (record { state = s + c; sends = λ y. cond (nat_eq y i) [] (c ∷ []); reported = s + c }))

abbrev adders : Machine ℕ ℕ ℕ ℕ
adders = record { size = 2; first = λ i. i; opening = λ x y. cond (nat_eq x y) [] (10 ∷ []); step = add }

abbrev events : List (Event ℕ)
events = Do 0 5 ∷ Take 1 0 ∷ Do 1 0 ∷ Take 1 0 ∷ Take 1 0 ∷ Take 1 1 ∷ Do 2 7 ∷ []

abbrev world : World ℕ ℕ ℕ
world = run adders (start_of adders) events

-- the command, the opening packet and the command's packet; neither a refused command nor an empty way, nor itself, nor a place out of range
happened : ran adders (start_of adders) events ≡ Do 0 5 ∷ Take 1 0 ∷ Take 1 0 ∷ []
unfolding happens upd
happened = refl

reported : world.reported ≡ (0, 5) ∷ (1, 11) ∷ (1, 16) ∷ []
unfolding happens upd
reported = refl

told_by_one : reported_by 1 world.reported ≡ 11 ∷ 16 ∷ []
unfolding happens upd
told_by_one = refl

states : (world.node 0 ≡ 5) × (world.node 1 ≡ 16)
unfolding happens upd
states = (refl, refl)

on_the_way : (world.wire 0 1 ≡ []) × (world.wire 1 0 ≡ 10 ∷ [])
unfolding happens upd
on_the_way = (refl, refl)

-- the same with clocks, which go to 2
abbrev timed_world : World (Timed ℕ) (Stamped ℕ) ℕ
timed_world = run (clocked 2 adders) (start_of (clocked 2 adders)) (Do 0 5 ∷ Do 0 1 ∷ Do 0 2 ∷ Take 1 0 ∷ Take 1 0 ∷ Take 1 0 ∷ [])

clocks : ((timed_world.node 0).clock ≡ 2) × ((timed_world.node 1).clock ≡ 2)
unfolding happens upd
clocks = (refl, refl)

-- the third command would pass the limit, and so would the packet with the stamp 2
timed_states : ((timed_world.node 0).state ≡ 6) × ((timed_world.node 1).state ≡ 16)
unfolding happens upd
timed_states = (refl, refl)

stamps : timed_world.wire 0 1 ≡ record { stamp = 2; packet = 1 } ∷ []
unfolding happens upd
stamps = refl
