-- The law of ports that give way, of src/laws.rt.
use Rattle.std.proofs.Common.{◌≡◌, ◌≤◌, ◌+◌, ℕ, List, [], ◌∷◌, Bool, true, false, cond, refl, arith, sum_by, ◌&&◌, nat_lt, nat_le, not, subst, sym, true≢false}
use Rattle.std.proofs.lemmas.List.Sums.{sum_by-cons}
use Rattle.pg_node_process.specs.declared.retries.Courtesy.{Courtesy}
use Rattle.pg_node_process.specs.declared.retries.Seen.TheVariants.{Free, Own, Other}
use Rattle.pg_node_process.specs.Retries.{NoPortWaitsForLong, Passing, Looked, Shared, after_passing, gives_way, gives_way_all_along, ticks_by, ticks_left}

both : (a b : Bool) → (a && b) ≡ true → (a ≡ true) × (b ≡ true)
both true true h = (refl, refl)
both true false h = absurd (true≢false (sym h))
both false b h = absurd (true≢false (sym h))

some_of : (w : Bool) → 1 ≤ cond w 1 2
some_of true = omega arith
some_of false = omega arith

few_of : (b w : Bool) → cond b (cond w 1 2) 0 ≤ 2
few_of true true = omega arith
few_of true false = omega arith
few_of false w = omega arith

-- one that gives way does so at one tick more at least, and at two at most
some_left : (c : Courtesy) → gives_way c ≡ true → 1 ≤ ticks_left c
some_left c gives = subst (λ (b : Bool). 1 ≤ cond b (cond c.has_waited 1 2) 0) (sym gives) (some_of c.has_waited)

few_left : (c : Courtesy) → ticks_left c ≤ 2
few_left c = few_of (gives_way c) c.has_waited

-- a tick
one_fewer : (streak shared : ℕ) (g w : Bool) → g ≡ true → (nat_lt 0 shared && nat_le 4 (cond (g && w) 0 streak)) ≡ true
    → cond (nat_lt 0 shared && nat_le 4 (cond (g && w) 0 streak)) (cond (g && not w) 1 2) 0 + 1 ≤ cond g (cond w 1 2) 0
one_fewer streak shared true true gives still = absurd (true≢false (sym (both (nat_lt 0 shared) false still).1))
one_fewer streak shared true false gives still = go (nat_lt 0 shared && nat_le 4 streak)
  where
    go : (b : Bool) → cond b 1 0 + 1 ≤ 2
    go true = omega arith
    go false = omega arith
one_fewer streak shared false w gives still = absurd (true≢false (sym gives))

as_many : (a b w : Bool) → b ≡ true → cond a (cond w 1 2) 0 + 0 ≤ cond b (cond w 1 2) 0
as_many true true w gives = omega arith
as_many false true w gives = omega arith
as_many a false w gives = absurd (true≢false (sym gives))

fewer_left : (passing : Passing) (c : Courtesy) → gives_way c ≡ true → gives_way (after_passing passing c) ≡ true → ticks_left (after_passing passing c) + ticks_by passing ≤ ticks_left c
fewer_left (Looked Other is_tick) c gives still = absurd (true≢false (sym still))
fewer_left (Looked Free true) c gives still = one_fewer c.streak c.shared (gives_way c) c.has_waited gives still
fewer_left (Looked Free false) c gives still = omega arith
fewer_left (Looked Own true) c gives still = one_fewer c.streak c.shared (gives_way c) c.has_waited gives still
fewer_left (Looked Own false) c gives still = omega arith
fewer_left Shared c gives still = as_many (nat_le 4 c.streak) (gives_way c) c.has_waited gives

gives_at_first : (passings : List Passing) (c : Courtesy) → gives_way_all_along c passings ≡ true → gives_way c ≡ true
gives_at_first [] c gives = gives
gives_at_first (passing ∷ later) c gives = (both (gives_way c) (gives_way_all_along (after_passing passing c) later) gives).0

ticks_few : (passings : List Passing) (c : Courtesy) → gives_way_all_along c passings ≡ true → sum_by ticks_by passings + 1 ≤ ticks_left c
ticks_few [] c gives = some_left c gives
ticks_few (passing ∷ later) c gives =
    let along = both (gives_way c) (gives_way_all_along (after_passing passing c) later) gives in
    let others = ticks_few later (after_passing passing c) along.1 in
    let fewer = fewer_left passing c along.0 (gives_at_first later (after_passing passing c) along.1) in
    let count = sum_by-cons ticks_by passing later in
    omega (arith, others, fewer, count)

pub no_port_waits_for_long : NoPortWaitsForLong
no_port_waits_for_long c passings gives = let few = few_left c in let count = ticks_few passings c gives in omega (arith, few, count)
