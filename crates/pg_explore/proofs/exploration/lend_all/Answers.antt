use Rattle.std.proofs.Common.{◌≡◌, ◌≢◌, ◌<◌, ◌≤◌, ℕ, ◌+◌, ◌-◌, Bool, true, false, List, [], ◌∷◌, ◌++◌, length}
use Rattle.std.proofs.Common.{map, take, get_or, max, refl, sym, ap, ap₂, ◌∙◌, inl, inr, subst, arith}
use Rattle.std.specs.Prelude.{Option, Some}
use Rattle.pg_explore.specs.declared.explored.Met.{Met}
use Rattle.pg_explore.specs.Explorations.{Lends, met_of}
use Rattle.pg_explore.specs.Lent.{AreLent}
use Rattle.pg_explore.specs.Ways.{AreLentWays, AreWays}
use Rattle.pg_explore.proofs.Leading.{ways_more, ways_same}
use Rattle.pg_explore.proofs.Reached.{lent_more, lent_same, there_still}
use Rattle.pg_explore.proofs.exploration.lend_all.Goals as goal
use Rattle.std.proofs.Common.{◌⊎◌, nat_lt}
use Rattle.std.proofs.lemmas.Bool.{lt-ltb, ltb-true}

clash : false ≡ true → ⊥
clash e = absurd (cc)

low_or_high : (a b : ℕ) → (a < b) ⊎ (b ≤ a)
low_or_high a b = go (nat_lt a b) refl
  where
    go : (t : Bool) → nat_lt a b ≡ t → (a < b) ⊎ (b ≤ a)
    go true e = inl (ltb-true a b e)
    go false e = inr (grind (arith, e, lt-ltb a b))

not_le : (a b : ℕ) → (a ≤ b → ⊥) → b < a
not_le a b h = go (low_or_high b a)
  where
    go : (b < a) ⊎ (a ≤ b) → b < a
    go (inl l) = l
    go (inr r) = absurd (h r)

pub returns-in_err-lend-clause-first : goal.returns-in_err-lend-clause-first
returns-in_err-lend-clause-first g c = there_still (met_of c.loop-turn.explored) (met_of c.lend.new.self) 0 c.lend.ensures.grows c.loop-turn.invariant.some

pub returns-then-not-branch-clause-lent : goal.returns-then-not-branch-clause-lent
returns-then-not-branch-clause-lent g c =
    let led = rw c.if-not-branch.true at c.in_ok-lend.ensures.lends in
    lent_same _ _ _ (met_of c.loop-turn.explored) (met_of c.lend.new.self) _ _ c.lend.ensures.grows c.loop-turn.invariant.inside led.0 led.1 c.loop-turn.invariant.lent

pub returns-then-not-branch-clause-ways : goal.returns-then-not-branch-clause-ways
returns-then-not-branch-clause-ways g c =
    let led = rw c.if-not-branch.true at c.in_ok-lend.ensures.lends in
    let same = rw c.if-not-branch.true at c.in_ok-lend.ensures.ways in
    ways_same _ _ _ c.args.plans.now c.args.limits.retries (met_of c.loop-turn.explored) (met_of c.lend.new.self) _ _ c.lend.ensures.grows c.loop-turn.invariant.inside led.0 same c.loop-turn.invariant.ways

pub loop-turn-preserved : goal.loop-turn-preserved
loop-turn-preserved g c =
    let before = c.loop-turn.invariant in
    let old = met_of c.loop-turn.explored in
    let new = met_of c.lend.new.self in
    let led = rw c.if-not-branch.false at c.in_ok-lend.ensures.lends in
    let ways = rw c.if-not-branch.false at c.in_ok-lend.ensures.ways in
    let more : c.loop-turn.explored.lent < length old = not_le (length old) c.loop-turn.explored.lent (λ le. clash (sym c.if-is_whole.false ∙ c.is_whole.ensures.1 le)) in
    let still = there_still old new c.loop-turn.explored.lent c.lend.ensures.grows more in
    let was = before.few in
    let many = c.lend.ensures.few in
    let next = led.0 in
    record {
      holds = c.lend.ensures.holds;
      some = there_still old new 0 c.lend.ensures.grows before.some;
      few = omega (arith, was, many);
      turns_are = led.0 ∙ ap (λ n. n + 1) before.turns_are;
      inside = omega (arith, still, next);
      followed = c.in_ok-lend.ensures.followed;
      lent = subst (λ n. AreLent (g.V.Visitor.lent c.args.visitor.now) (g.V.Visitor.lent c.lend.new.visitor) (take n new)) (sym led.0) (lent_more _ _ _ old new c.loop-turn.explored.lent led.1.0 c.lend.ensures.grows before.inside led.1.1 before.lent led.1.2);
      ways = subst (λ n. AreLentWays (g.V.Visitor.ways c.args.visitor.now) (g.V.Visitor.ways c.lend.new.visitor) (AreWays c.args.plans.now c.args.limits.retries new n)) (sym led.0)
          (ways_more _ _ _ c.args.plans.now c.args.limits.retries old new c.loop-turn.explored.lent ways.0 c.lend.ensures.grows before.inside before.ways ways.1 ways.2);
    }
