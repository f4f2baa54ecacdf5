-- The law of src/laws.rt of ports that keep a change.
use Rattle.std.proofs.Common.{◌≡◌, ◌≤◌, ◌<◌, ◌+◌, ℕ, Bool, true, false, cond, List, [], ◌∷◌, sym, subst, arith}
use Rattle.pg_node_process.specs.Retries.{gives_way, ticks_left}
use Rattle.pg_node_process.specs.declared.retries.Courtesy.{Courtesy}
use Rattle.pg_process.specs.Delays.{HandsNone, NoPortKeepsForLong, ticks_among}
use Rattle.pg_process.specs.Serving.{TakeTurns}
use Rattle.pg_process.specs.Situations.{Setting, Situation, situation_of}
use Rattle.pg_process.specs.Waits.{Keeps}

few_of : (b w : Bool) → cond b (cond w 1 2) 0 ≤ 2
few_of true true = omega arith
few_of true false = omega arith
few_of false w = omega arith

some_of : (w : Bool) → 1 ≤ cond w 1 2
some_of true = omega arith
some_of false = omega arith

-- at two ticks at most, and at one at least
few_left : (c : Courtesy) → ticks_left c ≤ 2
few_left c = few_of (gives_way c) c.has_waited

some_left : (c : Courtesy) → gives_way c ≡ true → 1 ≤ ticks_left c
some_left c gives = subst (λ (b : Bool). 1 ≤ cond b (cond c.has_waited 1 2) 0) (sym gives) (some_of c.has_waited)

fewer : (set : Setting) (port : ℕ) (bodies : List (List ℕ)) (a b : Situation) (turns : TakeTurns set bodies a b) → port < set.ports → Keeps port a → HandsNone set port bodies a b turns
    → ticks_among set bodies a b turns + 1 ≤ ticks_left (a.courtesies port)
fewer set port [] a b turns there keeps none = some_left (a.courtesies port) keeps.gives
fewer set port (body ∷ bodies) a b turns there keeps none =
    let on = turns.5.ports port there keeps none.0 in
    let rest = fewer set port bodies (situation_of turns.1) b turns.6 there on.keeps none.1 in
    sums _ _ _ _ on.fewer rest
  where
    sums : (t later m x : ℕ) → m + t ≤ x → later + 1 ≤ m → t + later + 1 ≤ x
    sums t later m x p q = omega (arith, p, q)

pub no_port_keeps_for_long : NoPortKeepsForLong
no_port_keeps_for_long set port bodies a b turns there keeps none = last _ _ (fewer set port bodies a b turns there keeps none) (few_left (a.courtesies port))
  where
    last : (t x : ℕ) → t + 1 ≤ x → x ≤ 2 → t ≤ 1
    last t x p q = omega (arith, p, q)
