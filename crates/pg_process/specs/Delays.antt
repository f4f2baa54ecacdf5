-- Over how many ticks a port keeps a change that it could hand over.
use Rattle.std.specs.Prelude.{◌≡◌, ◌≤◌, ◌+◌, ◌<◌, ℕ, cond, List, [], ◌∷◌, ⊤}
use Rattle.pg_node_process.specs.Bodies.{body_of}
use Rattle.pg_process.specs.Accounts.{hands_in}
use Rattle.pg_process.specs.Hearing.{is_tick}
use Rattle.pg_process.specs.Serving.{TakeTurns}
use Rattle.pg_process.specs.Situations.{Setting, Situation, situation_of}
use Rattle.pg_process.specs.Waits.{Keeps}

-- a port hands over nothing while bodies are heard in their turns
abbrev pub HandsNone : (set : Setting) (port : ℕ) (bodies : List (List ℕ)) (a b : Situation) → TakeTurns set bodies a b → Type 0
HandsNone set port [] a b turns = ⊤
HandsNone set port (body ∷ bodies) a b turns = (hands_in port turns.5.steps ≡ []) × HandsNone set port bodies (situation_of turns.1) b turns.6

-- how many of them are ticks
abbrev pub ticks_among : (set : Setting) (bodies : List (List ℕ)) (a b : Situation) → TakeTurns set bodies a b → ℕ
ticks_among set [] a b turns = 0
ticks_among set (body ∷ bodies) a b turns = cond (is_tick (body_of turns.0.parties body)) 1 0 + ticks_among set bodies (situation_of turns.1) b turns.6

-- A port that keeps a change hands one over by the second tick: while it hands over nothing there is one at most.
abbrev pub NoPortKeepsForLong : Type 0
NoPortKeepsForLong = (set : Setting) (port : ℕ) (bodies : List (List ℕ)) (a b : Situation) (turns : TakeTurns set bodies a b)
    → port < set.ports → Keeps port a → HandsNone set port bodies a b turns → ticks_among set bodies a b turns ≤ 1
