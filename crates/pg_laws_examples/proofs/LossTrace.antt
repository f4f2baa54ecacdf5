-- Events of nodes that can be lost, one after another, each with what it makes.
use Rattle.std.proofs.Common.{◌≡◌, ℕ, Bool, true, false, not, ◌&&◌, cond, List, [], ◌∷◌}
use Rattle.std.proofs.Common.{◌++◌, map, Option, Some, None, Result, Ok, Err, refl, ap, ◌∙◌}
use Rattle.std.specs.Cmp.{first_so, second_so}
use Rattle.std.specs.Prelude.{option_map, option_and_then}
use Rattle.pg_laws.specs.PgMessageTypes.declared.message.Message.{Message}
use Rattle.pg_laws.specs.PgStep.Machines.Places.{is_place, set_at}
use Rattle.pg_laws.specs.PgStep.Machines.Machine.{Event, Take, Do, node_of, is_there, first_from}
use Rattle.pg_laws.specs.PgStep.Machines.Machine.{without_input, turn_of, perform, happens}
use Rattle.pg_laws.specs.PgStep.Machines.Losing.{Noticed, Sent, Last, LosingEvent, Step, Lose}
use Rattle.pg_laws.specs.PgStep.Machines.Losing.{mapped_turn, can_keep, stopped, losing_happens}
use Rattle.pg_laws.specs.PgStep.declared.refusal.Refusal.{Refusal}
use Rattle.pg_laws.specs.PgStep.declared.refusal.Refusal.TheVariants.{NoSuchPlace}
use Rattle.pg_laws.specs.PgStep.State.{State}
use Rattle.pg_laws.specs.PgStep.Turns.{NodeTurn}
use Rattle.pg_laws.specs.PgStep.Step.{Action, node_takes, node_acts}
use Rattle.pg_laws.specs.PgStep.Losses.{see_loss}
use Rattle.pg_laws.specs.PgStep.Config.{Config, name_at, nodes_at, ports_at}
use Rattle.pg_laws.specs.PgStep.FrameMachine.{placed, place_turn, losing_machine_of}
use Rattle.pg_laws_examples.specs.LossExamples.{LosingFrameWorld, the_last, is_last, sees, Come}

-- an event with what its node makes of it, by its state; a loss that a node sees; a loss
pub data Move : Type 0 where
  Makes : Event Action → (State → NodeTurn) → Move
  Sees : (node lost : ℕ) → Move
  Loses : (node : ℕ) → (keep : ℕ → ℕ) → Move

abbrev pub event_of : Move → LosingEvent Action
event_of (Makes e t) = Step e
event_of (Sees i p) = sees i p
event_of (Loses i keep) = Lose i keep

-- the world behind an event that makes this turn
abbrev pub stepped : Config → LosingFrameWorld → Event Action → NodeTurn → LosingFrameWorld
stepped config w e t = record { world = perform (without_input w.world e) (node_of e) (mapped_turn Sent (place_turn config t)); gone = w.gone }

abbrev pub moved : Config → LosingFrameWorld → Move → LosingFrameWorld
moved config w (Makes e t) = stepped config w e (t (w.world.node (node_of e)))
moved config w (Sees i p) = stepped config w (Take i p) (see_loss (name_at config p) (w.world.node i))
moved config w (Loses i keep) = record { world = stopped (losing_machine_of config).size the_last w.world i keep; gone = set_at w.gone i true }

-- the world after some moves
abbrev pub walked : Config → LosingFrameWorld → List Move → LosingFrameWorld
walked config w [] = w
walked config w (m ∷ ms) = walked config (moved config w m) ms

-- what a node makes of the first of these packets
abbrev pub of_first : Config → LosingFrameWorld → ℕ → ℕ → List (Noticed Message) → Result NodeTurn Refusal
of_first config w i p (Sent x ∷ rest) = node_takes (nodes_at config i) (name_at config p) x (w.world.node i)
of_first config w i p _ = Err NoSuchPlace

-- what the node of an event makes of what the event gives it
abbrev pub made_of : Config → LosingFrameWorld → Event Action → Result NodeTurn Refusal
made_of config w (Take i p) = of_first config w i p (w.world.wire p i)
made_of config w (Do i action) = node_acts (nodes_at config i) (ports_at config i) action (w.world.node i)

-- nothing of the losses stands in the way of a move
abbrev pub is_open : Config → LosingFrameWorld → Move → Bool
is_open config w (Makes e t) = is_there (losing_machine_of config).size e && not (w.gone (node_of e))
is_open config w (Sees i p) = is_there {C = Action} (losing_machine_of config).size (Take i p)
    && (not (w.gone i) && (is_last (w.world.wire p i) && not ((w.world.node i).lost (name_at config p))))
is_open config w (Loses i keep) = is_place (losing_machine_of config).size i && (not (w.gone i) && can_keep (losing_machine_of config).size w.world i keep)

abbrev pub all_open : Config → LosingFrameWorld → List Move → Bool
all_open config w [] = true
all_open config w (m ∷ ms) = is_open config w m && all_open config (moved config w m) ms

-- an event makes the turn beside it
abbrev pub Made : Config → LosingFrameWorld → Move → Type 0
Made config w (Makes e t) = made_of config w e ≡ Ok (t (w.world.node (node_of e)))
Made config w _ = Unit {0}

abbrev pub AllMade : Config → LosingFrameWorld → List Move → Type 0
AllMade config w [] = Unit {0}
AllMade config w (m ∷ ms) = Made config w m × AllMade config (moved config w m) ms

-- moves, and others behind them
pub and_more : (config : Config) (ms ns : List Move) (w : LosingFrameWorld) → AllMade config w ms → AllMade config (walked config w ms) ns → AllMade config w (ms ++ ns)
and_more config [] ns w made more = more
and_more config (m ∷ ms) ns w made more = (made.0, and_more config ms ns (moved config w m) made.1 more)

module _ (config : Config) (w : LosingFrameWorld) where
  turns : (e : Event Action) (t : NodeTurn) → is_there (losing_machine_of config).size e ≡ true → not (w.gone (node_of e)) ≡ true
      → turn_of (losing_machine_of config) w.world e ≡ Some (mapped_turn Sent (place_turn config t))
      → losing_happens (losing_machine_of config) the_last w (Step e) ≡ Some (stepped config w e t)
  unfolding losing_happens happens
  turns e t there stays made = here (w.gone (node_of e)) stays
    where
      here : (gone : Bool) → not gone ≡ true
          → cond gone None (option_map (λ v. record { world = v; gone = w.gone }) (cond (is_there (losing_machine_of config).size e) (option_map (perform (without_input w.world e) (node_of e)) (turn_of (losing_machine_of config) w.world e)) None)) ≡ Some (stepped config w e t)
      here true so = absurd (cc)
      here false so =
          ap (λ b. option_map (λ v. record { world = v; gone = w.gone }) (cond b (option_map (perform (without_input w.world e) (node_of e)) (turn_of (losing_machine_of config) w.world e)) None)) there
          ∙ ap (λ r. option_map (λ v. record { world = v; gone = w.gone }) (option_map (perform (without_input w.world e) (node_of e)) r)) made

  turn_made : (e : Event Action) (t : NodeTurn) → made_of config w e ≡ Ok t → turn_of (losing_machine_of config) w.world e ≡ Some (mapped_turn Sent (place_turn config t))
  turn_made (Take i p) t made = go (w.world.wire p i) made
    where
      go : (xs : List (Noticed Message)) → of_first config w i p xs ≡ Ok t
          → option_and_then ((losing_machine_of config).step i (w.world.node i)) (first_from p xs) ≡ Some (mapped_turn Sent (place_turn config t))
      go [] e = absurd (cc)
      go (Last ∷ rest) e = absurd (cc)
      go (Sent x ∷ rest) e = ap (λ r. option_map (mapped_turn Sent) (placed config r)) e
  turn_made (Do i action) t made = ap (λ r. option_map (mapped_turn Sent) (placed config r)) made

  loss_seen : (i p : ℕ) → is_last (w.world.wire p i) ≡ true → not ((w.world.node i).lost (name_at config p)) ≡ true
      → turn_of (losing_machine_of config) w.world (Take i p) ≡ Some (mapped_turn Sent (place_turn config (see_loss (name_at config p) (w.world.node i))))
  loss_seen i p last new = go (w.world.wire p i) last
    where
      go : (xs : List (Noticed Message)) → is_last xs ≡ true
          → option_and_then ((losing_machine_of config).step i (w.world.node i)) (first_from p xs) ≡ Some (mapped_turn Sent (place_turn config (see_loss (name_at config p) (w.world.node i))))
      go [] e = absurd (cc)
      go (Sent x ∷ rest) e = absurd (cc)
      go (Last ∷ rest) e = here ((w.world.node i).lost (name_at config p)) new
        where
          here : (lost : Bool) → not lost ≡ true
              → option_map (mapped_turn Sent) (cond lost None (Some (place_turn config (see_loss (name_at config p) (w.world.node i))))) ≡ Some (mapped_turn Sent (place_turn config (see_loss (name_at config p) (w.world.node i))))
          here true so = absurd (cc)
          here false so = refl

  happens_so : (m : Move) → is_open config w m ≡ true → Made config w m → losing_happens (losing_machine_of config) the_last w (event_of m) ≡ Some (moved config w m)
  unfolding losing_happens
  happens_so (Makes e t) ready made =
      turns e (t (w.world.node (node_of e))) (first_so (is_there (losing_machine_of config).size e) (not (w.gone (node_of e))) ready)
      (second_so (is_there (losing_machine_of config).size e) (not (w.gone (node_of e))) ready) (turn_made e (t (w.world.node (node_of e))) made)
  happens_so (Sees i p) ready made =
      let rest = second_so there (stays && (last && unseen)) ready in
      let ended = second_so stays (last && unseen) rest in
      turns (Take i p) (see_loss (name_at config p) (w.world.node i)) (first_so there (stays && (last && unseen)) ready) (first_so stays (last && unseen) rest)
      (loss_seen i p (first_so last unseen ended) (second_so last unseen ended))
    where
      there : Bool
      there = is_there {C = Action} (losing_machine_of config).size (Take i p)

      stays : Bool
      stays = not (w.gone i)

      last : Bool
      last = is_last (w.world.wire p i)

      unseen : Bool
      unseen = not ((w.world.node i).lost (name_at config p))
  happens_so (Loses i keep) ready made = ap (λ b. cond b (Some (moved config w (Loses i keep))) None) ready

-- so all of them happen, and lead there
pub walk : (config : Config) (ms : List Move) (w : LosingFrameWorld) → all_open config w ms ≡ true → AllMade config w ms → Come config w (map event_of ms) (walked config w ms)
walk config [] w ready made = refl
walk config (m ∷ ms) w ready made = (
  moved config w m,
  happens_so config w m (first_so (is_open config w m) (all_open config (moved config w m) ms) ready) made.0,
  walk config ms (moved config w m) (second_so (is_open config w m) (all_open config (moved config w m) ms) ready) made.1,
)
