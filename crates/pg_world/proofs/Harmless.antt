-- A packet on the way is never refused as no message.
use Rattle.std.proofs.Common.{◌≡◌, ◌≢◌, ◌+◌, ℕ, Bool, true, false, cond, max, nat_le}
use Rattle.std.proofs.Common.{map, List, ◌∷◌, ◌++◌, None, Result, Ok, Err, refl, ap}
use Rattle.pg_world_packets.specs.PgMessageTypes.declared.message.Message.{Message}
use Rattle.pg_world_packets.specs.PgStep.Machines.Clocked.{plain, packets_of}
use Rattle.pg_world_packets.specs.PgStep.declared.refusal.Refusal.{Refusal}
use Rattle.pg_world_packets.specs.PgStep.declared.refusal.Refusal.TheVariants.{NotAMessage, ClockFull}
use Rattle.pg_world_packets.specs.PgStep.Config.{Config, name_at, nodes_at}
use Rattle.std.specs.Prelude.{option_map}
use Rattle.pg_world_packets.specs.PgStep.Machines.Losing.{Noticed, Sent, mapped_turn}
use Rattle.pg_world_packets.specs.PgStep.Machines.Machine.{Taken}
use Rattle.pg_world_packets.specs.PgStep.FrameMachine.{placed, losing_machine_of, sent_packet}
use Rattle.pg_world_packets.specs.PgStep.Step.{CLOCK_LIMIT, TimedTurn, at_clock, timed, node_takes}
use Rattle.pg_world_packets.specs.PgStep.Turns.{NodeTurn}
use Rattle.pg_world.specs.Crossings.{IsWelcome}
use Rattle.pg_world_packets.specs.Losing.{losing_of, notices}
use Rattle.pg_world_packets.specs.Worlds.{TimedFrameWorld}

-- what is refused so is refused without a clock
refused_so : (config : Config) (clock : ℕ) (r : Result NodeTurn Refusal) → timed clock r ≡ Err NotAMessage → placed config r ≡ None
refused_so config clock (Err refusal) e = refl
refused_so config clock (Ok t) e = absurd (go (nat_le clock CLOCK_LIMIT) e)
  where
    go : (b : Bool) → ◌≡◌ {A = Result TimedTurn Refusal} (cond b (Ok (at_clock clock t)) (Err ClockFull)) (Err NotAMessage) → ⊥
    go true f = absurd (cc)
    go false f = absurd (cc)

-- ---- who is welcome

pub welcome_left : (config : Config) (w : TimedFrameWorld) (lost : List ℕ) (i p : ℕ)
    → ((packet : Noticed Message) (rest : List (Noticed Message)) → (plain (losing_of config w lost).world).wire p i ≡ packet ∷ rest
    → (losing_machine_of config).step i (w.node i).state (Taken p packet) ≢ None) → IsWelcome config w i p
welcome_left config w lost i p harmless x rest begins refused =
    harmless (Sent x.packet) (packets_of (map sent_packet rest ++ notices config w lost p i)) (ap (λ xs. packets_of (map sent_packet xs ++ notices config w lost p i)) begins)
    (ap (option_map (mapped_turn Sent)) (refused_so config (max (w.node i).clock x.stamp + 1) (node_takes (nodes_at config i) (name_at config p) x.packet (w.node i).state) refused))
