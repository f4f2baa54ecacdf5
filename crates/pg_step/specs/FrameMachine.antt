-- The frame world: the nodes of a configuration, each by its step, and for each two of them the packets on the way.
use Rattle.std.specs.Prelude.{ℕ, cond, length, [], ◌∷◌, Option, Some, None, Result, Ok, Err}
use Rattle.pg_message_types.specs.declared.message.Message.{Message}
use Rattle.pg_message_types.specs.declared.message.Message.TheVariants.{Exchange}
use Rattle.pg_step.specs.Machines.Places.{is_place, is_pair}
use Rattle.pg_step.specs.Machines.Machine.{Machine, Turn, Input, Taken, Own}
use Rattle.pg_step.specs.Machines.Clocked.{Timed, Stamped, clocked}
use Rattle.pg_step.specs.State.{State, new_state}
use Rattle.pg_step.specs.Turns.{NodeTurn, Report}
use Rattle.pg_step.specs.Step.{CLOCK_LIMIT, Action, node_takes, node_acts}
use Rattle.pg_step.specs.Losses.{see_loss}
use Rattle.pg_step.specs.Machines.Losing.{Noticed, Sent, Last, with_notices}
use Rattle.pg_step.specs.declared.refusal.Refusal.{Refusal}
use Rattle.pg_step.specs.Machines.Machine.{World}
use Rattle.pg_step.specs.Config.{Config, name_at, nodes_at, groups_at, made_at, ports_at, first_table}

-- the nodes of a configuration, and the packets on the way between them
abbrev pub FrameWorld : Type 0
FrameWorld = World State Message Report

-- a turn, with places for the names of those it sends to
abbrev pub place_turn : Config → NodeTurn → Turn State Message Report
place_turn config t = record {
  state = t.state;
  sends = λ q. cond (is_place (length config) q) (t.sends (name_at config q)) [];
  reported = t.reported;
}

abbrev pub placed : Config → Result NodeTurn Refusal → Option (Turn State Message Report)
placed config (Ok t) = Some (place_turn config t)
placed config (Err refusal) = None

abbrev pub node_step : Config → ℕ → State → Input Message Action → Option (Turn State Message Report)
node_step config i s (Taken p x) = placed config (node_takes (nodes_at config i) (name_at config p) x s)
node_step config i s (Own action) = placed config (node_acts (nodes_at config i) (ports_at config i) action s)

-- Each node has sent its groups to each other at the start.
abbrev pub machine_of : Config → Machine State Message Action Report
machine_of config = record {
  size = length config;
  first = λ i. new_state (first_table (groups_at config i)) (made_at config i);
  opening = λ x y. cond (is_pair (length config) x y) (Exchange (name_at config x) (groups_at config x) ∷ []) [];
  step = node_step config;
}

-- The nodes with their clocks, and packets with stamps.
abbrev pub frame_machine : Config → Machine (Timed State) (Stamped Message) Action Report
frame_machine config = clocked CLOCK_LIMIT (machine_of config)

-- ---- with losses

-- What node i makes of the loss of node p, which it has not seen before.
abbrev pub see_step : Config → ℕ → ℕ → State → Option (Turn State Message Report)
see_step config i p s = cond (s.lost (name_at config p)) None (Some (place_turn config (see_loss (name_at config p) s)))

-- The nodes of a configuration, where each can see the loss of another.
abbrev pub losing_machine_of : Config → Machine State (Noticed Message) Action Report
losing_machine_of config = with_notices (machine_of config) (see_step config)

-- With their clocks. The last notice carries the clock of the lost node, so that who sees the loss is later.
abbrev pub losing_frame_machine : Config → Machine (Timed State) (Stamped (Noticed Message)) Action Report
losing_frame_machine config = clocked CLOCK_LIMIT (losing_machine_of config)

abbrev pub last_notice : Timed State → Stamped (Noticed Message)
last_notice s = record { stamp = s.clock; packet = Last }

-- a packet on the way between nodes of which none is lost
abbrev pub sent_packet : Stamped Message → Stamped (Noticed Message)
sent_packet x = record { stamp = x.stamp; packet = Sent x.packet }
