-- Worlds of packets whose nodes may be lost: the world with losses that they show, and what a step makes of it.
use Rattle.std.specs.Prelude.{◌≡◌, ℕ, suc, ◌+◌, ◌-◌, Bool, true, false, not, ◌&&◌, ◌||◌, cond, nat_eq, nat_le, nat_lt, map}
use Rattle.std.specs.Prelude.{length, get_or, slice_get, List, [], ◌∷◌, ◌++◌, Option, Some, None, Result, Ok, Err}
use Rattle.std.specs.List.{list_all}
use Rattle.std.specs.Option.{option_map_or}
use Rattle.pg_node_state.specs.PgGroup.declared.table.GroupTable.{Ghosts}
use Rattle.pg_node_state.specs.PgMessageTypes.declared.message.Message.{Message}
use Rattle.pg_node_state.specs.PgStep.Machines.Places.{is_place, is_pair}
use Rattle.pg_node_state.specs.PgStep.Machines.Machine.{Take, Do}
use Rattle.pg_node_state.specs.PgStep.Machines.Clocked.{Timed, Stamped}
use Rattle.pg_node_state.specs.PgStep.Machines.Losing.{Noticed, Sent, Last, LosingEvent, Step, Lose, losing_happens, each_place}
use Rattle.pg_node_state.specs.PgStep.declared.refusal.Refusal.{Refusal}
use Rattle.pg_node_state.specs.PgStep.declared.refusal.Refusal.TheVariants.{NoSuchPlace, NodeLost, NotLost, NotDrained}
use Rattle.pg_node_state.specs.PgStep.Config.{Config, name_at, nodes_at, ports_at}
use Rattle.pg_node_state.specs.PgStep.Faults.{first_that_holds}
use Rattle.pg_node_state.specs.PgStep.FrameMachine.{losing_frame_machine, last_notice, sent_packet}
use Rattle.pg_node_state.specs.PgStep.LossLaws.{LosingFrameWorld, is_notice, see_refusal}
use Rattle.pg_node_state.specs.PgStep.Nodes.{Node, Nodes}
use Rattle.pg_node_state.specs.PgStep.State.{State, formed, live_nodes}
use Rattle.pg_node_state.specs.PgStep.Step.{Action, Issue, Retry, step_take, step_act}
use Rattle.pg_node_state.specs.PgStep.StepLaws.{refusal_of, port_of}
use Rattle.pg_laws_losses.specs.PgLaws.WithLosses.{has_seen}
use Rattle.pg_node_state.specs.PgNodeOpens.Places.{name_at as place_name, whole_in}
use Rattle.pg_node_state.specs.declared.state.fault.NodeFault.{NodeFault}
use Rattle.pg_node_state.specs.declared.state.fault.NodeFault.TheVariants.{Refused, OutOfMemory}
use Rattle.pg_world_packets.specs.declared.step.FrameStep.{FrameStep}
use Rattle.pg_world_packets.specs.declared.step.FrameStep.TheVariants as steps
use Rattle.pg_world_packets.specs.declared.step.Stepped.{Stepped}
use Rattle.pg_world_packets.specs.declared.step.Stepped.TheVariants.{Nothing, Happened, Gone}
use Rattle.pg_world_packets.specs.declared.world.FrameNodes.{FrameNodes}
use Rattle.pg_world_account.specs.Histories.{Account, account_formed}
use Rattle.pg_world_account.specs.Losses.{is_lost, lost_in}
use Rattle.pg_world_config.specs.Seen.{Seen}
use Rattle.pg_world_packets.specs.Effects.{losing_effect_in}
use Rattle.pg_world_packets.specs.Views.{View, peer_place}
use Rattle.pg_world_packets.specs.Worlds.{TimedFrameWorld, ShowsWorld}
use Rattle.pg_laws_losses.specs.Reached.{LosingReaches}

-- ---- the world with losses that a world shows

-- the last notice that is on the way from a lost node to one that has not seen its loss
abbrev pub notices : Config → TimedFrameWorld → List ℕ → ℕ → ℕ → List (Stamped (Noticed Message))
notices config w lost x y = cond (is_pair (length config) x y && (is_lost lost x && not ((w.node y).state.lost (name_at config x)))) (last_notice (w.node x) ∷ []) []

-- The world where these nodes are lost, and the others are as in a world without losses: what is on the way there stands before
-- the last notices.
abbrev pub losing_of : Config → TimedFrameWorld → List ℕ → LosingFrameWorld
losing_of config w lost = record {
  world = record {
    node = w.node;
    wire = λ x y. map sent_packet (w.wire x y) ++ notices config w lost x y;
    reported = w.reported;
  };
  gone = is_lost lost;
}

-- who has seen the loss of a node has seen it of one that is lost
abbrev pub SeenAreLost : Config → TimedFrameWorld → List ℕ → Type 0
SeenAreLost config w lost = (i p : ℕ) → is_pair (length config) i p ≡ true → (w.node i).state.lost (name_at config p) ≡ true → is_lost lost p ≡ true

-- Nodes and what is on the way between them, of which these are lost, are those of a world with losses.
pub record ShowsLosing (config : Config) (view : View) (lost : List ℕ) (u : LosingFrameWorld) : Type 0 where
  pub frames : TimedFrameWorld
  pub shows : ShowsWorld config view frames
  pub seen : SeenAreLost config frames lost
  pub is : u ≡ losing_of config frames lost

-- ---- what a world knows of its losses

-- the nodes of a world that are lost
abbrev pub lost_of : {T : Type 0} {g : Ghosts T} → FrameNodes T g → List ℕ
lost_of world = lost_in world.losses

-- node i has seen the loss of node p
abbrev pub seen_at : List Seen → ℕ → ℕ → Bool
seen_at nodes i p = option_map_or (λ node. node.state.state.lost (place_name node.names (peer_place i p + 1))) (slice_get nodes i) false

-- node i is lost, or has seen the loss of node p
abbrev pub is_cut_off : List Seen → List ℕ → ℕ → ℕ → Bool
is_cut_off nodes lost i p = is_lost lost i || (is_lost lost p && seen_at nodes i p)

-- the step is one of a lost node, or one with a peer whose loss the node has seen
abbrev pub is_barred : List Seen → List ℕ → FrameStep → Bool
is_barred nodes lost (steps.Take i p) = is_cut_off nodes lost i p
is_barred nodes lost (steps.Command i port command) = is_lost lost i
is_barred nodes lost (steps.Retry i op) = is_lost lost i
is_barred nodes lost (steps.SeeLoss i p) = is_cut_off nodes lost i p
is_barred nodes lost (steps.Lose i keep) = false

-- the lost nodes where a node may be one more
abbrev pub lost_with : ℕ → Result Stepped NodeFault → List ℕ → List ℕ
lost_with node (Ok stepped) lost = lost ++ node ∷ []
lost_with node (Err fault) lost = lost

-- the lost nodes behind a step
abbrev pub lost_after : FrameStep → Result Stepped NodeFault → List ℕ → List ℕ
lost_after (steps.Lose i keep) result lost = lost_with i result lost
lost_after step result lost = lost

-- a node is formed: of those that count each has told its groups
abbrev pub is_formed : Seen → Bool
is_formed node = formed (live_nodes (whole_in node.names) node.state.state) node.state.state

-- whether every node was formed when the first was lost, where one is lost more
abbrev pub formed_at : List Seen → List ℕ → Bool → Bool
formed_at nodes [] formed = list_all is_formed nodes
formed_at nodes (node ∷ lost) formed = formed

-- the same where a node may be one more
abbrev pub formed_with : Result Stepped NodeFault → List Seen → List ℕ → Bool → Bool
formed_with (Ok stepped) nodes lost formed = formed_at nodes lost formed
formed_with (Err fault) nodes lost formed = formed

-- what is kept behind a loss, where a node may be one more
abbrev pub account_with : Result Stepped NodeFault → List Seen → List ℕ → Account → Account
account_with (Ok stepped) nodes lost account = account_formed (formed_at nodes lost account.formed) account
account_with (Err fault) nodes lost account = account

-- whether every node was formed when the first was lost, behind a step
abbrev pub formed_after : FrameStep → Result Stepped NodeFault → List Seen → List ℕ → Bool → Bool
formed_after (steps.Lose i keep) result nodes lost formed = formed_with result nodes lost formed
formed_after step result nodes lost formed = formed

-- ---- steps

-- how many packets stay on the way from a node to another
abbrev pub keep_of : ℕ → List ℕ → ℕ → ℕ
keep_of node keep y = get_or keep (peer_place node y) 0

-- no packet is on the way, but a notice may be
abbrev pub none_sent : List (Stamped (Noticed Message)) → Bool
none_sent [] = true
none_sent (x ∷ rest) = is_notice x.packet

-- why a packet is refused, if it is
abbrev pub packet_refusal : Nodes → Node → Timed State → ℕ → Noticed Message → Option Refusal
packet_refusal m p s stamp (Sent y) = refusal_of (step_take m p (record { stamp = stamp; packet = y }) s)
packet_refusal m p s stamp Last = None

-- why the first packet of a peer is refused, if it is
abbrev pub first_refusal : Nodes → Node → Timed State → List (Stamped (Noticed Message)) → Option Refusal
first_refusal m p s [] = None
first_refusal m p s (x ∷ rest) = packet_refusal m p s x.stamp x.packet

-- why a node does not take a packet of a peer, the first that holds
abbrev pub take_refusal : Config → LosingFrameWorld → ℕ → ℕ → Option Refusal
take_refusal config u i p =
    cond (is_pair (length config) i p)
    (cond (u.gone i || has_seen config u i p) (Some NodeLost) (first_refusal (nodes_at config i) (name_at config p) (u.world.node i) (u.world.wire p i)))
    (Some NoSuchPlace)

-- why a node does not do something of its own, the first that holds
abbrev pub own_refusal : Config → LosingFrameWorld → ℕ → Action → Option Refusal
own_refusal config u i action =
    cond (is_place (length config) i && nat_lt (port_of action) (ports_at config i))
    (cond (u.gone i) (Some NodeLost) (refusal_of (step_act (nodes_at config i) (ports_at config i) action (u.world.node i))))
    (Some NoSuchPlace)

-- ---- what is told of a step

-- What is told of a step in a world: its event, why it is refused, if it is, whether it would take a packet where none is on the
-- way, and whether a node is lost by it.
pub record Telling : Type 0 where
  pub event : LosingEvent Action
  pub refusal : Option Refusal
  pub is_idle : Bool
  pub is_loss : Bool

-- a packet is taken
abbrev pub told_take : Config → LosingFrameWorld → ℕ → ℕ → Telling
told_take config u i p = record { event = Step (Take i p); refusal = take_refusal config u i p; is_idle = none_sent (u.world.wire p i); is_loss = false }

-- something of its own
abbrev pub told_own : Config → LosingFrameWorld → ℕ → Action → Telling
told_own config u i action = record { event = Step (Do i action); refusal = own_refusal config u i action; is_idle = false; is_loss = false }

-- a loss is seen, by taking the last notice
abbrev pub told_sight : Config → LosingFrameWorld → ℕ → ℕ → Telling
told_sight config u i p = record { event = Step (Take i p); refusal = see_refusal config u i p; is_idle = false; is_loss = false }

-- how many packets are on the way, of which a last notice is none
abbrev pub count_sent : List (Stamped (Noticed Message)) → ℕ
count_sent [] = 0
count_sent (x ∷ rest) = cond (is_notice x.packet) (count_sent rest) (suc (count_sent rest))

-- no more packets should stay on a way from node i than are there
abbrev pub can_stay : Config → LosingFrameWorld → ℕ → List ℕ → Bool
can_stay config u i keep = each_place (length config) (λ y. not (is_pair (length config) i y) || nat_le (keep_of i keep y) (count_sent (u.world.wire i y)))

-- why a node is not lost, the first that holds: it is not there, has not a number for each of its peers, or more packets should stay
-- than are on a way; or it is lost
abbrev pub loss_refusal : Config → LosingFrameWorld → ℕ → List ℕ → Option Refusal
loss_refusal config u i keep = first_that_holds (
    (not (is_place (length config) i && (nat_eq (length keep) (length config - 1) && can_stay config u i keep)), NoSuchPlace)
    ∷ (u.gone i, NodeLost) ∷ [])

-- A node is lost, with a number for each of its peers of how many packets stay on the way there.
abbrev pub told_loss : Config → LosingFrameWorld → ℕ → List ℕ → Telling
told_loss config u i keep = record { event = Lose i (keep_of i keep); refusal = loss_refusal config u i keep; is_idle = false; is_loss = true }

abbrev pub told_of : Config → LosingFrameWorld → FrameStep → Telling
told_of config u (steps.Take i p) = told_take config u i p
told_of config u (steps.Command i port command) = told_own config u i (Issue port command)
told_of config u (steps.Retry i op) = told_own config u i (Retry op)
told_of config u (steps.SeeLoss i p) = told_sight config u i p
told_of config u (steps.Lose i keep) = told_loss config u i keep.items

-- nothing refuses a step, and a packet is on the way if it takes one
pub record CanBeMade (told : Telling) : Type 0 where
  pub allowed : told.refusal ≡ None
  pub busy : told.is_idle ≡ false

-- A refusal that is told whatever memory there is: a place is not there, a node is lost or not, or its packets are not all taken.
abbrev pub is_told_first : Option Refusal → Bool
is_told_first (Some NoSuchPlace) = true
is_told_first (Some NodeLost) = true
is_told_first (Some NotLost) = true
is_told_first (Some NotDrained) = true
is_told_first refusal = false

-- its event happened, and led to a world with losses that is shown
abbrev pub LosingLed : Config → LosingFrameWorld → LosingEvent Action → (LosingFrameWorld → Type 0) → Type 0
LosingLed config u e Shown = (v : LosingFrameWorld) × (losing_happens (losing_frame_machine config) last_notice u e ≡ Some v) × Shown v

-- What came of a step in the world u: it can be made, happened, did what is reported, and led to a world that is shown; nothing was on
-- the way; or memory ran out where no refusal is told first, or it was refused as is told, and the world u is shown.
abbrev pub LosingComesTo : Config → LosingFrameWorld → Telling → Result Stepped NodeFault → (LosingFrameWorld → Type 0) → Type 0
LosingComesTo config u told (Ok (Happened effect)) Shown = (told.is_loss ≡ false) × CanBeMade told × (losing_effect_in config u told.event ≡ Some effect) × LosingLed config u told.event Shown
LosingComesTo config u told (Ok Gone) Shown = (told.is_loss ≡ true) × CanBeMade told × LosingLed config u told.event Shown
LosingComesTo config u told (Ok Nothing) Shown = (told.is_idle ≡ true) × (told.refusal ≡ None) × Shown u
LosingComesTo config u told (Ok stepped) Shown = ⊥
LosingComesTo config u told (Err OutOfMemory) Shown = (is_told_first told.refusal ≡ false) × Shown u
LosingComesTo config u told (Err (Refused refusal)) Shown = (told.refusal ≡ Some refusal) × Shown u
LosingComesTo config u told (Err fault) Shown = ⊥

-- a world with losses that events lead to from the start
abbrev pub IsReachedLosing : Config → LosingFrameWorld → Type 0
IsReachedLosing config u = (events : List (LosingEvent Action)) × LosingReaches config events u
