-- Nodes that are compared.
use Rattle.std.proofs.Common.{◌≡◌, ◌↔◌, ℕ, List, Bool, true, Option, Some, Result, Ok, Err, sym, ap, subst, ◌∙◌}
use Rattle.std.specs.Prelude.{IfOk, IsTrue, slice_get}
use Rattle.pg_world.specs.PgGroup.declared.table.GroupTable.{Ghosts}
use Rattle.pg_world.specs.PgNodeState.declared.state.NodeState.{NodeState}
use Rattle.pg_world.specs.PgNodeState.Same.{AreSameNodes}
use Rattle.pg_world.specs.PgNode.declared.node.Node.{Node}
use Rattle.pg_world.proofs.PgStep.Machines.Options.{some_is}
use Rattle.pg_world.specs.PgStep.Config.{Config}
use Rattle.pg_world.specs.PgWorldPackets.declared.step.FrameStep.{FrameStep}
use Rattle.pg_world.specs.PgWorldPackets.declared.frame_world.FrameWorld.{FrameWorld}
use Rattle.pg_world.specs.Crossings.{node_of}
use Rattle.pg_world.specs.PgWorldConfig.Seen.{Seen, seen_of}
use Rattle.pg_world.specs.PgWorldPackets.FrameWorlds.{lost_of, view_of}
use Rattle.pg_world.specs.PgWorldPackets.Worlds.{ShowsNode, TimedFrameWorld}
use Rattle.pg_world.specs.PgStep.LossLaws.{LosingFrameWorld}
use Rattle.pg_cluster_judges.specs.ApartWithLosses.{nodes_in}
use Rattle.pg_world.specs.PgWorldPackets.Losing.{ShowsLosing, losing_of}
use Rattle.pg_world.specs.PgWorldPackets.Past.{RanFrames}
use Rattle.pg_cluster_judges.specs.Judges.{AreShown, Replays, all_made}
use Rattle.pg_cluster_judges.specs.declared.closed.Closed.{Closed}
use Rattle.pg_cluster_judges.specs.Closed.{AreStepsOf, IsReplayed}

-- what holds of each answer
pub of_ok : {X E : Type 0} {P : Type 0} (result : Result X E) → P → IfOk result (λ x. P)
of_ok (Ok x) p = p
of_ok (Err e) p = tt

-- nodes that the world shows are those of the world with losses that it shows
shows_there : (config : Config) (frames : TimedFrameWorld) (lost : List ℕ) (u : LosingFrameWorld) (i : ℕ) (seen : Seen) → u ≡ losing_of config frames lost → ShowsNode config frames i seen
    → ShowsNode config (nodes_in u) i seen
shows_there config frames lost u i seen is shows =
    subst (λ (v : LosingFrameWorld). ShowsNode config (nodes_in v) i seen) (sym is) (record { names = shows.names; ports = shows.ports; state = shows.state; answers = shows.answers })

-- the same run, of whose world something else is said
pub seen_as : (given : Config) (schedule : List FrameStep) (numbers : List ℕ) (One Other : Config → LosingFrameWorld → Type 0) → RanFrames given schedule numbers One
    → ((config : Config) (u : LosingFrameWorld) → One config u → Other config u) → RanFrames given schedule numbers Other
seen_as given schedule numbers One Other ran other = record {
  config = ran.config;
  events = ran.events;
  u = ran.u;
  runs = ran.runs;
  past = record { orders = ran.past.orders; reached = ran.past.reached; shows = other ran.config ran.u ran.past.shows; survived = ran.past.survived; history = ran.past.history };
}

-- a part that is so anyway
pub both_so : {E : Type 0} {b : Bool} (P : Type 0) (result : Result Bool E) → b ≡ true → IfOk result (λ yes. IsTrue yes ↔ P) → IfOk result (λ yes. IsTrue yes ↔ ((b ≡ true) × P))
both_so P (Ok told) is both = (λ holds. (is, both.0 holds), λ p. both.1 p.1)
both_so P (Err e) is both = tt

module _ {T : Type 0} {g : Ghosts T} where
  -- nodes that are the same are seen alike
  seen_same : (one other : NodeState T g) → AreSameNodes one other → seen_of one ≡ seen_of other
  seen_same one other same = λ j. record { names = same.names j; ports = same.ports j; state = same.state j; answers = same.answers j }

  same_seen : (one other : NodeState T g) → seen_of one ≡ seen_of other → AreSameNodes one other
  same_seen one other same =
      record { names = ap (λ (s : Seen). s.names) same; state = ap (λ (s : Seen). s.state) same; ports = ap (λ (s : Seen). s.ports) same; answers = ap (λ (s : Seen). s.answers) same }

  pub shown_one : {E : Type 0} (result : Result Bool E) (one other : NodeState T g) (at : Option Seen) → Some (seen_of other) ≡ at
      → IfOk result (λ same. IsTrue same ↔ AreSameNodes one other) → IfOk result (λ yes. IsTrue yes ↔ (at ≡ Some (seen_of one)))
  shown_one (Ok told) one other at there is =
      (λ holds. sym there ∙ ap Some (sym (seen_same one other (is.0 holds))), λ e. is.1 (same_seen one other (sym (some_is (there ∙ e)))))
  shown_one (Err e) one other at there is = tt

  -- a world that the schedule leads to, and that shows these nodes
  pub replays_so : {E : Type 0} (given : Config) (schedule : List FrameStep) (nodes : List (Node T g)) (world : FrameWorld T g) (numbers : List ℕ) (result : Result Bool E)
      → RanFrames given schedule numbers (λ config. ShowsLosing config (view_of world) (lost_of world))
      → IfOk result (λ yes. IsTrue yes ↔ ((all_made numbers ≡ true) × AreShown (view_of world).traffic.nodes nodes))
      → IfOk result (λ yes. IsTrue yes → Replays given schedule nodes)
  replays_so given schedule nodes world numbers (Ok told) ran shown = λ holds. record {
    numbers = numbers;
    made = (shown.0 holds).0;
    ran = seen_as given schedule numbers (λ config. ShowsLosing config (view_of world) (lost_of world))
        (λ config u. (i : ℕ) (node : Node T g) → slice_get nodes i ≡ Some node → ShowsNode config (nodes_in u) i (node_of node)) ran
        (λ config u shows i node at. shows_there config shows.frames (lost_of world) u i (node_of node) shows.is (shows.shows.traffic.nodes.each i (node_of node) ((shown.0 holds).1 i node at)));
  }
  replays_so given schedule nodes world numbers (Err e) ran shown = tt

-- what follows of an answer
pub ok_so : {X E : Type 0} (P Q : X → Type 0) (result : Result X E) → ((x : X) → P x → Q x) → IfOk result P → IfOk result Q
ok_so P Q (Ok x) then p = then x p
ok_so P Q (Err e) then p = tt

-- the steps of a cluster that has ended lead to its nodes
pub replayed_so : {E : Type 0} (given : Config) (closed : Closed) (steps : List FrameStep) (result : Result Bool E) → AreStepsOf closed steps
    → IfOk result (λ yes. IsTrue yes → Replays given steps closed.nodes.items) → IfOk result (λ yes. IsTrue yes → IsReplayed given closed)
replayed_so given closed steps (Ok told) are replays = λ holds. record { steps = steps; are = are; replays = replays holds }
replayed_so given closed steps (Err e) are replays = tt
