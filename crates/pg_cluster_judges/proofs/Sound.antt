-- No link is damaged: what a node told a fault of would begin with the frame of a packet that is next on its way in the run, and that
-- packet was no message that the node refuses.
use Rattle.std.proofs.Common.{◌≡◌, ◌≢◌, ◌<◌, ◌+◌, ◌∙◌, ℕ, Bool, true, false, length, map, List}
use Rattle.std.proofs.Common.{◌∷◌, ◌++◌, Err, refl, sym, ap, subst, inl, inr, ◌⊎◌, append_assoc}
use Rattle.std.proofs.lemmas.List.{map-append}
use Rattle.pg_world.specs.PgFrame.Laws.{PiecesContinue, WrittenIsRead}
use Rattle.pg_world.specs.PgGroup.declared.table.GroupTable.{Ghosts}
use Rattle.pg_world.specs.PgLaws.Reached.{TimedFrameWorld, Reaches}
use Rattle.pg_cluster_judges.specs.Joined.{Joined, Passes}
use Rattle.pg_cluster_judges.specs.Logs.{NodeLeads}
use Rattle.pg_world.specs.PgStep.Machines.Clocked.{Stamped}
use Rattle.pg_world.specs.PgStep.Machines.Machine.{Event, start_of}
use Rattle.pg_world.specs.PgStep.Machines.Places.{is_pair}
use Rattle.pg_world.specs.PgStep.Machines.Runs.{Leads}
use Rattle.pg_world.specs.PgMessageTypes.declared.message.Message.{Message}
use Rattle.pg_world.specs.PgNode.declared.node.Node.{Node}
use Rattle.pg_world.specs.PgNodeState.Issued.{ports_of}
use Rattle.pg_world.specs.PgNode.Links.{Link}
use Rattle.pg_world.specs.PgNode.Nodes.{held_by, links_of}
use Rattle.pg_world.specs.PgNodeState.States.{names_of}
use Rattle.pg_world.specs.PgNodeOpens.Places.{name_at as place_name}
use Rattle.pg_node_run.specs.Acts.{SawNone, Standing, losses_of}
use Rattle.pg_node_run.specs.Follows.{WasMarked, node_of, standing_of}
use Rattle.pg_node_run.proofs.Moving.{none_first}
use Rattle.pg_world.specs.PgStep.Config.{Config, name_at, names_of as names_in, nodes_at, ports_at}
use Rattle.pg_world.specs.PgStep.FrameMachine.{frame_machine}
use Rattle.pg_world.specs.PgStep.Nodes.{Node as Name, all_of}
use Rattle.pg_world.specs.PgStep.Step.{Action, step_take}
use Rattle.pg_world.specs.PgStep.declared.refusal.Refusal.TheVariants.{NotAMessage}
use Rattle.pg_cluster_judges.specs.Apart.{Linked, HaveRun, Unseen}
use Rattle.pg_cluster_judges.proofs.Begun.{links_there, place_there, shown}
use Rattle.pg_cluster_judges.proofs.Crossing.{PutsFirst, bytes_cross, left_crosses, left_frames, left_on, puts_all, unread_on}
use Rattle.pg_cluster_judges.proofs.Logged.{acts_on, ends_on, logs_on}
use Rattle.pg_cluster_judges.proofs.Next.{refused_first}
use Rattle.pg_cluster_judges.proofs.Turns.{act_at, leads_alike}
use Rattle.pg_world.specs.PgWorldPackets.Views.{peer_place}
use Rattle.pg_world.proofs.PgWorldPackets.Peering.{named, peer_name, there_and_back}
use Rattle.pg_world.proofs.PgWorldPackets.Turning.{pair_is, pair_turned}

-- what first_packets_were_welcome of pg_laws says of a configuration
abbrev pub WereWelcome : Config → Type 0
WereWelcome config = (m w : TimedFrameWorld) (before events : List (Event Action)) (i p : ℕ) (x : Stamped Message) (rest : List (Stamped Message))
    → Reaches config before m → Leads (frame_machine config) m events w → is_pair (length config) i p ≡ true → w.wire p i ≡ x ∷ rest
    → step_take (nodes_at config i) (name_at config p) x (m.node i) ≢ Err NotAMessage

module _ {T : Type 0} {g : Ghosts T} (config : Config) (nodes : List (Node T g)) (begun ended : ℕ → Linked T g) (ran : HaveRun config nodes begun ended) (unseen : Unseen config nodes begun ended ran) (events : List (Event Action))
    (run : Joined (frame_machine config) (logs_on config nodes begun ended ran unseen) (acts_on config nodes begun ended ran unseen) (ends_on config nodes begun ended ran unseen) (left_on config nodes begun ended ran) events)
    (welcome : WereWelcome config) (more : PiecesContinue) (read : WrittenIsRead) (x y : ℕ) (pair : is_pair (length config) x y ≡ true) where
  within : x < length config
  within = (pair_is (length config) x y pair).0

  turned : is_pair (length config) y x ≡ true
  turned = pair_turned (length config) x y pair

  puts : PutsFirst config nodes begun ended ran y x
  puts = puts_all config nodes begun ended ran unseen y x

  abbrev names : List Name
  names = all_of (nodes_at config x)

  abbrev place : ℕ
  place = peer_place x y

  abbrev start : Standing
  start = standing_of (node_of (begun x))

  abbrev end : Standing
  end = standing_of (node_of (ended x))

  abbrev Marked : Type 0
  Marked = WasMarked names (ports_at config x) place (ran.acts x) start end (unread_on config nodes begun ended ran y x)

  peer_named : place_name names (place + 1) ≡ name_at config y
  peer_named = peer_name config x within place
      ∙ (ap (place_name (names_in config)) (there_and_back x y (pair_is (length config) x y pair).2) ∙ sym (named config x within y))

  -- the run passes the state in which the link was marked
  passes : (mark : Marked) → Passes (frame_machine config) (start_of (frame_machine config)) events run.world x mark.middle.state
  passes mark = run.passes x within (map (act_at config x) mark.before) (map (act_at config x) mark.after) mark.middle.state
      (ap (map (act_at config x)) mark.cut ∙ map-append (act_at config x) mark.before mark.after)
      (subst (λ s. NodeLeads (frame_machine config) x s (map (act_at config x) mark.before) mark.middle.state) (sym (shown config nodes begun ended ran x within).state)
      (leads_alike config x within start mark.before mark.middle none_seen mark.led))
    where
      none_seen : SawNone mark.before
      none_seen p = none_first p mark.before mark.after (ap (losses_of p) (sym mark.cut) ∙ unseen x within p)

  never_marked : Marked → ⊥
  never_marked mark =
      let bytes = bytes_cross config nodes begun ended ran y x turned puts in
      let frames = sym (append_assoc mark.left mark.later bytes.0) ∙ (ap (λ w. w ++ bytes.0) (sym mark.came) ∙ left_frames config nodes begun ended ran y x turned puts more read) in
      let next = refused_first more read (nodes_at config x) (place_name names (place + 1)) mark.middle.state mark.left (mark.later ++ bytes.0) (left_on config nodes begun ended ran y x) mark.fault
      (left_crosses config nodes begun ended ran y x turned puts more read) frames mark.told mark.marks in
      let at = passes mark in
      let p = pair_is (length config) x y pair in
      welcome at.world run.world at.before at.after x y next.0 next.1 at.led at.goes_on pair (run.ways y x p.1 p.0 p.2 ∙ next.2)
      (ap (λ q. step_take (nodes_at config x) q next.0 (at.world.node x)) (sym peer_named) ∙ (ap (step_take (nodes_at config x) (place_name names (place + 1)) next.0) at.state ∙ next.3))

  -- no link was damaged as the node began
  begun_sound : (links_of (node_of (begun x)) place).damaged ≡ false
  begun_sound = ap (λ (links : ℕ → Link). (links place).damaged) (sym (links_there config nodes begun ended ran x within)) ∙ ran.starts.traffic.sound x y pair

  pub sound : (links_of (node_of (ended x)) place).damaged ≡ false
  sound = go (links_of (node_of (ended x)) place).damaged refl
    where
      from : (((links_of (node_of (begun x)) place).damaged ≡ true) ⊎ Marked) → ⊥
      from (inl was) = let never : true ≡ false = sym was ∙ begun_sound in absurd (cc)
      from (inr mark) = never_marked mark

      as_named : ((links_of (node_of (begun x)) place).damaged ≡ true)
          ⊎ WasMarked (names_of (held_by (node_of (begun x)))) (ports_of (held_by (node_of (begun x)))) place (ran.acts x) start end (unread_on config nodes begun ended ran y x)
          → ((links_of (node_of (begun x)) place).damaged ≡ true) ⊎ Marked
      as_named either =
          subst (λ n. ((links_of (node_of (begun x)) place).damaged ≡ true) ⊎ WasMarked names n place (ran.acts x) start end (unread_on config nodes begun ended ran y x)) (shown config nodes begun ended ran x within).ports
          (subst (λ ns. ((links_of (node_of (begun x)) place).damaged ≡ true) ⊎ WasMarked ns (ports_of (held_by (node_of (begun x)))) place (ran.acts x) start end (unread_on config nodes begun ended ran y x))
          (shown config nodes begun ended ran x within).names either)

      go : (b : Bool) → (links_of (node_of (ended x)) place).damaged ≡ b → (links_of (node_of (ended x)) place).damaged ≡ false
      go false is = is
      go true is = absurd (from (as_named ((ran.follows x within).marked place (place_there config nodes begun ended ran x y pair) is)))
