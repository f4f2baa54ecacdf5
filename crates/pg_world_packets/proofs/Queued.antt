-- What a world of packets shows once a node has made a turn.
use Rattle.std.proofs.Common.{◌≡◌, ◌≢◌, ℕ, ◌+◌, true, drop, length, List, [], ◌∷◌, ◌++◌, Option}
use Rattle.std.proofs.Common.{Some, None, Ok, Err, refl, sym, ap, ◌∙◌, inl, inr, ◌⊎◌, subst}
use Rattle.std.specs.Prelude.{slice_get, slice_set}
use Rattle.std.proofs.lemmas.Bool.{cases_eq}
use Rattle.pg_node_state.specs.PgGroup.declared.update.Update.{Update}
use Rattle.pg_node_state.specs.PgMessageTypes.declared.message.Message.{Message}
use Rattle.pg_node_state.specs.PgMessageTypes.declared.packet.Packet.{Packet}
use Rattle.pg_node_state.specs.PgStep.Machines.Places.{is_pair}
use Rattle.pg_node_state.specs.PgStep.Machines.Machine.{Event, Take, Do, node_of}
use Rattle.pg_node_state.specs.PgStep.Machines.Clocked.{Timed, Stamped}
use Rattle.pg_node_state.specs.PgStep.Config.{Config}
use Rattle.pg_node_state.specs.PgStep.State.{State}
use Rattle.pg_node_state.specs.PgStep.Step.{Action, step_take, step_act}
use Rattle.pg_node_state.specs.PgStep.declared.answer.Answer.{Answer}
use Rattle.pg_node_state.specs.PgStep.declared.command.OpId.{OpId}
use Rattle.pg_node_state.specs.PgNodeOpens.Places.{whole_in, name_at as place_name}
use Rattle.pg_node_state.specs.PgNodeSends.contracts.sends.VecTuple2UsizePacketOutgoing.TheImpl as packets
use Rattle.pg_node_state.specs.PgNodeSends.Dones.{PacketsDone}
use Rattle.pg_node_state.specs.declared.state.fault.NodeFault.{NodeFault}
use Rattle.pg_node_state.specs.States.{Comes}
use Rattle.pg_node_state.specs.PgNodeSends.Sendable.{AreSendable}
use Rattle.pg_world_packets.specs.declared.effect.Effect.{Effect}
use Rattle.pg_world_packets.specs.declared.step.Stepped.TheVariants.{Happened, Nothing}
use Rattle.pg_world_account.specs.Histories.{update_asked_by}
use Rattle.pg_world_config.specs.Seen.{Seen}
use Rattle.pg_world_packets.specs.Effects.{effect_by}
use Rattle.pg_world_packets.specs.Views.{Traffic, peer_place, on_the_way, next_packet_of, packets_to}
use Rattle.pg_world_packets.specs.Worlds.{ShowsTraffic, TimedFrameWorld}
use Rattle.pg_world_packets.proofs.Coming.{CameOf}
use Rattle.pg_world_packets.proofs.Peering.{peers_differ}
use Rattle.pg_world_packets.proofs.Recording.{Records}
use Rattle.pg_world_packets.proofs.Turning.{way_at, Left, Passes, pair_is, pair_turned, pair_there, none_told}
use Rattle.pg_world_packets.proofs.Turning.{own_refused as refused_own, own_left, taken_refused, take_left}

-- a list begins with its first packet
begins_with : (xs : List (Stamped Message)) (x : Stamped Message) → Some x ≡ next_packet_of xs → xs ≡ x ∷ drop 1 xs
begins_with [] x e = absurd (cc)
begins_with (y ∷ ys) x e = let same : y ≡ x = cc in ap (λ z. z ∷ ys) same

none_first : (xs : List (Stamped Message)) → None ≡ next_packet_of xs → xs ≡ []
none_first [] e = refl
none_first (x ∷ xs) e = absurd (cc)

-- what came of an event says more of what it left
comes_as : (config : Config) (w : TimedFrameWorld) (e : Event Action) (effect : Effect) (One Other : TimedFrameWorld → Type 0) → ((v : TimedFrameWorld) → One v → Other v)
    → CameOf config w e (Ok (Happened effect)) One → CameOf config w e (Ok (Happened effect)) Other
comes_as config w e effect One Other f (did, (v, happened, one)) = (did, (v, happened, f v one))

module _ (config : Config) (traffic traffic2 : Traffic) (w : TimedFrameWorld) (e : Event Action) (sends : List (ℕ × Packet)) (asked : Option Update) (began : Option (OpId × Update)) (shows : ShowsTraffic config traffic w)
    (sent : (k : ℕ) → way_at traffic2 (node_of e) k ≡ way_at traffic (node_of e) k ++ packets_to sends k)
    (others : (v : TimedFrameWorld) → Passes config e sends w v → (x y : ℕ) → x ≢ node_of e → is_pair (length config) x y ≡ true → v.wire x y ≡ on_the_way traffic2 x y) where
  shown_so : (v : TimedFrameWorld) → Left config traffic2.nodes e sends asked began w v → ShowsTraffic config traffic2 v × Records w v (node_of e) asked began
  shown_so v left = (record { nodes = left.nodes; ways = λ x y pair. way x y pair (cases_eq x (node_of e)) }, left.records)
    where
      own : (y : ℕ) → is_pair (length config) (node_of e) y ≡ true → v.wire (node_of e) y ≡ on_the_way traffic2 (node_of e) y
      own y pair = left.ways.own y pair ∙ (ap (λ xs. xs ++ packets_to sends (peer_place (node_of e) y)) (shows.ways (node_of e) y pair) ∙ sym (sent (peer_place (node_of e) y)))

      way : (x y : ℕ) → is_pair (length config) x y ≡ true → (x ≡ node_of e) ⊎ (x ≢ node_of e) → v.wire x y ≡ on_the_way traffic2 x y
      way x y pair (inl d) = subst (λ k. v.wire k y ≡ on_the_way traffic2 k y) (sym d) (own y (subst (λ k. is_pair (length config) k y ≡ true) d pair))
      way x y pair (inr n) = others v left.ways x y n pair

-- ---- something of its own

module _ (config : Config) (traffic : Traffic) (w : TimedFrameWorld) (i : ℕ) (action : Action) (node : Seen) (shows : ShowsTraffic config traffic w) (here : slice_get traffic.nodes i ≡ Some node) where
  pub own_refused : (fault : NodeFault) (s : Timed State) (before after : ℕ → List Answer) (Shown : TimedFrameWorld → Type 0)
      → Comes {h = packets.ghosts} node.names (step_act (whole_in node.names) node.ports action node.state) (Err fault) s before after → CameOf config w (Do i action) (Err fault) Shown
  own_refused = refused_own config traffic.nodes w i action node shows.nodes here packets.ghosts

  pub own_happened : (traffic2 : Traffic) (after : Seen) (done : PacketsDone) → traffic2.nodes ≡ slice_set traffic.nodes i after → after.names ≡ node.names → after.ports ≡ node.ports
      → AreSendable node.names done.sends.items → ((k : ℕ) → way_at traffic2 i k ≡ way_at traffic i k ++ packets_to done.sends.items k)
      → ((x : ℕ) → x ≢ i → (k : ℕ) → way_at traffic2 x k ≡ way_at traffic x k)
      → Comes node.names (step_act (whole_in node.names) node.ports action node.state) (Ok done) after.state node.answers after.answers
      → CameOf config w (Do i action) (Ok (Happened (effect_by done))) (λ v. ShowsTraffic config traffic2 v × Records w v i None done.began)
  own_happened traffic2 after done nodes names ports fits sent others comes =
      comes_as config w (Do i action) (effect_by done) _ _ (shown_so config traffic traffic2 w (Do i action) done.sends.items None done.began shows sent ways_so)
      (own_left config traffic.nodes w i action node shows.nodes here traffic2.nodes after done nodes names ports fits comes)
    where
      ways_so : (v : TimedFrameWorld) → Passes config (Do i action) done.sends.items w v → (x y : ℕ) → x ≢ i → is_pair (length config) x y ≡ true → v.wire x y ≡ on_the_way traffic2 x y
      ways_so v passes x y n pair = passes.others x y n (λ never. never) ∙ (shows.ways x y pair ∙ sym (others x n (peer_place x y)))

-- ---- a packet is taken

module _ (config : Config) (traffic : Traffic) (w : TimedFrameWorld) (i p : ℕ) (shows : ShowsTraffic config traffic w) (pair : is_pair (length traffic.nodes) i p ≡ true) where
  there : is_pair (length config) i p ≡ true
  there = pair_there config traffic.nodes w i p shows.nodes pair

  wire_is : w.wire p i ≡ on_the_way traffic p i
  wire_is = shows.ways p i (pair_turned (length config) i p there)

  -- nothing is on the way
  pub take_nothing : None ≡ next_packet_of (on_the_way traffic p i) → (Shown : TimedFrameWorld → Type 0) → CameOf config w (Take i p) (Ok Nothing) Shown
  take_nothing none Shown = none_told config traffic.nodes w i p shows.nodes pair (wire_is ∙ none_first (on_the_way traffic p i) none)

  module _ (node : Seen) (here : slice_get traffic.nodes i ≡ Some node) (x : Stamped Message) (first : Some x ≡ next_packet_of (on_the_way traffic p i)) where
    begins : w.wire p i ≡ x ∷ drop 1 (on_the_way traffic p i)
    begins = wire_is ∙ begins_with (on_the_way traffic p i) x first

    -- it is refused
    pub take_refused : (fault : NodeFault) (s : Timed State) (before after : ℕ → List Answer) (Shown : TimedFrameWorld → Type 0)
        → Comes {h = packets.ghosts} node.names (step_take (whole_in node.names) (place_name node.names (peer_place i p + 1)) x node.state) (Err fault) s before after
        → CameOf config w (Take i p) (Err fault) Shown
    take_refused = taken_refused config traffic.nodes w i p shows.nodes pair node here x (drop 1 (on_the_way traffic p i)) begins packets.ghosts

    -- it happened
    pub take_happened : (traffic2 : Traffic) (after : Seen) (done : PacketsDone) → traffic2.nodes ≡ slice_set traffic.nodes i after → after.names ≡ node.names → after.ports ≡ node.ports
        → AreSendable node.names done.sends.items → ((k : ℕ) → way_at traffic2 i k ≡ way_at traffic i k ++ packets_to done.sends.items k)
        → way_at traffic2 p (peer_place p i) ≡ drop 1 (way_at traffic p (peer_place p i))
        → ((a k : ℕ) → a ≢ i → ((a ≡ p) × (k ≡ peer_place p i) → ⊥) → way_at traffic2 a k ≡ way_at traffic a k)
        → Comes node.names (step_take (whole_in node.names) (place_name node.names (peer_place i p + 1)) x node.state) (Ok done) after.state node.answers after.answers
        → CameOf config w (Take i p) (Ok (Happened (effect_by done))) (λ v. ShowsTraffic config traffic2 v × Records w v i (update_asked_by x.packet) done.began)
    take_happened traffic2 after done nodes names ports fits sent passed others comes =
        comes_as config w (Take i p) (effect_by done) _ _ (shown_so config traffic traffic2 w (Take i p) done.sends.items (update_asked_by x.packet) done.began shows sent ways_so)
        (take_left config traffic.nodes w i p shows.nodes pair node here x (drop 1 (on_the_way traffic p i)) begins traffic2.nodes after done nodes names ports fits comes)
      where
        ways_so : (v : TimedFrameWorld) → Passes config (Take i p) done.sends.items w v → (a y : ℕ) → a ≢ i → is_pair (length config) a y ≡ true → v.wire a y ≡ on_the_way traffic2 a y
        ways_so v passes a y n pair_here = go (cases_eq p a) (cases_eq i y)
          where
            rest_is : v.wire p i ≡ on_the_way traffic2 p i
            rest_is = let gone = passes.taken p i (refl, refl) in sym (ap (drop 1) gone.1) ∙ (ap (drop 1) wire_is ∙ sym passed)

            stays : ((p ≡ a) × (i ≡ y) → ⊥) → ((a ≡ p) × (peer_place a y ≡ peer_place p i) → ⊥) → v.wire a y ≡ on_the_way traffic2 a y
            stays untaken apart = passes.others a y n untaken ∙ (shows.ways a y pair_here ∙ sym (others a (peer_place a y) n apart))

            go : (p ≡ a) ⊎ (p ≢ a) → (i ≡ y) ⊎ (i ≢ y) → v.wire a y ≡ on_the_way traffic2 a y
            go (inl e) (inl d) = subst (λ k. v.wire k y ≡ on_the_way traffic2 k y) e (subst (λ k. v.wire p k ≡ on_the_way traffic2 p k) d rest_is)
            go (inr m) d = stays (λ both. m both.0) (λ both. m (sym both.0))
            go (inl e) (inr m) = stays (λ both. m both.1)
                (λ both. peers_differ p y i (λ f. (pair_is (length config) a y pair_here).2 (f ∙ e)) (λ f. (pair_is (length config) i p there).2 (sym f)) (λ f. m (sym f)) (ap (λ k. peer_place k y) e ∙ both.1))
