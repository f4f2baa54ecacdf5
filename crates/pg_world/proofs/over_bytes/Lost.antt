-- What a world of bytes shows once one of its nodes is lost, or a loss is seen.
use Rattle.std.proofs.Common.{◌≡◌, ◌≢◌, ◌⊎◌, inl, inr, ℕ, zero, suc, ◌+◌, ◌<◌, ◌≤◌, Bool, true}
use Rattle.std.proofs.Common.{false, not, ◌||◌, cond, map, take, length, List, [], ◌∷◌, ◌++◌}
use Rattle.std.proofs.Common.{Option, Some, None, Result, Ok, Err, refl, sym, ap, ◌∙◌, arith, subst}
use Rattle.std.specs.Prelude.{slice_get, slice_set}
use Rattle.std.specs.List.{AllByRecursion}
use Rattle.std.proofs.lemmas.Bool.{cases_eq, lt-ltb}
use Rattle.std.proofs.lemmas.List.{length-map, take-map}
use Rattle.pg_world_packets.specs.PgFrame.declared.fault.TooLong.{TooLong}
use Rattle.pg_world_packets.specs.PgFrame.Frames.{front_of}
use Rattle.pg_world_packets.specs.PgMessageTypes.declared.message.Message.{Message}
use Rattle.pg_world_packets.specs.PgMessageTypes.declared.packet.Packet.{Packet}
use Rattle.pg_world_packets.specs.PgStep.Machines.Places.{is_pair}
use Rattle.pg_world_packets.specs.PgStep.Machines.Clocked.{Timed, Stamped}
use Rattle.pg_world_packets.specs.PgStep.Machines.Losing.{Noticed, can_keep}
use Rattle.pg_world_packets.specs.PgFrame.Pieces.{Bytes, ArePackets, AreCut, AreShort, StayWhole}
use Rattle.pg_world_packets.specs.PgNodeOpens.Places.{name_at as place_name}
use Rattle.pg_world_packets.specs.PgStep.declared.answer.Answer.{Answer}
use Rattle.pg_world_packets.specs.PgStep.declared.refusal.Refusal.TheVariants.{NoSuchPlace, NodeLost, NotLost, NotDrained, ClockFull}
use Rattle.pg_world_packets.specs.PgStep.Config.{Config, name_at, names_of}
use Rattle.pg_world_packets.specs.PgStep.Faults.{first_that_holds}
use Rattle.pg_world_packets.specs.PgStep.LossLaws.{LosingFrameWorld, clock_after, see_refusal, way_is_drained}
use Rattle.pg_world_packets.specs.PgStep.State.{State}
use Rattle.pg_world_packets.specs.PgStep.StepLaws.{is_full}
use Rattle.pg_world_packets.specs.PgStep.Step.{TimedTurn, at_clock}
use Rattle.pg_world_packets.specs.PgNodeSends.contracts.framing.FramedOutgoing.TheImpl as frames
use Rattle.pg_world_packets.specs.PgNodeSends.Dones.{FramedDone}
use Rattle.pg_world_packets.specs.PgNodeState.declared.state.fault.NodeFault.{NodeFault}
use Rattle.pg_world_packets.specs.PgNodeState.declared.state.fault.NodeFault.TheVariants.{Refused}
use Rattle.pg_node.specs.Bytes.{is_drained, has_frame}
use Rattle.pg_node.specs.Links.{Link}
use Rattle.pg_node.specs.Nodes.{step_lose}
use Rattle.pg_world_packets.specs.PgNodeState.States.{Comes, Happens, step_see_loss}
use Rattle.pg_world_packets.specs.declared.step.Stepped.TheVariants.{Happened, Gone}
use Rattle.pg_world.specs.Bars.{has_bytes}
use Rattle.pg_world.specs.BytesLosing.{ShowsLosingBytes, SightComesTo, LossComesTo, bars_sight, gone_refusal}
use Rattle.pg_world.specs.Crossings.{Crossing, link_at, bytes_at, packet_as}
use Rattle.pg_world.specs.Crossings.{packets_between, written_of, CanCross, IsOnWay}
use Rattle.pg_world_packets.specs.declared.effect.Effect.{Effect}
use Rattle.pg_world_packets.specs.Effects.{no_effect}
use Rattle.pg_world_packets.specs.Losing.{losing_of, is_cut_off, told_sight, LosingComesTo}
use Rattle.pg_world_packets.specs.PgWorldAccount.Losses.{is_lost}
use Rattle.pg_world_packets.specs.PgWorldConfig.Seen.{Seen}
use Rattle.pg_world_packets.specs.Views.{peer_place}
use Rattle.pg_world_packets.specs.PgWorldAccount.Histories.{Account}
use Rattle.pg_world_packets.specs.Worlds.{TimedFrameWorld, ShowsNodes}
use Rattle.pg_world.proofs.over_bytes.Past.{gone_none, sight_from}
use Rattle.pg_world.proofs.Crossed.{all_short}
use Rattle.pg_world.proofs.Silent.{seen_before}
use Rattle.pg_world_packets.proofs.Peering.{named, peer_name, there_and_back}
use Rattle.pg_world_packets.proofs.Seeing.{there, turned, stays, unseen, not_lost, sight_refused, sight_seen}
use Rattle.pg_world_packets.proofs.Sighted.{sight, sight_clock, sighted, same_wire}
use Rattle.pg_world_packets.proofs.Sighted.{seen_then, nodes_sighted, updates_sighted}
use Rattle.pg_world_packets.proofs.Stopped.{cut_off, cut_here, cut_else, nodes_cut, updates_cut}
use Rattle.pg_world_packets.proofs.Stopped.{can_so, loss_happens, seen_more, lost_it, lost_others}
use Rattle.pg_world_packets.proofs.Turning.{pair_is}

-- ---- a loss is seen

-- without bytes on the ring, and without a whole frame that came, no packet of a lost node is on the way
none_whole : (r : Result (Option (List ℕ)) TooLong) (body : List ℕ) → r ≡ Ok (Some body) → not (has_frame r) ≡ true → ⊥
none_whole r body is whole = let no : not (has_frame (Ok (Some body))) ≡ true = subst (λ x. not (has_frame x) ≡ true) is whole in absurd (cc)

no_bytes : (ring : List ℕ) → has_bytes ring ≡ false → ring ≡ []
no_bytes [] e = refl
no_bytes (b ∷ ring) e = absurd (cc)

abbrev ReadsWhole : Type 0
ReadsWhole = (first : Packet) (others : List Packet) (bytes : Bytes) → AreShort written_of (first ∷ others) → AreCut written_of (first ∷ others) bytes → bytes.ring ≡ [] → front_of bytes.came ≡ Ok (Some (written_of first))

none_left : ReadsWhole → (xs : List (Stamped Message)) (bytes : Bytes) → AllByRecursion CanCross (map packet_as xs) → AreCut written_of (map packet_as xs) bytes → bytes.ring ≡ [] → not (has_frame (front_of bytes.came)) ≡ true → xs ≡ []
none_left law [] bytes cross cut ring whole = refl
none_left law (x ∷ xs) bytes cross cut ring whole =
    absurd (none_whole (front_of bytes.came) (written_of (packet_as x)) (law (packet_as x) (map packet_as xs) bytes (all_short (packet_as x ∷ map packet_as xs) cross) cut ring) whole)

-- a link that is not damaged is drained where no whole frame came
sound_drained : (link : Link) → link.damaged ≡ false → is_drained link ≡ not (has_frame (front_of link.unread))
sound_drained link e = ap (λ b. b || not (has_frame (front_of link.unread))) e

module _ (config : Config) (crossing crossing2 : Crossing) (account account2 : Account) (u : LosingFrameWorld) (i p : ℕ) (lost lost2 : List ℕ) (shows : ShowsLosingBytes config crossing account lost u)
    (pair : is_pair (length crossing.nodes) i p ≡ true) (lives : is_cut_off crossing.nodes lost i p ≡ false) where
  abbrev w : TimedFrameWorld
  w = shows.frames

  abbrev its : ShowsNodes config crossing.nodes w
  its = shows.shows.traffic.nodes

  here : is_pair (length config) i p ≡ true
  here = there config crossing.nodes w i p lost its shows.seen pair lives

  back : is_pair (length config) p i ≡ true
  back = turned config crossing.nodes w i p lost its shows.seen pair lives

  abbrev v : TimedFrameWorld
  v = sighted config w lost i p here

  abbrev turn : TimedTurn
  turn = at_clock (sight_clock w i p) (sight config w i p)

  lasts : is_lost lost i ≡ false
  lasts = stays config crossing.nodes w i p lost its shows.seen pair lives

  pub sight_not_lost : is_lost lost p ≡ false → SightComesTo config u (told_sight config u i p) (Err (Refused NotLost)) (ShowsLosingBytes config crossing account lost)
  sight_not_lost gone = (subst (λ (x : LosingFrameWorld). see_refusal config x i p ≡ Some NotLost) (sym shows.is) (not_lost config crossing.nodes w i p lost its shows.seen pair lives gone), shows)

  abbrev coming : List (Stamped (Noticed Message))
  coming = (losing_of config w lost).world.wire p i

  -- nothing that stands before NotDrained refuses it
  pub unbarred : is_lost lost p ≡ true → bars_sight (see_refusal config u i p) ≡ false
  unbarred gone = subst (λ (x : LosingFrameWorld). bars_sight (see_refusal config x i p) ≡ false) (sym shows.is) (
      (λ j. bars_sight (first_that_holds (
      (not (here j), NoSuchPlace) ∷ (lasts j || unseen config crossing.nodes w i p lost its shows.seen pair lives j, NodeLost) ∷ (not (gone j), NotLost)
      ∷ (not (way_is_drained coming), NotDrained) ∷ (is_full (clock_after (w.node i).clock coming), ClockFull) ∷ [])))
      ∙ go (way_is_drained coming) (is_full (clock_after (w.node i).clock coming)))
    where
      go : (drained full : Bool) → bars_sight (first_that_holds ((not drained, NotDrained) ∷ (full, ClockFull) ∷ [])) ≡ false
      go true true = refl
      go true false = refl
      go false full = refl

  module _ (law : ReadsWhole) (gone : is_lost lost p ≡ true) (empty : has_bytes (bytes_at crossing p i).ring ≡ false) (node : Seen) (at : slice_get crossing.nodes i ≡ Some node) (last : ℕ) (clock : (w.node p).clock ≡ last) (same : lost2 ≡ lost) where
    abbrev link : Link
    link = link_at crossing i p

    sound : link.damaged ≡ false
    sound = shows.shows.traffic.sound i p here

    none_coming : is_drained link ≡ true → w.wire p i ≡ []
    none_coming drained = none_left law (w.wire p i) (bytes_at crossing p i) (shows.shows.traffic.cross p i back)
        (subst (λ b. IsOnWay b true (packets_between w p i) (bytes_at crossing p i)) lasts (subst (λ b. IsOnWay (is_lost lost i) b (packets_between w p i) (bytes_at crossing p i)) gone (shows.shows.traffic.ways p i back)))
        (no_bytes (bytes_at crossing p i).ring empty) (sym (sound_drained link sound) ∙ drained)

    -- what the node knows of the peer
    peer_is : place_name node.names (peer_place i p + 1) ≡ name_at config p
    peer_is = let all = pair_is (length config) i p here in ap (λ ns. place_name ns (peer_place i p + 1)) (its.each i node at).names ∙ (peer_name config i all.0 (peer_place i p)
        ∙ (ap (place_name (names_of config)) (there_and_back i p all.2) ∙ sym (named config i all.0 p)))

    abbrev peer : List ℕ
    peer = place_name node.names (peer_place i p + 1)

    unseen_there : node.state.state.lost peer ≡ false
    unseen_there = (λ j. (sym (its.each i node at).state j).state.lost (peer_is j)) ∙ unseen config crossing.nodes w i p lost its shows.seen pair lives

    step_is : (b : Bool) → is_drained link ≡ b → step_lose peer last link node.state ≡ cond b (step_see_loss peer last node.state) (Err NotDrained)
    step_is b is = λ j. cond (unseen_there j) (Err NodeLost) (cond (is j) (step_see_loss peer last node.state) (Err NotDrained))

    -- it is refused
    pub sight_held : (fault : NodeFault) (s : Timed State) (after : ℕ → List Answer) → crossing2 ≡ crossing → account2 ≡ account
        → Comes {h = frames.ghosts} node.names (step_lose peer last link node.state) (Err fault) s node.answers after
        → SightComesTo config u (told_sight config u i p) (Err fault) (ShowsLosingBytes config crossing2 account2 lost2)
    sight_held fault s after unchanged kept comes = go (is_drained link) refl fault (λ b is. subst (λ r. Comes {h = frames.ghosts} node.names r (Err fault) s node.answers after) (step_is b is) comes)
      where
        still : ShowsLosingBytes config crossing2 account2 lost2 u
        still = subst (λ (l : List ℕ). ShowsLosingBytes config crossing2 account2 l u) (sym same)
            (subst (λ (a : Account). ShowsLosingBytes config crossing2 a lost u) (sym kept) (subst (λ (c : Crossing). ShowsLosingBytes config c account lost u) (sym unchanged) shows))

        undrained : (f : NodeFault) → Comes {h = frames.ghosts} node.names (Err NotDrained) (Err f) s node.answers after → SightComesTo config u (told_sight config u i p) (Err f) (ShowsLosingBytes config crossing2 account2 lost2)
        undrained f c = let one : f ≡ Refused NotDrained = cc in subst (λ x. SightComesTo config u (told_sight config u i p) (Err x) (ShowsLosingBytes config crossing2 account2 lost2)) (sym one) (unbarred gone, still)

        drained_so : is_drained link ≡ true → (f : NodeFault) → Comes {h = frames.ghosts} node.names (step_see_loss peer last node.state) (Err f) s node.answers after
            → SightComesTo config u (told_sight config u i p) (Err f) (ShowsLosingBytes config crossing2 account2 lost2)
        drained_so drained f c = sight_from config u (told_sight config u i p) (ShowsLosingBytes config crossing2 account2 lost2) (Err f)
            (subst (λ (x : LosingFrameWorld). LosingComesTo config x (told_sight config x i p) (Err f) (ShowsLosingBytes config crossing2 account2 lost2)) (sym shows.is)
            (sight_refused config crossing.nodes w i p lost its shows.seen pair lives gone (none_coming drained) node at last clock (ShowsLosingBytes config crossing2 account2 lost2) frames.ghosts f s node.answers after
            (subst (ShowsLosingBytes config crossing2 account2 lost2) shows.is still) c))

        go : (b : Bool) → is_drained link ≡ b → (f : NodeFault)
            → ((c : Bool) → is_drained link ≡ c → Comes {h = frames.ghosts} node.names (cond c (step_see_loss peer last node.state) (Err NotDrained)) (Err f) s node.answers after)
            → SightComesTo config u (told_sight config u i p) (Err f) (ShowsLosingBytes config crossing2 account2 lost2)
        go true is f h = drained_so is f (h true is)
        go false is f h = undrained f (h false is)

    -- it is seen
    pub sight_made : (after : Seen) (done : FramedDone) → crossing2.nodes ≡ slice_set crossing.nodes i after → after.names ≡ node.names → after.ports ≡ node.ports → account2 ≡ account
        → ((x y : ℕ) → is_pair (length config) x y ≡ true → is_lost lost y ≡ false → bytes_at crossing2 x y ≡ bytes_at crossing x y)
        → ((x y : ℕ) → (link_at crossing2 x y).damaged ≡ (link_at crossing x y).damaged)
        → ((x y : ℕ) → ((x ≡ i) × (y ≡ p)) ⊎ ((link_at crossing x y).outbox ≡ []) → (link_at crossing2 x y).outbox ≡ [])
        → Comes node.names (step_lose peer last link node.state) (Ok done) after.state node.answers after.answers
        → (effect : Effect) → effect ≡ no_effect → SightComesTo config u (told_sight config u i p) (Ok (Happened effect)) (ShowsLosingBytes config crossing2 account2 lost2)
    sight_made after done set names ports kept bytes damage empty comes effect none =
        subst (λ e. SightComesTo config u (told_sight config u i p) (Ok (Happened e)) (ShowsLosingBytes config crossing2 account2 lost2)) (sym none)
        (go (is_drained link) refl (λ b is. subst (λ r. Comes node.names r (Ok done) after.state node.answers after.answers) (step_is b is) comes))
      where
        same_packets : (x y : ℕ) → packets_between v x y ≡ packets_between w x y
        same_packets x y = ap (map packet_as) (same_wire config w lost i p here x y)

        way : (x y : ℕ) → is_pair (length config) x y ≡ true → IsOnWay (is_lost lost2 y) (is_lost lost2 x) (packets_between v x y) (bytes_at crossing2 x y)
        way x y there_too = subst (λ (l : List ℕ). IsOnWay (is_lost l y) (is_lost l x) (packets_between v x y) (bytes_at crossing2 x y)) (sym same) (pick (is_lost lost y) refl (shows.shows.traffic.ways x y there_too))
          where
            pick : (b : Bool) → is_lost lost y ≡ b → IsOnWay (is_lost lost y) (is_lost lost x) (packets_between w x y) (bytes_at crossing x y) → IsOnWay (is_lost lost y) (is_lost lost x) (packets_between v x y) (bytes_at crossing2 x y)
            pick true is was = subst (λ b. IsOnWay b (is_lost lost x) (packets_between v x y) (bytes_at crossing2 x y)) (sym is) tt
            pick false is was = subst (λ (ps : List Packet). IsOnWay (is_lost lost y) (is_lost lost x) ps (bytes_at crossing2 x y)) (sym (same_packets x y))
                (subst (IsOnWay (is_lost lost y) (is_lost lost x) (packets_between w x y)) (sym (bytes x y there_too is)) was)

        before : (x y : ℕ) → is_pair (length config) x y ≡ true → ((x ≡ i) × (y ≡ p)) ⊎ ((w.node x).state.lost (name_at config y) ≡ true) → ((x ≡ i) × (y ≡ p)) ⊎ ((link_at crossing x y).outbox ≡ [])
        before x y there_too (inl both) = inl both
        before x y there_too (inr saw) = inr (shows.shows.traffic.silent x y there_too saw)

        made : Happens node.names turn done after.state node.answers after.answers → ShowsLosingBytes config crossing2 account2 lost2 (losing_of config v lost)
        made happened = record {
          frames = v;
          shows = record {
            traffic = record {
              nodes = nodes_sighted config w lost i p here crossing.nodes crossing2.nodes account account2 node after done its shows.shows.updates at set names ports happened kept;
              ways = way;
              cross = λ x y there_too. subst (λ (ps : List Packet). AllByRecursion CanCross ps) (sym (same_packets x y)) (shows.shows.traffic.cross x y there_too);
              sound = λ x y there_too. damage x y ∙ shows.shows.traffic.sound x y there_too;
              silent = λ x y there_too saw. empty x y (before x y there_too (seen_before config w lost i p here its.apart x y there_too saw));
            };
            updates = updates_sighted config w lost i p here crossing.nodes crossing2.nodes account account2 node after done its shows.shows.updates at set names ports happened kept;
          };
          seen = λ x q pair_there has. ap (λ (l : List ℕ). is_lost l q) same ∙ seen_then config w lost i p here its.apart shows.seen gone x q pair_there has;
          is = ap (losing_of config v) (sym same);
        }

        go : (b : Bool) → is_drained link ≡ b
            → ((c : Bool) → is_drained link ≡ c → Comes {h = frames.ghosts} node.names (cond c (step_see_loss peer last node.state) (Err NotDrained)) (Ok done) after.state node.answers after.answers)
            → SightComesTo config u (told_sight config u i p) (Ok (Happened no_effect)) (ShowsLosingBytes config crossing2 account2 lost2)
        go true is h = subst (λ (x : LosingFrameWorld). LosingComesTo config x (told_sight config x i p) (Ok (Happened no_effect)) (ShowsLosingBytes config crossing2 account2 lost2)) (sym shows.is)
            (sight_seen config crossing.nodes w i p lost its shows.seen pair lives gone (none_coming is) node at last clock (ShowsLosingBytes config crossing2 account2 lost2) done after.state node.answers after.answers made (h true is))
        go false is h = let no = h false is in absurd (cc)

-- ---- a node is lost

all_first : (k : ℕ) (xs : List Packet) → AllByRecursion CanCross xs → AllByRecursion CanCross (take k xs)
all_first zero xs all = tt
all_first (suc k) [] all = tt
all_first (suc k) (x ∷ xs) all = (all.0, all_first k xs all.1)

module _ (config : Config) (crossing : Crossing) (account : Account) (u : LosingFrameWorld) (i : ℕ) (lost lost2 : List ℕ) (shows : ShowsLosingBytes config crossing account lost u)
    (law : (packets : List Packet) (bytes : Bytes) → AreShort written_of packets → ArePackets written_of packets bytes → StayWhole written_of packets bytes)
    (within : i < length crossing.nodes) (lasting : is_lost lost i ≡ false) (more : lost2 ≡ lost ++ i ∷ []) where
  abbrev old : TimedFrameWorld
  old = shows.frames

  abbrev all : List ℕ
  all = lost ++ i ∷ []

  -- how many packets stay on the way to y
  record Stay (y : ℕ) : Type 0 where
    count : ℕ
    few : is_pair (length config) i y ≡ true → count ≤ length (old.wire i y)
    left : is_pair (length config) i y ≡ true → IsOnWay (is_lost all y) true (map packet_as (take count (old.wire i y))) (bytes_at crossing i y)

  stay : (y : ℕ) → Stay y
  stay y = go (is_pair (length config) i y) (is_lost lost y) refl refl
    where
      go : (pair gone : Bool) → is_pair (length config) i y ≡ pair → is_lost lost y ≡ gone → Stay y
      go false gone none is = record { count = 0; few = λ pair. let no : true ≡ false = sym pair ∙ none in absurd (cc); left = λ pair. let no : true ≡ false = sym pair ∙ none in absurd (cc) }
      go true true pair is = record {
        count = length (old.wire i y);
        few = λ there_too. omega arith;
        left = λ there_too. subst (λ b. IsOnWay b true (map packet_as (take (length (old.wire i y)) (old.wire i y))) (bytes_at crossing i y))
            (sym (lost_others lost i y (pair_is (length config) i y pair).2 ∙ is)) tt;
      }
      go true false pair is =
          let ways : IsOnWay false false (packets_between old i y) (bytes_at crossing i y) = subst (λ b. IsOnWay b false (packets_between old i y) (bytes_at crossing i y)) is
          (subst (λ b. IsOnWay (is_lost lost y) b (packets_between old i y) (bytes_at crossing i y)) lasting (shows.shows.traffic.ways i y pair)) in
          let h = law (packets_between old i y) (bytes_at crossing i y) (all_short (packets_between old i y) (shows.shows.traffic.cross i y pair)) ways in
          let long = length-map (old.wire i y) packet_as in
          let few = h.few in
          record {
            count = h.count;
            few = λ there_too. omega (arith, few, long);
            left = λ there_too. subst (λ b. IsOnWay b true (map packet_as (take h.count (old.wire i y))) (bytes_at crossing i y)) (sym (lost_others lost i y (pair_is (length config) i y pair).2 ∙ is))
                (subst (λ (ps : List Packet). AreCut written_of ps (bytes_at crossing i y)) (take-map packet_as h.count (old.wire i y)) h.left);
          }

  abbrev kept : ℕ → ℕ
  kept y = (stay y).count

  nowhere : (y : ℕ) → is_pair (length config) i y ≡ false → old.wire i y ≡ []
  nowhere y none = shows.shows.traffic.nodes.nowhere i y none

  abbrev cut : TimedFrameWorld
  cut = cut_off config old lost i kept nowhere

  inside : i < length config
  inside = let size = shows.shows.traffic.nodes.size in omega (arith, within, size)

  packets_here : (y : ℕ) → packets_between cut i y ≡ map packet_as (take (kept y) (old.wire i y))
  packets_here y = ap (map packet_as) (cut_here config old lost i kept nowhere y)

  packets_else : (x y : ℕ) → x ≢ i → packets_between cut x y ≡ packets_between old x y
  packets_else x y n = ap (map packet_as) (cut_else config old lost i kept nowhere x y n)

  way : (x y : ℕ) → is_pair (length config) x y ≡ true → IsOnWay (is_lost all y) (is_lost all x) (packets_between cut x y) (bytes_at crossing x y)
  way x y pair = go (cases_eq x i) (cases_eq y i)
    where
      go : (x ≡ i) ⊎ (x ≢ i) → (y ≡ i) ⊎ (y ≢ i) → IsOnWay (is_lost all y) (is_lost all x) (packets_between cut x y) (bytes_at crossing x y)
      go (inl d) b = subst (λ k. IsOnWay (is_lost all y) (is_lost all k) (packets_between cut k y) (bytes_at crossing k y)) (sym d)
          (subst (λ c. IsOnWay (is_lost all y) c (packets_between cut i y) (bytes_at crossing i y)) (sym (lost_it lost i))
          (subst (λ (ps : List Packet). IsOnWay (is_lost all y) true ps (bytes_at crossing i y)) (sym (packets_here y)) ((stay y).left (subst (λ k. is_pair (length config) k y ≡ true) d pair))))
      go (inr n) (inl d) = subst (λ c. IsOnWay c (is_lost all x) (packets_between cut x y) (bytes_at crossing x y)) (sym (ap (is_lost all) d ∙ lost_it lost i)) tt
      go (inr n) (inr m) = subst (λ c. IsOnWay c (is_lost all x) (packets_between cut x y) (bytes_at crossing x y)) (sym (lost_others lost i y m))
          (subst (λ c. IsOnWay (is_lost lost y) c (packets_between cut x y) (bytes_at crossing x y)) (sym (lost_others lost i x n))
          (subst (λ (ps : List Packet). IsOnWay (is_lost lost y) (is_lost lost x) ps (bytes_at crossing x y)) (sym (packets_else x y n)) (shows.shows.traffic.ways x y pair)))

  crosses : (x y : ℕ) → is_pair (length config) x y ≡ true → AllByRecursion CanCross (packets_between cut x y)
  crosses x y pair = go (cases_eq x i)
    where
      go : (x ≡ i) ⊎ (x ≢ i) → AllByRecursion CanCross (packets_between cut x y)
      go (inl d) = subst (λ k. AllByRecursion CanCross (packets_between cut k y)) (sym d)
          (subst (λ (ps : List Packet). AllByRecursion CanCross ps) (take-map packet_as (kept y) (old.wire i y) ∙ sym (packets_here y))
          (all_first (kept y) (packets_between old i y) (shows.shows.traffic.cross i y (subst (λ k. is_pair (length config) k y ≡ true) d pair))))
      go (inr n) = subst (λ (ps : List Packet). AllByRecursion CanCross ps) (sym (packets_else x y n)) (shows.shows.traffic.cross x y pair)

  pub lost_bytes : LossComesTo config u i (Ok Gone) (ShowsLosingBytes config crossing account lost2)
  lost_bytes = subst (λ (x : LosingFrameWorld). LossComesTo config x i (Ok Gone) (ShowsLosingBytes config crossing account lost2)) (sym shows.is) (
    subst (λ (x : LosingFrameWorld). gone_refusal config x i ≡ None) shows.is (gone_none config crossing account u lost shows i (lt-ltb i (length crossing.nodes) within) lasting),
    kept,
    (
      losing_of config cut all,
      loss_happens config old lost i kept nowhere inside lasting shows.seen can,
      record {
        frames = cut;
        shows = record {
          traffic = record {
            nodes = nodes_cut config old lost i kept nowhere crossing.nodes shows.shows.traffic.nodes;
            ways = λ x y pair. subst (λ (l : List ℕ). IsOnWay (is_lost l y) (is_lost l x) (packets_between cut x y) (bytes_at crossing x y)) (sym more) (way x y pair);
            cross = crosses;
            sound = shows.shows.traffic.sound;
            silent = shows.shows.traffic.silent;
          };
          updates = updates_cut config old lost i kept nowhere account shows.shows.updates;
        };
        seen = λ x p pair has. ap (λ (l : List ℕ). is_lost l p) more ∙ seen_more config old lost i kept nowhere inside lasting shows.seen can x p pair has;
        is = ap (losing_of config cut) (sym more);
      },
    ),
  )
    where
      can : can_keep (length config) (losing_of config old lost).world i kept ≡ true
      can = can_so config old lost i kept nowhere inside lasting shows.seen (λ y pair. (stay y).few pair)
