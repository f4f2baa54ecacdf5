-- What a world of packets shows once a node would see the loss of a peer.
use Rattle.std.proofs.Common.{◌≡◌, ℕ, ◌+◌, Bool, true, false, not, ◌&&◌, ◌||◌, cond, nat_le, map, length}
use Rattle.std.proofs.Common.{List, [], ◌∷◌, ◌++◌, Option, Some, Ok, Err, refl, sym, ap, ◌∙◌, subst}
use Rattle.std.specs.Prelude.{slice_get, slice_set}
use Rattle.std.proofs.lemmas.List.{map-set}
use Rattle.pg_node_state.specs.PgGroup.declared.table.GroupTable.{Ghosts}
use Rattle.pg_node_state.specs.PgMessageTypes.declared.message.Message.{Message}
use Rattle.pg_node_state.specs.PgStep.Machines.Places.{is_pair}
use Rattle.pg_node_state.specs.PgStep.Machines.Clocked.{Timed, Stamped}
use Rattle.pg_node_state.specs.PgStep.Machines.Losing.{Noticed}
use Rattle.pg_node_state.specs.PgStep.declared.answer.Answer.{Answer}
use Rattle.pg_node_state.specs.PgStep.declared.refusal.Refusal.{Refusal}
use Rattle.pg_node_state.specs.PgStep.declared.refusal.Refusal.TheVariants.{NoSuchPlace, NodeLost, NotLost, NotDrained, ClockFull}
use Rattle.pg_node_state.specs.PgStep.Config.{Config, names_of, name_at}
use Rattle.pg_node_state.specs.PgStep.Faults.{first_that_holds}
use Rattle.pg_node_state.specs.PgStep.FrameMachine.{last_notice, sent_packet}
use Rattle.pg_node_state.specs.PgStep.LossLaws.{LosingFrameWorld, way_is_drained, clock_after, see_refusal}
use Rattle.pg_node_state.specs.PgStep.State.{State}
use Rattle.pg_node_state.specs.PgStep.Step.{CLOCK_LIMIT, TimedTurn, at_clock, timed}
use Rattle.pg_node_state.specs.PgStep.StepLaws.{is_full}
use Rattle.pg_node_state.specs.PgNodeOpens.Places.{name_at as place_name}
use Rattle.pg_node_state.specs.PgNodeSends.contracts.sends.VecTuple2UsizePacketOutgoing.TheImpl as packets
use Rattle.pg_node_state.specs.PgNodeSends.declared.done.Done.{Done}
use Rattle.pg_node_state.specs.PgNodeSends.declared.outgoing.Outgoing.{Ghosts as Listing}
use Rattle.pg_node_state.specs.declared.state.fault.NodeFault.{NodeFault}
use Rattle.pg_node_state.specs.declared.state.fault.NodeFault.TheVariants.{Refused, OutOfMemory}
use Rattle.pg_node_state.specs.declared.state.fault.NodeFault.TheVariants.{Message as BadMessage, TooLong, Damaged}
use Rattle.pg_node_state.specs.declared.state.NodeState.{NodeState}
use Rattle.pg_node_state.specs.States.{names_of as names_of_state, Comes, Happens, step_see_loss}
use Rattle.pg_world_packets.specs.declared.effect.Effect.{Effect}
use Rattle.pg_world_packets.specs.declared.ways.Ways.{Ways}
use Rattle.pg_world_packets.specs.declared.step.Stepped.TheVariants.{Happened}
use Rattle.pg_world_packets.specs.Effects.{no_effect}
use Rattle.pg_world_packets.specs.Losing.{SeenAreLost, notices, losing_of, is_cut_off}
use Rattle.pg_world_packets.specs.Losing.{is_told_first, told_sight, ShowsLosing, LosingComesTo}
use Rattle.pg_world_account.specs.Losses.{is_lost}
use Rattle.pg_world_config.specs.Seen.{Seen, seen_of}
use Rattle.pg_world_packets.specs.Views.{View, IsWhole, ways_of, traffic_in, peer_place, on_the_way}
use Rattle.pg_world_packets.specs.Worlds.{TimedFrameWorld, ShowsNode, ShowsNodes}
use Rattle.pg_world_packets.proofs.Barred.{cut_is, pair_here}
use Rattle.pg_world_packets.proofs.Peering.{peer_name, named, there_and_back}
use Rattle.pg_world_packets.proofs.Sighted.{sight, sight_clock, sighted, same_wire, seen_then}
use Rattle.pg_world_packets.proofs.Sighted.{sight_effect, sight_happens, nodes_sighted, updates_sighted}
use Rattle.pg_world_packets.proofs.Turning.{pair_is, pair_turned}
use Rattle.pg_world_packets.proofs.Viewing.{whole_node}

-- a node that has made a turn leaves the world whole
pub seen_whole : {T : Type 0} {g : Ghosts T} (nodes : List (NodeState T g)) (outs : List Ways) (i : ℕ) (state after : NodeState T g) (whole : IsWhole (traffic_in nodes outs))
    → slice_get (map seen_of nodes) i ≡ Some (seen_of state) → names_of_state after ≡ names_of_state state → IsWhole (traffic_in (slice_set nodes i after) outs)
seen_whole nodes outs i state after whole here names = subst IsWhole (λ j. record { nodes = sym (map-set seen_of nodes i after) j; ways = map ways_of outs })
    (whole_node (traffic_in nodes outs) whole i (seen_of state) (seen_of after) here names)

undrained : (xs : List (Stamped Message)) (more : List (Stamped (Noticed Message))) → (xs ≡ [] → ⊥) → way_is_drained (map sent_packet xs ++ more) ≡ false
undrained [] more some = absurd (some refl)
undrained (x ∷ xs) more some = refl

-- the tests of a loss that is seen
abbrev tests : Bool → Bool → Bool → Bool → Bool → Option Refusal
tests pair cut gone drained full = first_that_holds ((not pair, NoSuchPlace) ∷ (cut, NodeLost) ∷ (not gone, NotLost) ∷ (not drained, NotDrained) ∷ (full, ClockFull) ∷ [])

module _ (config : Config) (nodes : List Seen) (w : TimedFrameWorld) (i p : ℕ) (lost : List ℕ) (shows : ShowsNodes config nodes w) (seen : SeenAreLost config w lost)
    (pair : is_pair (length nodes) i p ≡ true) (lives : is_cut_off nodes lost i p ≡ false) where
  abbrev u : LosingFrameWorld
  u = losing_of config w lost

  pub there : is_pair (length config) i p ≡ true
  there = sym (pair_here config nodes w lost shows i p) ∙ pair

  pub turned : is_pair (length config) p i ≡ true
  turned = pair_turned (length config) i p there

  cut : (is_lost lost i || (w.node i).state.lost (name_at config p)) ≡ false
  cut = sym (cut_is config nodes w lost shows seen i p there) ∙ lives

  neither : (a b : Bool) → (a || b) ≡ false → (a ≡ false) × (b ≡ false)
  neither true b e = absurd (cc)
  neither false b e = (refl, e)

  pub stays : is_lost lost i ≡ false
  stays = (neither (is_lost lost i) ((w.node i).state.lost (name_at config p)) cut).0

  pub unseen : (w.node i).state.lost (name_at config p) ≡ false
  unseen = (neither (is_lost lost i) ((w.node i).state.lost (name_at config p)) cut).1

  abbrev coming : List (Stamped (Noticed Message))
  coming = (losing_of config w lost).world.wire p i

  pub not_lost : is_lost lost p ≡ false → see_refusal config u i p ≡ Some NotLost
  not_lost gone = λ j. tests (there j) (cut j) (gone j) (way_is_drained coming) (is_full (clock_after (w.node i).clock coming))

  pub not_drained : is_lost lost p ≡ true → (w.wire p i ≡ [] → ⊥) → see_refusal config u i p ≡ Some NotDrained
  not_drained gone some = λ j. tests (there j) (cut j) (gone j) (left j) (is_full (clock_after (w.node i).clock coming))
    where
      left : way_is_drained coming ≡ false
      left = undrained (w.wire p i) (notices config w lost p i) some

  module _ (gone : is_lost lost p ≡ true) (none_coming : w.wire p i ≡ []) (node : Seen) (at : slice_get nodes i ≡ Some node)
      (last : ℕ) (clock : (w.node p).clock ≡ last) where
    its : ShowsNode config w i node
    its = shows.each i node at

    peer_is : place_name node.names (peer_place i p + 1) ≡ name_at config p
    peer_is = let all = pair_is (length config) i p there in ap (λ ns. place_name ns (peer_place i p + 1)) its.names ∙ (peer_name config i all.0 (peer_place i p)
        ∙ (ap (place_name (names_of config)) (there_and_back i p all.2) ∙ sym (named config i all.0 p)))

    abbrev turn : TimedTurn
    turn = at_clock (sight_clock w i p) (sight config w i p)

    -- what the node tells
    told : (fits : Bool) → nat_le (sight_clock w i p) CLOCK_LIMIT ≡ fits
        → step_see_loss (place_name node.names (peer_place i p + 1)) last node.state ≡ cond fits (Ok turn) (Err ClockFull)
    told fits is =
        (λ j. step_see_loss (peer_is j) (sym clock j) (sym its.state j))
        ∙ (ap (λ b. timed (sight_clock w i p) (cond b (Err NodeLost) (Ok (sight config w i p)))) unseen
        ∙ ap (λ b. cond b (Ok turn) (Err ClockFull)) is)

    refusal_is : (fits : Bool) → nat_le (sight_clock w i p) CLOCK_LIMIT ≡ fits → see_refusal config u i p ≡ tests true false true true (not fits)
    refusal_is fits is =
        (λ j. tests (there j) (cut j) (gone j) (way_is_drained (alone j)) (is_full (clock_after (w.node i).clock (alone j))))
        ∙ ap (λ b. tests true false true true (not b)) is
      where
        alone : coming ≡ last_notice (w.node p) ∷ []
        alone = (λ j. map sent_packet (none_coming j) ++ cond (turned j && (gone j && not (unseen j))) (last_notice (w.node p) ∷ []) [])

    module _ (Shown : LosingFrameWorld → Type 0) where
      pub sight_refused : {S : Type 0} (listing : Listing S) (fault : NodeFault) (s : Timed State) (before after : ℕ → List Answer) → Shown u
          → Comes {S = S} {h = listing} node.names (step_see_loss (place_name node.names (peer_place i p + 1)) last node.state) (Err fault) s before after
          → LosingComesTo config u (told_sight config u i p) (Err fault) Shown
      sight_refused {S} listing fault s before after still comes = go (nat_le (sight_clock w i p) CLOCK_LIMIT) refl fault comes
        where
          go : (fits : Bool) → nat_le (sight_clock w i p) CLOCK_LIMIT ≡ fits → (fault : NodeFault)
              → Comes {S = S} {h = listing} node.names (step_see_loss (place_name node.names (peer_place i p + 1)) last node.state) (Err fault) s before after
              → LosingComesTo config u (told_sight config u i p) (Err fault) Shown
          go fits e fault h = by_fault fits e fault (subst (λ r. Comes {S = S} {h = listing} node.names r (Err fault) s before after) (told fits e) h)
            where
              by_fault : (b : Bool) → nat_le (sight_clock w i p) CLOCK_LIMIT ≡ b → (f : NodeFault) → Comes {S = S} {h = listing} node.names (cond b (Ok turn) (Err ClockFull)) (Err f) s before after
                  → LosingComesTo config u (told_sight config u i p) (Err f) Shown
              by_fault true full OutOfMemory k = (ap is_told_first (refusal_is true full), still)
              by_fault true full (Refused r) k = absurd k
              by_fault true full (BadMessage m) k = absurd k
              by_fault true full TooLong k = absurd k
              by_fault true full Damaged k = absurd k
              by_fault false full OutOfMemory k = absurd (cc)
              by_fault false full (Refused r) k = let one : r ≡ ClockFull = cc in (refusal_is false full ∙ ap Some (sym one), still)
              by_fault false full (BadMessage m) k = absurd (cc)
              by_fault false full TooLong k = absurd (cc)
              by_fault false full Damaged k = absurd (cc)

      pub sight_seen : {S : Type 0} {listing : Listing S} (done : Done S listing) (s : Timed State) (before after : ℕ → List Answer)
          → (Happens node.names turn done s before after → Shown (losing_of config (sighted config w lost i p there) lost))
          → Comes node.names (step_see_loss (place_name node.names (peer_place i p + 1)) last node.state) (Ok done) s before after
          → LosingComesTo config u (told_sight config u i p) (Ok (Happened no_effect)) Shown
      sight_seen done s before after then comes = go (nat_le (sight_clock w i p) CLOCK_LIMIT) refl (λ b e. subst (λ r. Comes node.names r (Ok done) s before after) (told b e) comes)
        where
          go : (b : Bool) → nat_le (sight_clock w i p) CLOCK_LIMIT ≡ b
              → ((c : Bool) → nat_le (sight_clock w i p) CLOCK_LIMIT ≡ c → Comes node.names (cond c (Ok turn) (Err ClockFull)) (Ok done) s before after)
              → LosingComesTo config u (told_sight config u i p) (Ok (Happened no_effect)) Shown
          go true e h = (
            refl,
            record { allowed = refusal_is true e; busy = refl },
            sight_effect config w lost i p there shows.apart turned stays gone unseen none_coming e,
            (losing_of config (sighted config w lost i p there) lost, sight_happens config w lost i p there shows.apart turned stays gone unseen none_coming e, then (h true e)),
          )
          go false e h = let no = h false e in absurd (cc)

-- ---- over packets

module _ (config : Config) (old new : View) (u : LosingFrameWorld) (i p : ℕ) (lost lost2 : List ℕ) (shows : ShowsLosing config old lost u)
    (pair : is_pair (length old.traffic.nodes) i p ≡ true) (lives : is_cut_off old.traffic.nodes lost i p ≡ false) where
  abbrev w : TimedFrameWorld
  w = shows.frames

  told_here : (r : Refusal) → see_refusal config (losing_of config w lost) i p ≡ Some r → see_refusal config u i p ≡ Some r
  told_here r is = subst (λ (x : LosingFrameWorld). see_refusal config x i p ≡ Some r) (sym shows.is) is

  pub packets_not_lost : is_lost lost p ≡ false → see_refusal config u i p ≡ Some NotLost
  packets_not_lost gone = told_here NotLost (not_lost config old.traffic.nodes w i p lost shows.shows.traffic.nodes shows.seen pair lives gone)

  way_is : w.wire p i ≡ on_the_way old.traffic p i
  way_is = shows.shows.traffic.ways p i (turned config old.traffic.nodes w i p lost shows.shows.traffic.nodes shows.seen pair lives)

  pub packets_not_drained : is_lost lost p ≡ true → (on_the_way old.traffic p i ≡ [] → ⊥) → see_refusal config u i p ≡ Some NotDrained
  packets_not_drained gone some = told_here NotDrained (not_drained config old.traffic.nodes w i p lost shows.shows.traffic.nodes shows.seen pair lives gone (λ e. some (sym way_is ∙ e)))

  module _ (gone : is_lost lost p ≡ true) (drained : on_the_way old.traffic p i ≡ []) (node : Seen) (at : slice_get old.traffic.nodes i ≡ Some node)
      (last : ℕ) (clock : (w.node p).clock ≡ last) (same : lost2 ≡ lost) where
    pub packets_sight_refused : (fault : NodeFault) (s : Timed State) (before after : ℕ → List Answer) → new ≡ old
        → Comes {h = packets.ghosts} node.names (step_see_loss (place_name node.names (peer_place i p + 1)) last node.state) (Err fault) s before after
        → LosingComesTo config u (told_sight config u i p) (Err fault) (ShowsLosing config new lost2)
    packets_sight_refused fault s before after is comes = subst (λ (x : LosingFrameWorld). LosingComesTo config x (told_sight config x i p) (Err fault) (ShowsLosing config new lost2)) (sym shows.is)
        (sight_refused config old.traffic.nodes w i p lost shows.shows.traffic.nodes shows.seen pair lives gone (way_is ∙ drained) node at last clock (ShowsLosing config new lost2) packets.ghosts fault s before after
        (subst (λ (l : List ℕ). ShowsLosing config new l (losing_of config w lost)) (sym same) (subst (λ (v : View). ShowsLosing config v lost (losing_of config w lost)) (sym is)
        (subst (ShowsLosing config old lost) shows.is shows))) comes)

    pub packets_sight_seen : {S : Type 0} {listing : Listing S} (after : Seen) (done : Done S listing) → new.traffic.nodes ≡ slice_set old.traffic.nodes i after → after.names ≡ node.names → after.ports ≡ node.ports
        → ((x y : ℕ) → on_the_way new.traffic x y ≡ on_the_way old.traffic x y) → new.account ≡ old.account
        → Comes node.names (step_see_loss (place_name node.names (peer_place i p + 1)) last node.state) (Ok done) after.state node.answers after.answers
        → (effect : Effect) → effect ≡ no_effect → LosingComesTo config u (told_sight config u i p) (Ok (Happened effect)) (ShowsLosing config new lost2)
    packets_sight_seen after done set names ports ways account comes effect none =
        subst (λ e. LosingComesTo config u (told_sight config u i p) (Ok (Happened e)) (ShowsLosing config new lost2)) (sym none)
        (subst (λ (x : LosingFrameWorld). LosingComesTo config x (told_sight config x i p) (Ok (Happened no_effect)) (ShowsLosing config new lost2)) (sym shows.is)
        (sight_seen config old.traffic.nodes w i p lost shows.shows.traffic.nodes shows.seen pair lives gone (way_is ∙ drained) node at last clock (ShowsLosing config new lost2) done after.state node.answers after.answers seen_so comes))
      where
        here : is_pair (length config) i p ≡ true
        here = there config old.traffic.nodes w i p lost shows.shows.traffic.nodes shows.seen pair lives

        seen_so : Happens node.names (at_clock (sight_clock w i p) (sight config w i p)) done after.state node.answers after.answers → ShowsLosing config new lost2 (losing_of config (sighted config w lost i p here) lost)
        seen_so happened = record {
          frames = sighted config w lost i p here;
          shows = record {
            traffic = record {
              nodes = nodes_sighted config w lost i p here old.traffic.nodes new.traffic.nodes old.account new.account node after done shows.shows.traffic.nodes shows.shows.updates at set names ports happened account;
              ways = λ x y pair_there. same_wire config w lost i p here x y ∙ (shows.shows.traffic.ways x y pair_there ∙ sym (ways x y));
            };
            updates = updates_sighted config w lost i p here old.traffic.nodes new.traffic.nodes old.account new.account node after done shows.shows.traffic.nodes shows.shows.updates at set names ports happened account;
          };
          seen = λ x q pair_there has. ap (λ (l : List ℕ). is_lost l q) same ∙ seen_then config w lost i p here shows.shows.traffic.nodes.apart shows.seen gone x q pair_there has;
          is = ap (losing_of config (sighted config w lost i p here)) (sym same);
        }
