-- A loss is told as not drained where bytes of the lost node are left, and only there.
use Rattle.std.proofs.Common.{◌≡◌, ℕ, ◌+◌, Bool, true, false, not, ◌||◌, ◌&&◌, cond, length}
use Rattle.std.proofs.Common.{max, List, [], ◌∷◌, Option, Some, Result, Ok, Err, refl, ap, sym, ◌∙◌, subst}
use Rattle.std.specs.Prelude.{nat_le, slice_get}
use Rattle.std.specs.Option.{option_map_or}
use Rattle.pg_world_packets.specs.PgStep.Machines.Places.{is_pair}
use Rattle.pg_world_packets.specs.PgStep.Machines.Clocked.{Timed}
use Rattle.pg_world_packets.specs.PgStep.declared.answer.Answer.{Answer}
use Rattle.pg_world_packets.specs.PgStep.declared.refusal.Refusal.{Refusal}
use Rattle.pg_world_packets.specs.PgStep.declared.refusal.Refusal.TheVariants.{ClockFull, NoSuchPlace, NodeLost, NotLost, NotDrained}
use Rattle.pg_world_packets.specs.PgStep.Faults.{first_that_holds}
use Rattle.pg_world_packets.specs.PgNodeOpens.Places.{name_at}
use Rattle.pg_world_packets.specs.PgStep.Losses.{see_loss}
use Rattle.pg_world_packets.specs.PgStep.Nodes.{Node}
use Rattle.pg_world_packets.specs.PgStep.State.{State}
use Rattle.pg_world_packets.specs.PgStep.Step.{CLOCK_LIMIT, TimedTurn, at_clock, timed}
use Rattle.pg_world_packets.specs.PgStep.Turns.{NodeTurn}
use Rattle.pg_world_packets.specs.PgNodeSends.contracts.framing.FramedOutgoing.TheImpl as frames
use Rattle.pg_world_packets.specs.PgNodeSends.Dones.{FramedDone}
use Rattle.pg_world_packets.specs.PgNodeState.declared.state.fault.NodeFault.{NodeFault}
use Rattle.pg_world_packets.specs.PgNodeState.declared.state.fault.NodeFault.TheVariants.{Refused}
use Rattle.pg_node.specs.Bytes.{is_drained}
use Rattle.pg_node.specs.Links.{Link}
use Rattle.pg_node.specs.Nodes.{step_lose}
use Rattle.pg_world_packets.specs.PgNodeState.States.{Comes, step_see_loss}
use Rattle.pg_world_packets.specs.declared.step.Stepped.{Stepped}
use Rattle.pg_world_packets.specs.Losing.{is_cut_off, seen_at}
use Rattle.pg_world_packets.specs.PgWorldAccount.Losses.{is_lost}
use Rattle.pg_world_packets.specs.PgWorldConfig.Seen.{Seen}
use Rattle.pg_world_packets.specs.Views.{peer_place}
use Rattle.pg_world.specs.Bars.{RefusesBarred, has_bytes, sight_bar}
use Rattle.pg_world.specs.Crossings.{Crossing, bytes_at, link_at}

abbrev told : Result TimedTurn Refusal
told = Err NotDrained

-- a turn is refused by other faults
turn_refused : (clock : ℕ) (lost : Bool) (turn : NodeTurn) → timed clock (cond lost (Err NodeLost) (Ok turn)) ≡ told → ⊥
turn_refused clock true turn is = cc
turn_refused clock false turn is = go (nat_le clock CLOCK_LIMIT) is
  where
    go : (full : Bool) → cond full (Ok (at_clock clock turn)) (Err ClockFull) ≡ told → ⊥
    go true e = cc
    go false e = cc

module _ (names : List Node) (peer : Node) (last : ℕ) (link : Link) (s t : Timed State) (before after : ℕ → List Answer) (fault : NodeFault) (is : fault ≡ Refused NotDrained) where
  step_refused : (r : Result TimedTurn Refusal) → step_see_loss peer last s ≡ r → Comes {h = frames.ghosts} names r (Err fault) t before after → ⊥
  step_refused (Ok turn) at comes = subst (λ f. Comes {h = frames.ghosts} names (Ok turn) (Err f) t before after) is comes
  step_refused (Err refusal) at comes =
      let one : refusal ≡ NotDrained = cc in
      turn_refused (max s.clock last + 1) (s.state.lost peer) (see_loss peer s.state) (at ∙ ap Err one)

  -- so where a node tells it, a whole frame has come
  pub undrained_told : Comes {h = frames.ghosts} names (step_lose peer last link s) (Err fault) t before after → is_drained link ≡ false
  undrained_told comes = go (s.state.lost peer) (is_drained link) refl comes
    where
      go : (lost drained : Bool) → is_drained link ≡ drained → Comes {h = frames.ghosts} names (cond lost (Err NodeLost) (cond drained (step_see_loss peer last s) (Err NotDrained))) (Err fault) t before after → is_drained link ≡ false
      go true drained at c = let other : ◌≡◌ {A = Result FramedDone NodeFault} (Err fault) (Err (Refused NodeLost)) = c in absurd (cc)
      go false false at c = at
      go false true at c = absurd (step_refused (step_see_loss peer last s) refl c)

or_right : (a b : Bool) → b ≡ true → (a || b) ≡ true
or_right true b e = refl
or_right false b e = e

pub left_there : (ring drained : Bool) → drained ≡ false → (ring || not drained) ≡ true
left_there ring drained e = or_right ring (not drained) (ap not e)

pub bytes_there : (ring drained : Bool) → ring ≡ true → (ring || not drained) ≡ true
bytes_there ring drained e = ap (λ b. b || not drained) e

-- where a loss is seen, no whole frame has come
pub drained_told : (names : List Node) (peer : Node) (last : ℕ) (link : Link) (s t : Timed State) (before after : ℕ → List Answer) (done : FramedDone) → Comes names (step_lose peer last link s) (Ok done) t before after → is_drained link ≡ true
drained_told names peer last link s t before after done comes = go (s.state.lost peer) (is_drained link) refl comes
  where
    go : (lost drained : Bool) → is_drained link ≡ drained → Comes names (cond lost (Err NodeLost) (cond drained (step_see_loss peer last s) (Err NotDrained))) (Ok done) t before after → is_drained link ≡ true
    go true drained at c = let no : ◌≡◌ {A = Result FramedDone NodeFault} (Ok done) (Err (Refused NodeLost)) = c in absurd (cc)
    go false false at c = let no : ◌≡◌ {A = Result FramedDone NodeFault} (Ok done) (Err (Refused NotDrained)) = c in absurd (cc)
    go false true at c = at

-- a loss that was not seen, as the node has it
pub unseen_at : (nodes : List Seen) (lost : List ℕ) (i p : ℕ) (node : Seen) → slice_get nodes i ≡ Some node → is_lost lost p ≡ true → is_cut_off nodes lost i p ≡ false
    → node.state.state.lost (name_at node.names (peer_place i p + 1)) ≡ false
unseen_at nodes lost i p node at gone lives = sym (ap (λ (o : Option Seen). option_map_or (λ n. n.state.state.lost (name_at n.names (peer_place i p + 1))) o false) at)
    ∙ go (is_lost lost i) (is_lost lost p) (seen_at nodes i p) gone lives
  where
    go : (a b seen : Bool) → b ≡ true → (a || (b && seen)) ≡ false → seen ≡ false
    go true b seen e f = absurd (cc)
    go false true seen e f = f
    go false false seen e f = absurd (cc)

-- ---- what bars that a loss is seen

module _ (crossing : Crossing) (lost : List ℕ) (i p : ℕ) (pair : is_pair (length crossing.nodes) i p ≡ true) (lives : is_cut_off crossing.nodes lost i p ≡ false) (gone : is_lost lost p ≡ true) where
  -- by what is left alone, where the nodes are there, and one is lost
  bar_is : (ring whole : Bool) → has_bytes (bytes_at crossing p i).ring ≡ ring → not (is_drained (link_at crossing i p)) ≡ whole
      → sight_bar crossing lost i p ≡ first_that_holds ((ring || whole, NotDrained) ∷ [])
  bar_is ring whole on come = λ j. first_that_holds ((not (pair j), NoSuchPlace) ∷ (lives j, NodeLost) ∷ (not (gone j), NotLost) ∷ (on j || come j, NotDrained) ∷ [])

  pub sight_bytes : has_bytes (bytes_at crossing p i).ring ≡ true → RefusesBarred (sight_bar crossing lost i p) (Err (Refused NotDrained))
  sight_bytes on = subst (λ (b : Option Refusal). RefusesBarred b (Err (Refused NotDrained))) (sym (bar_is true (not (is_drained (link_at crossing i p))) on refl)) refl

  module _ (off : has_bytes (bytes_at crossing p i).ring ≡ false) where
    pub sight_free : (result : Result Stepped NodeFault) → is_drained (link_at crossing i p) ≡ true → RefusesBarred (sight_bar crossing lost i p) result
    sight_free result drained = subst (λ (b : Option Refusal). RefusesBarred b result) (sym (bar_is false false off (ap not drained))) tt

    -- as a node tells it
    pub sight_told : (names : List Node) (peer : Node) (last : ℕ) (s t : Timed State) (before after : ℕ → List Answer) (fault : NodeFault) → s.state.lost peer ≡ false
        → Comes {h = frames.ghosts} names (step_lose peer last (link_at crossing i p) s) (Err fault) t before after → RefusesBarred (sight_bar crossing lost i p) (Err fault)
    sight_told names peer last s t before after fault unseen comes = go (is_drained (link_at crossing i p)) refl
        (subst (λ b. Comes {h = frames.ghosts} names (cond b (Err NodeLost) (cond (is_drained (link_at crossing i p)) (step_see_loss peer last s) (Err NotDrained))) (Err fault) t before after) unseen comes)
      where
        go : (drained : Bool) → is_drained (link_at crossing i p) ≡ drained → Comes {h = frames.ghosts} names (cond drained (step_see_loss peer last s) (Err NotDrained)) (Err fault) t before after
            → RefusesBarred (sight_bar crossing lost i p) (Err fault)
        go true is told = sight_free (Err fault) is
        go false is told = let one : fault ≡ Refused NotDrained = cc in
            subst (λ (b : Option Refusal). RefusesBarred b (Err fault)) (sym (bar_is false true off (ap not is))) (ap (λ (f : NodeFault). Err f) one)
