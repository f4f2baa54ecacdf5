-- No lock is held for a node whose loss was seen.
use Rattle.std.proofs.Common.{◌≡◌, ◌⊎◌, inl, inr, ℕ, Bool, true, false, not, ◌&&◌, cond, nat_eq, take, length}
use Rattle.std.proofs.Common.{zero, suc, List, [], ◌∷◌, ◌++◌, Option, Some, None, refl, ap, sym, ◌∙◌, subst}
use Rattle.std.proofs.lemmas.Bool.{ne_eqb}
use Rattle.std.specs.Prelude.{map}
use Rattle.std.specs.List.{AllByRecursion, IsDistinct}
use Rattle.pg_term.specs.declared.term.Term.{Term}
use Rattle.pg_term.specs.RefParts.{RefParts}
use Rattle.pg_term.specs.Same.{same_atom}
use Rattle.pg_laws.proofs.PgGroup.Changes.{upd_other}
use Rattle.pg_laws.specs.PgLock.Locks.{freed_of}
use Rattle.pg_laws.proofs.PgStep.Machines.Options.{some_is}
use Rattle.pg_laws.specs.PgMessageTypes.declared.message.Message.{Message}
use Rattle.pg_laws.specs.PgMessageTypes.declared.message.Message.TheVariants.{Exchange}
use Rattle.pg_laws.specs.PgStep.Machines.Machine.{Input, Turn, Event, Taken, Own, node_of, start_of}
use Rattle.pg_laws.specs.PgStep.Machines.Happened.{Happened}
use Rattle.pg_laws.specs.PgStep.Machines.Losing.{Noticed, Sent, Last, LosingEvent, nobody_gone, mapped_turn}
use Rattle.pg_laws.specs.PgStep.Machines.Places.{is_place, is_pair}
use Rattle.pg_laws.proofs.PgStep.Machines.Places.{by_place}
use Rattle.pg_laws.proofs.PgStep.Machines.Plain.{plain_start}
use Rattle.pg_laws.proofs.PgStep.Machines.Steps.{pair_apart}
use Rattle.pg_laws.specs.PgStep.Config.{Config, names_of, name_at, nodes_at, groups_at, ports_at}
use Rattle.pg_laws.specs.PgStep.FrameMachine.{losing_machine_of, losing_frame_machine, node_step, place_turn}
use Rattle.pg_laws.specs.PgStep.Losses.{see_loss}
use Rattle.pg_laws.specs.PgStep.LossLaws.{LosingFrameWorld}
use Rattle.pg_laws.specs.PgStep.Nodes.{Node}
use Rattle.pg_laws.specs.PgStep.State.{State, live_nodes}
use Rattle.pg_laws.specs.PgStep.Step.{CLOCK_LIMIT, Action}
use Rattle.pg_laws.specs.PgStep.Turns.{NodeTurn, Report}
use Rattle.pg_laws.specs.WithLosses.{NoLockOfLost}
use Rattle.pg_laws.proofs.places.Located.{same_names}
use Rattle.pg_laws.proofs.steps.Lossless.{step_sees_none}
use Rattle.pg_laws.proofs.steps.Made.{took_so, did_so}
use Rattle.pg_laws.proofs.steps.Ways.{WayAfter, Grown, Shorter, Unchanged, all_both, own_place}
use Rattle.pg_laws.proofs.steps.Ways.{packet_there, pair_there, state_after, way_after}
use Rattle.pg_laws_losses.specs.Reached.{LosingReaches}
use Rattle.pg_laws_losses.proofs.Lasts.{unheard_so}
use Rattle.pg_laws_losses.proofs.Lossy.{Lossy, bare, Passed, Went, Died, kept_past, Makes, Steps, Sees, makes, noted}
use Rattle.pg_laws_losses.proofs.Requests.{IsOwnRequest, Guards, acted_guards, taken_guards}

-- what is on the way from a node asks for locks for it alone
abbrev IsOwnNoted : Node → Noticed Message → Type 0
IsOwnNoted own (Sent x) = IsOwnRequest own x
IsOwnNoted own Last = Unit {0}

abbrev AllOwn : Node → List (Noticed Message) → Type 0
AllOwn own xs = AllByRecursion (IsOwnNoted own) xs

-- no lock is held for a node whose loss this one has seen, which does not see its own
pub record Clear (own : Node) (s : State) : Type 0 where
  pub here : s.lost own ≡ false
  pub free : (name : Term) (h : RefParts) → s.locks name ≡ Some h → s.lost h.node ≡ false

record Unheld (config : Config) (w : Lossy) : Type 0 where
  requests : (p y : ℕ) → AllOwn (name_at config p) (w.world.wire p y)
  clear : (i : ℕ) → is_place (length config) i ≡ true → Clear (name_at config i) (w.world.node i)

-- ---- ways

noted_all : (own : Node) (xs : List Message) → AllByRecursion (IsOwnRequest own) xs → AllOwn own (map Sent xs)
noted_all own [] all = tt
noted_all own (x ∷ xs) all = (all.0, noted_all own xs all.1)

first_all : (own : Node) (k : ℕ) (xs : List (Noticed Message)) → AllOwn own xs → AllOwn own (take k xs)
first_all own zero xs all = tt
first_all own (suc k) [] all = tt
first_all own (suc k) (x ∷ xs) all = (all.0, first_all own k xs all.1)

cut_all : (own : Node) (b : Bool) (k : ℕ) (xs : List (Noticed Message)) → AllOwn own xs → AllOwn own (cond b (take k xs ++ Last ∷ []) xs)
cut_all own true k xs all = all_both (IsOwnNoted own) (take k xs) (Last ∷ []) (first_all own k xs all) (tt, tt)
cut_all own false k xs all = all

-- ---- turns

module _ (config : Config) (i : ℕ) (s : State) where
  -- what a turn leaves, by the peer whose packet was taken
  record Leaves (turn : Turn State Message Report) : Type 0 where
    peer : Node
    known : s.lost peer ≡ false
    locks : (name : Term) (h : RefParts) → turn.state.locks name ≡ Some h → (s.locks name ≡ Some h) ⊎ ((h.node ≡ name_at config i) ⊎ (h.node ≡ peer))
    sends : (q : ℕ) → AllByRecursion (IsOwnRequest (name_at config i)) (turn.sends q)

  placed_leaves : (peer : Node) (t : NodeTurn) (turn : Turn State Message Report) → s.lost peer ≡ false → Guards (name_at config i) peer s t → turn ≡ place_turn config t → Leaves turn
  placed_leaves peer t turn known guards same = subst Leaves (sym same) (record {
    peer = peer;
    known = known;
    locks = guards.locks;
    sends = λ q. go (t.sends (name_at config q)) (is_place (length config) q) (guards.asks (name_at config q));
  })
    where
      go : (xs : List Message) (b : Bool) → AllByRecursion (IsOwnRequest (name_at config i)) xs → AllByRecursion (IsOwnRequest (name_at config i)) (cond b xs [])
      go xs true all = all
      go xs false all = tt

  abbrev Asks : Input Message Action → Type 0
  Asks (Taken p x) = IsOwnRequest (name_at config p) x
  Asks (Own action) = Unit {0}

  step_leaves : (input : Input Message Action) (turn : Turn State Message Report) → s.lost (name_at config i) ≡ false → Asks input → node_step config i s input ≡ Some turn → Leaves turn
  step_leaves (Taken p x) turn here ours is =
      let t = took_so config i s p x turn is in
      placed_leaves (name_at config p) t.0 turn (known (s.lost (name_at config p)) refl) (taken_guards (live_nodes (nodes_at config i) s) (name_at config p) x s t.0 ours t.1) t.2
    where
      known : (b : Bool) → s.lost (name_at config p) ≡ b → s.lost (name_at config p) ≡ false
      known false e = e
      known true e = absurd (unheard_so config i p s x turn e is)
  step_leaves (Own action) turn here ours is =
      let t = did_so config i s action turn is in
      placed_leaves (name_at config i) t.0 turn here (acted_guards (live_nodes (nodes_at config i) s) (name_at config i) (nodes_at config i) (ports_at config i) action s t.0 t.1) t.2

  leaves_clear : (turn : Turn State Message Report) → Clear (name_at config i) s → turn.state.lost ≡ s.lost → Leaves turn → Clear (name_at config i) turn.state
  leaves_clear turn old same leaves = record {
    here = ap (λ (f : Node → Bool). f (name_at config i)) same ∙ old.here;
    free = λ name h is. ap (λ (f : Node → Bool). f h.node) same ∙ go name h (leaves.locks name h is);
  }
    where
      go : (name : Term) (h : RefParts) → (s.locks name ≡ Some h) ⊎ ((h.node ≡ name_at config i) ⊎ (h.node ≡ leaves.peer)) → s.lost h.node ≡ false
      go name h (inl e) = old.free name h e
      go name h (inr (inl e)) = ap s.lost e ∙ old.here
      go name h (inr (inr e)) = ap s.lost e ∙ leaves.known

pub freed_is : (peer : Node) (o : Option RefParts) (h : RefParts) → freed_of peer o ≡ Some h → (o ≡ Some h) × (same_atom peer h.node ≡ false)
freed_is peer None h e = absurd (cc)
freed_is peer (Some other) h e = go (same_atom peer other.node) refl e
  where
    go : (b : Bool) → same_atom peer other.node ≡ b → cond b None (Some other) ≡ Some h → (◌≡◌ {A = Option RefParts} (Some other) (Some h)) × (same_atom peer h.node ≡ false)
    go true is e = absurd (cc)
    go false is e = (e, subst (λ (r : RefParts). same_atom peer r.node ≡ false) (some_is e) is)

-- the loss of another is seen
loss_clear : (own peer : Node) (s : State) → same_atom peer own ≡ false → Clear own s → Clear own (see_loss peer s).state
loss_clear own peer s apart old = record {
  here = upd_other same_atom s.lost peer true own apart ∙ old.here;
  free = λ name h is. let held_ = freed_is peer (s.locks name) h is in upd_other same_atom s.lost peer true h.node held_.1 ∙ old.free name h held_.0;
}

-- ---- events

module _ (config : Config) (apart : IsDistinct same_atom (names_of config)) where
  record Turns (i : ℕ) (s : State) (turn : Turn State (Noticed Message) Report) : Type 0 where
    clear : Clear (name_at config i) turn.state
    sends : (q : ℕ) → AllOwn (name_at config i) (turn.sends q)

  steps_turn : (i : ℕ) (s : State) (given : Input Message Action) (t : Turn State Message Report) → Clear (name_at config i) s → Asks config i s given → node_step config i s given ≡ Some t → Turns i s (mapped_turn Sent t)
  steps_turn i s given t old ours made =
      let leaves = step_leaves config i s given t old.here ours made in
      record { clear = leaves_clear config i s t old (step_sees_none config i s given t made) leaves; sends = λ q. noted_all (name_at config i) (t.sends q) (leaves.sends q) }

  module _ (w v : Lossy) (d : Event Action) (h : Happened (losing_machine_of config) w.world d v.world) (old : Unheld config w) where
    abbrev i : ℕ
    i = node_of d

    there : is_place (length config) i ≡ true
    there = own_place (losing_machine_of config) w.world v.world d h

    asked : (given : Input Message Action) → h.input ≡ noted given → Asks config i (w.world.node i) given
    asked (Taken p x) is =
        let first = packet_there (losing_machine_of config) w.world v.world d h p (Sent x) is in
        (subst (AllOwn (name_at config p)) first.1 (old.requests p i)).0
    asked (Own action) is = tt

    turned : Makes config i (w.world.node i) h.input h.turn → Turns i (w.world.node i) h.turn
    turned (Steps given t is made same) = subst (Turns i (w.world.node i)) (sym same) (steps_turn i (w.world.node i) given t (old.clear i there) (asked given is) made)
    turned (Sees p is not_yet same) =
        let pair = pair_there (losing_machine_of config) w.world v.world d h p Last is in
        let differ : same_atom (name_at config p) (name_at config i) ≡ false = other_names p pair in
        subst (Turns i (w.world.node i)) (sym same) (record { clear = loss_clear (name_at config i) (name_at config p) (w.world.node i) differ (old.clear i there); sends = λ q. none (is_place (length config) q) })
      where
        peer_place : (a b c : Bool) → (a && (b && c)) ≡ true → b ≡ true
        peer_place true true c e = refl
        peer_place true false c e = absurd (cc)
        peer_place false b c e = absurd (cc)

        other_names : (p : ℕ) → is_pair (length config) i p ≡ true → same_atom (name_at config p) (name_at config i) ≡ false
        other_names p pair = same_names config apart p i (peer_place (is_place (length config) i) (is_place (length config) p) (not (nat_eq i p)) pair) there
            ∙ ne_eqb p i (λ same. pair_apart (length config) i p pair (sym same))

        none : (b : Bool) → AllOwn (name_at config i) (map Sent (cond b [] []))
        none true = tt
        none false = tt

    turns : Turns i (w.world.node i) h.turn
    turns = turned (makes config i (w.world.node i) h.input h.turn h.made)

    event_unheld : Unheld config v
    event_unheld = record {
      requests = λ x y. way x y (way_after (losing_machine_of config) w.world v.world d h x y);
      clear = λ j is. state_after (losing_machine_of config) w.world v.world d h (Clear (name_at config j)) j
          (λ own. subst (λ k. Clear (name_at config k) h.turn.state) (sym own) turns.clear) (λ other. old.clear j is);
    }
      where
        way : (x y : ℕ) → WayAfter i h.input x y (h.turn.sends y) (w.world.wire x y) (v.world.wire x y) → AllOwn (name_at config x) (v.world.wire x y)
        way x y (Grown own new) = subst (AllOwn (name_at config x)) (sym new)
            (all_both (IsOwnNoted (name_at config x)) (w.world.wire x y) (h.turn.sends y) (old.requests x y) (subst (λ k. AllOwn (name_at config k) (h.turn.sends y)) (sym own) (turns.sends y)))
        way x y (Shorter packet apart_ here is was) = (subst (AllOwn (name_at config x)) was (old.requests x y)).1
        way x y (Unchanged apart_ not_it new) = subst (AllOwn (name_at config x)) (sym new) (old.requests x y)

  passed_unheld : (w v : Lossy) (e : LosingEvent Action) → Passed config w v e → Unheld config w → Unheld config v
  passed_unheld w v e (Went d is lives h same) old = event_unheld w v d h old
  passed_unheld w v e (Died i keep is there_ lives cut gone) old = record {
    requests = λ x y. subst (λ u. AllOwn (name_at config x) (u.wire x y)) (sym cut)
        (by_place w.world.wire i _ (λ (f : ℕ → List (Noticed Message)). AllOwn (name_at config x) (f y)) x
        (λ own. cut_all (name_at config x) (is_pair (length config) i y) (keep y) (w.world.wire i y) (subst (λ k. AllOwn (name_at config x) (w.world.wire k y)) own (old.requests x y)))
        (λ other. old.requests x y));
    clear = λ j is_. subst (λ u. Clear (name_at config j) (u.node j)) (sym cut) (old.clear j is_);
  }

  start_unheld : Unheld config (nobody_gone (start_of (losing_machine_of config)))
  start_unheld = record {
    requests = λ x y. opened x (is_pair (length config) x y);
    clear = λ i is. record { here = refl; free = λ name h e. absurd (cc) };
  }
    where
      opened : (x : ℕ) (b : Bool) → AllOwn (name_at config x) (map Sent (cond b (Exchange (name_at config x) (groups_at config x) ∷ []) []))
      opened x true = (tt, tt)
      opened x false = tt

  reached_unheld : (es : List (LosingEvent Action)) (w : LosingFrameWorld) → LosingReaches config es w → Unheld config (bare w)
  reached_unheld es w l = kept_past config (Unheld config) passed_unheld es (nobody_gone (start_of (losing_frame_machine config))) w l
      (subst (λ u. Unheld config (nobody_gone u)) (sym (plain_start (losing_machine_of config) CLOCK_LIMIT)) start_unheld)

  -- no name at a node has a holder whose node's loss it saw
  pub no_lock_of_lost : (es : List (LosingEvent Action)) (w : LosingFrameWorld) (i : ℕ) → LosingReaches config es w → is_place (length config) i ≡ true → NoLockOfLost w i
  no_lock_of_lost es w i l there_ name h is = ((reached_unheld es w l).clear i there_).free name h is
