-- Each world of a run shows a world by names of which all is held that the locks give.
use Rattle.std.proofs.Common.{◌≡◌, ℕ, Bool, true, false, not, ◌&&◌, cond, nat_lt, length, map, List, []}
use Rattle.std.proofs.Common.{◌∷◌, ◌++◌, Option, Some, None, refl, ap, sym, ◌∙◌, subst, inl, inr, ◌⊎◌}
use Rattle.std.specs.List.{AllByRecursion, IsDistinct, list_any}
use Rattle.std.proofs.lemmas.Bool.{cases_eq, eq-eqb, ne_eqb}
use Rattle.std.proofs.lemmas.List.{append-nil}
use Rattle.pg_term.specs.declared.term.Term.{Term}
use Rattle.pg_term.specs.RefParts.{RefParts}
use Rattle.pg_term.specs.Same.{same_atom}
use Rattle.pg_step.specs.PgGroup.declared.update.Update.{Update}
use Rattle.pg_step.specs.PgMessageTypes.declared.message.Message.{Message}
use Rattle.pg_step.specs.PgMessageTypes.declared.message.Message.TheVariants.{Exchange}
use Rattle.pg_step.specs.declared.command.OpId.{OpId}
use Rattle.pg_step.specs.Machines.Places.{is_pair, set_way}
use Rattle.pg_step.specs.Machines.Machine.{Turn, Event, Take, Do, node_of, start_of, perform as perform_at}
use Rattle.pg_step.specs.Machines.Happened.{Happened, Took}
use Rattle.pg_step.specs.Machines.Runs.{Leads}
use Rattle.pg_step.specs.Nodes.{Node}
use Rattle.pg_step.specs.State.{State, formed}
use Rattle.pg_step.specs.Turns.{Report}
use Rattle.pg_step.specs.Step.{Action, taken, acted}
use Rattle.pg_step.specs.Config.{Config, names_of, name_at, nodes_at, ports_at, groups_at}
use Rattle.pg_step.specs.FrameMachine.{node_step, machine_of, FrameWorld}
use Rattle.pg_laws.specs.History.{entries, entry_of as begun_by, update_of, applied_by}
use Rattle.pg_step.proofs.Once.{clash}
use Rattle.pg_step.proofs.Machines.Options.{some_is}
use Rattle.pg_step.proofs.Machines.Steps.{took, happens_so, changes}
use Rattle.pg_step.proofs.Machines.Sequences.{kept}
use Rattle.pg_laws.proofs.steps.Ways.{all_both, state_after, own_place}
use Rattle.pg_laws.proofs.steps.Grows.{entries_append}
use Rattle.pg_laws.proofs.steps.Lossless.{NobodyLost, took_all, did_all, event_nobody}
use Rattle.pg_laws.proofs.ends.Apart.{place_below, pair_first, pair_second}
use Rattle.pg_laws.proofs.places.Located.{place_of, has_place, is_named, place_is, and_true, left_out}
use Rattle.pg_laws.proofs.tables.TableRuns.{applied_after}
use Rattle.pg_laws.proofs.places.Unlocked.{AllUnlocked, event_unlocked}
use Rattle.pg_laws.proofs.places.Begun.{OwnFits, StepOwn, step_own}
use Rattle.pg_laws.proofs.locks.Named.{World, perform, popped, of_name, updates}
use Rattle.pg_laws.proofs.locks.Kept.{IsOurs, Live, Near, Inv}
use Rattle.pg_laws.proofs.references.References.{about}
use Rattle.pg_laws.proofs.locks.First.{IsFirst, first_holds}
use Rattle.pg_laws.proofs.locks.Moved.{acts_keep, takes_keep, acts_even, takes_even}
use Rattle.pg_laws.proofs.locks.Agreed.{NobodySeen, agrees_of}
use Rattle.pg_laws.proofs.places.Shown.{IsHere, by_name, Shows, shows_popped, shows_performed}

-- ---- the first world

abbrev pub first_world : Config → World
first_world config = record {
  nodes = names_of config;
  seat = λ a. nodes_at config (place_of (names_of config) a);
  node = λ a. (machine_of config).first (place_of (names_of config) a);
  wire = λ x y. (machine_of config).opening (place_of (names_of config) x) (place_of (names_of config) y);
  seen = λ a b. false;
  log = λ a. [];
  history = [];
  answered = [];
}

no_pair : (size i : ℕ) → is_pair size i i ≡ false
no_pair size i = ap (λ b. nat_lt i size && (nat_lt i size && not b)) (eq-eqb i i refl) ∙ go (nat_lt i size)
  where
    go : (b : Bool) → (b && (b && false)) ≡ false
    go true = refl
    go false = refl

module _ (config : Config) (apart : IsDistinct same_atom (names_of config)) where
  place_at : (i : ℕ) → IsHere config i → place_of (names_of config) (name_at config i) ≡ i
  place_at i here = place_is (names_of config) i (place_below config i here) apart

  pub shows_first : Shows config (start_of (machine_of config)) (first_world config)
  shows_first = record {
    nodes = refl;
    seen = refl;
    seat = λ i here. ap (nodes_at config) (place_at i here);
    node = λ i here. ap (machine_of config).first (place_at i here);
    wire = λ x y hx hy. λ k. (machine_of config).opening (place_at x hx k) (place_at y hy k);
    log = λ i N here. refl;
    history = refl;
    answered = refl;
  }

  pub first_is : IsFirst (first_world config)
  first_is = record {
    seats = record {
      own = λ a there. (has_place (names_of config) a there).1;
      peer = λ a q there.
          let at = has_place (names_of config) a there in
          left_out (names_of config) (place_of (names_of config) a) q at.0 apart
          ∙ (ap (λ z. list_any (same_atom q) (names_of config) && not (same_atom z q)) at.1
          ∙ and_true (list_any (same_atom q) (names_of config) && not (same_atom a q)));
    };
    locks = λ i N. refl;
    uses = λ i c. refl;
    stages = λ i op. refl;
    own = λ x. let p = place_of (names_of config) x in ap (λ b. cond b (Exchange (name_at config p) (groups_at config p) ∷ []) []) (no_pair (length config) p);
    plain = λ x y r. plain (place_of (names_of config) x) r (is_pair (length config) (place_of (names_of config) x) (place_of (names_of config) y));
    ours = λ x y. ours x y (place_of (names_of config) x) (is_pair (length config) (place_of (names_of config) x) (place_of (names_of config) y));
    log = λ p. refl;
    history = refl;
    answered = refl;
  }
    where
      plain : (p : ℕ) (r : RefParts) (b : Bool) → about r (cond b (Exchange (name_at config p) (groups_at config p) ∷ []) []) ≡ []
      plain p r true = refl
      plain p r false = refl

      ours : (x y : Node) (p : ℕ) (b : Bool) → AllByRecursion (IsOurs x y) (cond b (Exchange (name_at config p) (groups_at config p) ∷ []) [])
      ours x y p true = (tt, tt)
      ours x y p false = tt

  -- ---- an event

  -- a world by names that is shown, of which all is held
  pub record Has (v : FrameWorld) : Type 0 where
    pub world : World
    pub shows : Shows config v world
    pub inv : Inv world

  pub nobody_seen : (v : FrameWorld) (w : World) → Shows config v w → NobodySeen w
  nobody_seen v w shows x y = ap (λ (f : Node → Node → Bool). f x y) shows.seen

  pub live_at : (v : FrameWorld) (w : World) (i : ℕ) → Shows config v w → IsHere config i → Live w.nodes w.seen (name_at config i)
  live_at v w i shows here = record { there = ap (list_any (same_atom (name_at config i))) shows.nodes ∙ is_named (names_of config) i (place_below config i here); unseen = λ p. nobody_seen v w shows p (name_at config i) }

  pub near_at : (v : FrameWorld) (w : World) (i p : ℕ) → Shows config v w → IsHere config i → IsHere config p → Near w.nodes w.seen (name_at config p) (name_at config i)
  near_at v w i p shows here there = record { home = (live_at v w p shows there).there; peer = (live_at v w i shows here).there; known = nobody_seen v w shows (name_at config i) (name_at config p); counts = nobody_seen v w shows (name_at config p) (name_at config i) }

  did_has : (v u : FrameWorld) (i : ℕ) (action : Action) → Happened (machine_of config) v (Do i action) u → NobodyLost v → Has v → Has u
  did_has v u i action h nobody has =
      let w = has.world in
      let s = has.shows in
      let made = ap (node_step config i (v.node i)) (some_is h.given) ∙ h.made in
      let t = did_all config i (v.node i) (nobody i) action h.turn made in
      record {
        world = perform w (name_at config i) t.0;
        shows = subst (λ z. Shows config z (perform w (name_at config i) t.0)) (ap (perform_at v i) (sym t.2) ∙ h.leaves) (shows_performed config apart v w i h.there t.0 s);
        inv = acts_keep w (name_at config i) (live_at v w i s h.there) has.inv (nodes_at config i) (ports_at config i) action t.0
            ((λ k. acted (nodes_at config i) (s.seat i h.there k) (ports_at config i) action (s.node i h.there k)) ∙ t.1);
      }

  took_has : (v u : FrameWorld) (i p : ℕ) → Took (machine_of config) v i p u → NobodyLost v → Has v → Has u
  took_has v u i p h nobody has =
      let w = has.world in
      let s = has.shows in
      let here = pair_first (length config) i p h.pair in
      let there = pair_second (length config) i p h.pair in
      let a = name_at config i in
      let b = name_at config p in
      let t = took_all config i (v.node i) (nobody i) p h.packet h.turn h.made in
      let gone = popped w b a h.rest in
      record {
        world = perform gone a t.0;
        shows = subst (λ z. Shows config z (perform gone a t.0)) (ap (perform_at (record v { wire = set_way v.wire p i h.rest }) i) (sym t.2) ∙ h.leaves)
            (shows_performed config apart (record v { wire = set_way v.wire p i h.rest }) gone i here t.0 (shows_popped config apart v w p i h.rest there here s));
        inv = takes_keep w a b h.packet h.rest t.0 (live_at v w i s here) (near_at v w i p s here there) has.inv (s.wire p i there here ∙ h.first)
            ((λ k. taken (s.seat i here k) b h.packet (s.node i here k)) ∙ t.1);
      }

  event_has : (v u : FrameWorld) (e : Event Action) → Happened (machine_of config) v e u → NobodyLost v → Has v → Has u
  event_has v u (Do i action) h nobody has = did_has v u i action h nobody has
  event_has v u (Take i p) h nobody has = took_has v u i p ((took (machine_of config) v u i p).0 (happens_so (machine_of config) v u (Take i p) h)) nobody has

  -- no event tells of an odd reply
  did_even : (v u : FrameWorld) (i : ℕ) (action : Action) → Happened (machine_of config) v (Do i action) u → NobodyLost v → Has v → (reported : Report) × (u.reported ≡ v.reported ++ (i, reported) ∷ []) × (reported.odd ≡ None)
  did_even v u i action h nobody has =
      let w = has.world in
      let s = has.shows in
      let made = ap (node_step config i (v.node i)) (some_is h.given) ∙ h.made in
      let t = did_all config i (v.node i) (nobody i) action h.turn made in (
        h.turn.reported,
        ap (λ (x : FrameWorld). x.reported) (sym h.leaves),
        subst (λ (x : Turn State Message Report). x.reported.odd ≡ None) (sym t.2)
            (acts_even w (name_at config i) (live_at v w i s h.there) has.inv (nodes_at config i) (ports_at config i) action t.0 ((λ k. acted (nodes_at config i) (s.seat i h.there k) (ports_at config i) action (s.node i h.there k)) ∙ t.1)),
      )

  took_even : (v u : FrameWorld) (i p : ℕ) → Took (machine_of config) v i p u → NobodyLost v → Has v → (reported : Report) × (u.reported ≡ v.reported ++ (i, reported) ∷ []) × (reported.odd ≡ None)
  took_even v u i p h nobody has =
      let w = has.world in
      let s = has.shows in
      let here = pair_first (length config) i p h.pair in
      let there = pair_second (length config) i p h.pair in
      let a = name_at config i in
      let b = name_at config p in
      let t = took_all config i (v.node i) (nobody i) p h.packet h.turn h.made in (
        h.turn.reported,
        ap (λ (x : FrameWorld). x.reported) (sym h.leaves),
        subst (λ (x : Turn State Message Report). x.reported.odd ≡ None) (sym t.2)
            (takes_even w a b h.packet h.rest t.0 (live_at v w i s here) (near_at v w i p s here there) has.inv (s.wire p i there here ∙ h.first) ((λ k. taken (s.seat i here k) b h.packet (s.node i here k)) ∙ t.1)),
      )

  event_even : (v u : FrameWorld) (e : Event Action) → Happened (machine_of config) v e u → NobodyLost v → Has v → (reported : Report) × (u.reported ≡ v.reported ++ (node_of e, reported) ∷ []) × (reported.odd ≡ None)
  event_even v u (Do i action) h nobody has = did_even v u i action h nobody has
  event_even v u (Take i p) h nobody has = took_even v u i p ((took (machine_of config) v u i p).0 (happens_so (machine_of config) v u (Take i p) h)) nobody has

  -- ---- what a node that is not formed has applied

  -- where a node sees the lock of a name free it has applied all updates of it
  pub all_applied : (v : FrameWorld) (has : Has v) (i : ℕ) (N : Term) → IsHere config i → (v.node i).locks N ≡ None → applied_by i N v.reported ≡ updates (of_name N has.world.history)
  all_applied v has i N here free =
      let s = has.shows in
      let live = live_at v has.world i s here in
      sym (s.log i N here) ∙ (agrees_of has.world has.inv (nobody_seen v has.world s)).free N (name_at config i) (name_at config i) live live (ap (λ (x : State). x.locks N) (s.node i here) ∙ free)

  pub record Bridged (v : FrameWorld) : Type 0 where
    pub has : Has v
    pub nobody : NobodyLost v
    pub unlocked : AllUnlocked config v
    pub own : (i : ℕ) → OwnFits (nodes_at config i) (v.node i)
    -- a node that is not formed has applied nothing
    pub empty : (i : ℕ) (N : Term) → IsHere config i → formed (nodes_at config i) (v.node i) ≡ false → applied_by i N v.reported ≡ []
    pub places : AllByRecursion (λ (t : ℕ × Report). IsHere config t.0) v.reported
    -- no reply completed nothing
    pub even : AllByRecursion (λ (t : ℕ × Report). t.1.odd ≡ None) v.reported

  module _ (v u : FrameWorld) (e : Event Action) (h : Happened (machine_of config) v e u) (before : Bridged v) where
    abbrev pub i : ℕ
    i = node_of e

    own_step : StepOwn (nodes_at config i) (v.node i) h.turn.state h.turn.reported
    own_step = step_own config i (v.node i) h.input h.turn h.made (before.nobody i)

    now : Has u
    now = event_has v u e h before.nobody before.has

    unlocked : AllUnlocked config u
    unlocked = event_unlocked config v u e h before.nobody before.unlocked

    own : (j : ℕ) → OwnFits (nodes_at config j) (u.node j)
    own j = state_after (machine_of config) v u e h (OwnFits (nodes_at config j)) j
        (λ is. subst (λ z. OwnFits (nodes_at config z) h.turn.state) (sym is) (own_step.keeps (before.own i))) (λ _. before.own j)

    formed_later : (j : ℕ) → formed (nodes_at config j) (v.node j) ≡ true → formed (nodes_at config j) (u.node j) ≡ true
    formed_later j full = state_after (machine_of config) v u e h (λ s. formed (nodes_at config j) s ≡ true) j
        (λ is. subst (λ z. formed (nodes_at config z) h.turn.state ≡ true) (sym is) (own_step.stays (subst (λ z. formed (nodes_at config z) (v.node z) ≡ true) is full))) (λ _. full)

    unformed_before : (j : ℕ) → formed (nodes_at config j) (u.node j) ≡ false → formed (nodes_at config j) (v.node j) ≡ false
    unformed_before j not_yet = go (formed (nodes_at config j) (v.node j)) refl
      where
        go : (b : Bool) → formed (nodes_at config j) (v.node j) ≡ b → formed (nodes_at config j) (v.node j) ≡ false
        go false is = is
        go true is = absurd (clash (sym (formed_later j is) ∙ not_yet))

    -- an event that begins no update leaves the history
    same_entries : h.turn.reported.began ≡ None → entries u.reported ≡ entries v.reported
    same_entries none =
        ap entries ((changes (machine_of config) v u e h).reported) ∙ entries_append v.reported ((i, h.turn.reported) ∷ [])
        ∙ ap (λ o. entries v.reported ++ (begun_by i o ++ [])) none ∙ append-nil (entries v.reported)

    empty : (j : ℕ) (N : Term) → IsHere config j → formed (nodes_at config j) (u.node j) ≡ false → applied_by j N u.reported ≡ []
    empty j N here not_yet = go h.turn.reported.began refl (cases_eq i j)
      where
        then_not : formed (nodes_at config j) (v.node j) ≡ false
        then_not = unformed_before j not_yet

        then_none : applied_by j N v.reported ≡ []
        then_none = before.empty j N here then_not

        go : (o : Option (OpId × Update)) → h.turn.reported.began ≡ o → (i ≡ j) ⊎ (i ≡ j → ⊥) → applied_by j N u.reported ≡ []
        go None none _ =
            all_applied u now j N here (unlocked j not_yet N)
            ∙ ap (λ es. updates (of_name N es)) (now.shows.history ∙ ap (map (by_name config)) (same_entries none) ∙ sym before.has.shows.history)
            ∙ sym (all_applied v before.has j N here (before.unlocked j then_not N)) ∙ then_none
        go (Some x) some (inl is) = absurd (clash (sym (own_step.began (before.own i) x.0 x.1 some) ∙ subst (λ z. formed (nodes_at config z) (v.node z) ≡ false) (sym is) then_not))
        go (Some x) some (inr other) =
            applied_after config apart v u e h N j
            ∙ ap (λ b. applied_by j N v.reported ++ cond b (update_of N h.turn.reported.applied) []) (ne_eqb i j other) ∙ append-nil (applied_by j N v.reported) ∙ then_none

    pub event_bridged : Bridged u
    event_bridged = record {
      has = now;
      nobody = event_nobody config v u e h before.nobody;
      unlocked = unlocked;
      own = own;
      empty = empty;
      places = subst (AllByRecursion (λ (t : ℕ × Report). IsHere config t.0)) (sym ((changes (machine_of config) v u e h).reported))
          (all_both (λ (t : ℕ × Report). IsHere config t.0) v.reported ((i, h.turn.reported) ∷ []) before.places (own_place (machine_of config) v u e h, tt));
      even =
          let last = event_even v u e h before.nobody before.has in
          subst (AllByRecursion (λ (t : ℕ × Report). t.1.odd ≡ None)) (sym last.1)
          (all_both (λ (t : ℕ × Report). t.1.odd ≡ None) v.reported ((i, last.0) ∷ []) before.even (last.2, tt));
    }

  -- ---- a run

  pub first_bridged : Bridged (start_of (machine_of config))
  first_bridged = record {
    has = record { world = first_world config; shows = shows_first; inv = first_holds (first_world config) first_is };
    nobody = λ i. refl;
    unlocked = λ i _ name. refl;
    own = λ i. record { own = λ c op u lead st e. absurd (cc) };
    empty = λ i N here _. refl;
    places = tt;
    even = tt;
  }

  pub bridged : (es : List (Event Action)) (w : FrameWorld) → Leads (machine_of config) (start_of (machine_of config)) es w → Bridged w
  bridged es w l = kept (machine_of config) Bridged (λ v u e h before. event_bridged v u e h before) es (start_of (machine_of config)) w l first_bridged
