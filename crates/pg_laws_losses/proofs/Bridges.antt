-- Each world of a run with losses shows a world by names of which all is held, and no reply of it was odd.
use Rattle.std.proofs.Common.{◌≡◌, ◌≢◌, ◌⊎◌, inl, inr, ℕ, Bool, true, false, not, ◌&&◌, cond, nat_eq}
use Rattle.std.proofs.Common.{length, take, List, [], ◌∷◌, ◌++◌, Some, None, refl, ap, sym, ◌∙◌, subst}
use Rattle.std.specs.List.{AllByRecursion, IsDistinct}
use Rattle.std.proofs.lemmas.Bool.{cases_eq, ne_eqb}
use Rattle.pg_term.specs.Same.{same_atom}
use Rattle.pg_laws.specs.PgMessageTypes.declared.message.Message.{Message}
use Rattle.pg_laws.specs.PgStep.Machines.Happened.{Happened}
use Rattle.pg_laws.specs.PgStep.Machines.Losing.{Noticed, Sent, Last, LosingEvent, mapped_turn, nobody_gone, stopped}
use Rattle.pg_laws.specs.PgStep.Machines.Machine.{Input, Turn, Event, Take, Do, Taken, Own, node_of, start_of, perform as perform_at}
use Rattle.pg_laws.specs.PgStep.Machines.Places.{is_pair, set_at, set_way}
use Rattle.pg_laws.proofs.PgStep.Machines.Options.{some_is}
use Rattle.pg_laws.proofs.PgStep.Machines.Places.{by_place, set_at_here, set_at_other}
use Rattle.pg_laws.proofs.PgStep.Machines.Plain.{plain_start}
use Rattle.pg_laws.proofs.PgStep.Machines.Steps.{changes, happens_so, took}
use Rattle.pg_laws.specs.PgStep.Config.{Config, names_of, name_at, nodes_at}
use Rattle.pg_laws.specs.PgStep.FrameMachine.{losing_frame_machine, losing_machine_of, machine_of, place_turn}
use Rattle.pg_laws.specs.PgStep.Losses.{see_loss}
use Rattle.pg_laws.specs.PgStep.LossLaws.{LosingFrameWorld}
use Rattle.pg_laws.specs.PgStep.State.{State}
use Rattle.pg_laws.specs.PgStep.Step.{CLOCK_LIMIT, Action}
use Rattle.pg_laws.specs.PgStep.Turns.{Report}
use Rattle.pg_laws.proofs.ends.Apart.{pair_first}
use Rattle.pg_laws.proofs.locks.First.{first_holds}
use Rattle.pg_laws.proofs.places.Bridged.{first_is, first_world, shows_first}
use Rattle.pg_laws.proofs.places.Shown.{IsHere, Shows}
use Rattle.pg_laws.proofs.steps.Lossless.{live_all}
use Rattle.pg_laws.proofs.steps.Ways.{all_both}
use Rattle.pg_laws_losses.specs.Reached.{LosingReaches}
use Rattle.pg_laws_losses.proofs.Bridge.{Has, Left, cut_left, did_even, did_has, did_turn, did}
use Rattle.pg_laws_losses.proofs.Bridge.{heard_turn, not_true, saw_has, took_even, took_has}
use Rattle.pg_laws_losses.proofs.Lasts.{unheard_input}
use Rattle.pg_laws_losses.proofs.Lossy.{Lossy, bare, silent, Passed, Went, Died, kept_past, Makes, Steps, Sees, makes}

-- what a node makes of a last notice
saw_turn : (config : Config) (i p : ℕ) (s : State) (turn : Turn State (Noticed Message) Report) → Makes config i s (Taken p Last) turn → turn ≡ mapped_turn Sent (place_turn config (see_loss (name_at config p) s))
saw_turn config i p s turn (Steps (Taken q x) t is made same) = let no : ◌≡◌ {A = Input (Noticed Message) Action} (Taken p Last) (Taken q (Sent x)) = is in absurd (cc)
saw_turn config i p s turn (Steps (Own action) t is made same) = let no : ◌≡◌ {A = Input (Noticed Message) Action} (Taken p Last) (Own action) = is in absurd (cc)
saw_turn config i p s turn (Sees q is not_yet same) =
    let one : q ≡ p = peer_is q is in
    same ∙ ap (λ k. mapped_turn Sent (place_turn config (see_loss (name_at config k) s))) one
  where
    peer_is : (r : ℕ) → ◌≡◌ {A = Input (Noticed Message) Action} (Taken p Last) (Taken r Last) → r ≡ p
    peer_is r e = let one : p ≡ r = cc in sym one

module _ (config : Config) (apart : IsDistinct same_atom (names_of config)) where
  -- a world, of which all is held, and what was reported last
  record Next (v u : Lossy) : Type 0 where
    has : Has config apart u
    i : ℕ
    here : IsHere config i
    report : Report
    reported : u.world.reported ≡ v.world.reported ++ (i, report) ∷ []
    even : report.odd ≡ None

  world_is : (u : Lossy) (w : _) (gone : ℕ → Bool) → w ≡ u.world → gone ≡ u.gone → ◌≡◌ {A = Lossy} (record { world = w; gone = gone }) u
  world_is u w gone e f = λ k. record { world = e k; gone = f k }

  next_did : (v u : Lossy) (i : ℕ) (action : Action) → v.gone i ≡ false → Happened (losing_machine_of config) v.world (Do i action) u.world → u.gone ≡ v.gone → Has config apart v → Next v u
  next_did v u i action lives h same has =
      let made = subst (λ z. (losing_machine_of config).step i (v.world.node i) z ≡ Some h.turn) (sym (some_is h.given)) h.made in
      let turn = did_turn config apart v i action h.there lives has h.turn made in
      let t = did config apart v i action h.there lives has h.turn made in
      record {
        has = subst (Has config apart) (world_is u _ v.gone (ap (perform_at v.world i) (sym turn) ∙ h.leaves) (sym same)) (did_has config apart v i action h.there lives has h.turn made);
        i = i;
        here = h.there;
        report = h.turn.reported;
        reported = (changes (losing_machine_of config) v.world u.world (Do i action) h).reported;
        even = ap (λ (z : Turn State (Noticed Message) Report). z.reported.odd) turn ∙ did_even config apart v i action h.there lives has h.turn made;
      }

  next_took : (v u : Lossy) (i p : ℕ) → v.gone i ≡ false → u.gone ≡ v.gone → Has config apart v → (packet : Noticed Message) (rest : List (Noticed Message)) (turn : Turn State (Noticed Message) Report)
      → is_pair (length config) i p ≡ true → v.world.wire p i ≡ packet ∷ rest → (losing_machine_of config).step i (v.world.node i) (Taken p packet) ≡ Some turn
      → perform_at (record v.world { wire = set_way v.world.wire p i rest }) i turn ≡ u.world → Next v u
  next_took v u i p lives same has (Sent x) rest turn pair first made leaves =
      let is = heard_turn config apart v i p pair lives has x rest first turn made in
      record {
        has = subst (Has config apart) (world_is u _ v.gone (ap (perform_at (record v.world { wire = set_way v.world.wire p i rest }) i) (sym is) ∙ leaves) (sym same))
            (took_has config apart v i p pair lives has x rest first turn made);
        i = i;
        here = pair_first (length config) i p pair;
        report = turn.reported;
        reported = ap (λ z. z.reported) (sym leaves);
        even = ap (λ (z : Turn State (Noticed Message) Report). z.reported.odd) is ∙ took_even config apart v i p pair lives has x rest first turn made;
      }
  next_took v u i p lives same has Last rest turn pair first made leaves =
      let not_yet = not_true ((v.world.node i).lost (name_at config p)) (λ seen. unheard_input config i p (v.world.node i) Last turn seen made) in
      let is = saw_turn config i p (v.world.node i) turn (makes config i (v.world.node i) (Taken p Last) turn made) in
      record {
        has = subst (Has config apart) (world_is u _ v.gone (ap (perform_at (record v.world { wire = set_way v.world.wire p i rest }) i) (sym is) ∙ leaves) (sym same))
            (saw_has config apart v i p pair lives has rest first not_yet);
        i = i;
        here = pair_first (length config) i p pair;
        report = turn.reported;
        reported = ap (λ z. z.reported) (sym leaves);
        even = ap (λ (z : Turn State (Noticed Message) Report). z.reported.odd) is;
      }

  next : (v u : Lossy) (d : Event Action) → v.gone (node_of d) ≡ false → Happened (losing_machine_of config) v.world d u.world → u.gone ≡ v.gone → Has config apart v → Next v u
  next v u (Do i action) lives h same has = next_did v u i action lives h same has
  next v u (Take i p) lives h same has =
      let t = (took (losing_machine_of config) v.world u.world i p).0 (happens_so (losing_machine_of config) v.world u.world (Take i p) h) in
      next_took v u i p lives same has t.packet t.rest t.turn t.pair t.first t.made t.leaves

  -- ---- a node is lost

  pair_is : (i y : ℕ) → IsHere config i → IsHere config y → i ≢ y → is_pair (length config) i y ≡ true
  pair_is i y hi hy n = (λ k. hi k && (hy k && not (nat_eq i y))) ∙ ap not (ne_eqb i y n)

  died_has : (v u : Lossy) (i : ℕ) (keep : ℕ → ℕ) → IsHere config i → v.gone i ≡ false → u.world ≡ stopped (length config) silent v.world i keep → u.gone ≡ set_at v.gone i true → Has config apart v → Has config apart u
  died_has v u i keep here lives cut gone has =
      subst (Has config apart) (world_is u (stopped (length config) silent v.world i keep) (set_at v.gone i true) (sym cut) (sym gone)) (record {
        ways = has.ways;
        world = has.world;
        shows = has.shows;
        sees = has.sees;
        gone = λ x j there seen. by_place v.gone i true (λ b. b ≡ true) j (λ _. refl) (λ _. has.gone x j there seen);
        cut = λ x y hx hy n known. go x y hx hy n (has.cut x y hx hy n known) (cases_eq x i);
        inv = has.inv;
      })
    where
      row : ℕ → List (Noticed Message)
      row y = cond (is_pair (length config) i y) (take (keep y) (v.world.wire i y) ++ Last ∷ []) (v.world.wire i y)

      go : (x y : ℕ) → IsHere config x → IsHere config y → x ≢ y → Left (v.gone x) (v.world.wire x y) (has.ways x y) → (x ≡ i) ⊎ (x ≡ i → ⊥)
          → Left (set_at v.gone i true x) ((stopped (length config) silent v.world i keep).wire x y) (has.ways x y)
      go x y hx hy n old (inr m) =
          subst (λ b. Left b ((stopped (length config) silent v.world i keep).wire x y) (has.ways x y)) (sym (set_at_other v.gone i true x m))
          (subst (λ z. Left (v.gone x) z (has.ways x y)) (sym (ap (λ (f : ℕ → List (Noticed Message)). f y) (set_at_other {A = ℕ → List (Noticed Message)} v.world.wire i _ x m))) old)
      go x y hx hy n old (inl e) =
          let alive : v.gone x ≡ false = ap v.gone e ∙ lives in
          let before : Left false (v.world.wire x y) (has.ways x y) = subst (λ b. Left b (v.world.wire x y) (has.ways x y)) alive old in
          let now : (stopped (length config) silent v.world i keep).wire x y ≡ take (keep y) (v.world.wire x y) ++ Last ∷ [] =
          ap (λ (f : ℕ → List (Noticed Message)). f y) (set_at_here {A = ℕ → List (Noticed Message)} v.world.wire i _ x e)
          ∙ (ap (λ b. cond b (take (keep y) (v.world.wire i y) ++ Last ∷ []) (v.world.wire i y)) (pair_is i y here hy (λ f. n (e ∙ f)))
          ∙ ap (λ k. take (keep y) (v.world.wire k y) ++ Last ∷ []) (sym e)) in
          subst (λ b. Left b ((stopped (length config) silent v.world i keep).wire x y) (has.ways x y)) (sym (set_at_here v.gone i true x e))
          (subst (λ z. Left true z (has.ways x y)) (sym now) (cut_left (keep y) (v.world.wire x y) (has.ways x y) before))

  -- ---- runs

  pub record Bridged (v : Lossy) : Type 0 where
    pub has : Has config apart v
    pub places : AllByRecursion (λ (t : ℕ × Report). IsHere config t.0) v.world.reported
    -- no reply completed nothing
    pub even : AllByRecursion (λ (t : ℕ × Report). t.1.odd ≡ None) v.world.reported

  event_bridged : (v u : Lossy) (e : LosingEvent Action) → Passed config v u e → Bridged v → Bridged u
  event_bridged v u e (Went d is lives h same) old =
      let n = next v u d lives h same old.has in
      record {
        has = n.has;
        places = subst (AllByRecursion (λ (t : ℕ × Report). IsHere config t.0)) (sym n.reported) (all_both (λ (t : ℕ × Report). IsHere config t.0) v.world.reported ((n.i, n.report) ∷ []) old.places (n.here, tt));
        even = subst (AllByRecursion (λ (t : ℕ × Report). t.1.odd ≡ None)) (sym n.reported) (all_both (λ (t : ℕ × Report). t.1.odd ≡ None) v.world.reported ((n.i, n.report) ∷ []) old.even (n.even, tt));
      }
  event_bridged v u e (Died i keep is here lives cut gone) old = record {
    has = died_has v u i keep here lives cut gone old.has;
    places = subst (AllByRecursion (λ (t : ℕ × Report). IsHere config t.0)) (sym (ap (λ z. z.reported) cut)) old.places;
    even = subst (AllByRecursion (λ (t : ℕ × Report). t.1.odd ≡ None)) (sym (ap (λ z. z.reported) cut)) old.even;
  }

  first_bridged : Bridged (nobody_gone (start_of (losing_machine_of config)))
  first_bridged = record {
    has = record {
      ways = (machine_of config).opening;
      world = first_world config;
      shows = record {
        nodes = first.nodes;
        seen = refl;
        seat = λ i here. first.seat i here ∙ sym (live_all (nodes_at config i) ((machine_of config).first i) refl);
        node = first.node;
        wire = first.wire;
        log = first.log;
        history = first.history;
        answered = first.answered;
      };
      sees = λ i q here. refl;
      gone = λ x i here seen. absurd (cc);
      cut = λ x y hx hy n known. refl;
      inv = first_holds (first_world config) (first_is config apart);
    };
    places = tt;
    even = tt;
  }
    where
      first : Shows config (start_of (machine_of config)) (first_world config)
      first = shows_first config apart

  pub bridged : (es : List (LosingEvent Action)) (w : LosingFrameWorld) → LosingReaches config es w → Bridged (bare w)
  bridged es w l = kept_past config Bridged event_bridged es (nobody_gone (start_of (losing_frame_machine config))) w l
      (subst (λ u. Bridged (nobody_gone u)) (sym (plain_start (losing_machine_of config) CLOCK_LIMIT)) first_bridged)
