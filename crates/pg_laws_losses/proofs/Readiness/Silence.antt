-- Nothing is on the way from a lost node to one that has seen its loss: the last notice was the last.
use Rattle.std.proofs.Common.{◌≡◌, ◌≢◌, ◌⊎◌, inl, inr, ℕ, Bool, true, false, length, List, [], ◌∷◌, ◌++◌}
use Rattle.std.proofs.Common.{refl, ap, sym, ◌∙◌, subst}
use Rattle.std.specs.List.{IsDistinct}
use Rattle.std.proofs.lemmas.Bool.{cases_eq}
use Rattle.pg_term.specs.Same.{same_atom}
use Rattle.pg_laws.specs.PgMessageTypes.declared.message.Message.{Message}
use Rattle.pg_laws.specs.PgStep.Machines.Clocked.{Stamped, packets_of}
use Rattle.pg_laws.specs.PgStep.Machines.Happened.{Happened}
use Rattle.pg_laws.specs.PgStep.Machines.Losing.{Last, LosingEvent, Noticed}
use Rattle.pg_laws.specs.PgStep.Machines.Machine.{Event, Input, Taken, Turn, World, node_of}
use Rattle.pg_laws.proofs.PgStep.Machines.Places.{set_at_other}
use Rattle.pg_laws.proofs.PgStep.Machines.Steps.{pair_apart}
use Rattle.pg_laws.specs.PgStep.Config.{Config, name_at, names_of}
use Rattle.pg_laws.specs.PgStep.FrameMachine.{losing_machine_of}
use Rattle.pg_laws.specs.PgStep.LossLaws.{LosingFrameWorld}
use Rattle.pg_laws.specs.PgStep.Nodes.{Node}
use Rattle.pg_laws.specs.PgStep.State.{State}
use Rattle.pg_laws.specs.PgStep.Step.{Action}
use Rattle.pg_laws.specs.PgStep.Turns.{Report}
use Rattle.pg_laws.proofs.ends.Apart.{pair_first, pair_second, same_place}
use Rattle.pg_laws.proofs.places.Shown.{IsHere}
use Rattle.pg_laws.proofs.quiet.Rest.{pair_of}
use Rattle.pg_laws.proofs.references.Keys.{atoms, read_other, split}
use Rattle.pg_laws.proofs.steps.Lossless.{step_sees_none}
use Rattle.pg_laws.proofs.steps.Ways.{Grown, Shorter, Unchanged, WayAfter, pair_there, state_after, way_after}
use Rattle.pg_laws_losses.specs.Quiet.{IsQuietLive}
use Rattle.pg_laws_losses.specs.Reached.{LosingReaches}
use Rattle.pg_laws_losses.proofs.Bridge.{Left}
use Rattle.pg_laws_losses.proofs.Bridges.{Bridged, bridged}
use Rattle.pg_laws_losses.proofs.Lossy.{Died, Lossy, Makes, Passed, Sees, Steps, Went, bare, makes, passed}
use Rattle.pg_laws_losses.proofs.Retries.{lost_waits}
use Rattle.pg_laws_losses.specs.Readiness.Ready.{IsQuietAmongLive}
use Rattle.pg_laws_losses.proofs.Remains.Passing.{kept_all, leads_more}

-- behind a last notice there is nothing
last_alone : (b : Bool) (rest : List (Noticed Message)) (all : List Message) → Left b (Last ∷ rest) all → rest ≡ []
last_alone false rest [] e = absurd (cc e)
last_alone false rest (y ∷ ys) e = absurd (cc e)
last_alone true rest all ([], back, e, f) = cc e
last_alone true rest all (y ∷ ys, back, e, f) = absurd (cc e)

same_input : {p q : ℕ} {x y : Noticed Message} → ◌≡◌ {A = Input (Noticed Message) Action} (Taken p x) (Taken q y) → (p ≡ q) × (x ≡ y)
same_input e = (cc, cc)

nothing_there : (xs : List (Stamped (Noticed Message))) → packets_of xs ≡ [] → xs ≡ []
nothing_there [] e = refl
nothing_there (x ∷ xs) e = absurd (cc e)

module _ (config : Config) (apart : IsDistinct same_atom (names_of config)) where
  module _ (w v : Lossy) (bw : Bridged config apart w) (bv : Bridged config apart v) (old : (x y : ℕ) → IsHere config x → IsHere config y → x ≢ y → (w.world.node y).lost (name_at config x) ≡ true → w.world.wire x y ≡ [])
      (d : Event Action) (alive : w.gone (node_of d) ≡ false) (h : Happened (losing_machine_of config) w.world d v.world) (same_gone : v.gone ≡ w.gone)
      (x y : ℕ) (hx : IsHere config x) (hy : IsHere config y) (other : x ≢ y) (seen : (v.world.node y).lost (name_at config x) ≡ true) where
    x_gone : w.gone x ≡ true
    x_gone = ap (λ (f : ℕ → Bool). f x) (sym same_gone) ∙ bv.has.gone (name_at config y) x hx (bv.has.sees y (name_at config x) hy ∙ seen)

    not_by_x : x ≢ node_of d
    not_by_x e = absurd (cc (sym alive ∙ (ap w.gone (sym e) ∙ x_gone)))

    -- it was seen before, or by this event
    seen_so : ((w.world.node y).lost (name_at config x) ≡ true) ⊎ ((y ≡ node_of d) × (h.input ≡ Taken x Last))
    seen_so = state_after (losing_machine_of config) w.world v.world d h (λ (s : State). s.lost (name_at config x) ≡ true → ((w.world.node y).lost (name_at config x) ≡ true) ⊎ ((y ≡ node_of d) × (h.input ≡ Taken x Last))) y
        (λ own now. by own (makes config (node_of d) (w.world.node (node_of d)) h.input h.turn h.made) now) (λ _ now. inl now) seen
      where
        by : y ≡ node_of d → Makes config (node_of d) (w.world.node (node_of d)) h.input h.turn → h.turn.state.lost (name_at config x) ≡ true
            → ((w.world.node y).lost (name_at config x) ≡ true) ⊎ ((y ≡ node_of d) × (h.input ≡ Taken x Last))
        by own (Steps given t is made same) now = inl (
            ap (λ z. (w.world.node z).lost (name_at config x)) own
            ∙ (ap (λ (f : Node → Bool). f (name_at config x)) (sym (step_sees_none config (node_of d) (w.world.node (node_of d)) given t made))
            ∙ (ap (λ (z : Turn State (Noticed Message) Report). z.state.lost (name_at config x)) (sym same) ∙ now)))
        by own (Sees q is not_yet same) now = go (split same_atom atoms (name_at config x) (name_at config q))
          where
            go : (name_at config x ≡ name_at config q) ⊎ (name_at config x ≢ name_at config q) → ((w.world.node y).lost (name_at config x) ≡ true) ⊎ ((y ≡ node_of d) × (h.input ≡ Taken x Last))
            go (inl names) =
                let there : IsHere config q = pair_second (length config) (node_of d) q (pair_there (losing_machine_of config) w.world v.world d h q Last is) in
                let one : x ≡ q = same_place config apart x q hx there (ap (same_atom (name_at config x)) (sym names) ∙ atoms.refl (name_at config x)) in
                inr (own, is ∙ ap (λ z. Taken z Last) (sym one))
            go (inr differ) = inl (
                ap (λ z. (w.world.node z).lost (name_at config x)) own
                ∙ (sym (read_other same_atom atoms (w.world.node (node_of d)).lost (name_at config q) true (name_at config x) differ)
                ∙ (ap (λ (z : Turn State (Noticed Message) Report). z.state.lost (name_at config x)) (sym same) ∙ now)))

    still_silent : v.world.wire x y ≡ []
    still_silent = go (way_after (losing_machine_of config) w.world v.world d h x y) seen_so
      where
        go : WayAfter (node_of d) h.input x y (h.turn.sends y) (w.world.wire x y) (v.world.wire x y) → ((w.world.node y).lost (name_at config x) ≡ true) ⊎ ((y ≡ node_of d) × (h.input ≡ Taken x Last)) → v.world.wire x y ≡ []
        go (Grown at is) was = absurd (not_by_x at)
        go (Unchanged n m is) (inl before) = is ∙ old x y hx hy other before
        go (Unchanged n m is) (inr (own, taken)) = absurd (m Last own taken)
        go (Shorter packet n to taken first) (inl before) = absurd (cc (sym (old x y hx hy other before) ∙ first))
        go (Shorter packet n to taken first) (inr (own, last)) = by_before ((w.world.node y).lost (name_at config x)) refl
          where
            notice : packet ≡ Last
            notice = (same_input (sym taken ∙ last)).1

            by_before : (b : Bool) → (w.world.node y).lost (name_at config x) ≡ b → v.world.wire x y ≡ []
            by_before true before = absurd (cc (sym (old x y hx hy other before) ∙ first))
            by_before false unseen = last_alone (w.gone x) (v.world.wire x y) (bw.has.ways x y)
                (subst (λ z. Left (w.gone x) z (bw.has.ways x y)) (first ∙ ap (λ z. z ∷ v.world.wire x y) notice) (bw.has.cut x y hx hy other unseen))

  passed_silent : (w v : Lossy) (e : LosingEvent Action) → Bridged config apart w → Bridged config apart v → Passed config w v e
      → ((x y : ℕ) → IsHere config x → IsHere config y → x ≢ y → (w.world.node y).lost (name_at config x) ≡ true → w.world.wire x y ≡ [])
      → (x y : ℕ) → IsHere config x → IsHere config y → x ≢ y → (v.world.node y).lost (name_at config x) ≡ true → v.world.wire x y ≡ []
  passed_silent w v e bw bv (Went d is alive h same) old x y hx hy other seen = still_silent w v bw bv old d alive h same x y hx hy other seen
  passed_silent w v e bw bv (Died j keep is there alive cut gone) old x y hx hy other seen =
      let before : (w.world.node y).lost (name_at config x) ≡ true = ap (λ (u : World State (Noticed Message) Report). (u.node y).lost (name_at config x)) (sym cut) ∙ seen in
      let not_j : x ≢ j = λ e. absurd (cc (sym alive ∙ (ap w.gone (sym e) ∙ bw.has.gone (name_at config y) x hx (bw.has.sees y (name_at config x) hy ∙ before)))) in
      ap (λ (u : World State (Noticed Message) Report). u.wire x y) cut
      ∙ (ap (λ (f : ℕ → List (Noticed Message)). f y) (set_at_other {A = ℕ → List (Noticed Message)} w.world.wire j _ x not_j) ∙ old x y hx hy other before)

  pub all_silent : (es : List (LosingEvent Action)) (w : LosingFrameWorld) → LosingReaches config es w
      → (x y : ℕ) → IsHere config x → IsHere config y → x ≢ y → (w.world.node y).state.lost (name_at config x) ≡ true → (bare w).world.wire x y ≡ []
  all_silent es w l = kept_all config (λ done u. (x y : ℕ) → IsHere config x → IsHere config y → x ≢ y → (u.world.node y).state.lost (name_at config x) ≡ true → (bare u).world.wire x y ≡ [])
      (λ done u v e r h old. passed_silent (bare u) (bare v) e (bridged config apart done u r) (bridged config apart (done ++ e ∷ []) v (leads_more config done _ u v e r h)) (passed config u v e h) old)
      es w l (λ x y hx hy other seen. absurd (cc seen))

  module _ (es : List (LosingEvent Action)) (w : LosingFrameWorld) (l : LosingReaches config es w) where
    b : Bridged config apart (bare w)
    b = bridged config apart es w l

    pub among_live : IsQuietLive config w → IsQuietAmongLive config w
    among_live quiet = record {
      seen = λ i here lives p there gone. saw i here lives p there gone (cases_eq p i) ((w.world.node i).state.lost (name_at config p)) refl;
      none = λ x y pair _ lives. quiet x y pair lives;
    }
      where
        saw : (i : ℕ) → IsHere config i → w.gone i ≡ false → (p : ℕ) → IsHere config p → w.gone p ≡ true → (p ≡ i) ⊎ (p ≡ i → ⊥) → (c : Bool) → (w.world.node i).state.lost (name_at config p) ≡ c
            → (w.world.node i).state.lost (name_at config p) ≡ true
        saw i here lives p there gone (inl same) c is = absurd (cc (sym gone ∙ (ap w.gone same ∙ lives)))
        saw i here lives p there gone (inr other) true is = is
        saw i here lives p there gone (inr other) false is =
            let way : (bare w).world.wire p i ≡ [] = ap packets_of (quiet p i (pair_of config p i there here other) lives) in
            let lives_p : w.gone p ≡ false = lost_waits (w.gone p) (b.has.ways p i) (subst (λ z. Left (w.gone p) z (b.has.ways p i)) way (b.has.cut p i there here other is)) in
            absurd (cc (sym gone ∙ lives_p))

    pub from_among : IsQuietAmongLive config w → IsQuietLive config w
    from_among quiet x y pair lives = go (w.gone x) refl
      where
        hx : IsHere config x
        hx = pair_first (length config) x y pair

        hy : IsHere config y
        hy = pair_second (length config) x y pair

        go : (c : Bool) → w.gone x ≡ c → w.world.wire x y ≡ []
        go false alive = quiet.none x y pair alive lives
        go true gone = nothing_there (w.world.wire x y) (all_silent es w l x y hx hy (pair_apart (length config) x y pair) (quiet.seen y hy lives x hx gone))
