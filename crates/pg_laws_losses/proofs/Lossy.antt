-- A run in which nodes are lost, seen without its clocks: what each of its events is, and what its nodes make of it.
use Rattle.std.proofs.Common.{◌≡◌, ℕ, Bool, true, false, not, ◌&&◌, cond, length, take}
use Rattle.std.proofs.Common.{List, [], ◌∷◌, ◌++◌, Some, None, refl, ap, sym, ◌∙◌, subst}
use Rattle.std.specs.Prelude.{option_map}
use Rattle.std.specs.Cmp.{first_so, second_so}
use Rattle.std.proofs.Math.Path.{fun_ext}
use Rattle.std.proofs.lemmas.List.{map-append, take-map}
use Rattle.pg_laws.specs.PgMessageTypes.declared.message.Message.{Message}
use Rattle.pg_laws.specs.PgStep.Machines.Machine.{Input, Turn, Event, Taken, Own, node_of, happens}
use Rattle.pg_laws.specs.PgStep.Machines.Clocked.{Stamped, TimedWorld, packets_of, plain}
use Rattle.pg_laws.specs.PgStep.Machines.Happened.{Happened}
use Rattle.pg_laws.specs.PgStep.Machines.Losing.{Noticed, Sent, Last, LosingWorld, LosingEvent, Step, Lose}
use Rattle.pg_laws.specs.PgStep.Machines.Losing.{LosingLeads, losing_happens, can_keep, stopped, mapped_turn}
use Rattle.pg_laws.specs.PgStep.Machines.Places.{is_place, is_pair, set_at}
use Rattle.pg_laws.proofs.PgStep.Machines.Options.{some_is, map_is_some, cond_is_some}
use Rattle.pg_laws.proofs.PgStep.Machines.Places.{set_at_map}
use Rattle.pg_laws.proofs.PgStep.Machines.Plain.{plain_event}
use Rattle.pg_laws.proofs.PgStep.Machines.Steps.{happened}
use Rattle.pg_laws.specs.PgStep.Config.{Config, name_at}
use Rattle.pg_laws.specs.PgStep.FrameMachine.{FrameWorld, losing_machine_of, losing_frame_machine}
use Rattle.pg_laws.specs.PgStep.FrameMachine.{last_notice, node_step, place_turn}
use Rattle.pg_laws.specs.PgStep.Losses.{see_loss}
use Rattle.pg_laws.specs.PgStep.LossLaws.{LosingFrameWorld}
use Rattle.pg_laws.specs.PgStep.State.{State}
use Rattle.pg_laws.specs.PgStep.Step.{CLOCK_LIMIT, Action}
use Rattle.pg_laws.specs.PgStep.Turns.{Report}

-- the nodes without their clocks, and which of them are lost
abbrev pub Lossy : Type 0
Lossy = LosingWorld State (Noticed Message) Report

abbrev pub bare : LosingFrameWorld → Lossy
bare w = record { world = plain w.world; gone = w.gone }

-- without clocks the last notice tells nothing more
abbrev pub silent : State → Noticed Message
silent s = Last

-- the nodes and what they reported, with nothing on the way
abbrev pub heard : Lossy → FrameWorld
heard w = record { node = w.world.node; wire = λ x y. []; reported = w.world.reported }

-- ---- a loss without clocks

bare_cut : (b : Bool) (k : ℕ) (x : Stamped (Noticed Message)) (xs : List (Stamped (Noticed Message)))
    → packets_of (cond b (take k xs ++ x ∷ []) xs) ≡ cond b (take k (packets_of xs) ++ x.packet ∷ []) (packets_of xs)
bare_cut false k x xs = refl
bare_cut true k x xs = map-append (λ (z : Stamped (Noticed Message)). z.packet) (take k xs) (x ∷ [])
    ∙ ap (λ ys. ys ++ x.packet ∷ []) (sym (take-map (λ (z : Stamped (Noticed Message)). z.packet) k xs))

bare_stopped : (size : ℕ) (w : TimedWorld State (Noticed Message) Report) (i : ℕ) (keep : ℕ → ℕ) → plain (stopped size last_notice w i keep) ≡ stopped size silent (plain w) i keep
bare_stopped size w i keep = λ j. record { node = λ x. (w.node x).state; wire = wires j; reported = w.reported }
  where
    row : ℕ → List (Stamped (Noticed Message))
    row y = cond (is_pair size i y) (take (keep y) (w.wire i y) ++ last_notice (w.node i) ∷ []) (w.wire i y)

    cut : ℕ → List (Noticed Message)
    cut y = cond (is_pair size i y) (take (keep y) (packets_of (w.wire i y)) ++ Last ∷ []) (packets_of (w.wire i y))

    wires : ◌≡◌ {A = ℕ → ℕ → List (Noticed Message)} (λ x y. packets_of (set_at {A = ℕ → List (Stamped (Noticed Message))} w.wire i row x y))
        (set_at {A = ℕ → List (Noticed Message)} (λ x y. packets_of (w.wire x y)) i cut)
    wires = set_at_map {A = ℕ → List (Stamped (Noticed Message))} w.wire i row {B = ℕ → List (Noticed Message)} (λ (g : ℕ → List (Stamped (Noticed Message))) (y : ℕ). packets_of (g y))
        ∙ ap (set_at {A = ℕ → List (Noticed Message)} (λ x y. packets_of (w.wire x y)) i) (fun_ext (λ y. bare_cut (is_pair size i y) (keep y) (last_notice (w.node i)) (w.wire i y)))

-- ---- what an event is

-- An event that leads from w to v: a step of a node that is not lost, or the loss of one.
pub data Passed (config : Config) (w v : Lossy) (e : LosingEvent Action) : Type 0 where
  Went : (d : Event Action) → e ≡ Step d → w.gone (node_of d) ≡ false → Happened (losing_machine_of config) w.world d v.world → v.gone ≡ w.gone → Passed config w v e
  Died : (i : ℕ) (keep : ℕ → ℕ) → e ≡ Lose i keep → is_place (length config) i ≡ true → w.gone i ≡ false → v.world ≡ stopped (length config) silent w.world i keep → v.gone ≡ set_at w.gone i true
      → Passed config w v e

pub passed : (config : Config) (w v : LosingFrameWorld) (e : LosingEvent Action) → losing_happens (losing_frame_machine config) last_notice w e ≡ Some v → Passed config (bare w) (bare v) e
unfolding losing_happens
passed config w v (Step d) h = go (w.gone (node_of d)) refl h
  where
    go : (b : Bool) → w.gone (node_of d) ≡ b → cond b None (option_map (λ u. record { world = u; gone = w.gone }) (happens (losing_frame_machine config) w.world d)) ≡ Some v → Passed config (bare w) (bare v) (Step d)
    go true _ h = absurd (cc)
    go false lives h =
        let got = map_is_some {B = LosingFrameWorld} (λ u. record { world = u; gone = w.gone }) (happens (losing_frame_machine config) w.world d) v h in
        let done = happened (losing_machine_of config) (plain w.world) (plain got.0) d (plain_event (losing_machine_of config) CLOCK_LIMIT w.world got.0 d got.1) in
        Went d refl lives (subst (λ (u : LosingFrameWorld). Happened (losing_machine_of config) (plain w.world) d (plain u.world)) got.2 done) (ap (λ (u : LosingFrameWorld). u.gone) (sym got.2))
passed config w v (Lose i keep) h =
    let after : LosingFrameWorld = record { world = stopped (length config) last_notice w.world i keep; gone = set_at w.gone i true } in
    let got = cond_is_some (is_place (length config) i && (not (w.gone i) && can_keep (length config) w.world i keep)) (Some after) v h in
    let is : after ≡ v = some_is got.1 in
    Died i keep refl (first_so (is_place (length config) i) _ got.0) (alive (w.gone i) (first_so (not (w.gone i)) _ (second_so (is_place (length config) i) _ got.0)))
    (ap (λ (u : LosingFrameWorld). plain u.world) (sym is) ∙ bare_stopped (length config) w.world i keep) (ap (λ (u : LosingFrameWorld). u.gone) (sym is))
  where
    alive : (b : Bool) → not b ≡ true → b ≡ false
    alive false e = refl
    alive true e = absurd (cc)

-- what each event keeps, each run keeps
pub kept_past : (config : Config) (Q : Lossy → Type 0) → ((w v : Lossy) (e : LosingEvent Action) → Passed config w v e → Q w → Q v)
    → (es : List (LosingEvent Action)) (w v : LosingFrameWorld) → LosingLeads (losing_frame_machine config) last_notice w es v → Q (bare w) → Q (bare v)
kept_past config Q each [] w v l q = subst (λ (u : LosingFrameWorld). Q (bare u)) l q
kept_past config Q each (e ∷ es) w v l q = kept_past config Q each es l.0 v l.2 (each (bare w) (bare l.0) e (passed config w l.0 e l.1) q)

-- ---- what a node makes

abbrev pub noted : Input Message Action → Input (Noticed Message) Action
noted (Taken p x) = Taken p (Sent x)
noted (Own action) = Own action

-- what node i makes of an input: what it makes of a packet or of something of its own, or it sees a loss
pub data Makes (config : Config) (i : ℕ) (s : State) (input : Input (Noticed Message) Action) (turn : Turn State (Noticed Message) Report) : Type 0 where
  Steps : (given : Input Message Action) (t : Turn State Message Report) → input ≡ noted given → node_step config i s given ≡ Some t → turn ≡ mapped_turn Sent t → Makes config i s input turn
  Sees : (p : ℕ) → input ≡ Taken p Last → s.lost (name_at config p) ≡ false → turn ≡ mapped_turn Sent (place_turn config (see_loss (name_at config p) s)) → Makes config i s input turn

pub makes : (config : Config) (i : ℕ) (s : State) (input : Input (Noticed Message) Action) (turn : Turn State (Noticed Message) Report) → (losing_machine_of config).step i s input ≡ Some turn → Makes config i s input turn
makes config i s (Taken p (Sent x)) turn is =
    let t = map_is_some (mapped_turn Sent) (node_step config i s (Taken p x)) turn is in
    Steps (Taken p x) t.0 refl t.1 (sym t.2)
makes config i s (Taken p Last) turn is = go (s.lost (name_at config p)) refl is
  where
    seen : Turn State Message Report
    seen = place_turn config (see_loss (name_at config p) s)

    go : (b : Bool) → s.lost (name_at config p) ≡ b → option_map (mapped_turn {Q = Noticed Message} Sent) (cond b None (Some seen)) ≡ Some turn → Makes config i s (Taken p Last) turn
    go true _ e = absurd (cc)
    go false not_yet e = Sees p refl not_yet (sym (some_is e))
makes config i s (Own action) turn is =
    let t = map_is_some (mapped_turn Sent) (node_step config i s (Own action)) turn is in
    Steps (Own action) t.0 refl t.1 (sym t.2)
