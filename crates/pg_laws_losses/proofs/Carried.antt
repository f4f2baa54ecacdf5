-- A step of a node that can be lost is one of the machine that knows of no loss, between worlds with the same nodes; so what was
-- proved of that step, of nodes and of what they reported, holds here as it stands.
use Rattle.std.proofs.Common.{◌≡◌, ℕ, List, [], ◌∷◌, ◌++◌, Some, refl, ap, sym, ◌∙◌, subst}
use Rattle.pg_laws.specs.PgMessageTypes.declared.message.Message.{Message}
use Rattle.pg_laws.specs.PgStep.Machines.Happened.{Happened}
use Rattle.pg_laws.specs.PgStep.Machines.Losing.{Noticed, Sent, LosingEvent, LosingLeads, mapped_turn, nobody_gone}
use Rattle.pg_laws.specs.PgStep.Machines.Machine.{Input, Turn, Event, Take, Do, Taken, Own, first_from}
use Rattle.pg_laws.specs.PgStep.Machines.Machine.{input_of, node_of, perform, start_of, without_input}
use Rattle.pg_laws.specs.PgStep.Machines.Places.{set_at}
use Rattle.pg_laws.proofs.PgStep.Machines.Options.{some_is}
use Rattle.pg_laws.proofs.PgStep.Machines.Plain.{plain_start}
use Rattle.pg_laws.specs.PgStep.Config.{Config, name_at}
use Rattle.pg_laws.specs.PgStep.FrameMachine.{FrameWorld, last_notice, losing_frame_machine, losing_machine_of, machine_of, node_step}
use Rattle.pg_laws.specs.PgStep.Losses.{see_loss}
use Rattle.pg_laws.specs.PgStep.LossLaws.{LosingFrameWorld}
use Rattle.pg_laws.specs.PgStep.State.{State}
use Rattle.pg_laws.specs.PgStep.Step.{CLOCK_LIMIT, Action}
use Rattle.pg_laws.specs.PgStep.Turns.{Report, nothing}
use Rattle.pg_laws_losses.specs.Reached.{LosingReaches}
use Rattle.pg_laws_losses.proofs.Lossy.{Lossy, bare, heard, Passed, Went, Died, kept_past, Makes, Steps, Sees, makes, noted}

-- ---- a step, between worlds that know of no loss

pub record AsStep (config : Config) (w v : Lossy) (d : Event Action) : Type 0 where
  pub from : FrameWorld
  pub to : FrameWorld
  pub node : from.node ≡ w.world.node
  pub reported : from.reported ≡ w.world.reported
  pub node_later : v.world.node ≡ to.node
  pub reported_later : v.world.reported ≡ to.reported
  pub step : Happened (machine_of config) from d to

-- what is on the way before an input
abbrev before_it : Input Message Action → List Message
before_it (Taken p x) = x ∷ []
before_it (Own action) = []

abbrev with_it : Lossy → Input Message Action → FrameWorld
with_it w given = record { node = w.world.node; wire = λ x y. before_it given; reported = w.world.reported }

first_peer : (p q : ℕ) (xs : List (Noticed Message)) (x : Message) → first_from {C = Action} p xs ≡ Some (Taken q (Sent x)) → p ≡ q
first_peer p q [] x e = absurd (cc)
first_peer p q (z ∷ zs) x e = cc

no_own : (p : ℕ) (xs : List (Noticed Message)) (action : Action) → first_from p xs ≡ Some (Own action) → ⊥
no_own p [] action e = absurd (cc)
no_own p (z ∷ zs) action e = absurd (cc)

input_there : (w : Lossy) (d : Event Action) (given : Input Message Action) → input_of w.world d ≡ Some (noted given) → input_of (with_it w given) d ≡ Some given
input_there w (Take i p) (Taken q x) e = ap (λ k. Some (Taken k x)) (first_peer p q (w.world.wire p i) x e)
input_there w (Take i p) (Own action) e = absurd (no_own p (w.world.wire p i) action e)
input_there w (Do i action) (Taken q x) e = absurd (cc)
input_there w (Do i action) (Own other) e = let same : action ≡ other = cc in ap (λ a. Some (Own a)) same

pub as_step : (config : Config) (w v : Lossy) (d : Event Action) (h : Happened (losing_machine_of config) w.world d v.world) (given : Input Message Action) (t : Turn State Message Report)
    → h.input ≡ noted given → node_step config (node_of d) (w.world.node (node_of d)) given ≡ Some t → h.turn ≡ mapped_turn Sent t → AsStep config w v d
as_step config w v (Take i p) h given t is made same = record {
  from = with_it w given;
  to = perform (without_input {C = Action} (with_it w given) (Take i p)) i t;
  node = refl;
  reported = refl;
  node_later = ap (λ u. u.node) (sym h.leaves) ∙ ap (λ (z : Turn State (Noticed Message) Report). set_at w.world.node i z.state) same;
  reported_later = ap (λ u. u.reported) (sym h.leaves) ∙ ap (λ (z : Turn State (Noticed Message) Report). w.world.reported ++ (i, z.reported) ∷ []) same;
  step = record { there = h.there; input = given; given = input_there w (Take i p) given (h.given ∙ ap Some is); turn = t; made = made; leaves = refl };
}
as_step config w v (Do i action) h given t is made same = record {
  from = with_it w given;
  to = perform (without_input {C = Action} (with_it w given) (Do i action)) i t;
  node = refl;
  reported = refl;
  node_later = ap (λ u. u.node) (sym h.leaves) ∙ ap (λ (z : Turn State (Noticed Message) Report). set_at w.world.node i z.state) same;
  reported_later = ap (λ u. u.reported) (sym h.leaves) ∙ ap (λ (z : Turn State (Noticed Message) Report). w.world.reported ++ (i, z.reported) ∷ []) same;
  step = record { there = h.there; input = given; given = input_there w (Do i action) given (h.given ∙ ap Some is); turn = t; made = made; leaves = refl };
}

-- ---- what lasts over steps and seen losses

-- the world where node i has seen the loss of node p
abbrev pub after_loss : Config → FrameWorld → ℕ → ℕ → FrameWorld
after_loss config u i p = record {
  node = set_at u.node i (see_loss (name_at config p) (u.node i)).state;
  wire = u.wire;
  reported = u.reported ++ (i, nothing) ∷ [];
}

-- What is said of nodes and of what they reported, and is kept by each step, and where a loss is seen.
pub record IsKept (config : Config) (Q : FrameWorld → Type 0) : Type 0 where
  pub same : (u v : FrameWorld) → v.node ≡ u.node → v.reported ≡ u.reported → Q u → Q v
  pub step : (u v : FrameWorld) (d : Event Action) → Happened (machine_of config) u d v → Q u → Q v
  pub loss : (u : FrameWorld) (i p : ℕ) → Q u → Q (after_loss config u i p)

module _ (config : Config) (Q : FrameWorld → Type 0) (kept : IsKept config Q) where
  went : (w v : Lossy) (d : Event Action) (h : Happened (losing_machine_of config) w.world d v.world) → Makes config (node_of d) (w.world.node (node_of d)) h.input h.turn → Q (heard w) → Q (heard v)
  went w v d h (Steps given t is made same) old =
      let s = as_step config w v d h given t is made same in
      kept.same s.to (heard v) s.node_later s.reported_later (kept.step s.from s.to d s.step (kept.same (heard w) s.from s.node s.reported old))
  went w v (Take i q) h (Sees p is not_yet same) old = kept.same (after_loss config (heard w) i p) (heard v)
      (ap (λ u. u.node) (sym h.leaves) ∙ ap (λ (z : Turn State (Noticed Message) Report). set_at w.world.node i z.state) same)
      (ap (λ u. u.reported) (sym h.leaves) ∙ ap (λ (z : Turn State (Noticed Message) Report). w.world.reported ++ (i, z.reported) ∷ []) same)
      (kept.loss (heard w) i p old)
  went w v (Do i action) h (Sees p is not_yet same) old = let no : Own action ≡ h.input = some_is h.given in absurd (cc (no ∙ is))

  carried : (w v : Lossy) (e : LosingEvent Action) → Passed config w v e → Q (heard w) → Q (heard v)
  carried w v e (Went d is lives h same) old = went w v d h (makes config (node_of d) (w.world.node (node_of d)) h.input h.turn h.made) old
  carried w v e (Died i keep is there lives cut gone) old = kept.same (heard w) (heard v) (ap (λ u. u.node) cut) (ap (λ u. u.reported) cut) old

  -- it holds of each world of a run
  pub carried_past : (es : List (LosingEvent Action)) (w : LosingFrameWorld) → LosingReaches config es w → Q (start_of (machine_of config)) → Q (heard (bare w))
  carried_past es w l first = kept_past config (λ u. Q (heard u)) carried es (nobody_gone (start_of (losing_frame_machine config))) w l
      (subst (λ u. Q (heard (nobody_gone u))) (sym (plain_start (losing_machine_of config) CLOCK_LIMIT)) (kept.same (start_of (machine_of config)) (heard (nobody_gone (start_of (losing_machine_of config)))) refl refl first))

  -- and of each world to which events lead from one of which it holds
  pub carried_on : (es : List (LosingEvent Action)) (w v : LosingFrameWorld) → LosingLeads (losing_frame_machine config) last_notice w es v → Q (heard (bare w)) → Q (heard (bare v))
  carried_on es w v l was = kept_past config (λ u. Q (heard u)) carried es w v l was
