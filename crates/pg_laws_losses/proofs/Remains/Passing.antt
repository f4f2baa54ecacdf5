-- What each event keeps, with the events before it, each run keeps.
use Rattle.std.proofs.Common.{◌≡◌, List, [], ◌∷◌, ◌++◌, Some, refl, sym, ◌∙◌, subst}
use Rattle.std.specs.List.{IsDistinct}
use Rattle.std.proofs.lemmas.List.{append_assoc, append-nil}
use Rattle.pg_term.specs.Same.{same_atom}
use Rattle.pg_laws.specs.PgStep.Machines.Losing.{LosingEvent, LosingLeads, losing_happens, nobody_gone}
use Rattle.pg_laws.specs.PgStep.Machines.Machine.{start_of}
use Rattle.pg_laws.proofs.PgStep.Machines.Options.{some_is}
use Rattle.pg_laws.specs.PgStep.Config.{Config, names_of}
use Rattle.pg_laws.specs.PgStep.FrameMachine.{last_notice, losing_frame_machine}
use Rattle.pg_laws.specs.PgStep.LossLaws.{LosingFrameWorld}
use Rattle.pg_laws.specs.PgStep.Step.{Action}
use Rattle.pg_laws_losses.specs.Reached.{LosingReaches}
use Rattle.pg_laws_losses.specs.Survived.{OneHistoryPastLosses}

-- the event happens in a world, and leaves another
abbrev pub Leaves : Config → LosingFrameWorld → LosingEvent Action → LosingFrameWorld → Type 0
Leaves config w e v = losing_happens (losing_frame_machine config) last_notice w e ≡ Some v

abbrev pub Leads : Config → LosingFrameWorld → List (LosingEvent Action) → LosingFrameWorld → Type 0
Leads config w es v = LosingLeads (losing_frame_machine config) last_notice w es v

-- one event more
pub leads_more : (config : Config) (es : List (LosingEvent Action)) (w v u : LosingFrameWorld) (e : LosingEvent Action) → Leads config w es v → Leaves config v e u → Leads config w (es ++ e ∷ []) u
leads_more config [] w v u e l h = (u, subst (λ x. Leaves config x e u) (sym l) h, refl)
leads_more config (d ∷ es) w v u e l h = (l.0, l.1, leads_more config es l.0 v u e l.2 h)

-- the same events lead to the same world
pub one_world : (config : Config) (es : List (LosingEvent Action)) (w v u : LosingFrameWorld) → Leads config w es v → Leads config w es u → v ≡ u
one_world config [] w v u l k = sym l ∙ k
one_world config (e ∷ es) w v u l k =
    let same : k.0 ≡ l.0 = some_is (sym k.1 ∙ l.1) in
    one_world config es l.0 v u l.2 (subst (λ x. Leads config x es u) same k.2)

module _ (config : Config) (Q : List (LosingEvent Action) → LosingFrameWorld → Type 0)
    (each : (done : List (LosingEvent Action)) (w v : LosingFrameWorld) (e : LosingEvent Action) → LosingReaches config done w → Leaves config w e v → Q done w → Q (done ++ e ∷ []) v) where
  kept_on : (done es : List (LosingEvent Action)) (w v : LosingFrameWorld) → LosingReaches config done w → Leads config w es v → Q done w → Q (done ++ es) v
  kept_on done [] w v r l q = subst (λ xs. Q xs v) (sym (append-nil done)) (subst (Q done) l q)
  kept_on done (e ∷ es) w v r l q = subst (λ xs. Q xs v) (append_assoc done (e ∷ []) es)
      (kept_on (done ++ e ∷ []) es l.0 v (leads_more config done (nobody_gone (start_of (losing_frame_machine config))) w l.0 e r l.1) l.2 (each done w l.0 e r l.1 q))

  pub kept_all : (es : List (LosingEvent Action)) (w : LosingFrameWorld) → LosingReaches config es w → Q [] (nobody_gone (start_of (losing_frame_machine config))) → Q es w
  kept_all es w l q = kept_on [] es (nobody_gone (start_of (losing_frame_machine config))) w refl l q

-- the law that is cited
abbrev pub EachKeeps : Type 0
EachKeeps = (config : Config) (w : LosingFrameWorld) (events : List (LosingEvent Action)) → IsDistinct same_atom (names_of config) → LosingReaches config events w → OneHistoryPastLosses config events w
