-- Histories go by real time, whoever is lost.
use Rattle.std.proofs.Common.{◌≡◌, List, [], ◌∷◌, ◌++◌, Some, None, sym, ◌∙◌, subst}
use Rattle.pg_term.specs.declared.term.Term.{Term}
use Rattle.pg_laws.specs.PgStep.Machines.Losing.{LosingEvent, LosingLeads, nobody_gone}
use Rattle.pg_laws.specs.PgStep.Machines.Machine.{start_of}
use Rattle.pg_laws.proofs.PgStep.Machines.Options.{some_is}
use Rattle.pg_laws.specs.PgStep.declared.command.Command.{Command}
use Rattle.pg_laws.specs.PgStep.Config.{Config}
use Rattle.pg_laws.specs.PgStep.FrameMachine.{last_notice, losing_frame_machine}
use Rattle.pg_laws.specs.PgStep.LossLaws.{LosingFrameWorld}
use Rattle.pg_laws.specs.PgStep.Step.{Action}
use Rattle.pg_laws.specs.History.{Entry, command_at, entries, history}
use Rattle.pg_laws.specs.RealTime.{StandsBefore}
use Rattle.pg_laws.proofs.steps.RealTime.{stands_before}
use Rattle.pg_laws_losses.specs.Reached.{LosingReaches, steps_of}
use Rattle.pg_laws_losses.proofs.Answering.{entries_given}
use Rattle.pg_laws_losses.proofs.Lasts.{history_later, reported_on}
use Rattle.pg_laws_losses.proofs.Standing.{answered_stand}

module _ (config : Config) where
  abbrev pub Goes : LosingFrameWorld → List (LosingEvent Action) → LosingFrameWorld → Type 0
  Goes w es v = LosingLeads (losing_frame_machine config) last_notice w es v

  -- events from one world, of which the first lead to another
  later : (first last : List (LosingEvent Action)) (w m v : LosingFrameWorld) → Goes w (first ++ last) v → Goes w first m → Goes m last v
  later [] last w m v l k = subst (λ u. Goes u last v) k l
  later (e ∷ first) last w m v l k = later first last k.0 m v (subst (λ u. Goes u (first ++ last) v) (some_is (sym l.1 ∙ k.1)) l.2) k.2

  -- the last of some events lead on from where the first had led
  pub onward : (events first last : List (LosingEvent Action)) (w m : LosingFrameWorld) → LosingReaches config events w → events ≡ first ++ last → LosingReaches config first m → Goes m last w
  onward events first last w m reaches is reached =
      later first last (nobody_gone (start_of (losing_frame_machine config))) m w (subst (λ es. LosingReaches config es w) is reaches) reached

  pub grown : (w m : LosingFrameWorld) (events first last : List (LosingEvent Action)) → LosingReaches config events w → events ≡ first ++ last → LosingReaches config first m
      → (name : Term) → (more : List Entry) × (history name w.world.reported ≡ history name m.world.reported ++ more)
  grown w m events first last reaches is reached name =
      history_later config m w last (onward events first last w m reaches is reached) name

  pub order : (w m : LosingFrameWorld) (events first last : List (LosingEvent Action)) → LosingReaches config events w → events ≡ first ++ last → LosingReaches config first m → StandsBefore (steps_of first) m.world.reported w.world.reported
  order w m events first last reaches is reached =
      let more = reported_on config last m w (onward events first last w m reaches is reached) in
      stands_before (steps_of first) m.world.reported more.0 w.world.reported more.1 none (λ i op. answered_stand config first m reached i op)
    where
      not_both : (e : Entry) (c : Command) → command_at e.node e.op (steps_of first) ≡ None → command_at e.node e.op (steps_of first) ≡ Some c → ⊥
      not_both e c absent some = let clash : None ≡ Some c = sym absent ∙ some in cc

      none : (x y : List Entry) (e : Entry) → command_at e.node e.op (steps_of first) ≡ None → entries m.world.reported ≡ x ++ e ∷ y → ⊥
      none x y e absent at = let given = entries_given config first m reached x y e at in not_both e given.0 absent given.1
