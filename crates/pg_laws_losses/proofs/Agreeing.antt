-- live nodes, and have applied the same updates of a group, agree on it.
use Rattle.std.proofs.Common.{◌≡◌, ◌⊎◌, inl, inr, ℕ, Bool, true, false, List, refl, ap, sym, ◌∙◌}
use Rattle.std.specs.List.{IsDistinct}
use Rattle.std.proofs.Math.Path.{fun_ext}
use Rattle.pg_term.specs.declared.pid.Pid.{Pid}
use Rattle.pg_term.specs.declared.term.Term.{Term}
use Rattle.pg_term.specs.Same.{same_atom}
use Rattle.pg_laws.specs.PgGroup.Value.{less}
use Rattle.pg_laws.specs.PgStep.Machines.Losing.{LosingEvent}
use Rattle.pg_laws.specs.PgStep.Config.{Config, names_of, name_at, nodes_at}
use Rattle.pg_laws.specs.PgStep.LossLaws.{LosingFrameWorld}
use Rattle.pg_laws.specs.PgStep.State.{formed}
use Rattle.pg_laws.specs.PgStep.Step.{Action}
use Rattle.pg_laws.specs.History.{applied_by, base, replay}
use Rattle.pg_laws.specs.WithLosses.{FormedAtLosses, NonePendingLive}
use Rattle.pg_laws.proofs.places.Shown.{IsHere}
use Rattle.pg_laws.proofs.references.Keys.{atoms}
use Rattle.pg_laws_losses.specs.Agreeing.{EndedHome, SawAll}
use Rattle.pg_laws_losses.specs.Reached.{LosingReaches}
use Rattle.pg_laws_losses.proofs.Bridges.{Bridged, bridged}
use Rattle.pg_laws_losses.proofs.Homes.{ended_at_home}
use Rattle.pg_laws_losses.proofs.Lossy.{bare}
use Rattle.pg_laws_losses.proofs.Tabled.{lost_ended, table_of}

module _ (config : Config) (apart : IsDistinct same_atom (names_of config)) (es : List (LosingEvent Action)) (w : LosingFrameWorld) (l : LosingReaches config es w) (none : NonePendingLive config w) where
  bridge : Bridged config apart (bare w)
  bridge = bridged config apart es w l

  -- an end that one of them has taken the other has
  also_ended : (i j : ℕ) (pid : Pid) → IsHere config i → IsHere config j → w.gone j ≡ false → SawAll config w j → (w.world.node i).state.ended pid ≡ true → (w.world.node j).state.ended pid ≡ true
  also_ended i j pid here there lives saw ended = go (ended_at_home config es w l i pid here ended)
    where
      go : EndedHome config w i pid → (w.world.node j).state.ended pid ≡ true
      go (home, at, named, known) = by_loss (w.gone home) refl known
        where
          by_loss : (b : Bool) → w.gone home ≡ b → ((w.world.node home).state.ended pid ≡ true) ⊎ ((w.world.node i).state.lost (name_at config home) ≡ true) → (w.world.node j).state.ended pid ≡ true
          by_loss true gone _ = lost_ended config es w l j (name_at config home) pid (saw home at gone) (ap (same_atom (name_at config home)) named ∙ atoms.refl (name_at config home))
          by_loss false alive (inl at_home) = none home j pid at there alive lives named at_home
          by_loss false alive (inr lost) =
              let gone : w.gone home ≡ true = bridge.has.gone (name_at config i) home at (bridge.has.sees i (name_at config home) here ∙ lost) in
              absurd (cc (sym alive ∙ gone))

  same_ended : (i j : ℕ) → IsHere config i → IsHere config j → w.gone i ≡ false → w.gone j ≡ false → SawAll config w i → SawAll config w j → (w.world.node i).state.ended ≡ (w.world.node j).state.ended
  same_ended i j here there ai aj si sj = fun_ext (λ pid. go pid ((w.world.node i).state.ended pid) ((w.world.node j).state.ended pid) refl refl)
    where
      go : (pid : Pid) (a b : Bool) → (w.world.node i).state.ended pid ≡ a → (w.world.node j).state.ended pid ≡ b → (w.world.node i).state.ended pid ≡ (w.world.node j).state.ended pid
      go pid true b ei ej = ei ∙ sym (also_ended i j pid here there aj sj ei)
      go pid false true ei ej = also_ended j i pid there here ai si ej ∙ sym ej
      go pid false false ei ej = ei ∙ sym ej

  pub live_agree : FormedAtLosses config es → (i j : ℕ) (name : Term) → IsHere config i → IsHere config j → w.gone i ≡ false → w.gone j ≡ false
      → formed (nodes_at config i) (w.world.node i).state ≡ true → formed (nodes_at config j) (w.world.node j).state ≡ true → SawAll config w i → SawAll config w j
      → applied_by i name w.world.reported ≡ applied_by j name w.world.reported → (w.world.node i).state.table name ≡ (w.world.node j).state.table name
  live_agree at_losses i j name here there ai aj fi fj si sj same =
      table_of config apart es w l at_losses i name here fi
      ∙ (λ k. less (replay (base config name) (same k)) (same_ended i j here there ai aj si sj k))
      ∙ sym (table_of config apart es w l at_losses j name there fj)
