-- Formed live nodes, and heard each node whose loss they saw, agree on a group of which no lost node has an update.
use Rattle.std.proofs.Common.{◌≡◌, ◌⊎◌, inl, inr, ℕ, Bool, true, false, length, List, None, refl, ap, sym, ◌∙◌}
use Rattle.std.specs.List.{IsDistinct}
use Rattle.std.proofs.Math.Path.{fun_ext}
use Rattle.pg_term.specs.declared.pid.Pid.{Pid}
use Rattle.pg_term.specs.declared.term.Term.{Term}
use Rattle.pg_term.specs.Same.{same_atom}
use Rattle.pg_laws.specs.PgGroup.Value.{less}
use Rattle.pg_laws.specs.PgStep.Machines.Losing.{LosingEvent}
use Rattle.pg_laws.specs.PgStep.Machines.Places.{is_pair}
use Rattle.pg_laws.specs.PgStep.Config.{Config, name_at, names_of, nodes_at}
use Rattle.pg_laws.specs.PgStep.LossLaws.{LosingFrameWorld}
use Rattle.pg_laws.specs.PgStep.State.{formed}
use Rattle.pg_laws.specs.PgStep.Step.{Action}
use Rattle.pg_laws.specs.History.{applied_by, base, replay}
use Rattle.pg_laws.specs.WithLosses.{NonePendingLive}
use Rattle.pg_laws.proofs.ends.Apart.{pair_second}
use Rattle.pg_laws.proofs.places.Shown.{IsHere}
use Rattle.pg_laws.proofs.references.Keys.{atoms}
use Rattle.pg_laws_losses.specs.Agreeing.{EndedHome, SawAll}
use Rattle.pg_laws_losses.specs.Reached.{LosingReaches}
use Rattle.pg_laws_losses.proofs.Bridges.{Bridged, bridged}
use Rattle.pg_laws_losses.proofs.Lossy.{bare}
use Rattle.pg_laws_losses.proofs.Tabled.{lost_ended}
use Rattle.pg_laws_losses.specs.Remains.Heard.{Heard, HeardTheLost, NoneOfLost}
use Rattle.pg_laws_losses.proofs.Remains.Applied.{all_applied}
use Rattle.pg_laws_losses.proofs.Remains.Knowing.{table_is}
use Rattle.pg_laws_losses.proofs.Remains.Passing.{EachKeeps}

module _ (law : EachKeeps) (config : Config) (apart : IsDistinct same_atom (names_of config)) (es : List (LosingEvent Action)) (w : LosingFrameWorld) (l : LosingReaches config es w) (none : NonePendingLive config w) where
  bridge : Bridged config apart (bare w)
  bridge = bridged config apart es w l

  -- an end that one of them has taken the other has
  also_ended : (i j : ℕ) (pid : Pid) → IsHere config i → IsHere config j → w.gone j ≡ false → SawAll config w j → (w.world.node i).state.ended pid ≡ true → (w.world.node j).state.ended pid ≡ true
  also_ended i j pid here there lives saw ended = go ((law config w es apart l).left.home i pid here ended)
    where
      go : EndedHome config w i pid → (w.world.node j).state.ended pid ≡ true
      go (home, at, named, known) = by_loss (w.gone home) refl known
        where
          by_loss : (b : Bool) → w.gone home ≡ b → ((w.world.node home).state.ended pid ≡ true) ⊎ ((w.world.node i).state.lost (name_at config home) ≡ true) → (w.world.node j).state.ended pid ≡ true
          by_loss true gone _ = lost_ended config es w l j (name_at config home) pid (saw home at gone) (ap (same_atom (name_at config home)) named ∙ atoms.refl (name_at config home))
          by_loss false alive (inl at_home) = none home j pid at there alive lives named at_home
          by_loss false alive (inr lost) =
              let gone : w.gone home ≡ true = bridge.has.gone (name_at config i) home at (bridge.has.sees i (name_at config home) here ∙ lost) in
              absurd (cc (sym alive ∙ gone))

  same_ended : (i j : ℕ) → IsHere config i → IsHere config j → w.gone i ≡ false → w.gone j ≡ false → SawAll config w i → SawAll config w j → (w.world.node i).state.ended ≡ (w.world.node j).state.ended
  same_ended i j here there ai aj si sj = fun_ext (λ pid. go pid ((w.world.node i).state.ended pid) ((w.world.node j).state.ended pid) refl refl)
    where
      go : (pid : Pid) (a b : Bool) → (w.world.node i).state.ended pid ≡ a → (w.world.node j).state.ended pid ≡ b → (w.world.node i).state.ended pid ≡ (w.world.node j).state.ended pid
      go pid true b ei ej = ei ∙ sym (also_ended i j pid here there aj sj ei)
      go pid false true ei ej = also_ended j i pid there here ai si ej ∙ sym ej
      go pid false false ei ej = ei ∙ sym ej

  -- whose loss was seen was heard
  heard_seen : (i : ℕ) → IsHere config i → HeardTheLost config es w i → (p : ℕ) → is_pair (length config) i p ≡ true → (w.world.node i).state.lost (name_at config p) ≡ true → Heard config es i p
  heard_seen i here heard p pair seen = heard p pair (bridge.has.gone (name_at config i) p (pair_second (length config) i p pair) (bridge.has.sees i (name_at config p) here ∙ seen))

  -- they agree, where a live node x sees the lock free
  pub agree : (i j x : ℕ) (name : Term) → IsHere config i → IsHere config j → IsHere config x → w.gone i ≡ false → w.gone j ≡ false → w.gone x ≡ false
      → formed (nodes_at config i) (w.world.node i).state ≡ true → formed (nodes_at config j) (w.world.node j).state ≡ true → SawAll config w i → SawAll config w j
      → HeardTheLost config es w i → HeardTheLost config es w j → (w.world.node x).state.locks name ≡ None → NoneOfLost w name
      → (w.world.node i).state.table name ≡ (w.world.node j).state.table name
  agree i j x name hi hj hx ai aj ax fi fj si sj ti tj free of_none =
      let same : applied_by i name w.world.reported ≡ applied_by j name w.world.reported =
      all_applied law config apart es w l name of_none x hx ax free i hi ai ∙ sym (all_applied law config apart es w l name of_none x hx ax free j hj aj) in
      table_is law config apart i hi es w l fi (heard_seen i hi ti) name
      ∙ ((λ k. less (replay (base config name) (same k)) (same_ended i j hi hj ai aj si sj k))
      ∙ sym (table_is law config apart j hj es w l fj (heard_seen j hj tj) name))
