-- How often each command stands among the entries, and how often it was answered, where nodes are lost.
use Rattle.std.proofs.Common.{◌≡◌, ℕ, ◌+◌, ◌<◌, ◌≤◌, true, List, [], ◌∷◌, ◌++◌, refl, ap, sym, ◌∙◌, subst, arith}
use Rattle.pg_laws.specs.PgStep.Machines.Losing.{LosingEvent}
use Rattle.pg_laws.proofs.PgStep.Machines.Places.{by_place}
use Rattle.pg_laws.specs.PgStep.declared.command.OpId.{OpId}
use Rattle.pg_laws.specs.PgStep.Config.{Config, name_at}
use Rattle.pg_laws.specs.PgStep.FrameMachine.{FrameWorld}
use Rattle.pg_laws.specs.PgStep.Losses.{forgets, see_loss}
use Rattle.pg_laws.specs.PgStep.LossLaws.{LosingFrameWorld}
use Rattle.pg_laws.specs.PgStep.Nodes.{Node}
use Rattle.pg_laws.specs.PgStep.State.{State, Use, Stage}
use Rattle.pg_laws.specs.PgStep.State.Use.{Fresh, Locking, Owning, Updating, Spent}
use Rattle.pg_laws.specs.PgStep.Step.{Action}
use Rattle.pg_laws.specs.PgStep.Turns.{nothing}
use Rattle.pg_laws.specs.History.{answers_by, entries, times, answered_count, has_answer, answers_to}
use Rattle.pg_laws.specs.ReferencesFit.{Fits, ReferencesFit}
use Rattle.pg_laws.proofs.commands.Stand.{Stands, Kept, chance, under_way, one_at_most}
use Rattle.pg_laws.proofs.commands.StandRuns.{StandsIn, Standing, event_stands, other_answers}
use Rattle.pg_laws.proofs.commands.StandRuns.{own_answers, stands_later, stands_same, start_stands}
use Rattle.pg_laws.proofs.commands.StandTurns.{leaves_all}
use Rattle.pg_laws_losses.specs.Reached.{LosingReaches}
use Rattle.pg_laws_losses.proofs.Carried.{IsKept, after_loss, carried_past}
use Rattle.pg_laws_losses.proofs.Lossy.{bare, heard}

-- ---- a loss that is seen

-- a use that forgets a node belongs to its command still
forgets_fit : (peer : Node) (c : ℕ) (used : Use) (stages : OpId → Stage) (uses : ℕ → Use) → Fits c used stages uses → Fits c (forgets peer used) stages (λ d. forgets peer (uses d))
forgets_fit peer c Fresh stages uses fit = tt
forgets_fit peer c (Locking op u lead st) stages uses fit = fit
forgets_fit peer c (Owning name n) stages uses fit = tt
forgets_fit peer c (Updating op u lock replied) stages uses fit = (fit.0, ap (forgets peer) fit.1)
forgets_fit peer c Spent stages uses fit = tt

pub loss_fits : (peer : Node) (s : State) → ReferencesFit s → ReferencesFit (see_loss peer s).state
loss_fits peer s fitting = record {
  fresh = λ c above. ap (forgets peer) (fitting.fresh c above);
  fits = λ c. forgets_fit peer c (s.uses c) s.stages s.uses (fitting.fits c);
  closed = fitting.closed;
}

-- the nodes after a loss stand as before
stands_loss : (config : Config) (u : FrameWorld) (i p : ℕ) → Standing u → Standing (after_loss config u i p)
stands_loss config u i p all =
    let told = u.reported ++ (i, nothing) ∷ [] in
    let step = leaves_all (answers_by i u.reported) (u.node i) (see_loss (name_at config p) (u.node i)) refl refl refl refl refl (loss_fits (name_at config p) (u.node i)) (all.kept i) in
    record {
      kept = λ j. by_place u.node i (see_loss (name_at config p) (u.node i)).state (λ s. Kept (answers_by j told) s) j
          (λ own. subst (λ z. Kept z (see_loss (name_at config p) (u.node i)).state) (sym (own_answers j i u.reported nothing (sym own)))
          (subst (λ z. Kept (answers_by z u.reported) (see_loss (name_at config p) (u.node i)).state) (sym own) step.0))
          (λ other. subst (λ z. Kept z (u.node j)) (sym (other_answers j i u.reported nothing (λ it. other (sym it)))) (all.kept j));
      stands = λ j op. by_place u.node i (see_loss (name_at config p) (u.node i)).state (λ s. StandsIn j op s told) j
          (λ own. stands_later j i op (u.node i) (see_loss (name_at config p) (u.node i)).state u.reported nothing (sym own)
          (subst (λ z. StandsIn j op (u.node z) u.reported) own (all.stands j op)) (subst (λ z. Stands op (answers_by z u.reported) (u.node i) (see_loss (name_at config p) (u.node i)).state nothing) (sym own) (step.1 op)))
          (λ other. stands_same j i op (u.node j) u.reported nothing (λ it. other (sym it)) (all.stands j op));
    }

stands_kept : (config : Config) → IsKept config Standing
stands_kept config = record {
  same = λ u v node reported all. record {
    kept = λ i. subst (λ ts. Kept (answers_by i ts) (v.node i)) (sym reported) (subst (λ (f : ℕ → State). Kept (answers_by i u.reported) (f i)) (sym node) (all.kept i));
    stands = λ i op. subst (StandsIn i op (v.node i)) (sym reported) (subst (λ (f : ℕ → State). StandsIn i op (f i) u.reported) (sym node) (all.stands i op));
  };
  step = event_stands config;
  loss = stands_loss config;
}

pub standing : (config : Config) (es : List (LosingEvent Action)) (w : LosingFrameWorld) → LosingReaches config es w → Standing (heard (bare w))
standing config es w l = carried_past config Standing (stands_kept config) es w l (start_stands config)

-- ---- what that says

module _ (config : Config) (es : List (LosingEvent Action)) (w : LosingFrameWorld) (l : LosingReaches config es w) (i : ℕ) (op : OpId) where
  stand : StandsIn i op (w.world.node i).state w.world.reported
  stand = (standing config es w l).stands i op

  pub entries_once : times i op (entries w.world.reported) ≤ 1
  entries_once = let once : times i op (entries w.world.reported) + chance op (answers_by i w.world.reported) (w.world.node i).state ≤ 1 = stand.once in omega arith

  balance : times i op (entries w.world.reported) ≡ under_way ((w.world.node i).state.stages op) + answered_count i op w.world.reported
  balance = stand.balanced

  pub answered_once : answered_count i op w.world.reported ≤ 1
  answered_once = within _ _ _ entries_once balance
    where
      within : (x u a : ℕ) → x ≤ 1 → x ≡ u + a → a ≤ 1
      within x u a most e = omega arith

  pub answered_stand : 0 < answered_count i op w.world.reported → times i op (entries w.world.reported) ≡ 1
  answered_stand some = one _ _ _ entries_once balance some
    where
      one : (x u a : ℕ) → x ≤ 1 → x ≡ u + a → 0 < a → x ≡ 1
      one x u a most e above = omega arith

  pub looked_do_not : has_answer op (answers_by i w.world.reported) ≡ true → answered_count i op w.world.reported ≡ 0 → times i op (entries w.world.reported) ≡ 0
  looked_do_not has none =
      let over = ((standing config es w l).kept i).over op has in
      balance ∙ ap (λ x. under_way x + answered_count i op w.world.reported) over.0 ∙ ap (λ n. 0 + n) none

  pub one_answer : answers_to op (answers_by i w.world.reported) ≤ 1
  one_answer = one_at_most op (answers_by i w.world.reported) (((standing config es w l).kept i).single op)
