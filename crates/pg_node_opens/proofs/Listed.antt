-- The open commands, one after another.
use Rattle.std.proofs.Common.{◌≡◌, ℕ, zero, suc, Bool, true, false, not, ◌||◌, cond, length}
use Rattle.std.proofs.Common.{map, List, [], ◌∷◌, Some, None, refl, ap, sym, ◌∙◌, inl, inr, ◌⊎◌}
use Rattle.std.specs.Prelude.{slice_get}
use Rattle.std.specs.List.{AllByRecursion, IsDistinct, list_any}
use Rattle.pg_step.specs.PgGroup.declared.update.Update.{Update}
use Rattle.pg_step.specs.declared.command.OpId.{OpId}
use Rattle.pg_step.specs.State.Stage.{Closed}
use Rattle.pg_step.specs.Attempts.{same_op}
use Rattle.pg_node_opens.specs.declared.command.Phase.{Phase}
use Rattle.pg_node_opens.specs.declared.command.Phase.TheVariants as phase
use Rattle.pg_node_opens.specs.declared.command.OpenCommand.{OpenCommand}
use Rattle.pg_node_opens.specs.Layers.{over, or_as, seek, answers}
use Rattle.pg_node_opens.specs.Commands.{stage_in, stage_at, stages_in}
use Rattle.pg_node_opens.specs.Readings.{stage_seen, is_closed}
use Rattle.pg_node_opens.proofs.Layered.{Apart, quiet_left, quiet_right}
use Rattle.pg_node_opens.proofs.Named.{clash, split}
use Rattle.pg_node_opens.proofs.Followed.{op_is, op_same}

pub ops_count : (os : List OpenCommand) → length (map (λ command. command.op) os) ≡ length os
ops_count [] = refl
ops_count (o ∷ os) = ap suc (ops_count os)

pub op_here : (os : List OpenCommand) (k : ℕ) (o : OpenCommand) → slice_get os k ≡ Some o → slice_get (map (λ command. command.op) os) k ≡ Some o.op
op_here [] k o e = absurd (cc)
op_here (p ∷ os) zero o e = let same : p ≡ o = cc in ap (λ z. Some z.op) same
op_here (p ∷ os) (suc k) o e = op_here os k o e

op_other : (a b : OpId) → same_op b a ≡ false → same_op a b ≡ false
op_other a b e = go (split (same_op a b))
  where
    go : (same_op a b ≡ true) ⊎ (same_op a b ≡ false) → same_op a b ≡ false
    go (inl f) = absurd (clash (sym (op_same b) ∙ (ap (same_op b) (sym (op_is a b f)) ∙ e)))
    go (inr f) = f

quiet_op : (o : OpenCommand) (x : OpId) → answers (stage_at o x) ≡ false → same_op o.op x ≡ false
quiet_op o x e = go (same_op o.op x) e
  where
    go : (b : Bool) → answers (cond b (Some (stage_in o.update o.phase)) None) ≡ false → b ≡ false
    go true e = absurd (clash e)
    go false e = refl

loud_op : (o : OpenCommand) → answers (stage_at o o.op) ≡ true
loud_op o = ap (λ b. answers (cond b (Some (stage_in o.update o.phase)) None)) (op_same o.op)

no_other : (a : OpId) (os : List OpenCommand) → answers (seek stage_at os a) ≡ false → AllByRecursion (λ y. same_op a y ≡ false) (map (λ command. command.op) os)
no_other a [] e = tt
no_other a (o ∷ os) e = (op_other a o.op (quiet_op o a (quiet_left (stage_at o a) (seek stage_at os a) e)), no_other a os (quiet_right (stage_at o a) (seek stage_at os a) e))

pub ops_once : (os : List OpenCommand) → Apart stage_at os → IsDistinct same_op (map (λ command. command.op) os)
unfolding IsDistinct
ops_once [] apart = tt
ops_once (o ∷ os) apart = (no_other o.op os (apart.0 o.op (loud_op o)), ops_once os apart.1)

pub ops_open : (os : List OpenCommand) (op : OpId) → list_any (λ other. same_op other op) (map (λ command. command.op) os) ≡ not (is_closed (stage_seen (stages_in os op)))
ops_open [] op = refl
ops_open (o ∷ os) op = go (same_op o.op op) (ops_open os op)
  where
    stands : (u : Update) (ph : Phase) → true ≡ not (is_closed (stage_seen (stage_in u ph)))
    stands u phase.Waiting = refl
    stands u (phase.Asking lock first) = refl
    stands u (phase.Changing lock number) = refl

    go : (b : Bool) → list_any (λ other. same_op other op) (map (λ command. command.op) os) ≡ not (is_closed (stage_seen (stages_in os op)))
        → (b || list_any (λ other. same_op other op) (map (λ command. command.op) os))
        ≡ not (is_closed (stage_seen (or_as (over (cond b (Some (stage_in o.update o.phase)) None) (seek stage_at os op)) Closed)))
    go true e = stands o.update o.phase
    go false e = e
