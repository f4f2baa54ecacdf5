-- A command is opened.
use Rattle.std.proofs.Common.{◌≡◌, ℕ, ◌<◌, ◌+◌, suc, Bool, true, false, cond, length, List, []}
use Rattle.std.proofs.Common.{◌∷◌, ◌++◌, Option, Some, None, refl, ap, sym, ◌∙◌, subst, arith}
use Rattle.std.proofs.Math.Path.{fun_ext}
use Rattle.pg_step.specs.PgGroup.declared.update.Update.{Update}
use Rattle.pg_step.specs.PgGroup.Functions.{upd}
use Rattle.pg_step.specs.declared.command.OpId.{OpId}
use Rattle.pg_step.specs.Nodes.{Node}
use Rattle.pg_step.specs.State.{State, Stage}
use Rattle.pg_step.specs.State.Stage.{Closed, Waiting}
use Rattle.pg_step.specs.Attempts.{same_op}
use Rattle.pg_step.specs.Commands.{open_command}
use Rattle.pg_node_opens.specs.declared.command.Phase.{Phase}
use Rattle.pg_node_opens.specs.declared.command.Phase.TheVariants as phase
use Rattle.pg_node_opens.specs.declared.command.OpenCommand.{OpenCommand}
use Rattle.pg_node_opens.specs.Layers.{over, or_as, seek, answers}
use Rattle.pg_node_opens.specs.Commands.{use_in, use_at, stage_in, stage_at, unused, stages_in, first_in, AreKnown}
use Rattle.pg_node_opens.specs.Opens.{Says}
use Rattle.pg_node_opens.proofs.Layered.{quiet_is, apart_of, alone_of, push_seek, push_apart, push_each}
use Rattle.pg_node_opens.proofs.Named.{clash}
use Rattle.pg_node_opens.proofs.Followed.{op_is}

-- a command that is closed is not there
pub closed_quiet : (os : List OpenCommand) (op : OpId) → stages_in os op ≡ Closed → answers (seek stage_at os op) ≡ false
closed_quiet [] op e = refl
closed_quiet (o ∷ os) op e = one (same_op o.op op) e (closed_quiet os op)
  where
    not_closed : (u : Update) (ph : Phase) → stage_in u ph ≡ Closed → ⊥
    not_closed u phase.Waiting e = cc
    not_closed u (phase.Asking lock first) e = cc
    not_closed u (phase.Changing lock number) e = cc

    one : (b : Bool) → or_as (over (cond b (Some (stage_in o.update o.phase)) None) (seek stage_at os op)) Closed ≡ Closed → (stages_in os op ≡ Closed → answers (seek stage_at os op) ≡ false)
        → answers (over (cond b (Some (stage_in o.update o.phase)) None) (seek stage_at os op)) ≡ false
    one true e h = absurd (not_closed o.update o.phase e)
    one false e h = h e

over_none : {B : Type 0} (a : Option B) → over a (over None None) ≡ a
over_none None = refl
over_none (Some v) = refl

module _ (names : List Node) (made : ℕ) (os : List OpenCommand) (o' : OpenCommand) (known : AreKnown names made os) (waits : o'.phase ≡ phase.Waiting) (closed : stages_in os o'.op ≡ Closed) where
  no_use : (x : ℕ) → use_at names o' x ≡ None
  no_use x = ap (λ ph. use_in names o'.op o'.update ph o'.marks x) waits

  sought : (x : ℕ) → seek (use_at names) (os ++ o' ∷ []) x ≡ seek (use_at names) os x
  sought x = push_seek (use_at names) os o' x ∙ (ap (λ z. over (seek (use_at names) os x) (over z None)) (no_use x) ∙ over_none (seek (use_at names) os x))

  free : (x : OpId) → answers (stage_at o' x) ≡ true → answers (seek stage_at os x) ≡ false
  free x h = ap (λ z. answers (seek stage_at os z)) (sym (op_is o'.op x (one (same_op o'.op x) h))) ∙ closed_quiet os o'.op closed
    where
      one : (b : Bool) → answers (cond b (Some (stage_in o'.update o'.phase)) None) ≡ true → b ≡ true
      one true h = refl
      one false h = h

  pub add_known : length o'.marks ≡ length names → 0 < length names → AreKnown names made (os ++ o' ∷ [])
  add_known same some = record {
    uses_alone = alone_of (use_at names) (os ++ o' ∷ []) (push_apart (use_at names) os o' (apart_of (use_at names) os known.uses_alone)
        (λ x h. absurd (clash (sym h ∙ ap answers (no_use x)))));
    stages_alone = alone_of stage_at (os ++ o' ∷ []) (push_apart stage_at os o' (apart_of stage_at os known.stages_alone) free);
    uses_made = λ x e. ap answers (sought x) ∙ known.uses_made x e;
    marked = push_each stage_at (λ p. length p.marks ≡ length names) os o' known.marked same;
    first = push_each stage_at (λ p. first_in p.phase < length names) os o' known.first (subst (λ ph. first_in ph < length names) (sym waits) some);
  }

  added_stages : stages_in (os ++ o' ∷ []) ≡ upd same_op (stages_in os) o'.op (Waiting o'.update)
  unfolding upd
  added_stages = fun_ext (λ x. ap (λ z. or_as z Closed) (push_seek stage_at os o' x)
      ∙ (ap (λ ph. or_as (over (seek stage_at os x) (over (cond (same_op o'.op x) (Some (stage_in o'.update ph)) None) None)) Closed) waits
      ∙ one (same_op o'.op x) (seek stage_at os x) (λ h. free x (ap (λ b. answers (cond b (Some (stage_in o'.update o'.phase)) None)) h))))
    where
      one : (b : Bool) (r : Option Stage) → (b ≡ true → answers r ≡ false) → or_as (over r (over (cond b (Some (Waiting o'.update)) None) None)) Closed ≡ cond b (Waiting o'.update) (or_as r Closed)
      one true r h = ap (λ z. or_as (over z (Some (Waiting o'.update))) Closed) (quiet_is r (h refl))
      one false r h = ap (λ z. or_as z Closed) (over_none r)

  pub add_follows : (lost : List Bool) (s : State) → Says names lost made os s → Says names lost made (os ++ o' ∷ []) (open_command o'.op o'.update s).state
  add_follows lost s h = record {
    references = h.references;
    uses = h.uses ∙ fun_ext (λ x. ap (λ z. or_as z (unused made x)) (sym (sought x)));
    opened = ap (λ n. n + 1) h.opened ∙ more os;
    stages = ap (λ z. upd same_op z o'.op (Waiting o'.update)) h.stages ∙ sym added_stages;
    lost_peers = h.lost_peers;
  }
    where
      next : (n m : ℕ) → n + 1 ≡ m → suc n + 1 ≡ suc m
      next n m e = omega arith

      more : (os : List OpenCommand) → length os + 1 ≡ length (os ++ o' ∷ [])
      more [] = one
        where
          one : 0 + 1 ≡ suc 0
          one = omega arith
      more (o ∷ os) = next (length os) (length (os ++ o' ∷ [])) (more os)
