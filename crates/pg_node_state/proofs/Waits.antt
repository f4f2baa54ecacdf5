-- The commands that wait, one place after the other.
use Rattle.std.proofs.Common.{◌≡◌, ℕ, zero, suc, ◌+◌, ◌<◌, Bool, true, false, not, ◌&&◌, cond, List, []}
use Rattle.std.proofs.Common.{◌∷◌, ◌++◌, length, get_or, take, Some, refl, sym, ap, ◌∙◌, arith, append-nil}
use Rattle.std.specs.Prelude.{slice_get}
use Rattle.std.specs.List.{AllByRecursion, IsDistinct, filter}
use Rattle.std.proofs.lemmas.List.Elements.{filter_more}
use Rattle.std.proofs.lemmas.Map.Keys.{IsDistinct-head, IsDistinct-tail, IsDistinct-cons}
use Rattle.std.proofs.lemmas.Map.Views.{any-filter_same}
use Rattle.pg_node_ports.specs.PgStep.declared.command.OpId.{OpId}
use Rattle.pg_node_ports.specs.PgStep.Nodes.{Nodes}
use Rattle.pg_node_ports.specs.PgStep.State.{State, Stage}
use Rattle.pg_node_ports.specs.PgStep.State.Stage.{Closed, Waiting, Asking, Changing}
use Rattle.pg_node_ports.specs.PgStep.Attempts.{same_op, waits}
use Rattle.pg_node_ports.specs.PgNodeOpens.declared.opens.Opens.{Opens}
use Rattle.pg_node_ports.specs.PgNodeOpens.Opens.{AreListed, stages_of}
use Rattle.pg_node_ports.specs.PgNodeOpens.Readings.{stage_seen, is_closed}
use Rattle.pg_node_state.proofs.Given.{same_is}
use Rattle.pg_node_state.specs.Waiting.{AreWaiting, waiting_among}

within : (ops : List OpId) (k : ℕ) (op : OpId) → slice_get ops k ≡ Some op → k < length ops
within [] k op e = absurd (cc)
within (x ∷ ops) zero op e = omega arith
within (x ∷ ops) (suc k) op e = let h = within ops k op e in omega arith

read_at : (ops : List OpId) (k : ℕ) (op d : OpId) → slice_get ops k ≡ Some op → get_or ops k d ≡ op
read_at [] k op d e = absurd (cc)
read_at (x ∷ ops) zero op d e = cc
read_at (x ∷ ops) (suc k) op d e = read_at ops k op d e

-- the commands of a test that are not the command itself are other ones
none_left : (test : OpId → Bool) (x : OpId) (ops : List OpId) → AllByRecursion (λ y. same_op x y ≡ false) ops → AllByRecursion (λ y. same_op x y ≡ false) (filter test ops)
none_left test x [] h = tt
none_left test x (y ∷ ops) h = go (test y) (none_left test x ops h.1)
  where
    go : (b : Bool) → AllByRecursion (λ y. same_op x y ≡ false) (filter test ops) → AllByRecursion (λ y. same_op x y ≡ false) (cond b (y ∷ filter test ops) (filter test ops))
    go true rest = (h.0, rest)
    go false rest = rest

once_left : (test : OpId → Bool) (ops : List OpId) → IsDistinct same_op ops → IsDistinct same_op (filter test ops)
once_left test [] h = h
once_left test (x ∷ ops) h = go (test x) (once_left test ops (IsDistinct-tail same_op x ops h))
  where
    go : (b : Bool) → IsDistinct same_op (filter test ops) → IsDistinct same_op (cond b (x ∷ filter test ops) (filter test ops))
    go true rest = IsDistinct-cons same_op x (filter test ops) (none_left test x ops (IsDistinct-head same_op x ops h)) rest
    go false rest = rest

and_true : (b : Bool) → (b && true) ≡ b
and_true true = refl
and_true false = refl

module _ (m : Nodes) (s : State) where
  -- a command that is not open does not wait
  open_waits : (stage : Stage) → (waits m stage s && not (is_closed (stage_seen stage))) ≡ waits m stage s
  open_waits Closed = refl
  open_waits (Waiting update) = refl
  open_waits (Asking c) = and_true (waits m (Asking c) s)
  open_waits (Changing n) = and_true (waits m (Changing n) s)

  -- one more place, of a command that waits, and of one that doesn't
  module _ (ops : List OpId) (place : ℕ) (op : OpId) (here : slice_get ops place ≡ Some op) where
    next : waiting_among m s (take (place + 1) ops) ≡ waiting_among m s (take place ops) ++ cond (waits m (s.stages op) s) (op ∷ []) []
    next = filter_more (λ op. waits m (s.stages op) s) ops place op (within ops place op here)
        ∙ ap (λ (o : OpId). waiting_among m s (take place ops) ++ cond (waits m (s.stages o) s) (o ∷ []) []) (read_at ops place op op here)

    pub one_waits : waits m (s.stages op) s ≡ true → waiting_among m s (take (place + 1) ops) ≡ waiting_among m s (take place ops) ++ op ∷ []
    one_waits e = next ∙ ap (λ b. waiting_among m s (take place ops) ++ cond b (op ∷ []) []) e

    pub none_waits : waits m (s.stages op) s ≡ false → waiting_among m s (take (place + 1) ops) ≡ waiting_among m s (take place ops)
    none_waits e = next ∙ ap (λ b. waiting_among m s (take place ops) ++ cond b (op ∷ []) []) e ∙ append-nil (waiting_among m s (take place ops))

  pub all_waiting : (opens : Opens) (ops : List OpId) → s.stages ≡ stages_of opens → AreListed opens ops → AreWaiting m s (waiting_among m s ops)
  all_waiting opens ops same listed = record {
    each = λ op. any-filter_same (λ other. same_op other op) (λ other. waits m (s.stages other) s) (waits m (s.stages op) s) (λ other t. ap (λ (o : OpId). waits m (s.stages o) s) (same_is other op t)) ops
        ∙ ap (λ b. waits m (s.stages op) s && b) (listed.open_ones op ∙ ap (λ (stages : OpId → Stage). not (is_closed (stage_seen (stages op)))) (sym same))
        ∙ open_waits (s.stages op);
    once = once_left (λ op. waits m (s.stages op) s) ops listed.once;
  }
