-- What a retry leads to, by how its command stands.
use Rattle.std.proofs.Common.{◌≡◌, ℕ, Bool, true, false, cond, refl, ap, sym, ◌∙◌}
use Rattle.pg_node_ports.specs.PgStep.declared.command.OpId.{OpId}
use Rattle.pg_node_ports.specs.PgGroup.declared.update.Update.{Update}
use Rattle.pg_node_ports.specs.PgStep.Nodes.{Node, Nodes}
use Rattle.pg_node_ports.specs.PgStep.State.{State, Stage, Use}
use Rattle.pg_node_ports.specs.PgStep.State.Stage.{Closed, Waiting, Asking, Changing}
use Rattle.pg_node_ports.specs.PgStep.State.Use.{Fresh, Locking, Owning, Updating, Spent}
use Rattle.pg_node_ports.specs.PgStep.Turns.{becomes}
use Rattle.pg_node_ports.specs.PgStep.Attempts.{go_on, replies_in, finish, is_complete}
use Rattle.pg_node_ports.specs.PgNodeOpens.declared.command.Stage.{Stage as SeenStage}
use Rattle.pg_node_ports.specs.PgNodeOpens.declared.command.Stage.TheVariants as seen
use Rattle.pg_node_ports.specs.PgNodeOpens.Readings.{gathering_of, stage_seen, is_lock, is_update}

pub closed_is : (stage : Stage) → stage_seen stage ≡ seen.Closed → stage ≡ Closed
closed_is Closed e = refl
closed_is (Waiting update) e = absurd (cc)
closed_is (Asking lock) e = absurd (cc)
closed_is (Changing number) e = absurd (cc)

pub asking_is : (stage : Stage) (number : ℕ) → stage_seen stage ≡ seen.Asking number → stage ≡ Asking number
asking_is Closed number e = absurd (cc)
asking_is (Waiting update) number e = absurd (cc)
asking_is (Asking lock) number e = ap (λ s. asked s) e
  where
    asked : SeenStage → Stage
    asked (seen.Asking n) = Asking n
    asked other = Asking lock
asking_is (Changing lock) number e = absurd (cc)

pub changing_is : (stage : Stage) (number : ℕ) → stage_seen stage ≡ seen.Changing number → stage ≡ Changing number
changing_is Closed number e = absurd (cc)
changing_is (Waiting update) number e = absurd (cc)
changing_is (Asking lock) number e = absurd (cc)
changing_is (Changing update) number e = ap (λ s. changed s) e
  where
    changed : SeenStage → Stage
    changed (seen.Changing n) = Changing n
    changed other = Changing update

-- nothing is asked under the reference
pub not_asking : (m : Nodes) (c : ℕ) (used : Use) (s : State) → is_lock (gathering_of used) ≡ false → go_on m c used s ≡ becomes s
not_asking m c Fresh s e = refl
not_asking m c (Locking op update first st) s e = absurd (cc)
not_asking m c (Owning name update) s e = refl
not_asking m c (Updating op update lock replied) s e = refl
not_asking m c Spent s e = refl

-- no update goes out under it
pub not_changing : (m : Nodes) (c : ℕ) (used : Use) (s : State) → is_update (gathering_of used) ≡ false → replies_in m c used s ≡ becomes s
not_changing m c Fresh s e = refl
not_changing m c (Locking op update first st) s e = refl
not_changing m c (Owning name update) s e = refl
not_changing m c (Updating op update lock replied) s e = absurd (cc)
not_changing m c Spent s e = refl

-- replies to the update are missing, or all are in
pub not_all_in : (m : Nodes) (c : ℕ) (op : OpId) (update : Update) (lock : ℕ) (replied : Node → Bool) (used : Use) (s : State) → used ≡ Updating op update lock replied → is_complete m used ≡ false
    → replies_in m c used s ≡ becomes s
not_all_in m c op update lock replied used s is e = ap (λ (u : Use). replies_in m c u s) is
    ∙ ap (λ b. cond b (finish m c op update lock s) (becomes s)) (sym (ap (is_complete m) is) ∙ e)

pub all_in : (m : Nodes) (c : ℕ) (op : OpId) (update : Update) (lock : ℕ) (replied : Node → Bool) (used : Use) (s : State) → used ≡ Updating op update lock replied → is_complete m used ≡ true
    → replies_in m c used s ≡ finish m c op update lock s
all_in m c op update lock replied used s is e = ap (λ (u : Use). replies_in m c u s) is
    ∙ ap (λ b. cond b (finish m c op update lock s) (becomes s)) (sym (ap (is_complete m) is) ∙ e)
