-- What nodes that are seen tell of the losses, behind a step.
use Rattle.std.proofs.Common.{◌≡◌, ◌↔◌, ◌<◌, ℕ, zero, suc, Bool, true, false, ◌||◌, length, List, [], ◌∷◌}
use Rattle.std.proofs.Common.{Some, Result, Ok, Err, inl, inr, refl, sym, ap, ◌∙◌, subst, arith}
use Rattle.std.specs.Prelude.{slice_get}
use Rattle.std.specs.List.{list_all}
use Rattle.std.specs.Cmp.{first_so, second_so}
use Rattle.std.proofs.lemmas.Bool.{eq-eqb, lt-ltb, ltb-true}
use Rattle.std.proofs.lemmas.Option.{slice_get_within}
use Rattle.pg_node_state.specs.PgStep.Machines.Clocked.{Timed}
use Rattle.pg_node_state.specs.PgStep.Machines.Losing.{LosingEvent, Step, Lose}
use Rattle.pg_node_state.specs.PgStep.Machines.Machine.{Do, Take}
use Rattle.pg_node_state.specs.PgStep.Config.{Config, nodes_at}
use Rattle.pg_node_state.specs.PgStep.LossLaws.{LosingFrameWorld}
use Rattle.pg_node_state.specs.PgStep.Nodes.{Node, Nodes}
use Rattle.pg_node_state.specs.PgStep.State.{State, formed, live_nodes}
use Rattle.pg_node_state.specs.PgStep.Step.{Action, Issue, Retry}
use Rattle.pg_laws_losses.proofs.PgLaws.steps.Lossless.{NoneLost, live_all}
use Rattle.pg_node_state.specs.PgNodeOpens.Places.{whole_in}
use Rattle.pg_node_state.proofs.PgNodeOpens.Alike.{both_true}
use Rattle.pg_node_state.specs.declared.state.fault.NodeFault.{NodeFault}
use Rattle.pg_world_account.specs.Losses.{is_lost}
use Rattle.pg_world_config.specs.Seen.{Seen}
use Rattle.pg_world_packets.specs.declared.step.FrameStep.{FrameStep}
use Rattle.pg_world_packets.specs.declared.step.FrameStep.TheVariants as steps
use Rattle.pg_world_packets.specs.declared.step.Stepped.{Stepped}
use Rattle.pg_world_packets.specs.declared.step.Stepped.TheVariants.{Happened, Moved, Nothing, Gone}
use Rattle.pg_world_packets.specs.Losing.{LosingComesTo, formed_after, formed_at, is_formed, keep_of, losing_of, told_of}
use Rattle.pg_world_packets.specs.Worlds.{TimedFrameWorld, ShowsNodes}
use Rattle.pg_world_packets.proofs.AtLosses.{AreFormed, ToldBehind}

-- ---- lists

all_at : {A : Type 0} (P : A → Bool) (xs : List A) → list_all P xs ≡ true → (k : ℕ) (x : A) → slice_get xs k ≡ Some x → P x ≡ true
all_at P [] all k x at = absurd (cc)
all_at P (y ∷ ys) all zero x at = let same : y ≡ x = cc in ap P (sym same) ∙ first_so (P y) (list_all P ys) all
all_at P (y ∷ ys) all (suc k) x at = all_at P ys (second_so (P y) (list_all P ys) all) k x at

at_all : {A : Type 0} (P : A → Bool) (xs : List A) → ((k : ℕ) (x : A) → slice_get xs k ≡ Some x → P x ≡ true) → list_all P xs ≡ true
at_all P [] each = refl
at_all P (y ∷ ys) each = both_true (P y) (list_all P ys) (each 0 y refl) (at_all P ys (λ k x at. each (suc k) x at))

there : {A : Type 0} (xs : List A) (k : ℕ) → k < length xs → (x : A) × (slice_get xs k ≡ Some x)
there [] k below = absurd (omega (arith, below))
there (x ∷ xs) zero below = (x, refl)
there (x ∷ xs) (suc k) below = there xs k (omega (arith, below))

-- ---- nodes that have seen no loss

module _ (config : Config) (nodes : List Seen) (lost : List ℕ) (frames : TimedFrameWorld) (u : LosingFrameWorld) (shows : ShowsNodes config nodes frames) (is : u ≡ losing_of config frames lost) where
  state_is : (k : ℕ) (node : Seen) → slice_get nodes k ≡ Some node → (u.world.node k).state ≡ node.state.state
  state_is k node at = ap (λ (v : LosingFrameWorld). (v.world.node k).state) is ∙ ap (λ (s : Timed State). s.state) (shows.each k node at).state

  gone_is : (x : ℕ) → u.gone x ≡ is_lost lost x
  gone_is x = ap (λ (v : LosingFrameWorld). v.gone x) is

  -- a node that has seen no loss is formed, or not, by all its peers
  formed_is : (k : ℕ) (node : Seen) → slice_get nodes k ≡ Some node → NoneLost (u.world.node k).state → is_formed node ≡ formed (nodes_at config k) (u.world.node k).state
  formed_is k node at none =
      ap (λ (names : List Node). formed (live_nodes (whole_in names) node.state.state) node.state.state) (shows.each k node at).names
      ∙ (ap (λ (s : State). formed (live_nodes (nodes_at config k) s) s) (sym (state_is k node at))
      ∙ ap (λ (m : Nodes). formed m (u.world.node k).state) (live_all (nodes_at config k) (u.world.node k).state none))

  all_formed : ((k : ℕ) → NoneLost (u.world.node k).state) → (list_all is_formed nodes ≡ true) ↔ AreFormed config u
  all_formed none = (
    λ all k place.
        let node = there nodes k (subst (λ n. k < n) (sym shows.size) (ltb-true k (length config) place)) in
        sym (formed_is k node.0 node.1 (none k)) ∙ all_at is_formed nodes all k node.0 node.1,
    λ all. at_all is_formed nodes (λ k node at.
        formed_is k node at (none k) ∙ all k (lt-ltb k (length config) (subst (λ n. k < n) shows.size (slice_get_within nodes k node at)))),
  )

  -- ---- behind a loss

  abbrev NoneSeen : Type 0
  NoneSeen = ((x : ℕ) → u.gone x ≡ false) → (k : ℕ) → NoneLost (u.world.node k).state

  pub loss_told : NoneSeen → (i : ℕ) (keep : ℕ → ℕ) (was now : Bool) → now ≡ formed_at nodes lost was → ToldBehind config u (Lose i keep) was now
  loss_told seen i keep was now told = go lost refl told
    where
      go : (l : List ℕ) → lost ≡ l → now ≡ formed_at nodes l was → ToldBehind config u (Lose i keep) was now
      go [] none so =
          let nobody = λ (x : ℕ). gone_is x ∙ ap (λ (l : List ℕ). is_lost l x) none in
          let all = all_formed (seen nobody) in
          inl (nobody, (λ e. all.0 (sym so ∙ e), λ each. so ∙ all.1 each))
      go (x ∷ l) some so = inr (x, gone_is x ∙ (ap (λ (m : List ℕ). is_lost m x) some ∙ first_lost x l), so)
        where
          first_lost : (y : ℕ) (m : List ℕ) → is_lost (y ∷ m) y ≡ true
          first_lost y m = ap (λ b. b || is_lost m y) (eq-eqb y y refl)

-- ---- behind a step

-- What is told behind what came of a step whose event is this: T of each event that happened, and S where none did.
abbrev pub ToldOf : (LosingEvent Action → Type 0) → Type 0 → LosingEvent Action → Result Stepped NodeFault → Type 0
ToldOf T S e (Ok (Happened effect)) = T e
ToldOf T S e (Ok Gone) = T e
ToldOf T S e (Ok Nothing) = S
ToldOf T S e (Ok (Moved count)) = S
ToldOf T S e (Err fault) = S

-- where both are told
pub told_both : (T : LosingEvent Action → Type 0) (S : Type 0) (e : LosingEvent Action) (result : Result Stepped NodeFault) → T e → S → ToldOf T S e result
told_both T S e (Ok (Happened effect)) told same = told
told_both T S e (Ok Gone) told same = told
told_both T S e (Ok Nothing) told same = same
told_both T S e (Ok (Moved count)) told same = same
told_both T S e (Err fault) told same = same

module _ (config : Config) (nodes : List Seen) (lost : List ℕ) (frames : TimedFrameWorld) (u : LosingFrameWorld) (shows : ShowsNodes config nodes frames) (is : u ≡ losing_of config frames lost)
    (seen : ((x : ℕ) → u.gone x ≡ false) → (k : ℕ) → NoneLost (u.world.node k).state) (P : LosingFrameWorld → Type 0) (was now : Bool) where
  pub told_frames : (step : FrameStep) (result : Result Stepped NodeFault) → now ≡ formed_after step result nodes lost was → LosingComesTo config u (told_of config u step) result P
      → ToldOf (λ e. ToldBehind config u e was now) (now ≡ was) (told_of config u step).event result
  told_frames (steps.Take i p) result so comes = told_both (λ e. ToldBehind config u e was now) (now ≡ was) (Step (Take i p)) result so so
  told_frames (steps.Command i port command) result so comes = told_both (λ e. ToldBehind config u e was now) (now ≡ was) (Step (Do i (Issue port command))) result so so
  told_frames (steps.Retry i op) result so comes = told_both (λ e. ToldBehind config u e was now) (now ≡ was) (Step (Do i (Retry op))) result so so
  told_frames (steps.SeeLoss i p) result so comes = told_both (λ e. ToldBehind config u e was now) (now ≡ was) (Step (Take i p)) result so so
  told_frames (steps.Lose i keep) (Ok (Happened effect)) so comes = let no : true ≡ false = comes.0 in absurd (cc)
  told_frames (steps.Lose i keep) (Ok Gone) so comes = loss_told config nodes lost frames u shows is seen i (keep_of i keep.items) was now so
  told_frames (steps.Lose i keep) (Ok Nothing) so comes = let no : false ≡ true = comes.0 in absurd (cc)
  told_frames (steps.Lose i keep) (Ok (Moved count)) so comes = absurd comes
  told_frames (steps.Lose i keep) (Err fault) so comes = so
