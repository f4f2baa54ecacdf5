-- Steps of one kind that can be made.
use Rattle.std.proofs.Common.{◌≡◌, ◌≢◌, ◌⊎◌, ◌↔◌, ◌||◌, ◌<◌, ◌≤◌, ℕ, zero, suc, ◌+◌, ◌-◌, Bool, true, false, List}
use Rattle.std.proofs.Common.{[], ◌∷◌, ◌++◌, length, map, take, get_or, refl, sym, ap, ◌∙◌, inl, inr, subst, arith}
use Rattle.std.proofs.lemmas.List.{take_all, take_more}
use Rattle.std.proofs.lemmas.List.Elements.{Contains-append_left, Contains-push, Contains-push_cases}
use Rattle.std.proofs.lemmas.Option.{slice_get_read}
use Rattle.std.specs.Prelude.{slice_get, Option, Some, None, Result, Ok, Err, IfOk}
use Rattle.std.specs.List.{Contains, IsDistinct, list_any}
use Rattle.pg_world_packets.specs.PgStep.Machines.Clocked.{Stamped}
use Rattle.pg_world_packets.specs.PgStep.Machines.Places.{is_pair}
use Rattle.pg_world_packets.specs.PgMessageTypes.declared.message.Message.{Message}
use Rattle.pg_world_packets.proofs.PgNodeOpens.Followed.{op_is, op_same}
use Rattle.pg_world_packets.specs.PgStep.declared.command.OpId.{OpId}
use Rattle.pg_world_packets.specs.PgStep.Attempts.{same_op}
use Rattle.pg_world_packets.specs.Losing.{seen_at}
use Rattle.pg_world_packets.specs.PgWorldAccount.Losses.{is_lost}
use Rattle.pg_world_packets.specs.Views.{CanStay, on_the_way}
use Rattle.pg_explore.specs.declared.moves.Move.{Move}
use Rattle.pg_explore.specs.declared.moves.Move.TheVariants.{Take, Next, Loss, Retry, SeeLoss}
use Rattle.pg_explore.specs.declared.plan.Plan.{Plan}
use Rattle.pg_explore.specs.declared.plan.Planned.{Planned}
use Rattle.pg_explore.specs.declared.plan.Planned.TheVariants as planned
use Rattle.pg_world_packets.specs.declared.step.FrameStep.{FrameStep}
use Rattle.pg_explore.specs.Keeping.{AreUpTo}
use Rattle.pg_explore.specs.Listings.{ListsWanted, AddsOpen, IsLossOf, IsMoveOfPeer, IsOfPeers, IsOfPeersBelow}
use Rattle.pg_explore.specs.Listings.{IsOpenMove, IsPlannedOf, IsRetryOf, IsThere, MayRetry, sight_waits_at}
use Rattle.pg_explore.specs.Moments.{Progress, Sight}
use Rattle.pg_explore.specs.Moves.{planned_next}
use Rattle.pg_explore.proofs.Lengthening.{can_stay, stays_up_to}
use Rattle.pg_explore.proofs.Listed.{IsOfBelow, adds_both, adds_none, adds_one, adds_same}
use Rattle.pg_explore.proofs.Sized.{no_pair, pair_is}

module _ (plans : List Plan) (most : ℕ) (sight : Sight) where
  abbrev Of : ℕ → ℕ → Move → Type 0
  Of i p s = IsOpenMove plans most sight s × IsMoveOfPeer i p s

  -- the packet of a peer
  pub take_open : (i p : ℕ) (old : List Move) → IsThere sight i → is_pair (length sight.progress) p i ≡ true → on_the_way sight.view.traffic p i ≢ []
      → AddsOpen plans most sight (IsMoveOfPeer i p) old (old ++ Take i p ∷ [])
  take_open i p old there pair some = adds_one (Of i p) old (Take i p) ((there, pair, some), (refl, refl)) same
    where
      same : (s : Move) → Of i p s → s ≡ Take i p
      same (Take j q) w = (λ k. Take (w.1.0 k) (w.1.1 k))
      same (SeeLoss j q) w = absurd (some ((λ k. on_the_way sight.view.traffic (sym w.1.1 k) (sym w.1.0 k)) ∙ w.0.2))
      same (Next j) w = absurd w.1
      same (Loss j keep) w = absurd w.1
      same (Retry j op) w = absurd w.1

  -- the loss of a peer
  pub sight_open : (i p : ℕ) (old : List Move) → IsThere sight i → is_pair (length sight.progress) p i ≡ true → on_the_way sight.view.traffic p i ≡ [] → is_lost sight.lost p ≡ true
      → seen_at sight.view.traffic.nodes i p ≡ false → AddsOpen plans most sight (IsMoveOfPeer i p) old (old ++ SeeLoss i p ∷ [])
  sight_open i p old there pair none lost unseen = adds_one (Of i p) old (SeeLoss i p) ((there, pair, none, lost, unseen), (refl, refl)) same
    where
      same : (s : Move) → Of i p s → s ≡ SeeLoss i p
      same (Take j q) w = absurd (w.0.2 ((λ k. on_the_way sight.view.traffic (w.1.1 k) (w.1.0 k)) ∙ none))
      same (SeeLoss j q) w = (λ k. SeeLoss (w.1.0 k) (w.1.1 k))
      same (Next j) w = absurd w.1
      same (Loss j keep) w = absurd w.1
      same (Retry j op) w = absurd w.1

  -- neither
  pub none_open : (i p : ℕ) (old : List Move) → (on_the_way sight.view.traffic p i ≢ [] → ⊥) → (is_lost sight.lost p ≡ true → seen_at sight.view.traffic.nodes i p ≡ false → ⊥)
      → AddsOpen plans most sight (IsMoveOfPeer i p) old old
  none_open i p old empty unseen = adds_none (Of i p) old none
    where
      none : (s : Move) → Of i p s → ⊥
      none (Take j q) w = empty (λ e. w.0.2 ((λ k. on_the_way sight.view.traffic (w.1.1 k) (w.1.0 k)) ∙ e))
      none (SeeLoss j q) w = unseen (ap (λ x. is_lost sight.lost x) (sym w.1.1) ∙ w.0.3) ((λ k. seen_at sight.view.traffic.nodes (sym w.1.0 k) (sym w.1.1 k)) ∙ w.0.4)
      none (Next j) w = w.1
      none (Loss j keep) w = w.1
      none (Retry j op) w = w.1

  -- a node is no peer of itself
  pub no_peer_itself : (i : ℕ) (old : List Move) → AddsOpen plans most sight (IsMoveOfPeer i i) old old
  no_peer_itself i old = adds_none (Of i i) old none
    where
      none : (s : Move) → Of i i s → ⊥
      none (Take j q) w = no_pair (length sight.progress) i ((λ k. is_pair (length sight.progress) (sym w.1.1 k) (sym w.1.0 k)) ∙ w.0.1)
      none (SeeLoss j q) w = no_pair (length sight.progress) i ((λ k. is_pair (length sight.progress) (sym w.1.1 k) (sym w.1.0 k)) ∙ w.0.1)
      none (Next j) w = w.1
      none (Loss j keep) w = w.1
      none (Retry j op) w = w.1

  -- all peers
  pub all_peers : (i count : ℕ) (old new : List Move) → length sight.progress ≤ count → ListsWanted (IsOfBelow plans most sight i count) old new → AddsOpen plans most sight (IsOfPeers i) old new
  all_peers i count old new many x = adds_same _ _ old new to from x
    where
      to : (s : Move) → IsOpenMove plans most sight s × IsOfPeers i s → IsOfBelow plans most sight i count s
      to (Take j q) w = let l = (pair_is (length sight.progress) q j w.0.1).0 in (w.0, (w.1, omega (arith, l, many)))
      to (SeeLoss j q) w = let l = (pair_is (length sight.progress) q j w.0.1).0 in (w.0, (w.1, omega (arith, l, many)))
      to (Next j) w = absurd w.1
      to (Loss j keep) w = absurd w.1
      to (Retry j op) w = absurd w.1

      from : (s : Move) → IsOfBelow plans most sight i count s → IsOpenMove plans most sight s × IsOfPeers i s
      from (Take j q) w = (w.0, w.1.0)
      from (SeeLoss j q) w = (w.0, w.1.0)
      from (Next j) w = absurd w.1
      from (Loss j keep) w = absurd w.1
      from (Retry j op) w = absurd w.1

  -- ---- what is planned

  abbrev Is : ℕ → Move → Type 0
  Is i s = IsOpenMove plans most sight s × IsPlannedOf i s

  not_both : (step : FrameStep) (next : Option Planned) → next ≡ Some (planned.Step step) → next ≡ Some planned.Loss → ⊥
  not_both step next e f = let bad = sym e ∙ f in absurd (cc)

  pub next_open : (i : ℕ) (step : FrameStep) (old : List Move) → IsThere sight i → planned_next plans sight.progress i ≡ Some (planned.Step step) → AddsOpen plans most sight (IsPlannedOf i) old (old ++ Next i ∷ [])
  next_open i step old there is = adds_one (Is i) old (Next i) ((there, (step, is)), refl) same
    where
      same : (s : Move) → Is i s → s ≡ Next i
      same (Next j) w = ap Next w.1
      same (Loss j keep) w = absurd (not_both step (planned_next plans sight.progress i) is (ap (planned_next plans sight.progress) (sym w.1) ∙ w.0.1))
      same (Take j q) w = absurd w.1
      same (Retry j op) w = absurd w.1
      same (SeeLoss j q) w = absurd w.1

  pub losses_open : (i : ℕ) (old new : List Move) → IsThere sight i → planned_next plans sight.progress i ≡ Some planned.Loss → ListsWanted (IsLossOf i (get_or sight.view.traffic.ways i [])) old new
      → AddsOpen plans most sight (IsPlannedOf i) old new
  losses_open i old new there is x = adds_same _ _ old new to from x
    where
      to : (s : Move) → Is i s → IsLossOf i (get_or sight.view.traffic.ways i []) s
      to (Loss j keep) w = (w.1, subst (λ n. CanStay keep (get_or sight.view.traffic.ways n [])) w.1 w.0.2)
      to (Next j) w = absurd (not_both w.0.1.0 (planned_next plans sight.progress i) (ap (planned_next plans sight.progress) (sym w.1) ∙ w.0.1.1) is)
      to (Take j q) w = absurd w.1
      to (Retry j op) w = absurd w.1
      to (SeeLoss j q) w = absurd w.1

      from : (s : Move) → IsLossOf i (get_or sight.view.traffic.ways i []) s → Is i s
      from (Loss j keep) w = ((subst (IsThere sight) (sym w.0) there, ap (planned_next plans sight.progress) w.0 ∙ is, subst (λ n. CanStay keep (get_or sight.view.traffic.ways n [])) (sym w.0) w.1), w.0)
      from (Next j) w = absurd w
      from (Take j q) w = absurd w
      from (Retry j op) w = absurd w
      from (SeeLoss j q) w = absurd w

  pub nothing_open : (i : ℕ) (old : List Move) → planned_next plans sight.progress i ≡ None → AddsOpen plans most sight (IsPlannedOf i) old old
  nothing_open i old is = adds_none (Is i) old none
    where
      nope : (x : Planned) → planned_next plans sight.progress i ≡ Some x → ⊥
      nope x e = let bad = sym is ∙ e in absurd (cc)

      none : (s : Move) → Is i s → ⊥
      none (Next j) w = nope (planned.Step w.0.1.0) (ap (planned_next plans sight.progress) (sym w.1) ∙ w.0.1.1)
      none (Loss j keep) w = nope planned.Loss (ap (planned_next plans sight.progress) (sym w.1) ∙ w.0.1)
      none (Take j q) w = w.1
      none (Retry j op) w = w.1
      none (SeeLoss j q) w = w.1

  -- ---- retries

  -- those of commands of a list
  abbrev pub IsRetryIn : ℕ → List OpId → Move → Type 0
  IsRetryIn i ops (Retry j op) = (j ≡ i) × Contains ops op × MayRetry most sight.progress i op.number
  IsRetryIn i ops s = ⊥

  pub no_retry : (i : ℕ) (old : List Move) → ListsWanted (IsRetryIn i []) old old
  no_retry i old = adds_none _ old none
    where
      none : (s : Move) → IsRetryIn i [] s → ⊥
      none (Retry j op) w = omega (arith, w.1.1)
      none (Next j) w = w
      none (Loss j keep) w = w
      none (Take j q) w = w
      none (SeeLoss j q) w = w

  retry_on : (i : ℕ) (ops : List OpId) (op : OpId) (s : Move) → IsRetryIn i ops s → IsRetryIn i (ops ++ op ∷ []) s
  retry_on i ops op (Retry j other) w = (w.0, Contains-append_left ops (op ∷ []) other w.1, w.2)
  retry_on i ops op (Next j) w = absurd w
  retry_on i ops op (Loss j keep) w = absurd w
  retry_on i ops op (Take j q) w = absurd w
  retry_on i ops op (SeeLoss j q) w = absurd w

  pub retry_more : (i : ℕ) (ops : List OpId) (op : OpId) (old new : List Move) → MayRetry most sight.progress i op.number → ListsWanted (IsRetryIn i ops) old new → ListsWanted (IsRetryIn i (ops ++ op ∷ [])) old (new ++ Retry i op ∷ [])
  retry_more i ops op old new may x = adds_both (IsRetryIn i ops) (λ s. s ≡ Retry i op) (IsRetryIn i (ops ++ op ∷ [])) old new (new ++ Retry i op ∷ []) cases (retry_on i ops op) here x (adds_one _ new (Retry i op) refl (λ s e. e))
    where
      pick : (j : ℕ) (other : OpId) → j ≡ i → MayRetry most sight.progress i other.number → Contains ops other ⊎ (op ≡ other) → IsRetryIn i ops (Retry j other) ⊎ (Retry j other ≡ Retry i op)
      pick j other e m (inl c) = inl (e, c, m)
      pick j other e m (inr s) = inr (λ k. Retry (e k) (sym s k))

      cases : (s : Move) → IsRetryIn i (ops ++ op ∷ []) s → IsRetryIn i ops s ⊎ (s ≡ Retry i op)
      cases (Retry j other) w = pick j other w.0 w.2 (Contains-push_cases ops op other w.1)
      cases (Next j) w = absurd w
      cases (Loss j keep) w = absurd w
      cases (Take j q) w = absurd w
      cases (SeeLoss j q) w = absurd w

      here : (s : Move) → s ≡ Retry i op → IsRetryIn i (ops ++ op ∷ []) s
      here s e = subst (IsRetryIn i (ops ++ op ∷ [])) (sym e) (refl, Contains-push ops op, may)

  pub retry_less : (i : ℕ) (ops : List OpId) (op : OpId) (old new : List Move) → (MayRetry most sight.progress i op.number → ⊥) → ListsWanted (IsRetryIn i ops) old new → ListsWanted (IsRetryIn i (ops ++ op ∷ [])) old new
  retry_less i ops op old new may x = adds_same _ _ old new to (retry_on i ops op) x
    where
      pick : (j : ℕ) (other : OpId) → j ≡ i → MayRetry most sight.progress i other.number → Contains ops other ⊎ (op ≡ other) → IsRetryIn i ops (Retry j other)
      pick j other e m (inl c) = (e, c, m)
      pick j other e m (inr s) = absurd (may (subst (λ o. MayRetry most sight.progress i o.number) (sym s) m))

      to : (s : Move) → IsRetryIn i (ops ++ op ∷ []) s → IsRetryIn i ops s
      to (Retry j other) w = pick j other w.0 w.2 (Contains-push_cases ops op other w.1)
      to (Next j) w = absurd w
      to (Loss j keep) w = absurd w
      to (Take j q) w = absurd w
      to (SeeLoss j q) w = absurd w

  pub all_retries : (i : ℕ) (ops : List OpId) (old new : List Move) → IsThere sight i → ((op : OpId) → Contains ops op ↔ (sight_waits_at sight.view.traffic.nodes i op ≡ true)) → ListsWanted (IsRetryIn i ops) old new
      → AddsOpen plans most sight (IsRetryOf i) old new
  all_retries i ops old new there waits x = adds_same _ _ old new to from x
    where
      to : (s : Move) → IsOpenMove plans most sight s × IsRetryOf i s → IsRetryIn i ops s
      to (Retry j op) w = (w.1, (waits op).1 (ap (λ n. sight_waits_at sight.view.traffic.nodes n op) (sym w.1) ∙ w.0.1), subst (λ n. MayRetry most sight.progress n op.number) w.1 w.0.2)
      to (Next j) w = absurd w.1
      to (Loss j keep) w = absurd w.1
      to (Take j q) w = absurd w.1
      to (SeeLoss j q) w = absurd w.1

      from : (s : Move) → IsRetryIn i ops s → IsOpenMove plans most sight s × IsRetryOf i s
      from (Retry j op) w = ((subst (IsThere sight) (sym w.0) there, ap (λ n. sight_waits_at sight.view.traffic.nodes n op) w.0 ∙ (waits op).0 w.1, subst (λ n. MayRetry most sight.progress n op.number) (sym w.0) w.2), w.0)
      from (Next j) w = absurd w
      from (Loss j keep) w = absurd w
      from (Take j q) w = absurd w
      from (SeeLoss j q) w = absurd w

-- ---- commands that wait

clash : false ≡ true → ⊥
clash e = absurd (cc)

behind : (x : OpId) (ops : List OpId) (op : OpId) → same_op x op ≡ false → (k : ℕ) → k < length (x ∷ ops) → get_or (x ∷ ops) k op ≡ op → Contains ops op
behind x ops op not zero l e = absurd (clash (sym not ∙ ap (λ o. same_op o op) e ∙ op_same op))
behind x ops op not (suc k) l e = (k, omega (arith, l), e)

is_among : (x : OpId) (ops : List OpId) (op : OpId) → (Contains ops op → list_any (λ other. same_op other op) ops ≡ true) → Contains (x ∷ ops) op → (t : Bool) → same_op x op ≡ t
    → list_any (λ other. same_op other op) (x ∷ ops) ≡ true
is_among x ops op rest c true is = ap (λ t. t || list_any (λ other. same_op other op) ops) is
is_among x ops op rest c false is = ap (λ t. t || list_any (λ other. same_op other op) ops) is ∙ rest (behind x ops op is c.0 c.1 c.2)

from_among : (x : OpId) (ops : List OpId) (op : OpId) → (list_any (λ other. same_op other op) ops ≡ true → Contains ops op) → (t : Bool) → same_op x op ≡ t
    → list_any (λ other. same_op other op) (x ∷ ops) ≡ true → Contains (x ∷ ops) op
from_among x ops op rest true is e = (0, omega arith, op_is x op is)
from_among x ops op rest false is e = let c = rest (sym (ap (λ t. t || list_any (λ other. same_op other op) ops) is) ∙ e) in (suc c.0, omega (arith, c.1), c.2)

pub among : (ops : List OpId) (op : OpId) → Contains ops op ↔ (list_any (λ other. same_op other op) ops ≡ true)
among [] op = (λ c. absurd (omega (arith, c.1)), λ e. absurd (clash e))
among (x ∷ ops) op = (λ c. is_among x ops op (among ops op).0 c (same_op x op) refl, λ e. from_among x ops op (among ops op).1 (same_op x op) refl e)

-- ---- losses of which each is made

-- those whose packets that stay are of a list
abbrev pub IsLossIn : ℕ → List (List ℕ) → Move → Type 0
IsLossIn i keeps (Loss j keep) = (j ≡ i) × Contains keeps keep
IsLossIn i keeps s = ⊥

pub no_loss : (i : ℕ) (old : List Move) → ListsWanted (IsLossIn i []) old old
no_loss i old = adds_none _ old none
  where
    none : (s : Move) → IsLossIn i [] s → ⊥
    none (Loss j keep) w = omega (arith, w.1.1)
    none (Retry j op) w = w
    none (Next j) w = w
    none (Take j q) w = w
    none (SeeLoss j q) w = w

pub loss_more : (i : ℕ) (keeps : List (List ℕ)) (keep : List ℕ) (old new : List Move) → ListsWanted (IsLossIn i keeps) old new → ListsWanted (IsLossIn i (keeps ++ keep ∷ [])) old (new ++ Loss i keep ∷ [])
loss_more i keeps keep old new x = adds_both (IsLossIn i keeps) (λ s. s ≡ Loss i keep) (IsLossIn i (keeps ++ keep ∷ [])) old new (new ++ Loss i keep ∷ []) cases on here x (adds_one _ new (Loss i keep) refl (λ s e. e))
  where
    pick : (j : ℕ) (other : List ℕ) → j ≡ i → Contains keeps other ⊎ (keep ≡ other) → IsLossIn i keeps (Loss j other) ⊎ (Loss j other ≡ Loss i keep)
    pick j other e (inl c) = inl (e, c)
    pick j other e (inr s) = inr (λ k. Loss (e k) (sym s k))

    cases : (s : Move) → IsLossIn i (keeps ++ keep ∷ []) s → IsLossIn i keeps s ⊎ (s ≡ Loss i keep)
    cases (Loss j other) w = pick j other w.0 (Contains-push_cases keeps keep other w.1)
    cases (Retry j op) w = absurd w
    cases (Next j) w = absurd w
    cases (Take j q) w = absurd w
    cases (SeeLoss j q) w = absurd w

    on : (s : Move) → IsLossIn i keeps s → IsLossIn i (keeps ++ keep ∷ []) s
    on (Loss j other) w = (w.0, Contains-append_left keeps (keep ∷ []) other w.1)
    on (Retry j op) w = absurd w
    on (Next j) w = absurd w
    on (Take j q) w = absurd w
    on (SeeLoss j q) w = absurd w

    here : (s : Move) → s ≡ Loss i keep → IsLossIn i (keeps ++ keep ∷ []) s
    here s e = subst (IsLossIn i (keeps ++ keep ∷ [])) (sym e) (refl, Contains-push keeps keep)

pub all_losses : (i : ℕ) (ways : List (List (Stamped Message))) (keeps : List (List ℕ)) (old new : List Move) → AreUpTo (map length ways) keeps → ListsWanted (IsLossIn i keeps) old new → ListsWanted (IsLossOf i ways) old new
all_losses i ways keeps old new h x = adds_same _ _ old new to from x
  where
    to : (s : Move) → IsLossOf i ways s → IsLossIn i keeps s
    to (Loss j keep) w = (w.0, (h keep).1 (stays_up_to ways keep w.1))
    to (Retry j op) w = absurd w
    to (Next j) w = absurd w
    to (Take j q) w = absurd w
    to (SeeLoss j q) w = absurd w

    from : (s : Move) → IsLossIn i keeps s → IsLossOf i ways s
    from (Loss j keep) w = (w.0, can_stay ways keep ((h keep).0 w.1))
    from (Retry j op) w = absurd w
    from (Next j) w = absurd w
    from (Take j q) w = absurd w
    from (SeeLoss j q) w = absurd w
