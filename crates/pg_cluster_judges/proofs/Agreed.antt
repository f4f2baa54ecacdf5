-- The nodes of one run agree: where one sees a lock free they have the same, unless an end is pending, of which the log of the home
-- of its process tells.
use Rattle.std.proofs.Common.{◌≡◌, ◌⊎◌, inl, inr, ℕ, zero, suc, ◌<◌, Bool, true, false, not}
use Rattle.std.proofs.Common.{◌&&◌, ◌||◌, cond, nat_eq, List, [], ◌∷◌, ◌++◌, length, map, arith}
use Rattle.std.proofs.Common.{Option, Some, None, refl, sym, ap, subst, ◌∙◌}
use Rattle.std.specs.Prelude.{is_none, slice_get, slice_index_or}
use Rattle.std.specs.declared.vec.Vec.{Vec}
use Rattle.std.specs.declared.alloc.Global.{Global}
use Rattle.std.specs.List.{IsDistinct, list_all, list_any}
use Rattle.std.specs.Cmp.{first_so, second_so}
use Rattle.std.proofs.lemmas.Bool.{eq-eqb}
use Rattle.std.proofs.lemmas.Bool.Decides.{Decides-ltb}
use Rattle.std.proofs.lemmas.Option.{slice_get-get_or, slice_get_within}
use Rattle.pg_term.specs.declared.pid.Pid.{Pid}
use Rattle.pg_term.specs.Same.{same_atom}
use Rattle.pg_world.specs.PgLaws.History.{NonePending, is_formed}
use Rattle.pg_world.specs.PgLaws.Reached.{TimedFrameWorld, Reaches, FinishedAt}
use Rattle.pg_cluster_judges.specs.Merge.{log_at}
use Rattle.pg_world.specs.PgStep.Machines.Clocked.{plain}
use Rattle.pg_world.specs.PgStep.Machines.Machine.{Event, Do, node_of}
use Rattle.pg_world.specs.PgStep.Machines.Places.{is_place}
use Rattle.pg_world.specs.PgStep.Machines.Runs.{events_of}
use Rattle.pg_world.specs.PgNodeOpens.Places.{whole_in}
use Rattle.pg_node_run.specs.declared.log.NodeEvent.{NodeEvent}
use Rattle.pg_node_run.specs.declared.log.NodeEvent.TheVariants as entries
use Rattle.pg_world.specs.PgStep.Config.{Config, name_at, names_of, nodes_at}
use Rattle.pg_world.specs.PgStep.State.{State, formed, live_nodes}
use Rattle.pg_world.specs.PgStep.Step.{Action, Issue}
use Rattle.pg_world.specs.PgStep.declared.command.Command.TheVariants.{Finish}
use Rattle.pg_cluster_judges.specs.Apart.{event_at}
use Rattle.pg_world.specs.PgWorldPackets.declared.step.FrameStep.{FrameStep}
use Rattle.pg_cluster_judges.specs.Judges.{Agree, formed_in, is_end_pending, is_pending_end, is_taken_by_some, state_in}
use Rattle.pg_cluster_judges.specs.NodeOf.{NodeOf}
use Rattle.pg_cluster_judges.specs.Together.{AreOneRun}

-- ---- lists

either : (b c : Bool) → (b ≡ true) ⊎ (c ≡ true) → (b || c) ≡ true
either true c e = refl
either false c (inr e) = e
either false c (inl e) = absurd cc

any_at : {A : Type 0} (test : A → Bool) (xs : List A) (i : ℕ) (x : A) → slice_get xs i ≡ Some x → test x ≡ true → list_any test xs ≡ true
any_at test [] i x at is = absurd cc
any_at test (y ∷ xs) zero x at is = either (test y) (list_any test xs) (inl (let same : y ≡ x = cc in subst (λ z. test z ≡ true) (sym same) is))
any_at test (y ∷ xs) (suc i) x at is = either (test y) (list_any test xs) (inr (any_at test xs i x at is))

all_at : {A : Type 0} (test : A → Bool) (xs : List A) (i : ℕ) (x : A) → slice_get xs i ≡ Some x → list_all test xs ≡ true → test x ≡ true
all_at test [] i x at all = absurd cc
all_at test (y ∷ xs) zero x at all = let same : y ≡ x = cc in subst (λ z. test z ≡ true) same (first_so (test y) (list_all test xs) all)
all_at test (y ∷ xs) (suc i) x at all = all_at test xs i x at (second_so (test y) (list_all test xs) all)

-- one that passes is somewhere
place_of_any : {A : Type 0} (test : A → Bool) (xs : List A) → list_any test xs ≡ true → (i : ℕ) × (x : A) × (slice_get xs i ≡ Some x) × (test x ≡ true)
place_of_any test [] any = absurd cc
place_of_any {A} test (y ∷ xs) any = go (test y) refl any (place_of_any test xs)
  where
    go : (b : Bool) → test y ≡ b → (b || list_any test xs) ≡ true → (list_any test xs ≡ true → (i : ℕ) × (x : A) × (slice_get xs i ≡ Some x) × (test x ≡ true))
        → (i : ℕ) × (x : A) × (slice_get (y ∷ xs) i ≡ Some x) × (test x ≡ true)
    go true is any later = (zero, y, refl, is)
    go false is any later = let rest = later any in (suc rest.0, rest.1, rest.2, rest.3)

-- what stands in a list that is seen so is seen of an entry of the list
entry_of : {A B : Type 0} (view : A → B) (test : A → Bool) (log : List A) (before after : List B) (b : B) → map view log ≡ before ++ b ∷ after
    → ((a : A) → view a ≡ b → test a ≡ true) → list_any test log ≡ true
entry_of view test [] [] after b is so = absurd cc
entry_of view test [] (x ∷ before) after b is so = absurd cc
entry_of view test (a ∷ log) [] after b is so = either (test a) (list_any test log) (inl (so a (let first : view a ≡ b = cc is in first)))
entry_of view test (a ∷ log) (x ∷ before) after b is so =
    either (test a) (list_any test log) (inr (entry_of view test log before after b (let rest : map view log ≡ before ++ b ∷ after = cc is in rest) so))

-- what one of the logs has one of them has
log_of_any : {E : Type 0} (test : List E → Bool) (logs : List (Vec E Global)) (i : ℕ) → test [] ≡ false → test (slice_index_or (map (λ (v : Vec E Global). v.items) logs) i []) ≡ true
    → list_any (λ (log : Vec E Global). test log.items) logs ≡ true
log_of_any test [] i empty is = absurd cc
log_of_any test (log ∷ logs) zero empty is = either (test log.items) (list_any (λ l. test l.items) logs) (inl is)
log_of_any test (log ∷ logs) (suc i) empty is = either (test log.items) (list_any (λ l. test l.items) logs) (inr (log_of_any test logs i empty is))

-- an event of a node is among the events of that node
own_event : (i : ℕ) (before after : List (Event Action)) (e : Event Action) → node_of e ≡ i → events_of i (before ++ e ∷ after) ≡ events_of i before ++ e ∷ events_of i after
own_event i [] after e own = ap (λ b. cond b (e ∷ events_of i after) (events_of i after)) (eq-eqb (node_of e) i own)
own_event i (d ∷ before) after e own = go (nat_eq (node_of d) i) (own_event i before after e own)
  where
    go : (b : Bool) → events_of i (before ++ e ∷ after) ≡ events_of i before ++ e ∷ events_of i after
        → cond b (d ∷ events_of i (before ++ e ∷ after)) (events_of i (before ++ e ∷ after)) ≡ cond b (d ∷ events_of i before) (events_of i before) ++ e ∷ events_of i after
    go true rest = ap (λ es. d ∷ es) rest
    go false rest = rest

-- ---- one run

-- the laws that are cited
abbrev EndedWereFinished : Type 0
EndedWereFinished = (config : Config) (w : TimedFrameWorld) (events : List (Event Action)) (i : ℕ) (pid : Pid) → IsDistinct same_atom (names_of config) → Reaches config events w
    → pid.node ≡ name_at config i → ((plain w).node i).ended pid ≡ true → FinishedAt events i pid

abbrev NoLossIsSeen : Type 0
NoLossIsSeen = (config : Config) (w : TimedFrameWorld) (events : List (Event Action)) (i : ℕ) → Reaches config events w → live_nodes (nodes_at config i) ((plain w).node i) ≡ nodes_at config i

module _ (finished : EndedWereFinished) (unseen : NoLossIsSeen) (given : Config) (nodes : List NodeOf) (logs : List (Vec (ℕ × NodeEvent) Global)) (schedule : List FrameStep)
    (run : AreOneRun given nodes (map (λ v. v.items) logs) schedule) where
  there : (i : ℕ) (node : NodeOf) → slice_get nodes i ≡ Some node → is_place (length run.config) i ≡ true
  there i node at = (Decides-ltb i (length run.config)).1 (let low = slice_get_within nodes i node at in let size = run.size in omega (arith, low, size))

  node_there : (i : ℕ) (none : NodeOf) → is_place (length run.config) i ≡ true → i < length nodes
  node_there i none place = let low = (Decides-ltb i (length run.config)).0 place in let size = run.size in omega (arith, low, size)

  state_is : (i : ℕ) (node : NodeOf) → slice_get nodes i ≡ Some node → (plain run.w).node i ≡ state_in node
  state_is i node at = ap (λ s. s.state) (run.shown i node at).state

  formed_is : (i : ℕ) (node : NodeOf) → slice_get nodes i ≡ Some node → formed_in node ≡ is_formed run.config (plain run.w) i
  formed_is i node at =
      ap (λ names. formed (live_nodes (whole_in names) (state_in node)) (state_in node)) (run.shown i node at).names
      ∙ ap (λ s. formed (live_nodes (nodes_at run.config i) s) s) (sym (state_is i node at))
      ∙ ap (λ m. formed m ((plain run.w).node i)) (unseen run.config run.w run.events i run.leads)

  -- ---- no end is pending where no log tells of one

  finish_pends : (home port : ℕ) (pid : Pid) (event : NodeEvent) → is_taken_by_some nodes pid ≡ true → event_at home event ≡ Do home (Issue port (Finish pid)) → is_pending_end nodes event ≡ true
  finish_pends home port pid (entries.Take peer) taken is = absurd cc
  finish_pends home port pid (entries.Retry op) taken is = absurd cc
  finish_pends home port pid (entries.SeeLoss peer) taken is = absurd cc
  finish_pends home port pid (entries.Command p command) taken is =
      let same : command ≡ Finish pid = cc in subst (λ c. is_pending_end nodes (entries.Command p c) ≡ true) (sym same) taken

  logged : (home : ℕ) (pid : Pid) → home < length run.config → FinishedAt run.events home pid → is_taken_by_some nodes pid ≡ true → is_end_pending nodes logs ≡ true
  logged home pid low f taken =
      log_of_any (list_any (λ (entry : ℕ × NodeEvent). is_pending_end nodes entry.1)) logs home refl
      (entry_of (λ (entry : ℕ × NodeEvent). event_at home entry.1) (λ entry. is_pending_end nodes entry.1) (log_at (map (λ v. v.items) logs) home)
      (events_of home f.before) (events_of home f.after) (Do home (Issue f.port (Finish pid)))
      (sym (run.logged home low) ∙ (ap (events_of home) f.is ∙ own_event home f.before f.after (Do home (Issue f.port (Finish pid))) refl))
      (λ entry. finish_pends home f.port pid entry.1 taken))

  none_pending : is_end_pending nodes logs ≡ false → NonePending run.config (plain run.w)
  none_pending none home i pid home_there i_there own ended = go (is_taken_by_some nodes pid) refl
    where
      has : NodeOf → Bool
      has node = (state_in node).ended pid

      low : home < length run.config
      low = (Decides-ltb home (length run.config)).0 home_there

      taken_by_each : (all : Bool) → list_all has nodes ≡ all → is_taken_by_some nodes pid ≡ false → list_any has nodes ≡ true → all ≡ true
      taken_by_each true is some any = refl
      taken_by_each false is some any = absurd (let clash = sym some ∙ ((λ j. any j && not (is j))) in cc)

      at : (j : ℕ) (low : j < length nodes) (none : NodeOf) → slice_get nodes j ≡ Some (slice_index_or nodes j none)
      at j low none = slice_get-get_or nodes j none low

      first : (nodes2 : List NodeOf) → nodes2 ≡ nodes → home < length nodes → NodeOf
      first [] is within = absurd (let l = ap length is in omega (arith, l, within))
      first (node ∷ nodes2) is within = node

      some : NodeOf
      some = first nodes refl (let size = run.size in omega (arith, low, size))

      home_at : slice_get nodes home ≡ Some (slice_index_or nodes home some)
      home_at = at home (node_there home some home_there) some

      i_at : slice_get nodes i ≡ Some (slice_index_or nodes i some)
      i_at = at i (node_there i some i_there) some

      any : list_any has nodes ≡ true
      any = any_at has nodes home (slice_index_or nodes home some) home_at (ap (λ (s : State). s.ended pid) (sym (state_is home (slice_index_or nodes home some) home_at)) ∙ ended)

      go : (b : Bool) → is_taken_by_some nodes pid ≡ b → ((plain run.w).node i).ended pid ≡ true
      go false is =
          ap (λ (s : State). s.ended pid) (state_is i (slice_index_or nodes i some) i_at)
          ∙ all_at has nodes i (slice_index_or nodes i some) i_at (taken_by_each (list_all has nodes) refl is any)
      go true is = absurd (let clash = sym none ∙ logged home pid low (finished run.config run.w run.events home pid run.apart run.leads own ended) is in cc)

  -- ---- nodes agree

  pub agreed : Agree nodes logs
  agreed none k x low is_formed_x name free j y lower is_formed_y =
      let one = slice_index_or nodes k x in
      let other = slice_index_or nodes j y in
      let at_k = slice_get-get_or nodes k x low in
      let at_j = slice_get-get_or nodes j y lower in
      let sees = place_of_any (λ node. is_none ((state_in node).locks name)) nodes free in
      ap (λ (s : State). s.table name) (sym (state_is k one at_k))
      ∙ run.history.tables.agree k j sees.0 name (there k one at_k) (there j other at_j) (there sees.0 sees.1 sees.2)
      (sym (formed_is k one at_k) ∙ is_formed_x) (sym (formed_is j other at_j) ∙ is_formed_y)
      (ap (λ (s : State). s.locks name) (state_is sees.0 sees.1 sees.2) ∙ none_is ((state_in sees.1).locks name) sees.3) (none_pending none)
      ∙ ap (λ (s : State). s.table name) (state_is j other at_j)
    where
      none_is : {A : Type 0} (o : Option A) → is_none o ≡ true → o ≡ None
      none_is None e = refl
      none_is (Some x) e = absurd cc
