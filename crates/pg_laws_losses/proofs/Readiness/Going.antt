-- What a retry of a ready command comes to.
use Rattle.std.proofs.Common.{◌≡◌, ℕ, ◌+◌, Bool, true, false, cond, nat_eq, nat_lt, List, [], ◌∷◌, ◌++◌}
use Rattle.std.proofs.Common.{Some, Ok, Err, refl, ap, sym, ◌∙◌, subst, append-nil}
use Rattle.std.specs.Prelude.{option_map}
use Rattle.std.proofs.Common.{◌≤◌, None}
use Rattle.std.proofs.lemmas.Bool.{eq-eqb, le-leb, lt-ltb}
use Rattle.pg_term.specs.Same.{same_atom}
use Rattle.pg_laws.specs.PgGroup.Functions.{upd}
use Rattle.pg_laws.specs.PgGroup.Value.{name_of}
use Rattle.pg_laws.specs.PgGroup.declared.update.Update.{Update}
use Rattle.pg_laws.specs.PgLock.Attempts.{after_round, does_wait}
use Rattle.pg_laws.specs.PgMessageTypes.declared.message.Message.{Message}
use Rattle.pg_laws.specs.PgStep.Machines.Happened.{Changes, Happened}
use Rattle.pg_laws.specs.PgStep.Machines.Losing.{Lose, LosingEvent, Noticed, Sent, Step, mapped_turn, losing_happens}
use Rattle.pg_laws.specs.PgStep.Machines.Machine.{Do, Event, Input, Own, Taken, Turn, happens, perform}
use Rattle.pg_laws.specs.PgStep.Machines.Clocked.{plain}
use Rattle.pg_laws.proofs.PgStep.Machines.Options.{some_is, map_is_some}
use Rattle.pg_laws.proofs.PgStep.Machines.Plain.{plain_happens}
use Rattle.pg_laws.proofs.PgStep.Machines.Steps.{changes, happens_so}
use Rattle.pg_laws.specs.PgStep.declared.answer.Reply.TheVariants as reply
use Rattle.pg_laws.specs.PgStep.declared.command.OpId.{OpId}
use Rattle.pg_laws.specs.PgStep.declared.refusal.Refusal.TheVariants.{NoSuchPlace, NotWaiting}
use Rattle.pg_laws.specs.PgStep.Attempts.{all_granted, ask, begin, finish, give_up, go_on, is_complete, locks_in, none_denied}
use Rattle.pg_laws.specs.PgStep.Attempts.{none_missing, replies_in, round_of, same_op, tried_again, waits, with_asked}
use Rattle.pg_laws.specs.PgStep.Config.{Config, nodes_at, ports_at}
use Rattle.pg_laws.specs.PgStep.FrameMachine.{losing_machine_of, node_step, place_turn, losing_frame_machine, placed}
use Rattle.pg_laws.specs.PgStep.LossLaws.{LosingFrameWorld}
use Rattle.pg_laws.specs.PgStep.Nodes.{Node, Nodes, every}
use Rattle.pg_laws.specs.PgStep.Peers.{would_grant}
use Rattle.pg_laws.specs.PgStep.State.{Stage, State, Status, Use, live_nodes}
use Rattle.pg_laws.specs.PgStep.State.Response.{Given}
use Rattle.pg_laws.specs.PgStep.State.Stage.{Asking, Changing, Closed, Waiting}
use Rattle.pg_laws.specs.PgStep.State.Use.{Fresh, Locking, Owning, Spent, Updating}
use Rattle.pg_laws.specs.PgStep.Step.{Action, Retry, acted, CLOCK_LIMIT}
use Rattle.pg_laws.specs.PgStep.Turns.{NodeTurn, Report, and_then, becomes}
use Rattle.pg_laws.specs.Counted.{is_open}
use Rattle.pg_laws.proofs.places.Shown.{IsHere}
use Rattle.pg_laws_losses.proofs.Counting.{all_count}
use Rattle.pg_laws.specs.History.{answer_at, answer_by, answers_by, entries, entry_of}
use Rattle.pg_laws.proofs.locks.Stages.{commands}
use Rattle.pg_laws.proofs.quiet.Linked.{HasReference, IsLockingOf, IsUpdatingOf, Linked}
use Rattle.pg_laws.proofs.references.Keys.{numbers, upd_same}
use Rattle.pg_laws.proofs.steps.Grows.{entries_append}
use Rattle.pg_laws.proofs.steps.Lossless.{step_sees_none}
use Rattle.pg_laws.proofs.steps.Made.{did_so}
use Rattle.pg_laws.proofs.steps.Single.{Makes, ok_is}
use Rattle.pg_laws.proofs.steps.Ways.{told_append}
use Rattle.pg_laws_losses.specs.Reached.{LosingReaches}
use Rattle.pg_laws_losses.proofs.Bridge.{live_same}
use Rattle.pg_laws_losses.proofs.Lossy.{Died, Makes as LossyMakes, Passed, Sees, Steps, Went, bare, makes, noted, passed}
use Rattle.pg_laws_losses.specs.Readiness.Ready.{AsksOn, GaveUp, RetryGoesOn, HasBegun, IsAnswered, is_ready, is_ready_at}
use Rattle.pg_laws_losses.proofs.Readiness.Holders.{all_linked}
use Rattle.pg_laws_losses.proofs.Remains.Passing.{Leaves}

-- ---- a turn

-- what a command has come to by a turn that leaves this state, and reports this
pub data WentOn (m : Nodes) (op : OpId) (t : State) (r : Report) : Type 0 where
  Answered : t.stages op ≡ Closed → r.gave ≡ Some (op, Given reply.Ok) → WentOn m op t r
  Began : (u : Update) (n : ℕ) → t.stages op ≡ Changing n → r.began ≡ Some (op, u) → is_complete m (t.uses n) ≡ false → WentOn m op t r
  Asks : (c : ℕ) → t.stages op ≡ Asking c → is_complete m (t.uses c) ≡ false → WentOn m op t r
  Denied : (u : Update) → t.stages op ≡ Waiting u → WentOn m op t r

abbrev pub Turned : Nodes → OpId → NodeTurn → Type 0
Turned m op t = WentOn m op t.state t.reported

module _ (m : Nodes) (op : OpId) where
  staged : (stages : OpId → Stage) (new : Stage) → upd same_op stages op new op ≡ new
  staged stages new = upd_same same_op commands stages op new

  ends : (n : ℕ) (u : Update) (c : ℕ) (s : State) → Turned m op (finish m n op u c s)
  ends n u c s = Answered (staged s.stages Closed) refl

  gives_up : (c : ℕ) (u : Update) (st : Node → Status) (s : State) → Turned m op (give_up m c op u st s)
  gives_up c u st s = Denied u (staged s.stages (Waiting u))

  -- all replies are in
  pub replies_go : (n : ℕ) (u : Update) (c : ℕ) (replied : Node → Bool) (s : State) → every m replied ≡ true → Turned m op (replies_in m n (Updating op u c replied) s)
  replies_go n u c replied s all = subst (λ b. Turned m op (cond b (finish m n op u c s) (becomes s))) (sym all) (ends n u c s)

  -- an update begins, and ends at once where nobody else is left
  begins : (c : ℕ) (u : Update) (s : State) → Turned m op (and_then (begin m c op u s) (λ v. replies_in m v.references (v.uses v.references) v))
  begins c u s = subst (λ x. Turned m op (and_then (begin m c op u s) (λ v. replies_in m v.references x v))) (sym used) (go (every m (same_atom m.own)) refl)
    where
      t : State
      t = (begin m c op u s).state

      used : (begin m c op u s).state.uses (begin m c op u s).state.references ≡ Updating op u c (same_atom m.own)
      used = upd_same nat_eq numbers (upd nat_eq s.uses c (Owning (name_of u) (s.references + 1))) (s.references + 1) (Updating op u c (same_atom m.own))

      go : (b : Bool) → every m (same_atom m.own) ≡ b → Turned m op (and_then (begin m c op u s) (λ v. cond b (finish m v.references op u c v) (becomes v)))
      go true all = Answered (staged ((begin m c op u s).state.stages) Closed) refl
      go false some = Began u (s.references + 1) (staged s.stages (Changing (s.references + 1))) refl (ap (is_complete m) used ∙ some)

  -- all answers to the request for the lock are in, or not
  locks_go : (c : ℕ) (u : Update) (lead : Node) (st : Node → Status) (s : State) → s.stages op ≡ Asking c → s.uses c ≡ Locking op u lead st → Turned m op (locks_in m c (Locking op u lead st) s)
  locks_go c u lead st s stage used = go (all_granted m st) (none_missing m st) refl
    where
      go : (b d : Bool) → none_missing m st ≡ d
          → Turned m op (cond b (and_then (begin m c op u s) (λ v. replies_in m v.references (v.uses v.references) v)) (cond d (give_up m c op u st s) (becomes s)))
      go true d _ = begins c u s
      go false true _ = gives_up c u st s
      go false false missing = Asks c stage (ap (is_complete m) used ∙ missing)

  -- behind a turn that reports nothing
  asked_go : (c : ℕ) (u : Update) (lead : Node) (st : Node → Status) (s : State) → s.stages op ≡ Asking c → Turned m op (and_then (ask m (λ _. true) c op u lead st s) (λ v. locks_in m c (v.uses c) v))
  asked_go c u lead st s stage = subst (λ x. Turned m op (locks_in m c x (ask m (λ _. true) c op u lead st s).state)) (sym used)
      (locks_go c u lead (with_asked m (λ _. true) st (would_grant m s (name_of u))) (ask m (λ _. true) c op u lead st s).state stage used)
    where
      used : (ask m (λ _. true) c op u lead st s).state.uses c ≡ Locking op u lead (with_asked m (λ _. true) st (would_grant m s (name_of u)))
      used = upd_same nat_eq numbers s.uses c (Locking op u lead (with_asked m (λ _. true) st (would_grant m s (name_of u))))

  pub goes : (c : ℕ) (u : Update) (lead : Node) (st : Node → Status) (s : State) → s.stages op ≡ Asking c → none_missing m st ≡ true → Turned m op (go_on m c (Locking op u lead st) s)
  goes c u lead st s stage none =
      subst (λ b. Turned m op (cond b (cond (does_wait (after_round (round_of lead st) (none_denied m st))) (give_up m c op u st s) (and_then (ask m (λ _. true) c op u lead st s) (λ v. locks_in m c (v.uses c) v))) (becomes s)))
      (sym none) (go (does_wait (after_round (round_of lead st) (none_denied m st))))
    where
      go : (d : Bool) → Turned m op (cond d (give_up m c op u st s) (and_then (ask m (λ _. true) c op u lead st s) (λ v. locks_in m c (v.uses c) v)))
      go true = gives_up c u st s
      go false = asked_go c u lead st s stage

  asking_goes : (c : ℕ) (used : Use) (s : State) → s.stages op ≡ Asking c → IsLockingOf op used → is_complete m used ≡ true → Turned m op (go_on m c used s)
  asking_goes c (Locking other u lead st) s stage same ready = subst (λ o. Turned m op (go_on m c (Locking o u lead st) s)) (sym same) (goes c u lead st s stage ready)
  asking_goes c Fresh s stage same ready = absurd same
  asking_goes c Spent s stage same ready = absurd same
  asking_goes c (Owning name n) s stage same ready = absurd same
  asking_goes c (Updating other u lock replied) s stage same ready = absurd same

  changing_goes : (n : ℕ) (used : Use) (s : State) → IsUpdatingOf op used → is_complete m used ≡ true → Turned m op (replies_in m n used s)
  changing_goes n (Updating other u lock replied) s same ready = subst (λ o. Turned m op (replies_in m n (Updating o u lock replied) s)) (sym same) (replies_go n u lock replied s ready)
  changing_goes n Fresh s same ready = absurd same
  changing_goes n Spent s same ready = absurd same
  changing_goes n (Owning name k) s same ready = absurd same
  changing_goes n (Locking other u lead st) s same ready = absurd same

  tried_goes : (stage : Stage) (s : State) → s.stages op ≡ stage → HasReference op stage s.uses → is_ready m stage s ≡ true → Turned m op (tried_again stage m op s)
  tried_goes (Asking c) s is has ready = asking_goes c (s.uses c) s is has ready
  tried_goes (Changing n) s is has ready = changing_goes n (s.uses n) s has ready
  tried_goes (Waiting u) s is has ready = absurd (cc ready)
  tried_goes Closed s is has ready = absurd (cc ready)

  acted_goes : (whole : Nodes) (ports : ℕ) (s : State) (t : NodeTurn) → Linked s → is_ready m (s.stages op) s ≡ true → acted whole m ports (Retry op) s ≡ Ok t → Turned m op t
  acted_goes whole ports s t linked ready is = go (nat_lt op.port ports) (waits m (s.stages op) s) is
    where
      go : (b d : Bool) → Makes (cond b (cond d (Ok (tried_again (s.stages op) m op s)) (Err NotWaiting)) (Err NoSuchPlace)) t → Turned m op t
      go false d e = absurd (cc)
      go true false e = absurd (cc)
      go true true e = subst (Turned m op) (ok_is e) (tried_goes (s.stages op) s refl (linked.links.asked op) ready)

-- ---- an event

pub retry_is : {i : ℕ} {op : OpId} {d : Event Action} → ◌≡◌ {A = LosingEvent Action} (Step (Do i (Retry op))) (Step d) → d ≡ Do i (Retry op)
retry_is e = cc

pub no_loss : {d : Event Action} {j : ℕ} {keep : ℕ → ℕ} → ◌≡◌ {A = LosingEvent Action} (Step d) (Lose j keep) → ⊥
no_loss e = absurd (cc)

pub own_given : (given : Input Message Action) (action : Action) → Own action ≡ noted given → given ≡ Own action
own_given (Taken p x) action e = absurd (cc e)
own_given (Own other) action e = let same : action ≡ other = cc e in ap Own (sym same)

module _ (config : Config) (es : List (LosingEvent Action)) (w v : LosingFrameWorld) (i : ℕ) (op : OpId) (l : LosingReaches config es w) (ready : is_ready_at config w i op ≡ true) where
  abbrev s : State
  s = (w.world.node i).state

  module _ (h : Happened (losing_machine_of config) (bare w).world (Do i (Retry op)) (bare v).world) where
    all : Changes (Do i (Retry op)) h.turn (bare w).world (bare v).world
    all = changes (losing_machine_of config) (bare w).world (bare v).world (Do i (Retry op)) h

    module _ (t : NodeTurn) (same : h.turn ≡ mapped_turn Sent (place_turn config t)) (lost : t.state.lost ≡ (w.world.node i).state.lost)
        (went : Turned (live_nodes (nodes_at config i) (w.world.node i).state) op t) where
      state_is : (v.world.node i).state ≡ t.state
      state_is = all.state ∙ ap (λ (z : Turn State (Noticed Message) Report). z.state) same

      report_is : h.turn.reported ≡ t.reported
      report_is = ap (λ (z : Turn State (Noticed Message) Report). z.reported) same

      reported_is : v.world.reported ≡ w.world.reported ++ (i, t.reported) ∷ []
      reported_is = all.reported ∙ ap (λ r. w.world.reported ++ (i, r) ∷ []) report_is

      -- it is not ready now
      waits_now : (stage : Stage) → t.state.stages op ≡ stage → is_ready (live_nodes (nodes_at config i) (w.world.node i).state) stage t.state ≡ false → is_ready_at config v i op ≡ false
      waits_now stage at none =
          subst (λ (z : State). is_ready (live_nodes (nodes_at config i) z) (z.stages op) z ≡ false) (sym state_is)
          (subst (λ m. is_ready m (t.state.stages op) t.state ≡ false) (live_same (nodes_at config i) (w.world.node i).state t.state lost)
          (subst (λ z. is_ready (live_nodes (nodes_at config i) (w.world.node i).state) z t.state ≡ false) (sym at) none))

      stage_now : (stage : Stage) → t.state.stages op ≡ stage → (v.world.node i).state.stages op ≡ stage
      stage_now stage at = ap (λ (z : State). z.stages op) state_is ∙ at

      goes_so : WentOn (live_nodes (nodes_at config i) (w.world.node i).state) op t.state t.reported → RetryGoesOn config w v i op
      goes_so (Answered closed gave) = IsAnswered
          (ap (λ ts. answers_by i ts op.port) reported_is ∙ (told_append (answer_by i op.port) w.world.reported ((i, t.reported) ∷ [])
          ∙ ap (λ xs. answers_by i w.world.reported op.port ++ xs) (append-nil (answer_by i op.port (i, t.reported))
          ∙ (λ k. cond (eq-eqb i i refl k) (answer_at op.port (gave k)) []) ∙ ap (λ b. cond b ((op.number, Given reply.Ok) ∷ []) []) (eq-eqb op.port op.port refl))))
          (stage_now Closed closed)
      goes_so (Began u n stage began missing) = HasBegun u n
          (ap entries reported_is ∙ (entries_append w.world.reported ((i, t.reported) ∷ []) ∙ (λ k. entries w.world.reported ++ (entry_of i (began k) ++ []))))
          (stage_now (Changing n) stage) (waits_now (Changing n) stage missing)
      goes_so (Asks c stage missing) = AsksOn c (stage_now (Asking c) stage) (waits_now (Asking c) stage missing)
      goes_so (Denied u stage) = GaveUp u (stage_now (Waiting u) stage)

      gone_on : RetryGoesOn config w v i op
      gone_on = goes_so went

    by_made : LossyMakes config i (w.world.node i).state h.input h.turn → RetryGoesOn config w v i op
    by_made (Steps given u is made same) =
        let own : given ≡ Own (Retry op) = own_given given (Retry op) (some_is h.given ∙ is) in
        let made_own : node_step config i (w.world.node i).state (Own (Retry op)) ≡ Some u = subst (λ z. node_step config i (w.world.node i).state z ≡ Some u) own made in
        let t = did_so config i (w.world.node i).state (Retry op) u made_own in
        gone_on t.0 (same ∙ ap (mapped_turn Sent) t.2)
        (ap (λ (z : Turn State Message Report). z.state.lost) (sym t.2) ∙ step_sees_none config i (w.world.node i).state (Own (Retry op)) u made_own)
        (acted_goes (live_nodes (nodes_at config i) (w.world.node i).state) op (nodes_at config i) (ports_at config i) (w.world.node i).state t.0 (all_linked config es w l i) ready t.1)
    by_made (Sees p is not_yet same) = absurd (cc (some_is h.given ∙ is))

    goes_by : RetryGoesOn config w v i op
    goes_by = by_made (makes config i (w.world.node i).state h.input h.turn h.made)

  pub goes_on : Leaves config w (Step (Do i (Retry op))) v → RetryGoesOn config w v i op
  goes_on happens_ = go (passed config w v (Step (Do i (Retry op))) happens_)
    where
      go : Passed config (bare w) (bare v) (Step (Do i (Retry op))) → RetryGoesOn config w v i op
      go (Went d is alive h same) = goes_by (subst (λ z. Happened (losing_machine_of config) (bare w).world z (bare v).world) (retry_is is) h)
      go (Died j keep is there alive cut gone) = absurd (no_loss is)

-- ---- it can be tried again

pub ready_waits : (m : Nodes) (stage : Stage) (s : State) → is_ready m stage s ≡ true → (waits m stage s ≡ true) × (is_open stage ≡ true)
ready_waits m (Asking c) s ready = (ready, refl)
ready_waits m (Changing n) s ready = (ready, refl)
ready_waits m (Waiting u) s ready = absurd (cc ready)
ready_waits m Closed s ready = absurd (cc ready)

module _ (config : Config) (es : List (LosingEvent Action)) (w : LosingFrameWorld) (i : ℕ) (op : OpId) (l : LosingReaches config es w) (here : IsHere config i) (alive : w.gone i ≡ false)
    (room : (w.world.node i).clock + 1 ≤ CLOCK_LIMIT) (ready : is_ready_at config w i op ≡ true) where
  abbrev before : State
  before = (w.world.node i).state

  abbrev counting : Nodes
  counting = live_nodes (nodes_at config i) (w.world.node i).state

  can : (waits counting (before.stages op) before ≡ true) × (is_open (before.stages op) ≡ true)
  can = ready_waits counting (before.stages op) before ready

  port_there : nat_lt op.port (ports_at config i) ≡ true
  port_there = lt-ltb op.port (ports_at config i) ((all_count config es w i l).counts.within op can.1).1

  abbrev turn : Turn State (Noticed Message) Report
  turn = mapped_turn Sent (place_turn config (tried_again (before.stages op) counting op before))

  made_so : (losing_machine_of config).step i (w.world.node i).state (Own (Retry op)) ≡ Some turn
  made_so = λ k. option_map (mapped_turn Sent) (placed config (cond (port_there k) (cond (can.0 k) (Ok (tried_again (before.stages op) counting op before)) (Err NotWaiting)) (Err NoSuchPlace)))

  plain_so : happens (losing_machine_of config) (plain w.world) (Do i (Retry op)) ≡ Some (perform (plain w.world) i turn)
  plain_so = happens_so (losing_machine_of config) (plain w.world) (perform (plain w.world) i turn) (Do i (Retry op))
      (record { there = here; input = Own (Retry op); given = refl; turn = turn; made = made_so; leaves = refl })

  pub can_retry : (v : LosingFrameWorld) × Leaves config w (Step (Do i (Retry op))) v
  unfolding losing_happens
  can_retry =
      let all = map_is_some plain (happens (losing_frame_machine config) w.world (Do i (Retry op))) (perform (plain w.world) i turn)
      (plain_happens (losing_machine_of config) CLOCK_LIMIT w.world (Do i (Retry op))
      ∙ (ap (λ b. cond b (happens (losing_machine_of config) (plain w.world) (Do i (Retry op))) None) (le-leb ((w.world.node i).clock + 1) CLOCK_LIMIT room) ∙ plain_so)) in (
        record { world = all.0; gone = w.gone },
        ap (λ b. cond b None (option_map (λ u. record { world = u; gone = w.gone }) (happens (losing_frame_machine config) w.world (Do i (Retry op))))) alive
            ∙ ap (option_map (λ u. record { world = u; gone = w.gone })) all.1,
      )
