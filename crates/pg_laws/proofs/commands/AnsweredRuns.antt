-- What is answered ok in each run: each change that is answered behind its lock, and beside them only what needs none.
use Rattle.std.proofs.Common.{◌≡◌, ◌≢◌, ◌⊎◌, inl, inr, ℕ, ◌+◌, ◌<◌, Bool, true, false, cond, nat_eq}
use Rattle.std.proofs.Common.{List, [], ◌∷◌, ◌++◌, Option, Some, None, refl, ap, sym, ◌∙◌, subst, arith}
use Rattle.std.specs.List.{Contains}
use Rattle.std.proofs.lemmas.Bool.{cases_eq, eq-eqb, eqb-true, ne_eqb}
use Rattle.std.proofs.lemmas.List.{append_assoc, append-nil}
use Rattle.std.proofs.lemmas.List.Elements.{Contains-push, Contains-append_left, Contains-push_cases}
use Rattle.pg_step.proofs.PgGroup.Changes.{upd_at, upd_by}
use Rattle.pg_step.specs.declared.command.Command.{Command}
use Rattle.pg_step.specs.declared.command.OpId.{OpId}
use Rattle.pg_step.specs.declared.answer.Reply.TheVariants as reply
use Rattle.pg_step.specs.Machines.Machine.{Event, node_of, start_of}
use Rattle.pg_step.specs.Machines.Happened.{Happened}
use Rattle.pg_step.specs.Machines.Runs.{Leads}
use Rattle.pg_step.specs.Machines.Clocked.{plain}
use Rattle.pg_step.specs.State.{Response}
use Rattle.pg_step.specs.State.Response.{Given}
use Rattle.pg_step.specs.Turns.{Report}
use Rattle.pg_step.specs.Attempts.{same_op}
use Rattle.pg_step.specs.Step.{CLOCK_LIMIT, Action}
use Rattle.pg_step.specs.Config.{Config}
use Rattle.pg_step.specs.FrameMachine.{machine_of, FrameWorld}
use Rattle.pg_laws.specs.History.{AnswerList, answers_by, answered_count, command_at, IsAnsweredOk, ok_means_lock}
use Rattle.pg_step.proofs.Machines.Steps.{changes, happened}
use Rattle.pg_step.proofs.Machines.Plain.{plain_from_start}
use Rattle.pg_laws.specs.Reached.{TimedFrameWorld, Reaches}
use Rattle.pg_laws.proofs.references.Fitting.{op_is, is_op}
use Rattle.pg_laws.proofs.commands.Stand.{with_answer, and_gave, answered_by}
use Rattle.pg_laws.proofs.commands.StandRuns.{more_answered, own_answers, other_answers}
use Rattle.pg_laws.proofs.commands.Ports.{command_more, AllCounted, event_counted, command_came}
use Rattle.pg_laws.proofs.commands.Answered.{Answering, Silent, Behind, AtOnce, step_gives}

-- ---- one answer more

module _ (op : OpId) (r : Response) (s t : AnswerList) (answers : t ≡ with_answer s op r) where
  ok_it : r ≡ Given reply.Ok → IsAnsweredOk op t
  ok_it is = subst (λ (f : AnswerList). Contains (f op.port) (op.number, Given reply.Ok)) (sym answers)
      (subst (λ xs. Contains xs (op.number, Given reply.Ok)) (sym (upd_at nat_eq s op.port (s op.port ++ (op.number, r) ∷ []) (eq-eqb op.port op.port refl)))
      (subst (λ x. Contains (s op.port ++ (op.number, x) ∷ []) (op.number, Given reply.Ok)) (sym is) (Contains-push (s op.port) (op.number, Given reply.Ok))))

  ok_still : (other : OpId) → IsAnsweredOk other s → IsAnsweredOk other t
  ok_still other ok = subst (λ (f : AnswerList). Contains (f other.port) it) (sym answers)
      (upd_by nat_eq s op.port (λ xs. Contains xs it) (s op.port ++ (op.number, r) ∷ []) other.port
      (λ same. Contains-append_left (s op.port) ((op.number, r) ∷ []) it (subst (λ p. Contains (s p) it) (sym (eqb-true op.port other.port same)) ok)) (λ _. ok))
    where
      it : ℕ × Response
      it = (other.number, Given reply.Ok)

  -- who is answered ok was so before, or is answered so now
  ok_was : (other : OpId) → IsAnsweredOk other t → IsAnsweredOk other s ⊎ ((op ≡ other) × (r ≡ Given reply.Ok))
  ok_was other ok = upd_by nat_eq s op.port (λ xs. Contains xs it → IsAnsweredOk other s ⊎ ((op ≡ other) × (r ≡ Given reply.Ok))) (s op.port ++ (op.number, r) ∷ []) other.port
      (λ same has. go (eqb-true op.port other.port same) (Contains-push_cases (s op.port) (op.number, r) it has)) (λ _ has. inl has)
      (subst (λ (f : AnswerList). Contains (f other.port) it) answers ok)
    where
      it : ℕ × Response
      it = (other.number, Given reply.Ok)

      go : op.port ≡ other.port → Contains (s op.port) it ⊎ ((op.number, r) ≡ it) → IsAnsweredOk other s ⊎ ((op ≡ other) × (r ≡ Given reply.Ok))
      go port (inl has) = inl (subst (λ p. Contains (s p) it) port has)
      go port (inr now) =
          let number : op.number ≡ other.number = ap (λ x. x.0) now in
          let one : op ≡ other = λ i. record { port = port i; number = number i } in
          inr (one, ap (λ x. x.1) now)

-- ---- one event

-- the command came in, and needs no lock
abbrev pub NeedsNone : ℕ → List (Event Action) → OpId → Type 0
NeedsNone i es op = (c : Command) × (command_at i op es ≡ Some c) × (ok_means_lock c ≡ false)

-- the answers of node i, by what all nodes told
pub record OkIn (i : ℕ) (es : List (Event Action)) (reported : List (ℕ × Report)) : Type 0 where
  pub behind : (op : OpId) → 0 < answered_count i op reported → IsAnsweredOk op (answers_by i reported)
  pub only : (op : OpId) → IsAnsweredOk op (answers_by i reported) → (0 < answered_count i op reported) ⊎ NeedsNone i es op

none_more : (i : ℕ) (es fs : List (Event Action)) (op : OpId) → NeedsNone i es op → NeedsNone i (es ++ fs) op
none_more i es fs op needs = (needs.0, command_more i op needs.0 es fs needs.1, needs.2)

module _ (i j : ℕ) (es fs : List (Event Action)) (ts : List (ℕ × Report)) (reported : Report) (before : OkIn i es ts) where
  abbrev pub later : List (ℕ × Report)
  later = ts ++ (j, reported) ∷ []

  counts : (op : OpId) → answered_count i op later ≡ answered_count i op ts + cond (nat_eq j i) (answered_by op reported.answered) 0
  counts op = more_answered i j op ts reported

  or_later : (op : OpId) → (0 < answered_count i op ts) ⊎ NeedsNone i es op → (0 < answered_count i op later) ⊎ NeedsNone i (es ++ fs) op
  or_later op (inl some) =
      let more : answered_count i op later ≡ answered_count i op ts + cond (nat_eq j i) (answered_by op reported.answered) 0 = counts op in
      inl (omega (arith, some, more))
  or_later op (inr needs) = inr (none_more i es fs op needs)

  -- a command that is not answered now was answered before
  was_before : (op : OpId) → ◌≡◌ {A = ℕ} (cond (nat_eq j i) (answered_by op reported.answered) 0) 0 → 0 < answered_count i op later → 0 < answered_count i op ts
  was_before op none some =
      let more : answered_count i op later ≡ answered_count i op ts + cond (nat_eq j i) (answered_by op reported.answered) 0 = counts op in
      let no : cond (nat_eq j i) (answered_by op reported.answered) 0 ≡ 0 = none in
      omega (arith, some, more, no)

  -- the event is another node's
  pub elsewhere_ok : j ≢ i → OkIn i (es ++ fs) later
  elsewhere_ok other =
      let same = other_answers i j ts reported other in
      record {
        behind = λ op some. subst (IsAnsweredOk op) (sym same) (before.behind op (was_before op (ap (λ b. cond b (answered_by op reported.answered) 0) (ne_eqb j i other)) some));
        only = λ op ok. or_later op (before.only op (subst (IsAnsweredOk op) same ok));
      }

  module _ (own : j ≡ i) where
    abbrev s : AnswerList
    s = answers_by i ts

    abbrev t : AnswerList
    t = answers_by i later

    now_is : (o : Option (OpId × Response)) → reported.gave ≡ o → t ≡ and_gave s o
    now_is o gave = own_answers i j ts reported own ∙ ap (and_gave s) gave

    abbrev pub May : OpId → Response → Type 0
    May op r = r ≡ Given reply.Ok → NeedsNone i (es ++ fs) op

    here : (n : ℕ) → cond (nat_eq j i) n 0 ≡ n
    here n = ap (λ b. cond b n 0) (eq-eqb j i own)

    not_now : (op : OpId) → reported.answered ≡ None → ◌≡◌ {A = ℕ} (cond (nat_eq j i) (answered_by op reported.answered) 0) 0
    not_now op none = here (answered_by op reported.answered) ∙ ap (answered_by op) none

    pub own_ok : Answering May reported → OkIn i (es ++ fs) later
    own_ok (Silent gave none) =
        let same = now_is None gave in
        record {
          behind = λ op some. subst (IsAnsweredOk op) (sym same) (before.behind op (was_before op (not_now op none) some));
          only = λ op ok. or_later op (before.only op (subst (IsAnsweredOk op) same ok));
        }
    own_ok (AtOnce which r may gave none) = record {
      behind = λ op some. ok_still which r s t (now_is (Some (which, r)) gave) op (before.behind op (was_before op (not_now op none) some));
      only = λ op ok. go op (ok_was which r s t (now_is (Some (which, r)) gave) op ok);
    }
      where
        go : (op : OpId) → IsAnsweredOk op s ⊎ ((which ≡ op) × (r ≡ Given reply.Ok)) → (0 < answered_count i op later) ⊎ NeedsNone i (es ++ fs) op
        go op (inl was) = or_later op (before.only op was)
        go op (inr now) = inr (subst (NeedsNone i (es ++ fs)) now.0 (may now.1))
    own_ok (Behind which gave answered) = record {
      behind = λ op some. here_or_before op (same_op op which) refl some;
      only = λ op ok. go op (ok_was which (Given reply.Ok) s t (now_is (Some (which, Given reply.Ok)) gave) op ok);
    }
      where
        now : (op : OpId) (b : Bool) → same_op op which ≡ b → cond (nat_eq j i) (answered_by op reported.answered) 0 ≡ cond b 1 0
        now op b is = here (answered_by op reported.answered) ∙ ap (answered_by op) answered ∙ ap (λ x. cond x 1 0) is

        here_or_before : (op : OpId) (b : Bool) → same_op op which ≡ b → 0 < answered_count i op later → IsAnsweredOk op t
        here_or_before op true is some = subst (λ z. IsAnsweredOk z t) (sym (op_is op which is)) (ok_it which (Given reply.Ok) s t (now_is (Some (which, Given reply.Ok)) gave) refl)
        here_or_before op false is some = ok_still which (Given reply.Ok) s t (now_is (Some (which, Given reply.Ok)) gave) op (before.behind op (was_before op (now op false is) some))

        go : (op : OpId) → IsAnsweredOk op s ⊎ ((which ≡ op) × (Given reply.Ok ≡ Given reply.Ok)) → (0 < answered_count i op later) ⊎ NeedsNone i (es ++ fs) op
        go op (inl was) = or_later op (before.only op was)
        go op (inr same) =
            let more : answered_count i op later ≡ answered_count i op ts + cond (nat_eq j i) (answered_by op reported.answered) 0 = counts op in
            let one : cond (nat_eq j i) (answered_by op reported.answered) 0 ≡ 1 = now op true (ap (same_op op) same.0 ∙ is_op op) in
            inl (omega (arith, more, one))

-- ---- runs

pub record AllOk (es : List (Event Action)) (w : FrameWorld) : Type 0 where
  pub counts : AllCounted es w
  pub nodes : (i : ℕ) → OkIn i es w.reported

pub event_ok : (config : Config) (es : List (Event Action)) (w v : FrameWorld) (e : Event Action) → Happened (machine_of config) w e v → AllOk es w → AllOk (es ++ e ∷ []) v
event_ok config es w v e h all = record {
  counts = event_counted config es w v e h all.counts;
  nodes = λ j. subst (OkIn j (es ++ e ∷ [])) (sym (changes (machine_of config) w v e h).reported) (go j (cases_eq (node_of e) j));
}
  where
    by_node : (j : ℕ) → j ≡ node_of e → Answering (λ op r. r ≡ Given reply.Ok → NeedsNone j (es ++ e ∷ []) op) h.turn.reported
    by_node j own = subst (λ z. Answering (λ op r. r ≡ Given reply.Ok → NeedsNone z (es ++ e ∷ []) op) h.turn.reported) (sym own)
        (step_gives (λ op r. r ≡ Given reply.Ok → NeedsNone (node_of e) (es ++ e ∷ []) op) config (node_of e) (w.node (node_of e)) h.input h.turn h.made
        (λ port c r is needs ok. (c, command_came config es w v e h all.counts port c is, needs ok)))

    go : (j : ℕ) → (node_of e ≡ j) ⊎ (node_of e ≡ j → ⊥) → OkIn j (es ++ e ∷ []) (w.reported ++ (node_of e, h.turn.reported) ∷ [])
    go j (inl own) = own_ok j (node_of e) es (e ∷ []) w.reported h.turn.reported (all.nodes j) own (by_node j (sym own))
    go j (inr other) = elsewhere_ok j (node_of e) es (e ∷ []) w.reported h.turn.reported (all.nodes j) other

run_ok : (config : Config) (done es : List (Event Action)) (w v : FrameWorld) → Leads (machine_of config) w es v → AllOk done w → AllOk (done ++ es) v
run_ok config done [] w v l all = subst (λ es. AllOk es v) (sym (append-nil done)) (subst (AllOk done) l all)
run_ok config done (e ∷ es) w v l all = subst (λ fs. AllOk fs v) (append_assoc done (e ∷ []) es)
    (run_ok config (done ++ e ∷ []) es l.0 v l.2 (event_ok config done w l.0 e (happened (machine_of config) w l.0 e l.1) all))

pub start_ok : (config : Config) → AllOk [] (start_of (machine_of config))
start_ok config = record {
  counts = λ i port. refl;
  nodes = λ i. record { behind = λ op some. absurd (none some); only = λ op ok. absurd (none_within ok.0 ok.1) };
}
  where
    none : 0 < 0 → ⊥
    none some = absurd (omega (arith, some))

    none_within : (k : ℕ) → k < 0 → ⊥
    none_within k below = absurd (omega (arith, below))

-- ---- what that says

module _ (config : Config) (es : List (Event Action)) (w : TimedFrameWorld) (l : Reaches config es w) where
  ok_in : (i : ℕ) → OkIn i es (plain w).reported
  ok_in i = (run_ok config [] es (start_of (machine_of config)) (plain w) (plain_from_start (machine_of config) CLOCK_LIMIT es w l) (start_ok config)).nodes i

  pub behind_is_ok : (i : ℕ) (op : OpId) → 0 < answered_count i op (plain w).reported → IsAnsweredOk op (answers_by i (plain w).reported)
  behind_is_ok i op some = (ok_in i).behind op some

  pub ok_is_behind : (i : ℕ) (op : OpId) (c : Command) → command_at i op es ≡ Some c → ok_means_lock c ≡ true → IsAnsweredOk op (answers_by i (plain w).reported)
      → 0 < answered_count i op (plain w).reported
  ok_is_behind i op c is needs ok = go ((ok_in i).only op ok)
    where
      go : (0 < answered_count i op (plain w).reported) ⊎ NeedsNone i es op → 0 < answered_count i op (plain w).reported
      go (inl some) = some
      go (inr none) =
          let same : Some c ≡ Some none.0 = sym is ∙ none.1 in
          let one : c ≡ none.0 = cc in
          absurd (cc (sym needs ∙ ap ok_means_lock one ∙ none.2))
