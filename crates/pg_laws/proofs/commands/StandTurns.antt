-- What each single turn makes of each command.
use Rattle.std.proofs.Common.{◌≡◌, ℕ, ◌+◌, ◌≤◌, Bool, true, false, cond, nat_eq}
use Rattle.std.proofs.Common.{Option, Some, None, refl, ap, sym, ◌∙◌, subst, arith}
use Rattle.std.proofs.lemmas.Bool.{eqb-true}
use Rattle.pg_step.specs.PgEnds.Numbers.{pid_of}
use Rattle.pg_step.specs.PgGroup.declared.update.Update.{Update}
use Rattle.pg_step.specs.PgGroup.Functions.{upd}
use Rattle.pg_step.proofs.PgGroup.Changes.{upd_at, upd_other, upd_by}
use Rattle.pg_step.specs.declared.command.OpId.{OpId}
use Rattle.pg_step.specs.declared.answer.Reply.TheVariants as reply
use Rattle.pg_step.specs.Nodes.{Node, Nodes}
use Rattle.pg_step.specs.State.{State, Status, Stage, Response}
use Rattle.pg_step.specs.State.Use.{Locking, Updating}
use Rattle.pg_step.specs.State.Stage.{Closed, Waiting, Asking, Changing}
use Rattle.pg_step.specs.State.Response.{Given}
use Rattle.pg_step.specs.Turns.{NodeTurn, Report, nothing, becomes, and_then, first_of}
use Rattle.pg_step.specs.Attempts.{same_op, new_attempt, ask, give_up, begin, finish, count_answer, count_ok, strange}
use Rattle.pg_step.specs.Peers.{lock_request, update_request, lock_freed}
use Rattle.pg_step.specs.Commands.{answer, open_command, make, count_command}
use Rattle.pg_laws.specs.History.{AnswerList, has_answer}
use Rattle.pg_laws.proofs.steps.Single.{AnyUpdate, OfSingle}
use Rattle.pg_laws.proofs.references.Fitting.{Keeps, NewOp, op_is, is_op, fit_at}
use Rattle.pg_laws.proofs.references.FittingTurns.{waits_closed, asks_closed}
use Rattle.pg_laws.proofs.references.FittingRuns.{fitting_singly}
use Rattle.pg_laws.proofs.commands.Stand.{Stands, Kept, begun_by, answered_by, chance, under_way}
use Rattle.pg_laws.proofs.commands.Stand.{may_begin, stands_still, stands_by, each_op, with_answer}
use Rattle.pg_laws.proofs.commands.Stand.{and_gave, has_it, has_still, had, one_each, open_is_in}

module _ (x : AnswerList) where
  -- a new command has no answer
  abbrev pub Unanswered : OpId → State → Type 0
  Unanswered op s = NewOp op s × (has_answer op x ≡ false)

  abbrev pub KeepsAll : State → NodeTurn → Type 0
  KeepsAll s t = Kept x s → Kept (and_gave x t.reported.gave) t.state × ((op : OpId) → Stands op x s t.state t.reported)

  -- and no update begins
  abbrev pub KeepsQuiet : State → NodeTurn → Type 0
  KeepsQuiet s t = KeepsAll s t × (t.reported.began ≡ None)

  changes_closed : {x : Stage} {n : ℕ} → x ≡ Changing n → x ≡ Closed → ⊥
  changes_closed a b = absurd (cc (sym a ∙ b))

  clash : true ≡ false → ⊥
  clash e = absurd (cc)

  -- ---- turns that leave the commands alone

  still_over : (s t : State) → t.stages ≡ s.stages → t.counts ≡ s.counts → Kept x s → (op : OpId) → has_answer op x ≡ true → (t.stages op ≡ Closed) × (op.number ≤ t.counts op.port)
  still_over s t stages counts kept op has =
      let o = kept.over op has in
      (ap (λ (f : OpId → Stage). f op) stages ∙ o.0, subst (λ (f : ℕ → ℕ). op.number ≤ f op.port) (sym counts) o.1)

  -- where nothing is answered
  same_has : (o : Option (OpId × Response)) → o ≡ None → (op : OpId) → has_answer op x ≡ true → has_answer op (and_gave x o) ≡ true
  same_has o gave op has = ap (λ z. has_answer op (and_gave x z)) gave ∙ has

  same_kept : (o : Option (OpId × Response)) → o ≡ None → (t : State) → Kept x t → Kept (and_gave x o) t
  same_kept o gave t kept = subst (λ z. Kept (and_gave x z) t) (sym gave) kept

  pub leaves_all : (s : State) (t : NodeTurn) → t.state.stages ≡ s.stages → t.state.counts ≡ s.counts → t.reported.gave ≡ None → t.reported.began ≡ None → t.reported.answered ≡ None → Keeps s t → KeepsAll s t
  leaves_all s t stages counts gave began answered fitting kept = (
    same_kept t.reported.gave gave t.state (record { fitting = fitting kept.fitting; over = still_over s t.state stages counts kept; single = kept.single }),
    λ op. stands_still op x s t.state t.reported (ap (λ (f : OpId → Stage). f op) stages) (ap (begun_by op) began) (ap (answered_by op) answered) (same_has t.reported.gave gave op),
  )

  quiet : (s : State) (t : NodeTurn) → t.state.stages ≡ s.stages → t.state.counts ≡ s.counts → t.reported.gave ≡ None → t.reported.began ≡ None → t.reported.answered ≡ None → Keeps s t → KeepsQuiet s t
  quiet s t stages counts gave began answered fitting = (leaves_all s t stages counts gave began answered fitting, began)

  -- ---- one turn after another

  turns_both : (s : State) (t : NodeTurn) (next : State → NodeTurn) (began : (op : OpId) → begun_by op (and_then t next).reported.began ≡ begun_by op t.reported.began + begun_by op (next t.state).reported.began)
      → ((op : OpId) → answered_by op (and_then t next).reported.answered ≡ answered_by op t.reported.answered + answered_by op (next t.state).reported.answered)
      → t.reported.gave ≡ None → KeepsAll s t → KeepsAll t.state (next t.state) → KeepsAll s (and_then t next)
  turns_both s t next began answered silent first later kept =
      let a = first kept in
      let b = later (subst (λ o. Kept (and_gave x o) t.state) silent a.0) in
      let y = and_gave x (next t.state).reported.gave in
      let gave : and_gave x (and_then t next).reported.gave ≡ y = ap (λ o. and_gave x (first_of o (next t.state).reported.gave)) silent in (
        subst (λ z. Kept z (next t.state).state) (sym gave) b.0,
        λ op.
            let spent : begun_by op t.reported.began + chance op x t.state ≤ chance op x s = subst (λ o. begun_by op t.reported.began + chance op (and_gave x o) t.state ≤ chance op x s) silent (a.1 op).spends in
            let spent_later : begun_by op (next t.state).reported.began + chance op y (next t.state).state ≤ chance op x t.state = (b.1 op).spends in
            let balance : under_way (t.state.stages op) + answered_by op t.reported.answered ≡ under_way (s.stages op) + begun_by op t.reported.began = (a.1 op).balances in
            let balance_later : under_way ((next t.state).state.stages op) + answered_by op (next t.state).reported.answered ≡ under_way (t.state.stages op) + begun_by op (next t.state).reported.began = (b.1 op).balances in
            record {
              spends = subst (λ z. begun_by op (and_then t next).reported.began + chance op z (next t.state).state ≤ chance op x s) (sym gave)
                  (subst (λ n. n + chance op y (next t.state).state ≤ chance op x s) (sym (began op)) (omega arith));
              balances = subst (λ n. under_way ((next t.state).state.stages op) + n ≡ under_way (s.stages op) + begun_by op (and_then t next).reported.began) (sym (answered op))
                  (subst (λ n. under_way ((next t.state).state.stages op) + (answered_by op t.reported.answered + answered_by op (next t.state).reported.answered) ≡ under_way (s.stages op) + n) (sym (began op)) (omega arith));
            },
      )

  none_begun : (op : OpId) (o later : Option (OpId × Update)) → o ≡ None → begun_by op (first_of o later) ≡ begun_by op o + begun_by op later
  none_begun op None later e = let zero : 0 + begun_by op later ≡ begun_by op later = omega arith in sym zero
  none_begun op (Some x) later e = absurd (cc)

  begun_first : (op : OpId) (o later : Option (OpId × Update)) → later ≡ None → begun_by op (first_of o later) ≡ begun_by op o + begun_by op later
  begun_first op None None e = refl
  begun_first op (Some x) None e = let same : begun_by op (Some x) ≡ begun_by op (Some x) + 0 = omega arith in same
  begun_first op o (Some x) e = absurd (cc)

  none_answered : (op : OpId) (o later : Option OpId) → o ≡ None → answered_by op (first_of o later) ≡ answered_by op o + answered_by op later
  none_answered op None later e = let zero : 0 + answered_by op later ≡ answered_by op later = omega arith in sym zero
  none_answered op (Some x) later e = absurd (cc)

  before_all : (s : State) (t : NodeTurn) (next : State → NodeTurn) → t.reported ≡ nothing → KeepsQuiet s t → KeepsAll t.state (next t.state) → KeepsAll s (and_then t next)
  before_all s t next reported first later = turns_both s t next (λ op. none_begun op t.reported.began (next t.state).reported.began first.1)
      (λ op. none_answered op t.reported.answered (next t.state).reported.answered (ap (λ (z : Report). z.answered) reported)) (ap (λ (z : Report). z.gave) reported) first.0 later

  behind_all : (s : State) (t : NodeTurn) (next : State → NodeTurn) → (t.reported.answered ≡ None) × (t.reported.gave ≡ None) → KeepsAll s t → KeepsQuiet t.state (next t.state) → KeepsAll s (and_then t next)
  behind_all s t next none first later = turns_both s t next (λ op. begun_first op t.reported.began (next t.state).reported.began later.1)
      (λ op. none_answered op t.reported.answered (next t.state).reported.answered none.0) none.1 first later.0

  -- ---- turns that answer

  answer_keeps : (op : OpId) (r : Response) (s : State) (t : NodeTurn) → t.state.stages ≡ s.stages → t.state.counts ≡ s.counts → t.reported.gave ≡ Some (op, r)
      → t.reported.began ≡ None → t.reported.answered ≡ None → Unanswered op s → Keeps s t → KeepsQuiet s t
  answer_keeps op r s t stages counts gave began answered new fitting =
      let y = and_gave x t.reported.gave in
      let answers : y ≡ with_answer x op r = ap (and_gave x) gave in (
        λ kept. (
          record {
            fitting = fitting kept.fitting;
            over = each_op (λ other. has_answer other y ≡ true → (t.state.stages other ≡ Closed) × (other.number ≤ t.state.counts other.port)) op
                (λ _. (ap (λ (f : OpId → Stage). f op) stages ∙ new.0.0, subst (λ (f : ℕ → ℕ). op.number ≤ f op.port) (sym counts) new.0.1))
                (λ other apart _ has.
                let o = kept.over other (had op r x y answers other apart has) in
                (ap (λ (f : OpId → Stage). f other) stages ∙ o.0, subst (λ (f : ℕ → ℕ). other.number ≤ f other.port) (sym counts) o.1));
            single = one_each op r x y answers (λ has. clash (sym has ∙ new.1)) kept.single;
          },
          λ other. stands_still other x s t.state t.reported (ap (λ (f : OpId → Stage). f other) stages) (ap (begun_by other) began) (ap (answered_by other) answered) (has_still op r x y answers other),
        ),
        began,
      )

  -- ---- turns of one command

  -- a command that has no answer comes to another stage
  over_still : (s t : State) (op : OpId) (new : Stage) → t.stages ≡ upd same_op s.stages op new → t.counts ≡ s.counts → (has_answer op x ≡ true → ⊥) → Kept x s
      → (other : OpId) → has_answer other x ≡ true → (t.stages other ≡ Closed) × (other.number ≤ t.counts other.port)
  over_still s t op new stages counts none kept other has =
      let o = kept.over other has in (
        ap (λ (f : OpId → Stage). f other) stages
            ∙ upd_by same_op s.stages op (λ z. z ≡ Closed) new other (λ same. absurd (none (subst (λ z. has_answer z x ≡ true) (sym (op_is op other same)) has))) (λ _. o.0),
        subst (λ (f : ℕ → ℕ). other.number ≤ f other.port) (sym counts) o.1,
      )

  none_of : (s : State) → Kept x s → (op : OpId) → (s.stages op ≡ Closed → ⊥) → has_answer op x ≡ true → ⊥
  none_of s kept op open_ has = open_ (kept.over op has).0

  -- the stage of one command changes, and nothing is begun or answered
  restaged : (s : State) (t : NodeTurn) (op : OpId) (old new : Stage) → s.stages op ≡ old → t.state.stages ≡ upd same_op s.stages op new → t.state.counts ≡ s.counts → t.reported.gave ≡ None
      → t.reported.began ≡ None → t.reported.answered ≡ None → (has_answer op x ≡ true → ⊥)
      → 0 + may_begin (has_answer op x) new ≤ may_begin (has_answer op x) old → under_way new + 0 ≡ under_way old + 0 → Kept x s → Keeps s t
      → Kept (and_gave x t.reported.gave) t.state × ((other : OpId) → Stands other x s t.state t.reported)
  restaged s t op old new was stages counts gave began answered none chances weights kept fitting = (
    same_kept t.reported.gave gave t.state (record { fitting = fitting kept.fitting; over = over_still s t.state op new stages counts none kept; single = kept.single }),
    each_op (λ other. Stands other x s t.state t.reported) op
        (stands_by op x s t.state t.reported old new 0 0 was (ap (λ (f : OpId → Stage). f op) stages ∙ upd_at same_op s.stages op new (is_op op)) (ap (begun_by op) began) (ap (answered_by op) answered)
        (subst (λ o. 0 + may_begin (has_answer op (and_gave x o)) new ≤ may_begin (has_answer op x) old) (sym gave) chances) weights)
        (λ other apart _. stands_still other x s t.state t.reported (ap (λ (f : OpId → Stage). f other) stages ∙ upd_other same_op s.stages op new other apart)
        (ap (begun_by other) began) (ap (answered_by other) answered) (same_has t.reported.gave gave other)),
  )

  opened_all : (op : OpId) (u : Update) (s : State) → Unanswered op s → Keeps s (open_command op u s) → KeepsQuiet s (open_command op u s)
  opened_all op u s new fitting = (
    λ kept. restaged s (open_command op u s) op Closed (Waiting u) new.0.0 refl refl refl refl refl (λ has. clash (sym has ∙ new.1))
        (subst (λ b. 0 + 1 ≤ cond b 0 1) (sym new.1) (omega arith)) refl kept fitting,
    refl,
  )

  attempted_all : (lead : Node) (op : OpId) (u : Update) (s : State) → s.stages op ≡ Waiting u → Keeps s (new_attempt lead op u s) → KeepsQuiet s (new_attempt lead op u s)
  attempted_all lead op u s waits fitting = (
    λ kept. restaged s (new_attempt lead op u s) op (Waiting u) (Asking (s.references + 1)) waits refl refl refl refl refl
        (none_of s kept op (waits_closed waits)) (omega arith) refl kept fitting,
    refl,
  )

  given_up_all : (m : Nodes) (c : ℕ) (op : OpId) (u : Update) (lead : Node) (st : Node → Status) (s : State) → s.uses c ≡ Locking op u lead st → Keeps s (give_up m c op u st s) → KeepsQuiet s (give_up m c op u st s)
  given_up_all m c op u lead st s is fitting = (
    λ kept.
        let asks : s.stages op ≡ Asking c = fit_at s kept.fitting c (Locking op u lead st) is in
        restaged s (give_up m c op u st s) op (Asking c) (Waiting u) asks refl refl refl refl refl (none_of s kept op (asks_closed asks)) (omega arith) refl kept fitting,
    refl,
  )

  abbrev cond_one : Bool → ℕ
  cond_one b = cond b 1 0

  -- a command is itself, and not another, among those that begin or are answered
  one_is : (op : OpId) → ◌≡◌ {A = ℕ} (cond (same_op op op) 1 0) 1
  one_is op = ap cond_one (is_op op)

  none_is : (op other : OpId) → same_op other op ≡ false → ◌≡◌ {A = ℕ} (cond (same_op other op) 1 0) 0
  none_is op other apart = ap cond_one apart

  begun_all : (m : Nodes) (c : ℕ) (op : OpId) (u : Update) (lead : Node) (st : Node → Status) (s : State) → s.uses c ≡ Locking op u lead st → Keeps s (begin m c op u s) → KeepsAll s (begin m c op u s)
  begun_all m c op u lead st s is fitting kept =
      let asks : s.stages op ≡ Asking c = fit_at s kept.fitting c (Locking op u lead st) is in
      let t = begin m c op u s in
      let new = Changing (s.references + 1) in (
        record { fitting = fitting kept.fitting; over = over_still s t.state op new refl refl (none_of s kept op (asks_closed asks)) kept; single = kept.single },
        each_op (λ other. Stands other x s t.state t.reported) op
            (stands_by op x s t.state t.reported (Asking c) new 1 0 asks (upd_at same_op s.stages op new (is_op op)) (one_is op) refl (omega arith) refl)
            (λ other apart back. stands_still other x s t.state t.reported (upd_other same_op s.stages op new other apart) (none_is op other back) refl (λ has. has)),
      )

  finished_all : (m : Nodes) (n : ℕ) (op : OpId) (u : Update) (c : ℕ) (replied : Node → Bool) (s : State) → s.uses n ≡ Updating op u c replied → Keeps s (finish m n op u c s) → KeepsQuiet s (finish m n op u c s)
  finished_all m n op u c replied s is fitting = (
    λ kept.
        let changes : s.stages op ≡ Changing n = (fit_at s kept.fitting n (Updating op u c replied) is).0 in
        let t = finish m n op u c s in
        let r = Given reply.Ok in
        let y = and_gave x t.reported.gave in
        let closed : t.state.stages op ≡ Closed = upd_at same_op s.stages op Closed (is_op op) in (
          record {
            fitting = fitting kept.fitting;
            over = each_op (λ other. has_answer other y ≡ true → (t.state.stages other ≡ Closed) × (other.number ≤ s.counts other.port)) op
                (λ _. (closed, open_is_in s kept.fitting op (changes_closed changes)))
                (λ other apart _ has.
                let o = kept.over other (had op r x y refl other apart has) in
                (upd_other same_op s.stages op Closed other apart ∙ o.0, o.1));
            single = one_each op r x y refl (none_of s kept op (changes_closed changes)) kept.single;
          },
          each_op (λ other. Stands other x s t.state t.reported) op
              (stands_by op x s t.state t.reported (Changing n) Closed 0 1 changes closed refl (one_is op)
              (subst (λ b. 0 + cond b 0 1 ≤ 0) (sym (has_it op r x y refl)) (omega arith)) refl)
              (λ other apart back. stands_still other x s t.state t.reported (upd_other same_op s.stages op Closed other apart) refl (none_is op other back) (has_still op r x y refl other)),
        ),
    refl,
  )

  -- ---- all single turns

  counted_all : (port : ℕ) (s : State) → Keeps s (count_command port s) → KeepsQuiet s (count_command port s)
  counted_all port s fitting = (
    λ kept. (
      record {
        fitting = fitting kept.fitting;
        over = λ op has.
            let o = kept.over op has in (
              o.0,
              upd_by nat_eq s.counts port (λ n. op.number ≤ n) (s.counts port + 1) op.port
                  (λ same. let within : op.number ≤ s.counts port = subst (λ p. op.number ≤ s.counts p) (sym (eqb-true port op.port same)) o.1 in omega arith) (λ _. o.1),
            );
        single = kept.single;
      },
      λ op. stands_still op x s (count_command port s).state nothing refl refl refl (λ has. has),
    ),
    refl,
  )

  pub stands_singly : (m : Nodes) → OfSingle m Unanswered AnyUpdate KeepsQuiet KeepsAll
  stands_singly m = record {
    alone = λ s t first. first.0;
    before = before_all;
    behind = behind_all;
    stays = λ s. quiet s (becomes s) refl refl refl refl refl (λ fitting. fitting);
    counted = λ port s. counted_all port s ((fitting_singly m).counted port s);
    lasts = λ op pid s new. new;
    answered = λ op r s new. answer_keeps op r s (answer op r s) refl refl refl refl refl new ((fitting_singly m).answered op r s new.0);
    opened = λ op u s new _. opened_all op u s new ((fitting_singly m).opened op u s new.0 tt);
    made = λ op s new. answer_keeps op (Given (reply.Made (pid_of m.own (s.processes + 1)))) s (make m op s) refl refl refl refl refl new ((fitting_singly m).made op s new.0);
    attempted = λ lead op u s waits. attempted_all lead op u s waits ((fitting_singly m).attempted lead op u s waits);
    asked = λ who c op u lead st s is. quiet s (ask m who c op u lead st s) refl refl refl refl refl ((fitting_singly m).asked who c op u lead st s is);
    given_up = λ c op u lead st s is none. given_up_all m c op u lead st s is ((fitting_singly m).given_up c op u lead st s is none);
    begun = λ c op u lead st s is all. begun_all m c op u lead st s is ((fitting_singly m).begun c op u lead st s is all);
    finished = λ n op u c replied s is all. finished_all m n op u c replied s is ((fitting_singly m).finished n op u c replied s is all);
    heard = λ c op u lead st p status s is waits. quiet s (count_answer c op u lead st p status s) refl refl refl refl refl ((fitting_singly m).heard c op u lead st p status s is waits);
    confirmed = λ n op u c replied p s is new. quiet s (count_ok n op u c replied p s) refl refl refl refl refl ((fitting_singly m).confirmed n op u c replied p s is new);
    odd = λ what s. quiet s (strange what s) refl refl refl refl refl (λ fitting. fitting);
    requested = λ p reference name s. quiet s (lock_request m p reference name s) refl refl refl refl refl ((fitting_singly m).requested p reference name s);
    updated = λ p reference u s. leaves_all s (update_request p reference u s) refl refl refl refl refl ((fitting_singly m).updated p reference u s);
    freed = λ name reference s. quiet s (lock_freed name reference s) refl refl refl refl refl ((fitting_singly m).freed name reference s);
  }
