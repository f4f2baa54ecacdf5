-- What a turn makes of a command: whether it may begin its update still, and what was begun and answered of it.
use Rattle.std.proofs.Common.{◌≡◌, ◌⊎◌, inl, inr, ℕ, ◌+◌, ◌<◌, ◌≤◌, Bool, true, false, ◌&&◌, ◌||◌, cond, nat_eq}
use Rattle.std.proofs.Common.{List, [], ◌∷◌, ◌++◌, Option, Some, None, refl, ap, sym, ◌∙◌, subst, arith}
use Rattle.std.specs.List.{list_any, count_by}
use Rattle.std.proofs.lemmas.Bool.{cases_lt, eq-eqb, eqb-true}
use Rattle.std.proofs.lemmas.List.Folds.{list_any-append}
use Rattle.std.proofs.lemmas.List.Sums.{sum_by-append}
use Rattle.pg_step.specs.PgGroup.declared.update.Update.{Update}
use Rattle.pg_step.specs.PgGroup.Functions.{upd}
use Rattle.pg_step.proofs.PgGroup.Changes.{upd_at, upd_by}
use Rattle.pg_step.specs.declared.command.OpId.{OpId}
use Rattle.pg_step.specs.State.{State, Stage, Response}
use Rattle.pg_step.specs.State.Stage.{Closed, Waiting, Asking, Changing}
use Rattle.pg_step.specs.Turns.{Report}
use Rattle.pg_step.specs.Attempts.{same_op}
use Rattle.pg_laws.specs.History.{AnswerList, is_op as tells_op, has_answer, answers_to}
use Rattle.pg_laws.specs.ReferencesFit.{ReferencesFit}
use Rattle.pg_laws.proofs.references.Fitting.{op_is}

-- ---- answers, with one more

abbrev pub with_answer : AnswerList → OpId → Response → AnswerList
with_answer answers op response = upd nat_eq answers op.port (answers op.port ++ (op.number, response) ∷ [])

-- the answers after a turn that gave this
abbrev pub and_gave : AnswerList → Option (OpId × Response) → AnswerList
and_gave answers None = answers
and_gave answers (Some (op, response)) = with_answer answers op response

-- ---- counts

-- 1 while the update of a command goes out
abbrev pub under_way : Stage → ℕ
under_way (Changing n) = 1
under_way _ = 0

-- 1 while a command may begin its update still, by whether it has an answer and by its stage
abbrev pub may_begin : Bool → Stage → ℕ
may_begin has (Changing n) = 0
may_begin has Closed = cond has 0 1
may_begin has _ = 1

abbrev pub chance : OpId → AnswerList → State → ℕ
chance op x s = may_begin (has_answer op x) (s.stages op)

abbrev pub begun_by : OpId → Option (OpId × Update) → ℕ
begun_by op None = 0
begun_by op (Some x) = cond (same_op op x.0) 1 0

abbrev pub answered_by : OpId → Option OpId → ℕ
answered_by op o = cond (tells_op op o) 1 0

-- From the state s, with these answers, a turn that told this came to the state t.
pub record Stands (op : OpId) (x : AnswerList) (s t : State) (reported : Report) : Type 0 where
  -- who begins has no chance more, and no chance comes
  pub spends : begun_by op reported.began + chance op (and_gave x reported.gave) t ≤ chance op x s
  -- what was begun is under way until it is answered
  pub balances : under_way (t.stages op) + answered_by op reported.answered ≡ under_way (s.stages op) + begun_by op reported.began

-- an answer leaves no greater chance
less_chance : (before later : Bool) (stage : Stage) → (before ≡ true → later ≡ true) → may_begin later stage ≤ may_begin before stage
less_chance true true stage has = omega arith
less_chance true false stage has = absurd (no (has refl))
  where
    no : false ≡ true → ⊥
    no e = absurd (cc)
less_chance false true Closed has = omega arith
less_chance false true (Waiting u) has = omega arith
less_chance false true (Asking c) has = omega arith
less_chance false true (Changing n) has = omega arith
less_chance false false stage has = omega arith

no_more : (n k : ℕ) → n ≤ k → 0 + n ≤ k
no_more n k within = omega arith

-- a command whose stage stays
pub stands_still : (op : OpId) (x : AnswerList) (s t : State) (reported : Report) → t.stages op ≡ s.stages op → begun_by op reported.began ≡ 0 → answered_by op reported.answered ≡ 0
    → (has_answer op x ≡ true → has_answer op (and_gave x reported.gave) ≡ true) → Stands op x s t reported
stands_still op x s t reported stage began answered has =
    let y = and_gave x reported.gave in
    record {
      spends = subst (λ n. n + chance op y t ≤ chance op x s) (sym began)
          (subst (λ v. 0 + may_begin (has_answer op y) v ≤ chance op x s) (sym stage)
          (no_more (may_begin (has_answer op y) (s.stages op)) (chance op x s) (less_chance (has_answer op x) (has_answer op y) (s.stages op) has)));
      balances = ap (λ v. under_way v + answered_by op reported.answered) stage ∙ ap (λ n. under_way (s.stages op) + n) (answered ∙ sym began);
    }

-- a command that comes from one stage to another
pub stands_by : (op : OpId) (x : AnswerList) (s t : State) (reported : Report) (old new : Stage) (began answered : ℕ) → s.stages op ≡ old → t.stages op ≡ new
    → begun_by op reported.began ≡ began → answered_by op reported.answered ≡ answered
    → began + may_begin (has_answer op (and_gave x reported.gave)) new ≤ may_begin (has_answer op x) old → under_way new + answered ≡ under_way old + began → Stands op x s t reported
stands_by op x s t reported old new began answered was is begins answers chances counts =
    let y = and_gave x reported.gave in
    record {
      spends = subst (λ n. n + chance op y t ≤ chance op x s) (sym begins)
          (subst (λ v. began + may_begin (has_answer op y) v ≤ chance op x s) (sym is)
          (subst (λ v. began + may_begin (has_answer op y) new ≤ may_begin (has_answer op x) v) (sym was) chances));
      balances = ap (λ v. under_way v + answered_by op reported.answered) is ∙ ap (λ n. under_way new + n) answers ∙ counts
          ∙ ap (λ v. under_way v + began) (sym was) ∙ ap (λ n. under_way (s.stages op) + n) (sym begins);
    }

-- one command, and any other
pub each_op : (Q : OpId → Type 0) (op : OpId) → Q op → ((other : OpId) → same_op op other ≡ false → same_op other op ≡ false → Q other) → (other : OpId) → Q other
each_op Q op own others other = go (same_op op other) (same_op other op) refl refl
  where
    go : (b d : Bool) → same_op op other ≡ b → same_op other op ≡ d → Q other
    go true d e f = subst Q (op_is op other e) own
    go false true e f = subst Q (sym (op_is other op f)) own
    go false false e f = others other e f

-- ---- answers

-- a command has one answer, or none
abbrev pub HasOne : OpId → AnswerList → Type 0
HasOne op x = answers_to op x ≤ cond (has_answer op x) 1 0

pub one_at_most : (op : OpId) (x : AnswerList) → HasOne op x → answers_to op x ≤ 1
one_at_most op x one = go (has_answer op x) one
  where
    go : (b : Bool) → answers_to op x ≤ cond b 1 0 → answers_to op x ≤ 1
    go true within = within
    go false within = omega (arith, within)

count_push : (test : ℕ × Response → Bool) (xs : List (ℕ × Response)) (x : ℕ × Response) → count_by test (xs ++ x ∷ []) ≡ count_by test xs + cond (test x) 1 0
count_push test xs x =
    let none : 0 + cond {A = ℕ} (test x) 1 0 ≡ cond (test x) 1 0 = omega arith in
    sum_by-append (λ a. cond (test a) 1 0) xs (x ∷ []) ∙ ap (λ n. count_by test xs + n) none

any_left : (x y : Bool) → x ≡ true → (x || y) ≡ true
any_left true y e = refl
any_left false y e = absurd (cc)

any_right : (x y : Bool) → y ≡ true → (x || y) ≡ true
any_right true y e = refl
any_right false y e = e

any_one : (x y : Bool) → (x || (y || false)) ≡ true → y ≡ false → x ≡ true
any_one true y e f = refl
any_one false true e f = absurd (cc)
any_one false false e f = absurd (cc)

module _ (op : OpId) (r : Response) (s t : AnswerList) (answers : t ≡ with_answer s op r) where
  has_by : (other : OpId) → has_answer other t ≡ list_any (λ a. nat_eq a.0 other.number) (with_answer s op r other.port)
  has_by other = ap (λ (f : AnswerList). list_any (λ a. nat_eq a.0 other.number) (f other.port)) answers

  pub has_it : has_answer op t ≡ true
  has_it =
      let more = s op.port ++ (op.number, r) ∷ [] in
      has_by op ∙ ap (list_any (λ a. nat_eq a.0 op.number)) (upd_at nat_eq s op.port more (eq-eqb op.port op.port refl))
      ∙ list_any-append (λ a. nat_eq a.0 op.number) (s op.port) ((op.number, r) ∷ [])
      ∙ any_right (has_answer op s) _ (any_left (nat_eq op.number op.number) false (eq-eqb op.number op.number refl))

  pub has_still : (other : OpId) → has_answer other s ≡ true → has_answer other t ≡ true
  has_still other has = has_by other ∙ upd_by nat_eq s op.port (λ xs. list_any test xs ≡ true) (s op.port ++ (op.number, r) ∷ []) other.port
      (λ same. list_any-append test (s op.port) ((op.number, r) ∷ [])
      ∙ any_left (list_any test (s op.port)) _ (ap (λ p. list_any test (s p)) (eqb-true op.port other.port same) ∙ has)) (λ _. has)
    where
      test : ℕ × Response → Bool
      test a = nat_eq a.0 other.number

  -- an answer that another command has, it had
  pub had : (other : OpId) → same_op op other ≡ false → has_answer other t ≡ true → has_answer other s ≡ true
  had other apart has = upd_by nat_eq s op.port (λ xs. list_any test xs ≡ true → list_any test (s other.port) ≡ true) (s op.port ++ (op.number, r) ∷ []) other.port
      (λ same any. ap (λ p. list_any test (s p)) (sym (eqb-true op.port other.port same))
      ∙ any_one (list_any test (s op.port)) (nat_eq op.number other.number)
      (sym (list_any-append test (s op.port) ((op.number, r) ∷ [])) ∙ any) (number same)) (λ _ any. any) (sym (has_by other) ∙ has)
    where
      test : ℕ × Response → Bool
      test a = nat_eq a.0 other.number

      number : nat_eq op.port other.port ≡ true → nat_eq op.number other.number ≡ false
      number same = sym (ap (λ b. b && nat_eq op.number other.number) same) ∙ apart

  counts_by : (other : OpId) → answers_to other t ≡ count_by (λ a. nat_eq a.0 other.number) (with_answer s op r other.port)
  counts_by other = ap (λ (f : AnswerList). count_by (λ a. nat_eq a.0 other.number) (f other.port)) answers

  counts_it : answers_to op t ≡ answers_to op s + 1
  counts_it = counts_by op ∙ ap (count_by test) (upd_at nat_eq s op.port (s op.port ++ (op.number, r) ∷ []) (eq-eqb op.port op.port refl))
      ∙ count_push test (s op.port) (op.number, r) ∙ ap (λ b. answers_to op s + cond b 1 0) (eq-eqb op.number op.number refl)
    where
      test : ℕ × Response → Bool
      test a = nat_eq a.0 op.number

  counts_still : (other : OpId) → same_op op other ≡ false → answers_to other t ≡ answers_to other s
  counts_still other apart = counts_by other ∙ upd_by nat_eq s op.port (λ xs. count_by test xs ≡ answers_to other s) (s op.port ++ (op.number, r) ∷ []) other.port
      (λ same. count_push test (s op.port) (op.number, r)
      ∙ ap (λ b. count_by test (s op.port) + cond b 1 0) (number same) ∙ no_zero (count_by test (s op.port))
      ∙ ap (λ p. count_by test (s p)) (eqb-true op.port other.port same)) (λ _. refl)
    where
      test : ℕ × Response → Bool
      test a = nat_eq a.0 other.number

      number : nat_eq op.port other.port ≡ true → nat_eq op.number other.number ≡ false
      number same = sym (ap (λ b. b && nat_eq op.number other.number) same) ∙ apart

      no_zero : (n : ℕ) → n + 0 ≡ n
      no_zero n = omega arith

  -- each command has one answer, or none, where the one that is answered had none
  pub one_each : (has_answer op s ≡ true → ⊥) → ((other : OpId) → HasOne other s) → (other : OpId) → HasOne other t
  one_each none all = each_op (λ other. HasOne other t) op own others
    where
      unanswered : (b : Bool) → (b ≡ true → ⊥) → answers_to op s ≤ cond b 1 0 → answers_to op s ≤ 0
      unanswered true never within = absurd (never refl)
      unanswered false never within = within

      own : HasOne op t
      own =
          let before : answers_to op s ≤ 0 = unanswered (has_answer op s) none (all op) in
          let later : answers_to op t ≡ answers_to op s + 1 = counts_it in
          subst (λ b. answers_to op t ≤ cond b 1 0) (sym has_it) (omega (arith, before, later))

      wider : (before later : Bool) (n : ℕ) → (before ≡ true → later ≡ true) → n ≤ cond before 1 0 → n ≤ cond later 1 0
      wider true later n has within = subst (λ b. n ≤ cond b 1 0) (sym (has refl)) within
      wider false true n has within = omega (arith, within)
      wider false false n has within = within

      others : (other : OpId) → same_op op other ≡ false → same_op other op ≡ false → HasOne other t
      others other apart _ = subst (λ n. n ≤ cond (has_answer other t) 1 0) (sym (counts_still other apart))
          (wider (has_answer other s) (has_answer other t) (answers_to other s) (has_still other) (all other))

-- ---- what is kept

pub record Kept (x : AnswerList) (s : State) : Type 0 where
  pub fitting : ReferencesFit s
  -- a command with an answer has come in, and is open no more
  pub over : (op : OpId) → has_answer op x ≡ true → (s.stages op ≡ Closed) × (op.number ≤ s.counts op.port)
  pub single : (op : OpId) → HasOne op x

-- a command that is open has come in
pub open_is_in : (s : State) → ReferencesFit s → (op : OpId) → (s.stages op ≡ Closed → ⊥) → op.number ≤ s.counts op.port
open_is_in s fitting op open_ = go (cases_lt (s.counts op.port) op.number)
  where
    go : (s.counts op.port < op.number) ⊎ (op.number ≤ s.counts op.port) → op.number ≤ s.counts op.port
    go (inl above) = absurd (open_ (fitting.closed op above))
    go (inr within) = within
