-- Each command that came in is answered, or open.
use Rattle.std.proofs.Common.{◌≡◌, ◌≢◌, ◌⊎◌, inl, inr, ℕ, zero, suc, ◌+◌, ◌-◌, ◌<◌, ◌≤◌, Bool, true, false, ◌&&◌}
use Rattle.std.proofs.Common.{cond, nat_eq, nat_le, Option, Some, None, refl, ap, sym, ◌∙◌, subst, arith, add-one}
use Rattle.std.proofs.lemmas.Bool.{eq-eqb, ne_eqb, eqb-true, cases_eq}
use Rattle.pg_step.specs.PgGroup.declared.update.Update.{Update}
use Rattle.pg_step.specs.PgGroup.Functions.{upd}
use Rattle.pg_step.proofs.PgGroup.Changes.{upd_at, upd_other, upd_by}
use Rattle.pg_step.specs.declared.command.OpId.{OpId}
use Rattle.pg_step.specs.declared.answer.Reply.{Reply}
use Rattle.pg_step.specs.declared.answer.Reply.TheVariants as reply
use Rattle.pg_step.specs.declared.command.Command.{Command}
use Rattle.pg_step.specs.declared.command.Command.TheVariants as command
use Rattle.pg_step.specs.declared.command_fault.CommandFault.{CommandFault}
use Rattle.pg_step.specs.declared.command_fault.CommandFault.TheVariants.{Busy}
use Rattle.pg_step.specs.PgGroup.declared.update.Update.TheVariants as update
use Rattle.pg_step.specs.PgGroup.Value.{name_of}
use Rattle.pg_step.specs.Attempts.{same_op, new_attempt, ask, give_up, begin}
use Rattle.pg_step.specs.Attempts.{finish, count_answer, count_ok, strange, attempt}
use Rattle.pg_step.specs.Commands.{OPEN_LIMIT, answer, change, change_by, command_by, count_command}
use Rattle.pg_step.specs.Commands.{end_process, look, make, open_command, refused, undertake}
use Rattle.pg_step.specs.Peers.{lock_request, update_request, lock_freed}
use Rattle.pg_step.specs.State.Response.{Given, Read}
use Rattle.pg_step.specs.Nodes.{Nodes}
use Rattle.pg_step.specs.State.{State, Stage, Response}
use Rattle.pg_step.specs.State.Stage.{Closed, Waiting, Asking, Changing}
use Rattle.pg_step.specs.Turns.{NodeTurn, Report, and_then, becomes, first_of}
use Rattle.pg_laws.specs.Counted.{is_open, how_many, open_number, open_at, open_in}
use Rattle.pg_laws.specs.ReferencesFit.{ReferencesFit}
use Rattle.pg_laws.proofs.commands.Stand.{open_is_in}
use Rattle.pg_laws.proofs.references.Fitting.{op_is, is_op, is_asking, is_changing}
use Rattle.pg_laws.proofs.references.Fitting.{same_fitting, counted_keeps, opened_keeps}
use Rattle.pg_laws.proofs.references.FittingTurns.{attempted_keeps, relock, given_up_keeps}
use Rattle.pg_laws.proofs.references.FittingTurns.{confirmed_keeps, finished_keeps, begun_keeps}
use Rattle.pg_laws.proofs.steps.Single.{AnyUpdate, OfSingle, attempt_so}
use Rattle.pg_laws.proofs.commands.Answered.{NoCommand}

-- ---- sums

pub how_many_same : (f g : ℕ → Bool) (n : ℕ) → ((k : ℕ) → k ≤ n → f k ≡ g k) → how_many f n ≡ how_many g n
how_many_same f g zero same = refl
how_many_same f g (suc n) same =
    let rest : how_many f n ≡ how_many g n = how_many_same f g n (λ k below. same k (omega arith)) in
    ap (λ b. cond b 1 0 + how_many f n) (same (suc n) (omega arith)) ∙ ap (λ m. cond (g (suc n)) 1 0 + m) rest

below_last : (k n : ℕ) → k ≤ suc n → k ≢ suc n → k ≤ n
below_last k n high other = omega arith

-- one number passes another test
pub how_many_but : (f g : ℕ → Bool) (k n : ℕ) → 1 ≤ k → k ≤ n → ((j : ℕ) → j ≢ k → f j ≡ g j) → how_many g n + cond (f k) 1 0 ≡ how_many f n + cond (g k) 1 0
how_many_but f g k zero low high same = absurd (omega arith)
how_many_but f g k (suc n) low high same = go (cases_eq k (suc n)) (λ below. how_many_but f g k n low below same)
  where
    last_one : (a b m l c d : ℕ) → l ≡ m → c ≡ b → d ≡ a → a + m + c ≡ b + l + d
    last_one a b m l c d rest here there = omega arith

    one_more : (a b m l c d : ℕ) → m + c ≡ l + d → b ≡ a → a + m + c ≡ b + l + d
    one_more a b m l c d rest one = omega arith

    go : (k ≡ suc n) ⊎ (k ≡ suc n → ⊥) → (k ≤ n → how_many g n + cond (f k) 1 0 ≡ how_many f n + cond (g k) 1 0)
        → how_many g (suc n) + cond (f k) 1 0 ≡ how_many f (suc n) + cond (g k) 1 0
    go (inl last) before =
        last_one (cond (g (suc n)) 1 0) (cond (f (suc n)) 1 0) (how_many g n) (how_many f n) (cond (f k) 1 0) (cond (g k) 1 0)
        (how_many_same f g n (λ j below. same j (λ e. absurd (omega arith))))
        (ap (λ j. cond {A = ℕ} (f j) 1 0) last) (ap (λ j. cond {A = ℕ} (g j) 1 0) last)
    go (inr other) before =
        one_more (cond (g (suc n)) 1 0) (cond (f (suc n)) 1 0) (how_many g n) (how_many f n) (cond (f k) 1 0) (cond (g k) 1 0)
        (before (below_last k n high other)) (ap (λ b. cond {A = ℕ} b 1 0) (same (suc n) (λ e. other (sym e))))

-- ---- what a turn makes of the open commands

-- what an answer closes at a port
abbrev pub gave_at : ℕ → Option (OpId × Response) → ℕ
gave_at port None = 0
gave_at port (Some (op, r)) = cond (nat_eq op.port port) 1 0

-- so many are open at each port, and are answered, as were open before
abbrev pub Closes : State → State → Option (OpId × Response) → Type 0
Closes s t gave = (port : ℕ) → open_at port t + gave_at port gave ≡ open_at port s

-- what a node keeps of its commands: a command that is open has come in at one of its ports; and so many are open as it counts
pub record Counts (ports : ℕ) (s : State) : Type 0 where
  pub fitting : ReferencesFit s
  pub within : (op : OpId) → is_open (s.stages op) ≡ true → (1 ≤ op.number) × (op.port < ports)
  pub all : s.opened ≡ open_in ports s

none_more : (n : ℕ) → n + 0 ≡ n
none_more n = omega arith

zero_more : (n : ℕ) → 0 + n ≡ n
zero_more n = omega arith

less_one : (a b : ℕ) → a + 1 ≡ b + 1 → a ≡ b
less_one a b e = omega arith

-- ---- one stage changes

other_port : (op : OpId) (port number : ℕ) → op.port ≢ port → same_op op (record { port = port; number = number }) ≡ false
other_port op port number other = ap (λ b. b && nat_eq op.number number) (ne_eqb op.port port other)

and_false : (b : Bool) → (b && false) ≡ false
and_false true = refl
and_false false = refl

other_number : (op : OpId) (number : ℕ) → op.number ≢ number → same_op op (record { port = op.port; number = number }) ≡ false
other_number op number other = ap (λ b. nat_eq op.port op.port && b) (ne_eqb op.number number other) ∙ and_false (nat_eq op.port op.port)

module _ (s t : State) (op : OpId) (new : Stage) (counts : t.counts ≡ s.counts) (stages : t.stages ≡ upd same_op s.stages op new) where
  stage_at : (other : OpId) → same_op op other ≡ false → t.stages other ≡ s.stages other
  stage_at other differ = ap (λ (f : OpId → Stage). f other) stages ∙ upd_other same_op s.stages op new other differ

  stage_here : t.stages op ≡ new
  stage_here = ap (λ (f : OpId → Stage). f op) stages ∙ upd_at same_op s.stages op new (is_op op)

  pub other_ports : (port : ℕ) → op.port ≢ port → open_at port t ≡ open_at port s
  other_ports port other =
      ap (λ (f : ℕ → ℕ). how_many (open_number port t) (f port)) counts
      ∙ how_many_same (open_number port t) (open_number port s) (s.counts port) (λ k _. ap is_open (stage_at (record { port = port; number = k }) (other_port op port k other)))

  pub own_port : 1 ≤ op.number → op.number ≤ s.counts op.port
      → open_at op.port t + cond (is_open (s.stages op)) 1 0 ≡ open_at op.port s + cond (is_open new) 1 0
  own_port low high =
      ap (λ (f : ℕ → ℕ). how_many (open_number op.port t) (f op.port) + cond (is_open (s.stages op)) 1 0) counts
      ∙ how_many_but (open_number op.port s) (open_number op.port t) op.number (s.counts op.port) low high
      (λ j other. ap is_open (sym (stage_at (record { port = op.port; number = j }) (other_number op j (λ e. other (sym e))))))
      ∙ ap (λ x. open_at op.port s + cond (is_open x) 1 0) stage_here

-- ---- all ports

sum_to : (ℕ → ℕ) → ℕ → ℕ
sum_to more zero = 0
sum_to more (suc n) = more n + sum_to more n

open_sums : (s t : State) (more : ℕ → ℕ) (n : ℕ) → ((port : ℕ) → open_at port t + more port ≡ open_at port s) → open_in n t + sum_to more n ≡ open_in n s
unfolding sum_to
open_sums s t more zero each = refl
open_sums s t more (suc n) each = together (open_at n t) (open_in n t) (more n) (sum_to more n) (open_at n s) (open_in n s) (each n) (open_sums s t more n each)
  where
    together : (a b c d e f : ℕ) → a + c ≡ e → b + d ≡ f → a + b + (c + d) ≡ e + f
    together a b c d e f one rest = omega arith

at_none : (p n : ℕ) → n ≤ p → sum_to (λ port. cond (nat_eq p port) 1 0) n ≡ 0
unfolding sum_to
at_none p zero low = refl
at_none p (suc n) low = ap (λ b. cond b 1 0 + sum_to (λ port. cond (nat_eq p port) 1 0) n) (ne_eqb p n (λ e. absurd (omega arith))) ∙ zero_more (sum_to (λ port. cond (nat_eq p port) 1 0) n) ∙ at_none p n (omega arith)

at_one : (p n : ℕ) → p < n → sum_to (λ port. cond (nat_eq p port) 1 0) n ≡ 1
unfolding sum_to
at_one p zero below = absurd (omega arith)
at_one p (suc n) below = go (cases_eq p n) (λ less. at_one p n less)
  where
    go : (p ≡ n) ⊎ (p ≡ n → ⊥) → (p < n → sum_to (λ port. cond (nat_eq p port) 1 0) n ≡ 1) → cond (nat_eq p n) 1 0 + sum_to (λ port. cond (nat_eq p port) 1 0) n ≡ 1
    go (inl same) later = ap (λ b. cond b 1 0 + sum_to (λ port. cond (nat_eq p port) 1 0) n) (eq-eqb p n same) ∙ ap (λ m. 1 + m) (at_none p n (omega arith))
    go (inr other) later = ap (λ b. cond b 1 0 + sum_to (λ port. cond (nat_eq p port) 1 0) n) (ne_eqb p n other) ∙ zero_more (sum_to (λ port. cond (nat_eq p port) 1 0) n) ∙ later (omega (arith, other))

-- as many are open at each port, and so in all
same_in : (s t : State) (n : ℕ) → ((port : ℕ) → open_at port t ≡ open_at port s) → open_in n t ≡ open_in n s
same_in s t zero each = refl
same_in s t (suc n) each = ap (λ m. m + open_in n t) (each n) ∙ ap (λ m. open_at n s + m) (same_in s t n each)

-- ---- single turns

is_open_not : (x : Stage) → is_open x ≡ true → x ≡ Closed → ⊥
is_open_not x open_ closed = let clash : true ≡ false = sym open_ ∙ ap is_open closed in absurd (cc)

module _ (ports : ℕ) where
  abbrev pub Keeps : State → NodeTurn → Type 0
  Keeps s t = Counts ports s → Counts ports t.state × Closes s t.state t.reported.gave

  pub keeps_then : (s : State) (t : NodeTurn) (next : State → NodeTurn) → t.reported.gave ≡ None → Keeps s t → Keeps t.state (next t.state) → Keeps s (and_then t next)
  keeps_then s t next none first later counts =
      let a = first counts in
      let b = later a.0 in (
        b.0,
        λ port.
            ap (λ o. open_at port (next t.state).state + gave_at port (first_of o (next t.state).reported.gave)) none ∙ b.1 port
            ∙ sym (none_more (open_at port t.state)) ∙ ap (λ o. open_at port t.state + gave_at port o) (sym none) ∙ a.1 port,
      )

  -- the commands stay as they are
  pub same_keeps : (s : State) (t : NodeTurn) → t.state.stages ≡ s.stages → t.state.counts ≡ s.counts → t.state.opened ≡ s.opened → t.reported.gave ≡ None
      → (ReferencesFit s → ReferencesFit t.state) → Keeps s t
  same_keeps s t stages counted opened none keeps counts = (
    record {
      fitting = keeps counts.fitting;
      within = λ op open_. counts.within op (ap (λ (f : OpId → Stage). is_open (f op)) (sym stages) ∙ open_);
      all = opened ∙ counts.all ∙ sym (same_in s t.state ports each);
    },
    λ port. ap (λ o. open_at port t.state + gave_at port o) none ∙ none_more (open_at port t.state) ∙ each port,
  )
    where
      each : (port : ℕ) → open_at port t.state ≡ open_at port s
      each port =
          ap (λ (f : OpId → Stage). how_many (λ n. is_open (f (record { port = port; number = n }))) (t.state.counts port)) stages
          ∙ ap (λ (f : ℕ → ℕ). how_many (open_number port s) (f port)) counted

  -- an open command is open otherwise
  moved_keeps : (s : State) (t : NodeTurn) (op : OpId) (new : Stage) → is_open (s.stages op) ≡ true → is_open new ≡ true
      → t.state.stages ≡ upd same_op s.stages op new → t.state.counts ≡ s.counts → t.state.opened ≡ s.opened → t.reported.gave ≡ None
      → (ReferencesFit s → ReferencesFit t.state) → Keeps s t
  moved_keeps s t op new was is stages counted opened none keeps counts = (
    record {
      fitting = keeps counts.fitting;
      within = λ other open_. upd_by same_op s.stages op (λ x. is_open x ≡ true → (1 ≤ other.number) × (other.port < ports)) new other
          (λ same _. subst (λ (o : OpId). (1 ≤ o.number) × (o.port < ports)) (op_is op other same) (counts.within op was))
          (λ _ still. counts.within other still) (ap (λ (f : OpId → Stage). is_open (f other)) (sym stages) ∙ open_);
      all = opened ∙ counts.all ∙ sym (same_in s t.state ports each);
    },
    λ port. ap (λ o. open_at port t.state + gave_at port o) none ∙ none_more (open_at port t.state) ∙ each port,
  )
    where
      one : open_at op.port t.state + 1 ≡ open_at op.port s + 1
      one = ap (λ b. open_at op.port t.state + cond b 1 0) (sym was)
          ∙ own_port s t.state op new counted stages ((counts.within op was).0) (open_is_in s counts.fitting op (is_open_not (s.stages op) was))
          ∙ ap (λ b. open_at op.port s + cond b 1 0) is

      each : (port : ℕ) → open_at port t.state ≡ open_at port s
      each port = go (cases_eq op.port port)
        where
          go : (op.port ≡ port) ⊎ (op.port ≡ port → ⊥) → open_at port t.state ≡ open_at port s
          go (inl same) = subst (λ p. open_at p t.state ≡ open_at p s) same (less_one (open_at op.port t.state) (open_at op.port s) one)
          go (inr other) = other_ports s t.state op new counted stages port other

  -- an open command is answered and closed
  closed_keeps : (s : State) (t : NodeTurn) (op : OpId) (r : Response) → is_open (s.stages op) ≡ true
      → t.state.stages ≡ upd same_op s.stages op Closed → t.state.counts ≡ s.counts → t.state.opened ≡ s.opened - 1 → t.reported.gave ≡ Some (op, r)
      → (ReferencesFit s → ReferencesFit t.state) → Keeps s t
  closed_keeps s t op r was stages counted opened gave keeps counts = (
    record {
      fitting = keeps counts.fitting;
      within = λ other open_. upd_by same_op s.stages op (λ x. is_open x ≡ true → (1 ≤ other.number) × (other.port < ports)) Closed other
          (λ _ never. absurd (no_open never))
          (λ _ still. counts.within other still) (ap (λ (f : OpId → Stage). is_open (f other)) (sym stages) ∙ open_);
      all = fewer t.state.opened s.opened (open_in ports t.state) (open_in ports s) opened counts.all
          (ap (λ n. open_in ports t.state + n) (sym (at_one op.port ports ((counts.within op was).1))) ∙ open_sums s t.state (λ port. cond (nat_eq op.port port) 1 0) ports each);
    },
    λ port. ap (λ o. open_at port t.state + gave_at port o) gave ∙ each port,
  )
    where
      no_open : false ≡ true → ⊥
      no_open e = absurd (cc)

      fewer : (a b c d : ℕ) → a ≡ b - 1 → b ≡ d → c + 1 ≡ d → a ≡ c
      fewer a b c d x y z = omega arith

      one : open_at op.port t.state + 1 ≡ open_at op.port s + 0
      one = ap (λ b. open_at op.port t.state + cond b 1 0) (sym was)
          ∙ own_port s t.state op Closed counted stages ((counts.within op was).0) (open_is_in s counts.fitting op (is_open_not (s.stages op) was))

      each : (port : ℕ) → open_at port t.state + cond (nat_eq op.port port) 1 0 ≡ open_at port s
      each port = go (cases_eq op.port port)
        where
          go : (op.port ≡ port) ⊎ (op.port ≡ port → ⊥) → open_at port t.state + cond (nat_eq op.port port) 1 0 ≡ open_at port s
          go (inl same) = ap (λ b. open_at port t.state + cond b 1 0) (eq-eqb op.port port same) ∙ subst (λ p. open_at p t.state + 1 ≡ open_at p s) same (one ∙ none_more (open_at op.port s))
          go (inr other) = ap (λ b. open_at port t.state + cond b 1 0) (ne_eqb op.port port other) ∙ none_more (open_at port t.state) ∙ other_ports s t.state op Closed counted stages port other

  -- a closed command that came in is opened
  opens : (s : State) (t : NodeTurn) (op : OpId) (new : Stage) → s.stages op ≡ Closed → is_open new ≡ true → 1 ≤ op.number → op.number ≤ s.counts op.port → op.port < ports
      → t.state.stages ≡ upd same_op s.stages op new → t.state.counts ≡ s.counts → t.state.opened ≡ s.opened + 1
      → (ReferencesFit s → ReferencesFit t.state) → Counts ports s → Counts ports t.state × ((port : ℕ) → open_at port t.state ≡ open_at port s + cond (nat_eq op.port port) 1 0)
  opens s t op new was is low high there stages counted opened keeps counts = (
    record {
      fitting = keeps counts.fitting;
      within = λ other open_. upd_by same_op s.stages op (λ x. is_open x ≡ true → (1 ≤ other.number) × (other.port < ports)) new other
          (λ same _. subst (λ (o : OpId). (1 ≤ o.number) × (o.port < ports)) (op_is op other same) (low, there))
          (λ _ still. counts.within other still) (ap (λ (f : OpId → Stage). is_open (f other)) (sym stages) ∙ open_);
      all = more t.state.opened s.opened (open_in ports t.state) (open_in ports s) opened counts.all
          (ap (λ n. open_in ports s + n) (sym (at_one op.port ports there)) ∙ open_sums t.state s (λ port. cond (nat_eq op.port port) 1 0) ports (λ port. sym (each port)));
    },
    each,
  )
    where
      more : (a b c d : ℕ) → a ≡ b + 1 → b ≡ d → d + 1 ≡ c → a ≡ c
      more a b c d x y z = omega arith

      one : open_at op.port t.state + 0 ≡ open_at op.port s + 1
      one = ap (λ x. open_at op.port t.state + cond (is_open x) 1 0) (sym was)
          ∙ own_port s t.state op new counted stages low high
          ∙ ap (λ b. open_at op.port s + cond b 1 0) is

      each : (port : ℕ) → open_at port t.state ≡ open_at port s + cond (nat_eq op.port port) 1 0
      each port = go (cases_eq op.port port)
        where
          go : (op.port ≡ port) ⊎ (op.port ≡ port → ⊥) → open_at port t.state ≡ open_at port s + cond (nat_eq op.port port) 1 0
          go (inl same) = subst (λ p. open_at p t.state ≡ open_at p s + 1) same (sym (none_more (open_at op.port t.state)) ∙ one) ∙ ap (λ b. open_at port s + cond b 1 0) (sym (eq-eqb op.port port same))
          go (inr other) = other_ports s t.state op new counted stages port other ∙ sym (none_more (open_at port s)) ∙ ap (λ b. open_at port s + cond b 1 0) (sym (ne_eqb op.port port other))

  -- ---- what follows answers and replies

  -- a command that comes in is neither open nor answered yet
  pub counted_keeps_all : (port : ℕ) (s : State) → Keeps s (count_command port s)
  counted_keeps_all port s counts = (
    record {
      fitting = counted_keeps port s counts.fitting;
      within = counts.within;
      all = counts.all ∙ sym (same_in s t ports each);
    },
    λ p. none_more (open_at p t) ∙ each p,
  )
    where
      t : State
      t = (count_command port s).state

      unopened : cond {A = ℕ} (open_number port s (suc (s.counts port))) 1 0 ≡ 0
      unopened = ap (λ x. cond {A = ℕ} (is_open x) 1 0) (counts.fitting.closed (record { port = port; number = suc (s.counts port) }) (omega arith))

      each : (p : ℕ) → open_at p t ≡ open_at p s
      each p = upd_by nat_eq s.counts port (λ n. how_many (open_number p s) n ≡ open_at p s) (s.counts port + 1) p
          (λ same. subst (λ q. how_many (open_number q s) (s.counts port + 1) ≡ open_at q s) (eqb-true port p same)
          (ap (how_many (open_number port s)) (add-one (s.counts port)) ∙ ap (λ n. n + how_many (open_number port s) (s.counts port)) unopened ∙ zero_more (how_many (open_number port s) (s.counts port))))
          (λ _. refl)

  pub counts_singly : (m : Nodes) → OfSingle m NoCommand AnyUpdate Keeps Keeps
  counts_singly m = record {
    alone = λ s t keeps. keeps;
    before = λ s t next nothing_told. keeps_then s t next (ap (λ (x : Report). x.gave) nothing_told);
    behind = λ s t next none. keeps_then s t next none.1;
    stays = λ s. same_keeps s (becomes s) refl refl refl refl (λ fitting. fitting);
    counted = λ port s. counted_keeps_all port s;
    lasts = λ op pid s never. never;
    answered = λ op r s never. absurd never;
    opened = λ op u s never _. absurd never;
    made = λ op s never. absurd never;
    attempted = λ lead op u s waits. moved_keeps s (new_attempt lead op u s) op (Asking (s.references + 1)) (ap is_open waits) refl refl refl refl refl (λ fitting. attempted_keeps s fitting lead op u waits);
    asked = λ who c op u lead st s is. same_keeps s (ask m who c op u lead st s) refl refl refl refl (λ fitting. relock s fitting _ c op u lead st _ is refl refl refl refl);
    given_up = λ c op u lead st s is _ counts. moved_keeps s (give_up m c op u st s) op (Waiting u) (ap is_open (is_asking counts.fitting c op u lead st is)) refl refl refl refl refl (λ fitting. given_up_keeps s fitting m c op u lead st is) counts;
    begun = λ c op u lead st s is _ counts. moved_keeps s (begin m c op u s) op (Changing (s.references + 1)) (ap is_open (is_asking counts.fitting c op u lead st is)) refl refl refl refl refl (λ fitting. begun_keeps s fitting m c op u lead st is) counts;
    finished = λ n op u c replied s is _ counts. closed_keeps s (finish m n op u c s) op (Given reply.Ok) (ap is_open (is_changing counts.fitting n op u c replied is)) refl refl refl refl (λ fitting. finished_keeps s fitting m n op u c replied is) counts;
    heard = λ c op u lead st p status s is _. same_keeps s (count_answer c op u lead st p status s) refl refl refl refl (λ fitting. relock s fitting _ c op u lead st _ is refl refl refl refl);
    confirmed = λ n op u c replied p s is _. same_keeps s (count_ok n op u c replied p s) refl refl refl refl (λ fitting. confirmed_keeps s fitting _ n op u c replied _ is refl refl refl refl);
    odd = λ what s. same_keeps s (strange what s) refl refl refl refl (λ fitting. fitting);
    requested = λ p reference name s. same_keeps s (lock_request m p reference name s) refl refl refl refl (same_fitting s _ refl refl refl refl);
    updated = λ p reference u s. same_keeps s (update_request p reference u s) refl refl refl refl (same_fitting s _ refl refl refl refl);
    freed = λ name reference s. same_keeps s (lock_freed name reference s) refl refl refl refl (same_fitting s _ refl refl refl refl);
  }

  -- ---- a command

  -- what a command leaves: it is open, or was answered, and all else is as it was
  abbrev pub Pays : OpId → State → State → Option (OpId × Response) → Type 0
  Pays op s t gave = (port : ℕ) → open_at port t + gave_at port gave ≡ open_at port s + cond (nat_eq op.port port) 1 0

  abbrev pub Done : OpId → State → NodeTurn → Type 0
  Done op s t = Counts ports s → Counts ports t.state × Pays op s t.state t.reported.gave

  answered_done : (op : OpId) (r : Response) (s : State) (t : NodeTurn) → t.state.stages ≡ s.stages → t.state.counts ≡ s.counts → t.state.opened ≡ s.opened
      → (ReferencesFit s → ReferencesFit t.state) → t.reported.gave ≡ Some (op, r) → Done op s t
  answered_done op r s t stages counted opened keeps gave counts =
      let same = same_keeps s (becomes t.state) stages counted opened refl keeps counts in
      (same.0, λ port. ap (λ o. open_at port t.state + gave_at port o) gave ∙ ap (λ n. n + cond (nat_eq op.port port) 1 0) (sym (none_more (open_at port t.state)) ∙ same.1 port))

  undertaken_done : (m : Nodes) (op : OpId) (u : Update) (s : State) → s.stages op ≡ Closed → 1 ≤ op.number → op.number ≤ s.counts op.port → op.port < ports → Done op s (undertake m op u s)
  undertaken_done m op u s was low high there = go (nat_le OPEN_LIMIT s.opened)
    where
      t : NodeTurn
      t = open_command op u s

      go : (b : Bool) → Done op s (cond b (answer op (refused Busy) s) (and_then t (attempt m op u)))
      go true counts = answered_done op (refused Busy) s (answer op (refused Busy) s) refl refl refl (λ fitting. fitting) refl counts
      go false counts =
          let first = opens s t op (Waiting u) was refl low high there refl refl refl (opened_keeps op u s (was, high)) counts in
          let later = attempt_so m NoCommand AnyUpdate Keeps Keeps (counts_singly m) op u t.state (upd_at same_op s.stages op (Waiting u) (is_op op)) first.0 in
          (later.0, λ port. later.1 port ∙ first.1 port)

  change_done : (m : Nodes) (op : OpId) (u : Update) (s : State) → s.stages op ≡ Closed → 1 ≤ op.number → op.number ≤ s.counts op.port → op.port < ports → Done op s (change m op u s)
  change_done m op u s was low high there = go (look (s.table (name_of u)) u)
    where
      go : (r : Option Reply) → Done op s (change_by r m op u s)
      go (Some r) = answered_done op (Given r) s (answer op (Given r) s) refl refl refl (λ fitting. fitting) refl
      go None = undertaken_done m op u s was low high there

  pub command_done : (m : Nodes) (fault : Option CommandFault) (op : OpId) (c : Command) (s : State) → s.stages op ≡ Closed → 1 ≤ op.number → op.number ≤ s.counts op.port → op.port < ports
      → Done op s (command_by fault m op c s)
  command_done m (Some f) op c s was low high there = answered_done op (refused f) s (answer op (refused f) s) refl refl refl (λ fitting. fitting) refl
  command_done m None op (command.Create name) s was low high there = change_done m op (update.Create name) s was low high there
  command_done m None op (command.Delete name) s was low high there = change_done m op (update.Delete name) s was low high there
  command_done m None op (command.Join name pid) s was low high there = change_done m op (update.Join name pid) s was low high there
  command_done m None op (command.Leave name pid) s was low high there = change_done m op (update.Leave name pid) s was low high there
  command_done m None op command.Make s was low high there = answered_done op _ s (make m op s) refl refl refl (same_fitting s _ refl refl refl refl) refl
  command_done m None op (command.Finish pid) s was low high there = answered_done op (Given reply.Ok) s (end_process m op pid s) refl refl refl (same_fitting s _ refl refl refl refl) refl
  command_done m None op (command.Members name) s was low high there = answered_done op _ s (answer op (Read (command.Members name) s.table) s) refl refl refl (λ fitting. fitting) refl
  command_done m None op (command.LocalMembers name) s was low high there = answered_done op _ s (answer op (Read (command.LocalMembers name) s.table) s) refl refl refl (λ fitting. fitting) refl
  command_done m None op command.WhichGroups s was low high there = answered_done op _ s (answer op (Read command.WhichGroups s.table) s) refl refl refl (λ fitting. fitting) refl
  command_done m None op (command.Closest name word) s was low high there = answered_done op _ s (answer op (Read (command.Closest name word) s.table) s) refl refl refl (λ fitting. fitting) refl
