-- What was reported before stands before what comes in later.
use Rattle.std.proofs.Common.{◌≡◌, ℕ, ◌+◌, ◌<◌, ◌≤◌, Bool, true, false, ◌&&◌, cond, nat_eq, length}
use Rattle.std.proofs.Common.{List, [], ◌∷◌, ◌++◌, Some, None, refl, ap, sym, ◌∙◌, subst, arith}
use Rattle.std.proofs.lemmas.List.{append_assoc}
use Rattle.pg_term.specs.declared.term.Term.{Term}
use Rattle.pg_term.specs.Same.{same_term}
use Rattle.pg_step.specs.PgGroup.Value.{name_of}
use Rattle.pg_step.specs.Machines.Clocked.{plain}
use Rattle.pg_step.specs.Machines.Machine.{Event, start_of}
use Rattle.pg_step.specs.Machines.Runs.{Leads}
use Rattle.pg_step.proofs.Machines.Plain.{plain_leads}
use Rattle.pg_step.proofs.Machines.Sequences.{one_world, parts, tells}
use Rattle.pg_step.specs.Attempts.{same_op}
use Rattle.pg_step.specs.declared.command.Command.{Command}
use Rattle.pg_step.specs.declared.command.OpId.{OpId}
use Rattle.pg_step.specs.Config.{Config}
use Rattle.pg_step.specs.FrameMachine.{frame_machine, machine_of}
use Rattle.pg_step.specs.Step.{Action, CLOCK_LIMIT}
use Rattle.pg_step.specs.Turns.{Report}
use Rattle.pg_laws.specs.History.{Entry, answered_count, applied_count, command_at}
use Rattle.pg_laws.specs.History.{entries, history, is_op, is_update_of, of_group, times}
use Rattle.pg_laws.specs.Reached.{Reaches, TimedFrameWorld}
use Rattle.pg_laws.specs.RealTime.{StandsBefore}
use Rattle.pg_laws.proofs.commands.AskedRuns.{entries_asked}
use Rattle.pg_laws.proofs.steps.Grows.{entries_append, history_append}

-- ---- counts over what was reported

plus_assoc : (a b c : ℕ) → a + (b + c) ≡ (a + b) + c
plus_assoc a b c = omega arith

times_append : (i : ℕ) (op : OpId) (es fs : List Entry) → times i op (es ++ fs) ≡ times i op es + times i op fs
times_append i op [] fs = omega arith
times_append i op (e ∷ es) fs = ap (λ n. cond (nat_eq e.node i && same_op op e.op) 1 0 + n) (times_append i op es fs) ∙ plus_assoc (cond (nat_eq e.node i && same_op op e.op) 1 0) (times i op es) (times i op fs)

answered_append : (i : ℕ) (op : OpId) (ts us : List (ℕ × Report)) → answered_count i op (ts ++ us) ≡ answered_count i op ts + answered_count i op us
answered_append i op [] us = omega arith
answered_append i op (t ∷ ts) us = ap (λ n. cond (nat_eq t.0 i && is_op op t.1.answered) 1 0 + n) (answered_append i op ts us) ∙ plus_assoc (cond (nat_eq t.0 i && is_op op t.1.answered) 1 0) (answered_count i op ts) (answered_count i op us)

applied_append : (i : ℕ) (name : Term) (ts us : List (ℕ × Report)) → applied_count i name (ts ++ us) ≡ applied_count i name ts + applied_count i name us
applied_append i name [] us = omega arith
applied_append i name (t ∷ ts) us = ap (λ n. cond (nat_eq t.0 i && is_update_of name t.1.applied) 1 0 + n) (applied_append i name ts us) ∙ plus_assoc (cond (nat_eq t.0 i && is_update_of name t.1.applied) 1 0) (applied_count i name ts) (applied_count i name us)

-- ---- lists

-- what is not among the first of two lists comes after all of it
comes_after : {A : Type 0} (first second earlier later : List A) (e : A) → ((x y : List A) → first ≡ x ++ e ∷ y → ⊥) → first ++ second ≡ earlier ++ e ∷ later → (rest : List A) × (earlier ≡ first ++ rest)
comes_after [] second earlier later e apart is = (earlier, refl)
comes_after (a ∷ first) second [] later e apart is = absurd (apart [] first (let one : a ≡ e = cc in ap (λ b. b ∷ first) one))
comes_after (a ∷ first) second (b ∷ earlier) later e apart is =
    let one : a ≡ b = cc in
    let others : first ++ second ≡ earlier ++ e ∷ later = cc in
    let rest = comes_after first second earlier later e (λ x y at. apart (a ∷ x) y (ap (λ xs. a ∷ xs) at)) others in
    (rest.0, (λ k. sym one k ∷ rest.1 k))

-- an entry of a group is an entry
of_all : (name : Term) (es before after : List Entry) (e : Entry) → of_group name es ≡ before ++ e ∷ after → (x : List Entry) × (y : List Entry) × (es ≡ x ++ e ∷ y)
of_all name [] [] after e is = absurd cc
of_all name [] (b ∷ before) after e is = absurd cc
of_all name (a ∷ es) before after e is = go (same_term name (name_of a.update)) before is (λ rest at. of_all name es rest after e at)
  where
    later : (x : List Entry) × (y : List Entry) × (es ≡ x ++ e ∷ y) → (x : List Entry) × (y : List Entry) × (a ∷ es ≡ x ++ e ∷ y)
    later found = (a ∷ found.0, found.1, ap (λ xs. a ∷ xs) found.2)

    go : (b : Bool) (rest : List Entry) → cond b (a ∷ of_group name es) (of_group name es) ≡ rest ++ e ∷ after
        → ((rest : List Entry) → of_group name es ≡ rest ++ e ∷ after → (x : List Entry) × (y : List Entry) × (es ≡ x ++ e ∷ y)) → (x : List Entry) × (y : List Entry) × (a ∷ es ≡ x ++ e ∷ y)
    go true [] at others = ([], es, (let one : a ≡ e = cc in ap (λ b. b ∷ es) one))
    go true (b ∷ rest) at others = later (others rest (let tail : of_group name es ≡ rest ++ e ∷ after = cc in tail))
    go false rest at others = later (others rest at)

-- ---- what was reported until a time, and what is reported now

module _ (asked : List (Event Action)) (until more now : List (ℕ × Report)) (is : now ≡ until ++ more) where
  pub stays_seen : (x : ℕ) (name : Term) (before after : List Entry) (e : Entry)
      → ((later : List Entry) → history name now ≡ before ++ e ∷ later → 0 < answered_count e.node e.op now → length before < applied_count x name now)
      → history name until ≡ before ++ e ∷ after → 0 < answered_count e.node e.op until
      → (later : List Entry) × (history name now ≡ before ++ e ∷ (after ++ later)) × (length before < applied_count x name now)
  stays_seen x name before after e everywhere was some =
      let later : history name now ≡ before ++ e ∷ (after ++ history name more) = ap (history name) is ∙ history_append name until more ∙ ap (λ es. es ++ history name more) was ∙ append_assoc before (e ∷ after) (history name more) in
      let count : answered_count e.node e.op now ≡ answered_count e.node e.op until + answered_count e.node e.op more = ap (answered_count e.node e.op) is ∙ answered_append e.node e.op until more in
      (history name more, later, everywhere (after ++ history name more) later (omega (arith, count, some)))

  -- each entry is of a command that was asked, and a command that was answered stands there
  module _ (given : (x y : List Entry) (e : Entry) → command_at e.node e.op asked ≡ None → entries until ≡ x ++ e ∷ y → ⊥) (stand : (i : ℕ) (op : OpId) → 0 < answered_count i op until → times i op (entries until) ≡ 1) where
    answered : (i : ℕ) (op : OpId) (earlier later : List Entry) (e : Entry) → 0 < answered_count i op until → command_at e.node e.op asked ≡ None → entries now ≡ earlier ++ e ∷ later → 1 ≤ times i op earlier
    answered i op earlier later e some none at =
        let after = comes_after (entries until) (entries more) earlier later e (λ x y. given x y e none) (sym (ap entries is ∙ entries_append until more) ∙ at) in
        let all : times i op earlier ≡ times i op (entries until) + times i op after.0 = ap (times i op) after.1 ∙ times_append i op (entries until) after.0 in
        let one : times i op (entries until) ≡ 1 = stand i op some in
        omega (arith, all, one)

    in_group : (name : Term) (before after earlier later : List Entry) (a e : Entry) → history name until ≡ before ++ a ∷ after → command_at e.node e.op asked ≡ None → history name now ≡ earlier ++ e ∷ later → (rest : List Entry) × (earlier ≡ before ++ a ∷ rest)
    in_group name before after earlier later a e was none at =
        let later_on = comes_after (history name until) (history name more) earlier later e
        (λ x y on. let found = of_all name (entries until) x y e on in given found.0 found.1 e none found.2)
        (sym (ap (history name) is ∙ history_append name until more) ∙ at) in
        (after ++ later_on.0, later_on.1 ∙ ap (λ es. es ++ later_on.0) was ∙ append_assoc before (a ∷ after) later_on.0)

    onward : (x : ℕ) (name : Term) → applied_count x name until ≤ applied_count x name now
    onward x name =
        let count : applied_count x name now ≡ applied_count x name until + applied_count x name more = ap (applied_count x name) is ∙ applied_append x name until more in
        omega (arith, count)

    pub stands_before : StandsBefore asked until now
    stands_before = record { answered = answered; in_group = in_group; onward = onward }

-- ---- a run, and a world on its way

-- no entry is of a command that did not come in
pub none_before : (config : Config) (first : List (Event Action)) (m : TimedFrameWorld) → Reaches config first m → (x y : List Entry) (e : Entry) → command_at e.node e.op first ≡ None → entries (plain m).reported ≡ x ++ e ∷ y → ⊥
none_before config first m l x y e none at =
    let asked = entries_asked config first m l x y e at in
    not_both asked.0 asked.1
  where
    not_both : (c : Command) → command_at e.node e.op first ≡ Some c → ⊥
    not_both c some = let clash : None ≡ Some c = sym none ∙ some in cc

-- what was reported on the way stands first
pub reported_more : (config : Config) (events first last : List (Event Action)) (w m : TimedFrameWorld) → events ≡ first ++ last → Reaches config events w → Reaches config first m → (more : List (ℕ × Report)) × ((plain w).reported ≡ (plain m).reported ++ more)
reported_more config events first last w m is reaches on_the_way =
    let machine = frame_machine config in
    let both = parts machine first last (start_of machine) w (subst (λ es. Reaches config es w) is reaches) in
    let same : both.0 ≡ m = one_world machine first (start_of machine) both.0 m both.1 on_the_way in
    let leads : Leads machine m last w = subst (λ (u : TimedFrameWorld). Leads machine u last w) same both.2 in
    let told = tells (machine_of config) last (plain m) (plain w) (plain_leads (machine_of config) CLOCK_LIMIT last m w leads) in
    (told.0, told.1)
