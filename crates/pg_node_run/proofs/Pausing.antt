-- How commands wait, as turns pass.
use Rattle.std.proofs.Common.{◌≡◌, ◌≢◌, ◌<◌, ◌≤◌, ◌∙◌, ◌⊎◌, ℕ, cond, get_or, length}
use Rattle.std.proofs.Common.{List, [], ◌∷◌, ◌++◌, refl, sym, ap, subst, inl, inr, arith}
use Rattle.std.specs.List.{filter}
use Rattle.std.specs.Prelude.{zero, suc, Bool, true, false, not, slice_get, slice_set, Option, Some, None, IfSome}
use Rattle.std.proofs.lemmas.Option.{slice_get_read, slice_get-get_or}
use Rattle.pg_node_run.specs.declared.pauses.Pause.{Pause}
use Rattle.pg_node_run.specs.declared.pauses.Wait.{Wait}
use Rattle.pg_node_run.specs.declared.pauses.Wait.TheVariants.{Turns, Due, Tried}
use Rattle.pg_node_run.specs.Pauses.{Passed, Waited, Waits, begins_next, is_due, is_over, wait_in}
use Rattle.pg_node_run.proofs.Commands.{same_is, same_itself}
use Rattle.pg_node.specs.PgStep.declared.command.OpId.{OpId}
use Rattle.pg_node.specs.PgStep.Attempts.{same_op}

some_of : {A : Type 0} (x y : A) → Some x ≡ Some y → x ≡ y
some_of x y e = ap (either x) e
  where
    either : {A : Type 0} → A → Option A → A
    either none None = none
    either none (Some z) = z

-- one pause of a list
here : (op : OpId) (pause : Pause) (others : List Pause) → pause.op ≡ op → wait_in op (pause ∷ others) ≡ Some pause.wait
here op pause others is = ap (λ b. cond b (Some pause.wait) (wait_in op others)) (subst (λ o. same_op o op ≡ true) (sym is) (same_itself op))

elsewhere : (op : OpId) (pause : Pause) (others : List Pause) → pause.op ≢ op → wait_in op (pause ∷ others) ≡ wait_in op others
elsewhere op pause others apart = go (same_op pause.op op) refl
  where
    go : (b : Bool) → same_op pause.op op ≡ b → cond b (Some pause.wait) (wait_in op others) ≡ wait_in op others
    go true same = absurd (apart (same_is pause.op op same))
    go false same = refl

-- ---- the command at a place, which is the first of it

pub waits_here : (op : OpId) (entries : List Pause) (place : ℕ) (pause : Pause) → slice_get entries place ≡ Some pause → pause.op ≡ op
    → ((k : ℕ) (p : Pause) → k < place → slice_get entries k ≡ Some p → p.op ≢ op) → wait_in op entries ≡ Some pause.wait
waits_here op [] place pause there is first = absurd (cc)
waits_here op (p ∷ entries) zero pause there is first = ap (λ (x : Pause). wait_in op (x ∷ entries)) (some_of p pause there) ∙ here op pause entries is
waits_here op (p ∷ entries) (suc place) pause there is first =
    elsewhere op p entries (first 0 p (omega arith) refl) ∙ waits_here op entries place pause there is (λ k q low at. first (suc k) q (omega (arith, low)) at)

pub waits_set : (op : OpId) (entries : List Pause) (place : ℕ) (pause next : Pause) → slice_get entries place ≡ Some pause → next.op ≡ op
    → ((k : ℕ) (p : Pause) → k < place → slice_get entries k ≡ Some p → p.op ≢ op) → wait_in op (slice_set entries place next) ≡ Some next.wait
waits_set op [] place pause next there is first = absurd (cc)
waits_set op (p ∷ entries) zero pause next there is first = here op next entries is
waits_set op (p ∷ entries) (suc place) pause next there is first =
    elsewhere op p (slice_set entries place next) (first 0 p (omega arith) refl) ∙ waits_set op entries place pause next there is (λ k q low at. first (suc k) q (omega (arith, low)) at)

-- ---- no command of it

pub waits_none : (op : OpId) (entries : List Pause) → ((k : ℕ) (p : Pause) → slice_get entries k ≡ Some p → p.op ≢ op) → wait_in op entries ≡ None
waits_none op [] none = refl
waits_none op (p ∷ entries) none = elsewhere op p entries (none 0 p refl) ∙ waits_none op entries (λ k q at. none (suc k) q at)

pub waits_pushed : (op : OpId) (entries : List Pause) (next : Pause) → next.op ≡ op → ((k : ℕ) (p : Pause) → slice_get entries k ≡ Some p → p.op ≢ op)
    → wait_in op (entries ++ next ∷ []) ≡ Some next.wait
waits_pushed op [] next is none = here op next [] is
waits_pushed op (p ∷ entries) next is none = elsewhere op p (entries ++ next ∷ []) (none 0 p refl) ∙ waits_pushed op entries next is (λ k q at. none (suc k) q at)

-- one begins
pub begins_there : (op : OpId) (entries : List Pause) (next : Pause) (turns : ℕ) → next.op ≡ op → ((k : ℕ) (p : Pause) → slice_get entries k ≡ Some p → p.op ≢ op)
    → next.wait ≡ Turns turns → 1 ≤ turns → turns ≤ 4096 → Passed (wait_in op entries) false (wait_in op (entries ++ next ∷ []))
begins_there op entries next turns is none wait least most =
    subst (λ w. Passed w false (wait_in op (entries ++ next ∷ []))) (sym (waits_none op entries none))
    (record { turns = turns; least = least; most = most; waits = waits_pushed op entries next is none ∙ ap Some wait; later = refl })

-- ---- other commands

pub others_set : (other : OpId) (entries : List Pause) (place : ℕ) (pause next : Pause) → slice_get entries place ≡ Some pause → pause.op ≢ other → next.op ≢ other
    → wait_in other (slice_set entries place next) ≡ wait_in other entries
others_set other [] place pause next there was is = refl
others_set other (p ∷ entries) zero pause next there was is =
    elsewhere other next entries is ∙ sym (elsewhere other p entries (λ e. was (sym (ap (λ (x : Pause). x.op) (some_of p pause there)) ∙ e)))
others_set other (p ∷ entries) (suc place) pause next there was is =
    ap (λ w. cond (same_op p.op other) (Some p.wait) w) (others_set other entries place pause next there was is)

pub others_pushed : (other : OpId) (entries : List Pause) (next : Pause) → next.op ≢ other → wait_in other (entries ++ next ∷ []) ≡ wait_in other entries
others_pushed other [] next is = elsewhere other next [] is
others_pushed other (p ∷ entries) next is = ap (λ w. cond (same_op p.op other) (Some p.wait) w) (others_pushed other entries next is)

-- the pause at a place changes
pub record Changes (op : OpId) (entries entries2 : List Pause) (pause next : Pause) : Type 0 where
  pub was : wait_in op entries ≡ Some pause.wait
  pub is : wait_in op entries2 ≡ Some next.wait
  pub others : (other : OpId) → other ≢ op → wait_in other entries2 ≡ wait_in other entries

pub changes : (op : OpId) (entries : List Pause) (place : ℕ) (pause next : Pause) → place < length entries → pause ≡ get_or entries place pause → IfSome (slice_get entries place) (λ p. p.op ≡ op)
    → next.op ≡ pause.op → ((k : ℕ) (p : Pause) → k < place → slice_get entries k ≡ Some p → p.op ≢ op) → Changes op entries (slice_set entries place next) pause next
changes op entries place pause next within at some kept first = record {
  was = waits_here op entries place pause there of first;
  is = waits_set op entries place pause next there (kept ∙ of) first;
  others = λ other apart. others_set other entries place pause next there (λ e. apart (sym e ∙ of)) (λ e. apart (sym e ∙ (kept ∙ of)));
}
  where
    there : slice_get entries place ≡ Some pause
    there = slice_get_read entries (length entries) place pause refl within at

    of : pause.op ≡ op
    of = subst {A = Option Pause} (λ o. IfSome o (λ p. p.op ≡ op)) there some

-- it goes
abbrev pub is_off : OpId → Pause → Bool
is_off op pause = not (same_op pause.op op)

pub gone : (op : OpId) (entries : List Pause) → wait_in op (filter (is_off op) entries) ≡ None
gone op [] = refl
gone op (p ∷ entries) = go (same_op p.op op) refl (gone op entries)
  where
    go : (b : Bool) → same_op p.op op ≡ b → wait_in op (filter (is_off op) entries) ≡ None → wait_in op (cond (not b) (p ∷ filter (is_off op) entries) (filter (is_off op) entries)) ≡ None
    go true same rest = rest
    go false same rest = ap (λ b. cond b (Some p.wait) (wait_in op (filter (is_off op) entries))) same ∙ rest

pub others_left : (op other : OpId) (entries : List Pause) → other ≢ op → wait_in other (filter (is_off op) entries) ≡ wait_in other entries
others_left op other [] apart = refl
others_left op other (p ∷ entries) apart = go (same_op p.op op) refl (others_left op other entries apart)
  where
    go : (b : Bool) → same_op p.op op ≡ b → wait_in other (filter (is_off op) entries) ≡ wait_in other entries
        → wait_in other (cond (not b) (p ∷ filter (is_off op) entries) (filter (is_off op) entries)) ≡ wait_in other (p ∷ entries)
    go true same rest = rest ∙ sym (elsewhere other p entries (λ e. apart (sym e ∙ same_is p.op op same)))
    go false same rest = ap (λ w. cond (same_op p.op other) (Some p.wait) w) rest

-- a command that is there waits
pub waits_there : (op : OpId) (entries : List Pause) (place : ℕ) → place < length entries → IfSome (slice_get entries place) (λ p. p.op ≡ op)
    → ((k : ℕ) (p : Pause) → k < place → slice_get entries k ≡ Some p → p.op ≢ op) → wait_in op entries ≡ None → ⊥
waits_there op [] place within some first none = absurd (omega (arith, within))
waits_there op (p ∷ entries) place within some first none =
    let there = slice_get-get_or (p ∷ entries) place p within in
    let waits = sym (waits_here op (p ∷ entries) place _ there (subst {A = Option Pause} (λ o. IfSome o (λ q. q.op ≡ op)) there some) first) ∙ none in
    absurd (cc)

pub passes_there : (op : OpId) (entries entries2 : List Pause) (pause next : Pause) (due : Bool) → Changes op entries entries2 pause next → Passed (Some pause.wait) due (Some next.wait)
    → Passed (wait_in op entries) due (wait_in op entries2)
passes_there op entries entries2 pause next due changed passed =
    subst (λ w. Passed w due (wait_in op entries2)) (sym changed.was) (subst (λ w. Passed (Some pause.wait) due w) (sym changed.is) passed)

-- ---- what passed

-- a command is due exactly where its pause is over
pub due_is_over : (before : Option Wait) (due : Bool) (after : Option Wait) → Passed before due after → due ≡ is_over before
due_is_over (Some (Turns left)) due after passed = passed.0
due_is_over (Some Due) due after passed = passed.0
due_is_over (Some Tried) due after passed = passed.later
due_is_over None due after passed = passed.later

-- ---- in a turn

pub due_as_passed : (ready : Bool) (before : Option Wait) (due : Bool) (after : Option Wait) → ready ≡ false → Passed before due after → is_due ready before ≡ due
due_as_passed ready before due after same passed = ap (λ b. is_due b before) same ∙ sym (due_is_over before due after passed)

pub waits_less : (ready strong weak : Bool) → (weak ≡ true → strong ≡ true) → (before after : Option Wait) → Waits ready strong before after → Waits ready weak before after
waits_less true strong weak both before after h = h
waits_less false true true both before after h = h
waits_less false true false both before after h = inr h
waits_less false false true both before after h = absurd (let e = both refl in cc)
waits_less false false false both before after h = h

-- nothing passed in a phase that was not whole
pub waits_still : (ready whole : Bool) → (whole ≡ true → ⊥) → (before after : Option Wait) → after ≡ before → Waits ready whole before after
waits_still true whole short before after same = inl same
waits_still false true short before after same = absurd (short refl)
waits_still false false short before after same = inl same

pub waits_passed : (whole : Bool) (before after : Option Wait) → Waited before after → Waits false whole before after
waits_passed true before after h = h
waits_passed false before after h = inr h

-- it was not due
pub waited_not_due : (before after : Option Wait) → Passed before false after → Waited before after
waited_not_due before after passed = record { due = false; passed = after; passes = passed; is = inl refl }

-- it was due, and may have been tried
pub waited_due : (before passed after : Option Wait) → Passed before true passed → (after ≡ passed) ⊎ (after ≡ Some Tried) → Waited before after
waited_due before passed after passes (inl same) = record { due = true; passed = passed; passes = passes; is = inl same }
waited_due before passed after passes (inr tried) = record { due = true; passed = passed; passes = passes; is = inr (refl, tried) }

-- a command that was tried
pub tried_or_none : (before after : Option Wait) → (before ≢ None → after ≡ Some Tried) → (before ≡ None → after ≡ None) → (after ≡ before) ⊎ (after ≡ Some Tried)
tried_or_none None after some none = inl (none refl)
tried_or_none (Some wait) after some none = inr (some (λ e. absurd (cc)))

pub tried_begins : (before after : Option Wait) → (before ≢ None → after ≡ Some Tried) → (before ≡ None → after ≡ None) → begins_next after ≡ true
tried_begins None after some none = ap begins_next (none refl)
tried_begins (Some wait) after some none = ap begins_next (some (λ e. absurd (cc)))
