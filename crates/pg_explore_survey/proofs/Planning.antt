-- What lines plan of nodes.
use Rattle.std.proofs.Common.{◌≡◌, ◌≢◌, ◌<◌, ◌≤◌, ℕ, ◌+◌, List, [], ◌∷◌, ◌++◌, Bool, true, false, Option, Some, None}
use Rattle.std.proofs.Common.{length, get_or, map, take, refl, sym, ap, ◌∙◌, subst, arith, append_assoc, ◌⊎◌, inl, inr}
use Rattle.std.specs.Prelude.{slice_get, slice_set, nat_eq, if◌then◌else◌}
use Rattle.std.proofs.Math.Nat.{eq-or-lt_of_le}
use Rattle.std.proofs.lemmas.Bool.{cases_lt}
use Rattle.std.proofs.lemmas.Bool.Decides.{nat_tests}
use Rattle.pg_script.proofs.PgWorldPackets.Turning.{set_here, set_other}
use Rattle.std.proofs.Math.ListN.{set}
use Rattle.std.proofs.lemmas.List.{append-nil, get_or_append_left, get_or_at, length-set, length_push, map_push}
use Rattle.std.proofs.lemmas.List.FromFn.{map-range_with_len_more}
use Rattle.std.specs.Global.{Vec}
use Rattle.std.specs.List.{range_with_len}
use Rattle.std.proofs.lemmas.Option.{slice_get_within, slice_get-get_or, get_or_from_slice_get}
use Rattle.pg_explore.specs.declared.plan.Plan.{Plan}
use Rattle.pg_explore.specs.declared.plan.Planned.{Planned}
use Rattle.pg_script.specs.declared.script.ScriptLine.{ScriptLine}
use Rattle.pg_script.specs.Scripts.{lines_in}
use Rattle.pg_explore_survey.specs.Scenarios.{AddPlans, AreCommands, ArePlans, command_lines}
use Rattle.pg_explore_survey.specs.Scenarios.{is_other, other_in, planned_act, planned_at, planned_of}

planned_more : (place : ℕ) (lines : List ScriptLine) (line : ScriptLine) → planned_at place (lines ++ line ∷ []) ≡ planned_at place lines ++ planned_act place line.act
planned_more place [] line = append-nil (planned_act place line.act)
planned_more place (first ∷ lines) line = ap (λ (xs : List Planned). planned_act place first.act ++ xs) (planned_more place lines line) ∙ sym (append_assoc (planned_act place first.act) (planned_at place lines) (planned_act place line.act))

pub plans_more : (lines : List ScriptLine) (line : ScriptLine) (old new : List Plan) → ArePlans lines old → AddPlans (λ place. planned_act place line.act) old new → ArePlans (lines ++ line ∷ []) new
plans_more lines line old new h adds = record {
  is = λ place plan at.
      let before = get_or old place plan in
      let there : slice_get old place ≡ Some before = slice_get-get_or old place plan (let l = slice_get_within new place plan at in omega (arith, adds.len)) in
      adds.is place before plan there at ∙ ap (λ (xs : List Planned). xs ++ planned_act place line.act) (h.is place before there) ∙ sym (planned_more place lines line);
}

same_plan : (a b : Plan) → Some a ≡ Some b → a ≡ b
same_plan a b e = cc

at_node : (i place : ℕ) (step : Planned) → place ≡ i → planned_of i step place ≡ step ∷ []
at_node i place step e = ap (λ (b : Bool). if b then step ∷ [] else []) (is_it i place e)
  where
    is_it : (i place : ℕ) → place ≡ i → nat_eq i place ≡ true
    is_it i place e = grind (arith, nat_tests)

elsewhere : (i place : ℕ) (step : Planned) → place ≢ i → planned_of i step place ≡ []
elsewhere i place step n = ap (λ (b : Bool). if b then step ∷ [] else []) (is_not i place n)
  where
    is_not : (i place : ℕ) → place ≢ i → nat_eq i place ≡ false
    is_not i place n = grind (arith, nat_tests)

is_same : (i j : ℕ) → (j ≡ i) ⊎ (j ≢ i)
is_same i j = elim (cases_lt i j) as (λ _. (j ≡ i) ⊎ (j ≢ i)) [
  | inl l ↦ inr (λ e. absurd (omega arith))
  | inr l ↦ elim (eq-or-lt_of_le l) as (λ _. (j ≡ i) ⊎ (j ≢ i)) [ inl e ↦ inl e | inr m ↦ inr (λ e. absurd (omega arith)) ]
]

-- nothing is planned of a node that stays as it is
stays : (place : ℕ) (more : List Planned) (before after : Plan) → more ≡ [] → before ≡ after → after.steps.items ≡ before.steps.items ++ more
stays place more before after none e = ap (λ (p : Plan). p.steps.items) (sym e) ∙ sym (append-nil before.steps.items) ∙ ap (λ (xs : List Planned). before.steps.items ++ xs) (sym none)

-- one node has one step more
pub plan_added : (plans : List Plan) (i : ℕ) (step : Planned) (plan new : Plan) → i < length plans → plan ≡ get_or plans i plan → new.steps.items ≡ plan.steps.items ++ step ∷ []
    → AddPlans (planned_of i step) plans (slice_set plans i new)
plan_added plans i step plan new l here is = record {
  len = length-set plans i new;
  is = λ place before after at there. elim (is_same i place) as (λ _. after.steps.items ≡ before.steps.items ++ planned_of i step place) [
    | inl e ↦
        let was : before ≡ plan = sym (get_or_from_slice_get plans place before plan at) ∙ ap (λ (p : ℕ). get_or plans p plan) e ∙ sym here in
        let now : new ≡ after = set_here plans i new after (subst (λ (p : ℕ). slice_get (slice_set plans i new) p ≡ Some after) e there) in
        ap (λ (p : Plan). p.steps.items) (sym now) ∙ is ∙ ap (λ (p : Plan). p.steps.items ++ step ∷ []) (sym was) ∙ ap (λ (xs : List Planned). before.steps.items ++ xs) (sym (at_node i place step e))
    | inr n ↦ stays place (planned_of i step place) before after (elsewhere i place step n) (same_plan before after (sym at ∙ sym (set_other plans i place new n) ∙ there))
  ];
}

-- no node of this place is there
pub none_added : (plans : List Plan) (i : ℕ) (step : Planned) → length plans ≤ i → AddPlans (planned_of i step) plans plans
none_added plans i step l = record {
  len = refl;
  is = λ place before after at there.
      stays place (planned_of i step place) before after (elsewhere i place step (λ e. absurd (let m = slice_get_within plans place before at in omega arith))) (same_plan before after (sym at ∙ there));
}

-- nothing is planned
pub nothing_added : (more : ℕ → List Planned) (plans : List Plan) → ((place : ℕ) → more place ≡ []) → AddPlans more plans plans
nothing_added more plans none = record { len = refl; is = λ place before after at there. stays place (more place) before after (none place) (same_plan before after (sym at ∙ there)) }

-- so many plans without a step
pub record AreEmpty (plans : List Plan) : Type 0 where
  pub is : (place : ℕ) (plan : Plan) → slice_get plans place ≡ Some plan → plan.steps.items ≡ []

pub empty_first : AreEmpty []
empty_first = record { is = λ place plan at. absurd (cc) }

pub empty_more : (plans : List Plan) (plan : Plan) → AreEmpty plans → plan.steps.items ≡ [] → AreEmpty (plans ++ plan ∷ [])
empty_more plans plan h e = record {
  is = λ place other at.
      let is = get_or_from_slice_get (plans ++ plan ∷ []) place other other at in
      let l = slice_get_within (plans ++ plan ∷ []) place other at in
      elim (cases_lt place (length plans)) as (λ _. other.steps.items ≡ []) [
        | inl m ↦ h.is place other (slice_get-get_or plans place other m ∙ ap Some (sym (get_or_append_left plans (plan ∷ []) other place m) ∙ is))
        | inr m ↦ ap (λ (p : Plan). p.steps.items) (sym is ∙ get_or_at plans plan [] other place (omega (arith, length_push plans plan))) ∙ e
      ];
}

pub are_none : (plans : List Plan) → AreEmpty plans → ArePlans [] plans
are_none plans h = record { is = h.is }

-- ---- lines of other forms

-- the first line of another form is that of the lines that are left
pub record Looked (text : List ℕ) (number : ℕ) (left : List (List ℕ)) : Type 0 where
  pub found : other_in (number + 1) left ≡ other_in 1 (lines_in text)
  pub count : number + length left ≡ length (lines_in text)

pub looked_first : (text : List ℕ) → Looked text 0 (lines_in text)
looked_first text = record { found = refl; count = omega arith }

other_by : (b : Bool) (number : ℕ) (rest : Option ℕ) → b ≡ false → (if b then Some number else rest) ≡ rest
other_by true number rest e = absurd (cc)
other_by false number rest e = refl

this_by : (b : Bool) (number : ℕ) (rest : Option ℕ) → b ≡ true → (if b then Some number else rest) ≡ Some number
this_by true number rest e = refl
this_by false number rest e = absurd (cc)

pub looked_on : (text : List ℕ) (number : ℕ) (left behind : List (List ℕ)) (line : List ℕ) → Looked text number left → left ≡ line ∷ behind → is_other line ≡ false → Looked text (number + 1) behind
looked_on text number left behind line h first none = record {
  found = sym (other_by (is_other line) (number + 1) (other_in (number + 1 + 1) behind) none) ∙ sym (ap (other_in (number + 1)) first) ∙ h.found;
  count = let c = h.count in let l = ap length first in omega arith;
}

pub looked_found : (text : List ℕ) (number : ℕ) (left behind : List (List ℕ)) (line : List ℕ) → Looked text number left → left ≡ line ∷ behind → is_other line ≡ true → Some (number + 1) ≡ other_in 1 (lines_in text)
looked_found text number left behind line h first this =
    sym (this_by (is_other line) (number + 1) (other_in (number + 1 + 1) behind) this) ∙ sym (ap (other_in (number + 1)) first) ∙ h.found

pub looked_over : (text : List ℕ) (number : ℕ) (left : List (List ℕ)) → Looked text number left → left ≡ [] → None ≡ other_in 1 (lines_in text)
looked_over text number left h over = sym (ap (other_in (number + 1)) over) ∙ h.found

-- ---- lines of commands

-- those of one more node
pub commands_more : (lines : List ScriptLine) (n : ℕ) (commands : List (Vec ℕ)) (row : Vec ℕ) → AreCommands lines n commands → row.items ≡ command_lines n lines
    → AreCommands lines (n + 1) (commands ++ row ∷ [])
commands_more lines n commands row h e =
    let f : ℕ → List ℕ = λ (place : ℕ). command_lines place lines in
    map_push (λ (places : Vec ℕ). places.items) commands row ∙ ap (λ (xs : List (List ℕ)). xs ++ row.items ∷ []) h ∙ ap (λ (x : List ℕ). map f (range_with_len 0 n) ++ x ∷ []) e
    ∙ sym (map-range_with_len_more f 0 n n (omega arith))
