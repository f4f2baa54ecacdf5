-- The law of changes in turn, of src/laws.rt.
use Rattle.std.proofs.Common.{◌≡◌, ◌≤◌, ◌+◌, ℕ, suc, List, [], ◌∷◌, ◌++◌, Some, None, Option, Bool, true, false, ap, sym, ◌∙◌, refl, append-nil, append_assoc, length, nat_lt, arith, cond, min, ◌-◌, ◌^◌, ltb-true, length-append}
use Rattle.std.specs.Prelude.{option_to_list}
use Rattle.std.proofs.lemmas.List.Sums.{sum_by-cons}
use Rattle.pg_node_process.specs.declared.desk.Numbered.{Numbered}
use Rattle.pg_node_process.specs.Desks.{Port, Happening, Asked, Changing, Handed, Answered, ChangesInTurn, all_in, all_numbers, all_out, handed_by, let_in, let_out, next_number, nothing_came, numbered_by, numbers_behind, port_after, port_at_last, requests_by, requests_in, rest_by}

-- one thing that happens
one_in_turn : (port : Port) (happening : Happening) → let_out port happening ++ (port_after port happening).waiting ≡ port.waiting ++ let_in port happening
one_in_turn port Asked = sym (append-nil port.waiting)
one_in_turn port Answered = sym (append-nil port.waiting)
one_in_turn port Handed = go port.current port.waiting
  where
    go : (current : Option Numbered) (waiting : List Numbered) → option_to_list (handed_by current waiting) ++ (rest_by (handed_by current waiting) (record port { current = current; waiting = waiting })).waiting ≡ waiting ++ []
    go (Some change) waiting = sym (append-nil waiting)
    go None [] = refl
    go None (change ∷ changes) = ap (λ (later : List Numbered). change ∷ later) (sym (append-nil changes))
one_in_turn port (Changing command) = go (nat_lt (length port.waiting) 1024)
  where
    change : Numbered
    change = record { number = next_number port; command = command }

    go : (b : Bool) → (cond b (record port { came = next_number port; waiting = port.waiting ++ change ∷ [] }) (record port { came = next_number port })).waiting ≡ port.waiting ++ cond b (change ∷ []) []
    go true = refl
    go false = sym (append-nil port.waiting)

in_turn : (happenings : List Happening) (port : Port) → all_out port happenings ++ (port_at_last port happenings).waiting ≡ port.waiting ++ all_in port happenings
in_turn [] port = sym (append-nil port.waiting)
in_turn (happening ∷ later) port =
    append_assoc (let_out port happening) (all_out (port_after port happening) later) (port_at_last port (happening ∷ later)).waiting
    ∙ (ap (λ (rest : List Numbered). let_out port happening ++ rest) (in_turn later (port_after port happening))
    ∙ (sym (append_assoc (let_out port happening) (port_after port happening).waiting (all_in (port_after port happening) later))
    ∙ (ap (λ (first : List Numbered). first ++ all_in (port_after port happening) later) (one_in_turn port happening)
    ∙ append_assoc port.waiting (let_in port happening) (all_in (port_after port happening) later))))

-- how many wait
one_more_waits : (waiting : List Numbered) (change : Numbered) → nat_lt (length waiting) 1024 ≡ true → length (waiting ++ change ∷ []) ≤ 1024
one_more_waits waiting change few = let low = ltb-true (length waiting) 1024 few in let count = length-append waiting (change ∷ []) in omega (arith, low, count)

few_after : (port : Port) (happening : Happening) → length port.waiting ≤ 1024 → length (port_after port happening).waiting ≤ 1024
few_after port Asked few = few
few_after port Answered few = few
few_after port Handed few = go port.current port.waiting few
  where
    go : (current : Option Numbered) (waiting : List Numbered) → length waiting ≤ 1024 → length (rest_by (handed_by current waiting) (record port { current = current; waiting = waiting })).waiting ≤ 1024
    go (Some change) waiting few = few
    go None [] few = few
    go None (change ∷ changes) few = omega (arith, few)
few_after port (Changing command) few = go (nat_lt (length port.waiting) 1024) refl
  where
    change : Numbered
    change = record { number = next_number port; command = command }

    go : (b : Bool) → nat_lt (length port.waiting) 1024 ≡ b
        → length (cond b (record port { came = next_number port; waiting = port.waiting ++ change ∷ [] }) (record port { came = next_number port })).waiting ≤ 1024
    go true low = one_more_waits port.waiting change low
    go false low = few

few_at_last : (happenings : List Happening) (port : Port) → length port.waiting ≤ 1024 → length (port_at_last port happenings).waiting ≤ 1024
few_at_last [] port few = few
few_at_last (happening ∷ later) port few = few_at_last later (port_after port happening) (few_after port happening few)

-- how many came
came_after : (port : Port) (happening : Happening) → port.came ≤ 2 ^ 64 - 1 → (port_after port happening).came ≡ min (port.came + requests_by happening) (2 ^ 64 - 1)
came_after port Asked few = refl
came_after port Answered few = omega (arith, few)
came_after port Handed few = go port.current port.waiting
  where
    go : (current : Option Numbered) (waiting : List Numbered) → (rest_by (handed_by current waiting) (record port { current = current; waiting = waiting })).came ≡ min (port.came + 0) (2 ^ 64 - 1)
    go (Some change) waiting = omega (arith, few)
    go None [] = omega (arith, few)
    go None (change ∷ changes) = omega (arith, few)
came_after port (Changing command) few = go (nat_lt (length port.waiting) 1024)
  where
    change : Numbered
    change = record { number = next_number port; command = command }

    go : (b : Bool) → (cond b (record port { came = next_number port; waiting = port.waiting ++ change ∷ [] }) (record port { came = next_number port })).came ≡ min (port.came + 1) (2 ^ 64 - 1)
    go true = refl
    go false = refl

came_at_last : (happenings : List Happening) (port : Port) → port.came ≤ 2 ^ 64 - 1 → (port_at_last port happenings).came ≡ min (port.came + requests_in happenings) (2 ^ 64 - 1)
came_at_last [] port few = omega (arith, few)
came_at_last (happening ∷ later) port few =
    let next = came_after port happening few in
    let rest = came_at_last later (port_after port happening) (omega (arith, next)) in
    let count = sum_by-cons requests_by happening later in
    omega (arith, few, next, rest, count)

-- the numbers that they get
next_numbers : (port : Port) (came n : ℕ) → came ≡ min (port.came + 1) (2 ^ 64 - 1) → port.came + (1 + n) ≤ 2 ^ 64 - 1 → next_number port ∷ numbers_behind came n ≡ numbers_behind port.came (1 + n)
next_numbers port came n is few =
    let next : next_number port ≡ port.came + 1 = omega (arith, few) in
    let same : came ≡ port.came + 1 = omega (arith, is, few) in
    let one : suc n ≡ 1 + n = omega arith in
    ap (λ (number : ℕ). number ∷ numbers_behind came n) next ∙ (ap (λ (last : ℕ). (port.came + 1) ∷ numbers_behind last n) same ∙ ap (numbers_behind port.came) one)

no_numbers : (port : Port) (came n : ℕ) → came ≡ port.came → numbers_behind came n ≡ numbers_behind port.came (0 + n)
no_numbers port came n same = let none : n ≡ 0 + n = omega arith in ap (λ (last : ℕ). numbers_behind last n) same ∙ ap (numbers_behind port.came) none

first_numbers : (port : Port) (happening : Happening) (came n : ℕ) → came ≡ min (port.came + requests_by happening) (2 ^ 64 - 1) → port.came + (requests_by happening + n) ≤ 2 ^ 64 - 1
    → numbered_by port happening ++ numbers_behind came n ≡ numbers_behind port.came (requests_by happening + n)
first_numbers port Asked came n is few = next_numbers port came n is few
first_numbers port (Changing command) came n is few = next_numbers port came n is few
first_numbers port Handed came n is few = no_numbers port came n (omega (arith, is, few))
first_numbers port Answered came n is few = no_numbers port came n (omega (arith, is, few))

numbers_are : (happenings : List Happening) (port : Port) → port.came + requests_in happenings ≤ 2 ^ 64 - 1 → all_numbers port happenings ≡ numbers_behind port.came (requests_in happenings)
numbers_are [] port few = refl
numbers_are (happening ∷ later) port few =
    let count = sum_by-cons requests_by happening later in
    let came = came_after port happening (omega (arith, few)) in
    let rest = numbers_are later (port_after port happening) (omega (arith, few, count, came)) in
    ap (λ (others : List ℕ). numbered_by port happening ++ others) rest
    ∙ (first_numbers port happening (port_after port happening).came (requests_in later) came (omega (arith, few, count))
    ∙ ap (numbers_behind port.came) (sym count))

pub changes_in_turn : (happenings : List Happening) → ChangesInTurn happenings
changes_in_turn happenings = record {
  order = in_turn happenings nothing_came;
  few = few_at_last happenings nothing_came (omega arith);
  counted = let came = came_at_last happenings nothing_came (omega arith) in omega (arith, came);
  numbers = λ few. numbers_are happenings nothing_came (omega (arith, few));
}
