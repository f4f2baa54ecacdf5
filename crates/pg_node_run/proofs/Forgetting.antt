-- Pauses of commands of which answers are handed over.
use Rattle.std.proofs.Common.{◌≡◌, ◌≢◌, ◌<◌, ◌+◌, ◌∙◌, ◌⊎◌, ℕ, get_or, length}
use Rattle.std.proofs.Common.{List, [], ◌∷◌, ◌++◌, refl, sym, ap, subst, inl, inr, append_assoc, append-nil}
use Rattle.std.specs.Prelude.{Bool, true, false, nat_eq, slice_set, ◌||◌, Option, None, Some}
use Rattle.std.proofs.lemmas.Bool.{cases_eq, eq-eqb, eqb-true}
use Rattle.std.proofs.lemmas.List.{get_or-set_same, get_or-set_other, get_or_default}
use Rattle.pg_node_run.specs.declared.pauses.Pauses.{Pauses}
use Rattle.pg_node_run.specs.declared.port.Port.{Port}
use Rattle.pg_node_run.specs.Pauses.{wait_of}
use Rattle.pg_node_run.specs.Ports.{ForgetsHanded, HandsMore, HandsNext, handed, handed_count, has_number, was_handed}
use Rattle.pg_node_run.specs.Served.{AllForgetHanded}
use Rattle.pg_node_run.proofs.Commands.{one_or_other}
use Rattle.pg_node.specs.PgStep.declared.answer.Answer.{Answer}
use Rattle.pg_node.specs.PgStep.declared.command.OpId.{OpId}

-- ---- numbers

number_before : (n : ℕ) (xs : List Answer) (answer : Answer) → has_number n (xs ++ answer ∷ []) ≡ false → has_number n xs ≡ false
number_before n [] answer e = refl
number_before n (x ∷ xs) answer e = go (nat_eq x.number n) e (number_before n xs answer)
  where
    go : (b : Bool) → (b || has_number n (xs ++ answer ∷ [])) ≡ false → (has_number n (xs ++ answer ∷ []) ≡ false → has_number n xs ≡ false) → (b || has_number n xs) ≡ false
    go true e before = absurd (cc)
    go false e before = before e

number_there : (n : ℕ) (xs : List Answer) (answer : Answer) → answer.number ≡ n → has_number n (xs ++ answer ∷ []) ≡ true
number_there n [] answer is = ap (λ b. b || false) (eq-eqb answer.number n is)
number_there n (x ∷ xs) answer is = go (nat_eq x.number n) (number_there n xs answer is)
  where
    go : (b : Bool) → has_number n (xs ++ answer ∷ []) ≡ true → (b || has_number n (xs ++ answer ∷ [])) ≡ true
    go true there = refl
    go false there = there

number_either : (n : ℕ) (xs ys : List Answer) → has_number n (xs ++ ys) ≡ true → (has_number n xs ≡ true) ⊎ (has_number n ys ≡ true)
number_either n [] ys e = inr e
number_either n (x ∷ xs) ys e = go (nat_eq x.number n) e (number_either n xs ys)
  where
    go : (b : Bool) → (b || has_number n (xs ++ ys)) ≡ true → (has_number n (xs ++ ys) ≡ true → (has_number n xs ≡ true) ⊎ (has_number n ys ≡ true))
        → ((b || has_number n xs) ≡ true) ⊎ (has_number n ys ≡ true)
    go true e step = inl refl
    go false e step = step e

number_is : (n : ℕ) (answer : Answer) → has_number n (answer ∷ []) ≡ true → answer.number ≡ n
number_is n answer e = eqb-true answer.number n (go (nat_eq answer.number n) e)
  where
    go : (b : Bool) → (b || false) ≡ true → b ≡ true
    go true e = refl
    go false e = e

-- ---- what is handed over, and one command

more_none : (op : OpId) (a : Port) (p : Pauses) → HandsMore op a a p
more_none op a p = record { more = []; handed = sym (append-nil (handed a)); forgotten = λ e. absurd (cc) }

more_same : (op : OpId) (a b c : Port) (p : Pauses) → HandsMore op a b p → handed c ≡ handed b → HandsMore op a c p
more_same op a b c p h same = record { more = h.more; handed = same ∙ h.handed; forgotten = h.forgotten }

pub more_before : (op : OpId) (a b c : Port) (p : Pauses) → handed b ≡ handed a → HandsMore op b c p → HandsMore op a c p
more_before op a b c p same h = record { more = h.more; handed = h.handed ∙ ap (λ xs. xs ++ h.more) same; forgotten = h.forgotten }

more_on : (op : OpId) (a b c : Port) (q r : Pauses) → HandsMore op a b q → HandsMore op b c r → (wait_of q op ≡ None → wait_of r op ≡ None) → HandsMore op a c r
more_on op a b c q r h k still = record {
  more = h.more ++ k.more;
  handed = k.handed ∙ (ap (λ xs. xs ++ k.more) h.handed ∙ append_assoc (handed a) h.more k.more);
  forgotten = λ e. go (number_either op.number h.more k.more e);
}
  where
    go : (has_number op.number h.more ≡ true) ⊎ (has_number op.number k.more ≡ true) → wait_of r op ≡ None
    go (inl e) = still (h.forgotten e)
    go (inr e) = k.forgotten e

-- one answer was, to this command
more_one : (op : OpId) (place number : ℕ) (b c : Port) (r : Pauses) (answer : Answer) → answer.number ≡ number → handed c ≡ handed b ++ answer ∷ []
    → wait_of r (record { port = place; number = number }) ≡ None → op.port ≡ place → HandsMore op b c r
more_one op place number b c r answer is out none here = record {
  more = answer ∷ [];
  handed = out;
  forgotten = λ e. subst (λ (o : OpId). wait_of r o ≡ None) (same (sym (number_is op.number answer e) ∙ is)) none;
}
  where
    same : op.number ≡ number → ◌≡◌ {A = OpId} (record { port = place; number = number }) op
    same e = λ i. record { port = sym here i; number = sym e i }

-- a command that has no pause has none still, where that of one is forgotten
none_still : (op gone : OpId) (q r : Pauses) → wait_of r gone ≡ None → ((other : OpId) → other ≢ gone → wait_of r other ≡ wait_of q other) → wait_of q op ≡ None → wait_of r op ≡ None
none_still op gone q r forgotten others none = go (one_or_other op gone)
  where
    go : (op ≡ gone) ⊎ (op ≢ gone) → wait_of r op ≡ None
    go (inl e) = subst (λ (o : OpId). wait_of r o ≡ None) (sym e) forgotten
    go (inr apart) = others op apart ∙ none

-- ---- one port

pub forgets_none : (place : ℕ) (a : Port) (p : Pauses) → ForgetsHanded place a a p p
forgets_none place a p = record {
  earlier = λ op none. none;
  stays = λ op none. refl;
  gone = λ op here. more_none op a p;
  none = λ op none. none;
}

-- none was handed over
pub forgets_still : (place : ℕ) (a b c : Port) (p q : Pauses) → ForgetsHanded place a b p q → handed c ≡ handed b → ForgetsHanded place a c p q
forgets_still place a b c p q h same = record {
  earlier = λ op none. h.earlier op (ap (has_number op.number) (sym same) ∙ none);
  stays = λ op none. h.stays op (λ is. ap (has_number op.number) (sym same) ∙ none is);
  gone = λ op here. more_same op a b c q (h.gone op here) same;
  none = h.none;
}

-- one was, and the pause of its command is forgotten
forgets_one : (place number : ℕ) (a b c : Port) (p q r : Pauses) (answer : Answer) → ForgetsHanded place a b p q → answer.number ≡ number → handed c ≡ handed b ++ answer ∷ []
    → wait_of r (record { port = place; number = number }) ≡ None → ((other : OpId) → other ≢ record { port = place; number = number } → wait_of r other ≡ wait_of q other)
    → ForgetsHanded place a c p r
forgets_one place number a b c p q r answer h is out forgotten others = record {
  earlier = λ op none. h.earlier op (before op none);
  stays = λ op none. others op (λ e. other_one op (none (ap (λ (o : OpId). o.port) e)) e) ∙ h.stays op (λ here. before op (none here));
  gone = λ op here.
      more_on op a b c q r (h.gone op here) (more_one op place number b c r answer is out forgotten here)
      (none_still op (record { port = place; number = number }) q r forgotten others);
  none = λ op none. none_still op (record { port = place; number = number }) q r forgotten others (h.none op none);
}
  where
    before : (op : OpId) → was_handed op c ≡ false → was_handed op b ≡ false
    before op none = number_before op.number (handed b) answer (ap (has_number op.number) (sym out) ∙ none)

    other_one : (op : OpId) → was_handed op c ≡ false → op ≡ record { port = place; number = number } → ⊥
    other_one op none e =
        let there = number_there op.number (handed b) answer (is ∙ sym (ap (λ (o : OpId). o.number) e)) in
        let not = sym there ∙ (ap (has_number op.number) (sym out) ∙ none) in
        absurd (cc)

pub forgets_next : (place number : ℕ) (next : Option ℕ) (a b c : Port) (p q r : Pauses) → next ≡ Some number → HandsNext next b c → ForgetsHanded place a b p q
    → wait_of r (record { port = place; number = number }) ≡ None → ((other : OpId) → other ≢ record { port = place; number = number } → wait_of r other ≡ wait_of q other)
    → ForgetsHanded place a c p r
forgets_next place number next a b c p q r is hands h forgotten others =
    let one : HandsNext (Some number) b c = subst (λ n. HandsNext n b c) is hands in
    forgets_one place number a b c p q r one.0 h one.1 one.2 forgotten others

-- and one more is counted
pub hands_count : (number : ℕ) (next : Option ℕ) (b c : Port) → next ≡ Some number → HandsNext next b c → handed_count c ≡ handed_count b + 1
hands_count number next b c is hands = let one : HandsNext (Some number) b c = subst (λ n. HandsNext n b c) is hands in one.3

-- ---- all ports

pub all_forget_none : (ports : List Port) (p : Pauses) → AllForgetHanded ports ports p p
all_forget_none ports p = record {
  earlier = λ op none un. un;
  stays = λ op none un. refl;
  gone = λ op none. more_none op (get_or ports op.port none) p;
  none = λ op none. none;
}

pub all_forget_on : (a b c : List Port) (p q r : Pauses) → AllForgetHanded a b p q → AllForgetHanded b c q r → AllForgetHanded a c p r
all_forget_on a b c p q r h k = record {
  earlier = λ op none un. h.earlier op none (k.earlier op none un);
  stays = λ op none un. k.stays op none un ∙ h.stays op none (k.earlier op none un);
  gone = λ op none. more_on op (get_or a op.port none) (get_or b op.port none) (get_or c op.port none) q r (h.gone op none) (k.gone op none) (k.none op);
  none = λ op none. k.none op (h.none op none);
}

pub all_forget_at : (ports : List Port) (k : ℕ) (port port2 : Port) (p q : Pauses) → k < length ports → port ≡ get_or ports k port → ForgetsHanded k port port2 p q
    → AllForgetHanded ports (slice_set ports k port2) p q
all_forget_at ports k port port2 p q within is h = record {
  earlier = λ op none un. go op none un (cases_eq op.port k);
  stays = λ op none un. h.stays op (λ here. at op none un here);
  gone = λ op none. more op none (cases_eq op.port k);
  none = h.none;
}
  where
    more : (op : OpId) (none : Port) → (op.port ≡ k) ⊎ (op.port ≢ k) → HandsMore op (get_or ports op.port none) (get_or (slice_set ports k port2) op.port none) q
    more op none (inl here) =
        subst (λ x. HandsMore op x (get_or (slice_set ports k port2) op.port none) q) (sym (ap (λ j. get_or ports j none) here ∙ sym (is ∙ get_or_default ports k port none within)))
        (subst (λ y. HandsMore op port y q) (sym (ap (λ j. get_or (slice_set ports k port2) j none) here ∙ get_or-set_same ports k port2 none within)) (h.gone op here))
    more op none (inr apart) =
        subst (λ y. HandsMore op (get_or ports op.port none) y q) (sym (get_or-set_other ports k op.port port2 none apart)) (more_none op (get_or ports op.port none) q)

    at : (op : OpId) (none : Port) → was_handed op (get_or (slice_set ports k port2) op.port none) ≡ false → op.port ≡ k → was_handed op port2 ≡ false
    at op none un here = ap (was_handed op) (sym (ap (λ j. get_or (slice_set ports k port2) j none) here ∙ get_or-set_same ports k port2 none within)) ∙ un

    go : (op : OpId) (none : Port) → was_handed op (get_or (slice_set ports k port2) op.port none) ≡ false → (op.port ≡ k) ⊎ (op.port ≢ k) → was_handed op (get_or ports op.port none) ≡ false
    go op none un (inl here) =
        ap (was_handed op) (ap (λ j. get_or ports j none) here ∙ sym (is ∙ get_or_default ports k port none within)) ∙ h.earlier op (at op none un here)
    go op none un (inr apart) = ap (was_handed op) (sym (get_or-set_other ports k op.port port2 none apart)) ∙ un
