-- Whether a list of groups names one twice.
use Rattle.std.proofs.Common.{◌≡◌, ℕ, zero, suc, ◌+◌, ◌<◌, Bool, true, false, cond, List, [], ◌∷◌}
use Rattle.std.proofs.Common.{◌++◌, length, get_or, take, refl, sym, ap, ◌∙◌, arith, length-append}
use Rattle.std.specs.Prelude.{◌&&◌, ◌||◌, not}
use Rattle.std.specs.List.{list_any}
use Rattle.std.specs.Ordering.{is_eq}
use Rattle.std.specs.declared.cmp.Ordering.{Ordering}
use Rattle.std.specs.declared.cmp.Ordering.TheVariants.{Less, Equal, Greater}
use Rattle.std.proofs.Math.Seq.{get_or-append_seam, take-append_seam}
use Rattle.std.proofs.lemmas.List.{take_more}
use Rattle.pg_term.specs.declared.pid.Pid.{Pid}
use Rattle.pg_term.specs.declared.term.Term.{Term}
use Rattle.pg_term.specs.Same.{same_term, term_cmp}
use Rattle.pg_term.specs.contracts.term.TermEq.TheImpl.Laws as equal_laws
use Rattle.pg_term.specs.contracts.term.TermOrd.TheImpl.Laws as order_laws
use Rattle.pg_message_types.specs.Groups.{is_less, is_ascending}
use Rattle.pg_message_types.specs.Reading.{Groups, is_named_once}

-- whether the name is among those of groups
abbrev pub is_among : Term → Groups → Bool
is_among name groups = list_any (λ group. same_term group.0 name) groups

turned : (x y : Term) → same_term x y ≡ same_term y x
turned x y = equal_laws.laws-law.symm x y

tied : (x y : Term) → same_term x y ≡ is_eq (term_cmp x y)
tied x y = order_laws.matches_eq-law x y

less_if : (o : Ordering) → is_less o ≡ true → o ≡ Less
less_if Less e = refl
less_if Equal e = absurd cc
less_if Greater e = absurd cc

left : (a b : Bool) → a && b ≡ true → a ≡ true
left true b e = refl
left false b e = absurd cc

right : (a b : Bool) → a && b ≡ true → b ≡ true
right true b e = e
right false b e = absurd cc

-- fewer than two groups ascend
pub few_ascend : (gs : Groups) → length gs < 2 → is_ascending gs ≡ true
few_ascend [] h = refl
few_ascend (g ∷ []) h = refl
few_ascend (g ∷ f ∷ gs) h = absurd (omega arith)

apart : (n m : Term) → term_cmp n m ≡ Less → same_term m n ≡ false
apart n m h = turned m n ∙ tied n m ∙ ap is_eq h

-- what is less than the first of ascending groups is none of them
none_above : (n : Term) (g : Term × List Pid) (gs : Groups) → term_cmp n g.0 ≡ Less → is_ascending (g ∷ gs) ≡ true → is_among n (g ∷ gs) ≡ false
none_above n g [] h e = ap (λ (b : Bool). b || false) (apart n g.0 h)
none_above n g (f ∷ gs) h e =
    let next = less_if (term_cmp g.0 f.0) (left (is_less (term_cmp g.0 f.0)) (is_ascending (f ∷ gs)) e) in
    (λ i. apart n g.0 h i || none_above n f gs (order_laws.total-law.trans n g.0 f.0 h next) (right (is_less (term_cmp g.0 f.0)) (is_ascending (f ∷ gs)) e) i)

pub ascending_once : (gs : Groups) → is_ascending gs ≡ true → is_named_once gs ≡ true
ascending_once [] e = refl
ascending_once (g ∷ []) e = refl
ascending_once (g ∷ f ∷ gs) e =
    let next = less_if (term_cmp g.0 f.0) (left (is_less (term_cmp g.0 f.0)) (is_ascending (f ∷ gs)) e) in
    let rest = right (is_less (term_cmp g.0 f.0)) (is_ascending (f ∷ gs)) e in
    (λ i. not (none_above g.0 f gs next rest i) && ascending_once (f ∷ gs) rest i)

-- ---- one group more

or_false : (b : Bool) → b || false ≡ b
or_false true = refl
or_false false = refl

none_left : (a b : Bool) → a || b ≡ false → a ≡ false
none_left true b e = absurd cc
none_left false b e = refl

none_right : (a b : Bool) → a || b ≡ false → b ≡ false
none_right true b e = absurd cc
none_right false b e = e

among_push : (n : Term) (gs : Groups) (g : Term × List Pid) → is_among n (gs ++ g ∷ []) ≡ is_among n gs || same_term g.0 n
among_push n [] g = or_false (same_term g.0 n)
among_push n (f ∷ gs) g = ap (λ (b : Bool). same_term f.0 n || b) (among_push n gs g) ∙ grouped (same_term f.0 n) (is_among n gs) (same_term g.0 n)
  where
    grouped : (a b c : Bool) → a || (b || c) ≡ (a || b) || c
    grouped true b c = refl
    grouped false b c = refl

once_push : (gs : Groups) (g : Term × List Pid) → is_named_once gs ≡ true → is_among g.0 gs ≡ false → is_named_once (gs ++ g ∷ []) ≡ true
once_push [] g e h = refl
once_push (f ∷ gs) g e h =
    let alone = left (not (is_among f.0 gs)) (is_named_once gs) e in
    let first : not (is_among f.0 (gs ++ g ∷ [])) ≡ true =
    ap not (among_push f.0 gs g ∙ (λ i. is_among f.0 gs || (turned g.0 f.0 ∙ none_left (same_term f.0 g.0) (is_among g.0 gs) h) i)) ∙ ap not (or_false (is_among f.0 gs)) ∙ alone in
    (λ i. first i && once_push gs g (right (not (is_among f.0 gs)) (is_named_once gs) e) (none_right (same_term f.0 g.0) (is_among g.0 gs) h) i)

pub once_more : (gs : Groups) (i : ℕ) (g : Term × List Pid) → i < length gs → g ≡ get_or gs i g → is_named_once (take i gs) ≡ true → is_among g.0 (take i gs) ≡ false → is_named_once (take (i + 1) gs) ≡ true
once_more gs i g h is e none =
    ap is_named_once (take_more gs i g h ∙ ap (λ (f : Term × List Pid). take i gs ++ f ∷ []) (sym is)) ∙ once_push (take i gs) g e none

among_more : (gs : Groups) (i : ℕ) (g : Term × List Pid) → i < length gs → g ≡ get_or gs i g → (n : Term) → is_among n (take (i + 1) gs) ≡ is_among n (take i gs) || same_term g.0 n
among_more gs i g h is n =
    ap (is_among n) (take_more gs i g h ∙ ap (λ (f : Term × List Pid). take i gs ++ f ∷ []) (sym is)) ∙ among_push n (take i gs) g

swapped : (a b : Bool) → cond a true b ≡ b || a
swapped true true = refl
swapped true false = refl
swapped false true = refl
swapped false false = refl

-- a set that has the names so far has one more
pub told_more : (gs : Groups) (i : ℕ) (g : Term × List Pid) → i < length gs → g ≡ get_or gs i g → (n : Term) (new old : Bool) → new ≡ cond (is_eq (term_cmp g.0 n)) true old → old ≡ is_among n (take i gs) → new ≡ is_among n (take (i + 1) gs)
told_more gs i g h is n new old e before =
    e ∙ (λ k. cond (sym (tied g.0 n) k) true (before k)) ∙ swapped (same_term g.0 n) (is_among n (take i gs)) ∙ sym (among_more gs i g h is n)

-- the same of groups before one more
pub told_push : (gs : Groups) (g : Term × List Pid) (n : Term) (new old : Bool) → new ≡ cond (is_eq (term_cmp g.0 n)) true old → old ≡ is_among n gs → new ≡ is_among n (gs ++ g ∷ [])
told_push gs g n new old e before = e ∙ (λ k. cond (sym (tied g.0 n) k) true (before k)) ∙ swapped (same_term g.0 n) (is_among n gs) ∙ sym (among_push n gs g)

-- ---- a group that is named again

here : (gs : Groups) (i : ℕ) (g : Term × List Pid) → i < length gs → g ≡ get_or gs i g → (n : Term) → same_term g.0 n ≡ true → is_among n gs ≡ true
here [] i g h is n e = absurd (omega arith)
here (f ∷ gs) zero g h is n e = ap (λ (b : Bool). b || is_among n gs) (ap (λ (x : Term × List Pid). same_term x.0 n) (sym is) ∙ e)
here (f ∷ gs) (suc i) g h is n e = ap (λ (b : Bool). same_term f.0 n || b) (here gs i g (omega arith) is n e) ∙ or_true (same_term f.0 n)
  where
    or_true : (b : Bool) → b || true ≡ true
    or_true true = refl
    or_true false = refl

and_false : (b : Bool) → b && false ≡ false
and_false true = refl
and_false false = refl

again : (f g : Term × List Pid) (gs : Groups) (i : ℕ) → i < length gs → g ≡ get_or gs i g → (is_among g.0 (take i gs) ≡ true → is_named_once gs ≡ false)
    → (b : Bool) → same_term f.0 g.0 ≡ b → is_among g.0 (f ∷ take i gs) ≡ true → is_named_once (f ∷ gs) ≡ false
again f g gs i h is later true same e = ap (λ (b : Bool). not b && is_named_once gs) (here gs i g h is f.0 (turned g.0 f.0 ∙ same))
again f g gs i h is later false other e =
    ap (λ (b : Bool). not (is_among f.0 gs) && b) (later (ap (λ (b : Bool). b || is_among g.0 (take i gs)) (sym other) ∙ e)) ∙ and_false (not (is_among f.0 gs))

pub twice : (gs : Groups) (i : ℕ) (g : Term × List Pid) → i < length gs → g ≡ get_or gs i g → is_among g.0 (take i gs) ≡ true → is_named_once gs ≡ false
twice [] i g h is e = absurd (omega arith)
twice (f ∷ gs) zero g h is e = absurd cc
twice (f ∷ gs) (suc i) g h is e = again f g gs i (omega arith) is (twice gs i g (omega arith) is) (same_term f.0 g.0) (λ _. same_term f.0 g.0) e

-- the same of groups between others
pub told_again : (gs : Groups) (g : Term × List Pid) (later : Groups) → is_among g.0 gs ≡ true → is_named_once (gs ++ g ∷ later) ≡ false
told_again gs g later e =
    twice (gs ++ g ∷ later) (length gs) g (omega (arith, length-append gs (g ∷ later))) (sym (get_or-append_seam gs g later g)) (ap (is_among g.0) (take-append_seam gs (g ∷ later)) ∙ e)

not_true : (b : Bool) → not b ≡ true → b ≡ false
not_true true e = absurd cc
not_true false e = refl

not_false : (b : Bool) → not b ≡ false → b ≡ true
not_false true e = refl
not_false false e = absurd cc

pub was_new : (added found : Bool) → added ≡ not found → added ≡ true → found ≡ false
was_new added found e h = not_true found (sym e ∙ h)

pub was_there : (added found : Bool) → added ≡ not found → added ≡ false → found ≡ true
was_there added found e h = not_false found (sym e ∙ h)
