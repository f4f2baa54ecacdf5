-- What follows from what a process keeps, in its order: denied changes, and ports that hand over.
use Rattle.std.proofs.Common.{◌≡◌, ◌≢◌, ◌⊎◌, ◌<◌, ◌≤◌, ◌+◌, ◌∙◌, ◌++◌, ℕ, zero, suc, Bool, true, false, not, cond, drop, take, length, nat_lt, List, [], ◌∷◌, Option, Some, None, inl, inr, refl, sym, ap, subst, arith}
use Rattle.std.specs.List.{AllByRecursion}
use Rattle.std.specs.Option.{is_some, option_map}
use Rattle.std.proofs.lemmas.Bool.{cases_eq, le-ltb, lt-ltb, ne_eqb}
use Rattle.pg_node.specs.Nodes.{held_by}
use Rattle.pg_node.specs.PgGroup.Functions.{upd}
use Rattle.pg_node.specs.PgNodeState.Issued.{ports_of}
use Rattle.pg_node.specs.PgNodeState.States.{answers_of}
use Rattle.pg_node.specs.PgStep.declared.answer.Answer.{Answer}
use Rattle.pg_node.specs.PgStep.declared.command.OpId.{OpId}
use Rattle.pg_node_process.specs.declared.desk.Numbered.{Numbered}
use Rattle.pg_node_process.specs.declared.retries.Courtesy.{Courtesy}
use Rattle.pg_node_process.specs.declared.retries.Seen.{Seen}
use Rattle.pg_node_process.specs.Desks.{Handed as Opened, Port, first_of, handed_by, port_after, rest_by, with_answer}
use Rattle.pg_node_process.specs.Outputs.{Output}
use Rattle.pg_node_process.specs.Retries.{after_answer, after_look, gives_way, is_due}
use Rattle.pg_process.specs.declared.process.Process.{Process}
use Rattle.pg_process.specs.Chains.{AllDo, Makes, Rests, Step}
use Rattle.pg_process.specs.Changes.{HandsOver, HasNothing, Retries}
use Rattle.pg_process.specs.Deeds.{Aged, Answered, Answers, Asked, Blamed, Broke, Brought, Crowded, Declined, Deed, Denied, Does, Fed, Formed, Handed, Looked, Queued, Read, Sent, Shared, Timed, Took, Tried}
use Rattle.pg_process.specs.Settled.{KeepsNone, OnlyPort}
use Rattle.pg_process.specs.Situations.{Setting, Situation, at_place, setting_of, situation_of}
use Rattle.pg_process.specs.Turns.{HandsAt, HandsIf, HandsMany, HandsOne, HandsSome, HandsUpTo, HandsWhere, IsSaidAt, Says, SaysAll, TriesAt, TriesEach, TriesIfDue, TriesWhere, has_next, is_free}
use Rattle.pg_process.proofs.Chained.{all_then, goes_on, makes_goes, rests_goes, step_of}
use Rattle.pg_process.proofs.Issuing.{issued_else}
use Rattle.pg_process.proofs.Placed.{placed_else, placed_here}

-- ---- one port

only_same : (port : ℕ) (a b : Situation) → b ≡ a → OnlyPort port a b
only_same port a b is = record {
  ports = λ other n. ap (λ (s : Situation). s.ports other) is;
  courtesies = λ other n. ap (λ (s : Situation). s.courtesies other) is;
  answers = λ other n. ap (λ (s : Situation). s.node.answers other) is;
}

only_then : (port : ℕ) (a b c : Situation) → OnlyPort port a b → OnlyPort port b c → OnlyPort port a c
only_then port a b c p q = record {
  ports = λ other n. q.ports other n ∙ p.ports other n;
  courtesies = λ other n. q.courtesies other n ∙ p.courtesies other n;
  answers = λ other n. q.answers other n ∙ p.answers other n;
}

-- ---- answers at a port

pub says_rests : (port : ℕ) (a b : Process) → Rests a b → Says port a b
says_rests port a b rests = record { steps = []; said = tt; goes = rests_goes a b rests }

pub says_made : (port : ℕ) (answer : Answer) (a b : Process) → Makes (Answered port answer) a b → Says port a b
says_made port answer a b makes = record { steps = step_of (Answered port answer) a b makes ∷ []; said = (refl, tt); goes = makes_goes (Answered port answer) a b makes }

pub says_then : (port : ℕ) (a b c : Process) → Says port a b → Says port b c → Says port a c
says_then port a b c p q = record {
  steps = p.steps ++ q.steps;
  said = all_then (λ (step : Step). IsSaidAt port step.deed) p.steps q.steps p.said q.said;
  goes = goes_on p.steps q.steps a b c p.goes q.goes;
}

-- what it leaves
record SaidOnly (port : ℕ) (a b : Situation) : Type 0 where
  pub only : OnlyPort port a b
  pub waiting : (b.ports port).waiting ≡ (a.ports port).waiting

said_answer : (set : Setting) (port place : ℕ) (answer : Answer) (said : List Output) (a b : Situation) → place ≡ port → Answers set a place answer said b → SaidOnly port a b
unfolding upd
said_answer set port place answer said a b is does = record {
  only = record {
    ports = λ other n. ap (λ (s : Situation). s.ports other) does.after ∙ placed_else a.ports place with_answer other (λ e. n (e ∙ is));
    courtesies = λ other n. ap (λ (s : Situation). s.courtesies other) does.after ∙ placed_else a.courtesies place after_answer other (λ e. n (e ∙ is));
    answers = λ other n. ap (λ (s : Situation). s.node.answers other) does.after
        ∙ ap (λ (c : Bool). cond c (drop 1 (a.node.answers place)) (a.node.answers other)) (ne_eqb place other (λ e. n (sym e ∙ is)));
  };
  waiting = ap (λ (s : Situation). (s.ports port).waiting) does.after
      ∙ subst (λ (k : ℕ). (at_place k with_answer a.ports port).waiting ≡ (a.ports port).waiting) (sym is) (ap (λ (p : Port). p.waiting) (placed_here a.ports port with_answer));
}

said_one : (set : Setting) (port : ℕ) (deed : Deed) (said : List Output) (a b : Situation) → IsSaidAt port deed → Does set a deed said b → SaidOnly port a b
said_one set port (Read body) said a b is does = absurd is
said_one set port Brought said a b is does = absurd is
said_one set port Blamed said a b is does = absurd is
said_one set port Timed said a b is does = absurd is
said_one set port (Shared place) said a b is does = absurd is
said_one set port (Asked place command) said a b is does = absurd is
said_one set port (Queued place command) said a b is does = absurd is
said_one set port (Fed peer bytes) said a b is does = absurd is
said_one set port (Took peer act) said a b is does = absurd is
said_one set port (Broke peer fault) said a b is does = absurd is
said_one set port (Handed place act) said a b is does = absurd is
said_one set port (Declined place refusal) said a b is does = absurd is
said_one set port (Looked place seen is_tick) said a b is does = absurd is
said_one set port (Tried place act) said a b is does = absurd is
said_one set port (Denied place) said a b is does = absurd is
said_one set port (Answered place answer) said a b is does = said_answer set port place answer said a b is does
said_one set port Formed said a b is does = absurd is
said_one set port Aged said a b is does = absurd is
said_one set port (Crowded count) said a b is does = absurd is
said_one set port (Sent peer bytes) said a b is does = absurd is

said_only : (set : Setting) (port : ℕ) (steps : List Step) (a b : Situation) → AllByRecursion (λ (step : Step). IsSaidAt port step.deed) steps → AllDo set a steps b → SaidOnly port a b
said_only set port [] a b said does = record { only = only_same port a b does; waiting = ap (λ (s : Situation). (s.ports port).waiting) does }
said_only set port (step ∷ steps) a b said does =
    let one = said_one set port step.deed step.said a does.0 said.0 does.1 in
    let rest = said_only set port steps does.0 b said.1 does.2 in
    record { only = only_then port a does.0 b one.only rest.only; waiting = rest.waiting ∙ one.waiting }

says_only : (port : ℕ) (a b : Process) → Says port a b → SaidOnly port (situation_of a) (situation_of b)
says_only port a b says = said_only (setting_of a) port says.steps (situation_of a) (situation_of b) says.said says.goes.does

-- ---- a change is handed over

none_some : (o : Option Numbered) (change : Numbered) → o ≡ None → o ≡ Some change → ⊥
none_some None change e h = cc
none_some (Some x) change e h = cc

some_waits : (current : Option Numbered) (waiting : List Numbered) (x : Numbered) → handed_by current waiting ≡ Some x → length (drop 1 waiting) < length waiting
some_waits None [] x is = absurd (cc)
some_waits None (y ∷ ys) x is = omega arith
some_waits (Some y) waiting x is = absurd (cc)

fewer_waiting : (p : Port) (change : Numbered) → p.current ≡ None → (port_after p Opened).current ≡ Some change → length (port_after p Opened).waiting < length p.waiting
fewer_waiting p change free next = by (handed_by p.current p.waiting) refl next
  where
    by : (o : Option Numbered) → handed_by p.current p.waiting ≡ o → (rest_by o p).current ≡ Some change → length (rest_by o p).waiting < length p.waiting
    by None is h = absurd (none_some p.current change free h)
    by (Some x) is h = some_waits p.current p.waiting x is

-- what a hand leaves
record HandOnly (port : ℕ) (a b : Situation) : Type 0 where
  pub only : OnlyPort port a b
  pub fewer : length (b.ports port).waiting < length (a.ports port).waiting

placed_fewer : (port : ℕ) (change : Port → Port) (a b : Situation) → b.ports ≡ at_place port change a.ports → length (change (a.ports port)).waiting < length (a.ports port).waiting
    → length (b.ports port).waiting < length (a.ports port).waiting
placed_fewer port change a b is less =
    subst (λ (p : Port). length p.waiting < length (a.ports port).waiting) (sym (ap (λ (f : ℕ → Port). f port) is ∙ placed_here a.ports port change)) less

hand_only : (port : ℕ) (a b : Process) → HandsOver port true a b → HandOnly port (situation_of a) (situation_of b)
hand_only port a b (inl (act, makes)) =
    let hands = makes.does.1 in
    let opened : Port → Port = λ p. port_after p Opened in
    let next = sym (ap (λ (f : ℕ → Port). (f port).current) hands.ports ∙ ap (λ (p : Port). p.current) (placed_here (situation_of a).ports port opened)) ∙ hands.next in record {
      only = record {
        ports = λ other n. ap (λ (f : ℕ → Port). f other) hands.ports ∙ placed_else (situation_of a).ports port opened other n;
        courtesies = λ other n. ap (λ (f : ℕ → Courtesy). f other) hands.courtesies;
        answers = λ other n. issued_else (setting_of a).names (setting_of a).ports (situation_of a).node act (situation_of b).node port hands.change.command hands.acts.leads hands.given other n;
      };
      fewer = placed_fewer port opened (situation_of a) (situation_of b) hands.ports (fewer_waiting ((situation_of a).ports port) hands.change hands.free next);
    }
hand_only port a b (inr (refusal, makes)) =
    let declines = makes.does in
    let closed : Port → Port = λ p. with_answer (port_after p Opened) in record {
      only = record {
        ports = λ other n. ap (λ (s : Situation). s.ports other) declines.after ∙ placed_else (situation_of a).ports port closed other n;
        courtesies = λ other n. ap (λ (s : Situation). s.courtesies other) declines.after;
        answers = λ other n. ap (λ (s : Situation). s.node.answers other) declines.after;
      };
      fewer = placed_fewer port closed (situation_of a) (situation_of b) (ap (λ (s : Situation). s.ports) declines.after)
          (fewer_waiting ((situation_of a).ports port) declines.change declines.free declines.next);
    }

one_only : (port : ℕ) (a b : Process) → HandsOne port a b → HandOnly port (situation_of a) (situation_of b)
one_only port a b one =
    let hand = hand_only port a one.behind one.hands in
    let said = says_only port one.behind b one.says.says in
    record {
      only = only_then port (situation_of a) (situation_of one.behind) (situation_of b) hand.only said.only;
      fewer = subst (λ (ws : List Numbered). length ws < length ((situation_of a).ports port).waiting) (sym said.waiting) hand.fewer;
    }

-- by each hand fewer wait
pub fewer_wait : (port : ℕ) (a b : Process) → HandsOne port a b → length ((situation_of b).ports port).waiting < length ((situation_of a).ports port).waiting
fewer_wait port a b one = (one_only port a b one).fewer

-- ---- a port has its turn

-- what stands of answers at a port
abbrev pub NoneAt : ℕ → Process → Type 0
NoneAt port a = answers_of (held_by a.node) port ≡ []

-- nothing but the port is another, and no answer is left at it
record Turned (port : ℕ) (a b : Process) : Type 0 where
  pub only : OnlyPort port (situation_of a) (situation_of b)
  pub none : NoneAt port a → NoneAt port b

turned_same : (port : ℕ) (a b : Process) → b ≡ a → Turned port a b
turned_same port a b is = record { only = only_same port (situation_of a) (situation_of b) (ap situation_of is); none = λ none. subst (λ (p : Process). NoneAt port p) (sym is) none }

turned_rests : (port : ℕ) (a b : Process) → Rests a b → Turned port a b
turned_rests port a b rests = record { only = only_same port (situation_of a) (situation_of b) rests.same; none = λ none. ap (λ (s : Situation). s.node.answers port) rests.same ∙ none }

turned_then : (port : ℕ) (a b c : Process) → Turned port a b → Turned port b c → Turned port a c
turned_then port a b c p q = record { only = only_then port (situation_of a) (situation_of b) (situation_of c) p.only q.only; none = λ none. q.none (p.none none) }

some_turned : (count port : ℕ) (a b : Process) → HandsSome count port a b → Turned port a b
some_turned zero port a b hands = turned_same port a b hands
some_turned (suc n) port a b (m, hands, one) = turned_then port a m b (some_turned n port a m hands) (record { only = (one_only port m b one).only; none = λ none. one.says.none })

many_turned : (port : ℕ) (a b : Process) → HandsMany port a b → Turned port a b
many_turned port a b many = turned_then port a many.behind b (some_turned many.count port a many.behind many.hands) (turned_rests port many.behind b many.rests)

looked_turned : (port : ℕ) (seen : Seen) (is_tick : Bool) (a b : Process) → Makes (Looked port seen is_tick) a b → Turned port a b
looked_turned port seen is_tick a b makes = record {
  only = record {
    ports = λ other n. ap (λ (s : Situation). s.ports other) makes.does.2;
    courtesies = λ other n. ap (λ (s : Situation). s.courtesies other) makes.does.2 ∙ placed_else (situation_of a).courtesies port (after_look seen is_tick) other n;
    answers = λ other n. ap (λ (s : Situation). s.node.answers other) makes.does.2;
  };
  none = λ none. ap (λ (s : Situation). s.node.answers port) makes.does.2 ∙ none;
}

-- a port that has no next one keeps none
keeps_busy : (port : ℕ) (a : Situation) → is_free (a.ports port) ≡ false → KeepsNone a port
keeps_busy port a busy = go (a.ports port).current (a.ports port).waiting busy
  where
    go : (current : Option Numbered) (waiting : List Numbered) → has_next current waiting ≡ false → current ≡ None → waiting ≢ [] → gives_way (a.courtesies port) ≡ true
    go None [] h free some = absurd (some refl)
    go None (x ∷ xs) h free some = absurd (cc)
    go (Some x) waiting h free some = absurd (cc)

-- a port that has nothing keeps none
pub keeps_nothing : (port : ℕ) (a : Situation) → HasNothing (a.ports port) → KeepsNone a port
keeps_nothing port a (inl current) free some = absurd (current free)
keeps_nothing port a (inr none) free some = absurd (some none)

pub record PortServed (port : ℕ) (a b : Process) : Type 0 where
  pub only : OnlyPort port (situation_of a) (situation_of b)
  pub none : NoneAt port b
  pub keeps : KeepsNone (situation_of b) port

where_handed : (can : Bool) (port : ℕ) (is_tick : Bool) (a b : Process) → is_free ((situation_of a).ports port) ≡ can → NoneAt port a → HandsWhere can port is_tick a b → PortServed port a b
where_handed true port is_tick a b is none (seen, m, looks, many) =
    let turned = turned_then port a m b (looked_turned port seen is_tick a m looks) (many_turned port m b many) in
    record { only = turned.only; none = turned.none none; keeps = many.none }
where_handed false port is_tick a b is none same =
    let turned = turned_same port a b same in
    record { only = turned.only; none = turned.none none; keeps = subst (λ (p : Process). KeepsNone (situation_of p) port) (sym same) (keeps_busy port (situation_of a) is) }

pub at_handed : (port : ℕ) (is_tick : Bool) (a b : Process) → HandsAt port is_tick a b → PortServed port a b
at_handed port is_tick a b place =
    let said = says_only port a place.behind place.says.says in
    let rest = where_handed (is_free ((situation_of place.behind).ports port)) port is_tick place.behind b refl place.says.none place.hands in
    record { only = only_then port (situation_of a) (situation_of place.behind) (situation_of b) said.only rest.only; none = rest.none; keeps = rest.keeps }

-- ---- one port after another

keeps_else : (port : ℕ) (a b : Situation) → OnlyPort port a b → (other : ℕ) → other ≢ port → KeepsNone a other → KeepsNone b other
keeps_else port a b only other n keeps = λ free some.
    ap gives_way (only.courtesies other n)
    ∙ keeps (sym (ap (λ (p : Port). p.current) (only.ports other n)) ∙ free) (λ none. some (ap (λ (p : Port). p.waiting) (only.ports other n) ∙ none))

pub none_next : (port : ℕ) (is_tick : Bool) (a b : Process) → HandsAt port is_tick a b → ((other : ℕ) → other < port → answers_of (held_by a.node) other ≡ [])
    → (other : ℕ) → other < port + 1 → answers_of (held_by b.node) other ≡ []
none_next port is_tick a b place before other less = go (cases_eq other port)
  where
    handed : PortServed port a b
    handed = at_handed port is_tick a b place

    go : (other ≡ port) ⊎ (other ≢ port) → answers_of (held_by b.node) other ≡ []
    go (inl e) = subst (λ (k : ℕ). answers_of (held_by b.node) k ≡ []) (sym e) handed.none
    go (inr n) = handed.only.answers other n ∙ before other (omega (arith, less, n))

pub keeps_next : (port : ℕ) (is_tick : Bool) (a b : Process) → HandsAt port is_tick a b → ((other : ℕ) → other < port → KeepsNone (situation_of a) other)
    → (other : ℕ) → other < port + 1 → KeepsNone (situation_of b) other
keeps_next port is_tick a b place before other less = go (cases_eq other port)
  where
    handed : PortServed port a b
    handed = at_handed port is_tick a b place

    go : (other ≡ port) ⊎ (other ≢ port) → KeepsNone (situation_of b) other
    go (inl e) = subst (λ (k : ℕ). KeepsNone (situation_of b) k) (sym e) handed.keeps
    go (inr n) = keeps_else port (situation_of a) (situation_of b) handed.only other n (before other (omega (arith, less, n)))

pub hands_next : (port next : ℕ) (is_tick : Bool) (a m b : Process) → next ≡ port + 1 → HandsUpTo port is_tick a m → HandsAt port is_tick m b → HandsUpTo next is_tick a b
hands_next port next is_tick a m b is hands place =
    let step : suc port ≡ port + 1 = omega arith in
    subst (λ (n : ℕ). HandsUpTo n is_tick a b) (step ∙ sym is) (m, hands, place)

-- ---- denied changes, one after another

tries_next : (ops : List OpId) (op : OpId) (is_tick : Bool) (a m b : Process) → TriesEach ops is_tick a m → TriesAt (nat_lt op.port (setting_of m).ports) op is_tick m b → TriesEach (ops ++ op ∷ []) is_tick a b
tries_next [] op is_tick a m b same tries = (b, subst (λ (p : Process). TriesAt (nat_lt op.port (setting_of p).ports) op is_tick p b) same tries, refl)
tries_next (x ∷ xs) op is_tick a m b each tries = (each.0, each.1, tries_next xs op is_tick each.0 m b each.2 tries)

pub tries_more : (so_far next : List OpId) (op : OpId) (is_tick : Bool) (a m b : Process) → next ≡ so_far ++ op ∷ [] → TriesEach so_far is_tick a m
    → TriesAt (nat_lt op.port (setting_of m).ports) op is_tick m b → TriesEach next is_tick a b
tries_more so_far next op is_tick a m b is each tries = subst (λ (ops : List OpId). TriesEach ops is_tick a b) (sym is) (tries_next so_far op is_tick a m b each tries)

-- all that there are
pub take_all : {A : Type 0} (xs : List A) (n : ℕ) → length xs ≤ n → take n xs ≡ xs
take_all [] zero long = refl
take_all [] (suc n) long = refl
take_all (x ∷ xs) zero long = absurd (omega (arith, long))
take_all (x ∷ xs) (suc n) long = ap (λ ys. x ∷ ys) (take_all xs n (omega (arith, long)))

-- ---- one denied change

-- there is no such port
pub tries_nowhere : (op : OpId) (is_tick : Bool) (port : ℕ) (a : Process) → port ≡ op.port → ports_of (held_by a.node) ≤ port → TriesAt (nat_lt op.port (setting_of a).ports) op is_tick a a
tries_nowhere op is_tick port a is none =
    subst (λ (b : Bool). TriesAt b op is_tick a a) (sym (le-ltb op.port (ports_of (held_by a.node)) (omega (arith, is, none)))) refl

tries_there : (op : OpId) (is_tick : Bool) (port : ℕ) (a b : Process) → port ≡ op.port → port < ports_of (held_by a.node) → TriesIfDue op is_tick a b → TriesAt (nat_lt op.port (setting_of a).ports) op is_tick a b
tries_there op is_tick port a b is there tries =
    subst (λ (d : Bool). TriesAt d op is_tick a b) (sym (lt-ltb op.port (ports_of (held_by a.node)) (omega (arith, is, there)))) tries

-- it is not due
pub tries_not : (op : OpId) (is_tick : Bool) (port : ℕ) (seen : Seen) (due : Bool) (a m : Process) → port ≡ op.port → port < ports_of (held_by a.node) → Makes (Looked port seen is_tick) a m
    → due ≡ is_due seen is_tick ((situation_of m).courtesies port) → due ≡ false → TriesAt (nat_lt op.port (setting_of a).ports) op is_tick a m
tries_not op is_tick port seen due a m is there looks by none = tries_there op is_tick port a m is there (record {
  seen = seen;
  behind = m;
  looks = subst (λ (k : ℕ). Makes (Looked k seen is_tick) a m) is looks;
  tries = subst (λ (d : Bool). TriesWhere d op m m) (sym none ∙ (by ∙ ap (λ (k : ℕ). is_due seen is_tick ((situation_of m).courtesies k)) is)) refl;
})

-- it is due
pub tries_now : (op : OpId) (is_tick : Bool) (port : ℕ) (seen : Seen) (due : Bool) (a m t b : Process) → port ≡ op.port → port < ports_of (held_by a.node) → Makes (Looked port seen is_tick) a m
    → due ≡ is_due seen is_tick ((situation_of m).courtesies port) → due ≡ true → ((did : Bool) × Retries op did m t) → SaysAll port t b → TriesAt (nat_lt op.port (setting_of a).ports) op is_tick a b
tries_now op is_tick port seen due a m t b is there looks by holds (did, retries) says = tries_there op is_tick port a b is there (record {
  seen = seen;
  behind = m;
  looks = subst (λ (k : ℕ). Makes (Looked k seen is_tick) a m) is looks;
  tries = subst (λ (d : Bool). TriesWhere d op m b) (sym holds ∙ (by ∙ ap (λ (k : ℕ). is_due seen is_tick ((situation_of m).courtesies k)) is)) (
    t,
    did,
    retries,
    subst (λ (k : ℕ). SaysAll k t b) is says,
  );
})

-- ---- one hand

pub hands_none : (port : ℕ) (did : Bool) (a b : Process) → did ≡ false → HandsOver port did a b → HandsIf port false a b
hands_none port did a b is hands =
    let none : HandsOver port false a b = subst (λ (d : Bool). HandsOver port d a b) is hands in
    (none.0, keeps_nothing port (situation_of b) (subst (λ (s : Situation). HasNothing (s.ports port)) (sym none.0.same) none.1))

pub hands_one : (port : ℕ) (gives did : Bool) (a m b : Process) → gives ≡ gives_way ((situation_of a).courtesies port) → gives ≡ false → did ≡ true → HandsOver port did a m → SaysAll port m b → HandsOne port a b
hands_one port gives did a m b value stays is hands says = record {
  stays = sym value ∙ stays;
  behind = m;
  hands = subst (λ (d : Bool). HandsOver port d a m) is hands;
  says = says;
}

pub hands_some : (port : ℕ) (did : Bool) (a m b : Process) → did ≡ true → ((count : ℕ) × HandsSome count port a m) → HandsIf port did m b → (count : ℕ) × HandsSome count port a b
hands_some port did a m b is (count, some) one = (suc count, (m, some, subst (λ (d : Bool). HandsIf port d m b) is one))

pub hands_many : (port : ℕ) (did : Bool) (a m b : Process) → did ≡ false → ((count : ℕ) × HandsSome count port a m) → HandsIf port did m b → HandsMany port a b
hands_many port did a m b is (count, some) last =
    let none : HandsIf port false m b = subst (λ (d : Bool). HandsIf port d m b) is last in record {
      count = count;
      behind = m;
      hands = some;
      rests = none.0;
      none = none.1;
    }

-- the port is not free
pub hands_not : (port : ℕ) (is_tick free : Bool) (a m : Process) → SaysAll port a m → free ≡ is_free ((situation_of m).ports port) → free ≡ false → HandsAt port is_tick a m
hands_not port is_tick free a m says value none = record {
  behind = m;
  says = says;
  hands = subst (λ (b : Bool). HandsWhere b port is_tick m m) (sym none ∙ value) refl;
}

pub hands_now : (port : ℕ) (is_tick free : Bool) (seen : Seen) (a m l b : Process) → SaysAll port a m → free ≡ is_free ((situation_of m).ports port) → free ≡ true → Makes (Looked port seen is_tick) m l
    → HandsMany port l b → HandsAt port is_tick a b
hands_now port is_tick free seen a m l b says value holds looks many = record {
  behind = m;
  says = says;
  hands = subst (λ (d : Bool). HandsWhere d port is_tick m b) (sym holds ∙ value) (seen, l, looks, many);
}

-- ---- a port that is free

module _ {R : Type 0} (see : R → Numbered) where
  free_front : (front : Option R) (waiting : List Numbered) → option_map see front ≡ first_of waiting → is_some front ≡ has_next None waiting
  free_front None [] is = refl
  free_front None (x ∷ xs) is = absurd (cc)
  free_front (Some r) [] is = absurd (cc)
  free_front (Some r) (x ∷ xs) is = refl

  -- none is with the node
  pub free_then : (current front : Option R) (p : Port) (none some : Bool) → option_map see current ≡ p.current → option_map see front ≡ first_of p.waiting → is_some current ≡ not none → some ≡ is_some front
      → none ≡ true → some ≡ is_free p
  free_then None front p none some is next without witness holds = witness ∙ (free_front front p.waiting next ∙ ap (λ (c : Option Numbered). has_next c p.waiting) is)
  free_then (Some r) front p none some is next without witness holds = absurd (not_so none without holds)
    where
      not_so : (b : Bool) → true ≡ not b → b ≡ true → ⊥
      not_so true h e = cc
      not_so false h e = cc

  -- one is
  pub free_else : (current : Option R) (p : Port) (none : Bool) → option_map see current ≡ p.current → is_some current ≡ not none → none ≡ false → false ≡ is_free p
  free_else None p none is without fails = absurd (not_so none without fails)
    where
      not_so : (b : Bool) → false ≡ not b → b ≡ false → ⊥
      not_so true h e = cc
      not_so false h e = cc
  free_else (Some r) p none is without fails = ap (λ (c : Option Numbered). has_next c p.waiting) is
