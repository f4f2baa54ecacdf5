-- A port that keeps a change hands it over by the second tick: what each deed, and each body, leaves of the ticks at which it gives way.
use Rattle.std.proofs.Common.{◌≡◌, ◌≢◌, ◌⊎◌, ◌≤◌, ◌<◌, ◌∙◌, ◌+◌, ◌++◌, ◌&&◌, ◌∷◌, [], List, ℕ, zero, suc, Bool, true, false, not, cond, nat_eq, nat_lt, nat_le, length, Option, Some, None, inl, inr, refl, sym, ap, subst, arith, true≢false}
use Rattle.std.specs.Prelude.{if◌then◌else◌}
use Rattle.std.specs.List.{AllByRecursion}
use Rattle.std.proofs.lemmas.Bool.{cases_eq, eq-eqb}
use Rattle.std.proofs.lemmas.List.Concat.{flat_map-append}
use Rattle.pg_node.specs.PgStep.StepLaws.{is_query}
use Rattle.pg_node.specs.PgStep.declared.answer.Answer.{Answer}
use Rattle.pg_node.specs.PgStep.declared.command.Command.{Command}
use Rattle.pg_node.specs.PgStep.declared.command.OpId.{OpId}
use Rattle.pg_node_process.specs.Bodies.{body_of}
use Rattle.pg_node_process.specs.Desks.{Answered as Closed, Changing, Handed as Opened, Port, counted, port_after, with_answer, with_waiting}
use Rattle.pg_node_process.specs.Outputs.{Output}
use Rattle.pg_node_process.specs.Retries.{after_answer, after_look, after_share, after_trial, gives_way, ticks_left}
use Rattle.pg_node_process.specs.declared.body.Body.{Body}
use Rattle.pg_node_process.specs.declared.body.Body.TheVariants as bodies
use Rattle.pg_node_process.specs.declared.desk.Numbered.{Numbered}
use Rattle.pg_node_process.specs.declared.retries.Courtesy.{Courtesy}
use Rattle.pg_node_process.specs.declared.retries.Seen.{Seen}
use Rattle.pg_node_process.specs.declared.retries.Seen.TheVariants.{Free, Own, Other}
use Rattle.pg_node_process.specs.declared.config.ProcessConfig.{ProcessConfig}
use Rattle.pg_step.specs.PgExchange.GroupList.{GroupList}
use Rattle.pg_process.specs.Beginnings.{StartsAs}
use Rattle.pg_process.specs.declared.process.Process.{Process}
use Rattle.pg_process.specs.Accounts.{at_this, hands_in, hands_of}
use Rattle.pg_process.specs.Chains.{AllDo, AreWork, Goes, IsWork, Makes, Rests, Step, Works}
use Rattle.pg_process.specs.Changes.{HandsOver}
use Rattle.pg_process.specs.Deeds.{Aged, Answered, Asked, Blamed, Broke, Brought, Crowded, Declined, Deed, Denied, Does, Fed, Formed, Handed, Looked, Queued, Read, Sent, Shared, Timed, Took, Tried}
use Rattle.pg_process.specs.Hearing.{asked, deeds_of, heeded, is_tick, whom_of}
use Rattle.pg_process.specs.Settled.{KeepsNone}
use Rattle.pg_process.specs.Situations.{Setting, Situation, at_place, setting_of, situation_of}
use Rattle.pg_process.specs.Turns.{Attends, HandsAt, HandsMany, HandsOne, HandsSome, HandsUpTo, HandsWhere, HearsInTurn, IsSaidAt, Says, TriesAt, TriesEach, TriesWhere, has_next, is_free}
use Rattle.pg_process.specs.Waits.{Keeps, KeepsShortly}
use Rattle.pg_process.proofs.Chained.{all_then, goes_on, itself, looked, makes_goes, rests_goes, step_of, tried, work_rests, works_on}
use Rattle.pg_process.proofs.Holding.{Holds, is_last}
use Rattle.pg_process.proofs.Placed.{placed_else, placed_here}
use Rattle.pg_process.proofs.Replying.{fits_deed, keeps_deed, starts_fit, starts_held}
use Rattle.pg_process.proofs.Stages.{Fit}

-- ---- ticks

abbrev left_of : ℕ → Situation → ℕ
left_of port a = ticks_left (a.courtesies port)

-- what is looked at, marked or shared leaves as many ticks at most
as_long : (c d : Courtesy) → d.streak ≡ c.streak → d.shared ≡ c.shared → d.has_waited ≡ c.has_waited → ticks_left d ≡ ticks_left c
as_long c d streak shared waited =
    ap (λ (n : ℕ). if nat_lt 0 d.shared && nat_le 4 n then cond d.has_waited 1 2 else 0) streak
    ∙ (ap (λ (n : ℕ). if nat_lt 0 n && nat_le 4 c.streak then cond d.has_waited 1 2 else 0) shared
    ∙ ap (λ (b : Bool). if nat_lt 0 c.shared && nat_le 4 c.streak then cond b 1 2 else 0) waited)

same_few : (n m : ℕ) → n ≡ m → n ≤ m
same_few n m e = omega (arith, e)

both_false : (b : Bool) → (b && false) ≡ false
both_false true = refl
both_false false = refl

-- a tick, where the port gives way then or not
ticked : (shared streak : ℕ) (g w : Bool) → (nat_lt 0 shared && nat_le 4 streak) ≡ g
    → cond (nat_lt 0 shared && nat_le 4 (cond (g && w) 0 streak)) (cond (g && not w) 1 2) 0 ≤ cond g (cond w 1 2) 0
ticked shared streak true true is = subst (λ (b : Bool). cond b 2 0 ≤ 1) (sym (both_false (nat_lt 0 shared))) (omega arith)
ticked shared streak true false is = subst (λ (b : Bool). cond b 1 0 ≤ 2) (sym is) (omega arith)
ticked shared streak false w is = subst (λ (b : Bool). cond b 2 0 ≤ 0) (sym is) (omega arith)

ticked_less : (shared streak : ℕ) (g w : Bool) → (nat_lt 0 shared && nat_le 4 streak) ≡ g → (nat_lt 0 shared && nat_le 4 (cond (g && w) 0 streak)) ≡ true
    → cond (nat_lt 0 shared && nat_le 4 (cond (g && w) 0 streak)) (cond (g && not w) 1 2) 0 + 1 ≤ cond g (cond w 1 2) 0
ticked_less shared streak true true is still = absurd (true≢false (sym still ∙ both_false (nat_lt 0 shared)))
ticked_less shared streak true false is still = subst (λ (b : Bool). cond b 1 0 + 1 ≤ 2) (sym is) (omega arith)
ticked_less shared streak false w is still = absurd (true≢false (sym still ∙ is))

looked_left : (seen : Seen) (tick : Bool) (c : Courtesy) → ticks_left (after_look seen tick c) ≤ ticks_left c
looked_left Other tick c = omega arith
looked_left Free true c = ticked c.shared c.streak (gives_way c) c.has_waited refl
looked_left Free false c = omega arith
looked_left Own true c = ticked c.shared c.streak (gives_way c) c.has_waited refl
looked_left Own false c = omega arith

looked_less : (seen : Seen) (tick : Bool) (c : Courtesy) → gives_way (after_look seen tick c) ≡ true → ticks_left (after_look seen tick c) + cond tick 1 0 ≤ ticks_left c
looked_less Other tick c still = absurd (true≢false (sym still))
looked_less Free true c still = ticked_less c.shared c.streak (gives_way c) c.has_waited refl still
looked_less Free false c still = omega arith
looked_less Own true c still = ticked_less c.shared c.streak (gives_way c) c.has_waited refl still
looked_less Own false c still = omega arith

-- other nodes change the group, too
shared_gives : (c : Courtesy) → gives_way c ≡ true → gives_way (after_share c) ≡ true
shared_gives c gives = go (nat_lt 0 c.shared) (nat_le 4 c.streak) gives
  where
    go : (a b : Bool) → (a && b) ≡ true → b ≡ true
    go true b h = h
    go false b h = absurd (true≢false (sym h))

shared_left : (c : Courtesy) → gives_way c ≡ true → ticks_left (after_share c) ≤ ticks_left c
shared_left c gives =
    same_few _ _ (ap (λ (b : Bool). cond b (cond c.has_waited 1 2) 0) (shared_gives c gives) ∙ sym (ap (λ (b : Bool). cond b (cond c.has_waited 1 2) 0) gives))

-- ---- what is kept of a situation

-- what is open, and what the node holds at each port
pub record Sound (a : Situation) : Type 0 where
  pub fit : Fit a.node.state.state
  pub held : (port : ℕ) → Holds port a.node (a.ports port).current

-- so a process begins
pub starts_sound : (config : ProcessConfig) (groups : GroupList) (set : Setting) (a : Situation) → StartsAs config groups set a → Sound a
starts_sound config groups set a starts = record { fit = starts_fit config groups set a starts; held = starts_held config groups set a starts }

pub sound_on : (set : Setting) (steps : List Step) (a b : Situation) → AllDo set a steps b → Sound a → Sound b
sound_on set [] a b does sound = subst Sound (sym does) sound
sound_on set (step ∷ steps) a b does sound = sound_on set steps does.0 b does.2 (record {
  fit = fits_deed set a step.deed step.said does.0 sound.fit does.1;
  held = λ port. (keeps_deed set a step.deed step.said does.0 sound.fit does.1 port (sound.held port)).held;
})

abbrev IsFree : ℕ → Situation → Type 0
IsFree port a = is_free (a.ports port) ≡ true

free_none : (current : Option Numbered) (waiting : List Numbered) → has_next current waiting ≡ true → current ≡ None
free_none None waiting free = refl
free_none (Some change) waiting free = absurd (true≢false (sym free))

free_some : (current : Option Numbered) (waiting : List Numbered) → has_next current waiting ≡ true → waiting ≢ []
free_some None [] free e = absurd (true≢false (sym free))
free_some None (x ∷ xs) free e = absurd (cc)
free_some (Some change) waiting free e = absurd (true≢false (sym free))

-- ---- one deed

-- a port that has a change to hand over has it still, and may give way for no longer
abbrev Lasts : ℕ → ℕ → Situation → Situation → Type 0
Lasts port ticks a b = IsFree port b × (left_of port b + ticks ≤ left_of port a)

lasts_by : (port : ℕ) (a b : Situation) → b.ports port ≡ a.ports port → left_of port b ≤ left_of port a → IsFree port a → Lasts port 0 a b
lasts_by port a b ports few free = (ap is_free ports ∙ free, none_more _ _ few)
  where
    none_more : (n m : ℕ) → n ≤ m → n + 0 ≤ m
    none_more n m e = omega (arith, e)

lasts_still : (port : ℕ) (a b : Situation) → b.ports port ≡ a.ports port → b.courtesies port ≡ a.courtesies port → IsFree port a → Lasts port 0 a b
lasts_still port a b ports courtesies free = lasts_by port a b ports (same_few _ _ (ap ticks_left courtesies)) free

-- how a port gives way is another
placed_left : (place : ℕ) (change : Courtesy → Courtesy) (courtesies : ℕ → Courtesy) (port : ℕ) → ((c : Courtesy) → ticks_left (change c) ≤ ticks_left c)
    → ticks_left (at_place place change courtesies port) ≤ ticks_left (courtesies port)
placed_left place change courtesies port few = go (cases_eq port place)
  where
    go : (port ≡ place) ⊎ (port ≢ place) → ticks_left (at_place place change courtesies port) ≤ ticks_left (courtesies port)
    go (inl e) = subst (λ (p : ℕ). ticks_left (at_place place change courtesies p) ≤ ticks_left (courtesies p)) (sym e)
        (subst (λ (c : Courtesy). ticks_left c ≤ ticks_left (courtesies place)) (sym (placed_here courtesies place change)) (few (courtesies place)))
    go (inr n) = same_few _ _ (ap ticks_left (placed_else courtesies place change port n))

lasts_placed : (port place : ℕ) (change : Courtesy → Courtesy) (a b : Situation) → b.ports ≡ a.ports → b.courtesies ≡ at_place place change a.courtesies
    → ((c : Courtesy) → ticks_left (change c) ≤ ticks_left c) → IsFree port a → Lasts port 0 a b
lasts_placed port place change a b ports courtesies few free =
    lasts_by port a b (ap (λ (f : ℕ → Port). f port) ports)
    (subst (λ (f : ℕ → Courtesy). ticks_left (f port) ≤ left_of port a) (sym courtesies) (placed_left place change a.courtesies port few)) free

same_here : (c d : Courtesy) → d.streak ≡ c.streak → d.shared ≡ c.shared → d.has_waited ≡ c.has_waited → ticks_left d ≤ ticks_left c
same_here c d streak shared waited = same_few _ _ (as_long c d streak shared waited)

-- a port that hands over nothing
no_hand : (h : Bool) (port : ℕ) → at_this port port (h ∷ []) ≢ []
no_hand h port e = go (nat_eq port port) (eq-eqb port port refl) e
  where
    go : (b : Bool) → b ≡ true → cond b (h ∷ []) [] ≢ []
    go true is f = absurd (cc)
    go false is f = absurd (true≢false (sym is))

elsewhere : (h : Bool) (port place : ℕ) → at_this port place (h ∷ []) ≡ [] → port ≢ place
elsewhere h port place none e = no_hand h place (subst (λ (p : ℕ). at_this p place (h ∷ []) ≡ []) e none)

-- no answer is said at a port that is free
answered_else : (port place : ℕ) (a : Situation) (answer : Answer) (later : List Answer) → Sound a → a.node.answers place ≡ answer ∷ later → IsFree port a → port ≢ place
answered_else port place a answer later sound first free e =
    (is_last place a.node (a.ports place).current answer later (sound.held place) first).some
    (subst (λ (p : ℕ). (a.ports p).current ≡ None) e (free_none (a.ports port).current (a.ports port).waiting free))

-- by what follows from what is kept
work_lasts : (set : Setting) (a : Situation) (deed : Deed) (said : List Output) (b : Situation) → IsWork deed → Does set a deed said b → Sound a → (port : ℕ) → IsFree port a → hands_of port deed ≡ []
    → Lasts port 0 a b
work_lasts set a (Read body) said b work does sound port free none = absurd work
work_lasts set a Brought said b work does sound port free none = absurd work
work_lasts set a Blamed said b work does sound port free none = absurd work
work_lasts set a Timed said b work does sound port free none = absurd work
work_lasts set a (Shared place) said b work does sound port free none = absurd work
work_lasts set a (Asked place command) said b work does sound port free none = absurd work
work_lasts set a (Queued place command) said b work does sound port free none = absurd work
work_lasts set a (Fed peer bytes) said b work does sound port free none = absurd work
work_lasts set a (Took peer act) said b work does sound port free none =
    lasts_still port a b (ap (λ (f : ℕ → Port). f port) does.1.aside.ports) (ap (λ (f : ℕ → Courtesy). f port) does.1.aside.courtesies) free
work_lasts set a (Broke peer fault) said b work does sound port free none =
    lasts_still port a b (ap (λ (s : Situation). s.ports port) does.after) (ap (λ (s : Situation). s.courtesies port) does.after) free
work_lasts set a (Handed place act) said b work does sound port free none =
    let n = elsewhere true port place none in
    lasts_still port a b (ap (λ (f : ℕ → Port). f port) does.1.ports ∙ placed_else a.ports place (λ p. port_after p Opened) port n)
    (ap (λ (f : ℕ → Courtesy). f port) does.1.courtesies) free
work_lasts set a (Declined place refusal) said b work does sound port free none =
    let n = elsewhere false port place none in
    lasts_still port a b (ap (λ (s : Situation). s.ports port) does.after ∙ placed_else a.ports place (λ p. port_after (port_after p Opened) Closed) port n)
    (ap (λ (s : Situation). s.courtesies port) does.after) free
work_lasts set a (Looked place seen tick) said b work does sound port free none =
    lasts_placed port place (after_look seen tick) a b (ap (λ (s : Situation). s.ports) does.2) (ap (λ (s : Situation). s.courtesies) does.2) (looked_left seen tick) free
work_lasts set a (Tried place act) said b work does sound port free none =
    lasts_placed port place after_trial a b does.1.ports does.1.courtesies (λ c. same_here c (after_trial c) refl refl refl) free
work_lasts set a (Denied place) said b work does sound port free none =
    lasts_placed port place (λ c. record c { is_told = true }) a b (ap (λ (s : Situation). s.ports) does.3) (ap (λ (s : Situation). s.courtesies) does.3)
    (λ c. same_here c (record c { is_told = true }) refl refl refl) free
work_lasts set a (Answered place answer) said b work does sound port free none =
    let n = answered_else port place a answer does.later sound does.first free in
    lasts_still port a b (ap (λ (s : Situation). s.ports port) does.after ∙ placed_else a.ports place with_answer port n)
    (ap (λ (s : Situation). s.courtesies port) does.after ∙ placed_else a.courtesies place after_answer port n) free
work_lasts set a Formed said b work does sound port free none =
    lasts_still port a b (ap (λ (s : Situation). s.ports port) does.3) (ap (λ (s : Situation). s.courtesies port) does.3) free
work_lasts set a Aged said b work does sound port free none =
    lasts_still port a b (ap (λ (s : Situation). s.ports port) does.3) (ap (λ (s : Situation). s.courtesies port) does.3) free
work_lasts set a (Crowded count) said b work does sound port free none =
    lasts_still port a b (ap (λ (s : Situation). s.ports port) does.4) (ap (λ (s : Situation). s.courtesies port) does.4) free
work_lasts set a (Sent peer bytes) said b work does sound port free none =
    lasts_still port a b (ap (λ (s : Situation). s.ports port) does.after) (ap (λ (s : Situation). s.courtesies port) does.after) free

-- ---- one after another

nil_left : {A : Type 0} (xs ys : List A) → xs ++ ys ≡ [] → xs ≡ []
nil_left [] ys e = refl
nil_left (x ∷ xs) ys e = absurd (cc)

nil_right : {A : Type 0} (xs ys : List A) → xs ++ ys ≡ [] → ys ≡ []
nil_right [] ys e = e
nil_right (x ∷ xs) ys e = absurd (cc)

lasts_then : (port s t : ℕ) (a m b : Situation) → left_of port m + s ≤ left_of port a → left_of port b + t ≤ left_of port m → left_of port b + (s + t) ≤ left_of port a
lasts_then port s t a m b p q = omega (arith, p, q)

works_last : (set : Setting) (steps : List Step) (a b : Situation) → AreWork steps → AllDo set a steps b → Sound a → (port : ℕ) → IsFree port a → hands_in port steps ≡ [] → Lasts port 0 a b
works_last set [] a b work does sound port free none = lasts_still port a b (ap (λ (s : Situation). s.ports port) does) (ap (λ (s : Situation). s.courtesies port) does) free
works_last set (step ∷ steps) a b work does sound port free none =
    let m = does.0 in
    let here = nil_left (hands_of port step.deed) (hands_in port steps) none in
    let there = nil_right (hands_of port step.deed) (hands_in port steps) none in
    let one = work_lasts set a step.deed step.said m work.0 does.1 sound port free here in
    let rest = works_last set steps m b work.1 does.2 (sound_on set (step ∷ []) a m (m, does.1, refl) sound) port one.0 there in
    (rest.0, lasts_then port 0 0 a m b one.1 rest.1)

hands_split : (port : ℕ) (xs ys : List Step) → hands_in port (xs ++ ys) ≡ [] → (hands_in port xs ≡ []) × (hands_in port ys ≡ [])
hands_split port xs ys none =
    let both = sym (flat_map-append (λ (step : Step). hands_of port step.deed) xs ys) ∙ none in
    (nil_left (hands_in port xs) (hands_in port ys) both, nil_right (hands_in port xs) (hands_in port ys) both)

-- a port that hands over nothing by what follows, where ticks came
abbrev LastsFor : (port ticks : ℕ) → List Step → Process → Process → Type 0
LastsFor port ticks steps a b = Sound (situation_of a) → IsFree port (situation_of a) → hands_in port steps ≡ [] → Lasts port ticks (situation_of a) (situation_of b)

none_come : (port : ℕ) (steps : List Step) (a b : Process) → AreWork steps → Goes steps a b → LastsFor port 0 steps a b
none_come port steps a b work goes sound free none = works_last (setting_of a) steps (situation_of a) (situation_of b) work goes.does sound port free none

come_then : (port s t : ℕ) (xs ys : List Step) (a m b : Process) → Goes xs a m → LastsFor port s xs a m → LastsFor port t ys m b → LastsFor port (s + t) (xs ++ ys) a b
come_then port s t xs ys a m b goes p q sound free none =
    let parts = hands_split port xs ys none in
    let first = p sound free parts.0 in
    let later = q (sound_on (setting_of a) xs (situation_of a) (situation_of m) goes.does sound) first.0 parts.1 in
    (later.0, lasts_then port s t (situation_of a) (situation_of m) (situation_of b) first.1 later.1)

-- as many ticks
no_more : (port s t : ℕ) (steps : List Step) (a b : Process) → s ≡ t → LastsFor port s steps a b → LastsFor port t steps a b
no_more port s t steps a b e lasts = subst (λ (n : ℕ). LastsFor port n steps a b) e lasts

zero_more : (n : ℕ) → 0 + n ≡ n
zero_more n = omega arith

more_zero : (n : ℕ) → n + 0 ≡ n
more_zero n = omega arith

-- ---- answers at a port

said_work : (port : ℕ) (deed : Deed) → IsSaidAt port deed → IsWork deed
said_work port (Read body) is = is
said_work port Brought is = is
said_work port Blamed is = is
said_work port Timed is = is
said_work port (Shared place) is = is
said_work port (Asked place command) is = is
said_work port (Queued place command) is = is
said_work port (Fed peer bytes) is = is
said_work port (Took peer act) is = tt
said_work port (Broke peer fault) is = tt
said_work port (Handed place act) is = tt
said_work port (Declined place refusal) is = tt
said_work port (Looked place seen tick) is = tt
said_work port (Tried place act) is = tt
said_work port (Denied place) is = tt
said_work port (Answered place answer) is = tt
said_work port Formed is = tt
said_work port Aged is = tt
said_work port (Crowded count) is = tt
said_work port (Sent peer bytes) is = tt

all_said_work : (port : ℕ) (steps : List Step) → AllByRecursion (λ (step : Step). IsSaidAt port step.deed) steps → AreWork steps
all_said_work port [] said = tt
all_said_work port (step ∷ steps) said = (said_work port step.deed said.0, all_said_work port steps said.1)

says_work : (port : ℕ) (a b : Process) → Says port a b → Works a b
says_work port a b says = record { steps = says.steps; work = all_said_work port says.steps says.said; goes = says.goes }

-- ---- denied changes

same_work : (a b : Process) → b ≡ a → Works a b
same_work a b same = subst (λ (p : Process). Works a p) (sym same) (work_rests a a (itself a))

same_goes : (a b : Process) → b ≡ a → Goes [] a b
same_goes a b same = subst (λ (p : Process). Goes [] a p) (sym same) (rests_goes a a (itself a))

where_work : (due : Bool) (op : OpId) (a b : Process) → TriesWhere due op a b → Works a b
where_work true op a b (m, did, retries, says) = works_on a m b (tried op did a m retries) (says_work op.port m b says.says)
where_work false op a b same = same_work a b same

at_work : (there : Bool) (op : OpId) (tick : Bool) (a b : Process) → TriesAt there op tick a b → Works a b
at_work true op tick a b tries = works_on a tries.behind b (looked op.port tries.seen tick a tries.behind tries.looks) (where_work _ op tries.behind b tries.tries)
at_work false op tick a b same = same_work a b same

each_work : (ops : List OpId) (tick : Bool) (a b : Process) → TriesEach ops tick a b → Works a b
each_work [] tick a b same = same_work a b same
each_work (op ∷ ops) tick a b (m, tries, each) = works_on a m b (at_work _ op tick a m tries) (each_work ops tick m b each)

-- ---- a port that hands over

-- it is done by these deeds, which hand over
record OneHanded (port : ℕ) (a b : Process) : Type 0 where
  steps : List Step
  work : AreWork steps
  goes : Goes steps a b
  some : hands_in port steps ≢ []

handed_then : (port : ℕ) (deed : Deed) (h : Bool) (a m b : Process) → hands_of port deed ≡ at_this port port (h ∷ []) → IsWork deed → Makes deed a m → Says port m b → OneHanded port a b
handed_then port deed h a m b is work makes says = record {
  steps = step_of deed a m makes ∷ says.steps;
  work = (work, all_said_work port says.steps says.said);
  goes = goes_on (step_of deed a m makes ∷ []) says.steps a m b (makes_goes deed a m makes) says.goes;
  some = λ none. no_hand h port (sym is ∙ nil_left (hands_of port deed) (hands_in port says.steps) none);
}

one_handed : (port : ℕ) (a b : Process) → HandsOne port a b → OneHanded port a b
one_handed port a b one = go one.hands
  where
    go : HandsOver port true a one.behind → OneHanded port a b
    go (inl (act, makes)) = handed_then port (Handed port act) true a one.behind b refl tt makes one.says.says
    go (inr (refusal, makes)) = handed_then port (Declined port refusal) false a one.behind b refl tt makes one.says.says

some_handed : (n port : ℕ) (a b : Process) → HandsSome (suc n) port a b → OneHanded port a b
some_handed zero port a b (m, same, one) = subst (λ (p : Process). OneHanded port p b) same (one_handed port m b one)
some_handed (suc n) port a b (m, hands, one) =
    let first = some_handed n port a m hands in
    let last = one_handed port m b one in record {
      steps = first.steps ++ last.steps;
      work = all_then (λ (step : Step). IsWork step.deed) first.steps last.steps first.work last.work;
      goes = goes_on first.steps last.steps a m b first.goes last.goes;
      some = λ none. first.some (hands_split port first.steps last.steps none).0;
    }

-- what is done at a port, where ticks came
record Runs (port ticks : ℕ) (a b : Process) : Type 0 where
  steps : List Step
  work : AreWork steps
  goes : Goes steps a b
  lasts : LastsFor port ticks steps a b

works_run : (port : ℕ) (a b : Process) → Works a b → Runs port 0 a b
works_run port a b works = record { steps = works.steps; work = works.work; goes = works.goes; lasts = none_come port works.steps a b works.work works.goes }

-- it looks at the lock, and hands over as many as it can
looks_run : (port : ℕ) (seen : Seen) (tick : Bool) (a m b : Process) → Makes (Looked port seen tick) a m → HandsMany port m b → Runs port (cond tick 1 0) a b
looks_run port seen tick a m b makes many = go many.count many.hands
  where
    look : Step
    look = step_of (Looked port seen tick) a m makes

    first : Goes (look ∷ []) a m
    first = makes_goes (Looked port seen tick) a m makes

    go : (n : ℕ) → HandsSome n port m many.behind → Runs port (cond tick 1 0) a b
    go zero same = record {
      steps = look ∷ [];
      work = (tt, tt);
      goes = goes_on (look ∷ []) [] a m b first (rests_goes m b (subst (λ (p : Process). Rests p b) same many.rests));
      lasts = λ sound free none.
          let situation : situation_of b ≡ situation_of m = many.rests.same ∙ ap situation_of same in
          let ports : (situation_of b).ports port ≡ (situation_of a).ports port = ap (λ (s : Situation). s.ports port) (situation ∙ makes.does.2) in
          let courtesy : (situation_of b).courtesies port ≡ after_look seen tick ((situation_of a).courtesies port) =
          ap (λ (s : Situation). s.courtesies port) (situation ∙ makes.does.2) ∙ placed_here (situation_of a).courtesies port (after_look seen tick) in
          let free_then : IsFree port (situation_of b) = ap is_free ports ∙ free in
          let gives : gives_way ((situation_of b).courtesies port) ≡ true =
          many.none (free_none _ _ free_then) (free_some _ _ free_then) in (
            free_then,
            subst (λ (c : Courtesy). ticks_left c + cond tick 1 0 ≤ left_of port (situation_of a)) (sym courtesy)
                (looked_less seen tick ((situation_of a).courtesies port) (ap gives_way (sym courtesy) ∙ gives)),
          );
    }
    go (suc n) some =
        let handed = some_handed n port m many.behind some in
        let last = goes_on handed.steps [] m many.behind b handed.goes (rests_goes many.behind b many.rests) in record {
          steps = look ∷ (handed.steps ++ []);
          work = (tt, all_then (λ (step : Step). IsWork step.deed) handed.steps [] handed.work tt);
          goes = goes_on (look ∷ []) (handed.steps ++ []) a m b first last;
          lasts = λ sound free none. absurd (handed.some (hands_split port handed.steps [] none).0);
        }

where_runs : (can : Bool) (port : ℕ) (tick : Bool) (a b : Process) → is_free ((situation_of a).ports port) ≡ can → HandsWhere can port tick a b → Runs port (cond tick 1 0) a b
where_runs true port tick a b is (seen, m, looks, many) = looks_run port seen tick a m b looks many
where_runs false port tick a b is same = record {
  steps = [];
  work = tt;
  goes = same_goes a b same;
  lasts = λ sound free none. absurd (true≢false (sym free ∙ is));
}

at_runs : (port : ℕ) (tick : Bool) (a b : Process) → HandsAt port tick a b → Runs port (cond tick 1 0) a b
at_runs port tick a b place =
    let m = place.behind in
    let says = says_work port a m place.says.says in
    let rest = where_runs (is_free ((situation_of m).ports port)) port tick m b refl place.hands in record {
      steps = says.steps ++ rest.steps;
      work = all_then (λ (step : Step). IsWork step.deed) says.steps rest.steps says.work rest.work;
      goes = goes_on says.steps rest.steps a m b says.goes rest.goes;
      lasts = no_more port (0 + cond tick 1 0) (cond tick 1 0) (says.steps ++ rest.steps) a b (zero_more (cond tick 1 0))
          (come_then port 0 (cond tick 1 0) says.steps rest.steps a m b says.goes (none_come port says.steps a m says.work says.goes) rest.lasts);
    }

-- ---- all ports

-- at each of the first so many ports
record RunsUpTo (n ticks : ℕ) (a b : Process) : Type 0 where
  steps : List Step
  work : AreWork steps
  goes : Goes steps a b
  lasts : (port : ℕ) → port < n → LastsFor port ticks steps a b

up_runs : (n : ℕ) (tick : Bool) (a b : Process) → HandsUpTo n tick a b → RunsUpTo n (cond tick 1 0) a b
up_runs zero tick a b same = record { steps = []; work = tt; goes = same_goes a b same; lasts = λ port less. absurd (omega (arith, less)) }
up_runs (suc n) tick a b (m, up, place) =
    let first = up_runs n tick a m up in
    let last = at_runs n tick m b place in record {
      steps = first.steps ++ last.steps;
      work = all_then (λ (step : Step). IsWork step.deed) first.steps last.steps first.work last.work;
      goes = goes_on first.steps last.steps a m b first.goes last.goes;
      lasts = λ port less. go port less (cases_eq port n) first last;
    }
  where
    go : (port : ℕ) → port < suc n → (port ≡ n) ⊎ (port ≢ n) → (first : RunsUpTo n (cond tick 1 0) a m) (last : Runs n (cond tick 1 0) m b) → LastsFor port (cond tick 1 0) (first.steps ++ last.steps) a b
    go port less (inl e) first last = subst (λ (p : ℕ). LastsFor p (cond tick 1 0) (first.steps ++ last.steps) a b) (sym e)
        (no_more n (0 + cond tick 1 0) (cond tick 1 0) (first.steps ++ last.steps) a b (zero_more (cond tick 1 0))
        (come_then n 0 (cond tick 1 0) first.steps last.steps a m b first.goes (none_come n first.steps a m first.work first.goes) last.lasts))
    go port less (inr other) first last =
        no_more port (cond tick 1 0 + 0) (cond tick 1 0) (first.steps ++ last.steps) a b (more_zero (cond tick 1 0))
        (come_then port (cond tick 1 0) 0 first.steps last.steps a m b first.goes (first.lasts port (omega (arith, less, other))) (none_come port last.steps m b last.work last.goes))

-- what comes before and behind
runs_behind : (n ticks : ℕ) (a m b : Process) → Works a m → RunsUpTo n ticks m b → RunsUpTo n ticks a b
runs_behind n ticks a m b works runs = record {
  steps = works.steps ++ runs.steps;
  work = all_then (λ (step : Step). IsWork step.deed) works.steps runs.steps works.work runs.work;
  goes = goes_on works.steps runs.steps a m b works.goes runs.goes;
  lasts = λ port less. no_more port (0 + ticks) ticks (works.steps ++ runs.steps) a b (zero_more ticks)
      (come_then port 0 ticks works.steps runs.steps a m b works.goes (none_come port works.steps a m works.work works.goes) (runs.lasts port less));
}

runs_before : (n ticks : ℕ) (a m b : Process) → RunsUpTo n ticks a m → Works m b → RunsUpTo n ticks a b
runs_before n ticks a m b runs works = record {
  steps = runs.steps ++ works.steps;
  work = all_then (λ (step : Step). IsWork step.deed) runs.steps works.steps runs.work works.work;
  goes = goes_on runs.steps works.steps a m b runs.goes works.goes;
  lasts = λ port less. no_more port (ticks + 0) ticks (runs.steps ++ works.steps) a b (more_zero ticks)
      (come_then port ticks 0 runs.steps works.steps a m b runs.goes (runs.lasts port less) (none_come port works.steps m b works.work works.goes));
}

set_kept : (a b : Process) → Works a b → setting_of b ≡ setting_of a
set_kept a b works = works.goes.setting

attends_run : (tick : Bool) (a b : Process) → Attends tick a b → RunsUpTo (setting_of a).ports (cond tick 1 0) a b
attends_run tick a b attends =
    let serves = attends.serves in
    let one = attends.works in
    let two = serves.works in
    let three = each_work serves.tries.ops tick serves.before serves.tried serves.tries.each in
    let before = works_on a serves.before serves.tried (works_on a attends.before serves.before one two) three in
    let ports : setting_of serves.tried ≡ setting_of a = set_kept a serves.tried before in
    runs_before (setting_of a).ports (cond tick 1 0) a serves.handed b
    (runs_behind (setting_of a).ports (cond tick 1 0) a serves.tried serves.handed before
    (subst (λ (set : Setting). RunsUpTo set.ports (cond tick 1 0) serves.tried serves.handed) ports (up_runs (setting_of serves.tried).ports tick serves.tried serves.handed serves.hands)))
    (works_on serves.handed attends.behind b serves.rest attends.rest)

-- ---- what a body asks for

abbrev IsHeed : Deed → Type 0
IsHeed (Read body) = Unit {0}
IsHeed Blamed = Unit {0}
IsHeed Timed = Unit {0}
IsHeed (Shared port) = Unit {0}
IsHeed (Asked port command) = Unit {0}
IsHeed (Queued port command) = Unit {0}
IsHeed (Fed peer bytes) = Unit {0}
IsHeed deed = ⊥

record Heeds (port : ℕ) (a b : Situation) : Type 0 where
  keeps : Keeps port b
  few : left_of port b ≤ left_of port a

heeds_still : (port : ℕ) (a b : Situation) → b.ports port ≡ a.ports port → b.courtesies port ≡ a.courtesies port → Keeps port a → Heeds port a b
heeds_still port a b ports courtesies keeps = record {
  keeps = record { free = ap is_free ports ∙ keeps.free; gives = ap gives_way courtesies ∙ keeps.gives };
  few = same_few _ _ (ap ticks_left courtesies);
}

free_more : (p : Port) (command : Command) → is_free p ≡ true → is_free (port_after p (Changing command)) ≡ true
free_more p command free = go (nat_lt (length p.waiting) 1024)
  where
    more : (current : Option Numbered) (waiting : List Numbered) (x : Numbered) → has_next current waiting ≡ true → has_next current (waiting ++ x ∷ []) ≡ true
    more None [] x h = refl
    more None (y ∷ ys) x h = refl
    more (Some change) waiting x h = h

    go : (b : Bool) → is_free (if b then with_waiting p command else counted p) ≡ true
    go true = more p.current p.waiting _ free
    go false = free

-- a request comes
heeds_comes : (port place : ℕ) (change : Port → Port) (a b : Situation) → b.ports ≡ at_place place change a.ports → b.courtesies ≡ a.courtesies → ((p : Port) → is_free p ≡ true → is_free (change p) ≡ true)
    → Keeps port a → Heeds port a b
heeds_comes port place change a b ports courtesies still keeps = record {
  keeps = record { free = ap (λ (f : ℕ → Port). is_free (f port)) ports ∙ go (cases_eq port place); gives = ap (λ (f : ℕ → Courtesy). gives_way (f port)) courtesies ∙ keeps.gives };
  few = same_few _ _ (ap (λ (f : ℕ → Courtesy). ticks_left (f port)) courtesies);
}
  where
    go : (port ≡ place) ⊎ (port ≢ place) → is_free (at_place place change a.ports port) ≡ true
    go (inl e) = subst (λ (p : ℕ). is_free (at_place place change a.ports p) ≡ true) (sym e) (ap is_free (placed_here a.ports place change) ∙ still (a.ports place) (subst (λ (p : ℕ). is_free (a.ports p) ≡ true) e keeps.free))
    go (inr n) = ap is_free (placed_else a.ports place change port n) ∙ keeps.free

heeds_shared : (port place : ℕ) (a b : Situation) → b.ports ≡ a.ports → b.courtesies ≡ at_place place after_share a.courtesies → Keeps port a → Heeds port a b
heeds_shared port place a b ports courtesies keeps = go (cases_eq port place)
  where
    free : is_free (b.ports port) ≡ true
    free = ap (λ (f : ℕ → Port). is_free (f port)) ports ∙ keeps.free

    with_courtesy : (c : Courtesy) → b.courtesies port ≡ c → gives_way c ≡ true → ticks_left c ≤ left_of port a → Heeds port a b
    with_courtesy c is gives few = record {
      keeps = record { free = free; gives = ap gives_way is ∙ gives };
      few = subst (λ (d : Courtesy). ticks_left d ≤ left_of port a) (sym is) few;
    }

    go : (port ≡ place) ⊎ (port ≢ place) → Heeds port a b
    go (inl e) = with_courtesy (after_share (a.courtesies port))
        (ap (λ (f : ℕ → Courtesy). f port) courtesies
        ∙ subst (λ (p : ℕ). at_place place after_share a.courtesies p ≡ after_share (a.courtesies p)) (sym e) (placed_here a.courtesies place after_share))
        (shared_gives (a.courtesies port) keeps.gives) (shared_left (a.courtesies port) keeps.gives)
    go (inr n) = with_courtesy (a.courtesies port) (ap (λ (f : ℕ → Courtesy). f port) courtesies ∙ placed_else a.courtesies place after_share port n) keeps.gives (same_few _ _ refl)

heed_one : (set : Setting) (a : Situation) (deed : Deed) (said : List Output) (b : Situation) → IsHeed deed → Does set a deed said b → (port : ℕ) → Keeps port a → Heeds port a b
heed_one set a (Read body) said b is does port keeps = heeds_still port a b (ap (λ (s : Situation). s.ports port) does.1) (ap (λ (s : Situation). s.courtesies port) does.1) keeps
heed_one set a Brought said b is does port keeps = absurd is
heed_one set a Blamed said b is does port keeps = heeds_still port a b (ap (λ (s : Situation). s.ports port) does.1) (ap (λ (s : Situation). s.courtesies port) does.1) keeps
heed_one set a Timed said b is does port keeps = heeds_still port a b (ap (λ (s : Situation). s.ports port) does.1) (ap (λ (s : Situation). s.courtesies port) does.1) keeps
heed_one set a (Shared place) said b is does port keeps = heeds_shared port place a b (ap (λ (s : Situation). s.ports) does.1) (ap (λ (s : Situation). s.courtesies) does.1) keeps
heed_one set a (Asked place command) said b is does port keeps =
    heeds_comes port place counted a b (ap (λ (s : Situation). s.ports) does.after) (ap (λ (s : Situation). s.courtesies) does.after) (λ p free. free) keeps
heed_one set a (Queued place command) said b is does port keeps =
    heeds_comes port place (λ p. port_after p (Changing command)) a b (ap (λ (s : Situation). s.ports) does.after) (ap (λ (s : Situation). s.courtesies) does.after) (λ p free. free_more p command free) keeps
heed_one set a (Fed peer bytes) said b is does port keeps = heeds_still port a b (ap (λ (s : Situation). s.ports port) does.1) (ap (λ (s : Situation). s.courtesies port) does.1) keeps
heed_one set a (Took peer act) said b is does port keeps = absurd is
heed_one set a (Broke peer fault) said b is does port keeps = absurd is
heed_one set a (Handed place act) said b is does port keeps = absurd is
heed_one set a (Declined place refusal) said b is does port keeps = absurd is
heed_one set a (Looked place seen tick) said b is does port keeps = absurd is
heed_one set a (Tried place act) said b is does port keeps = absurd is
heed_one set a (Denied place) said b is does port keeps = absurd is
heed_one set a (Answered place answer) said b is does port keeps = absurd is
heed_one set a Formed said b is does port keeps = absurd is
heed_one set a Aged said b is does port keeps = absurd is
heed_one set a (Crowded count) said b is does port keeps = absurd is
heed_one set a (Sent peer bytes) said b is does port keeps = absurd is

few_then : (x y z : ℕ) → y ≤ x → z ≤ y → z ≤ x
few_then x y z p q = omega (arith, p, q)

heed_all : (set : Setting) (steps : List Step) (a b : Situation) → AllByRecursion IsHeed (deeds_of steps) → AllDo set a steps b → (port : ℕ) → Keeps port a → Heeds port a b
heed_all set [] a b are does port keeps = heeds_still port a b (ap (λ (s : Situation). s.ports port) does) (ap (λ (s : Situation). s.courtesies port) does) keeps
heed_all set (step ∷ steps) a b are does port keeps =
    let one = heed_one set a step.deed step.said does.0 are.0 does.1 port keeps in
    let rest = heed_all set steps does.0 b are.1 does.2 port one.keeps in
    record { keeps = rest.keeps; few = few_then _ _ _ one.few rest.few }

asked_heeds : (port : ℕ) (command : Command) → IsHeed (asked port command)
asked_heeds port command = go (is_query command)
  where
    go : (b : Bool) → IsHeed (cond b (Asked port command) (Queued port command))
    go true = tt
    go false = tt

are_heeds : (read : Body) (body : List ℕ) → AllByRecursion IsHeed (Read body ∷ heeded read body)
are_heeds (bodies.Ask port command) body = (tt, (asked_heeds port command, tt))
are_heeds (bodies.Bytes peer) body = (tt, (tt, tt))
are_heeds (bodies.Denied port) body = (tt, (tt, tt))
are_heeds bodies.Clock body = (tt, (tt, tt))
are_heeds bodies.Tick body = (tt, tt)
are_heeds bodies.Groups body = (tt, (tt, tt))
are_heeds bodies.Bad body = (tt, (tt, tt))

-- ---- a body

pub keeps_shortly : (body : List ℕ) (a b : Process) → HearsInTurn body a b → Sound (situation_of a) → ((port : ℕ) → port < (setting_of a).ports → KeepsNone (situation_of b) port)
    → KeepsShortly (setting_of a) (is_tick (body_of (whom_of a) body)) (situation_of a) (situation_of b)
keeps_shortly body a b turn sound rest =
    let tick = is_tick (body_of (whom_of a) body) in
    let m = turn.heeds in
    let runs = attends_run tick m b turn.attends in
    let all = goes_on turn.steps runs.steps a m b turn.goes runs.goes in record {
      steps = turn.steps ++ runs.steps;
      does = all.does;
      ports = λ port less keeps none.
          let heeds = heed_all (setting_of a) turn.steps (situation_of a) (situation_of m)
          (subst (λ (ds : List Deed). AllByRecursion IsHeed ds) (sym turn.deeds) (are_heeds (body_of (whom_of a) body) body)) turn.goes.does port keeps in
          let lasts = runs.lasts port (subst (λ (set : Setting). port < set.ports) (sym turn.goes.setting) less)
          (sound_on (setting_of a) turn.steps (situation_of a) (situation_of m) turn.goes.does sound) heeds.keeps.free (hands_split port turn.steps runs.steps none).1 in record {
            keeps = record { free = lasts.0; gives = rest port less (free_none _ _ lasts.0) (free_some _ _ lasts.0) };
            fewer = few_then _ _ _ heeds.few lasts.1;
          };
    }
