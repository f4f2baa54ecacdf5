-- The law of src/laws.rt of replies: what each deed keeps at each port, and one after another.
use Rattle.std.proofs.Common.{◌≡◌, ◌≢◌, ◌⊎◌, ◌∙◌, ◌+◌, ℕ, suc, Bool, true, false, cond, nat_eq, nat_lt, length, drop, map, List, [], ◌∷◌, ◌++◌, Option, Some, None, Ok, inl, inr, refl, sym, ap, subst, append-nil, append_assoc, length-append, arith, option_to_list}
use Rattle.std.specs.Prelude.{if◌then◌else◌}
use Rattle.std.specs.List.{flat_map}
use Rattle.std.proofs.lemmas.Bool.{cases_eq, eq-eqb, ne_eqb}
use Rattle.std.proofs.lemmas.List.Concat.{flat_map-append}
use Rattle.std.proofs.lemmas.List.Sums.{sum_by-append}
use Rattle.pg_node.specs.PgNodeOpens.Places.{name_at, whole_in}
use Rattle.pg_node.specs.PgNodeState.States.{left_at}
use Rattle.pg_node.specs.PgStep.Machines.Clocked.{Timed as AtClock}
use Rattle.pg_node.specs.PgGroup.Table.{Table}
use Rattle.pg_node.specs.PgStep.State.{State, new_state}
use Rattle.pg_step.specs.Config.{first_table}
use Rattle.pg_node.specs.PgStep.Step.{Issue, Retry}
use Rattle.pg_node.specs.PgStep.declared.answer.Answer.{Answer}
use Rattle.pg_node.specs.PgStep.declared.command.Command.{Command}
use Rattle.pg_node.specs.PgStep.declared.command.OpId.{OpId}
use Rattle.pg_step.proofs.PgGroup.Changes.{upd_at, upd_other}
use Rattle.pg_node_process.specs.Desks.{Answered as Closed, Asked as Counted, Changing, Handed as Opened, Happening, Port, all_numbers, counted, handed_by, next_number, nothing_came, numbered_by}
use Rattle.pg_node_process.specs.Desks.{numbers_behind, port_after, port_at_last, rest_by, with_answer, with_waiting}
use Rattle.pg_node_process.specs.declared.desk.Numbered.{Numbered}
use Rattle.pg_node_process.specs.Outputs.{Output}
use Rattle.pg_node_run.specs.Acts.{Act, ActLeads, Did, Given, Saw, Standing, act_step, Took as TookPacket}
use Rattle.pg_process.specs.Accounts.{LostNone, act_of, acts_of, answers_in, at_this, happened_in, happened_of, issued_in, issued_of, said_of}
use Rattle.pg_node_process.specs.declared.config.ProcessConfig.{ProcessConfig}
use Rattle.pg_step.specs.PgExchange.GroupList.{GroupList}
use Rattle.pg_process.specs.Beginnings.{StartsAs}
use Rattle.pg_process.specs.Chains.{AllDo, Step, said_in}
use Rattle.pg_process.specs.Deeds.{Aged, Answered, Asked, Blamed, Broke, Brought, Crowded, Declined, Deed, Denied, Does, Fed, Formed, Handed, Hands, IsOf, Looked, Queued, Read, Sent, Shared, Timed, Took, Tried, number_of}
use Rattle.pg_process.specs.Replies.{AllHaveChange, ChainsReply, HasChange, all_replied, named_in, replied_by, shown, times_of, unreplied}
use Rattle.pg_process.specs.Situations.{Setting, Situation, at_place}
use Rattle.pg_process.proofs.Accounting.{chains_account, moves_by}
use Rattle.pg_process.proofs.Holding.{Holds, acts_hold, counts_else, counts_here, holds_still, is_last, open_at, opens_else, opens_hold}
use Rattle.pg_process.proofs.Issuing.{issued_else}
use Rattle.pg_process.proofs.Naming.{names_deed, names_on}
use Rattle.pg_process.proofs.Parts.{at_bool}
use Rattle.pg_process.proofs.Placed.{placed_else, placed_here}
use Rattle.pg_process.proofs.Stages.{Fit, Opens, Stands, issue_stands, take_stands, try_stands}

-- ---- requests of a port

count_on : (number : ℕ) (xs ys : List ℕ) → times_of number (xs ++ ys) ≡ times_of number xs + times_of number ys
count_on number xs ys = sum_by-append (λ x. cond (nat_eq number x) 1 0) xs ys

map_on : {A B : Type 0} (f : A → B) (xs ys : List A) → map f (xs ++ ys) ≡ map f xs ++ map f ys
map_on f [] ys = refl
map_on f (x ∷ xs) ys = ap (λ w. f x ∷ w) (map_on f xs ys)

-- a request that comes has its reply, or waits; the one that is answered waits no more
abbrev Balances : ℕ → Port → Happening → Type 0
Balances number port happening = times_of number (numbered_by port happening) + times_of number (unreplied port)
    ≡ times_of number (replied_by port happening) + times_of number (unreplied (port_after port happening))

waits_more : (number k : ℕ) (change : Numbered) (xs ys : List Numbered) → change.number ≡ k
    → times_of number (k ∷ []) + times_of number (map (λ (c : Numbered). c.number) (xs ++ ys))
    ≡ times_of number [] + times_of number (map (λ (c : Numbered). c.number) (xs ++ (ys ++ change ∷ [])))
waits_more number k change xs ys is =
    let one : times_of number (map (λ (c : Numbered). c.number) (xs ++ (ys ++ change ∷ [])))
    ≡ times_of number (map (λ (c : Numbered). c.number) (xs ++ ys)) + times_of number (k ∷ []) =
    ap (λ (w : List Numbered). times_of number (map (λ (c : Numbered). c.number) w)) (sym (append_assoc xs ys (change ∷ [])))
    ∙ (ap (times_of number) (map_on (λ (c : Numbered). c.number) (xs ++ ys) (change ∷ []))
    ∙ (count_on number (map (λ (c : Numbered). c.number) (xs ++ ys)) (change.number ∷ [])
    ∙ ap (λ (n : ℕ). times_of number (map (λ (c : Numbered). c.number) (xs ++ ys)) + times_of number (n ∷ [])) is)) in
    swapped (times_of number (k ∷ [])) (times_of number (map (λ (c : Numbered). c.number) (xs ++ ys))) _ one
  where
    swapped : (a b c : ℕ) → c ≡ b + a → a + b ≡ 0 + c
    swapped a b c e = omega (arith, e)

answered_less : (number k : ℕ) (xs : List ℕ) → times_of number [] + times_of number (k ∷ xs) ≡ times_of number (k ∷ []) + times_of number xs
answered_less number k xs = let one = count_on number (k ∷ []) xs in plain _ _ _ one
  where
    plain : (a b c : ℕ) → a ≡ b + c → 0 + a ≡ b + c
    plain a b c e = omega (arith, e)

balances : (number : ℕ) (port : Port) (happening : Happening) → HasChange port happening → Balances number port happening
balances number port Counted has = refl
balances number port (Changing command) has = go (nat_lt (length port.waiting) 1024)
  where
    k : ℕ
    k = next_number port

    go : (b : Bool) → times_of number (k ∷ []) + times_of number (unreplied port)
        ≡ times_of number (if b then [] else k ∷ []) + times_of number (unreplied (if b then with_waiting port command else counted port))
    go true = waits_more number k (record { number = k; command = command }) (option_to_list port.current) port.waiting refl
    go false = refl
balances number port Opened has = by port.current port.waiting
  where
    by : (current : Option Numbered) (waiting : List Numbered)
        → times_of number [] + times_of number (unreplied (record { came = port.came; waiting = waiting; current = current }))
        ≡ times_of number [] + times_of number (unreplied (rest_by (handed_by current waiting) (record { came = port.came; waiting = waiting; current = current })))
    by None [] = refl
    by None (change ∷ changes) = refl
    by (Some change) waiting = refl
balances number port Closed has = by port.current has
  where
    by : (current : Option Numbered) → current ≢ None
        → times_of number [] + times_of number (map (λ (c : Numbered). c.number) (option_to_list current ++ port.waiting))
        ≡ times_of number (number_of current ∷ []) + times_of number (map (λ (c : Numbered). c.number) port.waiting)
    by None has = absurd (has refl)
    by (Some change) has = answered_less number change.number (map (λ (c : Numbered). c.number) port.waiting)

-- and so all that come
all_balance : (number : ℕ) (port : Port) (happenings : List Happening) → AllHaveChange port happenings
    → times_of number (all_numbers port happenings) + times_of number (unreplied port)
    ≡ times_of number (all_replied port happenings) + times_of number (unreplied (port_at_last port happenings))
all_balance number port [] has = refl
all_balance number port (happening ∷ later) has =
    let one : Balances number port happening = balances number port happening has.0 in
    let rest = all_balance number (port_after port happening) later has.1 in
    let came = count_on number (numbered_by port happening) (all_numbers (port_after port happening) later) in
    let replied = count_on number (replied_by port happening) (all_replied (port_after port happening) later) in
    sums _ _ _ _ _ _ _ _ _ came replied one rest
  where
    sums : (all first later before all2 first2 later2 middle last : ℕ) → all ≡ first + later → all2 ≡ first2 + later2
        → first + before ≡ first2 + middle → later + middle ≡ later2 + last → all + before ≡ all2 + last
    sums all first later before all2 first2 later2 middle last a b c d = omega (arith, a, b, c, d)

have_on : (xs ys : List Happening) (p : Port) → AllHaveChange p xs → AllHaveChange (port_at_last p xs) ys → AllHaveChange p (xs ++ ys)
have_on [] ys p one two = two
have_on (x ∷ xs) ys p one two = (one.0, have_on xs ys (port_after p x) one.1 two)

have_at : (b : Bool) (xs : List Happening) (p : Port) → AllHaveChange p xs → AllHaveChange p (cond b xs [])
have_at true xs p all = all
have_at false xs p all = tt

-- ---- one deed at one port

abbrev counts_of : ℕ → Situation → ℕ
counts_of port a = a.node.state.state.counts port

-- 1 where a change is with the node
abbrev is_there : ℕ → Situation → ℕ
is_there port a = length (option_to_list (a.ports port).current)

-- so many commands of the port were answered, and that was said
abbrev AreDone : ℕ → ℕ → Situation → Type 0
AreDone port done a = counts_of port a ≡ done + is_there port a

-- what is kept at a port by what happens there, the answers that are said, and the commands that the node is issued
pub record PortKeeps (port : ℕ) (happened : List Happening) (said : List Answer) (issued : List Command) (a b : Situation) : Type 0 where
  pub held : Holds port b.node (b.ports port).current
  pub has : AllHaveChange (a.ports port) happened
  pub counts : counts_of port b ≡ counts_of port a + length issued
  pub told : (done : ℕ) → AreDone port done a → (map (λ (answer : Answer). answer.number) said ≡ numbers_behind done (length said)) × AreDone port (done + length said) b

none_more : (n m : ℕ) → n ≡ m → n ≡ m + 0
none_more n m e = omega (arith, e)

done_still : (c d done x y : ℕ) → d ≡ c → c ≡ done + x → y ≡ x → d ≡ done + 0 + y
done_still c d done x y e f g = omega (arith, e, f, g)

module _ (port : ℕ) (a b : Situation) where
  -- the commands of the port stay as many, and a change is with the node as before
  keeps_by : (happened : List Happening) → Holds port b.node (b.ports port).current → AllHaveChange (a.ports port) happened → counts_of port b ≡ counts_of port a
      → (b.ports port).current ≡ (a.ports port).current → PortKeeps port happened [] [] a b
  keeps_by happened held has counts current = record {
    held = held;
    has = has;
    counts = none_more _ _ counts;
    told = λ done is. (refl, done_still _ _ done _ _ counts is (ap (λ (c : Option Numbered). length (option_to_list c)) current));
  }

  -- the node stays
  keeps_still : (happened : List Happening) → b.node ≡ a.node → (b.ports port).current ≡ (a.ports port).current → AllHaveChange (a.ports port) happened → Holds port a.node (a.ports port).current
      → PortKeeps port happened [] [] a b
  keeps_still happened node current has held = keeps_by happened
      (subst (λ (s : Standing). Holds port s (b.ports port).current) (sym node) (subst (λ (c : Option Numbered). Holds port a.node c) (sym current) held))
      has (ap (λ (s : Standing). s.state.state.counts port) node) current

  keeps_all : b.node ≡ a.node → b.ports ≡ a.ports → Holds port a.node (a.ports port).current → PortKeeps port [] [] [] a b
  keeps_all node ports held = keeps_still [] node (ap (λ (f : ℕ → Port). (f port).current) ports) tt held

still : (port : ℕ) (a b c : Situation) → b ≡ c → c.node ≡ a.node → c.ports ≡ a.ports → Holds port a.node (a.ports port).current → PortKeeps port [] [] [] a b
still port a b c is node ports held = keeps_all port a b (ap (λ (s : Situation). s.node) is ∙ node) (ap (λ (s : Situation). s.ports) is ∙ ports) held

-- a request comes
current_at : (place : ℕ) (change : Port → Port) (ports : ℕ → Port) → ((p : Port) → (change p).current ≡ p.current) → (port : ℕ) → (at_place place change ports port).current ≡ (ports port).current
current_at place change ports same port = go (cases_eq port place)
  where
    go : (port ≡ place) ⊎ (port ≢ place) → (at_place place change ports port).current ≡ (ports port).current
    go (inl e) = subst (λ (p : ℕ). (at_place place change ports p).current ≡ (ports p).current) (sym e) (ap (λ (p : Port). p.current) (placed_here ports place change) ∙ same (ports place))
    go (inr n) = ap (λ (p : Port). p.current) (placed_else ports place change port n)

changing_stays : (command : Command) (p : Port) → (port_after p (Changing command)).current ≡ p.current
changing_stays command p = go (nat_lt (length p.waiting) 1024)
  where
    go : (b : Bool) → (if b then with_waiting p command else counted p).current ≡ p.current
    go true = refl
    go false = refl

comes : (port place : ℕ) (happened : List Happening) (change : Port → Port) (a b c : Situation) → b ≡ c → c.node ≡ a.node → c.ports ≡ at_place place change a.ports
    → ((p : Port) → (change p).current ≡ p.current) → AllHaveChange (a.ports port) happened → Holds port a.node (a.ports port).current → PortKeeps port (at_this port place happened) [] [] a b
comes port place happened change a b c is node ports same has held =
    keeps_still port a b (at_this port place happened) (ap (λ (s : Situation). s.node) is ∙ node)
    (ap (λ (s : Situation). (s.ports port).current) is ∙ (ap (λ (f : ℕ → Port). (f port).current) ports ∙ current_at place change a.ports same port))
    (have_at (nat_eq place port) happened (a.ports port) has) held

-- ---- acts of the node

module _ (set : Setting) (a b : Situation) (act : Act) (leads : ActLeads set.names set.ports a.node act b.node) where
  led : (P : State → Type 0) → P act.turn.state.state → P b.node.state.state
  led P is = subst (λ (s : AtClock State). P s.state) (sym leads.state) is

  -- one that issues no command
  keeps_act : (port : ℕ) → Stands a.node.state.state act.turn.state.state act.turn.reported.gave → b.ports ≡ a.ports → issued_in port (act ∷ []) ≡ [] → Holds port a.node (a.ports port).current
      → PortKeeps port [] [] (issued_in port (act ∷ [])) a b
  keeps_act port stands ports none held =
      let stood = led (λ (s : State). Stands a.node.state.state s act.turn.reported.gave) stands in
      subst (λ (w : List Command). PortKeeps port [] [] w a b) (sym none)
      (keeps_by port a b []
      (subst (λ (f : ℕ → Port). Holds port b.node (f port).current) (sym ports)
      (acts_hold (name_at set.names 0) port a.node b.node (a.ports port).current act.turn.reported.gave stood leads.answers held))
      tt (ap (λ (f : ℕ → ℕ). f port) stood.counts) (ap (λ (f : ℕ → Port). (f port).current) ports))

took_stands : (set : Setting) (peer : ℕ) (act : Act) (a b : Standing) → ActLeads set.names set.ports a act b → IsOf peer act.input → Fit a.state.state
    → Stands a.state.state act.turn.state.state act.turn.reported.gave
took_stands set peer act a b leads from fit = by act.input from leads.made
  where
    by : (input : Given) → IsOf peer input → act_step set.names set.ports a.state input ≡ Ok act.turn → Stands a.state.state act.turn.state.state act.turn.reported.gave
    by (TookPacket p x) is made = take_stands (whole_in set.names) (name_at set.names (p + 1)) x a.state act.turn fit made
    by (Saw p last) is made = absurd is
    by (Did action) is made = absurd is

tried_stands : (set : Setting) (op : OpId) (act : Act) (a b : Standing) → ActLeads set.names set.ports a act b → act.input ≡ Did (Retry op) → Fit a.state.state
    → Stands a.state.state act.turn.state.state act.turn.reported.gave
tried_stands set op act a b leads given fit =
    try_stands (whole_in set.names) set.ports op a.state act.turn fit (subst (λ (x : Given). act_step set.names set.ports a.state x ≡ Ok act.turn) given leads.made)

handed_opens : (set : Setting) (port : ℕ) (command : Command) (act : Act) (a b : Standing) → ActLeads set.names set.ports a act b → act.input ≡ Did (Issue port command) → Fit a.state.state
    → Opens port a.state.state act.turn.state.state act.turn.reported.gave
handed_opens set port command act a b leads given fit =
    issue_stands (whole_in set.names) set.ports port command a.state act.turn fit (subst (λ (x : Given). act_step set.names set.ports a.state x ≡ Ok act.turn) given leads.made)

took_none : (peer port : ℕ) (input : Given) → IsOf peer input → issued_of port input ++ [] ≡ []
took_none peer port (TookPacket p x) is = refl
took_none peer port (Saw p last) is = absurd is
took_none peer port (Did action) is = absurd is

-- ---- a change is handed over

one_more : (c d done x y n : ℕ) → d ≡ c + 1 → c ≡ done + x → x ≡ 0 → y ≡ 1 → d ≡ done + 0 + y
one_more c d done x y n e f g h = omega (arith, e, f, g, h)

module _ (set : Setting) (a : Situation) (place : ℕ) (act : Act) (b : Situation) (hands : Hands set a place act b) (fit : Fit a.node.state.state) where
  opens : Opens place a.node.state.state b.node.state.state act.turn.reported.gave
  opens = led set a b act hands.acts.leads (λ (s : State). Opens place a.node.state.state s act.turn.reported.gave)
      (handed_opens set place hands.change.command act a.node b.node hands.acts.leads hands.given fit)

  issued_there : (port : ℕ) → issued_in port (act ∷ []) ≡ at_this port place (hands.change.command ∷ [])
  issued_there port = ap (λ (x : Given). issued_of port x ++ []) hands.given ∙ append-nil (at_this port place (hands.change.command ∷ []))

  hands_here : Holds place a.node (a.ports place).current → PortKeeps place (Opened ∷ []) [] (hands.change.command ∷ []) a b
  hands_here held = record {
    held = subst (λ (c : Option Numbered). Holds place b.node c) (sym hands.next)
        (opens_hold (name_at set.names 0) place a.node b.node hands.change act.turn.reported.gave opens hands.acts.leads.answers
        (subst (λ (c : Option Numbered). Holds place a.node c) hands.free held));
    has = (tt, tt);
    counts = counts_here place a.node.state.state b.node.state.state opens.counts;
    told = λ done is. (
      refl,
      one_more _ _ done _ _ 0 (counts_here place a.node.state.state b.node.state.state opens.counts) is
          (ap (λ (c : Option Numbered). length (option_to_list c)) hands.free) (ap (λ (c : Option Numbered). length (option_to_list c)) hands.next),
    );
  }

  hands_else : (port : ℕ) → port ≢ place → Holds port a.node (a.ports port).current → PortKeeps port [] [] [] a b
  hands_else port n held =
      let current : (b.ports port).current ≡ (a.ports port).current =
      ap (λ (f : ℕ → Port). (f port).current) hands.ports ∙ ap (λ (p : Port). p.current) (placed_else a.ports place (λ p. port_after p Opened) port n) in
      keeps_by port a b []
      (subst (λ (c : Option Numbered). Holds port b.node c) (sym current)
      (opens_else place a.node b.node (a.ports port).current act.turn.reported.gave port opens
      (issued_else set.names set.ports a.node act b.node place hands.change.command hands.acts.leads hands.given port n) n held))
      tt (counts_else place a.node.state.state b.node.state.state opens.counts port n) current

  keeps_hands : (port : ℕ) → Holds port a.node (a.ports port).current → PortKeeps port (at_this port place (Opened ∷ [])) [] (issued_in port (act ∷ [])) a b
  keeps_hands port held = subst (λ (w : List Command). PortKeeps port (at_this port place (Opened ∷ [])) [] w a b) (sym (issued_there port)) (go (cases_eq port place))
    where
      go : (port ≡ place) ⊎ (port ≢ place) → PortKeeps port (at_this port place (Opened ∷ [])) [] (at_this port place (hands.change.command ∷ [])) a b
      go (inl e) = subst (λ (p : ℕ). PortKeeps p (at_this p place (Opened ∷ [])) [] (at_this p place (hands.change.command ∷ [])) a b) (sym e)
          (subst (λ (h : Bool). PortKeeps place (cond h (Opened ∷ []) []) [] (cond h (hands.change.command ∷ []) []) a b) (sym (eq-eqb place place refl))
          (hands_here (subst (λ (p : ℕ). Holds p a.node (a.ports p).current) e held)))
      go (inr n) = subst (λ (h : Bool). PortKeeps port (cond h (Opened ∷ []) []) [] (cond h (hands.change.command ∷ []) []) a b) (sym (ne_eqb place port (λ e. n (sym e)))) (hands_else port n held)

-- ---- the node refuses it

some_none : (current : Option Numbered) (change : Numbered) → current ≡ Some change → current ≢ None
some_none None change e f = cc
some_none (Some other) change e f = cc

module _ (set : Setting) (a : Situation) (place : ℕ) (b : Situation) (change : Numbered) (next : (port_after (a.ports place) Opened).current ≡ Some change) (free : (a.ports place).current ≡ None)
    (after : b ≡ record a { ports = at_place place (λ p. port_after (port_after p Opened) Closed) a.ports }) where
  keeps_declined : (port : ℕ) → Holds port a.node (a.ports port).current → PortKeeps port (at_this port place (Opened ∷ Closed ∷ [])) [] [] a b
  keeps_declined port held = keeps_still port a b (at_this port place (Opened ∷ Closed ∷ [])) (ap (λ (s : Situation). s.node) after) current has held
    where
      both : Port → Port
      both p = port_after (port_after p Opened) Closed

      current : (b.ports port).current ≡ (a.ports port).current
      current = ap (λ (s : Situation). (s.ports port).current) after ∙ go (cases_eq port place)
        where
          go : (port ≡ place) ⊎ (port ≢ place) → (at_place place (λ p. port_after (port_after p Opened) Closed) a.ports port).current ≡ (a.ports port).current
          go (inl e) = subst (λ (p : ℕ). (at_place place (λ q. port_after (port_after q Opened) Closed) a.ports p).current ≡ (a.ports p).current) (sym e)
              (ap (λ (p : Port). p.current) (placed_here a.ports place (λ q. port_after (port_after q Opened) Closed)) ∙ sym free)
          go (inr n) = ap (λ (p : Port). p.current) (placed_else a.ports place (λ q. port_after (port_after q Opened) Closed) port n)

      has : AllHaveChange (a.ports port) (at_this port place (Opened ∷ Closed ∷ []))
      has = at_bool (λ (h : Bool) (p : ℕ). AllHaveChange (a.ports p) (cond h (Opened ∷ Closed ∷ []) [])) port place (tt, (some_none _ change next, tt)) tt

-- ---- an answer is said

has_one : (current : Option Numbered) → current ≢ None → length (option_to_list current) ≡ 1
has_one None n = absurd (n refl)
has_one (Some change) n = refl

said_more : (c done x : ℕ) → c ≡ done + x → x ≡ 1 → c ≡ done + 1
said_more c done x e f = omega (arith, e, f)

said_done : (c done : ℕ) → c ≡ done + 1 → c ≡ done + 1 + 0
said_done c done e = omega (arith, e)

module _ (a : Situation) (place : ℕ) (answer : Answer) (later : List Answer) (first : a.node.answers place ≡ answer ∷ later) where
  answers_here : (b : Situation) → b.node.state ≡ a.node.state → b.node.answers place ≡ drop 1 (a.node.answers place) → (b.ports place).current ≡ None → Holds place a.node (a.ports place).current
      → PortKeeps place (Closed ∷ []) (answer ∷ []) [] a b
  answers_here b state answers current held =
      let last = is_last place a.node (a.ports place).current answer later held first in record {
        held = subst (λ (c : Option Numbered). Holds place b.node c) (sym current) (
          (λ number. ap (λ (s : AtClock State). open_at place s.state number) state ∙ last.none number),
          answers ∙ (ap (drop 1) first ∙ last.alone),
        );
        has = (last.some, tt);
        counts = none_more _ _ (ap (λ (s : AtClock State). s.state.counts place) state);
        told = λ done is.
            let more = said_more _ done _ is (has_one (a.ports place).current last.some) in (
              ap (λ (n : ℕ). n ∷ []) (last.number ∙ more),
              ap (λ (s : AtClock State). s.state.counts place) state
                  ∙ (said_done _ done more ∙ ap (λ (c : Option Numbered). done + 1 + length (option_to_list c)) (sym current)),
            );
      }

  keeps_answers : (set : Setting) (b : Situation) → b.node ≡ record a.node { answers = left_at place 1 a.node.answers } → b.ports ≡ at_place place with_answer a.ports
      → (port : ℕ) → Holds port a.node (a.ports port).current → PortKeeps port (at_this port place (Closed ∷ [])) (at_this port place (answer ∷ [])) [] a b
  keeps_answers set b node ports port held = go (cases_eq port place)
    where
      go : (port ≡ place) ⊎ (port ≢ place) → PortKeeps port (at_this port place (Closed ∷ [])) (at_this port place (answer ∷ [])) [] a b
      go (inl e) = subst (λ (p : ℕ). PortKeeps p (at_this p place (Closed ∷ [])) (at_this p place (answer ∷ [])) [] a b) (sym e)
          (subst (λ (h : Bool). PortKeeps place (cond h (Closed ∷ []) []) (cond h (answer ∷ []) []) [] a b) (sym (eq-eqb place place refl))
          (answers_here b (ap (λ (s : Standing). s.state) node)
          (ap (λ (s : Standing). s.answers place) node ∙ upd_at nat_eq a.node.answers place (drop 1 (a.node.answers place)) (eq-eqb place place refl))
          (ap (λ (f : ℕ → Port). (f place).current) ports ∙ ap (λ (p : Port). p.current) (placed_here a.ports place with_answer))
          (subst (λ (p : ℕ). Holds p a.node (a.ports p).current) e held)))
      go (inr n) = subst (λ (h : Bool). PortKeeps port (cond h (Closed ∷ []) []) (cond h (answer ∷ []) []) [] a b) (sym (ne_eqb place port (λ e. n (sym e))))
          (let current : (b.ports port).current ≡ (a.ports port).current =
          ap (λ (f : ℕ → Port). (f port).current) ports ∙ ap (λ (p : Port). p.current) (placed_else a.ports place with_answer port n) in
          keeps_by port a b []
          (subst (λ (c : Option Numbered). Holds port b.node c) (sym current)
          (holds_still port a.node b.node (a.ports port).current (λ number. ap (λ (s : Standing). open_at port s.state.state number) node) (ap (λ (s : Standing). s.state.state.counts port) node)
          (ap (λ (s : Standing). s.answers port) node ∙ upd_other nat_eq a.node.answers place (drop 1 (a.node.answers place)) port (ne_eqb place port (λ e. n (sym e)))) held))
          tt (ap (λ (s : Standing). s.state.state.counts port) node) current)

-- ---- each deed

pub keeps_deed : (set : Setting) (a : Situation) (deed : Deed) (said : List Output) (b : Situation) → Fit a.node.state.state → Does set a deed said b
    → (port : ℕ) → Holds port a.node (a.ports port).current → PortKeeps port (happened_of port deed) (said_of port deed) (issued_in port (act_of deed)) a b
keeps_deed set a (Read body) said b fit does port held = still port a b _ does.1 refl refl held
keeps_deed set a Brought said b fit does port held = still port a b _ does.1 refl refl held
keeps_deed set a Blamed said b fit does port held = still port a b _ does.1 refl refl held
keeps_deed set a Timed said b fit does port held = still port a b _ does.1 refl refl held
keeps_deed set a (Shared place) said b fit does port held = still port a b _ does.1 refl refl held
keeps_deed set a (Asked place command) said b fit does port held = comes port place (Counted ∷ []) counted a b _ does.after refl refl (λ p. refl) (tt, tt) held
keeps_deed set a (Queued place command) said b fit does port held =
    comes port place (Changing command ∷ []) (λ p. port_after p (Changing command)) a b _ does.after refl refl (changing_stays command) (tt, tt) held
keeps_deed set a (Fed peer bytes) said b fit does port held = still port a b _ does.1 refl refl held
keeps_deed set a (Took peer act) said b fit does port held =
    keeps_act set a b act does.1.leads port (took_stands set peer act a.node b.node does.1.leads does.1.given fit) does.1.aside.ports (took_none peer port act.input does.1.given) held
keeps_deed set a (Broke peer fault) said b fit does port held = still port a b _ does.after refl refl held
keeps_deed set a (Handed place act) said b fit does port held = keeps_hands set a place act b does.1 fit port held
keeps_deed set a (Declined place refusal) said b fit does port held = keeps_declined set a place b does.change does.next does.free does.after port held
keeps_deed set a (Looked place seen is_tick) said b fit does port held = still port a b _ does.2 refl refl held
keeps_deed set a (Tried place act) said b fit does port held =
    keeps_act set a b act does.1.acts.leads port (tried_stands set _ act a.node b.node does.1.acts.leads does.1.given fit) does.1.ports (ap (λ (x : Given). issued_of port x ++ []) does.1.given) held
keeps_deed set a (Denied place) said b fit does port held = still port a b _ does.3 refl refl held
keeps_deed set a (Answered place answer) said b fit does port held =
    keeps_answers a place answer does.later does.first set b (ap (λ (s : Situation). s.node) does.after) (ap (λ (s : Situation). s.ports) does.after) port held
keeps_deed set a Formed said b fit does port held = still port a b _ does.3 refl refl held
keeps_deed set a Aged said b fit does port held = still port a b _ does.3 refl refl held
keeps_deed set a (Crowded count) said b fit does port held = still port a b _ does.4 refl refl held
keeps_deed set a (Sent peer bytes) said b fit does port held = still port a b _ does.after refl refl held

-- and what is of use, and open, of all of the node
same_fit : (a b c : Situation) → b ≡ c → c.node.state ≡ a.node.state → Fit a.node.state.state → Fit b.node.state.state
same_fit a b c is state fit = subst (λ (s : AtClock State). Fit s.state) (sym (ap (λ (s : Situation). s.node.state) is ∙ state)) fit

pub fits_deed : (set : Setting) (a : Situation) (deed : Deed) (said : List Output) (b : Situation) → Fit a.node.state.state → Does set a deed said b → Fit b.node.state.state
fits_deed set a (Read body) said b fit does = same_fit a b _ does.1 refl fit
fits_deed set a Brought said b fit does = same_fit a b _ does.1 refl fit
fits_deed set a Blamed said b fit does = same_fit a b _ does.1 refl fit
fits_deed set a Timed said b fit does = same_fit a b _ does.1 refl fit
fits_deed set a (Shared place) said b fit does = same_fit a b _ does.1 refl fit
fits_deed set a (Asked place command) said b fit does = same_fit a b _ does.after refl fit
fits_deed set a (Queued place command) said b fit does = same_fit a b _ does.after refl fit
fits_deed set a (Fed peer bytes) said b fit does = same_fit a b _ does.1 refl fit
fits_deed set a (Took peer act) said b fit does = led set a b act does.1.leads Fit (took_stands set peer act a.node b.node does.1.leads does.1.given fit).fit
fits_deed set a (Broke peer fault) said b fit does = same_fit a b _ does.after refl fit
fits_deed set a (Handed place act) said b fit does = led set a b act does.1.acts.leads Fit (handed_opens set place does.1.change.command act a.node b.node does.1.acts.leads does.1.given fit).fit
fits_deed set a (Declined place refusal) said b fit does = same_fit a b _ does.after refl fit
fits_deed set a (Looked place seen is_tick) said b fit does = same_fit a b _ does.2 refl fit
fits_deed set a (Tried place act) said b fit does = led set a b act does.1.acts.leads Fit (tried_stands set _ act a.node b.node does.1.acts.leads does.1.given fit).fit
fits_deed set a (Denied place) said b fit does = same_fit a b _ does.3 refl fit
fits_deed set a (Answered place answer) said b fit does = same_fit a b _ does.after refl fit
fits_deed set a Formed said b fit does = same_fit a b _ does.3 refl fit
fits_deed set a Aged said b fit does = same_fit a b _ does.3 refl fit
fits_deed set a (Crowded count) said b fit does = same_fit a b _ does.4 refl fit
fits_deed set a (Sent peer bytes) said b fit does = same_fit a b _ does.after refl fit

-- ---- one after another

numbers_on : (done : ℕ) (xs ys : List Answer) → numbers_behind done (length xs) ++ numbers_behind (done + length xs) (length ys) ≡ numbers_behind done (length (xs ++ ys))
numbers_on done [] ys = ap (λ (n : ℕ). numbers_behind n (length ys)) (none done)
  where
    none : (n : ℕ) → n + 0 ≡ n
    none n = omega arith
numbers_on done (x ∷ xs) ys = ap (λ (w : List ℕ). (done + 1) ∷ w) (ap (λ (n : ℕ). numbers_behind (done + 1) (length xs) ++ numbers_behind n (length ys)) (one done (length xs)) ∙ numbers_on (done + 1) xs ys)
  where
    one : (n m : ℕ) → n + suc m ≡ n + 1 + m
    one n m = omega arith

keeps_on : (port : ℕ) (xs ys : List Happening) (said more : List Answer) (issued others : List Command) (a m b : Situation) → (m.ports port) ≡ port_at_last (a.ports port) xs
    → PortKeeps port xs said issued a m → PortKeeps port ys more others m b → PortKeeps port (xs ++ ys) (said ++ more) (issued ++ others) a b
keeps_on port xs ys said more issued others a m b last one two = record {
  held = two.held;
  has = have_on xs ys (a.ports port) one.has (subst (λ (p : Port). AllHaveChange p ys) last two.has);
  counts = sums _ _ _ _ _ _ one.counts two.counts (length-append issued others);
  told = λ done is.
      let here = one.told done is in
      let there = two.told (done + length said) here.1 in (
        map_on (λ (answer : Answer). answer.number) said more
            ∙ (ap (λ (w : List ℕ). w ++ map (λ (answer : Answer). answer.number) more) here.0 ∙ (ap (λ (w : List ℕ). numbers_behind done (length said) ++ w) there.0 ∙ numbers_on done said more)),
        both _ _ _ _ _ _ there.1 (length-append said more),
      );
}
  where
    sums : (c d e i j k : ℕ) → d ≡ c + i → e ≡ d + j → k ≡ i + j → e ≡ c + k
    sums c d e i j k x y z = omega (arith, x, y, z)

    both : (c done i j k x : ℕ) → c ≡ done + i + j + x → k ≡ i + j → c ≡ done + k + x
    both c done i j k x y z = omega (arith, y, z)

chain_keeps : (set : Setting) (a : Situation) (steps : List Step) (b : Situation) → LostNone a → AllDo set a steps b → Fit a.node.state.state
    → ((port : ℕ) → Holds port a.node (a.ports port).current) → (port : ℕ) → PortKeeps port (happened_in port steps) (answers_in port steps) (issued_in port (acts_of steps)) a b
chain_keeps set a [] b sound does fit held port = still port a b a does refl refl (held port)
chain_keeps set a (step ∷ steps) b sound does fit held port =
    let m = does.0 in
    let moves = moves_by set a step.deed step.said m sound does.1 in
    let one = keeps_deed set a step.deed step.said m fit does.1 in
    let rest = chain_keeps set m steps b (λ node. ap (λ f. f node) moves.node.lost ∙ sound node) does.2 (fits_deed set a step.deed step.said m fit does.1) (λ p. (one p (held p)).held) port in
    subst (λ (w : List Command). PortKeeps port (happened_in port (step ∷ steps)) (answers_in port (step ∷ steps)) w a b)
    (sym (flat_map-append (λ (act : Act). issued_of port act.input) (act_of step.deed) (acts_of steps)))
    (keeps_on port (happened_of port step.deed) (happened_in port steps) (said_of port step.deed) (answers_in port steps) (issued_in port (act_of step.deed)) (issued_in port (acts_of steps)) a m b
    (moves.ports port).goes.last (one port (held port)) rest)

-- what is said there
chain_names : (set : Setting) (a : Situation) (steps : List Step) (b : Situation) → LostNone a → AllDo set a steps b → (port : ℕ)
    → flat_map (named_in port) (said_in steps) ≡ map shown (all_replied (a.ports port) (happened_in port steps))
chain_names set a [] b sound does port = refl
chain_names set a (step ∷ steps) b sound does port =
    let m = does.0 in
    let moves = moves_by set a step.deed step.said m sound does.1 in
    names_on port step steps (a.ports port) (m.ports port) (happened_of port step.deed) (happened_in port steps) (moves.ports port).goes.last
    (names_deed set a step.deed step.said m does.1 port) (chain_names set m steps b (λ node. ap (λ f. f node) moves.node.lost ∙ sound node) does.2 port)

last_at : (set : Setting) (a : Situation) (steps : List Step) (b : Situation) → LostNone a → AllDo set a steps b → (port : ℕ) → b.ports port ≡ port_at_last (a.ports port) (happened_in port steps)
last_at set a steps b sound does port = ((chains_account set a steps b does sound).ports port).last

-- ---- the law

-- nothing is open at first
first_fit : (table : Table) (made : ℕ) → Fit (new_state table made)
first_fit table made = record { fits = λ c. tt; closed = λ op below. refl }

module _ (config : ProcessConfig) (groups : GroupList) (set : Setting) (a : Situation) (starts : StartsAs config groups set a) where
  port_is : (port : ℕ) → a.ports port ≡ nothing_came
  port_is port = ap (λ (f : ℕ → Port). f port) starts.ports

  pub starts_fit : Fit a.node.state.state
  starts_fit = subst (λ (s : AtClock State). Fit s.state) (sym starts.state) (first_fit (first_table groups) config.made)

  pub starts_held : (port : ℕ) → Holds port a.node (a.ports port).current
  starts_held port = subst (λ (q : Port). Holds port a.node q.current) (sym (port_is port))
      ((λ number. ap (λ (s : AtClock State). open_at port s.state number) starts.state), ap (λ (f : ℕ → List Answer). f port) starts.answers)

pub chains_reply : ChainsReply
chains_reply config groups set a steps b starts does port =
    let sound : LostNone a = λ node. ap (λ (s : AtClock State). s.state.lost node) starts.state in
    let is = port_is config groups set a starts port in
    let keeps = chain_keeps set a steps b sound does (starts_fit config groups set a starts) (starts_held config groups set a starts) port in
    let none : counts_of port a ≡ 0 = ap (λ (s : AtClock State). s.state.counts port) starts.state in
    let told = keeps.told 0 (none ∙ ap (λ (q : Port). 0 + length (option_to_list q.current)) (sym is)) in
    let has = subst (λ (q : Port). AllHaveChange q (happened_in port steps)) is keeps.has in
    let last = last_at set a steps b sound does port ∙ ap (λ (q : Port). port_at_last q (happened_in port steps)) is in record {
      said = chain_names set a steps b sound does port ∙ ap (λ (q : Port). map shown (all_replied q (happened_in port steps))) is;
      changes = has;
      each = λ number. none_before _ _ _ (all_balance number nothing_came (happened_in port steps) has)
          ∙ ap (λ (q : Port). times_of number (all_replied nothing_came (happened_in port steps)) + times_of number (unreplied q)) (sym last);
      answers = told.0;
      issued = all_issued _ _ _ _ _ keeps.counts none told.1;
    }
  where
    none_before : (x y z : ℕ) → x + 0 ≡ y + z → x ≡ y + z
    none_before x y z e = omega (arith, e)

    all_issued : (c d i j x : ℕ) → d ≡ c + i → c ≡ 0 → d ≡ 0 + j + x → i ≡ j + x
    all_issued c d i j x e f g = omega (arith, e, f, g)
