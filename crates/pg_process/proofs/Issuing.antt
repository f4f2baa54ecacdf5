-- A command that comes in at a port is answered at that port alone.
use Rattle.std.proofs.Common.{◌≡◌, ◌≢◌, ◌∙◌, ◌+◌, ◌++◌, ◌∷◌, [], List, ℕ, Bool, true, false, cond, nat_eq, nat_lt, nat_le, Option, Some, None, Result, Ok, Err, refl, sym, ap, subst}
use Rattle.std.proofs.lemmas.Bool.{eq-eqb, ne_eqb}
use Rattle.pg_node.specs.PgNodeOpens.Places.{name_at, whole_in}
use Rattle.pg_node.specs.PgNodeState.States.{Gave}
use Rattle.pg_node.specs.PgStep.PgGroup.Functions.{upd}
use Rattle.pg_node.specs.PgStep.PgGroup.Value.{name_of}
use Rattle.pg_node.specs.PgStep.PgGroup.declared.update.Update.{Update}
use Rattle.pg_node.specs.PgStep.PgGroup.declared.update.Update.TheVariants as update
use Rattle.pg_node.specs.PgStep.PgLock.Attempts.{after_round, does_wait}
use Rattle.pg_node.specs.PgStep.Attempts.{all_granted, ask, attempt, begin, finish, give_up, go_on, locks_in, new_attempt, none_denied, none_missing, replies_in, round_of, with_asked}
use Rattle.pg_node.specs.PgStep.Commands.{OPEN_LIMIT, answer, carried_out, change, change_by, command as command_in, command_by, count_command, fault_of, look, next_op, open_command, refused, undertake}
use Rattle.pg_node.specs.PgStep.Nodes.{Node, Nodes, every, greatest}
use Rattle.pg_node.specs.PgStep.Peers.{would_grant}
use Rattle.pg_node.specs.PgStep.State.{Response, State, Use, live_nodes}
use Rattle.pg_node.specs.PgStep.State.Status.{Unasked}
use Rattle.pg_node.specs.PgStep.State.Use.{Fresh, Locking, Owning, Updating, Spent}
use Rattle.pg_node.specs.PgStep.Step.{CLOCK_LIMIT, Issue, TimedTurn, acted, at_clock, timed}
use Rattle.pg_node.specs.PgStep.Turns.{NodeTurn, and_then, becomes}
use Rattle.pg_node.specs.PgStep.declared.answer.Answer.{Answer}
use Rattle.pg_node.specs.PgStep.declared.answer.Reply.{Reply}
use Rattle.pg_node.specs.PgStep.declared.command.Command.{Command}
use Rattle.pg_node.specs.PgStep.declared.command.Command.TheVariants as command
use Rattle.pg_node.specs.PgStep.declared.command.OpId.{OpId}
use Rattle.pg_node.specs.PgStep.declared.command_fault.CommandFault.{CommandFault}
use Rattle.pg_node.specs.PgStep.declared.command_fault.CommandFault.TheVariants.{Busy}
use Rattle.pg_node.specs.PgStep.declared.refusal.Refusal.{Refusal}
use Rattle.pg_node.specs.PgStep.declared.refusal.Refusal.TheVariants.{NotAMessage, NoSuchPlace, NotWaiting, NodeLost, NotDrained, ClockFull, NotLost}
use Rattle.pg_term.specs.Same.{same_atom}
use Rattle.pg_node_run.specs.Acts.{Act, ActLeads, Did, Given, Standing, act_step}

-- an answer that was given is one at the port
abbrev GivenAt : ℕ → Option (OpId × Response) → Type 0
GivenAt port None = Unit {0}
GivenAt port (Some gave) = gave.0.port ≡ port

abbrev AnswersAt : ℕ → NodeTurn → Type 0
AnswersAt port t = GivenAt port t.reported.gave

-- what a reference is of use for is a command of the port
abbrev UsedAt : ℕ → Use → Type 0
UsedAt port (Locking op u lead st) = op.port ≡ port
UsedAt port (Updating op u lock replied) = op.port ≡ port
UsedAt port (Owning name u) = Unit {0}
UsedAt port Fresh = Unit {0}
UsedAt port Spent = Unit {0}

used_here : (port : ℕ) (uses : ℕ → Use) (n : ℕ) (used : Use) → UsedAt port used → UsedAt port (upd nat_eq uses n used n)
unfolding upd
used_here port uses n used is = subst (λ (b : Bool). UsedAt port (cond b used (uses n))) (sym (eq-eqb n n refl)) is

same_ok : {A E : Type 0} {x y : A} → ◌≡◌ {A = Result A E} (Ok x) (Ok y) → x ≡ y
same_ok e = cc

module _ (m : Nodes) (port : ℕ) where
  replies_at : (n : ℕ) (used : Use) (s : State) → UsedAt port used → AnswersAt port (replies_in m n used s)
  replies_at n (Updating op u c replied) s is = go (every m replied)
    where
      go : (b : Bool) → AnswersAt port (cond b (finish m n op u c s) (becomes s))
      go true = is
      go false = tt
  replies_at n (Locking op u lead st) s is = tt
  replies_at n (Owning name u) s is = tt
  replies_at n Fresh s is = tt
  replies_at n Spent s is = tt

  locks_at : (c : ℕ) (used : Use) (s : State) → UsedAt port used → AnswersAt port (locks_in m c used s)
  locks_at c (Locking op u lead st) s is = go (all_granted m st) (none_missing m st)
    where
      t : State
      t = (begin m c op u s).state

      go : (b d : Bool) → AnswersAt port (cond b (and_then (begin m c op u s) (λ v. replies_in m v.references (v.uses v.references) v)) (cond d (give_up m c op u st s) (becomes s)))
      go true d = replies_at t.references (t.uses t.references) t
          (used_here port (upd nat_eq s.uses c (Owning (name_of u) (s.references + 1))) (s.references + 1) (Updating op u c (same_atom m.own)) is)
      go false true = tt
      go false false = tt
  locks_at c (Updating op u lock replied) s is = tt
  locks_at c (Owning name u) s is = tt
  locks_at c Fresh s is = tt
  locks_at c Spent s is = tt

  go_on_at : (c : ℕ) (used : Use) (s : State) → UsedAt port used → AnswersAt port (go_on m c used s)
  go_on_at c (Locking op u lead st) s is = go (none_missing m st) (does_wait (after_round (round_of lead st) (none_denied m st)))
    where
      t : State
      t = (ask m (λ _. true) c op u lead st s).state

      go : (b d : Bool) → AnswersAt port (cond b (cond d (give_up m c op u st s) (and_then (ask m (λ _. true) c op u lead st s) (λ v. locks_in m c (v.uses c) v))) (becomes s))
      go true true = tt
      go true false = locks_at c (t.uses c) t (used_here port s.uses c (Locking op u lead (with_asked m (λ _. true) st (would_grant m s (name_of u)))) is)
      go false d = tt
  go_on_at c (Updating op u lock replied) s is = tt
  go_on_at c (Owning name u) s is = tt
  go_on_at c Fresh s is = tt
  go_on_at c Spent s is = tt

  attempt_at : (op : OpId) (u : Update) (s : State) → op.port ≡ port → AnswersAt port (attempt m op u s)
  attempt_at op u s is =
      let t = (new_attempt (greatest m) op u s).state in
      let r = (ask m (same_atom (greatest m)) t.references op u (greatest m) (λ _. Unasked) t).state in
      go_on_at t.references (r.uses t.references) r
      (used_here port t.uses t.references (Locking op u (greatest m) (with_asked m (same_atom (greatest m)) (λ _. Unasked) (would_grant m t (name_of u)))) is)

  undertake_at : (op : OpId) (u : Update) (s : State) → op.port ≡ port → AnswersAt port (undertake m op u s)
  undertake_at op u s is = go (nat_le OPEN_LIMIT s.opened)
    where
      go : (b : Bool) → AnswersAt port (cond b (answer op (refused Busy) s) (and_then (open_command op u s) (attempt m op u)))
      go true = is
      go false = attempt_at op u (open_command op u s).state is

  change_at : (op : OpId) (u : Update) (s : State) → op.port ≡ port → AnswersAt port (change m op u s)
  change_at op u s is = go (look (s.table (name_of u)) u)
    where
      go : (r : Option Reply) → AnswersAt port (change_by r m op u s)
      go (Some r) = is
      go None = undertake_at op u s is

  carried_at : (op : OpId) (c : Command) (s : State) → op.port ≡ port → AnswersAt port (carried_out m op c s)
  carried_at op (command.Create name) s is = change_at op (update.Create name) s is
  carried_at op (command.Delete name) s is = change_at op (update.Delete name) s is
  carried_at op (command.Join name pid) s is = change_at op (update.Join name pid) s is
  carried_at op (command.Leave name pid) s is = change_at op (update.Leave name pid) s is
  carried_at op command.Make s is = is
  carried_at op (command.Finish pid) s is = is
  carried_at op (command.Members name) s is = is
  carried_at op (command.LocalMembers name) s is = is
  carried_at op command.WhichGroups s is = is
  carried_at op (command.Closest name word) s is = is

  command_at : (whole : Nodes) (c : Command) (s : State) → AnswersAt port (command_in whole m port c s)
  command_at whole c s = go (fault_of whole t c)
    where
      t : State
      t = (count_command port s).state

      go : (f : Option CommandFault) → AnswersAt port (command_by f m (next_op port s) c t)
      go (Some f) = refl
      go None = carried_at (next_op port s) c t refl

  acted_at : (whole : Nodes) (ports : ℕ) (c : Command) (s : State) (t : NodeTurn) → acted whole m ports (Issue port c) s ≡ Ok t → AnswersAt port t
  acted_at whole ports c s t is = go (nat_lt port ports) is
    where
      go : (b : Bool) → ◌≡◌ {A = Result NodeTurn Refusal} (cond b (Ok (command_in whole m port c s)) (Err NoSuchPlace)) (Ok t) → AnswersAt port t
      go true e = subst (λ (x : NodeTurn). AnswersAt port x) (same_ok e) (command_at whole c s)
      go false e = absurd (cc)

-- ---- with clock

timed_at : (port clock : ℕ) (r : Result NodeTurn Refusal) (t : TimedTurn) → ((u : NodeTurn) → r ≡ Ok u → AnswersAt port u) → timed clock r ≡ Ok t → GivenAt port t.reported.gave
timed_at port clock (Ok u) t given_at e = go (nat_le clock CLOCK_LIMIT) e
  where
    go : (b : Bool) → ◌≡◌ {A = Result TimedTurn Refusal} (cond b (Ok (at_clock clock u)) (Err ClockFull)) (Ok t) → GivenAt port t.reported.gave
    go true h = subst (λ (x : TimedTurn). GivenAt port x.reported.gave) (same_ok h) (given_at u refl)
    go false h = absurd (cc)
timed_at port clock (Err fault) t given_at e = by fault e
  where
    none : (b : Bool) (other : Refusal) → ◌≡◌ {A = Result TimedTurn Refusal} (cond b (Err other) (Err ClockFull)) (Ok t) → GivenAt port t.reported.gave
    none true other h = absurd (cc)
    none false other h = absurd (cc)

    by : (f : Refusal) → timed clock (Err f) ≡ Ok t → GivenAt port t.reported.gave
    by NoSuchPlace h = absurd (cc)
    by NodeLost h = absurd (cc)
    by NotWaiting h = absurd (cc)
    by NotAMessage h = none (nat_le clock CLOCK_LIMIT) NotAMessage h
    by NotDrained h = none (nat_le clock CLOCK_LIMIT) NotDrained h
    by ClockFull h = none (nat_le clock CLOCK_LIMIT) ClockFull h
    by NotLost h = none (nat_le clock CLOCK_LIMIT) NotLost h

-- ---- in the answers that a node keeps

gave_else : (own : Node) (gave : Option (OpId × Response)) (port other : ℕ) (before after : ℕ → List Answer) → GivenAt port gave → Gave own gave before after → other ≢ port → after other ≡ before other
unfolding upd
gave_else own None port other before after is same n = ap (λ (xs : ℕ → List Answer). xs other) same
gave_else own (Some gave) port other before after is (r, answers, same) n =
    ap (λ (xs : ℕ → List Answer). xs other) same
    ∙ ap (λ (b : Bool). cond b (before gave.0.port ++ record { number = gave.0.number; reply = r } ∷ []) (before other)) (ne_eqb gave.0.port other (λ e. n (sym e ∙ is)))

-- the answers at the other ports stay
pub issued_else : (names : List Node) (ports : ℕ) (a : Standing) (act : Act) (b : Standing) (port : ℕ) (c : Command) → ActLeads names ports a act b → act.input ≡ Did (Issue port c)
    → (other : ℕ) → other ≢ port → b.answers other ≡ a.answers other
issued_else names ports a act b port c leads given other n =
    let made = subst (λ (x : Given). act_step names ports a.state x ≡ Ok act.turn) given leads.made in
    let given_at = timed_at port (a.state.clock + 1) (acted (whole_in names) (live_nodes (whole_in names) a.state.state) ports (Issue port c) a.state.state) act.turn
    (λ u e. acted_at (live_nodes (whole_in names) a.state.state) port (whole_in names) ports c a.state.state u e) made in
    gave_else (name_at names 0) act.turn.reported.gave port other a.answers b.answers given_at leads.answers n
