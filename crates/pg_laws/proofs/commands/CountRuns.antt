-- Each command that came in is answered or open, in each run.
use Rattle.std.proofs.Common.{◌≡◌, ◌⊎◌, inl, inr, ℕ, zero, suc, ◌+◌, Bool, true, false, cond, nat_eq, nat_lt, length}
use Rattle.std.proofs.Common.{List, [], ◌∷◌, ◌++◌, Option, Some, None, Ok, Err, refl, ap, sym, ◌∙◌, subst, arith}
use Rattle.std.proofs.lemmas.Bool.{eq-eqb, ne_eqb, cases_eq}
use Rattle.std.proofs.lemmas.Bool.Decides.{Decides-ltb}
use Rattle.std.proofs.lemmas.List.{length-append}
use Rattle.pg_step.specs.PgGroup.Functions.{upd}
use Rattle.pg_step.proofs.PgGroup.Changes.{upd_at, upd_other}
use Rattle.pg_step.specs.PgMessageTypes.declared.message.Message.{Message}
use Rattle.pg_step.specs.Machines.Clocked.{plain}
use Rattle.pg_step.specs.Machines.Happened.{Happened}
use Rattle.pg_step.specs.Machines.Machine.{Event, Input, Turn, Taken, Own, node_of, start_of}
use Rattle.pg_step.proofs.Machines.Plain.{plain_from_start}
use Rattle.pg_step.proofs.Machines.Sequences.{kept}
use Rattle.pg_step.proofs.Machines.Steps.{changes}
use Rattle.pg_step.specs.declared.command.Command.{Command}
use Rattle.pg_step.specs.declared.command.OpId.{OpId}
use Rattle.pg_step.specs.declared.refusal.Refusal.TheVariants.{NoSuchPlace, NotWaiting}
use Rattle.pg_step.specs.Attempts.{waits, tried_again}
use Rattle.pg_step.specs.Commands.{command as command_in, count_command, fault_of, next_op}
use Rattle.pg_step.specs.Config.{Config, name_at, nodes_at, ports_at}
use Rattle.pg_step.specs.FrameMachine.{FrameWorld, machine_of, node_step}
use Rattle.pg_step.specs.Nodes.{Nodes}
use Rattle.pg_step.specs.Peers.{exchange, process_end}
use Rattle.pg_step.specs.State.{State, Response, live_nodes}
use Rattle.pg_step.specs.Step.{CLOCK_LIMIT, Action, Issue, Retry, acted}
use Rattle.pg_step.specs.Turns.{NodeTurn, Report}
use Rattle.pg_laws.specs.Counted.{CountsCommands, open_at, open_in}
use Rattle.pg_laws.specs.History.{AnswerList, answers_by}
use Rattle.pg_laws.specs.Reached.{Reaches, TimedFrameWorld}
use Rattle.pg_laws.proofs.commands.Answered.{NoCommand}
use Rattle.pg_laws.proofs.commands.Counting.{Counts, Keeps, gave_at, counted_keeps_all}
use Rattle.pg_laws.proofs.commands.Counting.{counts_singly, command_done, same_keeps}
use Rattle.pg_laws.proofs.commands.Ports.{counts_by, step_counts}
use Rattle.pg_laws.proofs.commands.Stand.{and_gave}
use Rattle.pg_laws.proofs.commands.StandRuns.{own_answers, other_answers}
use Rattle.pg_laws.proofs.references.Fitting.{same_fitting}
use Rattle.pg_laws.proofs.references.FittingRuns.{new_op}
use Rattle.pg_laws.proofs.steps.Made.{took_so, did_so}
use Rattle.pg_laws.proofs.steps.Single.{AnyUpdate, Makes, ok_is, tried_so, taken_so}
use Rattle.pg_laws.proofs.steps.Ways.{state_after}

-- what comes in at a port with an input
came : Input Message Action → ℕ → ℕ
came (Own (Issue port c)) p = cond (nat_eq port p) 1 0
came (Own (Retry op)) p = 0
came (Taken q x) p = 0

-- an input at a node: what came in is open or answered besides what was open
abbrev Balances : ℕ → State → Input Message Action → State → Option (OpId × Response) → Type 0
Balances ports s input t gave = Counts ports s → Counts ports t × ((port : ℕ) → open_at port t + gave_at port gave ≡ open_at port s + came input port)

none_came : (ports : ℕ) (s : State) (t : NodeTurn) → Keeps ports s t → Counts ports s → Counts ports t.state × ((port : ℕ) → open_at port t.state + gave_at port t.reported.gave ≡ open_at port s + 0)
none_came ports s t keeps counts =
    let done = keeps counts in
    (done.0, λ port. done.1 port ∙ zero (open_at port s))
  where
    zero : (n : ℕ) → n ≡ n + 0
    zero n = omega arith

module _ (config : Config) (i : ℕ) (s : State) where
  abbrev ports : ℕ
  ports = ports_at config i

  abbrev m : Nodes
  m = live_nodes (nodes_at config i) s

  commanded : (port : ℕ) (c : Command) → nat_lt port ports ≡ true → Balances ports s (Own (Issue port c)) (command_in (nodes_at config i) m port c s).state (command_in (nodes_at config i) m port c s).reported.gave
  unfolding came
  commanded port c there counts =
      let first = counted_keeps_all ports port s counts in
      let new = new_op s counts.fitting port in
      let later = command_done ports m (fault_of (nodes_at config i) s c) (next_op port s) c (count_command port s).state new.0 (omega arith) new.1 ((Decides-ltb port ports).0 there) first.0 in
      (later.0, λ p. later.1 p ∙ ap (λ n. n + cond (nat_eq port p) 1 0) (zero (open_at p (count_command port s).state) ∙ first.1 p))
    where
      zero : (n : ℕ) → n ≡ n + 0
      zero n = omega arith

  acts_balance : (action : Action) (t : NodeTurn) → acted (nodes_at config i) m ports action s ≡ Ok t → Balances ports s (Own action) t.state t.reported.gave
  unfolding came
  acts_balance (Issue port c) t is = go (nat_lt port ports) refl is
    where
      go : (b : Bool) → nat_lt port ports ≡ b → Makes (cond b (Ok (command_in (nodes_at config i) m port c s)) (Err NoSuchPlace)) t → Balances ports s (Own (Issue port c)) t.state t.reported.gave
      go true there e = subst (λ (u : NodeTurn). Balances ports s (Own (Issue port c)) u.state u.reported.gave) (ok_is e) (commanded port c there)
      go false there e = absurd (cc)
  acts_balance (Retry op) t is = go (nat_lt op.port ports) (waits m (s.stages op) s) is
    where
      go : (b d : Bool) → Makes (cond b (cond d (Ok (tried_again (s.stages op) m op s)) (Err NotWaiting)) (Err NoSuchPlace)) t → Balances ports s (Own (Retry op)) t.state t.reported.gave
      go true true e = subst (λ (u : NodeTurn). Balances ports s (Own (Retry op)) u.state u.reported.gave) (ok_is e)
          (none_came ports s (tried_again (s.stages op) m op s) (tried_so m NoCommand AnyUpdate (Keeps ports) (Keeps ports) (counts_singly ports m) (s.stages op) op s refl))
      go true false e = absurd (cc)
      go false d e = absurd (cc)

  step_balance : (input : Input Message Action) (turn : Turn State Message Report) → node_step config i s input ≡ Some turn → Balances ports s input turn.state turn.reported.gave
  unfolding came
  step_balance (Taken p x) turn is =
      let t = took_so config i s p x turn is in
      subst (λ (u : Turn State Message Report). Balances ports s (Taken p x) u.state u.reported.gave) (sym t.2)
      (none_came ports s t.0 (taken_so m NoCommand AnyUpdate (Keeps ports) (Keeps ports) (counts_singly ports m) (name_at config p) x s t.0
      (λ node groups _ _. same_keeps ports s (exchange (name_at config p) groups s) refl refl refl refl (same_fitting s _ refl refl refl refl))
      (λ pid _. same_keeps ports s (process_end pid s) refl refl refl refl (same_fitting s _ refl refl refl refl)) t.1))
  step_balance (Own action) turn is =
      let t = did_so config i s action turn is in
      subst (λ (u : Turn State Message Report). Balances ports s (Own action) u.state u.reported.gave) (sym t.2) (acts_balance action t.0 t.1)

counts_came : (input : Input Message Action) (counts : ℕ → ℕ) (p : ℕ) → counts_by input counts p ≡ counts p + came input p
unfolding came
counts_came (Taken q x) counts p = omega arith
counts_came (Own (Retry op)) counts p = omega arith
counts_came (Own (Issue port c)) counts p = go (cases_eq port p)
  where
    go : (port ≡ p) ⊎ (port ≡ p → ⊥) → upd nat_eq counts port (counts port + 1) p ≡ counts p + cond (nat_eq port p) 1 0
    go (inl same) = subst (λ q. upd nat_eq counts port (counts port + 1) q ≡ counts q + 1) same (upd_at nat_eq counts port (counts port + 1) (eq-eqb port port refl)) ∙ ap (λ b. counts p + cond b 1 0) (sym (eq-eqb port p same))
    go (inr other) = upd_other nat_eq counts port (counts port + 1) p (ne_eqb port p other) ∙ zero (counts p) ∙ ap (λ b. counts p + cond b 1 0) (sym (ne_eqb port p other))
      where
        zero : (n : ℕ) → n ≡ n + 0
        zero n = omega arith

given_length : (x : AnswerList) (gave : Option (OpId × Response)) (port : ℕ) → length (and_gave x gave port) ≡ length (x port) + gave_at port gave
given_length x None port = omega arith
given_length x (Some (op, r)) port = go (cases_eq op.port port)
  where
    go : (op.port ≡ port) ⊎ (op.port ≡ port → ⊥) → length (and_gave x (Some (op, r)) port) ≡ length (x port) + cond (nat_eq op.port port) 1 0
    go (inl same) = subst (λ q. length (and_gave x (Some (op, r)) q) ≡ length (x q) + 1) same
        (ap length (upd_at nat_eq x op.port (x op.port ++ (op.number, r) ∷ []) (eq-eqb op.port op.port refl)) ∙ length-append (x op.port) ((op.number, r) ∷ []))
        ∙ ap (λ b. length (x port) + cond b 1 0) (sym (eq-eqb op.port port same))
    go (inr other) = ap length (upd_other nat_eq x op.port (x op.port ++ (op.number, r) ∷ []) port (ne_eqb op.port port other)) ∙ zero (length (x port)) ∙ ap (λ b. length (x port) + cond b 1 0) (sym (ne_eqb op.port port other))
      where
        zero : (n : ℕ) → n ≡ n + 0
        zero n = omega arith

-- ---- runs

pub record AllCounts (config : Config) (w : FrameWorld) (i : ℕ) : Type 0 where
  pub counts : Counts (ports_at config i) (w.node i)
  pub answered : (port : ℕ) → (w.node i).counts port ≡ length (answers_by i w.reported port) + open_at port (w.node i)

abbrev Answering : FrameWorld → ℕ → State → AnswerList → Type 0
Answering w i s x = (port : ℕ) → s.counts port ≡ length (x port) + open_at port s

pub event_counts : (config : Config) (w v : FrameWorld) (e : Event Action) → Happened (machine_of config) w e v → ((i : ℕ) → AllCounts config w i) → (i : ℕ) → AllCounts config v i
event_counts config w v e h all i = record {
  counts = state_after (machine_of config) w v e h (Counts (ports_at config i)) i
      (λ own. subst (λ j. Counts (ports_at config j) h.turn.state) (sym own) step.0) (λ other. (all i).counts);
  answered = state_after (machine_of config) w v e h (λ s. Answering v i s (answers_by i v.reported)) i
      (λ own. subst (λ ts. Answering v i h.turn.state (answers_by i ts)) (sym reported)
      (subst (Answering v i h.turn.state) (sym (own_answers i (node_of e) w.reported h.turn.reported (sym own)))
      (subst (λ z. Answering v i h.turn.state (and_gave (answers_by z w.reported) h.turn.reported.gave)) (sym own) here)))
      (λ other. subst (λ ts. Answering v i (w.node i) (answers_by i ts)) (sym reported)
      (subst (Answering v i (w.node i)) (sym (other_answers i (node_of e) w.reported h.turn.reported (λ same. other (sym same)))) (all i).answered));
}
  where
    before : State
    before = w.node (node_of e)

    reported : v.reported ≡ w.reported ++ (node_of e, h.turn.reported) ∷ []
    reported = (changes (machine_of config) w v e h).reported

    step : Counts (ports_at config (node_of e)) h.turn.state × ((port : ℕ) → open_at port h.turn.state + gave_at port h.turn.reported.gave ≡ open_at port before + came h.input port)
    step = step_balance config (node_of e) before h.input h.turn h.made ((all (node_of e)).counts)

    add : (c0 c1 a0 a1 g o0 o1 k : ℕ) → c1 ≡ c0 + k → c0 ≡ a0 + o0 → a1 ≡ a0 + g → o1 + g ≡ o0 + k → c1 ≡ a1 + o1
    add c0 c1 a0 a1 g o0 o1 k x y z u = omega arith

    here : (port : ℕ) → h.turn.state.counts port ≡ length (and_gave (answers_by (node_of e) w.reported) h.turn.reported.gave port) + open_at port h.turn.state
    here port = add (before.counts port) (h.turn.state.counts port) (length (answers_by (node_of e) w.reported port))
        (length (and_gave (answers_by (node_of e) w.reported) h.turn.reported.gave port)) (gave_at port h.turn.reported.gave)
        (open_at port before) (open_at port h.turn.state) (came h.input port)
        (ap (λ (f : ℕ → ℕ). f port) (step_counts config (node_of e) before h.input h.turn h.made) ∙ counts_came h.input before.counts port)
        ((all (node_of e)).answered port) (given_length (answers_by (node_of e) w.reported) h.turn.reported.gave port) (step.1 port)

none_open : (n : ℕ) (s : State) → ((port : ℕ) → open_at port s ≡ 0) → open_in n s ≡ 0
none_open zero s none = refl
none_open (suc n) s none = ap (λ m. m + open_in n s) (none n) ∙ ap (λ m. 0 + m) (none_open n s none)

pub start_counts : (config : Config) (i : ℕ) → AllCounts config (start_of (machine_of config)) i
start_counts config i = record {
  counts = record {
    fitting = record { fresh = λ c above. refl; fits = λ c. tt; closed = λ op below. refl };
    within = λ op never. absurd (cc);
    all = sym (none_open (ports_at config i) ((start_of (machine_of config)).node i) (λ port. refl));
  };
  answered = λ port. refl;
}

pub all_counted : (config : Config) (w : TimedFrameWorld) (es : List (Event Action)) (i : ℕ) → Reaches config es w → AllCounts config (plain w) i
all_counted config w es i l =
    kept (machine_of config) (λ v. (j : ℕ) → AllCounts config v j) (event_counts config) es (start_of (machine_of config)) (plain w)
    (plain_from_start (machine_of config) CLOCK_LIMIT es w l) (start_counts config) i

pub counted : (config : Config) (w : TimedFrameWorld) (es : List (Event Action)) (i : ℕ) → Reaches config es w → CountsCommands config (plain w) i
counted config w es i l = let all = all_counted config w es i l in record { answered = all.answered; open_ones = all.counts.all }
