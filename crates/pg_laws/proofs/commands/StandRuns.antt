-- How often each command stands among the entries, and how often it was answered, in each run.
use Rattle.std.proofs.Common.{◌≡◌, ◌≢◌, ℕ, ◌+◌, ◌<◌, ◌≤◌, Bool, true, false, ◌&&◌, cond, nat_eq, List}
use Rattle.std.proofs.Common.{[], ◌∷◌, ◌++◌, Option, Some, None, refl, ap, sym, ◌∙◌, subst, arith}
use Rattle.std.proofs.lemmas.Bool.{eq-eqb, eqb-true, ne_eqb}
use Rattle.std.proofs.lemmas.List.{append-nil}
use Rattle.pg_step.specs.PgGroup.Functions.{upd}
use Rattle.pg_step.specs.PgGroup.declared.update.Update.{Update}
use Rattle.pg_step.specs.PgMessageTypes.declared.message.Message.{Message}
use Rattle.pg_step.specs.PgMessageTypes.declared.message.Message.TheVariants.{Down}
use Rattle.pg_step.specs.declared.command.OpId.{OpId}
use Rattle.pg_step.specs.Machines.Machine.{Input, Turn, Event, Taken, Own, node_of, start_of}
use Rattle.pg_step.specs.Machines.Happened.{Happened}
use Rattle.pg_step.specs.Machines.Clocked.{plain}
use Rattle.pg_step.specs.State.{State, Response, live_nodes}
use Rattle.pg_step.specs.Nodes.{to_peers}
use Rattle.pg_step.specs.Peers.{exchange, process_end, ended_in}
use Rattle.pg_step.specs.Turns.{Report, becomes_and_sends}
use Rattle.pg_step.specs.Step.{CLOCK_LIMIT, Action}
use Rattle.pg_step.specs.Attempts.{same_op}
use Rattle.pg_step.specs.Commands.{next_op, count_command}
use Rattle.pg_step.specs.Config.{Config, name_at, nodes_at, ports_at}
use Rattle.pg_step.specs.FrameMachine.{node_step, machine_of, FrameWorld}
use Rattle.pg_laws.specs.History.{AnswerList, answer_at, answer_by, answers_by, Entry, entry_of, entries}
use Rattle.pg_laws.specs.History.{times, answered_count, has_answer, answers_to, is_op as tells_op}
use Rattle.pg_step.proofs.Machines.Steps.{changes}
use Rattle.pg_step.proofs.Machines.Sequences.{kept}
use Rattle.pg_step.proofs.Machines.Plain.{plain_from_start}
use Rattle.pg_laws.specs.Reached.{TimedFrameWorld, Reaches}
use Rattle.pg_laws.proofs.steps.Single.{AnyUpdate, acted_so, taken_so}
use Rattle.pg_laws.proofs.steps.Made.{took_so, did_so}
use Rattle.pg_laws.proofs.steps.Ways.{told_append, state_after}
use Rattle.pg_laws.proofs.steps.Grows.{entries_append}
use Rattle.pg_laws.proofs.references.FittingRuns.{new_op}
use Rattle.pg_laws.proofs.references.Fitting.{same_fitting}
use Rattle.pg_laws.proofs.commands.Stand.{Stands, Kept, with_answer, and_gave, begun_by}
use Rattle.pg_laws.proofs.commands.Stand.{answered_by, chance, under_way, one_at_most}
use Rattle.pg_laws.proofs.commands.StandTurns.{Unanswered, KeepsQuiet, KeepsAll, leaves_all, stands_singly}

-- ---- a step

-- a command that comes in has no answer
new_unanswered : (x : AnswerList) (s : State) → Kept x s → (port : ℕ) → Unanswered x (next_op port s) ((count_command port s).state)
new_unanswered x s all port = (new_op s all.fitting port, go (has_answer (next_op port s) x) refl)
  where
    late : s.counts port + 1 ≤ s.counts port → ⊥
    late within = absurd (omega arith)

    go : (b : Bool) → has_answer (next_op port s) x ≡ b → has_answer (next_op port s) x ≡ false
    go false is = is
    go true is = absurd (late (all.over (next_op port s) is).1)

step_stands : (x : AnswerList) (config : Config) (i : ℕ) (s : State) (input : Input Message Action) (turn : Turn State Message Report) → node_step config i s input ≡ Some turn
    → Kept x s → Kept (and_gave x turn.reported.gave) turn.state × ((op : OpId) → Stands op x s turn.state turn.reported)
step_stands x config i s (Taken p message) turn is all =
    let m = live_nodes (nodes_at config i) s in
    let t = took_so config i s p message turn is in
    subst (λ u. Kept (and_gave x u.reported.gave) u.state × ((op : OpId) → Stands op x s u.state u.reported)) (sym t.2)
    (taken_so m (Unanswered x) AnyUpdate (KeepsQuiet x) (KeepsAll x) (stands_singly x m) (name_at config p) message s t.0
    (λ node groups _ _. leaves_all x s (exchange (name_at config p) groups s) refl refl refl refl refl (same_fitting s _ refl refl refl refl))
    (λ pid _. leaves_all x s (process_end pid s) refl refl refl refl refl (same_fitting s _ refl refl refl refl)) t.1 all)
step_stands x config i s (Own action) turn is all =
    let m = live_nodes (nodes_at config i) s in
    let t = did_so config i s action turn is in
    subst (λ u. Kept (and_gave x u.reported.gave) u.state × ((op : OpId) → Stands op x s u.state u.reported)) (sym t.2)
    (acted_so m (Unanswered x) AnyUpdate (KeepsQuiet x) (KeepsAll x) (stands_singly x m) (nodes_at config i)
    (λ pid u _ _ _. leaves_all x u (becomes_and_sends (ended_in pid u) (to_peers m (λ _. true) (Down pid))) refl refl refl refl refl (same_fitting u _ refl refl refl refl))
    (ports_at config i) action s t.0 (new_unanswered x s all) (λ port c u _ _. tt) t.1 all)

-- ---- counts

times_append : (i : ℕ) (op : OpId) (es fs : List Entry) → times i op (es ++ fs) ≡ times i op es + times i op fs
times_append i op [] fs = let zero : 0 + times i op fs ≡ times i op fs = omega arith in sym zero
times_append i op (e ∷ es) fs =
    let one = cond {A = ℕ} (nat_eq e.node i && same_op op e.op) 1 0 in
    let more : one + (times i op es + times i op fs) ≡ one + times i op es + times i op fs = omega arith in
    ap (λ n. one + n) (times_append i op es fs) ∙ more

entry_times : (i j : ℕ) (op : OpId) (o : Option (OpId × Update)) → times i op (entry_of j o) ≡ cond (nat_eq j i) (begun_by op o) 0
entry_times i j op None = go (nat_eq j i)
  where
    go : (b : Bool) → ◌≡◌ {A = ℕ} 0 (cond b 0 0)
    go true = refl
    go false = refl
entry_times i j op (Some x) = go (nat_eq j i) (same_op op x.0)
  where
    go : (b d : Bool) → cond {A = ℕ} (b && d) 1 0 + 0 ≡ cond b (cond d 1 0) 0
    go true true = refl
    go true false = refl
    go false d = refl

pub more_times : (i j : ℕ) (op : OpId) (ts : List (ℕ × Report)) (reported : Report) → times i op (entries (ts ++ (j, reported) ∷ [])) ≡ times i op (entries ts) + cond (nat_eq j i) (begun_by op reported.began) 0
more_times i j op ts reported =
    let last : times i op (entries ((j, reported) ∷ [])) ≡ cond (nat_eq j i) (begun_by op reported.began) 0 =
    times_append i op (entry_of j reported.began) [] ∙ ap (λ n. n + 0) (entry_times i j op reported.began) ∙ no_more (cond (nat_eq j i) (begun_by op reported.began) 0) in
    ap (times i op) (entries_append ts ((j, reported) ∷ [])) ∙ times_append i op (entries ts) (entries ((j, reported) ∷ [])) ∙ ap (λ n. times i op (entries ts) + n) last
  where
    no_more : (n : ℕ) → n + 0 ≡ n
    no_more n = omega arith

pub more_answered : (i j : ℕ) (op : OpId) (ts : List (ℕ × Report)) (reported : Report) → answered_count i op (ts ++ (j, reported) ∷ []) ≡ answered_count i op ts + cond (nat_eq j i) (answered_by op reported.answered) 0
more_answered i j op [] reported = go (nat_eq j i) (tells_op op reported.answered)
  where
    go : (b d : Bool) → cond {A = ℕ} (b && d) 1 0 + 0 ≡ 0 + cond b (cond d 1 0) 0
    go true true = refl
    go true false = refl
    go false d = refl
more_answered i j op (t ∷ ts) reported =
    let one = cond {A = ℕ} (nat_eq t.0 i && tells_op op t.1.answered) 1 0 in
    let last = cond (nat_eq j i) (answered_by op reported.answered) 0 in
    let more : one + (answered_count i op ts + last) ≡ one + answered_count i op ts + last = omega arith in
    ap (λ n. one + n) (more_answered i j op ts reported) ∙ more

-- ---- answers

with_answer_at : (x : AnswerList) (op : OpId) (r : Response) (port : ℕ) → with_answer x op r port ≡ cond (nat_eq op.port port) (x op.port ++ (op.number, r) ∷ []) (x port)
unfolding upd
with_answer_at x op r port = refl

-- the answers of node i, once node j has told more
pub more_answers : (i j : ℕ) (ts : List (ℕ × Report)) (reported : Report) → answers_by i (ts ++ (j, reported) ∷ []) ≡ cond (nat_eq j i) (and_gave (answers_by i ts) reported.gave) (answers_by i ts)
more_answers i j ts reported = λ k port. (told_append (answer_by i port) ts ((j, reported) ∷ []) ∙ ap (λ xs. answers_by i ts port ++ xs) (append-nil (answer_by i port (j, reported))) ∙ go port (nat_eq j i) reported.gave) k
  where
    given : (port : ℕ) (op : OpId) (r : Response) (b : Bool) → nat_eq op.port port ≡ b
        → answers_by i ts port ++ cond b ((op.number, r) ∷ []) [] ≡ cond b (answers_by i ts op.port ++ (op.number, r) ∷ []) (answers_by i ts port)
    given port op r true e = ap (λ p. answers_by i ts p ++ (op.number, r) ∷ []) (sym (eqb-true op.port port e))
    given port op r false e = append-nil (answers_by i ts port)

    go : (port : ℕ) (b : Bool) (o : Option (OpId × Response)) → answers_by i ts port ++ cond b (answer_at port o) [] ≡ cond {A = AnswerList} b (and_gave (answers_by i ts) o) (answers_by i ts) port
    go port false o = append-nil (answers_by i ts port)
    go port true None = append-nil (answers_by i ts port)
    go port true (Some (op, r)) = given port op r (nat_eq op.port port) refl ∙ sym (with_answer_at (answers_by i ts) op r port)

pub own_answers : (i j : ℕ) (ts : List (ℕ × Report)) (reported : Report) → j ≡ i → answers_by i (ts ++ (j, reported) ∷ []) ≡ and_gave (answers_by i ts) reported.gave
own_answers i j ts reported own = more_answers i j ts reported ∙ ap (λ b. cond {A = AnswerList} b (and_gave (answers_by i ts) reported.gave) (answers_by i ts)) (eq-eqb j i own)

pub other_answers : (i j : ℕ) (ts : List (ℕ × Report)) (reported : Report) → j ≢ i → answers_by i (ts ++ (j, reported) ∷ []) ≡ answers_by i ts
other_answers i j ts reported other = more_answers i j ts reported ∙ ap (λ b. cond {A = AnswerList} b (and_gave (answers_by i ts) reported.gave) (answers_by i ts)) (ne_eqb j i other)

-- ---- runs

-- a command of node i, by the node's state and by what all nodes told
pub record StandsIn (i : ℕ) (op : OpId) (s : State) (reported : List (ℕ × Report)) : Type 0 where
  pub once : times i op (entries reported) + chance op (answers_by i reported) s ≤ 1
  pub balanced : times i op (entries reported) ≡ under_way (s.stages op) + answered_count i op reported

pub stands_later : (i j : ℕ) (op : OpId) (s t : State) (ts : List (ℕ × Report)) (reported : Report) → j ≡ i → StandsIn i op s ts → Stands op (answers_by i ts) s t reported → StandsIn i op t (ts ++ (j, reported) ∷ [])
stands_later i j op s t ts reported own before turn =
    let same = eq-eqb j i own in
    let begun : times i op (entries (ts ++ (j, reported) ∷ [])) ≡ times i op (entries ts) + begun_by op reported.began =
    more_times i j op ts reported ∙ ap (λ b. times i op (entries ts) + cond b (begun_by op reported.began) 0) same in
    let answered : answered_count i op (ts ++ (j, reported) ∷ []) ≡ answered_count i op ts + answered_by op reported.answered =
    more_answered i j op ts reported ∙ ap (λ b. answered_count i op ts + cond b (answered_by op reported.answered) 0) same in
    let x = answers_by i ts in
    let y = and_gave x reported.gave in
    let spent : begun_by op reported.began + chance op y t ≤ chance op x s = turn.spends in
    let balance : under_way (t.stages op) + answered_by op reported.answered ≡ under_way (s.stages op) + begun_by op reported.began = turn.balances in
    let once : times i op (entries ts) + chance op x s ≤ 1 = before.once in
    let balanced : times i op (entries ts) ≡ under_way (s.stages op) + answered_count i op ts = before.balanced in
    record {
      once = subst (λ z. times i op (entries (ts ++ (j, reported) ∷ [])) + chance op z t ≤ 1) (sym (own_answers i j ts reported own))
          (subst (λ n. n + chance op y t ≤ 1) (sym begun) (omega arith));
      balanced = begun ∙ sum (times i op (entries ts)) (begun_by op reported.began) (under_way (t.stages op)) (answered_count i op ts) (answered_by op reported.answered) (under_way (s.stages op)) balanced balance
          ∙ ap (λ n. under_way (t.stages op) + n) (sym answered);
    }
  where
    sum : (x b u a more w : ℕ) → x ≡ w + a → u + more ≡ w + b → x + b ≡ u + (a + more)
    sum x b u a more w e f = omega arith

pub stands_same : (i j : ℕ) (op : OpId) (s : State) (ts : List (ℕ × Report)) (reported : Report) → j ≢ i → StandsIn i op s ts → StandsIn i op s (ts ++ (j, reported) ∷ [])
stands_same i j op s ts reported other before =
    let differ = ne_eqb j i other in
    let begun : times i op (entries (ts ++ (j, reported) ∷ [])) ≡ times i op (entries ts) =
    more_times i j op ts reported ∙ ap (λ b. times i op (entries ts) + cond b (begun_by op reported.began) 0) differ ∙ no_more (times i op (entries ts)) in
    let answered : answered_count i op (ts ++ (j, reported) ∷ []) ≡ answered_count i op ts =
    more_answered i j op ts reported ∙ ap (λ b. answered_count i op ts + cond b (answered_by op reported.answered) 0) differ ∙ no_more (answered_count i op ts) in
    record {
      once = subst (λ z. times i op (entries (ts ++ (j, reported) ∷ [])) + chance op z s ≤ 1) (sym (other_answers i j ts reported other))
          (subst (λ n. n + chance op (answers_by i ts) s ≤ 1) (sym begun) before.once);
      balanced = begun ∙ before.balanced ∙ ap (λ n. under_way (s.stages op) + n) (sym answered);
    }
  where
    no_more : (n : ℕ) → n + 0 ≡ n
    no_more n = omega arith

pub record Standing (w : FrameWorld) : Type 0 where
  pub kept : (i : ℕ) → Kept (answers_by i w.reported) (w.node i)
  pub stands : (i : ℕ) (op : OpId) → StandsIn i op (w.node i) w.reported

pub event_stands : (config : Config) (w v : FrameWorld) (e : Event Action) → Happened (machine_of config) w e v → Standing w → Standing v
event_stands config w v e h all =
    let step = step_stands (answers_by (node_of e) w.reported) config (node_of e) (w.node (node_of e)) h.input h.turn h.made (all.kept (node_of e)) in
    let reported = (changes (machine_of config) w v e h).reported in
    record {
      kept = λ j. state_after (machine_of config) w v e h (λ s. Kept (answers_by j v.reported) s) j
          (λ own. subst (λ ts. Kept (answers_by j ts) h.turn.state) (sym reported)
          (subst (λ z. Kept z h.turn.state) (sym (own_answers j (node_of e) w.reported h.turn.reported (sym own)))
          (subst (λ z. Kept (and_gave (answers_by z w.reported) h.turn.reported.gave) h.turn.state) (sym own) step.0)))
          (λ other. subst (λ ts. Kept (answers_by j ts) (w.node j)) (sym reported)
          (subst (λ z. Kept z (w.node j)) (sym (other_answers j (node_of e) w.reported h.turn.reported (λ same. other (sym same)))) (all.kept j)));
      stands = λ j op. state_after (machine_of config) w v e h (λ s. StandsIn j op s v.reported) j
          (λ own. subst (StandsIn j op h.turn.state) (sym reported)
          (stands_later j (node_of e) op (w.node (node_of e)) h.turn.state w.reported h.turn.reported (sym own)
          (subst (λ z. StandsIn j op (w.node z) w.reported) own (all.stands j op)) (subst (λ z. Stands op (answers_by z w.reported) (w.node (node_of e)) h.turn.state h.turn.reported) (sym own) (step.1 op))))
          (λ other. subst (StandsIn j op (w.node j)) (sym reported) (stands_same j (node_of e) op (w.node j) w.reported h.turn.reported (λ same. other (sym same)) (all.stands j op)));
    }

pub start_stands : (config : Config) → Standing (start_of (machine_of config))
start_stands config = record {
  kept = λ i. record { fitting = record { fresh = λ c above. refl; fits = λ c. tt; closed = λ op below. refl }; over = λ op has. absurd (cc); single = λ op. omega arith };
  stands = λ i op. record { once = omega arith; balanced = refl };
}

pub standing : (config : Config) (es : List (Event Action)) (w : TimedFrameWorld) → Reaches config es w → Standing (plain w)
standing config es w l =
    kept (machine_of config) Standing (event_stands config) es (start_of (machine_of config)) (plain w)
    (plain_from_start (machine_of config) CLOCK_LIMIT es w l) (start_stands config)

-- ---- what that says

module _ (config : Config) (es : List (Event Action)) (w : TimedFrameWorld) (l : Reaches config es w) (i : ℕ) (op : OpId) where
  stand : StandsIn i op ((plain w).node i) (plain w).reported
  stand = (standing config es w l).stands i op

  pub stands_once : times i op (entries (plain w).reported) ≤ 1
  stands_once = let once : times i op (entries (plain w).reported) + chance op (answers_by i (plain w).reported) ((plain w).node i) ≤ 1 = stand.once in omega arith

  balance : times i op (entries (plain w).reported) ≡ under_way (((plain w).node i).stages op) + answered_count i op (plain w).reported
  balance = stand.balanced

  pub answered_at_most : answered_count i op (plain w).reported ≤ 1
  answered_at_most = within _ _ _ stands_once balance
    where
      within : (x u a : ℕ) → x ≤ 1 → x ≡ u + a → a ≤ 1
      within x u a most e = omega arith

  pub stands_answered : 0 < answered_count i op (plain w).reported → times i op (entries (plain w).reported) ≡ 1
  stands_answered some = one _ _ _ stands_once balance some
    where
      one : (x u a : ℕ) → x ≤ 1 → x ≡ u + a → 0 < a → x ≡ 1
      one x u a most e above = omega arith

  pub stands_not : has_answer op (answers_by i (plain w).reported) ≡ true → answered_count i op (plain w).reported ≡ 0 → times i op (entries (plain w).reported) ≡ 0
  stands_not has none =
      let over = ((standing config es w l).kept i).over op has in
      balance ∙ ap (λ x. under_way x + answered_count i op (plain w).reported) over.0 ∙ ap (λ n. 0 + n) none

  pub one_answer : answers_to op (answers_by i (plain w).reported) ≤ 1
  one_answer = one_at_most op (answers_by i (plain w).reported) (((standing config es w l).kept i).single op)
