-- Events one at a time, each with the turn that it makes. Where a turn looks at a lock, what it finds is given.
use Rattle.std.specs.Cmp.{first_so, second_so}
use Rattle.pg_laws.specs.PgStep.Machines.Runs.{Leads}
use Rattle.std.proofs.Common.{zero, suc, take, drop, map, ◌≡◌, ℕ, Bool, true, false, not, ◌&&◌, cond, List, []}
use Rattle.std.proofs.Common.{◌∷◌, ◌++◌, Option, Some, None, Result, Ok, Err, refl, ap, sym, subst, ◌∙◌, nat_eq}
use Rattle.std.specs.List.{AllByRecursion}
use Rattle.std.specs.Prelude.{option_map, option_and_then, ◌-◌}
use Rattle.pg_term.specs.declared.pid.Pid.{Pid}
use Rattle.pg_term.specs.declared.term.Term.{Term}
use Rattle.pg_term.specs.RefParts.{RefParts}
use Rattle.pg_term.specs.contracts.term.TermEq.TheImpl.Laws.{laws-law}
use Rattle.pg_term.proofs.Same.{same_term as same_is}
use Rattle.pg_term.specs.Same.{same_term, same_atom}
use Rattle.pg_laws.specs.PgGroup.declared.update.Update.{Update}
use Rattle.pg_laws.specs.PgGroup.declared.update.Update.TheVariants as update
use Rattle.pg_laws.specs.PgGroup.Functions.{upd}
use Rattle.pg_laws.specs.PgGroup.Table.{Table, applied, changed, exchanged, merged}
use Rattle.pg_laws.specs.PgGroup.Value.{Value, name_of}
use Rattle.pg_laws.specs.PgLock.Locks.{Locks, held, after_ask, given_up, is_holder}
use Rattle.pg_laws.specs.PgMessageTypes.declared.message.Message.{Message}
use Rattle.pg_laws.specs.PgMessageTypes.declared.message.Message.TheVariants.{Call, Reply, DelLock}
use Rattle.pg_laws.specs.PgMessageTypes.declared.message.Request.TheVariants.{SetLock}
use Rattle.pg_laws.specs.PgStep.declared.command.Command.{Command}
use Rattle.pg_laws.specs.PgStep.declared.command.OpId.{OpId}
use Rattle.pg_laws.specs.PgStep.declared.answer.Reply.{Reply as Answer}
use Rattle.pg_laws.specs.PgStep.declared.answer.Reply.TheVariants as reply
use Rattle.pg_laws.specs.PgStep.declared.refusal.Refusal.{Refusal}
use Rattle.pg_laws.specs.PgStep.declared.refusal.Refusal.TheVariants.{NoSuchPlace}
use Rattle.pg_laws.specs.PgStep.Machines.Machine.{Event, Take, Do, node_of, is_there, first_from}
use Rattle.pg_laws.specs.PgStep.Machines.Machine.{without_input, turn_of, perform, happens}
use Rattle.pg_laws.specs.PgStep.Nodes.{Node, Nodes, greatest, to_one, to_peers}
use Rattle.pg_laws.specs.PgStep.State.{State, Status}
use Rattle.pg_laws.specs.PgStep.State.Status.{Unasked, Yes}
use Rattle.pg_laws.specs.PgStep.State.Use.{Locking, Spent}
use Rattle.pg_laws.specs.PgStep.State.Stage.{Closed, Waiting}
use Rattle.pg_laws.specs.PgStep.State.Response.{Given}
use Rattle.pg_laws.specs.PgStep.Turns.{NodeTurn, nothing, becomes, becomes_and_sends, and_then}
use Rattle.pg_laws.specs.PgStep.Peers.{would_grant, verdict}
use Rattle.pg_laws.specs.PgStep.Attempts.{own_reference, same_op, is_yes, asks, with_asked, new_attempt}
use Rattle.pg_laws.specs.PgStep.Attempts.{count_answer, count_ok, give_up, begin, go_on, locks_in}
use Rattle.pg_laws.specs.PgStep.Commands.{look, open_command, change_by, count_command, command_by}
use Rattle.pg_laws.specs.PgStep.Step.{Action, taken, node_takes, node_acts}
use Rattle.pg_laws.specs.PgStep.FrameMachine.{FrameWorld, placed, node_step, place_turn, machine_of}
use Rattle.pg_laws.specs.History.{Entry, of_group}
use Rattle.pg_laws.specs.PgStep.Config.{Config, name_at, nodes_at, ports_at}
use Rattle.pg_laws.specs.PgStep.declared.command_fault.CommandFault.TheVariants.{NameTooLarge}

-- the world behind an event that makes this turn
abbrev pub turned : Config → FrameWorld → Event Action → NodeTurn → FrameWorld
turned config w e t = perform (without_input w e) (node_of e) (place_turn config t)

module _ (config : Config) (w : FrameWorld) where
  turns : (e : Event Action) (t : NodeTurn) → is_there (machine_of config).size e ≡ true
      → turn_of (machine_of config) w e ≡ Some (place_turn config t) → happens (machine_of config) w e ≡ Some (turned config w e t)
  unfolding happens
  turns e t there made =
      ap (λ b. cond b (option_map (perform (without_input w e) (node_of e)) (turn_of (machine_of config) w e)) None) there
      ∙ ap (option_map (perform (without_input w e) (node_of e))) made

  -- a packet is taken
  pub takes : (i p : ℕ) (t : NodeTurn) (x : Message) (rest : List Message) → is_there {C = Action} (machine_of config).size (Take i p) ≡ true
      → w.wire p i ≡ x ∷ rest → node_takes (nodes_at config i) (name_at config p) x (w.node i) ≡ Ok t
      → happens (machine_of config) w (Take i p) ≡ Some (turned config w (Take i p) t)
  takes i p t x rest there first made = turns (Take i p) t there
      (ap (λ xs. option_and_then (node_step config i (w.node i)) (first_from p xs)) first ∙ ap (placed config) made)

  -- a node does something of its own
  pub acts : (i : ℕ) (action : Action) (t : NodeTurn) → is_there {C = Action} (machine_of config).size (Do i action) ≡ true
      → node_acts (nodes_at config i) (ports_at config i) action (w.node i) ≡ Ok t
      → happens (machine_of config) w (Do i action) ≡ Some (turned config w (Do i action) t)
  acts i action t there made = turns (Do i action) t there (ap (placed config) made)

-- ---- what is read of a changed lock and of a changed table

pub held_at : (locks : Locks) (g : Term) (holder : Option RefParts) → same_term g g ≡ true → held locks g holder g ≡ holder
unfolding held
held_at locks g holder same = ap (λ b. cond b holder (locks g)) same

pub changed_at : (table : Table) (u : Update) (ended : Pid → Bool) (v : Value) → same_term (name_of u) (name_of u) ≡ true → table (name_of u) ≡ v
    → changed table u ended (name_of u) ≡ applied v u ended
unfolding upd
changed_at table u ended v same before =
    ap (λ b. cond b (applied (table (name_of u)) u ended) (table (name_of u))) same ∙ ap (λ x. applied x u ended) before

pub unchanged_at : (table : Table) (u : Update) (ended : Pid → Bool) (g : Term) (v : Value) → same_term (name_of u) g ≡ false → table g ≡ v
    → changed table u ended g ≡ v
unfolding upd
unchanged_at table u ended g v apart before = ap (λ b. cond b (applied (table (name_of u)) u ended) (table g)) apart ∙ before

pub merged_at : (table : Table) (g : Term) (pids : List Pid) (ended : Pid → Bool) (v : Value) → same_term g g ≡ true → table g ≡ v
    → merged table g pids ended g ≡ exchanged v pids ended
unfolding upd
merged_at table g pids ended v same before =
    ap (λ b. cond b (exchanged (table g) pids ended) (table g)) same ∙ ap (λ x. exchanged x pids ended) before

pub not_merged_at : (table : Table) (name : Term) (pids : List Pid) (ended : Pid → Bool) (g : Term) (v : Value) → same_term name g ≡ false → table g ≡ v
    → merged table name pids ended g ≡ v
unfolding upd
not_merged_at table name pids ended g v apart before = ap (λ b. cond b (exchanged (table name) pids ended) (table g)) apart ∙ before

-- no process has ended
abbrev pub none_ended : Pid → Bool
none_ended pid = false

-- entries of one group are its history
pub all_of_group : (g : Term) (es : List Entry) → AllByRecursion (λ e. same_term g (name_of e.update) ≡ true) es → of_group g es ≡ es
all_of_group g [] h = refl
all_of_group g (e ∷ es) h = ap (λ b. cond b (e ∷ of_group g es) (of_group g es)) h.0 ∙ ap (λ xs. e ∷ xs) (all_of_group g es h.1)

-- ---- turns that look at a lock

abbrev pub answers_lock : Bool → Node → RefParts → Term → State → NodeTurn
answers_lock granted p reference name s = becomes_and_sends
    (record s { locks = after_ask granted s.locks name reference })
    (to_one p (Reply reference (verdict granted)))

pub asked : (m : Nodes) (p : Node) (reference : RefParts) (name : Term) (s : State) (granted : Bool) → would_grant m s name ≡ granted
    → taken m p (Call reference (SetLock name)) s ≡ Ok (answers_lock granted p reference name s)
asked m p reference name s granted found = ap (λ b. Ok (answers_lock b p reference name s)) found

abbrev pub frees : Bool → Term → State → NodeTurn
frees holds name s = becomes (record s { locks = given_up holds s.locks name })

pub freed : (m : Nodes) (p : Node) (reference : RefParts) (name : Term) (s : State) (holds : Bool) → is_holder (s.locks name) reference ≡ holds
    → taken m p (DelLock name reference) s ≡ Ok (frees holds name s)
freed m p reference name s holds found = ap (λ b. Ok (frees b name s)) found

-- asking some nodes, where the own node would grant or not
abbrev pub ask_as : Bool → Nodes → (Node → Bool) → ℕ → OpId → Update → Node → (Node → Status) → State → NodeTurn
ask_as granted m who c op update lead st s = becomes_and_sends
    (record s {
      locks = after_ask (asks who st m.own && granted) s.locks (name_of update) (own_reference m c);
      uses = upd nat_eq s.uses c (Locking op update lead (with_asked m who st granted));
    })
    (to_peers m (asks who st) (Call (own_reference m c) (SetLock (name_of update))))

abbrev pub finish_as : Bool → Nodes → ℕ → OpId → Update → ℕ → State → NodeTurn
finish_as holds m u op update c s = record {
  state = record s {
    locks = given_up holds s.locks (name_of update);
    uses = upd nat_eq (upd nat_eq s.uses c Spent) u Spent;
    opened = s.opened - 1;
    stages = upd same_op s.stages op Closed;
  };
  sends = to_peers m (λ q. true) (DelLock (name_of update) (own_reference m c));
  reported = record nothing { answered = Some op; gave = Some (op, Given reply.Ok) };
}

abbrev pub give_up_as : Bool → Nodes → ℕ → OpId → Update → (Node → Status) → State → NodeTurn
give_up_as holds m c op update st s = becomes_and_sends
    (record s {
      locks = given_up (is_yes (st m.own) && holds) s.locks (name_of update);
      uses = upd nat_eq s.uses c Spent;
      stages = upd same_op s.stages op (Waiting update);
    })
    (to_peers m (λ q. is_yes (st q)) (DelLock (name_of update) (own_reference m c)))

-- ---- larger turns

abbrev pub unasked : Node → Status
unasked q = Unasked

abbrev pub all : Node → Bool
all q = true

abbrev pub first : Nodes → Node → Bool
first m = same_atom (greatest m)

-- what came of a request once the greatest node was asked, and once the rest was: whether the own node, where it was
-- asked, has granted
abbrev pub round_one : Bool → Nodes → Node → Status
round_one granted m = with_asked m (first m) unasked granted

abbrev pub round_two : Bool → Nodes → (Node → Status) → Node → Status
round_two granted m st = with_asked m all st granted

-- an attempt, whose own node would grant or not
abbrev pub attempt_as : Bool → Nodes → OpId → Update → ℕ → State → NodeTurn
attempt_as granted m op u c s = and_then (new_attempt (greatest m) op u s) (λ t. and_then (ask_as granted m (first m) c op u (greatest m) unasked t) (λ r. go_on m c (r.uses c) r))

-- it asks the greatest node, a peer, and waits for its answer
abbrev pub asks_peer : Bool → Nodes → OpId → Update → ℕ → State → NodeTurn
asks_peer granted m op u c s = and_then (new_attempt (greatest m) op u s) (λ t. and_then (ask_as granted m (first m) c op u (greatest m) unasked t) becomes)

-- the greatest node denies itself, and nobody else is asked
abbrev pub asks_nobody : Nodes → OpId → Update → ℕ → State → NodeTurn
asks_nobody m op u c s = and_then (new_attempt (greatest m) op u s) (λ t. and_then (ask_as false m (first m) c op u (greatest m) unasked t)
    (give_up m c op u (round_one false m)))

-- the greatest node grants itself, and asks the rest
abbrev pub attempt_own : Bool → Nodes → OpId → Update → ℕ → State → NodeTurn
attempt_own granted m op u c s = and_then (new_attempt (greatest m) op u s) (λ t. and_then (ask_as true m (first m) c op u (greatest m) unasked t) (λ r.
    and_then (ask_as granted m all c op u (greatest m) (round_one true m) r) (λ v. locks_in m c (v.uses c) v)))

abbrev pub asks_own : Bool → Nodes → OpId → Update → ℕ → State → NodeTurn
asks_own granted m op u c s = and_then (new_attempt (greatest m) op u s) (λ t. and_then (ask_as true m (first m) c op u (greatest m) unasked t) (λ r.
    and_then (ask_as granted m all c op u (greatest m) (round_one true m) r) becomes))

-- a true is counted, and the rest of the nodes is asked, if any is left; then comes what is given
abbrev pub asks_rest : Bool → (State → NodeTurn) → Nodes → OpId → Update → ℕ → (Node → Status) → Node → State → NodeTurn
asks_rest granted next m op u c st p s = and_then (count_answer c op u (greatest m) st p Yes s) (λ t.
    and_then (ask_as granted m all c op u (greatest m) (upd same_atom st p Yes) t) next)

abbrev pub asks_rest_as : Bool → Nodes → OpId → Update → ℕ → (Node → Status) → Node → State → Result NodeTurn Refusal
asks_rest_as granted m op u c st p s = Ok (asks_rest granted (λ v. locks_in m c (v.uses c) v) m op u c st p s)

-- the update begins, and other nodes have to apply it
abbrev pub begins : Nodes → OpId → Update → ℕ → State → NodeTurn
begins m op u c s = and_then (begin m c op u s) becomes

-- the last ok is counted
abbrev pub finishes : Bool → Nodes → OpId → Update → ℕ → ℕ → (Node → Bool) → Node → State → NodeTurn
finishes holds m op u c n replied p s = and_then (count_ok n op u c replied p s) (finish_as holds m n op u c)

-- a command comes in, and what follows is given
abbrev pub comes_in : (State → NodeTurn) → State → NodeTurn
comes_in next s = and_then (count_command 0 s) next

-- a command whose name can be sent or not, and that has no other fault
abbrev pub named_as : Bool → Nodes → OpId → Command → State → Result NodeTurn Refusal
named_as fine m op c s = Ok (comes_in (command_by (cond (not fine) (Some NameTooLarge) None) m op c) s)

-- a change behind its look
abbrev pub looked : Option Answer → Nodes → OpId → Update → State → Result NodeTurn Refusal
looked found m op u s = Ok (comes_in (change_by found m op u) s)

-- a change that is undertaken
abbrev pub opens : OpId → Update → (State → NodeTurn) → State → NodeTurn
opens op u next s = comes_in (λ t. and_then (open_command op u t) next) s

-- a delete never looks
pub look_delete : (v : Value) (name : Term) → look v (update.Delete name) ≡ None
look_delete None name = refl
look_delete (Some counts) name = refl

-- ---- names

pub same_to_itself : (g : Term) → same_term g g ≡ true
same_to_itself g = laws-law.refl g

apart_or_not : true ≡ false → ⊥
apart_or_not e = absurd (cc)

pub apart_too : (g h : Term) → same_term g h ≡ false → same_term h g ≡ false
apart_too g h apart = go (same_term h g) refl
  where
    go : (found : Bool) → same_term h g ≡ found → same_term h g ≡ false
    go false is = is
    go true is = absurd (apart_or_not (sym (subst (λ t. same_term g t ≡ true) (sym (same_is h g is)) (same_to_itself g)) ∙ apart))

-- ---- many events, one after another

-- an event, and what its node makes of it, by its state
abbrev pub Move : Type 0
Move = Event Action × (State → NodeTurn)

-- what the node of an event makes of it
abbrev pub turn_in : FrameWorld → Move → NodeTurn
turn_in w m = m.1 (w.node (node_of m.0))

-- the world after some moves
abbrev pub walked : Config → FrameWorld → List Move → FrameWorld
walked config w [] = w
walked config w (m ∷ ms) = walked config (turned config w m.0 (turn_in w m)) ms

-- what a node makes of the first of these packets
abbrev pub of_first : Config → FrameWorld → ℕ → ℕ → List Message → Result NodeTurn Refusal
of_first config w i p [] = Err NoSuchPlace
of_first config w i p (x ∷ rest) = node_takes (nodes_at config i) (name_at config p) x (w.node i)

-- what the node of an event makes of what the event gives it
abbrev pub made_of : Config → FrameWorld → Event Action → Result NodeTurn Refusal
made_of config w (Take i p) = of_first config w i p (w.wire p i)
made_of config w (Do i action) = node_acts (nodes_at config i) (ports_at config i) action (w.node i)

-- each event makes the turn beside it
abbrev pub AllMake : Config → FrameWorld → List Move → Type 0
AllMake config w [] = Unit {0}
AllMake config w (m ∷ ms) = (made_of config w m.0 ≡ Ok (turn_in w m)) × AllMake config (turned config w m.0 (turn_in w m)) ms

turn_made : (config : Config) (w : FrameWorld) (e : Event Action) (t : NodeTurn) → made_of config w e ≡ Ok t → turn_of (machine_of config) w e ≡ Some (place_turn config t)
turn_made config w (Take i p) t made = go (w.wire p i) made
  where
    go : (xs : List Message) → of_first config w i p xs ≡ Ok t → option_and_then (node_step config i (w.node i)) (first_from p xs) ≡ Some (place_turn config t)
    go [] e = absurd (cc)
    go (x ∷ rest) e = ap (placed config) e
turn_made config w (Do i action) t made = ap (placed config) made

-- the places that each event names are there
abbrev pub all_there : Config → List Move → Bool
all_there config [] = true
all_there config (m ∷ ms) = is_there (machine_of config).size m.0 && all_there config ms

-- so all of them happen, and lead there
pub walk : (config : Config) (ms : List Move) (w : FrameWorld) → all_there config ms ≡ true → AllMake config w ms → Leads (machine_of config) w (map (λ m. m.0) ms) (walked config w ms)
walk config [] w there made = refl
walk config (m ∷ ms) w there made = (
  turned config w m.0 (turn_in w m),
  turns config w m.0 (turn_in w m) (first_so (is_there (machine_of config).size m.0) (all_there config ms) there) (turn_made config w m.0 (turn_in w m) made.0),
  walk config ms (turned config w m.0 (turn_in w m)) (second_so (is_there (machine_of config).size m.0) (all_there config ms) there) made.1,
)

first_none : (config : Config) (ms : List Move) (w : FrameWorld) → AllMake config w (take 0 ms)
first_none config [] w = tt
first_none config (m ∷ ms) w = tt

none_left : (config : Config) (n : ℕ) (w : FrameWorld) → AllMake config w (take n [])
none_left config zero w = tt
none_left config (suc n) w = tt

-- some of them, behind others
pub part : (config : Config) (i n : ℕ) (ms : List Move) (w : FrameWorld) → AllMake config w ms → AllMake config (walked config w (take i ms)) (take n (drop i ms))
part config zero zero ms w made = first_none config ms w
part config zero (suc n) [] w made = tt
part config zero (suc n) (m ∷ ms) w made = (made.0, part config zero n ms (turned config w m.0 (turn_in w m)) made.1)
part config (suc i) n [] w made = none_left config n w
part config (suc i) n (m ∷ ms) w made = part config i n ms (turned config w m.0 (turn_in w m)) made.1

-- moves, and others behind them
pub and_more : (config : Config) (ms ns : List Move) (w : FrameWorld) → AllMake config w ms → AllMake config (walked config w ms) ns → AllMake config w (ms ++ ns)
and_more config [] ns w made more = more
and_more config (m ∷ ms) ns w made more = (made.0, and_more config ms ns (turned config w m.0 (turn_in w m)) made.1 more)
