use Rattle.std.proofs.Common.{◌≡◌, ◌∙◌, ◌+◌, ℕ, true, false, ap, sym, refl, subst, arith}
use Rattle.pg_node_ports.specs.PgStep.Machines.Clocked.{stamped}
use Rattle.pg_node_ports.specs.PgGroup.Value.{name_of}
use Rattle.pg_node_ports.specs.PgLock.Locks.{locks_of, grants, after_ask}
use Rattle.pg_node_ports.specs.PgEnds.Processes.{node_of}
use Rattle.pg_term.specs.Same.{same_atom}
use Rattle.pg_node_ports.specs.PgNodeOpens.Opens.{Shows, names_of as opens_names, live_of as live_in, uses_of}
use Rattle.pg_node_ports.specs.PgNodeOpens.Readings.{is_locking}
use Rattle.pg_node_ports.specs.PgStep.Attempts.{attempt, ask, own_reference, with_asked}
use Rattle.pg_node_ports.specs.PgStep.Nodes.{Node, Nodes, is_peer, greatest}
use Rattle.pg_node_ports.specs.PgStep.Peers.{would_grant}
use Rattle.pg_node_ports.specs.PgStep.State.{State, Status, Use, formed}
use Rattle.pg_node_ports.specs.PgStep.State.Use.{Locking}
use Rattle.pg_node_state.specs.Ports.{merged_in}
use Rattle.pg_node_state.specs.States.{names_of, live_of, kept_by}
use Rattle.pg_node_state.proofs.Attempted.{statuses, attempt_asks, rest_turn, rest_sends, rest_locks}
use Rattle.pg_node_state.proofs.First.{WaitsWith, waits_with, first_state}
use Rattle.pg_node_sends.proofs.Updates.{same_update}
use Rattle.pg_node_state.proofs.First.{first_given, asked_under, grants_no_more}
use Rattle.pg_node_state.proofs.Given.{given_use, of_lock, waiting_came}
use Rattle.pg_node_state.proofs.Kept.{shows, assembled, happens_as}
use Rattle.pg_node_state.proofs.Steady.{peers_stay, own_stays, merged_stay}
use Rattle.pg_node_state.proofs.Steady.{lost_stay, made_stay, given_stay, live_stays}
use Rattle.pg_node_state.proofs.Turned.{own_apart}
use Rattle.pg_node_sends.proofs.Undone.{granted_free}
use Rattle.pg_node_state.proofs.state.NodeState.ask_everyone.Goals as goal

pub ask_own-requires : goal.ask_own-requires
ask_own-requires g c =
    let old = c.args.self.now in
    let waiting : WaitsWith ((kept_by old).stages c.args.op) = waits_with ((kept_by old).stages c.args.op) c.requires.waits in
    let name = c.name-name.ensures ∙ ap name_of (same_update c.waiting_under.result.now waiting.update (sym c.waiting_under.ensures ∙ waiting.is)) in
    record {
      free = λ asks. ap (λ n. grants true (locks_of old.locks) n) name
          ∙ granted_free true (formed (live_of old) (kept_by old)) (would_grant (live_of old) (kept_by old) (name_of waiting.update)) (locks_of old.locks) (name_of waiting.update) refl (c.requires.grants waiting.update waiting.is);
    }

pub ask-requires : goal.ask-requires
ask-requires g c =
    let old = c.args.self.now in
    let waiting : WaitsWith ((kept_by old).stages c.args.op) = waits_with ((kept_by old).stages c.args.op) c.requires.waits in
    let lock : ℕ = (kept_by old).references + 1 in
    let s : State = first_state (live_of old) c.args.op waiting.update (kept_by old) in
    let granting = c.requires.grants waiting.update waiting.is in
    let asked : Shows c.ask_first.new.opens s = c.ask_first.ensures.turned waiting.update waiting.is (kept_by old) (shows old) granting in
    record {
      locking = ap (λ n. is_locking (uses_of c.ask_first.new.opens n)) (ap (λ n. n + 1) c.references-number.ensures)
          ∙ (ap (λ (f : ℕ → Use). is_locking (f lock)) (sym asked.uses) ∙ ap is_locking (asked_under (live_of old) c.args.op waiting.update (kept_by old) true granting));
      who = refl;
    }

pub invariant_of-self-in-Ok : goal.invariant_of-self-in-Ok
invariant_of-self-in-Ok g c =
    let old = c.args.self.now in
    let m : Nodes = live_of old in
    let op = c.args.op in
    let waiting : WaitsWith ((kept_by old).stages op) = waits_with ((kept_by old).stages op) c.requires.waits in
    let update = waiting.update in
    let lock : ℕ = (kept_by old).references + 1 in
    let st : Node → Status = statuses m op update (kept_by old) true in
    let s1 : State = first_state m op update (kept_by old) in
    let granting = c.requires.grants update waiting.is in
    let asked : Shows c.ask_first.new.opens s1 = c.ask_first.ensures.turned update waiting.is (kept_by old) (shows old) granting in
    let used : uses_of c.ask_first.new.opens lock ≡ Locking op update (greatest m) st = ap (λ (f : ℕ → Use). f lock) (sym asked.uses) ∙ asked_under m op update (kept_by old) true granting in
    let own : greatest m ≡ m.own = sym c.requires.own in
    let no_more : would_grant m s1 (name_of update) ≡ false = grants_no_more m op update (kept_by old) own (own_apart old.opens) granting in
    let same : live_in c.ask_first.new.opens ≡ m = live_stays old.opens c.ask_first.new.opens s1 asked c.ask_first.ensures.nodes refl in
    let s : State = (ask m (λ q. true) lock op update (greatest m) st s1).state in
    let new = c.ask.new.self in
    let number : c.references-number.result + 1 ≡ lock = ap (λ n. n + 1) c.references-number.ensures in
    let turned : Shows new s = subst (λ (n : Nodes). Shows new (ask n (λ q. true) lock op update (greatest m) st s1).state) same
    (subst (λ (n : ℕ). uses_of c.ask_first.new.opens n ≡ Locking op update (greatest m) st → Shows new (ask (live_in c.ask_first.new.opens) (λ q. true) n op update (greatest m) st s1).state) number
    (λ e. c.ask.ensures.turned op update (greatest m) st e s1 asked (ap (λ (n : Nodes). would_grant n s1 (name_of update)) same ∙ no_more)) used) in
    let nodes = c.ask.ensures.nodes ∙ c.ask_first.ensures.nodes in
    let came = waiting_came op update old.given waiting.is in
    record {
      peers = peers_stay old.opens new s turned nodes old.formation old.peers;
      own = own_stays old.opens new s turned nodes (node_of old.processes) old.own;
      forgotten = lost_stay old.opens new s turned nodes refl old.formation old.forgotten;
      within = c.requires.within;
      made = made_stay old.opens new s turned nodes c.args.clock (omega (arith, c.requires.made));
      counted = λ port. omega (arith, old.counted port, c.requires.later);
      given = given_stay old.opens new s turned nodes (given_use lock (Locking op update (greatest m) (with_asked m (λ q. true) st (would_grant m s1 (name_of update))))
          (of_lock op update (greatest m) (with_asked m (λ q. true) st (would_grant m s1 (name_of update))) came) (first_given m op update (kept_by old) came old.given));
      few = λ name pid. omega (arith, c.requires.few name pid);
    }

pub returns-in-Ok-clause-happens : goal.returns-in-Ok-clause-happens
returns-in-Ok-clause-happens g c = λ update is.
    let old = c.args.self.now in
    let m : Nodes = live_of old in
    let op = c.args.op in
    let lock : ℕ = (kept_by old).references + 1 in
    let st : Node → Status = statuses m op update (kept_by old) true in
    let s1 : State = first_state m op update (kept_by old) in
    let granting = c.requires.grants update is in
    let asked : Shows c.ask_first.new.opens s1 = c.ask_first.ensures.turned update is (kept_by old) (shows old) granting in
    let used : uses_of c.ask_first.new.opens lock ≡ Locking op update (greatest m) st = ap (λ (f : ℕ → Use). f lock) (sym asked.uses) ∙ asked_under m op update (kept_by old) true granting in
    let own : greatest m ≡ m.own = sym c.requires.own in
    let apart : (q : Node) → is_peer m q ≡ true → same_atom m.own q ≡ false = own_apart old.opens in
    let no_more : would_grant m s1 (name_of update) ≡ false = grants_no_more m op update (kept_by old) own apart granting in
    let same : live_in c.ask_first.new.opens ≡ m = live_stays old.opens c.ask_first.new.opens s1 asked c.ask_first.ensures.nodes refl in
    let s : State = (ask m (λ q. true) lock op update (greatest m) st s1).state in
    let new = c.ask.new.self in
    let number : c.references-number.result + 1 ≡ lock = ap (λ n. n + 1) c.references-number.ensures in
    let turned : Shows new s = subst (λ (n : Nodes). Shows new (ask n (λ q. true) lock op update (greatest m) st s1).state) same
    (subst (λ (n : ℕ). uses_of c.ask_first.new.opens n ≡ Locking op update (greatest m) st → Shows new (ask (live_in c.ask_first.new.opens) (λ q. true) n op update (greatest m) st s1).state) number
    (λ e. c.ask.ensures.turned op update (greatest m) st e s1 asked (ap (λ (n : Nodes). would_grant n s1 (name_of update)) same ∙ no_more)) used) in
    let nodes = c.ask.ensures.nodes ∙ c.ask_first.ensures.nodes in
    let name = c.name-name.ensures ∙ ap name_of (same_update c.waiting_under.result.now update (sym c.waiting_under.ensures ∙ is)) in
    let reference = c.own_under-lock.ensures ∙ ap (own_reference m) number in
    let held = c.in-Ok.ensures.ok ∙ (λ i. after_ask true (locks_of old.locks) (name i) (reference i)) in
    happens_as (names_of old) (names_of old) c.args.clock (attempt m op update (kept_by old)) (rest_turn m op update (kept_by old) own apart) _ _ _ _ refl
    (sym (attempt_asks m op update (kept_by old) own apart granting c.requires.some.0 c.requires.some.1)) (record {
      told = record {
        sends = c.in_ok-done.ensures.sends update is ∙ (λ i q. stamped c.args.clock (sym (rest_sends m op update (kept_by old) own apart) i q));
        began = c.in_ok-done.ensures.began;
        odd = c.in_ok-done.ensures.odd;
      };
      state = assembled c.args.clock s new ((kept_by old).table) ((kept_by old).ended) (locks_of c.ask_own.new.locks) (merged_in (opens_names new) old.formation) ((kept_by old).processes) ((kept_by old).counts)
          turned refl refl (held ∙ sym (rest_locks m op update (kept_by old) own apart granting)) (merged_stay old.opens new s turned nodes old.formation) refl refl;
      answers = refl;
    })

pub all_asked-requires-clause-named : goal.all_asked-requires-clause-named
all_asked-requires-clause-named g c = λ update is. (waiting_came c.args.op update c.args.self.now.given is).named
