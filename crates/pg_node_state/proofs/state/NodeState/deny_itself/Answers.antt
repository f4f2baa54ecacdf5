use Rattle.std.proofs.Common.{◌≡◌, ◌∙◌, ◌+◌, ℕ, true, false, ap, sym, refl, subst, arith}
use Rattle.pg_node_ports.specs.PgStep.Machines.Clocked.{stamped}
use Rattle.pg_node_ports.specs.PgLock.Locks.{locks_of}
use Rattle.pg_node_ports.specs.PgEnds.Processes.{node_of}
use Rattle.pg_term.specs.Same.{same_atom}
use Rattle.pg_node_ports.specs.PgNodeOpens.Opens.{Shows, names_of as opens_names, live_of as live_in, uses_of}
use Rattle.pg_node_ports.specs.PgNodeOpens.Readings.{is_locking}
use Rattle.pg_node_ports.specs.PgStep.Attempts.{attempt, give_up}
use Rattle.pg_node_ports.specs.PgStep.Nodes.{Node, Nodes, is_peer, greatest}
use Rattle.pg_node_ports.specs.PgStep.State.{State, Use}
use Rattle.pg_node_ports.specs.PgStep.State.Use.{Locking, Spent}
use Rattle.pg_node_ports.specs.PgStep.State.Stage.{Waiting}
use Rattle.pg_node_state.specs.Ports.{merged_in}
use Rattle.pg_node_state.specs.States.{names_of, live_of, kept_by}
use Rattle.pg_node_sends.specs.Sent.{sends_in}
use Rattle.pg_node_state.proofs.Attempted.{statuses, attempt_denied, denied_turn, denied_sends, denied_locks}
use Rattle.pg_node_state.proofs.First.{WaitsWith, waits_with, first_state, first_given, asked_under}
use Rattle.pg_node_state.proofs.Given.{given_use, given_stage, of_none, waiting_came}
use Rattle.pg_node_state.proofs.Kept.{shows, assembled, happens_as}
use Rattle.pg_node_state.proofs.Steady.{peers_stay, own_stays, merged_stay}
use Rattle.pg_node_state.proofs.Steady.{lost_stay, made_stay, given_stay, live_stays}
use Rattle.pg_node_state.proofs.Turned.{own_apart}
use Rattle.pg_node_state.proofs.state.NodeState.deny_itself.Goals as goal

pub give_up-requires : goal.give_up-requires
give_up-requires g c =
    let old = c.args.self.now in
    let waiting : WaitsWith ((kept_by old).stages c.args.op) = waits_with ((kept_by old).stages c.args.op) c.requires.waits in
    let lock : ℕ = (kept_by old).references + 1 in
    let s : State = first_state (live_of old) c.args.op waiting.update (kept_by old) in
    let denies = c.requires.denies waiting.update waiting.is in
    let asked : Shows c.ask_first.new.opens s = c.ask_first.ensures.turned waiting.update waiting.is (kept_by old) (shows old) denies in
    record {
      locking = ap (λ n. is_locking (uses_of c.ask_first.new.opens n)) (ap (λ n. n + 1) c.references-number.ensures)
          ∙ (ap (λ (f : ℕ → Use). is_locking (f lock)) (sym asked.uses) ∙ ap is_locking (asked_under (live_of old) c.args.op waiting.update (kept_by old) false denies));
    }

pub invariant_of-self : goal.invariant_of-self
invariant_of-self g c =
    let old = c.args.self.now in
    let m : Nodes = live_of old in
    let op = c.args.op in
    let waiting : WaitsWith ((kept_by old).stages op) = waits_with ((kept_by old).stages op) c.requires.waits in
    let update = waiting.update in
    let lock : ℕ = (kept_by old).references + 1 in
    let s1 : State = first_state m op update (kept_by old) in
    let denies = c.requires.denies update waiting.is in
    let asked : Shows c.ask_first.new.opens s1 = c.ask_first.ensures.turned update waiting.is (kept_by old) (shows old) denies in
    let used : uses_of c.ask_first.new.opens lock ≡ Locking op update (greatest m) (statuses m op update (kept_by old) false) = ap (λ (f : ℕ → Use). f lock) (sym asked.uses) ∙ asked_under m op update (kept_by old) false denies in
    let s : State = (give_up m lock op update (statuses m op update (kept_by old) false) s1).state in
    let new = c.give_up.new.self in
    let number : c.references-number.result + 1 ≡ lock = ap (λ n. n + 1) c.references-number.ensures in
    let turned : Shows new s = subst (λ (n : Nodes). Shows new (give_up n lock op update (statuses m op update (kept_by old) false) s1).state) (live_stays old.opens c.ask_first.new.opens s1 asked c.ask_first.ensures.nodes refl)
    (subst (λ (n : ℕ). uses_of c.ask_first.new.opens n ≡ Locking op update (greatest m) (statuses m op update (kept_by old) false) → Shows new (give_up (live_in c.ask_first.new.opens) n op update (statuses m op update (kept_by old) false) s1).state) number
    (λ e. c.give_up.ensures.turned op update (greatest m) (statuses m op update (kept_by old) false) e s1 asked) used) in
    let nodes = c.give_up.ensures.nodes ∙ c.ask_first.ensures.nodes in
    let came = waiting_came op update old.given waiting.is in
    record {
      peers = peers_stay old.opens new s turned nodes old.formation old.peers;
      own = own_stays old.opens new s turned nodes (node_of old.processes) old.own;
      forgotten = lost_stay old.opens new s turned nodes refl old.formation old.forgotten;
      within = c.requires.within;
      made = made_stay old.opens new s turned nodes c.args.clock (omega (arith, c.requires.made));
      counted = λ port. omega (arith, old.counted port, c.requires.later);
      given = given_stay old.opens new s turned nodes (given_use lock Spent of_none (given_stage op (Waiting update) came (first_given m op update (kept_by old) came old.given)));
      few = λ name pid. omega (arith, c.requires.few name pid);
    }

pub returns-clause-happens : goal.returns-clause-happens
returns-clause-happens g c = λ update is.
    let old = c.args.self.now in
    let m : Nodes = live_of old in
    let op = c.args.op in
    let lock : ℕ = (kept_by old).references + 1 in
    let s1 : State = first_state m op update (kept_by old) in
    let denies = c.requires.denies update is in
    let asked : Shows c.ask_first.new.opens s1 = c.ask_first.ensures.turned update is (kept_by old) (shows old) denies in
    let used : uses_of c.ask_first.new.opens lock ≡ Locking op update (greatest m) (statuses m op update (kept_by old) false) = ap (λ (f : ℕ → Use). f lock) (sym asked.uses) ∙ asked_under m op update (kept_by old) false denies in
    let s : State = (give_up m lock op update (statuses m op update (kept_by old) false) s1).state in
    let new = c.give_up.new.self in
    let number : c.references-number.result + 1 ≡ lock = ap (λ n. n + 1) c.references-number.ensures in
    let turned : Shows new s = subst (λ (n : Nodes). Shows new (give_up n lock op update (statuses m op update (kept_by old) false) s1).state) (live_stays old.opens c.ask_first.new.opens s1 asked c.ask_first.ensures.nodes refl)
    (subst (λ (n : ℕ). uses_of c.ask_first.new.opens n ≡ Locking op update (greatest m) (statuses m op update (kept_by old) false) → Shows new (give_up (live_in c.ask_first.new.opens) n op update (statuses m op update (kept_by old) false) s1).state) number
    (λ e. c.give_up.ensures.turned op update (greatest m) (statuses m op update (kept_by old) false) e s1 asked) used) in
    let nodes = c.give_up.ensures.nodes ∙ c.ask_first.ensures.nodes in
    let own : greatest m ≡ m.own = sym c.requires.own in
    let apart : (q : Node) → is_peer m q ≡ true → same_atom m.own q ≡ false = own_apart old.opens in
    happens_as (names_of old) (names_of old) c.args.clock (attempt m op update (kept_by old)) (denied_turn m op update (kept_by old) own apart) _ _ _ _ refl (sym (attempt_denied m op update (kept_by old) own apart denies)) (record {
      told = record {
        sends = ap (sends_in (names_of old)) c.nothing.ensures.sends ∙ (λ i q. stamped c.args.clock (sym (denied_sends m op update (kept_by old) own apart) i q));
        began = c.nothing.ensures.began;
        odd = c.nothing.ensures.odd;
      };
      state = assembled c.args.clock s new ((kept_by old).table) ((kept_by old).ended) (locks_of old.locks) (merged_in (opens_names new) old.formation) ((kept_by old).processes) ((kept_by old).counts)
          turned refl refl (sym (denied_locks m op update (kept_by old) own apart denies)) (merged_stay old.opens new s turned nodes old.formation) refl refl;
      answers = refl;
    })
