use Rattle.std.proofs.Common.{◌≡◌, ◌∙◌, ◌+◌, ◌<◌, ◌≤◌, ◌^◌, ℕ, List, Some, length, nat_eq, refl, sym, ap, subst, arith}
use Rattle.pg_node_ports.specs.PgEnds.Processes.{node_of}
use Rattle.pg_node_ports.specs.PgGroup.declared.update.Update.{Update}
use Rattle.pg_node_ports.specs.PgGroup.Table.{Table}
use Rattle.pg_node_ports.specs.PgGroup.Value.{count_in}
use Rattle.pg_node_ports.specs.PgStep.Machines.Clocked.{Timed}
use Rattle.std.proofs.lemmas.Bool.{eq-eqb}
use Rattle.pg_node_ports.specs.PgNodeOpens.declared.opens.Opens.{Opens}
use Rattle.pg_node_ports.specs.PgNodeOpens.Opens.{Shows, names_of as opens_names, live_of as live_in}
use Rattle.pg_node_ports.specs.PgNodeOpens.Opens.{lost_of, references_of, uses_of, opened_of, stages_of}
use Rattle.pg_node_ports.specs.PgNodeOpens.Readings.{stage_seen}
use Rattle.pg_node_ports.specs.PgNodeOpens.TakenBack.{command_taken_back}
use Rattle.pg_node_ports.proofs.PgGroup.Changes.{upd_at}
use Rattle.pg_node_ports.proofs.PgNodeOpens.Followed.{op_same}
use Rattle.pg_node_ports.specs.PgStep.declared.answer.Answer.{Answer}
use Rattle.pg_node_ports.specs.PgStep.declared.command.OpId.{OpId}
use Rattle.pg_node_ports.specs.PgStep.Attempts.{attempt, same_op}
use Rattle.pg_node_ports.specs.PgStep.State.{State, Stage}
use Rattle.pg_node_ports.specs.PgStep.State.Stage.{Waiting}
use Rattle.pg_node_ports.specs.PgStep.Step.{at_clock}
use Rattle.pg_node_ports.specs.PgStep.Turns.{NodeTurn}
use Rattle.pg_node_ports.specs.Ports.{counted_at}
use Rattle.pg_node_state.specs.Ports.{merged_in, CameIn}
use Rattle.pg_node_ports.specs.Ports.{port_commands, answers_in}
use Rattle.pg_node_state.specs.States.{names_of, live_of, kept_by, state_of, answers_of, Happens}
use Rattle.pg_node_state.proofs.Answered.{counts_within, given_later, next_came, next_closed}
use Rattle.pg_node_state.proofs.Coming.{on_err}
use Rattle.pg_node_state.proofs.Given.{given_stage, given_ports}
use Rattle.pg_node_state.proofs.Kept.{shows, assembled, assembled_state, happens_as}
use Rattle.pg_node_state.proofs.Opened.{counted_state, opened_state, shows_counted, shows_undone}
use Rattle.pg_node_state.proofs.Steady.{peers_stay, own_stays, merged_stay}
use Rattle.pg_node_state.proofs.Steady.{lost_stay, made_stay, given_stay, live_stays}
use Rattle.pg_node_sends.proofs.Updates.{update_is}
use Rattle.pg_node_state.proofs.state.NodeState.open.Goals as goal

pub invariant_of-self : goal.invariant_of-self
invariant_of-self g c =
    let old = c.args.self.now in
    let new = c.prepared.new.opens in
    let turned : Shows new (kept_by old) = c.prepared.ensures.same (kept_by old) (shows old) in
    let nodes = c.prepared.ensures.nodes in
    record {
      peers = peers_stay old.opens new (kept_by old) turned nodes old.formation old.peers;
      own = own_stays old.opens new (kept_by old) turned nodes (node_of old.processes) old.own;
      forgotten = lost_stay old.opens new (kept_by old) turned nodes refl old.formation old.forgotten;
      within = old.within;
      made = made_stay old.opens new (kept_by old) turned nodes old.clock old.made;
      counted = old.counted;
      given = given_stay old.opens new (kept_by old) turned nodes old.given;
      few = old.few;
    }

pub returns-in_err-update-clause-stays : goal.returns-in_err-update-clause-stays
returns-in_err-update-clause-stays g c =
    let old = c.args.self.now in
    let new = c.prepared.new.opens in
    let turned : Shows new (kept_by old) = c.prepared.ensures.same (kept_by old) (shows old) in
    record {
      state = on_err c.from_residual.result _ (assembled old.clock (kept_by old) new (kept_by old).table (kept_by old).ended (kept_by old).locks (merged_in (opens_names new) old.formation) (kept_by old).processes (kept_by old).counts
          turned refl refl refl (merged_stay old.opens new (kept_by old) turned c.prepared.ensures.nodes old.formation) refl refl);
      answers = on_err c.from_residual.result (answers_of old ≡ answers_of old) refl;
      names = c.prepared.ensures.nodes;
      ports = refl;
      forgotten = refl;
    }

pub count-requires-clause-few : goal.count-requires-clause-few
count-requires-clause-few g c = omega (arith, c.args.self.now.counted c.args.port, c.args.self.now.within)

pub add-requires : goal.add-requires
add-requires g c =
    let old = c.args.self.now in
    let between : Shows c.prepared.new.opens (kept_by old) = c.prepared.ensures.same (kept_by old) (shows old) in
    record {
      room = c.in_ok-update.ensures.ok;
      closed = ap (λ (op : OpId). stages_of c.prepared.new.opens op) c.next_op-op.ensures
          ∙ (ap (λ (stages : OpId → Stage). stages (record { port = c.args.port; number = port_commands old.ports.items c.args.port + 1 })) (sym between.stages)
          ∙ next_closed (length old.ports.items) c.args.port (port_commands old.ports.items) old.given);
    }

pub invariant_of-self-2 : goal.invariant_of-self-2
invariant_of-self-2 g c =
    let old = c.args.self.now in
    let port : ℕ = c.args.port in
    let op : OpId = c.next_op-op.result in
    let update : Update = c.in_ok-update.update in
    let s : State = opened_state port op update (kept_by old) in
    let new = c.add.new.self in
    let nodes = c.add.ensures.nodes ∙ c.prepared.ensures.nodes in
    let turned : Shows new s = c.add.ensures.turned (counted_state port (kept_by old)) (shows_counted c.prepared.new.opens port (kept_by old) (c.prepared.ensures.same (kept_by old) (shows old))) in
    let ports = c.count.new.ports.items in
    let came : CameIn (length ports) (port_commands ports) op (Some update) = subst (λ (o : OpId). CameIn (length ports) (port_commands ports) o (Some update)) (sym c.next_op-op.ensures) (next_came old.ports.items ports port c.count.ensures.len c.count.ensures.counts update (c.requires.named update c.in_ok-update.ensures.update) c.requires.place) in
    record {
      peers = peers_stay old.opens new s turned nodes old.formation old.peers;
      own = own_stays old.opens new s turned nodes (node_of old.processes) old.own;
      forgotten = lost_stay old.opens new s turned nodes refl old.formation old.forgotten;
      within = c.requires.now.within;
      made = made_stay old.opens new s turned nodes c.args.clock (omega (arith, old.made, c.requires.now.later));
      counted = counts_within old.ports.items ports port c.count.ensures.len c.count.ensures.counts old.clock c.args.clock old.counted c.requires.now.later;
      given = given_stay old.opens new s turned nodes (given_stage op (Waiting update) came (given_later old.ports.items ports port c.count.ensures.len c.count.ensures.counts old.given));
      few = λ name pid. omega (arith, old.few name pid, c.requires.now.later);
    }

pub attempt-requires : goal.attempt-requires
attempt-requires g c =
    let old = c.args.self.now in
    let port : ℕ = c.args.port in
    let op : OpId = c.next_op-op.result in
    let update : Update = c.in_ok-update.update in
    let turned : Shows c.add.new.self (opened_state port op update (kept_by old)) = c.add.ensures.turned (counted_state port (kept_by old)) (shows_counted c.prepared.new.opens port (kept_by old) (c.prepared.ensures.same (kept_by old) (shows old))) in
    record {
      later = omega arith;
      within = c.requires.now.within;
      made = omega (arith, sym turned.references, old.made, c.requires.now.later);
      few = λ name pid. omega (arith, old.few name pid, c.requires.now.later);
      waits = ap stage_seen (ap (λ (stages : OpId → Stage). stages op) (sym turned.stages) ∙ upd_at same_op (kept_by old).stages op (Waiting update) (op_same op));
    }

pub returns-in-Ok-clause-happens : goal.returns-in-Ok-clause-happens
returns-in-Ok-clause-happens g c = λ update0 asked.
    let old = c.args.self.now in
    let names = names_of old in
    let port : ℕ = c.args.port in
    let op : OpId = c.next_op-op.result in
    let update : Update = c.in_ok-update.update in
    let s : State = opened_state port op update (kept_by old) in
    let new = c.add.new.self in
    let nodes = c.add.ensures.nodes ∙ c.prepared.ensures.nodes in
    let turned : Shows new s = c.add.ensures.turned (counted_state port (kept_by old)) (shows_counted c.prepared.new.opens port (kept_by old) (c.prepared.ensures.same (kept_by old) (shows old))) in
    let whole = assembled_state s new (kept_by old).table (kept_by old).ended (kept_by old).locks (merged_in (opens_names new) old.formation) (kept_by old).processes (port_commands c.count.new.ports.items)
    turned refl refl refl (merged_stay old.opens new s turned nodes old.formation) refl c.count.ensures.counts in
    let left = live_stays old.opens new s turned nodes refl in
    let waits = ap (λ (stages : OpId → Stage). stages op) (sym turned.stages) ∙ upd_at same_op (kept_by old).stages op (Waiting update) (op_same op) in
    let next : OpId = record { port = port; number = port_commands old.ports.items port + 1 } in
    let same : update ≡ update0 = update_is update update0 (sym c.in_ok-update.ensures.update ∙ asked) in
    let turns : NodeTurn = attempt (live_of old) next update0 (opened_state port next update0 (kept_by old)) in
    let kept : State = record {
      table = (kept_by old).table;
      ended = (kept_by old).ended;
      locks = (kept_by old).locks;
      merged = merged_in (opens_names new) old.formation;
      lost = lost_of new;
      references = references_of new;
      uses = uses_of new;
      processes = (kept_by old).processes;
      opened = opened_of new;
      stages = stages_of new;
      counts = port_commands c.count.new.ports.items;
    } in
    subst (λ (before : ℕ → List Answer). Happens names (at_clock c.args.clock turns) c.in-Ok.done (state_of c.attempt.new.self) before (answers_of c.attempt.new.self)) c.count.ensures.answers
    (happens_as names (opens_names new) c.args.clock turns (attempt (live_in new) op update kept) c.in-Ok.done (state_of c.attempt.new.self) (answers_in c.count.new.ports.items) (answers_of c.attempt.new.self) nodes
    (ap (λ (t : State). attempt (live_in new) op update t) whole ∙ (λ i. attempt (left i) (c.next_op-op.ensures i) (same i) (opened_state port (c.next_op-op.ensures i) (same i) (kept_by old))))
    (c.in-Ok.ensures.happens update waits))

pub take_back-requires : goal.take_back-requires
take_back-requires g c =
    let old = c.args.self.now in
    let port : ℕ = c.args.port in
    let op : OpId = c.next_op-op.result in
    let update : Update = c.in_ok-update.update in
    let turned : Shows c.add.new.self (opened_state port op update (kept_by old)) = c.add.ensures.turned (counted_state port (kept_by old)) (shows_counted c.prepared.new.opens port (kept_by old) (c.prepared.ensures.same (kept_by old) (shows old))) in
    record {
      waits = ap (λ (x : Timed State). stage_seen (x.state.stages op)) c.in-Err.ensures.stays.state
          ∙ (ap (λ (stages : OpId → Stage). stage_seen (stages op)) (sym turned.stages) ∙ ap stage_seen (upd_at same_op (kept_by old).stages op (Waiting update) (op_same op)));
    }

pub uncount-requires : goal.uncount-requires
uncount-requires g c =
    let old = c.args.self.now in
    let counted : port_commands c.attempt.new.self.ports.items ≡ counted_at c.args.port (port_commands old.ports.items) = ap (λ (x : Timed State). x.state.counts) c.in-Err.ensures.stays.state ∙ c.count.ensures.counts in
    record {
      place = subst (λ n. c.args.port < n) (sym (c.attempt.ensures.stays.ports ∙ c.count.ensures.len)) c.requires.place;
      some = omega (arith, ap (λ (f : ℕ → ℕ). f c.args.port) counted ∙ upd_at nat_eq (port_commands old.ports.items) c.args.port (port_commands old.ports.items c.args.port + 1) (eq-eqb c.args.port c.args.port refl));
    }

pub invariant_of-self-in-Err : goal.invariant_of-self-in-Err
invariant_of-self-in-Err g c =
    let old = c.args.self.now in
    let port : ℕ = c.args.port in
    let op : OpId = c.next_op-op.result in
    let update : Update = c.in_ok-update.update in
    let s : State = opened_state port op update (kept_by old) in
    let new = c.add.new.self in
    let turned : Shows new s = c.add.ensures.turned (counted_state port (kept_by old)) (shows_counted c.prepared.new.opens port (kept_by old) (c.prepared.ensures.same (kept_by old) (shows old))) in
    let whole = assembled_state s new (kept_by old).table (kept_by old).ended (kept_by old).locks (merged_in (opens_names new) old.formation) (kept_by old).processes (port_commands c.count.new.ports.items)
    turned refl refl refl (merged_stay old.opens new s turned (c.add.ensures.nodes ∙ c.prepared.ensures.nodes) old.formation) refl c.count.ensures.counts in
    let tried = c.attempt.new.self in
    let final : Opens = c.take_back.new.self in
    let kept : kept_by tried ≡ s = ap (λ (x : Timed State). x.state) c.in-Err.ensures.stays.state ∙ whole in
    let back : Shows final (command_taken_back op (kept_by tried)).state = c.take_back.ensures.turned (kept_by tried) (shows tried) in
    let closed = ap (λ (o : OpId). (kept_by old).stages o) c.next_op-op.ensures ∙ next_closed (length old.ports.items) port (port_commands old.ports.items) old.given in
    let undone : Shows final (kept_by old) = shows_undone final port op update (kept_by old) closed (subst (λ (t : State). Shows final (command_taken_back op t).state) kept back) in
    let nodes = c.take_back.ensures.nodes in
    let all_nodes : opens_names final ≡ names_of old = nodes ∙ (c.attempt.ensures.stays.names ∙ (c.add.ensures.nodes ∙ c.prepared.ensures.nodes)) in
    let counts : port_commands c.uncount.new.ports.items ≡ port_commands old.ports.items = c.uncount.ensures.counts (port_commands old.ports.items) (ap (λ (x : Timed State). x.state.counts) c.in-Err.ensures.stays.state ∙ c.count.ensures.counts) in
    let len : length c.uncount.new.ports.items ≡ length old.ports.items = c.uncount.ensures.len ∙ (c.attempt.ensures.stays.ports ∙ c.count.ensures.len) in
    record {
      peers = peers_stay tried.opens final (command_taken_back op (kept_by tried)).state back nodes tried.formation tried.peers;
      own = own_stays tried.opens final (command_taken_back op (kept_by tried)).state back nodes (node_of tried.processes) tried.own;
      forgotten = lost_stay tried.opens final (command_taken_back op (kept_by tried)).state back nodes refl tried.formation tried.forgotten;
      within = old.within;
      made = made_stay old.opens final (kept_by old) undone all_nodes old.clock old.made;
      counted = λ n. subst (λ (f : ℕ → ℕ). f n ≤ old.clock) (sym counts) (old.counted n);
      given = given_ports (length old.ports.items) (length c.uncount.new.ports.items) (port_commands old.ports.items) (port_commands c.uncount.new.ports.items) len counts (given_stay old.opens final (kept_by old) undone all_nodes old.given);
      few = λ name pid. subst (λ (t : Table). count_in (t name) pid ≤ 2 ^ 32 + old.clock) (sym (ap (λ (x : State). x.table) kept)) (old.few name pid);
    }

pub returns-in-Err-clause-stays : goal.returns-in-Err-clause-stays
returns-in-Err-clause-stays g c =
    let old = c.args.self.now in
    let port : ℕ = c.args.port in
    let op : OpId = c.next_op-op.result in
    let update : Update = c.in_ok-update.update in
    let s : State = opened_state port op update (kept_by old) in
    let new = c.add.new.self in
    let turned : Shows new s = c.add.ensures.turned (counted_state port (kept_by old)) (shows_counted c.prepared.new.opens port (kept_by old) (c.prepared.ensures.same (kept_by old) (shows old))) in
    let whole = assembled_state s new (kept_by old).table (kept_by old).ended (kept_by old).locks (merged_in (opens_names new) old.formation) (kept_by old).processes (port_commands c.count.new.ports.items)
    turned refl refl refl (merged_stay old.opens new s turned (c.add.ensures.nodes ∙ c.prepared.ensures.nodes) old.formation) refl c.count.ensures.counts in
    let tried = c.attempt.new.self in
    let final : Opens = c.take_back.new.self in
    let kept : kept_by tried ≡ s = ap (λ (x : Timed State). x.state) c.in-Err.ensures.stays.state ∙ whole in
    let back : Shows final (command_taken_back op (kept_by tried)).state = c.take_back.ensures.turned (kept_by tried) (shows tried) in
    let closed = ap (λ (o : OpId). (kept_by old).stages o) c.next_op-op.ensures ∙ next_closed (length old.ports.items) port (port_commands old.ports.items) old.given in
    let undone : Shows final (kept_by old) = shows_undone final port op update (kept_by old) closed (subst (λ (t : State). Shows final (command_taken_back op t).state) kept back) in
    let counts : port_commands c.uncount.new.ports.items ≡ port_commands old.ports.items = c.uncount.ensures.counts (port_commands old.ports.items) (ap (λ (x : Timed State). x.state.counts) c.in-Err.ensures.stays.state ∙ c.count.ensures.counts) in
    record {
      state =
          assembled old.clock (kept_by old) final (kept_by tried).table (kept_by tried).ended (kept_by tried).locks (merged_in (opens_names final) tried.formation) (kept_by tried).processes (port_commands c.uncount.new.ports.items)
          undone (ap (λ (x : State). x.table) kept) (ap (λ (x : State). x.ended) kept) (ap (λ (x : State). x.locks) kept)
          (merged_stay tried.opens final (command_taken_back op (kept_by tried)).state back c.take_back.ensures.nodes tried.formation ∙ ap (λ (x : State). x.merged) kept) (ap (λ (x : State). x.processes) kept) counts;
      answers = c.uncount.ensures.answers ∙ (c.in-Err.ensures.stays.answers ∙ c.count.ensures.answers);
      names = c.take_back.ensures.nodes ∙ (c.attempt.ensures.stays.names ∙ (c.add.ensures.nodes ∙ c.prepared.ensures.nodes));
      ports = c.uncount.ensures.len ∙ (c.attempt.ensures.stays.ports ∙ c.count.ensures.len);
      forgotten = c.uncount.ensures.forgotten ∙ (c.attempt.ensures.stays.forgotten ∙ c.count.ensures.forgotten);
    }
