use Rattle.std.proofs.Common.{◌≡◌, ◌∙◌, ◌+◌, ◌^◌, ◌&&◌, ℕ, ap, sym, refl, arith, true, subst, nat_eq, length}
use Rattle.pg_node_ports.specs.PgGroup.declared.update.Update.{Update as Change}
use Rattle.pg_node_ports.specs.PgGroup.Value.{name_of}
use Rattle.pg_node_ports.specs.PgGroup.Ended.{ended_of}
use Rattle.pg_node_ports.specs.PgLock.Locks.{locks_of, after_ask}
use Rattle.pg_node_ports.specs.PgEnds.Processes.{node_of}
use Rattle.pg_node_ports.specs.PgNodeOpens.Opens.{Shows, names_of as opens_names}
use Rattle.pg_node_ports.specs.PgNodeOpens.Readings.{update_of}
use Rattle.pg_node_ports.specs.PgStep.State.{State}
use Rattle.pg_node_state.specs.Ports.{merged_in}
use Rattle.pg_node_ports.specs.Ports.{port_commands}
use Rattle.pg_node_state.specs.States.{live_of, kept_by}
use Rattle.pg_node_state.proofs.Kept.{shows, assembled}
use Rattle.pg_node_state.proofs.Steady.{peers_stay, own_stays, merged_stay, lost_stay, made_stay, given_stay}
use Rattle.pg_node_state.proofs.Turned.{Locks as LockOf, locks_by}
use Rattle.pg_node_sends.proofs.Updates.{update_is}
use Rattle.std.proofs.lemmas.Bool.{eq-eqb}
use Rattle.pg_term.specs.Same.{same_atom}
use Rattle.pg_node_ports.proofs.PgGroup.Changes.{upd_at}
use Rattle.pg_node_ports.specs.PgGroup.Table.{changed}
use Rattle.pg_node_ports.specs.PgStep.Attempts.{ask, begin, with_asked}
use Rattle.pg_node_ports.specs.PgStep.Nodes.{Node, Nodes}
use Rattle.pg_node_ports.specs.PgStep.Peers.{would_grant}
use Rattle.pg_node_ports.specs.PgStep.State.{Status, Use}
use Rattle.pg_node_ports.specs.PgStep.State.Use.{Locking, Owning, Updating}
use Rattle.pg_node_ports.specs.PgStep.State.Stage.{Changing}
use Rattle.pg_node_ports.specs.PgNodeOpens.Readings.{is_locking}
use Rattle.pg_node_ports.specs.PgNodeOpens.Opens.{uses_of}
use Rattle.pg_node_state.proofs.Counts.{few_changed}
use Rattle.pg_node_state.proofs.Given.{given_use, of_any, given_stage, of_lock, of_none}
use Rattle.pg_node_state.proofs.Given.{of_update, locking_came, gathered_named}
use Rattle.pg_node_state.proofs.Steady.{live_stays}
use Rattle.pg_node_state.proofs.state.NodeState.begin.Goals as goal

pub begin-requires : goal.begin-requires
begin-requires g c =
    let old = c.args.self.now in
    let parts : LockOf ((kept_by old).uses c.args.number) c.args.op = locks_by ((kept_by old).uses c.args.number) c.args.op c.requires.locking in
    let s : State = (ask (live_of old) (λ q. true) c.args.number c.args.op parts.update parts.first parts.st (kept_by old)).state in
    let asked : Shows c.ask.new.self s = c.ask.ensures.turned c.args.op parts.update parts.first parts.st parts.is (kept_by old) (shows old) (sym (c.would_grant-granted.ensures c.args.op parts.update parts.first parts.st parts.is)) in
    let later : uses_of c.ask.new.self c.args.number ≡ Locking c.args.op parts.update parts.first (with_asked (live_of old) (λ q. true) parts.st (would_grant (live_of old) (kept_by old) (name_of parts.update))) =
    ap (λ (f : ℕ → Use). f c.args.number) (sym asked.uses)
    ∙ upd_at nat_eq (kept_by old).uses c.args.number (Locking c.args.op parts.update parts.first (with_asked (live_of old) (λ q. true) parts.st (would_grant (live_of old) (kept_by old) (name_of parts.update)))) (eq-eqb c.args.number c.args.number refl) in
    record {
      locking = ap is_locking later;
      next = omega (arith, sym asked.references, old.made, c.requires.now.later, c.requires.now.within);
    }

pub invariant_of-self-in-Ok : goal.invariant_of-self-in-Ok
invariant_of-self-in-Ok g c =
    let old = c.args.self.now in
    let parts : LockOf ((kept_by old).uses c.args.number) c.args.op = locks_by ((kept_by old).uses c.args.number) c.args.op c.requires.locking in
    let st : Node → Status = with_asked (live_of old) (λ q. true) parts.st (would_grant (live_of old) (kept_by old) (name_of parts.update)) in
    let s : State = (ask (live_of old) (λ q. true) c.args.number c.args.op parts.update parts.first parts.st (kept_by old)).state in
    let t : State = (begin (live_of old) c.args.number c.args.op parts.update s).state in
    let asked : Shows c.ask.new.self s = c.ask.ensures.turned c.args.op parts.update parts.first parts.st parts.is (kept_by old) (shows old) (sym (c.would_grant-granted.ensures c.args.op parts.update parts.first parts.st parts.is)) in
    let later : uses_of c.ask.new.self c.args.number ≡ Locking c.args.op parts.update parts.first st =
    ap (λ (f : ℕ → Use). f c.args.number) (sym asked.uses) ∙ upd_at nat_eq (kept_by old).uses c.args.number (Locking c.args.op parts.update parts.first st) (eq-eqb c.args.number c.args.number refl) in
    let new = c.begin.new.self in
    let turned : Shows new t = subst (λ (m : Nodes). Shows new (begin m c.args.number c.args.op parts.update s).state) (live_stays old.opens c.ask.new.self s asked c.ask.ensures.nodes refl)
    (c.begin.ensures.turned c.args.op parts.update parts.first st later s asked) in
    let nodes = c.begin.ensures.nodes ∙ c.ask.ensures.nodes in
    let came = locking_came c.args.number c.args.op parts.update parts.first parts.st old.given parts.is in
    let changed : c.update_under-update.result.now ≡ parts.update = update_is c.update_under-update.result.now parts.update (sym c.update_under-update.ensures ∙ ap update_of parts.is) in
    record {
      peers = peers_stay old.opens new t turned nodes old.formation old.peers;
      own = own_stays old.opens new t turned nodes (node_of old.processes) old.own;
      forgotten = lost_stay old.opens new t turned nodes refl old.formation old.forgotten;
      within = c.requires.now.within;
      made = made_stay old.opens new t turned nodes c.args.clock (omega (arith, old.made, c.requires.now.later));
      counted = λ port. omega (arith, old.counted port, c.requires.now.later);
      given = given_stay old.opens new t turned nodes
          (given_use ((kept_by old).references + 1) (Updating c.args.op parts.update c.args.number (same_atom (live_of old).own)) (of_update c.args.op parts.update c.args.number (same_atom (live_of old).own) came)
          (given_use c.args.number (Owning (name_of parts.update) ((kept_by old).references + 1)) of_none
          (given_use c.args.number (Locking c.args.op parts.update parts.first st) (of_lock c.args.op parts.update parts.first st came)
          (given_stage c.args.op (Changing ((kept_by old).references + 1)) (of_any came) old.given))));
      few = few_changed (2 ^ 32 + old.clock) (2 ^ 32 + c.args.clock) (g.T.GroupTable.contents old.table) (g.T.GroupTable.contents c.apply_own.new.table) c.update_under-update.result.now (ended_of old.ended)
          (omega (arith, c.requires.now.later)) old.few c.in-Ok.ensures.table;
    }

pub returns-in-Ok-clause-happens : goal.returns-in-Ok-clause-happens
returns-in-Ok-clause-happens g c = λ update first st is.
    let old = c.args.self.now in
    let op = c.args.op in
    let would = c.would_grant-granted.ensures op update first st is in
    let st' : Node → Status = with_asked (live_of old) (λ q. true) st (would_grant (live_of old) (kept_by old) (name_of update)) in
    let s : State = (ask (live_of old) (λ q. true) c.args.number op update first st (kept_by old)).state in
    let t : State = (begin (live_of old) c.args.number op update s).state in
    let asked : Shows c.ask.new.self s = c.ask.ensures.turned op update first st is (kept_by old) (shows old) (sym would) in
    let later : uses_of c.ask.new.self c.args.number ≡ Locking op update first st' =
    ap (λ (f : ℕ → Use). f c.args.number) (sym asked.uses) ∙ upd_at nat_eq (kept_by old).uses c.args.number (Locking op update first st') (eq-eqb c.args.number c.args.number refl) in
    let new = c.begin.new.self in
    let turned : Shows new t = subst (λ (m : Nodes). Shows new (begin m c.args.number op update s).state) (live_stays old.opens c.ask.new.self s asked c.ask.ensures.nodes refl)
    (c.begin.ensures.turned op update first st' later s asked) in
    let changes : c.update_under-update.result.now ≡ update = update_is c.update_under-update.result.now update (sym c.update_under-update.ensures ∙ ap update_of is) in
    let lock = c.own_under-lock.ensures in
    let asks = c.is_asked_by.ensures.own op update first st is refl in
    record {
      told = record { sends = c.in_ok-done.ensures.sends op update first st is; began = c.in_ok-done.ensures.began update (ap update_of is); odd = c.in_ok-done.ensures.odd };
      state = assembled c.args.clock t new (g.T.GroupTable.contents c.apply_own.new.table) ((kept_by old).ended) (locks_of c.apply_own.new.locks) (merged_in (opens_names new) old.formation) ((kept_by old).processes) ((kept_by old).counts)
          turned (c.in-Ok.ensures.table ∙ ap (λ (u : Change). changed (g.T.GroupTable.contents old.table) u (ended_of old.ended)) changes) refl
          (c.in-Ok.ensures.locks ∙ (λ i. after_ask (asks i && would i) (locks_of old.locks) (name_of (changes i)) (lock i)))
          (merged_stay old.opens new t turned (c.begin.ensures.nodes ∙ c.ask.ensures.nodes) old.formation) refl refl;
      answers = refl;
    }

pub begun-requires-clause-named : goal.begun-requires-clause-named
begun-requires-clause-named g c =
    let old = c.args.self.now in
    gathered_named (length old.ports.items) (port_commands old.ports.items) c.args.number old.given
