use Rattle.std.proofs.Common.{◌≡◌, ◌∙◌, ◌+◌, ◌^◌, ◌<◌, ◌≤◌, ◌&&◌, ℕ, Bool}
use Rattle.std.proofs.Common.{length, ap, sym, refl, arith, true, subst, nat_eq}
use Rattle.pg_node_ports.specs.PgGroup.declared.update.Update.{Update as Change}
use Rattle.pg_node_ports.specs.PgGroup.Value.{name_of}
use Rattle.pg_node_ports.specs.PgGroup.Ended.{ended_of}
use Rattle.pg_node_ports.specs.PgLock.Locks.{Locks, locks_of, given_up, is_holder}
use Rattle.pg_node_ports.specs.PgEnds.Processes.{node_of}
use Rattle.pg_node_ports.specs.PgNodeOpens.Opens.{Shows, names_of as opens_names, live_of as live_in}
use Rattle.pg_node_ports.specs.PgNodeOpens.Readings.{update_of}
use Rattle.pg_node_ports.specs.PgStep.State.{State}
use Rattle.pg_node_state.specs.Ports.{merged_in}
use Rattle.pg_node_ports.specs.Ports.{port_commands}
use Rattle.pg_node_state.specs.States.{names_of, live_of, kept_by}
use Rattle.pg_node_state.proofs.Kept.{shows, assembled}
use Rattle.pg_node_state.proofs.Steady.{peers_stay, own_stays, merged_stay, lost_stay, made_stay, given_stay}
use Rattle.pg_node_state.proofs.Turned.{Locks as LockOf, locks_by}
use Rattle.pg_node_sends.proofs.Updates.{update_is}
use Rattle.std.proofs.lemmas.Bool.{eq-eqb}
use Rattle.pg_term.specs.Same.{same_atom}
use Rattle.pg_node_ports.proofs.PgGroup.Changes.{upd_at}
use Rattle.pg_node_ports.specs.PgGroup.Functions.{upd}
use Rattle.pg_node_ports.specs.PgGroup.Value.{count_in}
use Rattle.pg_node_ports.specs.PgGroup.Table.{Table, changed}
use Rattle.pg_node_ports.specs.PgStep.Attempts.{ask, asks, begin, finish, with_asked, own_reference}
use Rattle.pg_node_ports.specs.PgStep.declared.answer.Reply.TheVariants as reply
use Rattle.pg_node_ports.specs.PgStep.Turns.{NodeTurn}
use Rattle.pg_node_ports.specs.PgStep.Machines.Clocked.{stamped}
use Rattle.std.proofs.Math.Path.{fun_ext}
use Rattle.std.proofs.Common.{Option, ◌++◌, ◌∷◌, []}
use Rattle.pg_node_ports.specs.PgNodeOpens.Places.{name_at}
use Rattle.pg_node_ports.specs.PgStep.State.{Response}
use Rattle.pg_node_ports.specs.PgMessageTypes.declared.message.Message.TheVariants.{Call}
use Rattle.pg_node_ports.specs.PgMessageTypes.declared.message.Request.TheVariants as request
use Rattle.pg_node_state.specs.States.{Gave}
use Rattle.pg_node_ports.specs.Ports.{answers_in}
use Rattle.pg_node_sends.proofs.Undone.{granted_free, not_taken}
use Rattle.pg_node_ports.specs.PgStep.State.{formed}
use Rattle.pg_node_ports.specs.PgStep.Nodes.{Node, Nodes}
use Rattle.pg_node_ports.specs.PgStep.Peers.{would_grant}
use Rattle.pg_node_ports.specs.PgStep.declared.command.OpId.{OpId}
use Rattle.pg_node_ports.specs.PgStep.State.{Status, Use}
use Rattle.pg_node_ports.specs.PgStep.State.Use.{Locking, Owning, Updating, Spent}
use Rattle.pg_node_ports.specs.PgStep.State.Stage.{Changing, Closed}
use Rattle.pg_node_ports.specs.PgNodeOpens.Readings.{is_locking, is_updating}
use Rattle.pg_node_ports.specs.PgNodeOpens.Opens.{uses_of}
use Rattle.pg_node_state.proofs.Counts.{few_changed}
use Rattle.pg_node_state.proofs.Given.{given_use, of_any, given_stage, of_lock, of_none}
use Rattle.pg_node_state.proofs.Given.{of_update, given_ports, locking_came, gathered_named}
use Rattle.pg_node_state.proofs.Steady.{live_stays}
use Rattle.pg_node_state.proofs.Alone.{to_none, begins_alone, sends_nothing, at_time}
use Rattle.pg_node_state.proofs.state.NodeState.begin_alone.Goals as goal

pub begin-requires : goal.begin-requires
begin-requires g c =
    let old = c.args.self.now in
    let number : ℕ = c.args.number in
    let op : OpId = c.args.op in
    let parts : LockOf ((kept_by old).uses number) op = locks_by ((kept_by old).uses number) op c.requires.locking in
    let update : Change = parts.update in
    let is : (kept_by old).uses number ≡ Locking op update parts.first parts.st = parts.is in
    let st : Node → Status = with_asked (live_of old) (λ q. true) parts.st (would_grant (live_of old) (kept_by old) (name_of update)) in
    let s1 : State = (ask (live_of old) (λ q. true) number op update parts.first parts.st (kept_by old)).state in
    let asked : Shows c.ask.new.self s1 = c.ask.ensures.turned op update parts.first parts.st is (kept_by old) (shows old) (sym (c.would_grant-granted.ensures op update parts.first parts.st is)) in
    let locking : uses_of c.ask.new.self number ≡ Locking op update parts.first st =
    ap (λ (f : ℕ → Use). f number) (sym asked.uses) ∙ upd_at nat_eq (kept_by old).uses number (Locking op update parts.first st) (eq-eqb number number refl) in
    record {
      locking = ap is_locking locking;
      next = omega (arith, sym asked.references, old.made, c.requires.now.later, c.requires.now.within);
    }

pub finish-requires : goal.finish-requires
finish-requires g c =
    let old = c.args.self.now in
    let number : ℕ = c.args.number in
    let op : OpId = c.args.op in
    let parts : LockOf ((kept_by old).uses number) op = locks_by ((kept_by old).uses number) op c.requires.locking in
    let update : Change = parts.update in
    let is : (kept_by old).uses number ≡ Locking op update parts.first parts.st = parts.is in
    let st : Node → Status = with_asked (live_of old) (λ q. true) parts.st (would_grant (live_of old) (kept_by old) (name_of update)) in
    let s1 : State = (ask (live_of old) (λ q. true) number op update parts.first parts.st (kept_by old)).state in
    let asked : Shows c.ask.new.self s1 = c.ask.ensures.turned op update parts.first parts.st is (kept_by old) (shows old) (sym (c.would_grant-granted.ensures op update parts.first parts.st is)) in
    let locking : uses_of c.ask.new.self number ≡ Locking op update parts.first st =
    ap (λ (f : ℕ → Use). f number) (sym asked.uses) ∙ upd_at nat_eq (kept_by old).uses number (Locking op update parts.first st) (eq-eqb number number refl) in
    let s2 : State = (begin (live_of old) number op update s1).state in
    let begun : Shows c.begin.new.self s2 = subst (λ (m : Nodes). Shows c.begin.new.self (begin m number op update s1).state) (live_stays old.opens c.ask.new.self s1 asked c.ask.ensures.nodes refl)
    (c.begin.ensures.turned op update parts.first st locking s1 asked) in
    let changing : ℕ = (kept_by old).references + 1 in
    let made : c.references-changing.result + 1 ≡ changing = ap (λ n. n + 1) c.references-changing.ensures in
    let updating : uses_of c.begin.new.self changing ≡ Updating op update number (same_atom (live_of old).own) =
    ap (λ (f : ℕ → Use). f changing) (sym begun.uses)
    ∙ upd_at nat_eq (upd nat_eq s1.uses number (Owning (name_of update) changing)) changing (Updating op update number (same_atom (live_of old).own)) (eq-eqb changing changing refl) in
    record { updating = ap (λ (n : ℕ). is_updating (uses_of c.begin.new.self n)) made ∙ ap is_updating updating }

pub reserve_answer-requires : goal.reserve_answer-requires
reserve_answer-requires g c =
    let old = c.args.self.now in
    let number : ℕ = c.args.number in
    let op : OpId = c.args.op in
    let parts : LockOf ((kept_by old).uses number) op = locks_by ((kept_by old).uses number) op c.requires.locking in
    let update : Change = parts.update in
    let is : (kept_by old).uses number ≡ Locking op update parts.first parts.st = parts.is in
    record { place = (locking_came number op update parts.first parts.st old.given is).port }

pub keep_reserved-requires : goal.keep_reserved-requires
keep_reserved-requires g c =
    let old = c.args.self.now in
    let number : ℕ = c.args.number in
    let op : OpId = c.args.op in
    let parts : LockOf ((kept_by old).uses number) op = locks_by ((kept_by old).uses number) op c.requires.locking in
    let update : Change = parts.update in
    let is : (kept_by old).uses number ≡ Locking op update parts.first parts.st = parts.is in
    record {
      place = subst (λ (n : ℕ). op.port < n) (sym c.reserve_answer.ensures.len) (locking_came number op update parts.first parts.st old.given is).port;
      room = c.in_ok-reserve_answer.ensures.ok;
    }

pub invariant_of-self : goal.invariant_of-self
invariant_of-self g c =
    let old = c.args.self.now in
    record {
      peers = old.peers;
      own = old.own;
      forgotten = old.forgotten;
      within = old.within;
      made = old.made;
      counted = λ port. subst (λ (f : ℕ → ℕ). f port ≤ old.clock) (sym c.reserve_answer.ensures.counts) (old.counted port);
      given = given_ports (length old.ports.items) (length c.reserve_answer.new.ports.items) (port_commands old.ports.items) (port_commands c.reserve_answer.new.ports.items) c.reserve_answer.ensures.len c.reserve_answer.ensures.counts old.given;
      few = old.few;
    }

pub invariant_of-self-2 : goal.invariant_of-self-2
invariant_of-self-2 g c =
    let old = c.args.self.now in
    record {
      peers = old.peers;
      own = old.own;
      forgotten = old.forgotten;
      within = old.within;
      made = old.made;
      counted = λ port. subst (λ (f : ℕ → ℕ). f port ≤ old.clock) (sym c.reserve_answer.ensures.counts) (old.counted port);
      given = given_ports (length old.ports.items) (length c.reserve_answer.new.ports.items) (port_commands old.ports.items) (port_commands c.reserve_answer.new.ports.items) c.reserve_answer.ensures.len c.reserve_answer.ensures.counts old.given;
      few = old.few;
    }

pub invariant_of-self-in-Err-1 : goal.invariant_of-self-in-Err-1
invariant_of-self-in-Err-1 g c =
    let old = c.args.self.now in
    record {
      peers = old.peers;
      own = old.own;
      forgotten = old.forgotten;
      within = old.within;
      made = old.made;
      counted = λ port. subst (λ (f : ℕ → ℕ). f port ≤ old.clock) (sym c.reserve_answer.ensures.counts) (old.counted port);
      given = given_ports (length old.ports.items) (length c.reserve_answer.new.ports.items) (port_commands old.ports.items) (port_commands c.reserve_answer.new.ports.items) c.reserve_answer.ensures.len c.reserve_answer.ensures.counts old.given;
      few = λ name pid. subst (λ (t : Table). count_in (t name) pid ≤ 2 ^ 32 + old.clock) (sym c.in-Err.ensures.err) (old.few name pid);
    }

pub invariant_of-self-in-Ok : goal.invariant_of-self-in-Ok
invariant_of-self-in-Ok g c =
    let old = c.args.self.now in
    let number : ℕ = c.args.number in
    let op : OpId = c.args.op in
    let parts : LockOf ((kept_by old).uses number) op = locks_by ((kept_by old).uses number) op c.requires.locking in
    let update : Change = parts.update in
    let is : (kept_by old).uses number ≡ Locking op update parts.first parts.st = parts.is in
    let st : Node → Status = with_asked (live_of old) (λ q. true) parts.st (would_grant (live_of old) (kept_by old) (name_of update)) in
    let s1 : State = (ask (live_of old) (λ q. true) number op update parts.first parts.st (kept_by old)).state in
    let asked : Shows c.ask.new.self s1 = c.ask.ensures.turned op update parts.first parts.st is (kept_by old) (shows old) (sym (c.would_grant-granted.ensures op update parts.first parts.st is)) in
    let locking : uses_of c.ask.new.self number ≡ Locking op update parts.first st =
    ap (λ (f : ℕ → Use). f number) (sym asked.uses) ∙ upd_at nat_eq (kept_by old).uses number (Locking op update parts.first st) (eq-eqb number number refl) in
    let s2 : State = (begin (live_of old) number op update s1).state in
    let begun : Shows c.begin.new.self s2 = subst (λ (m : Nodes). Shows c.begin.new.self (begin m number op update s1).state) (live_stays old.opens c.ask.new.self s1 asked c.ask.ensures.nodes refl)
    (c.begin.ensures.turned op update parts.first st locking s1 asked) in
    let changing : ℕ = (kept_by old).references + 1 in
    let made : c.references-changing.result + 1 ≡ changing = ap (λ n. n + 1) c.references-changing.ensures in
    let updating : uses_of c.begin.new.self changing ≡ Updating op update number (same_atom (live_of old).own) =
    ap (λ (f : ℕ → Use). f changing) (sym begun.uses)
    ∙ upd_at nat_eq (upd nat_eq s1.uses number (Owning (name_of update) changing)) changing (Updating op update number (same_atom (live_of old).own)) (eq-eqb changing changing refl) in
    let nodes1 = c.begin.ensures.nodes ∙ c.ask.ensures.nodes in
    let s3 : State = (finish (live_of old) changing op update number s2).state in
    let new = c.finish.new.self in
    let turned : Shows new s3 = subst (λ (m : Nodes). Shows new (finish m changing op update number s2).state) (live_stays old.opens c.begin.new.self s2 begun nodes1 refl)
    (subst (λ (n : ℕ). uses_of c.begin.new.self n ≡ Updating op update number (same_atom (live_of old).own) → Shows new (finish (live_in c.begin.new.self) n op update number s2).state) made
    (λ e. c.finish.ensures.turned op update number (same_atom (live_of old).own) e s2 begun) updating) in
    let nodes = c.finish.ensures.nodes ∙ nodes1 in
    let came = locking_came number op update parts.first parts.st old.given is in
    let counts = c.keep_reserved.ensures.counts ∙ c.reserve_answer.ensures.counts in
    let len = c.keep_reserved.ensures.len ∙ c.reserve_answer.ensures.len in
    record {
      peers = peers_stay old.opens new s3 turned nodes old.formation old.peers;
      own = own_stays old.opens new s3 turned nodes (node_of old.processes) old.own;
      forgotten = lost_stay old.opens new s3 turned nodes refl old.formation old.forgotten;
      within = c.requires.now.within;
      made = made_stay old.opens new s3 turned nodes c.args.clock (omega (arith, old.made, c.requires.now.later));
      counted = λ port. subst (λ (f : ℕ → ℕ). f port ≤ c.args.clock) (sym counts) (omega (arith, old.counted port, c.requires.now.later));
      given = given_ports (length old.ports.items) (length c.keep_reserved.new.ports.items) (port_commands old.ports.items) (port_commands c.keep_reserved.new.ports.items) len counts
          (given_stay old.opens new s3 turned nodes
          (given_use changing Spent of_none (given_use number Spent of_none
          (given_use changing (Updating op update number (same_atom (live_of old).own)) (of_update op update number (same_atom (live_of old).own) came)
          (given_use number (Owning (name_of update) changing) of_none
          (given_use number (Locking op update parts.first st) (of_lock op update parts.first st came)
          (given_stage op Closed (of_any came) (given_stage op (Changing changing) (of_any came) old.given))))))));
      few = few_changed (2 ^ 32 + old.clock) (2 ^ 32 + c.args.clock) (g.T.GroupTable.contents old.table) (g.T.GroupTable.contents c.apply.new.self) c.update_under-update.result.now (ended_of old.ended)
          (omega (arith, c.requires.now.later)) old.few c.in-Ok.ensures.ok;
    }

pub returns-in-Ok-clause-happens : goal.returns-in-Ok-clause-happens
returns-in-Ok-clause-happens g c = λ update first st0 is.
    let old = c.args.self.now in
    let number : ℕ = c.args.number in
    let op : OpId = c.args.op in
    let st : Node → Status = with_asked (live_of old) (λ q. true) st0 (would_grant (live_of old) (kept_by old) (name_of update)) in
    let s1 : State = (ask (live_of old) (λ q. true) number op update first st0 (kept_by old)).state in
    let asked : Shows c.ask.new.self s1 = c.ask.ensures.turned op update first st0 is (kept_by old) (shows old) (sym (c.would_grant-granted.ensures op update first st0 is)) in
    let locking : uses_of c.ask.new.self number ≡ Locking op update first st =
    ap (λ (f : ℕ → Use). f number) (sym asked.uses) ∙ upd_at nat_eq (kept_by old).uses number (Locking op update first st) (eq-eqb number number refl) in
    let s2 : State = (begin (live_of old) number op update s1).state in
    let begun : Shows c.begin.new.self s2 = subst (λ (m : Nodes). Shows c.begin.new.self (begin m number op update s1).state) (live_stays old.opens c.ask.new.self s1 asked c.ask.ensures.nodes refl)
    (c.begin.ensures.turned op update first st locking s1 asked) in
    let changing : ℕ = (kept_by old).references + 1 in
    let made : c.references-changing.result + 1 ≡ changing = ap (λ n. n + 1) c.references-changing.ensures in
    let updating : uses_of c.begin.new.self changing ≡ Updating op update number (same_atom (live_of old).own) =
    ap (λ (f : ℕ → Use). f changing) (sym begun.uses)
    ∙ upd_at nat_eq (upd nat_eq s1.uses number (Owning (name_of update) changing)) changing (Updating op update number (same_atom (live_of old).own)) (eq-eqb changing changing refl) in
    let nodes1 = c.begin.ensures.nodes ∙ c.ask.ensures.nodes in
    let s3 : State = (finish (live_of old) changing op update number s2).state in
    let new = c.finish.new.self in
    let turned : Shows new s3 = subst (λ (m : Nodes). Shows new (finish m changing op update number s2).state) (live_stays old.opens c.begin.new.self s2 begun nodes1 refl)
    (subst (λ (n : ℕ). uses_of c.begin.new.self n ≡ Updating op update number (same_atom (live_of old).own) → Shows new (finish (live_in c.begin.new.self) n op update number s2).state) made
    (λ e. c.finish.ensures.turned op update number (same_atom (live_of old).own) e s2 begun) updating) in
    let nodes = c.finish.ensures.nodes ∙ nodes1 in
    let m : Nodes = live_of old in
    let clock : ℕ = c.args.clock in
    let contents = g.T.GroupTable.contents in
    let whole = begins_alone m c.requires.alone number op update first st0 (kept_by old) in
    let changes : c.update_under-update.result.now ≡ update = update_is c.update_under-update.result.now update (sym c.update_under-update.ensures ∙ ap update_of is) in
    let asks_own : Bool = asks (λ q. true) st0 m.own in
    let would : Bool = would_grant m (kept_by old) (name_of update) in
    let locks : Locks = locks_of old.locks in
    let lock = c.own_under-lock.ensures in
    let name = c.name.ensures ∙ ap name_of changes in
    let freed = c.give_up_own.ensures ∙ ((λ i. given_up (is_holder (locks (name i)) (lock i)) locks (name i))
    ∙ not_taken c.equality.ensures.terms c.equality.ensures.references locks (name_of update) (own_reference m number) (asks_own && would)
    (granted_free asks_own (formed m (kept_by old)) would locks (name_of update) refl)) in
    let answers = c.reserve_answer.ensures.answers in
    record {
      told = record {
        sends = c.in_ok-done.ensures.sends op update first st0 is
            ∙ ((λ i q. stamped clock (to_none m (λ p. true) (Call (own_reference m changing) (request.Change update)) c.requires.alone i q))
            ∙ fun_ext (λ q. ap (stamped clock) (sym (sends_nothing m c.requires.alone number op update first st0 (kept_by old) q))));
        began = c.in_ok-done.ensures.began update (ap update_of is) ∙ sym (ap (λ (t : NodeTurn). t.reported.began) whole);
        odd = c.in_ok-done.ensures.odd ∙ sym (ap (λ (t : NodeTurn). t.reported.odd) whole);
      };
      state = assembled clock s3 new (contents c.apply.new.self) ((kept_by old).ended) (locks_of c.give_up_own.new.locks) (merged_in (opens_names new) old.formation) ((kept_by old).processes) (port_commands c.keep_reserved.new.ports.items)
          turned (c.in-Ok.ensures.ok ∙ ap (λ (u : Change). changed (contents old.table) u (ended_of old.ended)) changes) refl freed
          (merged_stay old.opens new s3 turned nodes old.formation) refl (c.keep_reserved.ensures.counts ∙ c.reserve_answer.ensures.counts)
          ∙ sym (ap (λ (t : NodeTurn). at_time clock t.state) whole);
      answers = subst (λ (gave : Option (OpId × Response)). Gave (name_at (names_of old) 0) gave (answers_in old.ports.items) (answers_in c.keep_reserved.new.ports.items)) (sym (ap (λ (t : NodeTurn). t.reported.gave) whole))
          (reply.Ok, refl, c.keep_reserved.ensures.kept ∙ (λ i. upd nat_eq (answers i) op.port (answers i op.port ++ record { number = op.number; reply = reply.Ok } ∷ [])));
    }

pub begun-requires-clause-named : goal.begun-requires-clause-named
begun-requires-clause-named g c =
    let old = c.args.self.now in
    gathered_named (length old.ports.items) (port_commands old.ports.items) c.args.number old.given
