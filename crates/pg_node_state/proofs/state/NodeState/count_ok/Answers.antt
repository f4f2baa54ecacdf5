use Rattle.std.proofs.Common.{◌≡◌, ◌∙◌, ◌+◌, ℕ, Bool, true, false, cond, List, nat_eq, sym, ap, refl, subst}
use Rattle.std.proofs.lemmas.Bool.{eq-eqb}
use Rattle.pg_term.specs.Same.{same_atom}
use Rattle.pg_node_ports.specs.PgGroup.Functions.{upd}
use Rattle.pg_node_ports.proofs.PgGroup.Changes.{upd_at}
use Rattle.pg_node_ports.specs.PgEnds.Processes.{node_of}
use Rattle.pg_node_ports.specs.PgStep.Machines.Clocked.{Timed}
use Rattle.pg_node_ports.specs.PgNodeOpens.declared.opens.Opens.{Opens}
use Rattle.pg_node_ports.specs.PgNodeOpens.Opens.{Shows, names_of as opens_names, live_of as live_in, uses_of}
use Rattle.pg_node_ports.specs.PgNodeOpens.Places.{name_at}
use Rattle.pg_node_ports.specs.PgNodeOpens.Readings.{gathering_of, is_updating}
use Rattle.pg_node_ports.specs.PgStep.declared.command.OpId.{OpId}
use Rattle.pg_node_ports.specs.PgStep.Nodes.{Node, Nodes, every}
use Rattle.pg_node_ports.specs.PgStep.State.{State, Use}
use Rattle.pg_node_ports.specs.PgStep.State.Use.{Updating}
use Rattle.pg_node_ports.specs.PgStep.Turns.{becomes}
use Rattle.pg_node_ports.specs.PgStep.Attempts.{counted, count_ok, finish, is_complete}
use Rattle.pg_node_ports.specs.PgNodeOpens.TakenBack.{ok_taken_back}
use Rattle.pg_node_state.specs.Ports.{merged_in}
use Rattle.pg_node_sends.specs.Sendable.{AreSendable}
use Rattle.pg_node_state.specs.States.{names_of, live_of, kept_by, state_of, answers_of}
use Rattle.pg_node_state.proofs.Given.{given_use, of_update, updating_came}
use Rattle.pg_node_state.proofs.Alone.{at_time}
use Rattle.pg_node_state.proofs.Kept.{shows, assembled, assembled_state, happens_as}
use Rattle.pg_node_state.proofs.Steady.{peers_stay, own_stays, merged_stay}
use Rattle.pg_node_state.proofs.Steady.{lost_stay, made_stay, given_stay, live_stays}
use Rattle.pg_node_state.proofs.Turned.{Updates, updates_by, counted_ok, ok_back}
use Rattle.pg_node_state.proofs.state.NodeState.count_ok.Goals as goal

pub invariant_of-self : goal.invariant_of-self
invariant_of-self g c =
    let old = c.args.self.now in
    let number : ℕ = c.args.number in
    let op : OpId = c.args.op in
    let lock : ℕ = c.args.lock in
    let p : Node = name_at (names_of old) (c.args.peer + 1) in
    let used : Use = (kept_by old).uses number in
    let parts : Updates used op lock = updates_by used op lock c.requires.updating in
    let heard : Node → Bool = upd same_atom parts.replied p true in
    let s1 : State = (count_ok number op parts.update lock parts.replied p (kept_by old)).state in
    let new : Opens = c.count_ok.new.self in
    let turned : Shows new s1 = c.count_ok.ensures.turned op parts.update lock parts.replied parts.is (kept_by old) (shows old) in
    let nodes : opens_names new ≡ names_of old = c.count_ok.ensures.nodes in
    let is1 : uses_of new number ≡ Updating op parts.update lock heard =
    ap (λ (f : ℕ → Use). f number) (sym turned.uses) ∙ upd_at nat_eq (kept_by old).uses number (Updating op parts.update lock heard) (eq-eqb number number refl) in
    let kept1 = assembled_state s1 new ((kept_by old).table) ((kept_by old).ended) ((kept_by old).locks) (merged_in (opens_names new) old.formation) ((kept_by old).processes) ((kept_by old).counts)
    turned refl refl refl (merged_stay old.opens new s1 turned nodes old.formation) refl refl in
    let left1 : live_in new ≡ live_of old = live_stays old.opens new s1 turned nodes refl in
    record {
      peers = peers_stay old.opens new s1 turned nodes old.formation old.peers;
      own = own_stays old.opens new s1 turned nodes (node_of old.processes) old.own;
      forgotten = lost_stay old.opens new s1 turned nodes refl old.formation old.forgotten;
      within = old.within;
      made = made_stay old.opens new s1 turned nodes old.clock old.made;
      counted = old.counted;
      given = given_stay old.opens new s1 turned nodes (given_use number (Updating op parts.update lock heard)
          (of_update op parts.update lock heard (updating_came number op parts.update lock parts.replied old.given parts.is)) old.given);
      few = old.few;
    }

pub finish-requires-clause-updating : goal.finish-requires-clause-updating
finish-requires-clause-updating g c =
    let old = c.args.self.now in
    let number : ℕ = c.args.number in
    let op : OpId = c.args.op in
    let lock : ℕ = c.args.lock in
    let p : Node = name_at (names_of old) (c.args.peer + 1) in
    let used : Use = (kept_by old).uses number in
    let parts : Updates used op lock = updates_by used op lock c.requires.updating in
    let heard : Node → Bool = upd same_atom parts.replied p true in
    let s1 : State = (count_ok number op parts.update lock parts.replied p (kept_by old)).state in
    let new : Opens = c.count_ok.new.self in
    let turned : Shows new s1 = c.count_ok.ensures.turned op parts.update lock parts.replied parts.is (kept_by old) (shows old) in
    let nodes : opens_names new ≡ names_of old = c.count_ok.ensures.nodes in
    let is1 : uses_of new number ≡ Updating op parts.update lock heard =
    ap (λ (f : ℕ → Use). f number) (sym turned.uses) ∙ upd_at nat_eq (kept_by old).uses number (Updating op parts.update lock heard) (eq-eqb number number refl) in
    let kept1 = assembled_state s1 new ((kept_by old).table) ((kept_by old).ended) ((kept_by old).locks) (merged_in (opens_names new) old.formation) ((kept_by old).processes) ((kept_by old).counts)
    turned refl refl refl (merged_stay old.opens new s1 turned nodes old.formation) refl refl in
    let left1 : live_in new ≡ live_of old = live_stays old.opens new s1 turned nodes refl in
    ap gathering_of is1

pub take_back_ok-requires-clause-updating : goal.take_back_ok-requires-clause-updating
take_back_ok-requires-clause-updating g c =
    let old = c.args.self.now in
    let number : ℕ = c.args.number in
    let op : OpId = c.args.op in
    let lock : ℕ = c.args.lock in
    let p : Node = name_at (names_of old) (c.args.peer + 1) in
    let used : Use = (kept_by old).uses number in
    let parts : Updates used op lock = updates_by used op lock c.requires.updating in
    let heard : Node → Bool = upd same_atom parts.replied p true in
    let s1 : State = (count_ok number op parts.update lock parts.replied p (kept_by old)).state in
    let new : Opens = c.count_ok.new.self in
    let turned : Shows new s1 = c.count_ok.ensures.turned op parts.update lock parts.replied parts.is (kept_by old) (shows old) in
    let nodes : opens_names new ≡ names_of old = c.count_ok.ensures.nodes in
    let is1 : uses_of new number ≡ Updating op parts.update lock heard =
    ap (λ (f : ℕ → Use). f number) (sym turned.uses) ∙ upd_at nat_eq (kept_by old).uses number (Updating op parts.update lock heard) (eq-eqb number number refl) in
    let kept1 = assembled_state s1 new ((kept_by old).table) ((kept_by old).ended) ((kept_by old).locks) (merged_in (opens_names new) old.formation) ((kept_by old).processes) ((kept_by old).counts)
    turned refl refl refl (merged_stay old.opens new s1 turned nodes old.formation) refl refl in
    let left1 : live_in new ≡ live_of old = live_stays old.opens new s1 turned nodes refl in
    ap is_updating (ap (λ (x : Timed State). x.state.uses number) c.in-Err.ensures.stays.state ∙ is1)

pub returns-then-not-is_complete-clause-happens : goal.returns-then-not-is_complete-clause-happens
returns-then-not-is_complete-clause-happens g c = λ said.
    let old = c.args.self.now in
    let number : ℕ = c.args.number in
    let op : OpId = c.args.op in
    let lock : ℕ = c.args.lock in
    let p : Node = name_at (names_of old) (c.args.peer + 1) in
    let used : Use = (kept_by old).uses number in
    let parts : Updates used op lock = updates_by used op lock c.requires.updating in
    let heard : Node → Bool = upd same_atom parts.replied p true in
    let s1 : State = (count_ok number op parts.update lock parts.replied p (kept_by old)).state in
    let new : Opens = c.count_ok.new.self in
    let turned : Shows new s1 = c.count_ok.ensures.turned op parts.update lock parts.replied parts.is (kept_by old) (shows old) in
    let nodes : opens_names new ≡ names_of old = c.count_ok.ensures.nodes in
    let is1 : uses_of new number ≡ Updating op parts.update lock heard =
    ap (λ (f : ℕ → Use). f number) (sym turned.uses) ∙ upd_at nat_eq (kept_by old).uses number (Updating op parts.update lock heard) (eq-eqb number number refl) in
    let kept1 = assembled_state s1 new ((kept_by old).table) ((kept_by old).ended) ((kept_by old).locks) (merged_in (opens_names new) old.formation) ((kept_by old).processes) ((kept_by old).counts)
    turned refl refl refl (merged_stay old.opens new s1 turned nodes old.formation) refl refl in
    let left1 : live_in new ≡ live_of old = live_stays old.opens new s1 turned nodes refl in
    let all : every (live_of old) heard ≡ false = ap (λ (m : Nodes). every m heard) (sym left1) ∙ (ap (is_complete (live_in new)) (sym is1) ∙ (sym c.is_complete.ensures ∙ c.if-not-is_complete.true)) in
    happens_as (names_of old) (opens_names new) c.args.clock (counted used (live_of old) p number said (kept_by old)) (becomes _) c.wait.result (state_of c.wait.new.self) (answers_of old) (answers_of c.wait.new.self) nodes
    (ap becomes kept1 ∙ sym (counted_ok used op parts.update lock parts.replied parts.is (live_of old) p number said (kept_by old)
    ∙ ap (λ b. cond b (finish (live_of old) number op parts.update lock s1) (becomes s1)) all)) c.wait.ensures.happens

pub returns-in-Ok-clause-happens : goal.returns-in-Ok-clause-happens
returns-in-Ok-clause-happens g c = λ said.
    let old = c.args.self.now in
    let number : ℕ = c.args.number in
    let op : OpId = c.args.op in
    let lock : ℕ = c.args.lock in
    let p : Node = name_at (names_of old) (c.args.peer + 1) in
    let used : Use = (kept_by old).uses number in
    let parts : Updates used op lock = updates_by used op lock c.requires.updating in
    let heard : Node → Bool = upd same_atom parts.replied p true in
    let s1 : State = (count_ok number op parts.update lock parts.replied p (kept_by old)).state in
    let new : Opens = c.count_ok.new.self in
    let turned : Shows new s1 = c.count_ok.ensures.turned op parts.update lock parts.replied parts.is (kept_by old) (shows old) in
    let nodes : opens_names new ≡ names_of old = c.count_ok.ensures.nodes in
    let is1 : uses_of new number ≡ Updating op parts.update lock heard =
    ap (λ (f : ℕ → Use). f number) (sym turned.uses) ∙ upd_at nat_eq (kept_by old).uses number (Updating op parts.update lock heard) (eq-eqb number number refl) in
    let kept1 = assembled_state s1 new ((kept_by old).table) ((kept_by old).ended) ((kept_by old).locks) (merged_in (opens_names new) old.formation) ((kept_by old).processes) ((kept_by old).counts)
    turned refl refl refl (merged_stay old.opens new s1 turned nodes old.formation) refl refl in
    let left1 : live_in new ≡ live_of old = live_stays old.opens new s1 turned nodes refl in
    let all : every (live_of old) heard ≡ true = ap (λ (m : Nodes). every m heard) (sym left1) ∙ (ap (is_complete (live_in new)) (sym is1) ∙ (sym c.is_complete.ensures ∙ c.if-not-is_complete.false)) in
    happens_as (names_of old) (opens_names new) c.args.clock (counted used (live_of old) p number said (kept_by old)) _ c.in-Ok.done (state_of c.finish.new.self) (answers_of old) (answers_of c.finish.new.self) nodes
    ((λ i. finish (left1 i) number op parts.update lock (kept1 i)) ∙ sym (counted_ok used op parts.update lock parts.replied parts.is (live_of old) p number said (kept_by old)
    ∙ ap (λ b. cond b (finish (live_of old) number op parts.update lock s1) (becomes s1)) all)) (c.in-Ok.ensures.happens parts.update heard is1)

pub invariant_of-self-in-Err : goal.invariant_of-self-in-Err
invariant_of-self-in-Err g c =
    let old = c.args.self.now in
    let number : ℕ = c.args.number in
    let op : OpId = c.args.op in
    let lock : ℕ = c.args.lock in
    let p : Node = name_at (names_of old) (c.args.peer + 1) in
    let used : Use = (kept_by old).uses number in
    let parts : Updates used op lock = updates_by used op lock c.requires.updating in
    let heard : Node → Bool = upd same_atom parts.replied p true in
    let s1 : State = (count_ok number op parts.update lock parts.replied p (kept_by old)).state in
    let new : Opens = c.count_ok.new.self in
    let turned : Shows new s1 = c.count_ok.ensures.turned op parts.update lock parts.replied parts.is (kept_by old) (shows old) in
    let nodes : opens_names new ≡ names_of old = c.count_ok.ensures.nodes in
    let is1 : uses_of new number ≡ Updating op parts.update lock heard =
    ap (λ (f : ℕ → Use). f number) (sym turned.uses) ∙ upd_at nat_eq (kept_by old).uses number (Updating op parts.update lock heard) (eq-eqb number number refl) in
    let kept1 = assembled_state s1 new ((kept_by old).table) ((kept_by old).ended) ((kept_by old).locks) (merged_in (opens_names new) old.formation) ((kept_by old).processes) ((kept_by old).counts)
    turned refl refl refl (merged_stay old.opens new s1 turned nodes old.formation) refl refl in
    let left1 : live_in new ≡ live_of old = live_stays old.opens new s1 turned nodes refl in
    let self2 = c.finish.new.self in
    let same = c.in-Err.ensures.stays.state in
    let uses2 = ap (λ (x : Timed State). x.state.uses number) same ∙ is1 in
    let names2 = c.finish.ensures.stays.names ∙ nodes in
    let p2 : Node = name_at (names_of self2) (c.args.peer + 1) in
    let final : Opens = c.take_back_ok.new.self in
    let s2 : State = (ok_taken_back number op parts.update lock heard p2 (kept_by self2)).state in
    let back : Shows final s2 = c.take_back_ok.ensures.turned op parts.update lock heard uses2 (kept_by self2) (shows self2) in
    let nodes2 = c.take_back_ok.ensures.nodes in
    record {
      peers = peers_stay self2.opens final s2 back nodes2 self2.formation self2.peers;
      own = own_stays self2.opens final s2 back nodes2 (node_of self2.processes) self2.own;
      forgotten = lost_stay self2.opens final s2 back nodes2 refl self2.formation self2.forgotten;
      within = self2.within;
      made = made_stay self2.opens final s2 back nodes2 self2.clock self2.made;
      counted = self2.counted;
      given = given_stay self2.opens final s2 back nodes2 (given_use number (Updating op parts.update lock (upd same_atom heard p2 false))
          (of_update op parts.update lock (upd same_atom heard p2 false) (updating_came number op parts.update lock heard self2.given uses2)) self2.given);
      few = self2.few;
    }

pub returns-in-Err-clause-stays : goal.returns-in-Err-clause-stays
returns-in-Err-clause-stays g c =
    let old = c.args.self.now in
    let number : ℕ = c.args.number in
    let op : OpId = c.args.op in
    let lock : ℕ = c.args.lock in
    let p : Node = name_at (names_of old) (c.args.peer + 1) in
    let used : Use = (kept_by old).uses number in
    let parts : Updates used op lock = updates_by used op lock c.requires.updating in
    let heard : Node → Bool = upd same_atom parts.replied p true in
    let s1 : State = (count_ok number op parts.update lock parts.replied p (kept_by old)).state in
    let new : Opens = c.count_ok.new.self in
    let turned : Shows new s1 = c.count_ok.ensures.turned op parts.update lock parts.replied parts.is (kept_by old) (shows old) in
    let nodes : opens_names new ≡ names_of old = c.count_ok.ensures.nodes in
    let is1 : uses_of new number ≡ Updating op parts.update lock heard =
    ap (λ (f : ℕ → Use). f number) (sym turned.uses) ∙ upd_at nat_eq (kept_by old).uses number (Updating op parts.update lock heard) (eq-eqb number number refl) in
    let kept1 = assembled_state s1 new ((kept_by old).table) ((kept_by old).ended) ((kept_by old).locks) (merged_in (opens_names new) old.formation) ((kept_by old).processes) ((kept_by old).counts)
    turned refl refl refl (merged_stay old.opens new s1 turned nodes old.formation) refl refl in
    let left1 : live_in new ≡ live_of old = live_stays old.opens new s1 turned nodes refl in
    let self2 = c.finish.new.self in
    let same = c.in-Err.ensures.stays.state in
    let uses2 = ap (λ (x : Timed State). x.state.uses number) same ∙ is1 in
    let names2 = c.finish.ensures.stays.names ∙ nodes in
    let p2 : Node = name_at (names_of self2) (c.args.peer + 1) in
    let final : Opens = c.take_back_ok.new.self in
    let s2 : State = (ok_taken_back number op parts.update lock heard p2 (kept_by self2)).state in
    let back : Shows final s2 = c.take_back_ok.ensures.turned op parts.update lock heard uses2 (kept_by self2) (shows self2) in
    let kept2 : kept_by self2 ≡ s1 = ap (λ (x : Timed State). x.state) same ∙ kept1 in
    let p_is : p2 ≡ p = ap (λ (ns : List Node). name_at ns (c.args.peer + 1)) names2 in
    let undone : s2 ≡ kept_by old = (λ i. (ok_taken_back number op parts.update lock heard (p_is i) (kept2 i)).state)
    ∙ (λ i. record (kept_by old) { uses = ok_back (kept_by old).uses number op parts.update lock parts.replied p parts.is c.requires.new i }) in
    let shown : Shows final (kept_by old) = subst (Shows final) undone back in
    record {
      state =
          assembled self2.clock (kept_by old) final (kept_by self2).table (kept_by self2).ended (kept_by self2).locks (merged_in (opens_names final) self2.formation) (kept_by self2).processes (kept_by self2).counts
          shown (ap (λ (x : State). x.table) kept2) (ap (λ (x : State). x.ended) kept2) (ap (λ (x : State). x.locks) kept2)
          (merged_stay self2.opens final s2 back c.take_back_ok.ensures.nodes self2.formation ∙ ap (λ (x : State). x.merged) kept2) (ap (λ (x : State). x.processes) kept2) (ap (λ (x : State). x.counts) kept2)
          ∙ ap (λ (n : ℕ). at_time n (kept_by old)) (ap (λ (x : Timed State). x.clock) same);
      answers = c.in-Err.ensures.stays.answers;
      names = c.take_back_ok.ensures.nodes ∙ names2;
      ports = c.finish.ensures.stays.ports;
      forgotten = c.finish.ensures.stays.forgotten;
    }

pub returns-in-Ok-clause-fits : goal.returns-in-Ok-clause-fits
returns-in-Ok-clause-fits g c = subst (λ (names : List Node). AreSendable names (g.S.Outgoing.listed c.in-Ok.done.sends)) c.count_ok.ensures.nodes c.in-Ok.ensures.fits
