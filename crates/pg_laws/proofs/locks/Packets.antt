-- What a node makes of a packet.
use Rattle.std.proofs.Common.{◌≡◌, ℕ, ◌+◌, ◌*◌, ◌/◌, ◌%◌, Bool, true, false, cond, List, ◌∷◌}
use Rattle.std.proofs.Common.{Some, None, Ok, Err, refl, ap, sym, ◌∙◌, subst, arith, inl}
use Rattle.std.specs.List.{AllByRecursion}
use Rattle.std.proofs.lemmas.Nat.{div-add-mod'}
use Rattle.pg_term.specs.RefParts.{RefParts, ref_eq}
use Rattle.pg_term.specs.declared.pid.Pid.{Pid}
use Rattle.pg_term.specs.declared.term.Term.{Term}
use Rattle.pg_step.specs.PgRefs.Numbered.{numbered, number_in}
use Rattle.pg_step.specs.PgGroup.declared.update.Update.{Update}
use Rattle.pg_step.specs.PgExchange.GroupList.{GroupList}
use Rattle.pg_step.specs.PgMessageTypes.declared.message.Message.{Message}
use Rattle.pg_step.specs.PgMessageTypes.declared.message.Message.TheVariants.{Call, Reply, DelLock, Exchange, Down}
use Rattle.pg_step.specs.PgMessageTypes.declared.message.Request.TheVariants.{SetLock, Change}
use Rattle.pg_step.specs.PgMessageTypes.declared.message.Said.{Said}
use Rattle.pg_step.specs.PgMessageTypes.declared.message.Said.TheVariants.{Granted, Denied, Applied}
use Rattle.pg_step.specs.declared.command.OpId.{OpId}
use Rattle.pg_step.specs.PgMulticall.Gathered.{what_of}
use Rattle.pg_term.specs.Same.{same_atom, same_pid}
use Rattle.pg_step.specs.PgGroup.Functions.{upd}
use Rattle.pg_step.specs.PgGroup.Table.{without}
use Rattle.pg_step.specs.PgExchange.GroupList.{all_merged}
use Rattle.pg_step.specs.Nodes.{Node, Nodes}
use Rattle.pg_step.specs.State.{State, Status, Use}
use Rattle.pg_step.specs.State.Status.{Yes, No}
use Rattle.pg_step.specs.State.Use.{Fresh, Spent, Locking, Owning, Updating}
use Rattle.pg_step.specs.Turns.{NodeTurn, and_then}
use Rattle.pg_step.specs.Peers.{lock_request, update_request, lock_freed, is_bad_exchange, exchange, process_end}
use Rattle.pg_step.specs.Attempts.{count_answer, count_ok, go_on, replies_in, reply_by}
use Rattle.pg_step.specs.Attempts.{reply_taken, use_of, lock_entry, reply_under}
use Rattle.pg_step.specs.declared.refusal.Refusal.TheVariants.{NotAMessage}
use Rattle.pg_step.specs.Step.{taken}
use Rattle.pg_laws.proofs.references.References.{about, about_here, numbered_same}
use Rattle.pg_laws.proofs.locks.Lines.{talk_same}
use Rattle.pg_laws.proofs.locks.Moves.{AwaitsLock, AwaitsUpdate, granted_awaited, denied_awaited, applied_awaited}
use Rattle.pg_laws.proofs.locks.Named.{World, perform, popped}
use Rattle.pg_laws.proofs.locks.Kept.{says, live, near, near_swap, IsOurs, Inv}
use Rattle.pg_laws.proofs.locks.Telling.{remade}
use Rattle.pg_laws.proofs.locks.Seats.{Sits, seated}
use Rattle.pg_laws.proofs.steps.Single.{ok_is}
use Rattle.pg_laws.proofs.locks.Odd.{even_so, counted_even, confirmed_even}
use Rattle.pg_laws.proofs.locks.Starts.{Idle, idle_but, idle_keeps}
use Rattle.pg_laws.proofs.locks.Pops.{pop_plain}
use Rattle.pg_laws.proofs.locks.Takes.{set_keeps, del_keeps}
use Rattle.pg_laws.proofs.locks.Changes.{change_keeps}
use Rattle.pg_laws.proofs.locks.Marks.{granted_keeps, denied_keeps, replied_keeps}
use Rattle.pg_laws.proofs.locks.Chains.{chain, go_on_keeps, replies_in_keeps}

-- ---- a reference and its number

pub number_is : (a : Node) (c : ℕ) → number_in (numbered a c) ≡ c
number_is a c = let e : c / 262144 * 262144 + c % 262144 ≡ c = div-add-mod' c 262144 in omega arith

-- a node knows the use of a reference of its own
pub use_is : (a : Node) (peers : List Node) (c : ℕ) (s : State) → use_of (seated a peers) (numbered a c) s ≡ s.uses c
use_is a peers c s = ap (λ b. cond b (s.uses (number_in (numbered a c))) Spent) (ap (λ k. ref_eq (numbered a k) (numbered a c)) (number_is a c) ∙ numbered_same a c) ∙ ap s.uses (number_is a c)

-- ---- replies

-- what a node makes of a reply, where it takes it in
pub record Counts (w : World) (a : Node) (peers : List Node) (p : Node) (c : ℕ) (said : Said) (rest : List Message) (how : Use) : Type 0 where
  pub turn : NodeTurn
  pub makes : reply_under how (seated a peers) p c said (w.node a) ≡ Ok turn
  pub even : turn.reported.odd ≡ None
  pub kept : Inv (perform (popped w p a rest) a turn)

module _ (w : World) (a : Node) (peers : List Node) (sits : Sits w.nodes w.seen a peers) (la : live w a) (inv : Inv w) (p : Node) (meets : near w p a) (c : ℕ) (rest : List Message) where
  abbrev m : Nodes
  m = seated a peers

  abbrev s : State
  s = w.node a

  abbrev r : RefParts
  r = numbered a c

  -- what is on the way of the reference
  line_of : (said : Said) → w.wire p a ≡ Reply r said ∷ rest → says w (s.uses c) p r (about r (w.wire a p)) (Reply r said ∷ about r rest) (w.node p).locks
  line_of said is = talk_same (inv.lines a c p (near_swap w p a meets)) refl refl (sym (ap (about r) is ∙ about_here r (Reply r said) rest (numbered_same a c))) (λ M. refl)

  -- a counted answer, and what follows
  answer_counts : (said : Said) (v : Status) (op : OpId) (u : Update) (lead : Node) (st : Node → Status) → Inv (perform (popped w p a rest) a (count_answer c op u lead st p v s))
      → Inv (perform (popped w p a rest) a (and_then (count_answer c op u lead st p v s) (λ t. go_on m c (t.uses c) t)))
  answer_counts said v op u lead st kept = chain (popped w p a rest) a (count_answer c op u lead st p v s) (λ t. go_on m c (t.uses c) t) (record { applied = inl refl; began = inl refl; answered = inl refl }) kept
      (λ x y l h z e k i. go_on_keeps (remade (popped w p a rest) x y l h z) a peers sits la i c ((x a).uses c) refl)

  granted_counts : w.wire p a ≡ Reply r Granted ∷ rest → (how : Use) → s.uses c ≡ how → AwaitsLock how p → Counts w a peers p c Granted rest how
  granted_counts is (Locking op u lead st) e asked = record {
    turn = and_then (count_answer c op u lead st p Yes s) (λ t. go_on m c (t.uses c) t);
    makes = ap (λ v. reply_by (what_of true (lock_entry v (same_atom lead p))) true (Locking op u lead st) m p c Granted s) asked;
    even = counted_even m c op u lead st p Yes s;
    kept = answer_counts Granted Yes op u lead st (granted_keeps w a p c op u lead st rest inv meets is e);
  }
  granted_counts is Fresh e asked = absurd asked
  granted_counts is Spent e asked = absurd asked
  granted_counts is (Owning N n) e asked = absurd asked
  granted_counts is (Updating op u d rep) e asked = absurd asked

  denied_counts : w.wire p a ≡ Reply r Denied ∷ rest → (how : Use) → s.uses c ≡ how → AwaitsLock how p → Counts w a peers p c Denied rest how
  denied_counts is (Locking op u lead st) e asked = record {
    turn = and_then (count_answer c op u lead st p No s) (λ t. go_on m c (t.uses c) t);
    makes = ap (λ v. reply_by (what_of true (lock_entry v (same_atom lead p))) true (Locking op u lead st) m p c Denied s) asked;
    even = counted_even m c op u lead st p No s;
    kept = answer_counts Denied No op u lead st (denied_keeps w a p c op u lead st rest inv meets is e);
  }
  denied_counts is Fresh e asked = absurd asked
  denied_counts is Spent e asked = absurd asked
  denied_counts is (Owning N n) e asked = absurd asked
  denied_counts is (Updating op u d rep) e asked = absurd asked

  applied_counts : w.wire p a ≡ Reply r Applied ∷ rest → (how : Use) → s.uses c ≡ how → AwaitsUpdate how p → Counts w a peers p c Applied rest how
  applied_counts is (Updating op u d rep) e missing = record {
    turn = and_then (count_ok c op u d rep p s) (λ t. replies_in m c (t.uses c) t);
    makes = ap (λ b. reply_by (what_of {R = Said} true (Some (cond b (Some Applied) None))) true (Updating op u d rep) m p c Applied s) missing;
    even = confirmed_even m c op u d rep p s;
    kept = chain (popped w p a rest) a (count_ok c op u d rep p s) (λ t. replies_in m c (t.uses c) t) (record { applied = inl refl; began = inl refl; answered = inl refl })
        (replied_keeps w a p c op u d rep rest inv meets is e)
        (λ x y l h z q k i. replies_in_keeps (remade (popped w p a rest) x y l h z) a peers sits la i c ((x a).uses c) refl);
  }
  applied_counts is Fresh e missing = absurd missing
  applied_counts is Spent e missing = absurd missing
  applied_counts is (Owning N n) e missing = absurd missing
  applied_counts is (Locking op u lead st) e missing = absurd missing

  -- each reply that comes in is counted
  pub reply_counts : (said : Said) → w.wire p a ≡ Reply r said ∷ rest → Counts w a peers p c said rest (s.uses c)
  reply_counts Granted is = granted_counts is (s.uses c) refl (granted_awaited (line_of Granted is))
  reply_counts Denied is = denied_counts is (s.uses c) refl (denied_awaited (line_of Denied is))
  reply_counts Applied is = applied_counts is (s.uses c) refl (applied_awaited (line_of Applied is))

  reply_is : (said : Said) → reply_taken m p r said s ≡ reply_under (s.uses c) m p c said s
  reply_is said = λ i. reply_under (use_is a peers c s i) m p (number_is a c i) said s

  pub reply_made : (said : Said) → w.wire p a ≡ Reply r said ∷ rest
      → (t : NodeTurn) × (reply_taken m p r said s ≡ Ok t) × (t.reported.odd ≡ None) × Inv (perform (popped w p a rest) a t)
  reply_made said is = let all = reply_counts said is in (all.turn, reply_is said ∙ all.makes, all.even, all.kept)

-- ---- all packets

module _ (w : World) (a : Node) (peers : List Node) (sits : Sits w.nodes w.seen a peers) (la : live w a) (inv : Inv w) (p : Node) (meets : near w p a) (rest : List Message) where
  abbrev known : Nodes
  known = seated a peers

  abbrev own : State
  own = w.node a

  abbrev after : World
  after = popped w p a rest

  idle_exchange : (groups : GroupList) → Idle own a (exchange p groups own)
  idle_exchange groups = idle_but own a (all_merged own.table groups own.ended) own.ended (upd same_atom own.merged p true) own.processes None

  idle_process_end : (pid : Pid) → Idle own a (process_end pid own)
  idle_process_end pid = idle_but own a (without own.table pid) (upd same_pid own.ended pid true) own.merged own.processes None

  ours : (x : Message) → w.wire p a ≡ x ∷ rest → IsOurs p a x
  ours x is = (subst (AllByRecursion (IsOurs p a)) is (inv.tidy.ours p a)).0

  locks_kept : (r : RefParts) (N : Term) → IsOurs p a (Call r (SetLock N)) → w.wire p a ≡ Call r (SetLock N) ∷ rest → Inv (perform after a (lock_request known p r N own))
  locks_kept r N of_p = subst (λ r. w.wire p a ≡ Call r (SetLock N) ∷ rest → Inv (perform after a (lock_request known p r N own))) (sym of_p.1)
      (λ is. set_keeps w a p known of_p.0 N rest inv meets is)

  change_kept : (r : RefParts) (u : Update) → IsOurs p a (Call r (Change u)) → w.wire p a ≡ Call r (Change u) ∷ rest → Inv (perform after a (update_request p r u own))
  change_kept r u of_p = subst (λ r. w.wire p a ≡ Call r (Change u) ∷ rest → Inv (perform after a (update_request p r u own))) (sym of_p.1)
      (λ is. change_keeps w a p of_p.0 u rest inv la meets is)

  freed_kept : (N : Term) (r : RefParts) → IsOurs p a (DelLock N r) → w.wire p a ≡ DelLock N r ∷ rest → Inv (perform after a (lock_freed N r own))
  freed_kept N r of_p = subst (λ r. w.wire p a ≡ DelLock N r ∷ rest → Inv (perform after a (lock_freed N r own))) (sym of_p.1)
      (λ is. del_keeps w a p of_p.0 N rest inv meets is)

  pub reply_kept : (r : RefParts) (said : Said) → IsOurs p a (Reply r said) → w.wire p a ≡ Reply r said ∷ rest
      → (t : NodeTurn) × (reply_taken known p r said own ≡ Ok t) × (t.reported.odd ≡ None) × Inv (perform after a t)
  reply_kept r said of_a =
      subst (λ r. w.wire p a ≡ Reply r said ∷ rest → (t : NodeTurn) × (reply_taken known p r said own ≡ Ok t) × (t.reported.odd ≡ None) × Inv (perform after a t)) (sym of_a.1)
      (λ is. reply_made w a peers sits la inv p meets of_a.0 rest said is)

  -- a reply that comes in is taken
  pub reply_heard : (r : RefParts) (said : Said) → w.wire p a ≡ Reply r said ∷ rest → (t : NodeTurn) × (taken (seated a peers) p (Reply r said) (w.node a) ≡ Ok t)
  reply_heard r said is = let made = reply_kept r said (ours (Reply r said) is) is in (made.0, made.1)

  pub taken_keeps : (x : Message) (t : NodeTurn) → w.wire p a ≡ x ∷ rest → taken (seated a peers) p x (w.node a) ≡ Ok t → Inv (perform (popped w p a rest) a t)
  taken_keeps (Call r (SetLock N)) t is e = subst (λ z. Inv (perform after a z)) (ok_is e) (locks_kept r N (ours (Call r (SetLock N)) is) is)
  taken_keeps (Call r (Change u)) t is e = subst (λ z. Inv (perform after a z)) (ok_is e) (change_kept r u (ours (Call r (Change u)) is) is)
  taken_keeps (DelLock N r) t is e = subst (λ z. Inv (perform after a z)) (ok_is e) (freed_kept N r (ours (DelLock N r) is) is)
  taken_keeps (Reply r said) t is e =
      let made = reply_kept r said (ours (Reply r said) is) is in
      subst (λ z. Inv (perform after a z)) (ok_is (sym made.1 ∙ e)) made.3
  taken_keeps (Exchange node groups) t is e = go (is_bad_exchange p node own) e
    where
      go : (b : Bool) → cond b (Err NotAMessage) (Ok (exchange p groups own)) ≡ Ok t → Inv (perform after a t)
      go true e = absurd (cc)
      go false e = subst (λ z. Inv (perform after a z)) (ok_is e)
          (idle_keeps after a (exchange p groups own) (pop_plain w a p (Exchange node groups) rest inv is (λ r. refl) refl) (idle_exchange groups))
  taken_keeps (Down pid) t is e = subst (λ z. Inv (perform after a z)) (ok_is e)
      (idle_keeps after a (process_end pid own) (pop_plain w a p (Down pid) rest inv is (λ r. refl) refl) (idle_process_end pid))

  -- and no turn tells of an odd reply
  pub taken_even : (x : Message) (t : NodeTurn) → w.wire p a ≡ x ∷ rest → taken (seated a peers) p x (w.node a) ≡ Ok t → t.reported.odd ≡ None
  taken_even (Call r (SetLock N)) t is e = even_so {u = lock_request known p r N own} refl e
  taken_even (Call r (Change u)) t is e = even_so {u = update_request p r u own} refl e
  taken_even (DelLock N r) t is e = even_so {u = lock_freed N r own} refl e
  taken_even (Reply r said) t is e =
      let made = reply_kept r said (ours (Reply r said) is) is in
      even_so made.2 (sym made.1 ∙ e)
  taken_even (Exchange node groups) t is e = go (is_bad_exchange p node own) e
    where
      go : (b : Bool) → cond b (Err NotAMessage) (Ok (exchange p groups own)) ≡ Ok t → t.reported.odd ≡ None
      go true e = absurd (cc)
      go false e = even_so {u = exchange p groups own} refl e
  taken_even (Down pid) t is e = even_so {u = process_end pid own} refl e
