-- What a node does for a peer.
use Rattle.std.proofs.Common.{◌≡◌, ℕ, Bool, true, false, ◌&&◌, cond, List, [], ◌∷◌}
use Rattle.std.proofs.Common.{Option, Some, None, Ok, refl, ap, sym, ◌∙◌, subst}
use Rattle.pg_term.specs.declared.pid.Pid.{Pid}
use Rattle.pg_term.specs.declared.term.Term.{Term}
use Rattle.pg_term.specs.RefParts.{RefParts}
use Rattle.pg_term.specs.Same.{same_atom, same_pid, same_term}
use Rattle.pg_term.specs.contracts.term.TermEq.TheImpl.Laws.{laws-law}
use Rattle.pg_message_types.specs.PgGroup.declared.update.Update.{Update}
use Rattle.pg_message_types.specs.PgGroup.declared.update.Update.TheVariants.{Join}
use Rattle.pg_message_types.specs.PgGroup.Functions.{upd}
use Rattle.pg_message_types.specs.PgGroup.Table.{Table, applied, changed}
use Rattle.pg_message_types.specs.PgGroup.Value.{Value, apply, count_in, less}
use Rattle.pg_multicall.specs.declared.gather.Taken.TheVariants as what
use Rattle.pg_term.specs.contracts.pid.PidEq.TheImpl.Laws.{laws-law as pid_laws}
use Rattle.pg_lock.specs.Locks.{Locks, held, after_ask, given_up, is_free, is_holder}
use Rattle.pg_message_types.specs.declared.message.Message.{Message}
use Rattle.pg_message_types.specs.declared.message.Message.TheVariants.{Reply}
use Rattle.pg_message_types.specs.declared.message.Said.{Said}
use Rattle.pg_message_types.specs.declared.message.Said.TheVariants.{Applied}
use Rattle.pg_exchange.specs.GroupList.{GroupList}
use Rattle.pg_step.specs.Attempts.{is_kind, reply_by}
use Rattle.pg_step.specs.Nodes.{Node, Nodes, to_one}
use Rattle.pg_step.specs.Peers.{verdict}
use Rattle.pg_step.specs.PeersServed.{LockServed, LockFreed, UpdateServed, NewsTaken, OddReplies}
use Rattle.pg_step.specs.State.{State, Use, formed}
use Rattle.pg_step.proofs.Once.{is_same}

itself : (name : Term) → same_term name name ≡ true
itself name = laws-law.refl name

sent_one : (peer : Node) (message : Message) → to_one peer message peer ≡ message ∷ []
sent_one peer message = ap (λ b. cond b (message ∷ []) []) (is_same peer)

held_here : (locks : Locks) (name : Term) (holder : Option RefParts) → held locks name holder name ≡ holder
unfolding held
held_here locks name holder = ap (λ b. cond b holder (locks name)) (itself name)

module _ (m : Nodes) (peer : Node) (reference : RefParts) (name : Term) (s : State) where
  verdict_sent : (granted : Bool) → (formed m s && is_free (s.locks name)) ≡ granted
      → to_one peer (Reply reference (verdict (formed m s && is_free (s.locks name)))) peer ≡ Reply reference (verdict granted) ∷ []
  verdict_sent granted is = ap (λ b. to_one peer (Reply reference (verdict b)) peer) is ∙ sent_one peer (Reply reference (verdict granted))

  state_left : (granted : Bool) → (formed m s && is_free (s.locks name)) ≡ granted
      → ◌≡◌ {A = State} (record s { locks = after_ask (formed m s && is_free (s.locks name)) s.locks name reference }) (record s { locks = after_ask granted s.locks name reference })
  state_left granted is = ap (λ b. record s { locks = after_ask b s.locks name reference }) is

  pub lock_served : LockServed m peer reference name s
  lock_served = record {
    granted = λ full free.
        let grants : (formed m s && is_free (s.locks name)) ≡ true = ap (λ b. b && is_free (s.locks name)) full ∙ ap is_free free in
        (verdict_sent true grants, ap (λ (f : State). f.locks name) (state_left true grants) ∙ held_here s.locks name (Some reference));
    unformed = λ part.
        let denies : (formed m s && is_free (s.locks name)) ≡ false = ap (λ b. b && is_free (s.locks name)) part in
        (verdict_sent false denies, state_left false denies);
    taken = λ holder is.
        let denies : (formed m s && is_free (s.locks name)) ≡ false = ap (λ o. formed m s && is_free o) is ∙ never (formed m s) in
        (verdict_sent false denies, state_left false denies);
  }
    where
      never : (b : Bool) → (b && false) ≡ false
      never true = refl
      never false = refl

pub lock_freed_so : (name : Term) (reference : RefParts) (s : State) → LockFreed name reference s
lock_freed_so name reference s = record {
  freed = λ holds. ap (λ b. given_up b s.locks name name) holds ∙ held_here s.locks name None;
  kept = λ other. ap (λ b. record s { locks = given_up b s.locks name }) other;
}

joined_ended : (v : Value) (name : Term) (pid : Pid) (ended : Pid → Bool) → ended pid ≡ true → count_in (applied v (Join name pid) ended) pid ≡ count_in v pid
joined_ended v name pid ended is = ap (λ b. count_in (cond b v (apply v (Join name pid))) pid) is

pub update_served : (peer : Node) (reference : RefParts) (update : Update) (s : State) → UpdateServed peer reference update s
unfolding upd
update_served peer reference update s = record {
  applied = refl;
  reported = refl;
  answered = sent_one peer (Reply reference Applied);
  ended = λ name pid joins has.
      subst (λ u. count_in (changed s.table u s.ended name) pid ≡ count_in (s.table name) pid) (sym joins)
      (ap (λ b. count_in (cond b (applied (s.table name) (Join name pid) s.ended) (s.table name)) pid) (itself name) ∙ joined_ended (s.table name) name pid s.ended has);
}

pid_itself : (pid : Pid) → same_pid pid pid ≡ true
pid_itself pid = pid_laws.refl pid

none_left : (v : Value) (pid : Pid) → count_in (less v (same_pid pid)) pid ≡ 0
none_left None pid = refl
none_left (Some counts) pid = ap (λ b. cond b 0 (counts pid)) (pid_itself pid)

pub news_taken : (peer : Node) (groups : GroupList) (pid : Pid) (s : State) → NewsTaken peer groups pid s
unfolding upd
news_taken peer groups pid s = record {
  merged = refl;
  counted = ap (λ b. cond b true (s.merged peer)) (is_same peer);
  ended = ap (λ b. cond b true (s.ended pid)) (pid_itself pid);
  gone = λ name. none_left (s.table name) pid;
}

pub odd_replies : (used : Use) (m : Nodes) (peer : Node) (number : ℕ) (said : Said) (s : State) → OddReplies used m peer number said s
odd_replies used m peer number said s = record {
  stranger = λ is. ap (λ what. reply_by what (is_kind used said) used m peer number said s) is;
  double = λ is kind.
      ap (λ what. reply_by what (is_kind used said) used m peer number said s) is
      ∙ ap (λ b. reply_by what.Double b used m peer number said s) kind;
}
