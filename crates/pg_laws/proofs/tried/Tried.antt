-- What the laws need of single turns, of the turns of Copies.antt.
use Rattle.std.proofs.Common.{◌≡◌, ℕ, Bool, true, false, cond, length, List, [], ◌∷◌}
use Rattle.std.proofs.Common.{Option, Some, None, refl, ap, ◌∙◌, inl, inr, arith}
use Rattle.std.specs.Prelude.{max}
use Rattle.std.specs.List.{IsDistinct}
use Rattle.std.proofs.Math.Path.{fun_ext}
use Rattle.pg_term.specs.declared.pid.Pid.{Pid}
use Rattle.pg_term.specs.declared.term.Term.{Term}
use Rattle.pg_term.specs.RefParts.{RefParts}
use Rattle.pg_term.specs.Same.{same_atom, same_term}
use Rattle.pg_step.specs.PgRefs.Numbered.{numbered}
use Rattle.pg_step.specs.PgGroup.declared.update.Update.{Update}
use Rattle.pg_step.specs.PgGroup.Functions.{upd}
use Rattle.pg_step.specs.PgGroup.Value.{Counts, Value, less, listed, merge}
use Rattle.pg_step.specs.PgGroup.Table.{Table, merged}
use Rattle.pg_step.specs.PgLock.Attempts.{after_round, does_wait}
use Rattle.pg_step.specs.PgLock.Locks.{Locks, after_ask, given_up, held, is_holder}
use Rattle.pg_step.specs.PgExchange.GroupList.{GroupList, all_merged}
use Rattle.pg_step.specs.PgMessageTypes.declared.message.Message.{Message}
use Rattle.pg_step.specs.PgMessageTypes.declared.message.Message.TheVariants.{Call}
use Rattle.pg_step.specs.PgMessageTypes.declared.message.Request.TheVariants.{SetLock}
use Rattle.pg_step.specs.declared.command.OpId.{OpId}
use Rattle.pg_step.specs.Machines.Places.{is_pair}
use Rattle.pg_step.specs.Nodes.{Node, Nodes}
use Rattle.pg_step.specs.State.{State, Status, formed}
use Rattle.pg_step.specs.State.Status.{Yes}
use Rattle.pg_step.specs.State.Use.{Locking, Updating}
use Rattle.pg_step.specs.State.Stage.{Waiting}
use Rattle.pg_step.specs.Turns.{NodeTurn, becomes, and_then}
use Rattle.pg_step.specs.Attempts.{own_reference, is_yes, none_denied, none_missing, round_of}
use Rattle.pg_step.specs.Attempts.{ask, begin, finish, give_up, replies_in, locks_in}
use Rattle.pg_step.specs.Config.{Config, names_of, name_at, groups_at}
use Rattle.pg_laws.specs.ReferencesFit.{ReferencesFit}
use Rattle.pg_laws.proofs.locks.Named.{World, perform, popped}
use Rattle.pg_laws.proofs.locks.Kept.{Inv, live, near}
use Rattle.pg_laws.proofs.locks.Telling.{remade}
use Rattle.pg_laws.proofs.locks.Seats.{Sits, seated, every_near}
use Rattle.pg_laws.proofs.locks.Fails.{yes_is}
use Rattle.pg_laws.proofs.locks.Begins.{begin_keeps}
use Rattle.pg_laws.proofs.locks.Finishes.{finish_keeps}
use Rattle.pg_laws.proofs.locks.Chains.{chain, still_keeps, fails, replies_applied, replies_began, replies_in_keeps}
use Rattle.pg_laws.proofs.locks.Takes.{lend, lend_keeps}
use Rattle.pg_laws.proofs.places.Unlocked.{NoneHeld, Unlocked}
use Rattle.pg_laws.proofs.tables.Living.{Lives, changed_living}
use Rattle.pg_laws.proofs.tables.Applied.{Tables, Applying}
use Rattle.pg_laws.proofs.tables.Tabled.{TableIs, exchange_step}
use Rattle.pg_laws.proofs.references.FittingTurns.{attempted_at, begun_at}
use Rattle.pg_laws.proofs.references.Keys.{atoms, terms, upd_same}
use Rattle.pg_laws.proofs.references.References.{references}
use Rattle.pg_laws.proofs.quiet.Weights.{Made, Pays, gives_up_pay, round_goes_pay, stays}
use Rattle.pg_laws.proofs.quiet.Gathering.{Settled, Unsettled, asked_settled, given_up_settled, missing_settled}
use Rattle.pg_laws.proofs.tried.Copies.{copied_grants, copied_would_grant, copied_lock_request}
use Rattle.pg_laws.proofs.tried.Copies.{copied_update_request, copied_greater, copied_merge}
use Rattle.pg_laws.proofs.tried.Copies.{copied_all_merged, copied_exchange, copied_new_attempt, copied_begin}
use Rattle.pg_laws.proofs.tried.Copies.{copied_all_replied, copied_replies_in, copied_all_granted}
use Rattle.pg_laws.proofs.tried.Copies.{copied_locks_in, copied_lock_freed, copied_denied_round, copied_go_on}

-- ---- a lock is asked for

-- what is granted was free
granted_free : (full : Bool) (holder : Option RefParts) (name : Term) → copied_grants full (λ n. holder) name ≡ true → holder ≡ None
granted_free full None name e = refl
granted_free true (Some r) name e = absurd (cc)
granted_free false (Some r) name e = absurd (cc)

-- and an unformed node grants nothing
unformed_denies : (holder : Option RefParts) (name : Term) → copied_grants false (λ n. holder) name ≡ false
unformed_denies None name = refl
unformed_denies (Some r) name = refl

-- a formed node grants what is free
pub free_granted : (m : Nodes) (s : State) (name : Term) → formed m s ≡ true → s.locks name ≡ None → copied_would_grant m s name ≡ true
free_granted m s name full free = λ i. copied_grants (full i) (λ n. free i) name

-- so the lock protocol goes on
pub request_keeps : (w : World) (a p : Node) (m : Nodes) (c : ℕ) (N : Term) (rest : List Message) → Inv w → near w p a → w.wire p a ≡ Call (numbered p c) (SetLock N) ∷ rest
    → Inv (perform (popped w p a rest) a (copied_lock_request m p (numbered p c) N (w.node a)))
unfolding lend
request_keeps w a p m c N rest = lend_keeps w a p (copied_would_grant m (w.node a) N) c N rest (granted_free (formed m (w.node a)) ((w.node a).locks N) N)

denied_none : (b : Bool) (locks : Locks) (name : Term) (r : RefParts) → b ≡ false → NoneHeld locks → NoneHeld (after_ask b locks name r)
denied_none false locks name r e none = none
denied_none true locks name r e none = absurd (cc)

-- and an unformed node holds no lock
pub request_unlocked : (m : Nodes) (p : Node) (r : RefParts) (name : Term) (s : State) → Unlocked m s → Unlocked m ((copied_lock_request m p r name s).state)
request_unlocked m p r name s free unformed = denied_none (copied_would_grant m s name) s.locks name r
    (ap (λ b. copied_grants b s.locks name) unformed ∙ unformed_denies (s.locks name) name) (free unformed)

-- a lock that its holder gives back is free
pub freed_free : (name : Term) (r : RefParts) (s : State) → s.locks name ≡ Some r → (copied_lock_freed name r s).state.locks name ≡ None
unfolding held
freed_free name r s is = ap (λ o. given_up (is_holder o r) s.locks name name) is ∙ ap (λ b. given_up b s.locks name name) (references.refl r) ∙ ap (λ b. cond b None (s.locks name)) (terms.refl name)

-- ---- an update is told

-- what is answered was applied, and the table is changed by it
pub update_applied : (p : Node) (r : RefParts) (u : Update) (s : State) → (copied_update_request p r u s).reported.applied ≡ Some u
update_applied p r u s = refl

pub update_tabled : (p : Node) (r : RefParts) (u : Update) (s : State) → Tables s (copied_update_request p r u s)
update_tabled p r u s = Applying refl refl refl

-- who has ended is in no group
pub update_lives : (p : Node) (r : RefParts) (u : Update) (s : State) → Lives s → Lives ((copied_update_request p r u s).state)
update_lives p r u s = changed_living s.table s.ended u

pub begin_lives : (m : Nodes) (c : ℕ) (op : OpId) (u : Update) (s : State) → Lives s → Lives ((copied_begin m c op u s).state)
begin_lives m c op u s = changed_living s.table s.ended u

-- ---- an exchange

greatest_count : (f g : Counts) (pid : Pid) → copied_greater f g pid ≡ max (f pid) (g pid)
greatest_count f g pid = omega arith

merges : (v x : Value) → copied_merge v x ≡ merge v x
merges None x = refl
merges (Some f) None = refl
merges (Some f) (Some g) = ap Some (fun_ext (greatest_count f g))

merges_all : (table : Table) (groups : GroupList) (ended : Pid → Bool) → copied_all_merged table groups ended ≡ all_merged table groups ended
merges_all table [] ended = refl
merges_all table (group ∷ groups) ended =
    ap (λ v. copied_all_merged (upd same_term table group.0 v) groups ended) (merges (table group.0) (less (listed group.1) ended))
    ∙ merges_all (merged table group.0 group.1 ended) groups ended

-- a group is what the node knows, less the ends it took
pub exchange_tabled : (config : Config) → IsDistinct same_atom (names_of config) → (i p : ℕ) → is_pair (length config) i p ≡ true → (s : State) → s.merged (name_at config p) ≡ false → (name : Term)
    → TableIs config i name s [] → TableIs config i name ((copied_exchange (name_at config p) (groups_at config p) s).state) []
exchange_tabled config apart i p pair s new name is =
    ap (λ (f : Table). f name) (merges_all s.table (groups_at config p) s.ended) ∙ exchange_step config apart i p pair s new name is

-- and its node is noted, so that a node to which none is on the way is formed
pub exchange_noted : (p : Node) (groups : GroupList) (s : State) → ((copied_exchange p groups s).state).merged p ≡ true
exchange_noted p groups s = upd_same same_atom atoms s.merged p true

-- ---- an attempt

-- a reference is new
pub attempt_fitting : (m : Nodes) (s : State) → ReferencesFit s → (lead : Node) (op : OpId) (u : Update) → s.stages op ≡ Waiting u → ReferencesFit ((copied_new_attempt lead op u s).state)
attempt_fitting m s fitting = attempted_at s fitting _ _ (omega arith) (omega arith)

pub begin_fitting : (m : Nodes) (s : State) → ReferencesFit s → (c : ℕ) (op : OpId) (u : Update) (lead : Node) (st : Node → Status) → s.uses c ≡ Locking op u lead st → ReferencesFit ((copied_begin m c op u s).state)
begin_fitting m s fitting c op u = begun_at s fitting m _ _ _ (omega arith) (omega arith) c op u

module _ (w : World) (a : Node) (peers : List Node) (sits : Sits w.nodes w.seen a peers) (la : live w a) (inv : Inv w) where
  abbrev m : Nodes
  m = seated a peers

  abbrev s : State
  s = w.node a

  -- where all have replied, each has that is near
  all_replied : (replied : Node → Bool) → copied_all_replied m replied ≡ true → (p : Node) → near w a p → replied p ≡ true
  all_replied replied e = every_near w.nodes w.seen a peers sits replied e

  -- so a command ends where all have replied
  pub replies_keep : (n : ℕ) (op : OpId) (u : Update) (c : ℕ) (replied : Node → Bool) → s.uses n ≡ Updating op u c replied
      → Inv (perform w a (copied_replies_in (seated a peers) n (Updating op u c replied) (w.node a)))
  replies_keep n op u c replied is = go (copied_all_replied m replied) (all_replied replied)
    where
      go : (b : Bool) → (b ≡ true → (p : Node) → near w a p → replied p ≡ true) → Inv (perform w a (cond b (finish m n op u c s) (becomes s)))
      go false all = still_keeps w a inv
      go true all = finish_keeps w a peers sits n op u c replied la is (all refl) inv

  all_yes : (st : Node → Status) → copied_all_granted m st ≡ true → (p : Node) → near w a p → st p ≡ Yes
  all_yes st e p d = yes_is (st p) (every_near w.nodes w.seen a peers sits (λ q. is_yes (st q)) e p d)

  -- and an update begins where all have granted
  pub locks_keep : (c : ℕ) (op : OpId) (u : Update) (lead : Node) (st : Node → Status) → s.uses c ≡ Locking op u lead st
      → Inv (perform w a (copied_locks_in (seated a peers) c (Locking op u lead st) (w.node a)))
  locks_keep c op u lead st is = go (copied_all_granted m st) (all_yes st)
    where
      more : State → NodeTurn
      more = λ t. replies_in m t.references (t.uses t.references) t

      go : (b : Bool) → (b ≡ true → (p : Node) → near w a p → st p ≡ Yes)
          → Inv (perform w a (cond b (and_then (begin m c op u s) more) (cond (none_missing m st) (give_up m c op u st s) (becomes s))))
      go true all = chain w a (begin m c op u s) more
          (let t = (begin m c op u s).state in
          record { applied = inr (replies_applied m t.references t (t.uses t.references)); began = inr (replies_began m t.references t (t.uses t.references)); answered = inl refl })
          (begin_keeps w a peers sits c op u lead st la is (all refl) inv)
          (λ x y l h z d k i. replies_in_keeps (remade w x y l h z) a peers sits la i (x a).references ((x a).uses (x a).references) refl)
      go false all = fails w a peers sits la inv c op u lead st is (none_missing m st) refl

-- ---- a round

-- where one has denied no reference has all that it gathers any more
denied_settled : (m : Nodes) (P : RefParts → Type 0) → ((c : ℕ) → P (own_reference m c)) → (c : ℕ) (op : OpId) (u : Update) (st : Node → Status) (s : State) → Unsettled m P c s
    → Settled m P ((copied_denied_round m c op u st s).state)
denied_settled m P own c op u st s before = given_up_settled m P own c op u st s before

-- so it is whatever a round leads to
pub round_settled : (m : Nodes) (P : RefParts → Type 0) → ((c : ℕ) → P (own_reference m c)) → (c : ℕ) (op : OpId) (u : Update) (lead : Node) (st : Node → Status) (s : State) → s.uses c ≡ Locking op u lead st
    → Unsettled m P c s → Settled m P ((copied_go_on m c (Locking op u lead st) s).state)
round_settled m P own c op u lead st s is before = go (none_missing m st) (does_wait (after_round (round_of lead st) (none_denied m st))) refl
  where
    go : (b d : Bool) → none_missing m st ≡ b
        → Settled m P ((cond b (cond d (copied_denied_round m c op u st s) (and_then (ask m (λ q. true) c op u lead st s) (λ t. locks_in m c (t.uses c) t))) (becomes s)).state)
    go true true _ = denied_settled m P own c op u st s before
    go true false _ = asked_settled m P own c op u lead st s before
    go false d some = missing_settled m P own c op u lead st s is some before

-- and what follows a denial is no more than what the reference led to before, so that takes alone come to an end
denied_pays : (m : Nodes) (n : ℕ) (name : ℕ → Node) (c : ℕ) (op : OpId) (u : Update) (lead : Node) (st : Node → Status) (s : State) → s.uses c ≡ Locking op u lead st → Made m n name s
    → Pays m n name s (copied_denied_round m c op u st s)
denied_pays m n name c op u lead st s is made = gives_up_pay m n name s c op u lead st made is

pub round_pays : (m : Nodes) (n : ℕ) (name : ℕ → Node) (c : ℕ) (op : OpId) (u : Update) (lead : Node) (st : Node → Status) (s : State) → s.uses c ≡ Locking op u lead st → Made m n name s
    → Pays m n name s (copied_go_on m c (Locking op u lead st) s)
round_pays m n name c op u lead st s is made = go (none_missing m st) (does_wait (after_round (round_of lead st) (none_denied m st)))
  where
    go : (b d : Bool) → Pays m n name s (cond b (cond d (copied_denied_round m c op u st s) (and_then (ask m (λ q. true) c op u lead st s) (λ t. locks_in m c (t.uses c) t))) (becomes s))
    go true true = denied_pays m n name c op u lead st s is made
    go true false = round_goes_pay m n name s c op u lead st made is
    go false d = stays m n name s made
