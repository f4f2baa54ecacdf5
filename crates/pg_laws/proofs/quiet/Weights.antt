-- How many packets are still taken, at most, where no command comes in and none is tried again: those on the way, with the replies
-- to them, and those that references still lead to. No turn that follows a packet adds to that.
use Rattle.std.proofs.Common.{◌≡◌, ◌⊎◌, inl, inr, ℕ, ◌+◌, ◌*◌, ◌<◌, ◌≤◌, Bool, true, false, ◌&&◌, ◌||◌}
use Rattle.std.proofs.Common.{cond, nat_eq, List, [], ◌∷◌, ◌++◌, Ok, Err, refl, ap, sym, ◌∙◌, subst, arith}
use Rattle.std.proofs.lemmas.Bool.{cases_lt}
use Rattle.pg_term.specs.RefParts.{RefParts, ref_eq}
use Rattle.pg_term.specs.Same.{same_atom}
use Rattle.pg_step.specs.PgGroup.declared.update.Update.{Update}
use Rattle.pg_step.specs.PgGroup.Functions.{upd}
use Rattle.pg_step.specs.PgGroup.Value.{name_of}
use Rattle.pg_step.specs.PgRefs.Numbered.{number_in}
use Rattle.pg_step.specs.PgLock.Attempts.{after_round, does_wait}
use Rattle.pg_step.specs.PgMessageTypes.declared.message.Message.{Message}
use Rattle.pg_step.specs.PgMessageTypes.declared.message.Message.TheVariants.{Call, Reply, DelLock, Exchange, Down}
use Rattle.pg_step.specs.PgMessageTypes.declared.message.Request.TheVariants.{SetLock, Change}
use Rattle.pg_step.specs.PgMessageTypes.declared.message.Said.{Said}
use Rattle.pg_step.specs.PgMessageTypes.declared.message.Said.TheVariants.{Granted, Denied, Applied}
use Rattle.pg_step.specs.PgMulticall.Gathered.{what_of}
use Rattle.pg_step.specs.PgMulticall.declared.gather.Taken.TheVariants as what
use Rattle.pg_step.specs.declared.command.OpId.{OpId}
use Rattle.pg_step.specs.declared.refusal.Refusal.TheVariants.{NotAMessage}
use Rattle.pg_step.specs.Nodes.{Node, Nodes, every, is_peer, to_one, to_peers}
use Rattle.pg_step.specs.State.{State, Status, Use}
use Rattle.pg_step.specs.State.Status.{Unasked, Asked, Yes, No}
use Rattle.pg_step.specs.State.Use.{Fresh, Locking, Owning, Updating, Spent}
use Rattle.pg_step.specs.Turns.{NodeTurn, becomes, and_then}
use Rattle.pg_step.specs.Peers.{would_grant, verdict, is_bad_exchange, exchange}
use Rattle.pg_step.specs.Attempts.{own_reference, is_unasked, is_yes, asks, own_verdict, with_asked}
use Rattle.pg_step.specs.Attempts.{round_of, all_granted, none_missing, none_denied, ask, give_up}
use Rattle.pg_step.specs.Attempts.{begin, finish, count_answer, count_ok, replies_in, locks_in}
use Rattle.pg_step.specs.Attempts.{go_on, use_of, gathered, lock_status, counted, strange}
use Rattle.pg_step.specs.Step.{taken}
use Rattle.pg_laws.proofs.quiet.Rest.{IsAtRest}
use Rattle.pg_laws.proofs.quiet.Sums.{total, total_add, total_all, total_change, total_le, total_more, total_same}
use Rattle.pg_laws.proofs.references.Keys.{atoms, numbers, at_upd, upd_same, upd_other}
use Rattle.pg_laws.proofs.steps.Single.{Makes, ok_is, judged, none_counted}

-- ---- packets

-- a call brings a reply
abbrev pub packet_weight : Message → ℕ
packet_weight (Call reference request) = 2
packet_weight packet = 1

abbrev pub weigh : List Message → ℕ
weigh [] = 0
weigh (x ∷ xs) = packet_weight x + weigh xs

pub weigh_append : (xs ys : List Message) → weigh (xs ++ ys) ≡ weigh xs + weigh ys
weigh_append [] ys = omega arith
weigh_append (x ∷ xs) ys = let rest : weigh (xs ++ ys) ≡ weigh xs + weigh ys = weigh_append xs ys in omega (arith, rest)

one_sent : (a b : Bool) (x : Message) → weigh (cond (a && b) (x ∷ []) []) ≡ cond a (cond b (packet_weight x) 0) 0
one_sent true true x = let one : weigh (x ∷ []) ≡ packet_weight x = omega arith in one
one_sent true false x = refl
one_sent false b x = refl

-- ---- references

-- the packets that a peer still leads to, of whom this has come: the call for the lock and its reply, the update and its ok, and
-- that the lock is freed
abbrev pub status_weight : Status → ℕ
status_weight Unasked = 5
status_weight status = 3

three_left : (v : Status) → 3 ≤ status_weight v
three_left Unasked = omega arith
three_left Asked = omega arith
three_left Yes = omega arith
three_left No = omega arith

-- who was asked has the least
least : (v w : Status) → is_unasked v ≡ false → status_weight v ≤ status_weight w
least Unasked w e = absurd (cc)
least Asked w e = three_left w
least Yes w e = three_left w
least No w e = three_left w

-- who is asked leads to two packets less, which are the call and its reply
asked_weight : (who own free : Bool) (v : Status) → cond (who && is_unasked v) 2 0 + status_weight (cond (who && is_unasked v) (cond own (own_verdict free) Asked) v) ≤ status_weight v
asked_weight true true true Unasked = omega arith
asked_weight true true false Unasked = omega arith
asked_weight true false free Unasked = omega arith
asked_weight false own free Unasked = omega arith
asked_weight true own free Asked = omega arith
asked_weight false own free Asked = omega arith
asked_weight true own free Yes = omega arith
asked_weight false own free Yes = omega arith
asked_weight true own free No = omega arith
asked_weight false own free No = omega arith

freed_weight : (v : Status) → cond (is_yes v) 1 0 ≤ status_weight v
freed_weight Unasked = omega arith
freed_weight Asked = omega arith
freed_weight Yes = omega arith
freed_weight No = omega arith

status_known : (said : Said) → is_unasked (lock_status said) ≡ false
status_known Granted = refl
status_known Denied = refl
status_known Applied = refl

right : (a b : Bool) → b ≡ true → (a || b) ≡ true
right true b e = refl
right false b e = e

-- ---- a node, among so many places with these names

module _ (m : Nodes) (n : ℕ) (name : ℕ → Node) where
  pub peers_total : (Node → ℕ) → ℕ
  peers_total f = total n (λ y. cond (is_peer m (name y)) (f (name y)) 0)

  -- what a reference still leads to
  abbrev pub use_weight : Use → ℕ
  use_weight (Locking op u lead st) = peers_total (λ q. status_weight (st q))
  use_weight (Updating op u c replied) = peers_total (λ q. 1)
  use_weight used = 0

  abbrev pub uses_weight : ℕ → (ℕ → Use) → ℕ
  uses_weight k uses = total k (λ c. use_weight (uses c))

  abbrev pub node_weight : State → ℕ
  node_weight s = uses_weight (s.references + 1) s.uses

  abbrev pub sent_weight : NodeTurn → ℕ
  sent_weight t = total n (λ y. weigh (t.sends (name y)))

  peers_le : (f g : Node → ℕ) → ((q : Node) → is_peer m q ≡ true → f q ≤ g q) → peers_total f ≤ peers_total g
  unfolding peers_total
  peers_le f g le = total_le n (λ y. cond (is_peer m (name y)) (f (name y)) 0) (λ y. cond (is_peer m (name y)) (g (name y)) 0) (λ y _. go (name y) (is_peer m (name y)) (le (name y)))
    where
      go : (q : Node) (b : Bool) → (b ≡ true → f q ≤ g q) → cond b (f q) 0 ≤ cond b (g q) 0
      go q true here = here refl
      go q false here = omega arith

  pub peers_at_most : (f : Node → ℕ) (k : ℕ) → total n (λ y. cond (is_peer m (name y)) (f (name y)) 0) ≤ k → peers_total f ≤ k
  unfolding peers_total
  peers_at_most f k few = few

  peers_add : (f g : Node → ℕ) → peers_total (λ q. f q + g q) ≡ peers_total f + peers_total g
  unfolding peers_total
  peers_add f g = total_same n (λ y. cond (is_peer m (name y)) (f (name y) + g (name y)) 0) (λ y. cond (is_peer m (name y)) (f (name y)) 0 + cond (is_peer m (name y)) (g (name y)) 0)
      (λ y _. go (name y) (is_peer m (name y)))
      ∙ total_add n (λ y. cond (is_peer m (name y)) (f (name y)) 0) (λ y. cond (is_peer m (name y)) (g (name y)) 0)
    where
      go : (q : Node) (b : Bool) → cond b (f q + g q) 0 ≡ cond b (f q) 0 + cond b (g q) 0
      go q true = refl
      go q false = refl

  -- what goes to each peer that passes a test
  peers_sent : (test : Node → Bool) (x : Message) → total n (λ y. weigh (to_peers m test x (name y))) ≡ peers_total (λ q. cond (test q) (packet_weight x) 0)
  unfolding peers_total
  peers_sent test x = total_same n (λ y. weigh (to_peers m test x (name y))) (λ y. cond (is_peer m (name y)) (cond (test (name y)) (packet_weight x) 0) 0) (λ y _. one_sent (is_peer m (name y)) (test (name y)) x)

  none_sent : total n (λ y. weigh []) ≡ 0
  none_sent = let all : total n (λ y. weigh []) ≡ 0 * n = total_all n 0 (λ y. weigh []) (λ y _. refl) in omega (arith, all)

  -- ---- uses

  -- no reference that is not made yet leads to anything
  abbrev pub Made : State → Type 0
  Made s = (c : ℕ) → s.references < c → IsAtRest (s.uses c)

  is_made : (s : State) → Made s → (c : ℕ) (used : Use) → s.uses c ≡ used → (IsAtRest used → ⊥) → c < s.references + 1
  is_made s made c used is other = go (cases_lt s.references c)
    where
      go : (s.references < c) ⊎ (c ≤ s.references) → c < s.references + 1
      go (inl above) = absurd (other (subst IsAtRest is (made c above)))
      go (inr within) = omega (arith, within)

  -- a use that changes
  put_weight : (k : ℕ) (uses : ℕ → Use) (c : ℕ) (old new : Use) → uses c ≡ old → c < k → uses_weight k (upd nat_eq uses c new) + use_weight old ≡ uses_weight k uses + use_weight new
  put_weight k uses c old new is below =
      let now : use_weight (upd nat_eq uses c new c) ≡ use_weight new = ap use_weight (upd_same nat_eq numbers uses c new) in
      let was : use_weight (uses c) ≡ use_weight old = ap use_weight is in
      total_change k c (λ d. use_weight (uses d)) (λ d. use_weight (upd nat_eq uses c new d)) (use_weight new) (use_weight old) below (omega (arith, now, was))
      (λ d _ other. ap use_weight (upd_other nat_eq numbers uses c new d (λ e. other (sym e))))

  made_put : (s : State) → Made s → (c : ℕ) (new : Use) → c < s.references + 1 → (d : ℕ) → s.references < d → IsAtRest (upd nat_eq s.uses c new d)
  made_put s made c new below d above = subst IsAtRest (sym (upd_other nat_eq numbers s.uses c new d (λ e. absurd (omega (arith, below, above, e))))) (made d above)

  -- ---- turns

  -- a turn sends no more than its references lead to no longer
  pub record Pays (s : State) (t : NodeTurn) : Type 0 where
    pub made : Made t.state
    pub pays : sent_weight t + node_weight t.state ≤ node_weight s

  pays_then : (s : State) (t : NodeTurn) (next : State → NodeTurn) → Pays s t → Pays t.state (next t.state) → Pays s (and_then t next)
  pays_then s t next first last = record {
    made = last.made;
    pays =
        let both : total n (λ y. weigh (t.sends (name y) ++ (next t.state).sends (name y))) ≡ sent_weight t + sent_weight (next t.state) =
        total_same n (λ y. weigh (t.sends (name y) ++ (next t.state).sends (name y))) (λ y. weigh (t.sends (name y)) + weigh ((next t.state).sends (name y))) (λ y _. weigh_append (t.sends (name y)) ((next t.state).sends (name y)))
        ∙ total_add n (λ y. weigh (t.sends (name y))) (λ y. weigh ((next t.state).sends (name y))) in
        let one : sent_weight t + node_weight t.state ≤ node_weight s = first.pays in
        let two : sent_weight (next t.state) + node_weight (next t.state).state ≤ node_weight t.state = last.pays in
        omega (arith, both, one, two);
  }

  pub stays : (s : State) → Made s → Pays s (becomes s)
  stays s made = record { made = made; pays = omega (arith, none_sent) }

  -- one use changes, and what is sent and the new use weigh no more than the old one
  one_pays : (s : State) (t : NodeTurn) (c : ℕ) (old new : Use) → Made s → s.uses c ≡ old → (IsAtRest old → ⊥) → t.state.references ≡ s.references → t.state.uses ≡ upd nat_eq s.uses c new
      → sent_weight t + use_weight new ≤ use_weight old → Pays s t
  one_pays s t c old new made is other references uses light =
      let below = is_made s made c old is other in
      let change : uses_weight (s.references + 1) (upd nat_eq s.uses c new) + use_weight old ≡ node_weight s + use_weight new = put_weight (s.references + 1) s.uses c old new is below in
      let same : node_weight t.state ≡ uses_weight (s.references + 1) (upd nat_eq s.uses c new) = λ i. uses_weight (references i + 1) (uses i) in
      record {
        made = λ d above. subst (λ (f : ℕ → Use). IsAtRest (f d)) (sym uses) (made_put s made c new below d (subst (λ k. k < d) references above));
        pays = omega (arith, change, same, light);
      }

  -- those that were not asked are asked
  asks_pay : (s : State) (who : Node → Bool) (c : ℕ) (op : OpId) (u : Update) (lead : Node) (st : Node → Status) → Made s → s.uses c ≡ Locking op u lead st → Pays s (ask m who c op u lead st s)
  asks_pay s who c op u lead st made is = one_pays s (ask m who c op u lead st s) c (Locking op u lead st) (Locking op u lead later) made is (λ e. e) refl refl light
    where
      free : Bool
      free = would_grant m s (name_of u)

      later : Node → Status
      later = with_asked m who st free

      of_peer : (q : Node) → is_peer m q ≡ true → cond (asks who st q) 2 0 + status_weight (later q) ≤ status_weight (st q)
      of_peer q there = subst (λ b. cond (asks who st q) 2 0 + status_weight (cond (b && asks who st q) (cond (same_atom m.own q) (own_verdict free) Asked) (st q)) ≤ status_weight (st q))
          (sym (right (same_atom q m.own) (is_peer m q) there)) (asked_weight (who q) (same_atom m.own q) free (st q))

      light : sent_weight (ask m who c op u lead st s) + peers_total (λ q. status_weight (later q)) ≤ peers_total (λ q. status_weight (st q))
      light =
          let sent : sent_weight (ask m who c op u lead st s) ≡ peers_total (λ q. cond (asks who st q) 2 0) = peers_sent (asks who st) (Call (own_reference m c) (SetLock (name_of u))) in
          let both : peers_total (λ q. cond (asks who st q) 2 0 + status_weight (later q)) ≡ peers_total (λ q. cond (asks who st q) 2 0) + peers_total (λ q. status_weight (later q)) =
          peers_add (λ q. cond (asks who st q) 2 0) (λ q. status_weight (later q)) in
          let less : peers_total (λ q. cond (asks who st q) 2 0 + status_weight (later q)) ≤ peers_total (λ q. status_weight (st q)) =
          peers_le (λ q. cond (asks who st q) 2 0 + status_weight (later q)) (λ q. status_weight (st q)) of_peer in
          omega (arith, sent, both, less)

  pub gives_up_pay : (s : State) (c : ℕ) (op : OpId) (u : Update) (lead : Node) (st : Node → Status) → Made s → s.uses c ≡ Locking op u lead st → Pays s (give_up m c op u st s)
  gives_up_pay s c op u lead st made is = one_pays s (give_up m c op u st s) c (Locking op u lead st) Spent made is (λ e. e) refl refl light
    where
      light : sent_weight (give_up m c op u st s) + 0 ≤ peers_total (λ q. status_weight (st q))
      light =
          let sent : sent_weight (give_up m c op u st s) ≡ peers_total (λ q. cond (is_yes (st q)) 1 0) = peers_sent (λ q. is_yes (st q)) (DelLock (name_of u) (own_reference m c)) in
          let less : peers_total (λ q. cond (is_yes (st q)) 1 0) ≤ peers_total (λ q. status_weight (st q)) = peers_le (λ q. cond (is_yes (st q)) 1 0) (λ q. status_weight (st q)) (λ q _. freed_weight (st q)) in
          omega (arith, sent, less)

  begins_pay : (s : State) (c : ℕ) (op : OpId) (u : Update) (lead : Node) (st : Node → Status) → Made s → s.uses c ≡ Locking op u lead st → Pays s (begin m c op u s)
  begins_pay s c op u lead st made is = record { made = made_later; pays = pays }
    where
      k : ℕ
      k = s.references + 1

      t : NodeTurn
      t = begin m c op u s

      between : ℕ → Use
      between = upd nat_eq s.uses c (Owning (name_of u) k)

      new : Use
      new = Updating op u c (same_atom m.own)

      below : c < k
      below = is_made s made c (Locking op u lead st) is (λ e. e)

      made_later : (d : ℕ) → s.references + 1 < d → IsAtRest (upd nat_eq between k new d)
      made_later d above = subst IsAtRest (sym (upd_other nat_eq numbers between k new d (λ e. absurd (omega (arith, above, e))))) (made_put s made c (Owning (name_of u) k) below d (omega (arith, above)))

      pays : sent_weight t + uses_weight (k + 1) (upd nat_eq between k new) ≤ node_weight s
      pays =
          let last : uses_weight (k + 1) (upd nat_eq between k new) ≡ use_weight (upd nat_eq between k new k) + uses_weight k (upd nat_eq between k new) = total_more k (λ d. use_weight (upd nat_eq between k new d)) in
          let here : use_weight (upd nat_eq between k new k) ≡ peers_total (λ q. 1) = ap use_weight (upd_same nat_eq numbers between k new) in
          let rest : uses_weight k (upd nat_eq between k new) ≡ uses_weight k between =
          total_same k (λ d. use_weight (upd nat_eq between k new d)) (λ d. use_weight (between d)) (λ d low. ap use_weight (upd_other nat_eq numbers between k new d (λ e. absurd (omega (arith, low, e))))) in
          let change : uses_weight k between + peers_total (λ q. status_weight (st q)) ≡ node_weight s + 0 = put_weight k s.uses c (Locking op u lead st) (Owning (name_of u) k) is below in
          let sent : sent_weight t ≡ peers_total (λ q. 2) = peers_sent (λ q. true) (Call (own_reference m k) (Change u)) in
          let both : peers_total (λ q. 2 + 1) ≡ peers_total (λ q. 2) + peers_total (λ q. 1) = peers_add (λ q. 2) (λ q. 1) in
          let less : peers_total (λ q. 2 + 1) ≤ peers_total (λ q. status_weight (st q)) = peers_le (λ q. 2 + 1) (λ q. status_weight (st q)) (λ q _. three_left (st q)) in
          omega (arith, last, here, rest, change, sent, both, less)

  ends_pay : (s : State) (k : ℕ) (op : OpId) (u : Update) (c : ℕ) (replied : Node → Bool) → Made s → s.uses k ≡ Updating op u c replied → Pays s (finish m k op u c s)
  ends_pay s k op u c replied made is = record { made = made_later; pays = pays }
    where
      t : NodeTurn
      t = finish m k op u c s

      later : ℕ → Use
      later = upd nat_eq (upd nat_eq s.uses c Spent) k Spent

      below : k < s.references + 1
      below = is_made s made k (Updating op u c replied) is (λ e. e)

      spent_light : (uses : ℕ → Use) (j d : ℕ) → use_weight (upd nat_eq uses j Spent d) ≤ use_weight (uses d)
      spent_light uses j d = at_upd nat_eq numbers (λ x. use_weight x ≤ use_weight (uses d)) uses j Spent d (λ _. omega arith) (λ _. omega arith)

      light : (d : ℕ) → use_weight (later d) ≤ use_weight (upd nat_eq s.uses k Spent d)
      light d = at_upd nat_eq numbers (λ x. use_weight x ≤ use_weight (upd nat_eq s.uses k Spent d)) (upd nat_eq s.uses c Spent) k Spent d (λ _. omega arith)
          (λ other. subst (λ x. use_weight (upd nat_eq s.uses c Spent d) ≤ use_weight x) (sym (upd_other nat_eq numbers s.uses k Spent d other)) (spent_light s.uses c d))

      made_later : Made t.state
      made_later d above = subst IsAtRest (sym (upd_other nat_eq numbers (upd nat_eq s.uses c Spent) k Spent d (λ e. absurd (omega (arith, below, above, e)))))
          (at_upd nat_eq numbers IsAtRest s.uses c Spent d (λ _. tt) (λ _. made d above))

      pays : sent_weight t + uses_weight (s.references + 1) later ≤ node_weight s
      pays =
          let change : uses_weight (s.references + 1) (upd nat_eq s.uses k Spent) + peers_total (λ q. 1) ≡ node_weight s + 0 = put_weight (s.references + 1) s.uses k (Updating op u c replied) Spent is below in
          let less : uses_weight (s.references + 1) later ≤ uses_weight (s.references + 1) (upd nat_eq s.uses k Spent) =
          total_le (s.references + 1) (λ d. use_weight (later d)) (λ d. use_weight (upd nat_eq s.uses k Spent d)) (λ d _. light d) in
          let sent : sent_weight t ≡ peers_total (λ q. 1) = peers_sent (λ q. true) (DelLock (name_of u) (own_reference m c)) in
          omega (arith, change, less, sent)

  -- ---- what follows a reply

  replies_pay : (k : ℕ) (used : Use) (s : State) → Made s → s.uses k ≡ used → Pays s (replies_in m k used s)
  replies_pay k (Updating op u c replied) s made is = go (every m replied)
    where
      go : (b : Bool) → Pays s (cond b (finish m k op u c s) (becomes s))
      go true = ends_pay s k op u c replied made is
      go false = stays s made
  replies_pay k (Locking op u lead st) s made is = stays s made
  replies_pay k (Owning name c) s made is = stays s made
  replies_pay k Fresh s made is = stays s made
  replies_pay k Spent s made is = stays s made

  locks_pay : (c : ℕ) (used : Use) (s : State) → Made s → s.uses c ≡ used → Pays s (locks_in m c used s)
  locks_pay c (Locking op u lead st) s made is = go (all_granted m st) (none_missing m st)
    where
      t : NodeTurn
      t = begin m c op u s

      begun : Pays s t
      begun = begins_pay s c op u lead st made is

      go : (b d : Bool) → Pays s (cond b (and_then (begin m c op u s) (λ v. replies_in m v.references (v.uses v.references) v)) (cond d (give_up m c op u st s) (becomes s)))
      go true d = pays_then s t (λ v. replies_in m v.references (v.uses v.references) v) begun (replies_pay t.state.references (t.state.uses t.state.references) t.state begun.made refl)
      go false true = gives_up_pay s c op u lead st made is
      go false false = stays s made
  locks_pay c (Updating op u d replied) s made is = stays s made
  locks_pay c (Owning name u) s made is = stays s made
  locks_pay c Fresh s made is = stays s made
  locks_pay c Spent s made is = stays s made

  -- the rest is asked
  pub round_goes_pay : (s : State) (c : ℕ) (op : OpId) (u : Update) (lead : Node) (st : Node → Status) → Made s → s.uses c ≡ Locking op u lead st
      → Pays s (and_then (ask m (λ _. true) c op u lead st s) (λ v. locks_in m c (v.uses c) v))
  round_goes_pay s c op u lead st made is =
      let t = ask m (λ _. true) c op u lead st s in
      let asked = asks_pay s (λ _. true) c op u lead st made is in
      pays_then s t (λ v. locks_in m c (v.uses c) v) asked (locks_pay c (t.state.uses c) t.state asked.made refl)

  goes_on_pay : (c : ℕ) (used : Use) (s : State) → Made s → s.uses c ≡ used → Pays s (go_on m c used s)
  goes_on_pay c (Locking op u lead st) s made is = go (none_missing m st) (does_wait (after_round (round_of lead st) (none_denied m st)))
    where
      go : (b d : Bool) → Pays s (cond b (cond d (give_up m c op u st s) (and_then (ask m (λ _. true) c op u lead st s) (λ v. locks_in m c (v.uses c) v))) (becomes s))
      go true false = round_goes_pay s c op u lead st made is
      go true true = gives_up_pay s c op u lead st made is
      go false d = stays s made
  goes_on_pay c (Updating op u d replied) s made is = stays s made
  goes_on_pay c (Owning name u) s made is = stays s made
  goes_on_pay c Fresh s made is = stays s made
  goes_on_pay c Spent s made is = stays s made

  counted_pay : (used : Use) (p : Node) (c : ℕ) (said : Said) (s : State) → Made s → s.uses c ≡ used → Pays s (counted used m p c said s)
  counted_pay (Locking op u lead st) p c said s made is =
      pays_then s t (λ v. go_on m c (v.uses c) v) first (goes_on_pay c (t.state.uses c) t.state first.made refl)
    where
      later : Node → Status
      later = upd same_atom st p (lock_status said)

      t : NodeTurn
      t = count_answer c op u lead st p (lock_status said) s

      light : sent_weight t + peers_total (λ q. status_weight (later q)) ≤ peers_total (λ q. status_weight (st q))
      light =
          let less : peers_total (λ q. status_weight (later q)) ≤ peers_total (λ q. status_weight (st q)) = peers_le (λ q. status_weight (later q)) (λ q. status_weight (st q))
          (λ q _. at_upd same_atom atoms (λ v. status_weight v ≤ status_weight (st q)) st p (lock_status said) q (λ _. least (lock_status said) (st q) (status_known said)) (λ _. omega arith)) in
          omega (arith, none_sent, less)

      first : Pays s t
      first = one_pays s t c (Locking op u lead st) (Locking op u lead later) made is (λ e. e) refl refl light
  counted_pay (Updating op u lock replied) p k said s made is =
      pays_then s t (λ v. replies_in m k (v.uses k) v) first (replies_pay k (t.state.uses k) t.state first.made refl)
    where
      t : NodeTurn
      t = count_ok k op u lock replied p s

      first : Pays s t
      first = one_pays s t k (Updating op u lock replied) (Updating op u lock (upd same_atom replied p true)) made is (λ e. e) refl refl (omega (arith, none_sent))
  counted_pay (Owning name u) p c said s made is = stays s made
  counted_pay Fresh p c said s made is = stays s made
  counted_pay Spent p c said s made is = stays s made

  -- ---- a packet

  -- what a node sends for a packet, with what its references still lead to, is less by one than what they led to and the packet
  pub record Lessens (s : State) (x : Message) (t : NodeTurn) : Type 0 where
    pub made : Made t.state
    pub less : sent_weight t + node_weight t.state + 1 ≤ node_weight s + packet_weight x

  -- what goes to one node is one packet
  abbrev pub ToOne : Node → Type 0
  ToOne p = (x : Message) → total n (λ y. weigh (to_one p x (name y))) ≤ packet_weight x

  of_paid : (s : State) (x : Message) (t : NodeTurn) → 1 ≤ packet_weight x → Pays s t → Lessens s x t
  of_paid s x t some paid = let pays : sent_weight t + node_weight t.state ≤ node_weight s = paid.pays in record { made = paid.made; less = omega (arith, pays, some) }

  -- a turn that sends nothing, and leaves the references
  silent : (s : State) (x : Message) (t : NodeTurn) → 1 ≤ packet_weight x → Made s → t.state.references ≡ s.references → t.state.uses ≡ s.uses → sent_weight t ≡ 0 → Lessens s x t
  silent s x t some made references uses none =
      let same : node_weight t.state ≡ node_weight s = λ i. uses_weight (references i + 1) (uses i) in
      record { made = λ d above. subst (λ (f : ℕ → Use). IsAtRest (f d)) (sym uses) (made d (subst (λ k. k < d) references above)); less = omega (arith, same, none, some) }

  -- one that answers a call
  answering : (s : State) (p : Node) (r : RefParts) (said : Said) (t : NodeTurn) → ToOne p → Made s → t.state.references ≡ s.references → t.state.uses ≡ s.uses
      → sent_weight t ≡ total n (λ y. weigh (to_one p (Reply r said) (name y))) → (x : Message) → packet_weight x ≡ 2 → Lessens s x t
  answering s p r said t one made references uses sent x call =
      let same : node_weight t.state ≡ node_weight s = λ i. uses_weight (references i + 1) (uses i) in
      let few : total n (λ y. weigh (to_one p (Reply r said) (name y))) ≤ 1 = one (Reply r said) in
      record { made = λ d above. subst (λ (f : ℕ → Use). IsAtRest (f d)) (sym uses) (made d (subst (λ k. k < d) references above)); less = omega (arith, same, sent, few, call) }

  pub packet_lessens : (p : Node) (x : Message) (s : State) (t : NodeTurn) → ToOne p → Made s → Makes (taken m p x s) t → Lessens s x t
  packet_lessens p (Call reference (SetLock wanted)) s t one made e =
      subst (Lessens s (Call reference (SetLock wanted))) (ok_is e) (answering s p reference (verdict (would_grant m s wanted)) _ one made refl refl refl (Call reference (SetLock wanted)) refl)
  packet_lessens p (Call reference (Change u)) s t one made e =
      subst (Lessens s (Call reference (Change u))) (ok_is e) (answering s p reference Applied _ one made refl refl refl (Call reference (Change u)) refl)
  packet_lessens p (Reply reference said) s t one made e =
      judged (use_of m reference s) m p (number_in reference) said s t
      (λ odd is. subst (Lessens s (Reply reference said)) is (silent s (Reply reference said) (strange odd s) (omega arith) made refl refl none_sent))
      (λ counts is. subst (Lessens s (Reply reference said)) is (go (ref_eq (own_reference m (number_in reference)) reference) (use_of m reference s) refl counts)) e
    where
      k : ℕ
      k = number_in reference

      go : (b : Bool) (used : Use) → used ≡ cond b (s.uses k) Spent → what_of true (gathered used p) ≡ what.Counted → Lessens s (Reply reference said) (counted used m p k said s)
      go true used is counts = of_paid s (Reply reference said) (counted used m p k said s) (omega arith) (counted_pay used p k said s made (sym is))
      go false used is counts = absurd (none_counted p used is counts)
  packet_lessens p (DelLock wanted reference) s t one made e = subst (Lessens s (DelLock wanted reference)) (ok_is e) (silent s (DelLock wanted reference) _ (omega arith) made refl refl none_sent)
  packet_lessens p (Exchange node groups) s t one made e = go (is_bad_exchange p node s) e
    where
      go : (b : Bool) → Makes (cond b (Err NotAMessage) (Ok (exchange p groups s))) t → Lessens s (Exchange node groups) t
      go true d = absurd (cc)
      go false d = subst (Lessens s (Exchange node groups)) (ok_is d) (silent s (Exchange node groups) _ (omega arith) made refl refl none_sent)
  packet_lessens p (Down pid) s t one made e = subst (Lessens s (Down pid)) (ok_is e) (silent s (Down pid) _ (omega arith) made refl refl none_sent)

-- fewer peers count, or each for less
pub peers_fewer : (m later : Nodes) (n : ℕ) (name : ℕ → Node) (f g : Node → ℕ) → ((q : Node) → cond (is_peer later q) (g q) 0 ≤ cond (is_peer m q) (f q) 0) → peers_total later n name g ≤ peers_total m n name f
unfolding peers_total
peers_fewer m later n name f g le = total_le n (λ y. cond (is_peer later (name y)) (g (name y)) 0) (λ y. cond (is_peer m (name y)) (f (name y)) 0) (λ y _. le (name y))
