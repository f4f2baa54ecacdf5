-- A world in which one change is under way, and nothing else is on the way: each packet that is taken brings it one step on.
use Rattle.std.proofs.Common.{◌≡◌, ◌≢◌, ◌⊎◌, inl, inr, ℕ, suc, ◌<◌, Bool, true, false, not, ◌&&◌, cond, nat_eq}
use Rattle.std.proofs.Common.{length, List, [], ◌∷◌, ◌++◌, Some, None, Ok, refl, ap, sym, ◌∙◌, subst, append-nil}
use Rattle.std.specs.List.{Contains, IsDistinct, list_all}
use Rattle.std.specs.Cmp.{second_so}
use Rattle.std.proofs.lemmas.Bool.{and_from, cases_eq, eq-eqb, ne_eqb}
use Rattle.std.proofs.lemmas.Bool.Decides.{Decides-ltb}
use Rattle.std.proofs.lemmas.List.Elements.{Contains-append_left, Contains-push}
use Rattle.pg_term.specs.Same.{same_atom}
use Rattle.pg_step.specs.PgRefs.Numbered.{numbered}
use Rattle.pg_step.specs.PgGroup.declared.update.Update.{Update}
use Rattle.pg_step.specs.PgGroup.Functions.{upd}
use Rattle.pg_step.specs.PgGroup.Value.{name_of}
use Rattle.pg_step.specs.PgLock.Locks.{is_free}
use Rattle.pg_step.specs.PgMessageTypes.declared.message.Message.{Message}
use Rattle.pg_step.specs.PgMessageTypes.declared.message.Message.TheVariants.{Call, Reply, DelLock}
use Rattle.pg_step.specs.PgMessageTypes.declared.message.Request.TheVariants.{SetLock, Change}
use Rattle.pg_step.specs.PgMessageTypes.declared.message.Said.{Said}
use Rattle.pg_step.specs.PgMessageTypes.declared.message.Said.TheVariants.{Granted, Applied}
use Rattle.pg_step.specs.PgMulticall.Gathered.{what_of}
use Rattle.pg_step.specs.Machines.Machine.{Take}
use Rattle.pg_step.specs.Machines.Happened.{Happened, Changes}
use Rattle.pg_step.specs.Machines.Places.{is_pair}
use Rattle.pg_step.specs.declared.answer.Reply.TheVariants as reply
use Rattle.pg_step.specs.declared.command.OpId.{OpId}
use Rattle.pg_step.specs.Nodes.{Node, Nodes}
use Rattle.pg_step.specs.State.{State, Status, formed}
use Rattle.pg_step.specs.State.Status.{Unasked, Asked, Yes, No}
use Rattle.pg_step.specs.State.Use.{Locking, Updating}
use Rattle.pg_step.specs.State.Response.{Given as Gave}
use Rattle.pg_step.specs.Turns.{NodeTurn, Report, and_then}
use Rattle.pg_step.specs.Peers.{would_grant, verdict, lock_request, update_request, lock_freed}
use Rattle.pg_step.specs.Attempts.{count_answer, count_ok, go_on, replies_in}
use Rattle.pg_step.specs.Attempts.{reply_by, reply_under, reply_taken, lock_entry}
use Rattle.pg_step.specs.Step.{Action, taken}
use Rattle.pg_step.specs.Config.{Config, names_of, name_at, nodes_at}
use Rattle.pg_step.specs.FrameMachine.{machine_of, FrameWorld}
use Rattle.pg_step.proofs.Machines.Steps.{changes, pair_apart}
use Rattle.pg_step.proofs.Once.{clash}
use Rattle.pg_laws.specs.History.{IsAnsweredOk, answer_at, answer_by, answers_by}
use Rattle.pg_laws.proofs.ends.Apart.{pair_second, pair_swapped, place_below, same_place}
use Rattle.pg_laws.proofs.locks.Packets.{number_is, use_is}
use Rattle.pg_laws.proofs.places.Located.{is_named, left_out, same_names}
use Rattle.pg_laws.proofs.places.Shown.{IsHere}
use Rattle.pg_laws.proofs.quiet.Home.{AtEnd, AtLock, AtUpdate, After, IsAtEnd, IsAtLock, IsAtUpdate, IsFreed}
use Rattle.pg_laws.proofs.quiet.Home.{Knows, Result, Sees, SeesOk, confirmed_result, granted_result}
use Rattle.pg_laws.proofs.quiet.Phases.{Phase, backs, count, needs_free, outs}
use Rattle.pg_laws.proofs.quiet.Phases.Phase.{Ahead, Wanted, Given, Owned, Told, Confirmed, Done, Freed, Over}
use Rattle.pg_laws.proofs.quiet.Rest.{each_peer, pair_of}
use Rattle.pg_laws.proofs.quiet.Taken.{first, full_later, reported_is, sent_is, state_is, turn}
use Rattle.pg_laws.proofs.quiet.Sums.{but, but_here, but_other, total, total_less, total_same}
use Rattle.pg_laws.proofs.references.Keys.{atoms, numbers, differ, at_upd, upd_at, upd_other}
use Rattle.pg_laws.proofs.steps.Lossless.{NobodyLost}
use Rattle.pg_laws.proofs.steps.Single.{ok_is}
use Rattle.pg_laws.proofs.steps.Ways.{told_append}
use Rattle.pg_laws.proofs.tables.Formed.{all_others}

-- ---- answers

-- a later report leaves an answer
pub answered_more : (h : ℕ) (op : OpId) (reported more : List (ℕ × Report)) → IsAnsweredOk op (answers_by h reported) → IsAnsweredOk op (answers_by h (reported ++ more))
answered_more h op reported more ok = subst (λ xs. Contains xs (op.number, Gave reply.Ok)) (sym (told_append (answer_by h op.port) reported more))
    (Contains-append_left (answers_by h reported op.port) (answers_by h more op.port) (op.number, Gave reply.Ok) ok)

-- and one that tells the answer gives it
answered_now : (h : ℕ) (op : OpId) (reported : List (ℕ × Report)) (report : Report) → report.gave ≡ Some (op, Gave reply.Ok) → IsAnsweredOk op (answers_by h (reported ++ (h, report) ∷ []))
answered_now h op reported report gave = subst (λ xs. Contains xs (op.number, Gave reply.Ok)) (sym (told_append (answer_by h op.port) reported ((h, report) ∷ []) ∙ ap (λ xs. answers_by h reported op.port ++ xs) last))
    (Contains-push (answers_by h reported op.port) (op.number, Gave reply.Ok))
  where
    last : answers_by h ((h, report) ∷ []) op.port ≡ (op.number, Gave reply.Ok) ∷ []
    last = append-nil (answer_by h op.port (h, report))
        ∙ ap (λ b. cond b (answer_at op.port report.gave) []) (eq-eqb h h refl)
        ∙ ap (answer_at op.port) gave
        ∙ ap (λ b. cond b ((op.number, Gave reply.Ok) ∷ []) []) (eq-eqb op.port op.port refl)

-- ---- what the node keeps of a peer whose phase is known

sees_given : (v : Status) → Sees v Given → v ≡ Asked
sees_given Asked sees = refl
sees_given Unasked sees = absurd sees
sees_given Yes sees = absurd sees
sees_given No sees = absurd sees

given_no_ok : (n : ℕ) (b : Bool) → SeesOk n b Given → ⊥
given_no_ok n true sees = sees
given_no_ok n false sees = sees

confirmed_ok : (n k : ℕ) (b : Bool) → SeesOk n b (Confirmed k) → (k ≡ n) × (b ≡ false)
confirmed_ok n k false sees = (sees, refl)
confirmed_ok n k true sees = absurd sees

confirmed_unseen : (k : ℕ) (v : Status) → Sees v (Confirmed k) → ⊥
confirmed_unseen k Unasked sees = sees
confirmed_unseen k Asked sees = sees
confirmed_unseen k Yes sees = sees
confirmed_unseen k No sees = sees

-- ---- a packet that a peer takes

-- what a peer in this phase makes of the packet that is next there, with these behind it
record PeerGoes (own : Node) (c : ℕ) (u : Update) (phase : Phase) (rest : List Message) (t : NodeTurn) : Type 0 where
  next : Phase
  fewer : count phase ≡ suc (count next)
  no_more : rest ≡ outs own c u next
  back : backs own c u phase ++ t.sends own ≡ backs own c u next
  else : (q : Node) → own ≢ q → t.sends q ≡ []
  lent : needs_free next ≡ false
  sees : (v : Status) → Sees v phase → Sees v next
  sees_ok : (n : ℕ) (b : Bool) → SeesOk n b phase → SeesOk n b next
  freed : IsFreed phase → IsFreed next

first_of_two : {x y : Message} {xs ys : List Message} → x ∷ xs ≡ y ∷ ys → (x ≡ y) × (xs ≡ ys)
first_of_two e = (cc, cc)

to_other : (own q : Node) (x : Message) → own ≢ q → cond (same_atom own q) (x ∷ []) [] ≡ []
to_other own q x apart = ap (λ b. cond b (x ∷ []) []) (differ same_atom atoms own q apart)

to_self : (own : Node) (x : Message) → cond (same_atom own own) (x ∷ []) [] ≡ x ∷ []
to_self own x = ap (λ b. cond b (x ∷ []) []) (atoms.refl own)

module _ (own : Node) (c : ℕ) (u : Update) (m : Nodes) (s : State) (t : NodeTurn) (packet : Message) (rest : List Message) where
  wanted_goes : formed m s ≡ true → s.locks (name_of u) ≡ None → taken m own packet s ≡ Ok t → packet ≡ Call (numbered own c) (SetLock (name_of u)) → rest ≡ [] → PeerGoes own c u Wanted rest t
  wanted_goes full free made is none =
      let turn : lock_request m own (numbered own c) (name_of u) s ≡ t = ok_is (sym (ap (λ x. taken m own x s) is) ∙ made) in
      subst (PeerGoes own c u Wanted rest) turn (record {
        next = Given;
        fewer = refl;
        no_more = none;
        back = to_self own (Reply (numbered own c) (verdict (would_grant m s (name_of u)))) ∙ ap (λ b. Reply (numbered own c) (verdict b) ∷ []) (λ i. full i && is_free (free i));
        else = λ q apart. to_other own q (Reply (numbered own c) (verdict (would_grant m s (name_of u)))) apart;
        lent = refl;
        sees = sees;
        sees_ok = sees_ok;
        freed = λ e. e;
      })
    where
      sees : (v : Status) → Sees v Wanted → Sees v Given
      sees Asked e = tt
      sees Unasked e = absurd e
      sees Yes e = absurd e
      sees No e = absurd e

      sees_ok : (n : ℕ) (b : Bool) → SeesOk n b Wanted → SeesOk n b Given
      sees_ok n true e = absurd e
      sees_ok n false e = absurd e

  told_goes : (n : ℕ) → taken m own packet s ≡ Ok t → packet ≡ Call (numbered own n) (Change u) → rest ≡ [] → PeerGoes own c u (Told n) rest t
  told_goes n made is none =
      let turn : update_request own (numbered own n) u s ≡ t = ok_is (sym (ap (λ x. taken m own x s) is) ∙ made) in
      subst (PeerGoes own c u (Told n) rest) turn (record {
        next = Confirmed n;
        fewer = refl;
        no_more = none;
        back = to_self own (Reply (numbered own n) Applied);
        else = λ q apart. to_other own q (Reply (numbered own n) Applied) apart;
        lent = refl;
        sees = sees;
        sees_ok = sees_ok;
        freed = λ e. e;
      })
    where
      sees : (v : Status) → Sees v (Told n) → Sees v (Confirmed n)
      sees Unasked e = absurd e
      sees Asked e = absurd e
      sees Yes e = absurd e
      sees No e = absurd e

      sees_ok : (k : ℕ) (b : Bool) → SeesOk k b (Told n) → SeesOk k b (Confirmed n)
      sees_ok k false e = e
      sees_ok k true e = absurd e

  freed_goes : taken m own packet s ≡ Ok t → packet ≡ DelLock (name_of u) (numbered own c) → rest ≡ [] → PeerGoes own c u Freed rest t
  freed_goes made is none =
      let turn : lock_freed (name_of u) (numbered own c) s ≡ t = ok_is (sym (ap (λ x. taken m own x s) is) ∙ made) in
      subst (PeerGoes own c u Freed rest) turn (record {
        next = Over;
        fewer = refl;
        no_more = none;
        back = refl;
        else = λ q apart. refl;
        lent = refl;
        sees = sees;
        sees_ok = sees_ok;
        freed = λ e. tt;
      })
    where
      sees : (v : Status) → Sees v Freed → Sees v Over
      sees Unasked e = absurd e
      sees Asked e = absurd e
      sees Yes e = absurd e
      sees No e = absurd e

      sees_ok : (n : ℕ) (b : Bool) → SeesOk n b Freed → SeesOk n b Over
      sees_ok n true e = absurd e
      sees_ok n false e = absurd e

  peer_goes : (phase : Phase) → outs own c u phase ≡ packet ∷ rest → formed m s ≡ true → (needs_free phase ≡ true → s.locks (name_of u) ≡ None) → taken m own packet s ≡ Ok t → PeerGoes own c u phase rest t
  peer_goes Wanted out full free made = let e = first_of_two (sym out) in wanted_goes full (free refl) made e.0 e.1
  peer_goes (Told n) out full free made = let e = first_of_two (sym out) in told_goes n made e.0 e.1
  peer_goes Freed out full free made = let e = first_of_two (sym out) in freed_goes made e.0 e.1
  peer_goes Ahead out full free made = absurd (cc)
  peer_goes Given out full free made = absurd (cc)
  peer_goes Owned out full free made = absurd (cc)
  peer_goes (Confirmed n) out full free made = absurd (cc)
  peer_goes Done out full free made = absurd (cc)
  peer_goes Over out full free made = absurd (cc)

-- ---- the world

module _ (config : Config) (apart : IsDistinct same_atom (names_of config)) (h : ℕ) (here : IsHere config h) where
  abbrev pub m : Nodes
  m = nodes_at config h

  abbrev pub name : ℕ → Node
  name q = name_at config q

  abbrev pub Peer : ℕ → Type 0
  Peer q = is_pair (length config) h q ≡ true

  names_differ : (p q : ℕ) → IsHere config p → IsHere config q → p ≢ q → name p ≢ name q
  names_differ p q this that n e = n (same_place config apart p q this that (ap (same_atom (name p)) (sym e) ∙ atoms.refl (name p)))

  peer_here : (q : ℕ) → Peer q → IsHere config q
  peer_here q there = pair_second (length config) h q there

  peer_other : (q : ℕ) → Peer q → h ≢ q
  peer_other q there = pair_apart (length config) h q there

  pub knows : Knows m name Peer
  knows = record {
    peer = λ q there.
        left_out (names_of config) h (name q) (place_below config h here) apart
        ∙ (λ i. is_named (names_of config) q (place_below config q (peer_here q there)) i
        && not ((same_names config apart h q here (peer_here q there) ∙ ne_eqb h q (peer_other q there)) i));
    apart = λ q there. names_differ h q here (peer_here q there) (peer_other q there);
    others = λ p q this that n. names_differ p q (peer_here p this) (peer_here q that) n;
    every_of = λ test own each. and_from (test m.own) (list_all test m.peers) own (each_peer config h here test each);
    of_every = λ test all q there. all_others test (names_of config) h q (place_below config q (peer_here q there)) (peer_other q there) (second_so (test m.own) (list_all test m.peers) all);
  }

  module _ (op : OpId) (u : Update) (c : ℕ) where
    -- what its node keeps of the change, and that it is answered at its end
    pub data AtHome (s : State) (reported : List (ℕ × Report)) (phase : ℕ → Phase) : Type 0 where
      Locks : AtLock m name Peer knows op u c s phase → AtHome s reported phase
      Updates : AtUpdate m name Peer knows op u c s phase → AtHome s reported phase
      Ends : AtEnd m name Peer knows op u c s phase → IsAnsweredOk op (answers_by h reported) → AtHome s reported phase

    abbrev pub weight : (ℕ → Phase) → ℕ → ℕ
    weight phase q = but h (λ p. count (phase p)) q

    pub record Solo (v : FrameWorld) (left : ℕ) : Type 0 where
      pub phase : ℕ → Phase
      pub home : AtHome (v.node h) v.reported phase
      pub out : (q : ℕ) → Peer q → v.wire h q ≡ outs m.own c u (phase q)
      pub back : (q : ℕ) → Peer q → v.wire q h ≡ backs m.own c u (phase q)
      pub free : (q : ℕ) → Peer q → needs_free (phase q) ≡ true → (v.node q).locks (name_of u) ≡ None
      pub others : (x y : ℕ) → is_pair (length config) x y ≡ true → x ≢ h → y ≢ h → v.wire x y ≡ []
      pub full : (i : ℕ) → IsHere config i → formed (nodes_at config i) (v.node i) ≡ true
      -- so many packets are still to be taken
      pub left_is : total (length config) (weight phase) ≡ left

    weight_same : (phase later : ℕ → Phase) → ((q : ℕ) → Peer q → count (phase q) ≡ count (later q)) → (k : ℕ) → k < length config → weight phase k ≡ weight later k
    weight_same phase later same k below = go (cases_eq h k)
      where
        go : (h ≡ k) ⊎ (h ≡ k → ⊥) → weight phase k ≡ weight later k
        go (inl e) = subst (λ z. weight phase z ≡ weight later z) e (but_here h (λ p. count (phase p)) ∙ sym (but_here h (λ p. count (later p))))
        go (inr n) = but_other h (λ p. count (phase p)) k n ∙ same k (pair_of config h k here ((Decides-ltb k (length config)).1 below) n) ∙ sym (but_other h (λ p. count (later p)) k n)

    -- ---- a turn of the node of the change

    module _ (v x : FrameWorld) (t : NodeTurn) (phase : ℕ → Phase) (result : Result m name Peer knows op u c phase t) where
      home_later : x.node h ≡ t.state → x.reported ≡ v.reported ++ (h, t.reported) ∷ [] → AtHome (x.node h) x.reported result.later
      home_later state reported = subst (λ s. AtHome s x.reported result.later) (sym state) (go result.after)
        where
          go : After m name Peer knows op u c t.state t.reported.gave result.later → AtHome t.state x.reported result.later
          go (IsAtLock at) = Locks at
          go (IsAtUpdate at) = Updates at
          go (IsAtEnd at gave) = Ends at (subst (λ ts. IsAnsweredOk op (answers_by h ts)) (sym reported) (answered_now h op v.reported t.reported gave))

      pub home_turn : x.node h ≡ t.state → x.reported ≡ v.reported ++ (h, t.reported) ∷ [] → ((q : ℕ) → Peer q → x.wire h q ≡ v.wire h q ++ t.sends (name q)) → ((q : ℕ) → Peer q → x.node q ≡ v.node q)
          → ((q : ℕ) → Peer q → v.wire h q ≡ outs m.own c u (phase q)) → ((q : ℕ) → Peer q → x.wire q h ≡ backs m.own c u (phase q))
          → ((q : ℕ) → Peer q → needs_free (phase q) ≡ true → (v.node q).locks (name_of u) ≡ None)
          → ((a b : ℕ) → is_pair (length config) a b ≡ true → a ≢ h → b ≢ h → x.wire a b ≡ [])
          → ((i : ℕ) → IsHere config i → formed (nodes_at config i) (x.node i) ≡ true) → Solo x (total (length config) (weight phase))
      home_turn state reported sent nodes out back free others full = record {
        phase = result.later;
        home = home_later state reported;
        out = λ q there. sent q there ∙ ap (λ xs. xs ++ t.sends (name q)) (out q there) ∙ (result.goes q there).out;
        back = λ q there. back q there ∙ (result.goes q there).back;
        free = λ q there e. ap (λ (s : State). s.locks (name_of u)) (nodes q there) ∙ free q there ((result.goes q there).free e);
        others = others;
        full = full;
        left_is = sym (total_same (length config) (weight phase) (weight result.later) (weight_same phase result.later (λ q there. (result.goes q there).as_many)));
      }

    -- ---- a packet that is taken

    -- one packet less is to be taken
    pub record Fewer (x : FrameWorld) (left : ℕ) : Type 0 where
      pub now : ℕ
      pub is : left ≡ suc now
      pub solo : Solo x now

    weight_less : (phase later : ℕ → Phase) (p : ℕ) → Peer p → count (phase p) ≡ suc (count (later p)) → ((q : ℕ) → p ≢ q → later q ≡ phase q) → total (length config) (weight phase) ≡ suc (total (length config) (weight later))
    weight_less phase later p there less same =
        total_less (length config) p (weight phase) (weight later) ((Decides-ltb p (length config)).0 (peer_here p there))
        (but_other h (λ q. count (phase q)) p (peer_other p there) ∙ less ∙ ap suc (sym (but_other h (λ q. count (later q)) p (peer_other p there))))
        (λ k below n. go k n (cases_eq h k))
      where
        go : (k : ℕ) → k ≢ p → (h ≡ k) ⊎ (h ≡ k → ⊥) → weight phase k ≡ weight later k
        go k n (inl e) = subst (λ z. weight phase z ≡ weight later z) e (but_here h (λ q. count (phase q)) ∙ sym (but_here h (λ q. count (later q))))
        go k n (inr m) = but_other h (λ q. count (phase q)) k m ∙ ap count (sym (same k (λ e. n (sym e)))) ∙ sym (but_other h (λ q. count (later q)) k m)

    -- a peer takes a packet of the node of the change
    module _ (v x : FrameWorld) (i : ℕ) (there : Peer i) (happened : Happened (machine_of config) v (Take i h) x) (nobody : NobodyLost v) (left : ℕ) (solo : Solo v left) where
      abbrev changed : Changes {C = Action} (Take i h) happened.turn v x
      changed = changes (machine_of config) v x (Take i h) happened

      abbrev t : NodeTurn
      t = (turn config v x i h happened nobody).0

      abbrev phase : ℕ → Phase
      phase = solo.phase

      goes : PeerGoes m.own c u (phase i) (x.wire h i) t
      goes = peer_goes m.own c u (nodes_at config i) (v.node i) t (first config v x i h happened nobody).0 (x.wire h i) (phase i) (sym (solo.out i there) ∙ (first config v x i h happened nobody).1)
          (solo.full i (peer_here i there)) (solo.free i there) (turn config v x i h happened nobody).1

      abbrev later : ℕ → Phase
      later = upd nat_eq phase i goes.next

      home_apart : h ≢ i
      home_apart = peer_other i there

      put : (Q : Phase → Type 0) (q : ℕ) → (i ≡ q → Q goes.next) → (i ≢ q → Q (phase q)) → Q (later q)
      put Q q = at_upd nat_eq numbers Q phase i goes.next q

      home_then : AtHome (v.node h) v.reported phase → AtHome (v.node h) x.reported later
      home_then (Locks at) = Locks (record {
        lead = at.lead;
        st = at.st;
        is = at.is;
        stage = at.stage;
        peers = λ q this. put (Sees (at.st (name q))) q (λ e. goes.sees (at.st (name q)) (subst (λ z. Sees (at.st (name q)) (phase z)) (sym e) (at.peers q this))) (λ _. at.peers q this);
        own = at.own;
        full = at.full;
      })
      home_then (Updates at) = Updates (record {
        n = at.n;
        replied = at.replied;
        is = at.is;
        stage = at.stage;
        peers = λ q this. put (SeesOk at.n (at.replied (name q))) q (λ e. goes.sees_ok at.n (at.replied (name q)) (subst (λ z. SeesOk at.n (at.replied (name q)) (phase z)) (sym e) (at.peers q this))) (λ _. at.peers q this);
        own = at.own;
      })
      home_then (Ends at ok) = Ends (record {
        stage = at.stage;
        peers = λ q this. put IsFreed q (λ e. goes.freed (subst (λ z. IsFreed (phase z)) (sym e) (at.peers q this))) (λ _. at.peers q this);
      }) (subst (λ ts. IsAnsweredOk op (answers_by h ts)) (sym (reported_is config v x i h happened nobody)) (answered_more h op v.reported ((i, t.reported) ∷ []) ok))

      untaken : (q : ℕ) → i ≢ q → x.wire h q ≡ v.wire h q
      untaken q n = changed.ways h q home_apart (λ both. n both.1)

      other_way : (a b : ℕ) → is_pair (length config) a b ≡ true → a ≢ h → b ≢ h → (a ≡ i) ⊎ (a ≢ i) → x.wire a b ≡ []
      other_way a b pair an bn (inl e) =
          let this = pair_second (length config) a b pair in
          subst (λ z. x.wire z b ≡ []) (sym e)
          (sent_is config v x i h happened nobody b this
          ∙ ap (λ xs. v.wire i b ++ xs) (goes.else (name b) (names_differ h b here this (λ e. bn (sym e))))
          ∙ append-nil (v.wire i b) ∙ subst (λ z. v.wire z b ≡ []) e (solo.others a b pair an bn))
      other_way a b pair an bn (inr n) = changed.ways a b n (λ both. an (sym both.0)) ∙ solo.others a b pair an bn

      pub peer_took : Fewer x left
      peer_took = record {
        now = total (length config) (weight later);
        is = sym solo.left_is ∙ weight_less phase later i there (goes.fewer ∙ ap (λ z. suc (count z)) (sym (upd_at nat_eq numbers phase i goes.next i refl))) (λ q n. upd_other nat_eq numbers phase i goes.next q n);
        solo = record {
          phase = later;
          home = subst (λ s. AtHome s x.reported later) (sym (changed.states h home_apart)) (home_then solo.home);
          out = λ q this. put (λ z. x.wire h q ≡ outs m.own c u z) q (λ e. subst (λ z. x.wire h z ≡ outs m.own c u goes.next) e goes.no_more) (λ n. untaken q n ∙ solo.out q this);
          back = λ q this. put (λ z. x.wire q h ≡ backs m.own c u z) q
              (λ e. subst (λ z. x.wire z h ≡ backs m.own c u goes.next) e
              (sent_is config v x i h happened nobody h here ∙ ap (λ xs. xs ++ t.sends m.own) (solo.back i there) ∙ goes.back))
              (λ n. changed.ways q h (λ e. n (sym e)) (λ both. peer_other q this both.0) ∙ solo.back q this);
          free = λ q this. put (λ z. needs_free z ≡ true → (x.node q).locks (name_of u) ≡ None) q (λ _ e. absurd (clash (sym e ∙ goes.lent)))
              (λ n e. ap (λ (s : State). s.locks (name_of u)) (changed.states q (λ same. n (sym same))) ∙ solo.free q this e);
          others = λ a b pair an bn. other_way a b pair an bn (cases_eq a i);
          full = full_later config v x i h happened nobody solo.full;
          left_is = refl;
        };
      }

    -- the node takes a reply of a peer
    module _ (v x : FrameWorld) (p : ℕ) (there : Peer p) (happened : Happened (machine_of config) v (Take h p) x) (nobody : NobodyLost v) (left : ℕ) (solo : Solo v left) where
      abbrev altered : Changes {C = Action} (Take h p) happened.turn v x
      altered = changes (machine_of config) v x (Take h p) happened

      abbrev s : State
      s = v.node h

      abbrev then_phase : ℕ → Phase
      then_phase = solo.phase

      abbrev packet : Message
      packet = (first config v x h p happened nobody).0

      way_is : backs m.own c u (then_phase p) ≡ packet ∷ x.wire p h
      way_is = sym (solo.back p there) ∙ (first config v x h p happened nobody).1

      -- and goes on with the peer in a new phase
      home_took : (old new : Phase) → then_phase p ≡ old → count old ≡ suc (count new) → outs m.own c u old ≡ outs m.own c u new → needs_free new ≡ false → x.wire p h ≡ backs m.own c u new
          → (t : NodeTurn) → taken m (name p) packet s ≡ Ok t → Result m name Peer knows op u c (upd nat_eq then_phase p new) t → Fewer x left
      home_took old new was fewer same_out lent back t made result = record {
        now = total (length config) (weight later);
        is = sym solo.left_is ∙ weight_less then_phase later p there (ap count was ∙ fewer ∙ ap (λ z. suc (count z)) (sym (upd_at nat_eq numbers then_phase p new p refl))) (λ q n. upd_other nat_eq numbers then_phase p new q n);
        solo = home_turn v x t later result
            (state_is config v x h p happened nobody ∙ ap (λ (z : NodeTurn). z.state) same)
            (reported_is config v x h p happened nobody ∙ ap (λ (z : NodeTurn). v.reported ++ (h, z.reported) ∷ []) same)
            (λ q this. sent_is config v x h p happened nobody q (peer_here q this) ∙ ap (λ (z : NodeTurn). v.wire h q ++ z.sends (name q)) same)
            (λ q this. altered.states q (λ e. peer_other q this (sym e)))
            (λ q this. at_upd nat_eq numbers (λ z. v.wire h q ≡ outs m.own c u z) then_phase p new q
            (λ e. subst (λ z. v.wire h z ≡ outs m.own c u new) e (solo.out p there ∙ ap (outs m.own c u) was ∙ same_out)) (λ _. solo.out q this))
            (λ q this. at_upd nat_eq numbers (λ z. x.wire q h ≡ backs m.own c u z) then_phase p new q
            (λ e. subst (λ z. x.wire z h ≡ backs m.own c u new) e back)
            (λ n. altered.ways q h (λ e. peer_other q this (sym e)) (λ both. n both.0) ∙ solo.back q this))
            (λ q this. at_upd nat_eq numbers (λ z. needs_free z ≡ true → (v.node q).locks (name_of u) ≡ None) then_phase p new q (λ _ e. absurd (clash (sym e ∙ lent))) (λ _. solo.free q this))
            (λ a b pair an bn. altered.ways a b an (λ both. bn (sym both.1)) ∙ solo.others a b pair an bn)
            (full_later config v x h p happened nobody solo.full);
      }
        where
          later : ℕ → Phase
          later = upd nat_eq then_phase p new

          same : (turn config v x h p happened nobody).0 ≡ t
          same = ok_is (sym (turn config v x h p happened nobody).1 ∙ made)

      -- a reply under a reference of its own
      reply_is : (k : ℕ) (said : Said) → reply_taken m (name p) (numbered m.own k) said s ≡ reply_under (s.uses k) m (name p) k said s
      reply_is k said = λ i. reply_under (use_is m.own m.peers k s i) m (name p) (number_is m.own k i) said s

      granted_took : then_phase p ≡ Given → packet ≡ Reply (numbered m.own c) Granted → x.wire p h ≡ [] → AtHome s v.reported then_phase → Fewer x left
      granted_took was is none (Locks at) =
          let asked : at.st (name p) ≡ Asked = sees_given (at.st (name p)) (subst (Sees (at.st (name p))) was (at.peers p there)) in
          home_took Given Owned was refl refl refl none
          (and_then (count_answer c op u at.lead at.st (name p) Yes s) (λ z. go_on m c (z.uses c) z))
          (ap (λ z. taken m (name p) z s) is ∙ reply_is c Granted ∙ ap (λ z. reply_under z m (name p) c Granted s) at.is
          ∙ ap (λ z. reply_by (what_of true (lock_entry z (same_atom at.lead (name p)))) true (Locking op u at.lead at.st) m (name p) c Granted s) asked)
          (granted_result m name Peer knows op u c s then_phase at p there)
      granted_took was is none (Updates at) = absurd (given_no_ok at.n (at.replied (name p)) (subst (SeesOk at.n (at.replied (name p))) was (at.peers p there)))
      granted_took was is none (Ends at ok) = absurd (subst IsFreed was (at.peers p there))

      confirmed_took : (k : ℕ) → then_phase p ≡ Confirmed k → packet ≡ Reply (numbered m.own k) Applied → x.wire p h ≡ [] → AtHome s v.reported then_phase → Fewer x left
      confirmed_took k was is none (Updates at) =
          let new = confirmed_ok at.n k (at.replied (name p)) (subst (SeesOk at.n (at.replied (name p))) was (at.peers p there)) in
          home_took (Confirmed k) Done was refl refl refl none
          (and_then (count_ok at.n op u c at.replied (name p) s) (λ z. replies_in m at.n (z.uses at.n) z))
          (ap (λ z. taken m (name p) z s) (is ∙ ap (λ z. Reply (numbered m.own z) Applied) new.0) ∙ reply_is at.n Applied ∙ ap (λ z. reply_under z m (name p) at.n Applied s) at.is
          ∙ ap (λ b. reply_by (what_of {R = Said} true (Some (cond b (Some Applied) None))) true (Updating op u c at.replied) m (name p) at.n Applied s) new.1)
          (confirmed_result m name Peer knows op u c s then_phase at p there)
      confirmed_took k was is none (Locks at) = absurd (confirmed_unseen k (at.st (name p)) (subst (Sees (at.st (name p))) was (at.peers p there)))
      confirmed_took k was is none (Ends at ok) = absurd (subst IsFreed was (at.peers p there))

      took_as : (z : Phase) → then_phase p ≡ z → backs m.own c u z ≡ packet ∷ x.wire p h → Fewer x left
      took_as Given was e = let same = first_of_two (sym e) in granted_took was same.0 same.1 solo.home
      took_as (Confirmed k) was e = let same = first_of_two (sym e) in confirmed_took k was same.0 same.1 solo.home
      took_as Ahead was e = absurd (cc)
      took_as Wanted was e = absurd (cc)
      took_as Owned was e = absurd (cc)
      took_as (Told n) was e = absurd (cc)
      took_as Done was e = absurd (cc)
      took_as Freed was e = absurd (cc)
      took_as Over was e = absurd (cc)

      pub home_takes : Fewer x left
      home_takes = took_as (then_phase p) refl way_is

    -- whoever takes a packet
    pub takes : (v x : FrameWorld) (i p : ℕ) (happened : Happened (machine_of config) v (Take i p) x) → NobodyLost v → (left : ℕ) → Solo v left → Fewer x left
    takes v x i p happened nobody left solo = go (cases_eq i h) (cases_eq p h)
      where
        pair : is_pair (length config) i p ≡ true
        pair = happened.there

        go : (i ≡ h) ⊎ (i ≡ h → ⊥) → (p ≡ h) ⊎ (p ≡ h → ⊥) → Fewer x left
        go (inl e) _ = home_takes v x p (subst (λ z. is_pair (length config) z p ≡ true) e pair) (subst (λ z. Happened (machine_of config) v (Take z p) x) e happened) nobody left solo
        go (inr n) (inl e) = peer_took v x i (subst (λ z. is_pair (length config) z i ≡ true) e (pair_swapped (length config) i p pair)) (subst (λ z. Happened (machine_of config) v (Take i z) x) e happened) nobody left solo
        go (inr n) (inr k) =
            let taken_first = first config v x i p happened nobody in
            let none : v.wire p i ≡ [] = solo.others p i (pair_swapped (length config) i p pair) k n in
            absurd (cc)
