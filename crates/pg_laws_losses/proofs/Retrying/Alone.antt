-- A world in which one change is under way, and nothing else is on the way to a live node: each packet that is taken brings
-- the change one step on.
use Rattle.std.proofs.Common.{◌≡◌, ◌≢◌, ◌⊎◌, inl, inr, ℕ, suc, ◌<◌, Bool, true, false, not, cond, nat_eq, length}
use Rattle.std.proofs.Common.{map, List, [], ◌∷◌, ◌++◌, Some, None, Ok, refl, ap, sym, ◌∙◌, subst, append-nil}
use Rattle.std.specs.List.{Contains, IsDistinct, filter}
use Rattle.std.proofs.lemmas.List.Elements.{Contains-push}
use Rattle.std.proofs.lemmas.Bool.{cases_eq, eq-eqb}
use Rattle.std.proofs.lemmas.Bool.Decides.{Decides-ltb}
use Rattle.std.proofs.lemmas.List.{map-append}
use Rattle.pg_term.specs.Same.{same_atom}
use Rattle.pg_laws.specs.PgRefs.Numbered.{numbered}
use Rattle.pg_laws.specs.PgGroup.declared.update.Update.{Update}
use Rattle.pg_laws.specs.PgGroup.Functions.{upd}
use Rattle.pg_laws.specs.PgGroup.Value.{name_of}
use Rattle.pg_laws.specs.PgMessageTypes.declared.message.Message.{Message}
use Rattle.pg_laws.specs.PgMessageTypes.declared.message.Message.TheVariants.{Reply}
use Rattle.pg_laws.specs.PgMessageTypes.declared.message.Said.{Said}
use Rattle.pg_laws.specs.PgMessageTypes.declared.message.Said.TheVariants.{Applied, Granted}
use Rattle.pg_laws.specs.PgMulticall.Gathered.{what_of}
use Rattle.pg_laws.specs.PgStep.Machines.Happened.{Changes, Happened}
use Rattle.pg_laws.specs.PgStep.Machines.Losing.{Noticed, Sent}
use Rattle.pg_laws.specs.PgStep.Machines.Machine.{Take}
use Rattle.pg_laws.specs.PgStep.Machines.Places.{is_pair}
use Rattle.pg_laws.proofs.PgStep.Machines.Steps.{changes, pair_apart}
use Rattle.pg_laws.specs.PgStep.declared.command.OpId.{OpId}
use Rattle.pg_laws.specs.PgStep.Attempts.{count_answer, count_ok, go_on, lock_entry, replies_in}
use Rattle.pg_laws.specs.PgStep.Attempts.{reply_by, reply_taken, reply_under}
use Rattle.pg_laws.specs.PgStep.Config.{Config, name_at, names_of, nodes_at}
use Rattle.pg_laws.specs.PgStep.FrameMachine.{losing_machine_of}
use Rattle.pg_laws.specs.PgStep.Nodes.{Node, Nodes}
use Rattle.pg_laws.specs.PgStep.State.{State, formed, live_nodes}
use Rattle.pg_laws.specs.PgStep.State.Response.{Given as Given_}
use Rattle.pg_laws.specs.PgStep.State.Status.{Asked, Yes}
use Rattle.pg_laws.specs.PgStep.declared.answer.Reply.TheVariants as reply
use Rattle.pg_laws.specs.PgStep.State.Use.{Locking, Updating}
use Rattle.pg_laws.specs.PgStep.Step.{Action, taken}
use Rattle.pg_laws.specs.PgStep.Turns.{NodeTurn, Report, and_then}
use Rattle.pg_laws.proofs.PgStep.Once.{clash}
use Rattle.pg_laws.specs.History.{IsAnsweredOk, answer_at, answer_by, answers_by}
use Rattle.pg_laws.proofs.ends.Apart.{pair_second, pair_swapped, same_place}
use Rattle.pg_laws.proofs.locks.Packets.{number_is, use_is}
use Rattle.pg_laws.proofs.places.Shown.{IsHere}
use Rattle.pg_laws.proofs.quiet.Home.{After, AtEnd, AtLock, AtUpdate, IsAtEnd, IsAtLock, IsAtUpdate, IsFreed}
use Rattle.pg_laws.proofs.quiet.Home.{Result, Sees, SeesOk, confirmed_result, granted_result}
use Rattle.pg_laws.proofs.quiet.Phases.{Phase, backs, count, needs_free, outs}
use Rattle.pg_laws.proofs.quiet.Phases.Phase.{Ahead, Confirmed, Done, Freed, Given, Over, Owned, Told, Wanted}
use Rattle.pg_laws.proofs.quiet.Solo.{answered_more}
use Rattle.pg_laws.proofs.quiet.Sums.{total, total_less, total_same}
use Rattle.pg_laws.proofs.references.Keys.{at_upd, atoms, numbers, upd_at, upd_other}
use Rattle.pg_laws.proofs.steps.Single.{ok_is}
use Rattle.pg_laws.proofs.steps.Ways.{told_append}
use Rattle.pg_laws_losses.proofs.Retrying.Hearing.{Bare, first, full_later, known_is, reported_is, sent_is, state_is, turn}
use Rattle.pg_laws_losses.proofs.Retrying.Peers.{IsNone, IsPeer, Peer, Placed, knows, m, of_peer, of_peers, placed, some_pass}
use Rattle.pg_laws_losses.proofs.Retrying.Served.{PeerGoes, confirmed_ok, confirmed_unseen, first_of_two, given_no_ok, peer_goes, sees_given}

-- a report that tells the answer gives it
answered_now : (h : ℕ) (op : OpId) (reported : List (ℕ × Report)) (report : Report) → report.gave ≡ Some (op, Given_ reply.Ok)
    → IsAnsweredOk op (answers_by h (reported ++ (h, report) ∷ []))
answered_now h op reported report gave = subst (λ xs. Contains xs (op.number, Given_ reply.Ok))
    (sym (told_append (answer_by h op.port) reported ((h, report) ∷ []) ∙ ap (λ xs. answers_by h reported op.port ++ xs) last))
    (Contains-push (answers_by h reported op.port) (op.number, Given_ reply.Ok))
  where
    last : answers_by h ((h, report) ∷ []) op.port ≡ (op.number, Given_ reply.Ok) ∷ []
    last = append-nil (answer_by h op.port (h, report))
        ∙ (ap (λ b. cond b (answer_at op.port report.gave) []) (eq-eqb h h refl)
        ∙ (ap (answer_at op.port) gave
        ∙ ap (λ b. cond b ((op.number, Given_ reply.Ok) ∷ []) []) (eq-eqb op.port op.port refl)))

-- one node of those that are formed is formed by those that count
pub formed_live : (n : Nodes) (s : State) → formed n s ≡ true → formed (live_nodes n s) s ≡ true
formed_live n s full = some_pass (λ q. not (s.lost q)) s.merged n.peers full

module _ (config : Config) (apart : IsDistinct same_atom (names_of config)) (h : ℕ) (here : IsHere config h)
    (gone : ℕ → Bool) (lost : Node → Bool) (known : (q : ℕ) → IsHere config q → lost (name_at config q) ≡ gone q)
    (lives : gone h ≡ false) where
  abbrev pub own : Node
  own = name_at config h

  abbrev pub all : Nodes
  all = m config apart h here gone lost known

  abbrev pub IsPeer_ : ℕ → Type 0
  IsPeer_ = Peer config apart h here gone lost known

  abbrev pub Result_ : OpId → Update → ℕ → (ℕ → Phase) → NodeTurn → Type 0
  Result_ op u c phase t = Result all (name_at config) IsPeer_ (knows config apart h here gone lost known) op u c phase t

  names_differ : (p q : ℕ) → IsHere config p → IsHere config q → p ≢ q → name_at config p ≢ name_at config q
  names_differ p q this that n e = n (same_place config apart p q this that (ap (same_atom (name_at config p)) (sym e) ∙ atoms.refl (name_at config p)))

  peer_here : (q : ℕ) → IsPeer_ q → IsHere config q
  peer_here q there = pair_second (length config) h q there.0

  peer_other : (q : ℕ) → IsPeer_ q → h ≢ q
  peer_other q there = pair_apart (length config) h q there.0

  module _ (op : OpId) (u : Update) (c : ℕ) where
    abbrev pub Lock : State → (ℕ → Phase) → Type 0
    Lock s phase = AtLock all (name_at config) IsPeer_ (knows config apart h here gone lost known) op u c s phase

    abbrev pub GoesOut : State → (ℕ → Phase) → Type 0
    GoesOut s phase = AtUpdate all (name_at config) IsPeer_ (knows config apart h here gone lost known) op u c s phase

    abbrev pub End : State → (ℕ → Phase) → Type 0
    End s phase = AtEnd all (name_at config) IsPeer_ (knows config apart h here gone lost known) op u c s phase

    -- what its node keeps of the change, and that it is answered at its end
    pub data AtHome (s : State) (reported : List (ℕ × Report)) (phase : ℕ → Phase) : Type 0 where
      Locks : Lock s phase → AtHome s reported phase
      Updates : GoesOut s phase → AtHome s reported phase
      Ends : End s phase → IsAnsweredOk op (answers_by h reported) → AtHome s reported phase

    abbrev pub weight : (ℕ → Phase) → ℕ → ℕ
    weight phase = of_peers config apart h here gone lost known (λ p. count (phase p))

    pub record Alone (v : Bare) (more : ℕ) : Type 0 where
      pub phase : ℕ → Phase
      pub home : AtHome (v.node h) v.reported phase
      pub knew : (v.node h).lost ≡ lost
      pub out : (q : ℕ) → IsPeer_ q → v.wire h q ≡ map Sent (outs own c u (phase q))
      pub back : (q : ℕ) → IsPeer_ q → v.wire q h ≡ map Sent (backs own c u (phase q))
      pub free : (q : ℕ) → IsPeer_ q → needs_free (phase q) ≡ true → (v.node q).locks (name_of u) ≡ None
      -- nothing is on the way between others, and nothing from a lost node
      pub others : (x y : ℕ) → is_pair (length config) x y ≡ true → gone y ≡ false → x ≢ h → y ≢ h → v.wire x y ≡ []
      pub from_lost : (x : ℕ) → is_pair (length config) x h ≡ true → gone x ≡ true → v.wire x h ≡ []
      pub full : (i : ℕ) → IsHere config i → gone i ≡ false → formed (nodes_at config i) (v.node i) ≡ true
      -- so many packets are still to be taken
      pub more_is : total (length config) (weight phase) ≡ more

    pub weight_is : (phase : ℕ → Phase) (q : ℕ) → IsPeer_ q → weight phase q ≡ count (phase q)
    weight_is phase q there = of_peer config apart h here gone lost known (λ p. count (phase p)) q there

    weight_same : (phase later : ℕ → Phase) → ((q : ℕ) → IsPeer_ q → count (phase q) ≡ count (later q))
        → (k : ℕ) → k < length config → weight phase k ≡ weight later k
    weight_same phase later same k below = go (placed config apart h here gone lost known k below)
      where
        go : Placed config apart h here gone lost known k → weight phase k ≡ weight later k
        go (IsPeer there) = weight_is phase k there ∙ (same k there ∙ sym (weight_is later k there))
        go (IsNone none) = none (λ p. count (phase p)) ∙ sym (none (λ p. count (later p)))

    -- ---- a turn of the node of the change

    home_later : (v x : Bare) (t : NodeTurn) (phase : ℕ → Phase) (result : Result_ op u c phase t)
        → x.node h ≡ t.state → x.reported ≡ v.reported ++ (h, t.reported) ∷ [] → AtHome (x.node h) x.reported result.later
    home_later v x t phase result state reported = subst (λ s. AtHome s x.reported result.later) (sym state) (go result.after)
      where
        go : After all (name_at config) IsPeer_ (knows config apart h here gone lost known) op u c t.state t.reported.gave result.later
            → AtHome t.state x.reported result.later
        go (IsAtLock at) = Locks at
        go (IsAtUpdate at) = Updates at
        go (IsAtEnd at gave) = Ends at
            (subst (λ ts. IsAnsweredOk op (answers_by h ts)) (sym reported) (answered_now h op v.reported t.reported gave))

    -- it sends behind what is on the way
    sent_behind : (phase later : Phase) (xs : List Message) (way : List (Noticed Message)) → outs own c u phase ++ xs ≡ outs own c u later
        → way ≡ map Sent (outs own c u phase) → way ++ map Sent xs ≡ map Sent (outs own c u later)
    sent_behind phase later xs way goes is =
        ap (λ ys. ys ++ map Sent xs) is ∙ (sym (map-append Sent (outs own c u phase) xs) ∙ ap (map Sent) goes)

    pub record Before (v x : Bare) (t : NodeTurn) (phase : ℕ → Phase) : Type 0 where
      pub state : x.node h ≡ t.state
      pub knew : t.state.lost ≡ lost
      pub reported : x.reported ≡ v.reported ++ (h, t.reported) ∷ []
      pub sent : (q : ℕ) → IsPeer_ q → x.wire h q ≡ v.wire h q ++ map Sent (t.sends (name_at config q))
      pub nodes : (q : ℕ) → IsPeer_ q → x.node q ≡ v.node q
      pub out : (q : ℕ) → IsPeer_ q → v.wire h q ≡ map Sent (outs own c u (phase q))
      pub back : (q : ℕ) → IsPeer_ q → x.wire q h ≡ map Sent (backs own c u (phase q))
      pub free : (q : ℕ) → IsPeer_ q → needs_free (phase q) ≡ true → (v.node q).locks (name_of u) ≡ None
      pub others : (a b : ℕ) → is_pair (length config) a b ≡ true → gone b ≡ false → a ≢ h → b ≢ h → x.wire a b ≡ []
      pub from_lost : (a : ℕ) → is_pair (length config) a h ≡ true → gone a ≡ true → x.wire a h ≡ []
      pub full : (i : ℕ) → IsHere config i → gone i ≡ false → formed (nodes_at config i) (x.node i) ≡ true

    pub home_turn : (v x : Bare) (t : NodeTurn) (phase : ℕ → Phase) → Result_ op u c phase t → Before v x t phase
        → Alone x (total (length config) (weight phase))
    home_turn v x t phase result before = record {
      phase = result.later;
      home = home_later v x t phase result before.state before.reported;
      knew = ap (λ (s : State). s.lost) before.state ∙ before.knew;
      out = λ q there. before.sent q there
          ∙ sent_behind (phase q) (result.later q) (t.sends (name_at config q)) (v.wire h q) ((result.goes q there).out) (before.out q there);
      back = λ q there. before.back q there ∙ ap (map Sent) ((result.goes q there).back);
      free = λ q there e. ap (λ (s : State). s.locks (name_of u)) (before.nodes q there)
          ∙ before.free q there ((result.goes q there).free e);
      others = before.others;
      from_lost = before.from_lost;
      full = before.full;
      more_is = sym (total_same (length config) (weight phase) (weight result.later)
          (weight_same phase result.later (λ q there. (result.goes q there).as_many)));
    }

    -- ---- a packet that is taken

    -- one packet less is to be taken
    pub record Fewer (x : Bare) (more : ℕ) : Type 0 where
      pub now : ℕ
      pub is : more ≡ suc now
      pub alone : Alone x now

    weight_less : (phase later : ℕ → Phase) (p : ℕ) → IsPeer_ p → count (phase p) ≡ suc (count (later p))
        → ((q : ℕ) → p ≢ q → later q ≡ phase q)
        → total (length config) (weight phase) ≡ suc (total (length config) (weight later))
    weight_less phase later p there less same =
        total_less (length config) p (weight phase) (weight later) ((Decides-ltb p (length config)).0 (peer_here p there))
        (weight_is phase p there ∙ (less ∙ ap suc (sym (weight_is later p there))))
        (λ k below n. go k n (placed config apart h here gone lost known k below))
      where
        go : (k : ℕ) → k ≢ p → Placed config apart h here gone lost known k → weight phase k ≡ weight later k
        go k n (IsPeer this) = weight_is phase k this ∙ (ap count (sym (same k (λ e. n (sym e)))) ∙ sym (weight_is later k this))
        go k n (IsNone none) = none (λ q. count (phase q)) ∙ sym (none (λ q. count (later q)))

    -- a peer takes a packet of the node of the change
    module _ (v x : Bare) (i : ℕ) (there : IsPeer_ i) (happened : Happened (losing_machine_of config) v (Take i h) x)
        (more : ℕ) (alone : Alone v more) where
      abbrev changed : Changes {C = Action} (Take i h) happened.turn v x
      changed = changes (losing_machine_of config) v x (Take i h) happened

      abbrev phase : ℕ → Phase
      phase = alone.phase

      abbrev ways : List Message
      ways = outs own c u (alone.phase i)

      abbrev t : NodeTurn
      t = (turn config v x i h happened ways (alone.out i there)).0

      abbrev rest : List Message
      rest = (first config v x i h happened ways (alone.out i there)).1

      goes : PeerGoes own c u (phase i) rest t
      goes = peer_goes own c u (live_nodes (nodes_at config i) (v.node i)) (v.node i) t
          (first config v x i h happened ways (alone.out i there)).0 rest (phase i)
          (first config v x i h happened ways (alone.out i there)).2
          (formed_live (nodes_at config i) (v.node i) (alone.full i (peer_here i there) there.1)) (alone.free i there)
          (turn config v x i h happened ways (alone.out i there)).1

      abbrev later : ℕ → Phase
      later = upd nat_eq phase i goes.next

      home_apart : h ≢ i
      home_apart = peer_other i there

      put : (Q : Phase → Type 0) (q : ℕ) → (i ≡ q → Q goes.next) → (i ≢ q → Q (phase q)) → Q (later q)
      put Q q = at_upd nat_eq numbers Q phase i goes.next q

      home_then : AtHome (v.node h) v.reported phase → AtHome (v.node h) x.reported later
      home_then (Locks at) = Locks (record {
        lead = at.lead;
        st = at.st;
        is = at.is;
        stage = at.stage;
        peers = λ q this. put (Sees (at.st (name_at config q))) q
            (λ e. goes.sees (at.st (name_at config q)) (subst (λ z. Sees (at.st (name_at config q)) (phase z)) (sym e) (at.peers q this)))
            (λ _. at.peers q this);
        own = at.own;
        full = at.full;
      })
      home_then (Updates at) = Updates (record {
        n = at.n;
        replied = at.replied;
        is = at.is;
        stage = at.stage;
        peers = λ q this. put (SeesOk at.n (at.replied (name_at config q))) q
            (λ e. goes.sees_ok at.n (at.replied (name_at config q))
            (subst (λ z. SeesOk at.n (at.replied (name_at config q)) (phase z)) (sym e) (at.peers q this)))
            (λ _. at.peers q this);
        own = at.own;
      })
      home_then (Ends at ok) = Ends (record {
        stage = at.stage;
        peers = λ q this. put IsFreed q (λ e. goes.freed (subst (λ z. IsFreed (phase z)) (sym e) (at.peers q this))) (λ _. at.peers q this);
      }) (subst (λ ts. IsAnsweredOk op (answers_by h ts)) (sym (reported_is config v x i h happened ways (alone.out i there)))
          (answered_more h op v.reported ((i, t.reported) ∷ []) ok))

      untaken : (q : ℕ) → i ≢ q → x.wire h q ≡ v.wire h q
      untaken q n = changed.ways h q home_apart (λ both. n both.1)

      sent_to : (q : ℕ) → IsHere config q → x.wire i q ≡ v.wire i q ++ map Sent (t.sends (name_at config q))
      sent_to = sent_is config v x i h happened ways (alone.out i there)

      other_way : (a b : ℕ) → is_pair (length config) a b ≡ true → gone b ≡ false → a ≢ h → b ≢ h → (a ≡ i) ⊎ (a ≢ i) → x.wire a b ≡ []
      other_way a b pair alive an bn (inl e) =
          let this = pair_second (length config) a b pair in
          subst (λ z. x.wire z b ≡ []) (sym e)
          (sent_to b this
          ∙ (ap (λ xs. v.wire i b ++ map Sent xs) (goes.else (name_at config b) (names_differ h b here this (λ e. bn (sym e))))
          ∙ (append-nil (v.wire i b) ∙ subst (λ z. v.wire z b ≡ []) e (alone.others a b pair alive an bn))))
      other_way a b pair alive an bn (inr n) = changed.ways a b n (λ both. an (sym both.0)) ∙ alone.others a b pair alive an bn

      back_way : x.wire i h ≡ map Sent (backs own c u goes.next)
      back_way = sent_to h here ∙ (ap (λ xs. xs ++ map Sent (t.sends own)) (alone.back i there)
          ∙ (sym (map-append Sent (backs own c u (phase i)) (t.sends own)) ∙ ap (map Sent) goes.back))

      pub peer_took : Fewer x more
      peer_took = record {
        now = total (length config) (weight later);
        is = sym alone.more_is ∙ weight_less phase later i there
            (goes.fewer ∙ ap (λ z. suc (count z)) (sym (upd_at nat_eq numbers phase i goes.next i refl)))
            (λ q n. upd_other nat_eq numbers phase i goes.next q n);
        alone = record {
          phase = later;
          home = subst (λ s. AtHome s x.reported later) (sym (changed.states h home_apart)) (home_then alone.home);
          knew = ap (λ (s : State). s.lost) (changed.states h home_apart) ∙ alone.knew;
          out = λ q this. put (λ z. x.wire h q ≡ map Sent (outs own c u z)) q
              (λ e. subst (λ z. x.wire h z ≡ map Sent (outs own c u goes.next)) e
              ((first config v x i h happened ways (alone.out i there)).4 ∙ ap (map Sent) goes.no_more))
              (λ n. untaken q n ∙ alone.out q this);
          back = λ q this. put (λ z. x.wire q h ≡ map Sent (backs own c u z)) q
              (λ e. subst (λ z. x.wire z h ≡ map Sent (backs own c u goes.next)) e back_way)
              (λ n. changed.ways q h (λ e. n (sym e)) (λ both. peer_other q this both.0) ∙ alone.back q this);
          free = λ q this. put (λ z. needs_free z ≡ true → (x.node q).locks (name_of u) ≡ None) q
              (λ _ e. absurd (clash (sym e ∙ goes.lent)))
              (λ n e. ap (λ (s : State). s.locks (name_of u)) (changed.states q (λ same. n (sym same))) ∙ alone.free q this e);
          others = λ a b pair alive an bn. other_way a b pair alive an bn (cases_eq a i);
          from_lost = λ a pair away. changed.ways a h (λ e. clash (sym away ∙ (ap gone e ∙ there.1)))
              (λ both. pair_apart (length config) a h pair (sym both.0)) ∙ alone.from_lost a pair away;
          full = λ j this alive. full_later config v x (Take i h) happened j (alone.full j this alive);
          more_is = refl;
        };
      }

    -- the node takes a reply of a peer
    module _ (v x : Bare) (p : ℕ) (there : IsPeer_ p) (happened : Happened (losing_machine_of config) v (Take h p) x)
        (more : ℕ) (alone : Alone v more) where
      abbrev altered : Changes {C = Action} (Take h p) happened.turn v x
      altered = changes (losing_machine_of config) v x (Take h p) happened

      abbrev s : State
      s = v.node h

      abbrev then_phase : ℕ → Phase
      then_phase = alone.phase

      abbrev replies : List Message
      replies = backs own c u (alone.phase p)

      abbrev packet : Message
      packet = (first config v x h p happened replies (alone.back p there)).0

      abbrev behind : List Message
      behind = (first config v x h p happened replies (alone.back p there)).1

      -- its peers are those that it does not see lost
      counting : live_nodes (nodes_at config h) s ≡ all
      counting = ap (λ (f : Node → Bool). record { own = own; peers = filter (λ q. not (f q)) (nodes_at config h).peers }) alone.knew

      -- and goes on with the peer in a new phase
      home_took : (old new : Phase) → then_phase p ≡ old → count old ≡ suc (count new) → outs own c u old ≡ outs own c u new
          → needs_free new ≡ false → behind ≡ backs own c u new → (t : NodeTurn) → taken all (name_at config p) packet s ≡ Ok t
          → Result_ op u c (upd nat_eq then_phase p new) t → Fewer x more
      home_took old new was fewer same_out lent back t made result = record {
        now = total (length config) (weight later);
        is = sym alone.more_is ∙ weight_less then_phase later p there
            (ap count was ∙ (fewer ∙ ap (λ z. suc (count z)) (sym (upd_at nat_eq numbers then_phase p new p refl))))
            (λ q n. upd_other nat_eq numbers then_phase p new q n);
        alone = home_turn v x t later result (record {
          state = state_is config v x h p happened replies (alone.back p there) ∙ ap (λ (z : NodeTurn). z.state) same;
          knew = ap (λ (z : NodeTurn). z.state.lost) (sym same)
              ∙ (known_is config v x h p happened replies (alone.back p there) ∙ alone.knew);
          reported = reported_is config v x h p happened replies (alone.back p there)
              ∙ ap (λ (z : NodeTurn). v.reported ++ (h, z.reported) ∷ []) same;
          sent = λ q this. sent_is config v x h p happened replies (alone.back p there) q (peer_here q this)
              ∙ ap (λ (z : NodeTurn). v.wire h q ++ map Sent (z.sends (name_at config q))) same;
          nodes = λ q this. altered.states q (λ e. peer_other q this (sym e));
          out = λ q this. at_upd nat_eq numbers (λ z. v.wire h q ≡ map Sent (outs own c u z)) then_phase p new q
              (λ e. subst (λ z. v.wire h z ≡ map Sent (outs own c u new)) e
              (alone.out p there ∙ ap (λ z. map Sent (outs own c u z)) was ∙ ap (map Sent) same_out)) (λ _. alone.out q this);
          back = λ q this. at_upd nat_eq numbers (λ z. x.wire q h ≡ map Sent (backs own c u z)) then_phase p new q
              (λ e. subst (λ z. x.wire z h ≡ map Sent (backs own c u new)) e
              ((first config v x h p happened replies (alone.back p there)).4 ∙ ap (map Sent) back))
              (λ n. altered.ways q h (λ e. peer_other q this (sym e)) (λ both. n both.0) ∙ alone.back q this);
          free = λ q this. at_upd nat_eq numbers (λ z. needs_free z ≡ true → (v.node q).locks (name_of u) ≡ None) then_phase p new q
              (λ _ e. absurd (clash (sym e ∙ lent))) (λ _. alone.free q this);
          others = λ a b pair alive an bn. altered.ways a b an (λ both. bn (sym both.1)) ∙ alone.others a b pair alive an bn;
          from_lost = λ a pair away. altered.ways a h (pair_apart (length config) a h pair)
              (λ both. clash (sym away ∙ (ap gone (sym both.0) ∙ there.1))) ∙ alone.from_lost a pair away;
          full = λ j this alive. full_later config v x (Take h p) happened j (alone.full j this alive);
        });
      }
        where
          later : ℕ → Phase
          later = upd nat_eq then_phase p new

          same : (turn config v x h p happened replies (alone.back p there)).0 ≡ t
          same = ok_is (sym (turn config v x h p happened replies (alone.back p there)).1
              ∙ (ap (λ z. taken z (name_at config p) packet s) counting ∙ made))

      -- a reply under a reference of its own
      reply_is : (k : ℕ) (said : Said) → reply_taken all (name_at config p) (numbered own k) said s ≡ reply_under (s.uses k) all (name_at config p) k said s
      reply_is k said = λ i. reply_under (use_is own all.peers k s i) all (name_at config p) (number_is own k i) said s

      granted_took : then_phase p ≡ Given → packet ≡ Reply (numbered own c) Granted → behind ≡ [] → AtHome s v.reported then_phase → Fewer x more
      granted_took was is none (Locks at) =
          let asked : at.st (name_at config p) ≡ Asked = sees_given (at.st (name_at config p)) (subst (Sees (at.st (name_at config p))) was (at.peers p there)) in
          home_took Given Owned was refl refl refl none
          (and_then (count_answer c op u at.lead at.st (name_at config p) Yes s) (λ z. go_on all c (z.uses c) z))
          (ap (λ z. taken all (name_at config p) z s) is ∙ (reply_is c Granted ∙ (ap (λ z. reply_under z all (name_at config p) c Granted s) at.is
          ∙ ap (λ z. reply_by (what_of true (lock_entry z (same_atom at.lead (name_at config p)))) true (Locking op u at.lead at.st) all (name_at config p) c Granted s) asked)))
          (granted_result all (name_at config) IsPeer_ (knows config apart h here gone lost known) op u c s then_phase at p there)
      granted_took was is none (Updates at) =
          absurd (given_no_ok at.n (at.replied (name_at config p)) (subst (SeesOk at.n (at.replied (name_at config p))) was (at.peers p there)))
      granted_took was is none (Ends at ok) = absurd (subst IsFreed was (at.peers p there))

      confirmed_took : (k : ℕ) → then_phase p ≡ Confirmed k → packet ≡ Reply (numbered own k) Applied → behind ≡ [] → AtHome s v.reported then_phase → Fewer x more
      confirmed_took k was is none (Updates at) =
          let new = confirmed_ok at.n k (at.replied (name_at config p)) (subst (SeesOk at.n (at.replied (name_at config p))) was (at.peers p there)) in
          home_took (Confirmed k) Done was refl refl refl none
          (and_then (count_ok at.n op u c at.replied (name_at config p) s) (λ z. replies_in all at.n (z.uses at.n) z))
          (ap (λ z. taken all (name_at config p) z s) (is ∙ ap (λ z. Reply (numbered own z) Applied) new.0)
          ∙ (reply_is at.n Applied ∙ (ap (λ z. reply_under z all (name_at config p) at.n Applied s) at.is
          ∙ ap (λ b. reply_by (what_of {R = Said} true (Some (cond b (Some Applied) None))) true (Updating op u c at.replied) all (name_at config p) at.n Applied s) new.1)))
          (confirmed_result all (name_at config) IsPeer_ (knows config apart h here gone lost known) op u c s then_phase at p there)
      confirmed_took k was is none (Locks at) =
          absurd (confirmed_unseen k (at.st (name_at config p)) (subst (Sees (at.st (name_at config p))) was (at.peers p there)))
      confirmed_took k was is none (Ends at ok) = absurd (subst IsFreed was (at.peers p there))

      took_as : (z : Phase) → then_phase p ≡ z → backs own c u z ≡ packet ∷ behind → Fewer x more
      took_as Given was e = let same = first_of_two (sym e) in granted_took was same.0 same.1 alone.home
      took_as (Confirmed k) was e = let same = first_of_two (sym e) in confirmed_took k was same.0 same.1 alone.home
      took_as Ahead was e = absurd (cc)
      took_as Wanted was e = absurd (cc)
      took_as Owned was e = absurd (cc)
      took_as (Told n) was e = absurd (cc)
      took_as Done was e = absurd (cc)
      took_as Freed was e = absurd (cc)
      took_as Over was e = absurd (cc)

      pub home_takes : Fewer x more
      home_takes = took_as (then_phase p) refl ((first config v x h p happened replies (alone.back p there)).2)

    -- whichever live node takes a packet
    pub takes : (v x : Bare) (i p : ℕ) (happened : Happened (losing_machine_of config) v (Take i p) x) → gone i ≡ false
        → (more : ℕ) → Alone v more → Fewer x more
    takes v x i p happened alive more alone = go (cases_eq i h) (cases_eq p h) (gone p) refl
      where
        pair : is_pair (length config) i p ≡ true
        pair = happened.there

        packet : (packet : Noticed Message) × (v.wire p i ≡ packet ∷ x.wire p i)
        packet = (changes (losing_machine_of config) v x (Take i p) happened).taken p i (refl, refl)

        nothing : v.wire p i ≡ [] → Fewer x more
        nothing none = let one = sym none ∙ packet.1 in absurd (cc)

        go : (i ≡ h) ⊎ (i ≡ h → ⊥) → (p ≡ h) ⊎ (p ≡ h → ⊥) → (b : Bool) → gone p ≡ b → Fewer x more
        go (inl e) _ true away = nothing (subst (λ z. v.wire p z ≡ []) (sym e)
            (alone.from_lost p (subst (λ z. is_pair (length config) p z ≡ true) e (pair_swapped (length config) i p pair)) away))
        go (inl e) _ false left_ = home_takes v x p (subst (λ z. is_pair (length config) z p ≡ true) e pair, left_)
            (subst (λ z. Happened (losing_machine_of config) v (Take z p) x) e happened) more alone
        go (inr n) (inl e) _ _ = peer_took v x i
            (subst (λ z. is_pair (length config) z i ≡ true) e (pair_swapped (length config) i p pair), alive)
            (subst (λ z. Happened (losing_machine_of config) v (Take i z) x) e happened) more alone
        go (inr n) (inr k) _ _ = nothing (alone.others p i (pair_swapped (length config) i p pair) alive k n)
