-- A packet that is first on a way was none that its node would have refused as no message before.
use Rattle.std.proofs.Common.{◌≡◌, ◌≢◌, ◌+◌, ℕ, Bool, true, false, not, ◌||◌, cond, max, nat_le}
use Rattle.std.proofs.Common.{length, List, ◌∷◌, ◌++◌, None, Result, Ok, Err, refl, ap, sym, ◌∙◌}
use Rattle.std.specs.List.{IsDistinct}
use Rattle.pg_term.specs.RefParts.{RefParts, ref_eq}
use Rattle.pg_term.specs.Same.{same_atom}
use Rattle.pg_step.specs.PgRefs.Numbered.{number_in}
use Rattle.pg_step.specs.PgMulticall.Gathered.{what_of}
use Rattle.pg_step.specs.PgMulticall.declared.gather.Taken.{Taken}
use Rattle.pg_step.specs.PgMulticall.declared.gather.Taken.TheVariants as what
use Rattle.pg_step.specs.PgMessageTypes.declared.message.Message.{Message}
use Rattle.pg_step.specs.PgMessageTypes.declared.message.Message.TheVariants.{Call, Reply, DelLock, Exchange, Down}
use Rattle.pg_step.specs.PgMessageTypes.declared.message.Request.TheVariants.{SetLock, Change}
use Rattle.pg_step.specs.PgMessageTypes.declared.message.Said.{Said}
use Rattle.pg_step.specs.Machines.Clocked.{Stamped, plain, packets_of}
use Rattle.pg_step.specs.Machines.Machine.{Event, start_of}
use Rattle.pg_step.specs.Machines.Places.{is_pair}
use Rattle.pg_step.specs.Machines.Runs.{Leads}
use Rattle.pg_step.proofs.Machines.Sequences.{whole}
use Rattle.pg_step.specs.Nodes.{Node, Nodes}
use Rattle.pg_step.specs.State.{State, Use}
use Rattle.pg_step.specs.State.Use.{Fresh, Locking, Owning, Updating, Spent}
use Rattle.pg_step.specs.Turns.{NodeTurn}
use Rattle.pg_step.specs.Peers.{exchange}
use Rattle.pg_step.specs.Attempts.{own_reference, gathered, is_kind, is_of_lock, reply_by, reply_under, use_of}
use Rattle.pg_step.specs.Step.{CLOCK_LIMIT, Action, TimedTurn, at_clock, timed, taken, step_take, node_takes}
use Rattle.pg_step.specs.Config.{Config, names_of, name_at, nodes_at}
use Rattle.pg_step.specs.FrameMachine.{placed, frame_machine}
use Rattle.pg_step.specs.declared.refusal.Refusal.{Refusal}
use Rattle.pg_step.specs.declared.refusal.Refusal.TheVariants.{NotAMessage, NoSuchPlace}
use Rattle.pg_step.specs.declared.refusal.Refusal.TheVariants.{NotWaiting, NodeLost, ClockFull}
use Rattle.pg_laws.specs.Reached.{TimedFrameWorld, Reaches}
use Rattle.pg_laws.specs.ReferencesFit.{UseFollows}
use Rattle.pg_laws.proofs.steps.Single.{Makes, ok_is}
use Rattle.pg_laws.proofs.steps.Lossless.{takes_all, nobody_timed}
use Rattle.pg_laws.proofs.steps.Lasting.{stay_merged}
use Rattle.pg_laws.proofs.references.UsedOnce.{follows_timed}
use Rattle.pg_laws.proofs.ends.Apart.{pair_first, pair_second}
use Rattle.pg_laws.proofs.locks.Moved.{takes_even}
use Rattle.pg_laws.proofs.places.Bridged.{live_at, near_at}
use Rattle.pg_laws.proofs.places.Clauses.{bridge, harmless}

-- ---- a reply

-- a use under which replies of this kind are gathered
abbrev IsGathering : Use → Said → Type 0
IsGathering (Locking op u lead st) said = is_of_lock said ≡ true
IsGathering (Updating op u c replied) said = not (is_of_lock said) ≡ true
IsGathering _ said = ⊥

-- the kind stays the same as long as the reference is in use
same_kind : (a b : Use) (said : Said) → UseFollows a b → IsGathering b said → is_kind a said ≡ true
same_kind Fresh b said f g = refl
same_kind (Owning name n) b said f g = refl
same_kind Spent b said f g = refl
same_kind (Locking op u lead st) (Locking op2 u2 lead2 st2) said f g = g
same_kind (Locking op u lead st) Fresh said f g = absurd f
same_kind (Locking op u lead st) (Owning name n) said f g = absurd g
same_kind (Locking op u lead st) (Updating op2 u2 c2 replied2) said f g = absurd f
same_kind (Locking op u lead st) Spent said f g = absurd g
same_kind (Updating op u c replied) (Updating op2 u2 c2 replied2) said f g = g
same_kind (Updating op u c replied) Fresh said f g = absurd f
same_kind (Updating op u c replied) (Locking op2 u2 lead2 st2) said f g = absurd f
same_kind (Updating op u c replied) (Owning name n) said f g = absurd f
same_kind (Updating op u c replied) Spent said f g = absurd g

module _ (m : Nodes) (p : Node) (n : ℕ) (said : Said) where
  -- a reply of the kind that is gathered is no bad message
  no_bad_kind : (used : Use) (s : State) → is_kind used said ≡ true → reply_under used m p n said s ≢ Err NotAMessage
  no_bad_kind used s kind = go (what_of true (gathered used p)) (is_kind used said) kind
    where
      go : (w : Taken) (b : Bool) → b ≡ true → reply_by w b used m p n said s ≡ Err NotAMessage → ⊥
      go what.Stranger b k e = absurd (cc)
      go what.Double true k e = absurd (cc)
      go what.Counted true k e = absurd (cc)
      go what.Double false k e = absurd (cc)
      go what.Counted false k e = absurd (cc)

  module _ (s : State) (t : NodeTurn) (even : t.reported.odd ≡ None) where
    not_strange : (used : Use) (w : Taken) (b : Bool) → reply_by w b used m p n said s ≡ Ok t → b ≡ true
    not_strange used what.Stranger b e = let odd = ap (λ (u : NodeTurn). u.reported.odd) (ok_is e) in absurd (cc)
    not_strange used what.Double true e = refl
    not_strange used what.Counted true e = refl
    not_strange used what.Double false e = absurd (cc)
    not_strange used what.Counted false e = absurd (cc)

    -- a reply that is not odd is of the kind that is gathered
    gathering : (used : Use) → reply_under used m p n said s ≡ Ok t → IsGathering used said
    gathering (Locking op u lead st) e = not_strange (Locking op u lead st) (what_of true (gathered (Locking op u lead st) p)) (is_of_lock said) e
    gathering (Updating op u c replied) e = not_strange (Updating op u c replied) (what_of true (gathered (Updating op u c replied) p)) (not (is_of_lock said)) e
    gathering Fresh e = let odd = ap (λ (u : NodeTurn). u.reported.odd) (ok_is e) in absurd (cc)
    gathering (Owning name c) e = let odd = ap (λ (u : NodeTurn). u.reported.odd) (ok_is e) in absurd (cc)
    gathering Spent e = let odd = ap (λ (u : NodeTurn). u.reported.odd) (ok_is e) in absurd (cc)

-- ---- any message

module _ (m : Nodes) (p : Node) (s v : State) (merged : (q : Node) → s.merged q ≡ true → v.merged q ≡ true) (follows : (c : ℕ) → UseFollows (s.uses c) (v.uses c)) where
  use_follows : (r : RefParts) → UseFollows (use_of m r s) (use_of m r v)
  use_follows r = go (ref_eq (own_reference m (number_in r)) r) (follows (number_in r))
    where
      go : (b : Bool) → UseFollows (s.uses (number_in r)) (v.uses (number_in r)) → UseFollows (cond b (s.uses (number_in r)) Spent) (cond b (v.uses (number_in r)) Spent)
      go true f = f
      go false f = tt

  -- what is taken later, and is no odd reply, was no bad message before
  good_before : (x : Message) (t : NodeTurn) → taken m p x v ≡ Ok t → t.reported.odd ≡ None → taken m p x s ≢ Err NotAMessage
  good_before (Call r (SetLock name)) t later even e = cc
  good_before (Call r (Change update)) t later even e = cc
  good_before (DelLock name r) t later even e = cc
  good_before (Down pid) t later even e = cc
  good_before (Reply r said) t later even e =
      no_bad_kind m p (number_in r) said (use_of m r s) s
      (same_kind (use_of m r s) (use_of m r v) said (use_follows r) (gathering m p (number_in r) said v t even (use_of m r v) later)) e
  good_before (Exchange node groups) t later even e = go (same_atom node p) (s.merged p) (v.merged p) (merged p) later e
    where
      go : (a b c : Bool) → (b ≡ true → c ≡ true) → cond (not a || c) (Err NotAMessage) (Ok (exchange p groups v)) ≡ Ok t
          → cond (not a || b) (Err NotAMessage) (Ok (exchange p groups s)) ≡ Err NotAMessage → ⊥
      go true false c stays l f = absurd (cc)
      go true true true stays l f = absurd (cc)
      go true true false stays l f = let never = stays refl in absurd (cc)
      go false b c stays l f = absurd (cc)

-- ---- runs

module _ (config : Config) (apart : IsDistinct same_atom (names_of config)) (i p : ℕ) (pair : is_pair (length config) i p ≡ true) where
  some_turn : (r : Result NodeTurn Refusal) → placed config r ≢ None → (t : NodeTurn) × Makes r t
  some_turn (Ok t) some = (t, refl)
  some_turn (Err refusal) some = absurd (some refl)

  -- what a node makes of the first packet on a way, which is no odd reply
  first_taken : (events : List (Event Action)) (w : TimedFrameWorld) → Reaches config events w → (x : Message) (rest : List Message) → (plain w).wire p i ≡ x ∷ rest
      → (t : NodeTurn) × Makes (taken (nodes_at config i) (name_at config p) x (w.node i).state) t × (t.reported.odd ≡ None)
  first_taken events w l x rest is =
      let b = bridge config apart events w l in
      let v = b.has.world in
      let s = b.has.shows in
      let here = pair_first (length config) i p pair in
      let there = pair_second (length config) i p pair in
      let made = some_turn (node_takes (nodes_at config i) (name_at config p) x (w.node i).state) ((harmless config apart events w l).packets i p x rest pair is) in
      let taken_so = sym (takes_all (nodes_at config i) (name_at config p) x (w.node i).state (b.nobody i)) ∙ made.1 in (
        made.0,
        taken_so,
        takes_even v (name_at config i) (name_at config p) x rest made.0 (live_at config apart (plain w) v i s here) (near_at config apart (plain w) v i p s here there) b.has.inv (s.wire p i there here ∙ is)
            ((λ k. taken (s.seat i here k) (name_at config p) x (s.node i here k)) ∙ taken_so),
      )

  -- what is refused as no message is refused so without a clock
  refused_so : (clock : ℕ) (r : Result NodeTurn Refusal) → timed clock r ≡ Err NotAMessage → r ≡ Err NotAMessage
  refused_so clock (Ok t) e = absurd (go (nat_le clock CLOCK_LIMIT) e)
    where
      go : (b : Bool) → ◌≡◌ {A = Result TimedTurn Refusal} (cond b (Ok (at_clock clock t)) (Err ClockFull)) (Err NotAMessage) → ⊥
      go true f = absurd (cc)
      go false f = absurd (cc)
  refused_so clock (Err NoSuchPlace) e = absurd (cc)
  refused_so clock (Err NotWaiting) e = absurd (cc)
  refused_so clock (Err NodeLost) e = absurd (cc)
  refused_so clock (Err fault) e = go (nat_le clock CLOCK_LIMIT) e
    where
      go : (b : Bool) → ◌≡◌ {A = Result TimedTurn Refusal} (cond b (Err fault) (Err ClockFull)) (Err NotAMessage) → ◌≡◌ {A = Result NodeTurn Refusal} (Err fault) (Err NotAMessage)
      go true f = let same : fault ≡ NotAMessage = cc in ap (λ z. Err z) same
      go false f = absurd (cc)

  pub welcome_before : (m w : TimedFrameWorld) (before events : List (Event Action)) (x : Stamped Message) (rest : List (Stamped Message)) → Reaches config before m → Leads (frame_machine config) m events w
      → w.wire p i ≡ x ∷ rest → step_take (nodes_at config i) (name_at config p) x (m.node i) ≢ Err NotAMessage
  welcome_before m w before events x rest reached l is refused =
      let nodes = nodes_at config i in
      let name = name_at config p in
      let s = (m.node i).state in
      let made = first_taken (before ++ events) w (whole (frame_machine config) before events (start_of (frame_machine config)) m w reached l) x.packet (packets_of rest) (ap packets_of is) in
      good_before nodes name s (w.node i).state (λ q. stay_merged config m w events i q l) (λ c. follows_timed config m w before events i c reached l) x.packet made.0 made.1 made.2
      (sym (takes_all nodes name x.packet s (nobody_timed config before m reached i)) ∙ refused_so (max (m.node i).clock x.stamp + 1) (node_takes nodes name x.packet s) refused)
