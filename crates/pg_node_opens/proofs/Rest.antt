-- The rest is asked for the lock, and no answer is missing then: where the own node denies, the attempt is given up as if it had
-- not been asked.
use Rattle.std.proofs.Common.{◌≡◌, ℕ, Bool, true, false, not, ◌&&◌, ◌||◌, cond}
use Rattle.std.proofs.Common.{nat_eq, List, [], ◌∷◌, ◌++◌, refl, ap, sym, ◌∙◌}
use Rattle.std.specs.List.{list_any, list_all}
use Rattle.std.proofs.Math.Path.{fun_ext}
use Rattle.pg_term.specs.Same.{same_atom}
use Rattle.pg_step.specs.PgGroup.declared.update.Update.{Update}
use Rattle.pg_step.specs.PgGroup.Functions.{upd}
use Rattle.pg_step.specs.PgGroup.Value.{name_of}
use Rattle.pg_step.specs.PgLock.Attempts.{after_round, does_wait}
use Rattle.pg_step.specs.PgLock.declared.attempt.Attempt.TheVariants.{AskingFirst, AskingRest}
use Rattle.pg_step.specs.PgLock.Locks.{after_ask, given_up, is_holder}
use Rattle.pg_step.specs.PgMessageTypes.declared.message.Message.{Message}
use Rattle.pg_step.specs.PgMessageTypes.declared.message.Message.TheVariants.{Call, DelLock}
use Rattle.pg_step.specs.PgMessageTypes.declared.message.Request.TheVariants.{SetLock}
use Rattle.pg_step.specs.declared.command.OpId.{OpId}
use Rattle.pg_step.specs.Nodes.{Node, Nodes, all_of, is_node, is_peer, to_peers}
use Rattle.pg_step.specs.State.{State, Status, Use}
use Rattle.pg_step.specs.State.Status.{Unasked, Asked, Yes, No}
use Rattle.pg_step.specs.State.Use.{Locking, Spent}
use Rattle.pg_step.specs.Turns.{NodeTurn, nothing, and_then}
use Rattle.pg_step.specs.Peers.{would_grant}
use Rattle.pg_step.specs.Attempts.{is_unasked, is_asked, is_yes, is_no, asks, none_missing, none_denied}
use Rattle.pg_step.specs.Attempts.{all_granted, with_asked, own_verdict, own_reference, ask, give_up}
use Rattle.pg_node_opens.proofs.Named.{atom_is, atom_self, clash}

-- in both rounds a command waits exactly where one has denied
pub waits_not : (rest none_denied : Bool) → not (does_wait (after_round (cond rest AskingRest AskingFirst) none_denied)) ≡ none_denied
waits_not true true = refl
waits_not true false = refl
waits_not false true = refl
waits_not false false = refl

-- ---- tests of all nodes

pub passes : (test : Node → Bool) (q : Node) (ns : List Node) → list_all test ns ≡ true → list_any (same_atom q) ns ≡ true → test q ≡ true
passes test q [] all here = absurd (clash (sym here))
passes test q (n ∷ ns) all here = go (passes test q ns) (test n) (same_atom q n) refl refl all here
  where
    go : (list_all test ns ≡ true → list_any (same_atom q) ns ≡ true → test q ≡ true) → (b c : Bool) → test n ≡ b → same_atom q n ≡ c → (b && list_all test ns) ≡ true → (c || list_any (same_atom q) ns) ≡ true → test q ≡ true
    go later false c is same all here = absurd (clash (sym all))
    go later true true is same all here = ap test (atom_is q n same) ∙ is
    go later true false is same all here = later all here

pub all_pass : (test : Node → Bool) (ns : List Node) → ((q : Node) → list_any (same_atom q) ns ≡ true → test q ≡ true) → list_all test ns ≡ true
all_pass test [] each = refl
all_pass test (n ∷ ns) each = (λ i. each n (ap (λ b. b || list_any (same_atom n) ns) (atom_self n)) i && all_pass test ns (λ q here. each q (later (same_atom q n) (list_any (same_atom q) ns) here)) i)
  where
    later : (b c : Bool) → c ≡ true → (b || c) ≡ true
    later true c e = refl
    later false c e = e

-- a function changed twice at a key
twice : (f : ℕ → Use) (c : ℕ) (used later : Use) → upd nat_eq (upd nat_eq f c used) c later ≡ upd nat_eq f c later
unfolding upd
twice f c used later = fun_ext (λ x. go (nat_eq c x) (f x))
  where
    go : (b : Bool) (u : Use) → cond b later (cond b used u) ≡ cond b later u
    go true u = refl
    go false u = refl

pub peer_node : (m : Nodes) (q : Node) → is_peer m q ≡ true → is_node m q ≡ true
peer_node m q peer = ap (λ b. same_atom q m.own || b) peer ∙ go (same_atom q m.own)
  where
    go : (b : Bool) → (b || true) ≡ true
    go true = refl
    go false = refl

-- ---- the rest is asked

module _ (m : Nodes) (apart : (q : Node) → is_peer m q ≡ true → same_atom m.own q ≡ false) (st : Node → Status) where
  abbrev then : Bool → Node → Status
  then granted = with_asked m (λ q. true) st granted

  -- a peer that was not asked is asked now
  peer_asked : (granted : Bool) (q : Node) → is_peer m q ≡ true → st q ≡ Unasked → then granted q ≡ Asked
  peer_asked granted q peer unasked = (λ i. cond ((same_atom q m.own || peer i) && is_unasked (unasked i)) (cond (apart q peer i) (own_verdict granted) Asked) (unasked i)) ∙ go (same_atom q m.own)
    where
      go : (b : Bool) → cond ((b || true) && true) Asked Unasked ≡ Asked
      go true = refl
      go false = refl

  -- where nothing is missing then, each peer was asked
  peers_were : (granted : Bool) (q : Node) → none_missing m (then granted) ≡ true → is_peer m q ≡ true → is_unasked (st q) ≡ false
  peers_were granted q complete peer = go (st q) refl
    where
      go : (u : Status) → st q ≡ u → is_unasked u ≡ false
      go Unasked e = absurd (clash (sym (passes (λ q. not (is_asked (then granted q))) q (all_of m) complete (peer_node m q peer)) ∙ ap (λ u. not (is_asked u)) (peer_asked granted q peer e)))
      go Asked e = refl
      go Yes e = refl
      go No e = refl

  -- where the own node would grant, all have granted
  all_have : none_missing m (then true) ≡ true → none_denied m st ≡ true → all_granted m (then true) ≡ true
  all_have complete undenied = all_pass (λ q. is_yes (then true q)) (all_of m) (λ q here. one q here (passes (λ q. not (is_asked (then true q))) q (all_of m) complete here) (passes (λ q. not (is_no (st q))) q (all_of m) undenied here))
    where
      one : (q : Node) → is_node m q ≡ true → not (is_asked (then true q)) ≡ true → not (is_no (st q)) ≡ true → is_yes (then true q) ≡ true
      one q here answered granted = go (is_node m q) (same_atom m.own q) (st q) here answered granted
        where
          go : (n o : Bool) (u : Status) → n ≡ true → not (is_asked (cond (n && is_unasked u) (cond o Yes Asked) u)) ≡ true → not (is_no u) ≡ true → is_yes (cond (n && is_unasked u) (cond o Yes Asked) u) ≡ true
          go false o u e a d = absurd (clash (sym e))
          go true true Unasked e a d = refl
          go true false Unasked e a d = absurd (clash (sym a))
          go true o Asked e a d = absurd (clash (sym a))
          go true o Yes e a d = refl
          go true o No e a d = absurd (clash (sym d))

  -- nothing is sent to those who were asked
  pub asks_nobody : (granted : Bool) (message : Message) (q : Node) → none_missing m (then granted) ≡ true → to_peers m (asks (λ q. true) st) message q ≡ []
  asks_nobody granted message q complete = go (is_peer m q) refl
    where
      go : (b : Bool) → is_peer m q ≡ b → cond (b && is_unasked (st q)) (message ∷ []) [] ≡ []
      go true e = ap (λ u. cond u (message ∷ []) []) (peers_were granted q complete e)
      go false e = refl

  -- whom the own node's no is of no matter
  same_yes : (q : Node) → is_yes (then false q) ≡ is_yes (st q)
  same_yes q = go (is_node m q) (same_atom m.own q) (st q)
    where
      go : (n o : Bool) (u : Status) → is_yes (cond (n && is_unasked u) (cond o No Asked) u) ≡ is_yes u
      go true true Unasked = refl
      go true false Unasked = refl
      go true o Asked = refl
      go true o Yes = refl
      go true o No = refl
      go false o u = refl

  -- where none has denied, all have answered and not all have granted, the own node denies
  denies : (granted : Bool) → none_denied m st ≡ true → none_missing m (then granted) ≡ true → all_granted m (then granted) ≡ false → granted ≡ false
  denies false undenied complete denied = refl
  denies true undenied complete denied = absurd (clash (sym (all_have complete undenied) ∙ denied))

  module _ (c : ℕ) (op : OpId) (update : Update) (first : Node) (s : State) where
    abbrev would : Bool
    would = would_grant m s (name_of update)

    abbrev given_up_later : NodeTurn
    given_up_later = and_then (ask m (λ q. true) c op update first st s) (give_up m c op update (then would))

    -- the own node's denial, marked or not, changes nothing of whose lock is freed
    given_up_by : would ≡ false → none_missing m (then would) ≡ true → given_up_later ≡ give_up m c op update st s
    given_up_by denying complete = λ i. record {
      state = record s {
        locks = (ap (λ h. given_up (is_yes (then would m.own) && is_holder (h (name_of update)) (own_reference m c)) h (name_of update)) unasked
            ∙ ap (λ b. given_up (b && is_holder (s.locks (name_of update)) (own_reference m c)) s.locks (name_of update)) yes) i;
        uses = twice s.uses c (Locking op update first (then would)) Spent i;
        stages = (give_up m c op update st s).state.stages;
      };
      sends = fun_ext sent i;
      reported = nothing;
    }
      where
        unasked : after_ask (asks (λ q. true) st m.own && would) s.locks (name_of update) (own_reference m c) ≡ s.locks
        unasked = ap (λ b. after_ask (asks (λ q. true) st m.own && b) s.locks (name_of update) (own_reference m c)) denying ∙ go (is_unasked (st m.own))
          where
            go : (b : Bool) → after_ask (b && false) s.locks (name_of update) (own_reference m c) ≡ s.locks
            go true = refl
            go false = refl

        yes : is_yes (then would m.own) ≡ is_yes (st m.own)
        yes = ap (λ b. is_yes (then b m.own)) denying ∙ same_yes m.own

        sent : (q : Node) → given_up_later.sends q ≡ (give_up m c op update st s).sends q
        sent q = (λ i. asks_nobody would (Call (own_reference m c) (SetLock (name_of update))) q complete i ++ to_peers m (λ q. is_yes (then (denying i) q)) (DelLock (name_of update) (own_reference m c)) q)
            ∙ ap (λ b. cond (is_peer m q && b) (DelLock (name_of update) (own_reference m c) ∷ []) []) (same_yes q)

    pub gives_up : none_denied m st ≡ true → none_missing m (then would) ≡ true → all_granted m (then would) ≡ false → given_up_later ≡ give_up m c op update st s
    gives_up undenied complete denied = given_up_by (denies would undenied complete denied) complete
