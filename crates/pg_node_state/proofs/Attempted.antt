-- What an attempt leads to at once.
use Rattle.std.proofs.Common.{◌≡◌, ℕ, ◌+◌, Bool, true, false, not, ◌&&◌, ◌||◌, cond, nat_eq}
use Rattle.std.proofs.Common.{List, [], ◌∷◌, ◌++◌, Option, Some, None, refl, ap, sym, ◌∙◌}
use Rattle.std.specs.List.{list_any, list_all}
use Rattle.std.proofs.Math.Path.{fun_ext}
use Rattle.std.proofs.lemmas.Bool.{eq-eqb}
use Rattle.std.specs.Cmp.Lexicographic.{bytes_decides}
use Rattle.pg_term.specs.declared.term.Term.{Term}
use Rattle.pg_term.specs.RefParts.{RefParts, ref_eq}
use Rattle.pg_term.specs.Same.{same_atom, same_term}
use Rattle.pg_term.proofs.Same.{same_term as term_is}
use Rattle.pg_term.specs.contracts.term.TermEq.TheImpl.Laws as term_laws
use Rattle.pg_node_ports.specs.PgGroup.declared.update.Update.{Update}
use Rattle.pg_node_ports.specs.PgGroup.Functions.{upd}
use Rattle.pg_node_ports.specs.PgGroup.Value.{name_of}
use Rattle.pg_node_ports.specs.PgLock.Attempts.{after_round, does_wait}
use Rattle.pg_node_ports.specs.PgLock.declared.attempt.Attempt.TheVariants.{AskingFirst, AskingRest}
use Rattle.pg_node_ports.specs.PgLock.Locks.{Locks, after_ask, given_up, held, is_free, is_holder}
use Rattle.pg_node_ports.specs.PgMessageTypes.declared.message.Message.TheVariants.{Call, DelLock}
use Rattle.pg_node_ports.specs.PgMessageTypes.declared.message.Request.TheVariants.{SetLock, Change}
use Rattle.pg_node_ports.specs.PgStep.declared.command.OpId.{OpId}
use Rattle.pg_node_ports.specs.PgStep.Nodes.{Node, Nodes, all_of, is_node, is_peer, every, greatest, to_peers, to_one, to_nobody}
use Rattle.pg_node_ports.specs.PgStep.State.{State, Status, Use, formed}
use Rattle.pg_node_ports.specs.PgStep.State.Status.{Unasked, Asked, Yes, No}
use Rattle.pg_node_ports.specs.PgStep.State.Use.{Locking, Owning, Updating}
use Rattle.pg_node_ports.specs.PgStep.Turns.{NodeTurn, Report, nothing, becomes, and_then, first_of, both_reports}
use Rattle.pg_node_ports.specs.PgStep.Peers.{would_grant}
use Rattle.pg_node_ports.specs.PgStep.Attempts.{is_unasked, is_asked, is_yes, is_no, asks, none_missing, none_denied}
use Rattle.pg_node_ports.specs.PgStep.Attempts.{all_granted, round_of, with_asked, own_verdict, own_reference, new_attempt}
use Rattle.pg_node_ports.specs.PgStep.Attempts.{ask, begin, finish, give_up, locks_in, replies_in, go_on, attempt}
use Rattle.pg_node_ports.specs.PgNodeOpens.declared.outlook.Outlook.{Outlook}
use Rattle.pg_node_ports.specs.PgNodeOpens.declared.outlook.Outlook.TheVariants.{Ask, Begin}
use Rattle.pg_node_ports.specs.PgNodeOpens.Outlooks.{outlook_by, turn_by}
use Rattle.pg_node_ports.proofs.PgNodeOpens.Going.{goes_by_outlook}
use Rattle.pg_node_ports.proofs.PgNodeOpens.Rest.{passes, all_pass}
use Rattle.pg_node_ports.proofs.PgNodeOpens.Named.{atom_is, atom_other, atom_self, clash}
use Rattle.pg_node_state.specs.Issued.{asked_first}

upd_here : (f : ℕ → Use) (c : ℕ) (used : Use) → upd nat_eq f c used c ≡ used
unfolding upd
upd_here f c used = ap (λ b. cond b used (f c)) (eq-eqb c c refl)

ref_self : (r : RefParts) → ref_eq r r ≡ true
ref_self r = λ i. (bytes_decides r.node r.node).1 refl i && (eq-eqb r.creation r.creation refl i && (bytes_decides r.words r.words).1 refl i)

-- a lock that was taken where it was free, and is freed
freed : (locks : Locks) (name : Term) (reference : RefParts) → locks name ≡ None → held (held locks name (Some reference)) name None ≡ locks
unfolding held
freed locks name reference free = fun_ext (λ other. go other (same_term name other) (term_is name other))
  where
    go : (other : Term) (b : Bool) → (b ≡ true → name ≡ other) → cond b None (cond b (Some reference) (locks other)) ≡ locks other
    go other true same = sym free ∙ ap locks (same refl)
    go other false same = refl

pub held_there : (locks : Locks) (name : Term) (holder : Option RefParts) → held locks name holder name ≡ holder
unfolding held
held_there locks name holder = ap (λ b. cond b holder (locks name)) (term_laws.laws-law.refl name)

-- nothing follows a turn
pub nothing_more : (t : NodeTurn) → and_then t becomes ≡ t
nothing_more t = λ i. record { state = t.state; sends = fun_ext (λ q. app_nil (t.sends q)) i; reported = same t.reported i }
  where
    app_nil : {A : Type 0} (xs : List A) → xs ++ [] ≡ xs
    app_nil [] = refl
    app_nil (x ∷ xs) = ap (λ z. x ∷ z) (app_nil xs)

    none_later : {A : Type 0} (x : Option A) → first_of x None ≡ x
    none_later None = refl
    none_later (Some x) = refl

    same : (r : Report) → both_reports r nothing ≡ r
    same r = λ i. record { applied = none_later r.applied i; began = none_later r.began i; answered = none_later r.answered i; gave = none_later r.gave i; odd = none_later r.odd i }

module _ (m : Nodes) (op : OpId) (update : Update) (s : State) where
  abbrev lock : ℕ
  lock = s.references + 1

  -- what has come of each node once the greatest was asked
  abbrev pub statuses : Bool → Node → Status
  statuses granted = with_asked m (same_atom (greatest m)) (λ q. Unasked) granted

  abbrev would : Bool
  would = would_grant m s (name_of update)

  abbrev asked : NodeTurn
  asked = asked_first m op update s

  -- how the attempt goes on
  attempt_is : (next : NodeTurn) → go_on m lock (Locking op update (greatest m) (statuses would)) asked.state ≡ next
      → attempt m op update s ≡ and_then (new_attempt (greatest m) op update s) (λ t. and_then (ask m (same_atom (greatest m)) t.references op update (greatest m) (λ q. Unasked) t) (λ r. next))
  attempt_is next goes = ap (λ (n : NodeTurn). and_then (new_attempt (greatest m) op update s) (λ t. and_then (ask m (same_atom (greatest m)) t.references op update (greatest m) (λ q. Unasked) t) (λ r. n)))
      (ap (λ used. go_on m lock used asked.state) (upd_here (new_attempt (greatest m) op update s).state.uses lock (Locking op update (greatest m) (statuses would))) ∙ goes)

  -- ---- a peer is asked

  module _ (other : same_atom m.own (greatest m) ≡ false) (node : is_node m (greatest m) ≡ true) where
    peer_asked : (granted : Bool) → statuses granted (greatest m) ≡ Asked
    peer_asked granted = (λ i. cond (node i && (atom_self (greatest m) i && true)) (cond (other i) (own_verdict granted) Asked) Unasked)

    waits_for_it : (granted : Bool) → none_missing m (statuses granted) ≡ false
    waits_for_it granted = go (none_missing m (statuses granted)) refl
      where
        go : (b : Bool) → none_missing m (statuses granted) ≡ b → b ≡ false
        go false e = refl
        go true e = absurd (clash (sym (passes (λ q. not (is_asked (statuses granted q))) (greatest m) (all_of m) e node) ∙ ap (λ u. not (is_asked u)) (peer_asked granted)))

    -- its answer is waited for
    pub attempt_waits : attempt m op update s ≡ asked_first m op update s
    attempt_waits = attempt_is (becomes asked.state) (ap (λ b. cond b
        (cond (does_wait (after_round (round_of (greatest m) (statuses would)) (none_denied m (statuses would)))) (give_up m lock op update (statuses would) asked.state)
        (and_then (ask m (λ q. true) lock op update (greatest m) (statuses would) asked.state) (λ t. locks_in m lock (t.uses lock) t))) (becomes asked.state)) (waits_for_it would))
        ∙ nothing_more (asked_first m op update s)

    -- the own lock stays
    pub locks_stay : (asked_first m op update s).state.locks ≡ s.locks
    locks_stay = ap (λ b. after_ask ((b && true) && would) s.locks (name_of update) (own_reference m lock)) (turned other)
      where
        turned : same_atom m.own (greatest m) ≡ false → same_atom (greatest m) m.own ≡ false
        turned e = atom_other m.own (greatest m) e

    -- one packet goes out, to that node
    pub sent_to_it : is_peer m (greatest m) ≡ true → (asked_first m op update s).sends ≡ to_one (greatest m) (Call (own_reference m lock) (SetLock (name_of update)))
    sent_to_it peer = fun_ext (λ q. go q (same_atom (greatest m) q) (atom_is (greatest m) q))
      where
        go : (q : Node) (b : Bool) → (b ≡ true → greatest m ≡ q) → cond (is_peer m q && (b && true)) (Call (own_reference m lock) (SetLock (name_of update)) ∷ []) [] ≡ cond b (Call (own_reference m lock) (SetLock (name_of update)) ∷ []) []
        go q true is = ap (λ b. cond (b && true) (Call (own_reference m lock) (SetLock (name_of update)) ∷ []) []) (ap (is_peer m) (sym (is refl)) ∙ peer)
        go q false is = ap (λ b. cond b (Call (own_reference m lock) (SetLock (name_of update)) ∷ []) []) (no (is_peer m q))
          where
            no : (b : Bool) → (b && false) ≡ false
            no true = refl
            no false = refl

  -- ---- the own node is asked

  module _ (own : greatest m ≡ m.own) (apart : (q : Node) → is_peer m q ≡ true → same_atom m.own q ≡ false) where
    -- what has come of each node
    abbrev alone : Bool → Node → Status
    alone granted q = cond (same_atom m.own q) (own_verdict granted) Unasked

    own_asked : (granted : Bool) (q : Node) → statuses granted q ≡ alone granted q
    own_asked granted q = ap (λ g. cond (is_node m q && (same_atom g q && true)) (cond (same_atom m.own q) (own_verdict granted) Asked) Unasked) own ∙ go (same_atom m.own q) (atom_is m.own q)
      where
        no : (b : Bool) → (b && false) ≡ false
        no true = refl
        no false = refl

        go : (b : Bool) → (b ≡ true → m.own ≡ q) → cond (is_node m q && (b && true)) (cond b (own_verdict granted) Asked) Unasked ≡ cond b (own_verdict granted) Unasked
        go true is = ap (λ b. cond (b && true) (own_verdict granted) Unasked) (ap (is_node m) (sym (is refl)) ∙ ap (λ b. b || list_any (same_atom m.own) m.peers) (atom_self m.own))
        go false is = ap (λ b. cond b Asked Unasked) (no (is_node m q))

    own_status : (granted : Bool) → statuses granted m.own ≡ own_verdict granted
    own_status granted = own_asked granted m.own ∙ ap (λ b. cond b (own_verdict granted) Unasked) (atom_self m.own)

    pub peer_status : (granted : Bool) (q : Node) → is_peer m q ≡ true → statuses granted q ≡ Unasked
    peer_status granted q peer = own_asked granted q ∙ ap (λ b. cond b (own_verdict granted) Unasked) (apart q peer)

    pub none_waits : (granted : Bool) → none_missing m (statuses granted) ≡ true
    none_waits granted = all_pass (λ q. not (is_asked (statuses granted q))) (all_of m) (λ q here. ap (λ u. not (is_asked u)) (own_asked granted q) ∙ go (same_atom m.own q) granted)
      where
        go : (b g : Bool) → not (is_asked (cond b (own_verdict g) Unasked)) ≡ true
        go true true = refl
        go true false = refl
        go false g = refl

    pub undenied : none_denied m (statuses true) ≡ true
    undenied = all_pass (λ q. not (is_no (statuses true q))) (all_of m) (λ q here. ap (λ u. not (is_no u)) (own_asked true q) ∙ go (same_atom m.own q))
      where
        go : (b : Bool) → not (is_no (cond b Yes Unasked)) ≡ true
        go true = refl
        go false = refl

    denied_there : none_denied m (statuses false) ≡ false
    denied_there = go (none_denied m (statuses false)) refl
      where
        go : (b : Bool) → none_denied m (statuses false) ≡ b → b ≡ false
        go false e = refl
        go true e = absurd (clash (sym (passes (λ q. not (is_no (statuses false q))) m.own (all_of m) e (ap (λ b. b || list_any (same_atom m.own) m.peers) (atom_self m.own))) ∙ ap (λ u. not (is_no u)) (own_status false)))

    first_is : (granted : Bool) → is_yes (statuses granted (greatest m)) ≡ is_yes (own_verdict granted)
    first_is granted = ap (λ g. is_yes (statuses granted g)) own ∙ ap is_yes (own_status granted)

    -- it denies: the attempt is given up
    abbrev pub denied_turn : NodeTurn
    denied_turn = and_then asked (give_up m lock op update (statuses false))

    pub attempt_denied : would ≡ false → attempt m op update s ≡ denied_turn
    attempt_denied denying = attempt_is (give_up m lock op update (statuses false) asked.state) gives_up ∙ flat
      where
        gives_up : go_on m lock (Locking op update (greatest m) (statuses would)) asked.state ≡ give_up m lock op update (statuses false) asked.state
        gives_up = ap (λ b. go_on m lock (Locking op update (greatest m) (statuses b)) asked.state) denying
            ∙ (λ i. cond (none_waits false i)
            (cond (does_wait (after_round (cond (first_is false i) AskingRest AskingFirst) (denied_there i))) (give_up m lock op update (statuses false) asked.state)
            (and_then (ask m (λ q. true) lock op update (greatest m) (statuses false) asked.state) (λ t. locks_in m lock (t.uses lock) t))) (becomes asked.state))

        flat : and_then (new_attempt (greatest m) op update s) (λ t. and_then (ask m (same_atom (greatest m)) t.references op update (greatest m) (λ q. Unasked) t) (λ r. give_up m lock op update (statuses false) asked.state)) ≡ denied_turn
        flat = refl

    -- nothing is sent, and no lock changes
    pub denied_sends : denied_turn.sends ≡ to_nobody
    denied_sends = fun_ext (λ q. (λ i. nobody_asked q i ++ nobody_told q i))
      where
        no : (b : Bool) → (b && false) ≡ false
        no true = refl
        no false = refl

        nobody_asked : (q : Node) → asked.sends q ≡ []
        nobody_asked q = go (is_peer m q) refl
          where
            go : (b : Bool) → is_peer m q ≡ b → cond (b && (same_atom (greatest m) q && true)) (Call (own_reference m lock) (SetLock (name_of update)) ∷ []) [] ≡ []
            go true e = ap (λ b. cond (b && true) (Call (own_reference m lock) (SetLock (name_of update)) ∷ []) []) (ap (λ g. same_atom g q) own ∙ apart q e)
            go false e = refl

        nobody_told : (q : Node) → to_peers m (λ q. is_yes (statuses false q)) (DelLock (name_of update) (own_reference m lock)) q ≡ []
        nobody_told q = ap (λ u. cond (is_peer m q && is_yes u) (DelLock (name_of update) (own_reference m lock) ∷ []) []) (own_asked false q) ∙ go (is_peer m q) (same_atom m.own q)
          where
            go : (a b : Bool) → cond (a && is_yes (cond b No Unasked)) (DelLock (name_of update) (own_reference m lock) ∷ []) [] ≡ []
            go true true = refl
            go true false = refl
            go false b = refl

    pub denied_locks : would ≡ false → denied_turn.state.locks ≡ s.locks
    denied_locks denying = ap (λ (u : Status). given_up (is_yes u && is_holder (asked.state.locks (name_of update)) (own_reference m lock)) asked.state.locks (name_of update)) (own_status false)
        ∙ (ap (λ b. after_ask ((same_atom (greatest m) m.own && true) && b) s.locks (name_of update) (own_reference m lock)) denying ∙ go (same_atom (greatest m) m.own))
      where
        go : (b : Bool) → after_ask ((b && true) && false) s.locks (name_of update) (own_reference m lock) ≡ s.locks
        go true = refl
        go false = refl

    -- it grants: every other node is asked
    abbrev first_one : Locks
    first_one = held s.locks (name_of update) (Some (own_reference m lock))

    pub granted_locks : would ≡ true → asked.state.locks ≡ first_one
    granted_locks granting = λ i. after_ask ((same_own i && true) && granting i) s.locks (name_of update) (own_reference m lock)
      where
        same_own : same_atom (greatest m) m.own ≡ true
        same_own = ap (λ g. same_atom g m.own) own ∙ atom_self m.own

    abbrev rest_of : NodeTurn
    rest_of = ask m (λ q. true) lock op update (greatest m) (statuses true) asked.state

    abbrev pub rest_turn : NodeTurn
    rest_turn = and_then asked (ask m (λ q. true) lock op update (greatest m) (statuses true))

    abbrev later : Node → Status
    later = with_asked m (λ q. true) (statuses true) (would_grant m asked.state (name_of update))

    -- how the attempt goes on once the own node has granted
    goes_on : would ≡ true → (o : Outlook) → outlook_by true true (all_granted m later) (none_missing m later) ≡ o
        → go_on m lock (Locking op update (greatest m) (statuses would)) asked.state ≡ turn_by o m lock op update (greatest m) (statuses true) asked.state
    goes_on granting o outlook = ap (λ b. go_on m lock (Locking op update (greatest m) (statuses b)) asked.state) granting
        ∙ (goes_by_outlook m lock op update (greatest m) (statuses true) asked.state (would_grant m asked.state (name_of update)) apart refl
        ∙ ap (λ (l : Outlook). turn_by l m lock op update (greatest m) (statuses true) asked.state)
        ((λ i. outlook_by (none_waits true i) (not (does_wait (after_round (cond (first_is true i) AskingRest AskingFirst) (undenied i)))) (all_granted m later) (none_missing m later)) ∙ outlook))

    -- a peer is asked now
    peer_later : (q : Node) → is_peer m q ≡ true → later q ≡ Asked
    peer_later q peer = (λ i. cond (peer_node i && (true && is_unasked (peer_status true q peer i))) (cond (apart q peer i) (own_verdict (would_grant m asked.state (name_of update))) Asked) (statuses true q))
      where
        peer_node : is_node m q ≡ true
        peer_node = ap (λ b. same_atom q m.own || b) peer ∙ go (same_atom q m.own)
          where
            go : (b : Bool) → (b || true) ≡ true
            go true = refl
            go false = refl

    pub attempt_asks : would ≡ true → (q : Node) → is_peer m q ≡ true → attempt m op update s ≡ rest_turn
    attempt_asks granting q peer = attempt_is rest_of (goes_on granting Ask (λ i. outlook_by true true (not_yet i) (missing i)))
      where
        here : is_node m q ≡ true
        here = ap (λ b. same_atom q m.own || b) peer ∙ go (same_atom q m.own)
          where
            go : (b : Bool) → (b || true) ≡ true
            go true = refl
            go false = refl

        not_yet : all_granted m later ≡ false
        not_yet = go (all_granted m later) refl
          where
            go : (b : Bool) → all_granted m later ≡ b → b ≡ false
            go false e = refl
            go true e = absurd (clash (sym (passes (λ q. is_yes (later q)) q (all_of m) e here) ∙ ap is_yes (peer_later q peer)))

        missing : none_missing m later ≡ false
        missing = go (none_missing m later) refl
          where
            go : (b : Bool) → none_missing m later ≡ b → b ≡ false
            go false e = refl
            go true e = absurd (clash (sym (passes (λ q. not (is_asked (later q))) q (all_of m) e here) ∙ ap (λ u. not (is_asked u)) (peer_later q peer)))

    pub rest_sends : rest_turn.sends ≡ to_peers m (λ q. true) (Call (own_reference m lock) (SetLock (name_of update)))
    rest_sends = fun_ext (λ q. (λ i. nobody_asked q i ++ go q (is_peer m q) refl i))
      where
        go : (q : Node) (b : Bool) → is_peer m q ≡ b → cond (b && (true && is_unasked (statuses true q))) (Call (own_reference m lock) (SetLock (name_of update)) ∷ []) []
            ≡ cond (b && true) (Call (own_reference m lock) (SetLock (name_of update)) ∷ []) []
        go q true e = ap (λ u. cond (true && is_unasked u) (Call (own_reference m lock) (SetLock (name_of update)) ∷ []) []) (peer_status true q e)
        go q false e = refl

        nobody_asked : (q : Node) → asked.sends q ≡ []
        nobody_asked q = none q (is_peer m q) refl
          where
            none : (q : Node) (b : Bool) → is_peer m q ≡ b → cond (b && (same_atom (greatest m) q && true)) (Call (own_reference m lock) (SetLock (name_of update)) ∷ []) [] ≡ []
            none q true e = ap (λ b. cond (b && true) (Call (own_reference m lock) (SetLock (name_of update)) ∷ []) []) (ap (λ g. same_atom g q) own ∙ apart q e)
            none q false e = refl

    pub rest_locks : would ≡ true → rest_turn.state.locks ≡ first_one
    rest_locks granting = ap (λ (u : Status). after_ask ((true && is_unasked u) && would_grant m asked.state (name_of update)) asked.state.locks (name_of update) (own_reference m lock)) (own_status true)
        ∙ granted_locks granting

    -- it grants, and there is no peer: the update begins, and the command ends
    abbrev begun : State → NodeTurn
    begun t = and_then (begin m lock op update t) (λ r. finish m (lock + 1) op update lock r)

    abbrev pub lone_turn : NodeTurn
    lone_turn = and_then asked (λ t. and_then (ask m (λ q. true) lock op update (greatest m) (statuses true) t) begun)

    pub attempt_ends : would ≡ true → m.peers ≡ [] → attempt m op update s ≡ lone_turn
    attempt_ends granting nobody = attempt_is (and_then rest_of begun) (goes_on granting Begin (λ i. outlook_by true true (all_granted_now i) (none_missing m later)) ∙ ap (λ (u : NodeTurn). and_then rest_of (λ t. and_then (begin m lock op update t) (λ r. u))) replied)
      where
        own_later : later m.own ≡ Yes
        own_later = ap (λ u. cond (is_node m m.own && (true && is_unasked u)) (cond (same_atom m.own m.own) (own_verdict (would_grant m asked.state (name_of update))) Asked) u) (own_status true) ∙ go (is_node m m.own)
          where
            go : (b : Bool) → cond (b && false) (cond (same_atom m.own m.own) (own_verdict (would_grant m asked.state (name_of update))) Asked) Yes ≡ Yes
            go true = refl
            go false = refl

        all_granted_now : all_granted m later ≡ true
        all_granted_now = λ i. is_yes (own_later i) && list_all (λ q. is_yes (later q)) (nobody i)

        all_replied : every m (same_atom m.own) ≡ true
        all_replied = λ i. atom_self m.own i && list_all (same_atom m.own) (nobody i)

        replied : replies_in m (lock + 1) ((begin m lock op update rest_of.state).state.uses (lock + 1)) (begin m lock op update rest_of.state).state ≡ finish m (lock + 1) op update lock (begin m lock op update rest_of.state).state
        replied = ap (λ used. replies_in m (lock + 1) used (begin m lock op update rest_of.state).state) (upd_here (upd nat_eq rest_of.state.uses lock (Owning (name_of update) (lock + 1))) (lock + 1) (Updating op update lock (same_atom m.own)))
            ∙ ap (λ b. cond b (finish m (lock + 1) op update lock (begin m lock op update rest_of.state).state) (becomes (begin m lock op update rest_of.state).state)) all_replied

    pub lone_sends : m.peers ≡ [] → lone_turn.sends ≡ to_nobody
    lone_sends nobody = fun_ext (λ q. (λ i. cond (list_any (same_atom q) (nobody i) && asks (same_atom (greatest m)) (λ p. Unasked) q) (Call (own_reference m lock) (SetLock (name_of update)) ∷ []) []
        ++ (cond (list_any (same_atom q) (nobody i) && asks (λ p. true) (statuses true) q) (Call (own_reference m lock) (SetLock (name_of update)) ∷ []) []
        ++ (cond (list_any (same_atom q) (nobody i) && true) (Call (own_reference m (lock + 1)) (Change update) ∷ []) []
        ++ cond (list_any (same_atom q) (nobody i) && true) (DelLock (name_of update) (own_reference m lock) ∷ []) []))))

    pub lone_locks : would ≡ true → lone_turn.state.locks ≡ s.locks
    lone_locks granting = ap (λ (l : Locks). given_up (is_holder (l (name_of update)) (own_reference m lock)) l (name_of update)) (rest_locks granting)
        ∙ (ap (λ (h : Option RefParts). given_up (is_holder h (own_reference m lock)) first_one (name_of update)) held_here
        ∙ (ap (λ b. given_up b first_one (name_of update)) (ref_self (own_reference m lock))
        ∙ freed s.locks (name_of update) (own_reference m lock) (free_there granting)))
      where
        held_here : first_one (name_of update) ≡ Some (own_reference m lock)
        held_here = held_there s.locks (name_of update) (Some (own_reference m lock))

        free_there : would ≡ true → s.locks (name_of update) ≡ None
        free_there e = go (formed m s) (s.locks (name_of update)) e
          where
            go : (f : Bool) (h : Option RefParts) → (f && is_free h) ≡ true → h ≡ None
            go true None e = refl
            go true (Some h) e = absurd (clash (sym e))
            go false h e = absurd (clash (sym e))
