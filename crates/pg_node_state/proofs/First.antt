-- The open commands once an attempt has begun, and the greatest node was asked.
use Rattle.std.proofs.Common.{◌≡◌, ℕ, ◌+◌, Bool, true, false, ◌&&◌, ◌||◌, nat_eq}
use Rattle.std.proofs.Common.{List, [], ◌∷◌, Option, Some, refl, ap, sym, subst, ◌∙◌}
use Rattle.std.specs.List.{list_all}
use Rattle.std.proofs.lemmas.Bool.{eq-eqb}
use Rattle.pg_term.specs.declared.term.Term.{Term}
use Rattle.pg_term.specs.RefParts.{RefParts}
use Rattle.pg_term.specs.Same.{same_atom}
use Rattle.pg_node_ports.specs.PgGroup.declared.update.Update.{Update}
use Rattle.pg_node_ports.specs.PgGroup.Functions.{upd}
use Rattle.pg_node_ports.specs.PgGroup.Value.{name_of}
use Rattle.pg_node_ports.proofs.PgGroup.Changes.{upd_at}
use Rattle.pg_node_ports.specs.PgLock.Locks.{Locks, is_free, held}
use Rattle.pg_node_ports.specs.PgStep.declared.command.OpId.{OpId}
use Rattle.pg_node_ports.specs.PgStep.Nodes.{Node, Nodes, is_peer, is_node, greatest}
use Rattle.pg_node_ports.specs.PgStep.State.{State, Status, Use, Stage, formed}
use Rattle.pg_node_ports.specs.PgStep.State.Status.{Unasked}
use Rattle.pg_node_ports.specs.PgStep.State.Use.{Locking, Owning, Updating, Spent}
use Rattle.pg_node_ports.specs.PgStep.State.Stage.{Closed, Waiting, Asking, Changing}
use Rattle.pg_node_ports.specs.PgStep.Peers.{would_grant}
use Rattle.pg_node_ports.specs.PgStep.Attempts.{new_attempt, ask, begin, finish, with_asked, own_reference}
use Rattle.pg_node_ports.specs.PgNodeOpens.declared.opens.Opens.{Opens}
use Rattle.pg_node_ports.specs.PgNodeOpens.declared.command.Stage.TheVariants as seen
use Rattle.pg_node_ports.specs.PgNodeOpens.Opens.{Shows, Follows, names_of, live_of, uses_of}
use Rattle.pg_node_ports.specs.PgNodeOpens.Readings.{stage_seen}
use Rattle.pg_node_state.specs.Issued.{asked_first}
use Rattle.pg_node_state.specs.Ports.{CameIn, AreGiven}
use Rattle.pg_node_state.proofs.Attempted.{statuses, granted_locks, held_there, lone_turn}
use Rattle.pg_node_state.proofs.Given.{given_use, given_stage, of_any, of_lock, of_none, of_update}
use Rattle.pg_node_state.proofs.Kept.{shown}
use Rattle.pg_node_state.proofs.Steady.{live_stays}
use Rattle.pg_node_state.proofs.Turned.{own_apart}

-- the update of a command that waits
pub record WaitsWith (stage : Stage) : Type 0 where
  pub update : Update
  pub is : stage ≡ Waiting update

pub waits_with : (stage : Stage) → stage_seen stage ≡ seen.Waiting → WaitsWith stage
waits_with Closed e = absurd (cc)
waits_with (Waiting update) e = record { update = update; is = refl }
waits_with (Asking lock) e = absurd (cc)
waits_with (Changing update) e = absurd (cc)

-- a peer is a node
pub peer_is_node : (m : Nodes) (q : Node) → is_peer m q ≡ true → is_node m q ≡ true
peer_is_node m q e = go (same_atom q m.own) (is_peer m q) e
  where
    go : (a b : Bool) → b ≡ true → (a || b) ≡ true
    go true b e = refl
    go false b e = e

module _ (m : Nodes) (op : OpId) (update : Update) (s : State) where
  abbrev lock : ℕ
  lock = s.references + 1

  abbrev pub first_state : State
  first_state = (asked_first m op update s).state

  -- what is gathered under its reference
  pub asked_under : (granted : Bool) → would_grant m s (name_of update) ≡ granted → first_state.uses lock ≡ Locking op update (greatest m) (statuses m op update s granted)
  asked_under granted e = upd_at nat_eq ((new_attempt (greatest m) op update s).state.uses) lock (Locking op update (greatest m) (statuses m op update s (would_grant m s (name_of update)))) (eq-eqb lock lock refl)
      ∙ ap (λ b. Locking op update (greatest m) (statuses m op update s b)) e

  -- the command that asks came in
  pub first_given : {ports : ℕ} {counts : ℕ → ℕ} → CameIn ports counts op (Some update) → AreGiven (CameIn ports counts) s.uses s.stages → AreGiven (CameIn ports counts) first_state.uses first_state.stages
  first_given came given = given_use lock (Locking op update (greatest m) (statuses m op update s (would_grant m s (name_of update)))) (of_lock op update (greatest m) (statuses m op update s (would_grant m s (name_of update))) came)
      (given_use lock (Locking op update (greatest m) (λ q. Unasked)) (of_lock op update (greatest m) (λ q. Unasked) came)
      (given_stage op (Asking lock) (of_any came) given))

  -- where the command ends at once
  pub alone_given : (own : greatest m ≡ m.own) (apart : (q : Node) → is_peer m q ≡ true → same_atom m.own q ≡ false) {ports : ℕ} {counts : ℕ → ℕ} → CameIn ports counts op (Some update) → AreGiven (CameIn ports counts) s.uses s.stages
      → AreGiven (CameIn ports counts) (lone_turn m op update s own apart).state.uses (lone_turn m op update s own apart).state.stages
  alone_given own apart came given =
      let st : Node → Status = with_asked m (λ q. true) (statuses m op update s true) (would_grant m first_state (name_of update)) in
      given_use (lock + 1) Spent of_none (given_use lock Spent of_none
      (given_use (lock + 1) (Updating op update lock (same_atom m.own)) (of_update op update lock (same_atom m.own) came)
      (given_use lock (Owning (name_of update) (lock + 1)) of_none
      (given_use lock (Locking op update (greatest m) st) (of_lock op update (greatest m) st came)
      (given_stage op Closed (of_any came) (given_stage op (Changing (lock + 1)) (of_any came) (first_given came given)))))))

  -- the own node holds the lock, and would not grant it again
  pub grants_no_more : (own : greatest m ≡ m.own) → ((q : Node) → is_peer m q ≡ true → same_atom m.own q ≡ false) → would_grant m s (name_of update) ≡ true → would_grant m first_state (name_of update) ≡ false
  grants_no_more own apart granting = ap (λ (l : Locks). formed m s && is_free (l (name_of update))) (granted_locks m op update s own apart granting)
      ∙ (ap (λ (h : Option RefParts). formed m s && is_free h) there ∙ no (formed m s))
    where
      there : held s.locks (name_of update) (Some (own_reference m lock)) (name_of update) ≡ Some (own_reference m lock)
      there = held_there s.locks (name_of update) (Some (own_reference m lock))

      no : (b : Bool) → (b && false) ≡ false
      no true = refl
      no false = refl

-- ---- the own node is the greatest, and grants

-- a state of these open commands in which each lock is granted
abbrev pub granting : Opens → State
granting opens = record (shown opens) { merged = λ q. true }

pub shows_granting : (opens : Opens) → Shows opens (granting opens)
shows_granting opens = record { references = refl; uses = refl; opened = refl; stages = refl; lost_peers = refl }

pub granted_there : (m : Nodes) (opens : Opens) (name : Term) → would_grant m (granting opens) name ≡ true
granted_there m opens name = ap (λ b. b && true) (go m.peers)
  where
    go : (ns : List Node) → list_all (λ q. true) ns ≡ true
    go [] = refl
    go (n ∷ ns) = go ns

module _ (o0 : Opens) (op : OpId) (update : Update) (s : State) (h : Shows o0 s) (number : ℕ) (o1 : Opens) (nodes1 : names_of o1 ≡ names_of o0)
    (asked : Shows o1 (first_state (live_of o0) op update s)) (is_lock : number ≡ s.references + 1) (grants : would_grant (live_of o0) s (name_of update) ≡ true) where
  abbrev m : Nodes
  m = live_of o0

  abbrev first : State
  first = first_state m op update s

  abbrev st : Node → Status
  st = statuses m op update s true

  -- the own node was asked
  pub use_asked : uses_of o1 number ≡ Locking op update (greatest m) st
  use_asked = ap (λ n. uses_of o1 n) is_lock ∙ (ap (λ (f : ℕ → Use). f (s.references + 1)) (sym asked.uses) ∙ asked_under m op update s true grants)

  same1 : live_of o1 ≡ m
  same1 = live_stays o0 o1 first asked nodes1 h.lost_peers

  module _ (own : greatest m ≡ m.own) (o2 : Opens) (nodes2 : names_of o2 ≡ names_of o1)
      (asks : (op : OpId) (update : Update) (first : Node) (st : Node → Status) → uses_of o1 number ≡ Locking op update first st
      → (t : State) → Shows o1 t → would_grant (live_of o1) t (name_of update) ≡ false → Shows o2 (ask (live_of o1) (λ q. true) number op update first st t).state) where
    abbrev pub rest_state : State
    rest_state = (ask m (λ q. true) (s.references + 1) op update (greatest m) st first).state

    no_more : would_grant m first (name_of update) ≡ false
    no_more = grants_no_more m op update s own (own_apart o0) grants

    -- the rest was asked
    pub shows_rest : Shows o2 rest_state
    shows_rest = subst (λ (n : ℕ). Shows o2 (ask m (λ q. true) n op update (greatest m) st first).state) is_lock
        (subst (λ (k : Nodes). Shows o2 (ask k (λ q. true) number op update (greatest m) st first).state) same1
        (asks op update (greatest m) st use_asked first asked (ap (λ (k : Nodes). would_grant k first (name_of update)) same1 ∙ no_more)))

    abbrev later : Node → Status
    later = with_asked m (λ q. true) st (would_grant m first (name_of update))

    pub use_rest : uses_of o2 number ≡ Locking op update (greatest m) later
    use_rest = ap (λ n. uses_of o2 n) is_lock ∙ (ap (λ (f : ℕ → Use). f (s.references + 1)) (sym shows_rest.uses)
        ∙ upd_at nat_eq first.uses (s.references + 1) (Locking op update (greatest m) later) (eq-eqb (s.references + 1) (s.references + 1) refl))

    same2 : live_of o2 ≡ m
    same2 = live_stays o0 o2 rest_state shows_rest (nodes2 ∙ nodes1) h.lost_peers

    module _ (o3 : Opens) (nodes3 : names_of o3 ≡ names_of o2)
        (begins : (op : OpId) (update : Update) (first : Node) (st : Node → Status) → uses_of o2 number ≡ Locking op update first st → Follows o2 o3 (begin (live_of o2) number op update)) where
      abbrev begun : State
      begun = (begin m (s.references + 1) op update rest_state).state

      -- the update began
      pub shows_begun : Shows o3 begun
      shows_begun = subst (λ (n : ℕ). Shows o3 (begin m n op update rest_state).state) is_lock
          (subst (λ (k : Nodes). Shows o3 (begin k number op update rest_state).state) same2 (begins op update (greatest m) later use_rest rest_state shows_rest))

      pub use_begun : uses_of o3 (number + 1) ≡ Updating op update number (same_atom m.own)
      use_begun = ap (λ n. uses_of o3 (n + 1)) is_lock ∙ (ap (λ (f : ℕ → Use). f (s.references + 1 + 1)) (sym shows_begun.uses)
          ∙ (upd_at nat_eq (upd nat_eq rest_state.uses (s.references + 1) (Owning (name_of update) (s.references + 1 + 1))) (s.references + 1 + 1) (Updating op update (s.references + 1) (same_atom m.own)) (eq-eqb (s.references + 1 + 1) (s.references + 1 + 1) refl)
          ∙ ap (λ n. Updating op update n (same_atom m.own)) (sym is_lock)))

      same3 : live_of o3 ≡ m
      same3 = live_stays o0 o3 begun shows_begun (nodes3 ∙ (nodes2 ∙ nodes1)) h.lost_peers

      module _ (o4 : Opens)
          (ends : (op : OpId) (update : Update) (lock : ℕ) (replied : Node → Bool) → uses_of o3 (number + 1) ≡ Updating op update lock replied → Follows o3 o4 (finish (live_of o3) (number + 1) op update lock)) where
        -- the command ended
        pub shows_ended : Shows o4 (finish m (s.references + 1 + 1) op update (s.references + 1) begun).state
        shows_ended = subst (λ (n : ℕ). Shows o4 (finish m (n + 1) op update n begun).state) is_lock
            (subst (λ (k : Nodes). Shows o4 (finish k (number + 1) op update number begun).state) same3 (ends op update number (same_atom m.own) use_begun begun shows_begun))
