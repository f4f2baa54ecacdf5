-- A node of which no peer counts: an update that begins ends at once.
use Rattle.std.proofs.Common.{◌≡◌, ℕ, ◌+◌, Bool, true, false, ◌&&◌}
use Rattle.std.proofs.Common.{◌||◌, cond, nat_eq, List, [], ◌∷◌, ◌++◌, refl, ap, sym, ◌∙◌}
use Rattle.std.specs.List.{list_any, list_all}
use Rattle.std.proofs.Math.Path.{fun_ext}
use Rattle.std.proofs.lemmas.Bool.{eq-eqb}
use Rattle.pg_term.specs.Same.{same_atom}
use Rattle.pg_node_ports.specs.PgGroup.declared.update.Update.{Update}
use Rattle.pg_node_ports.specs.PgGroup.Functions.{upd}
use Rattle.pg_node_ports.specs.PgGroup.Value.{name_of}
use Rattle.pg_node_ports.specs.PgMessageTypes.declared.message.Message.{Message}
use Rattle.pg_node_ports.specs.PgStep.declared.command.OpId.{OpId}
use Rattle.pg_node_ports.specs.PgStep.Nodes.{Node, Nodes, is_peer, every, to_peers}
use Rattle.pg_node_ports.specs.PgStep.State.{State, Status, Use}
use Rattle.pg_node_ports.specs.PgStep.State.Use.{Owning, Updating}
use Rattle.pg_node_ports.specs.PgStep.Machines.Clocked.{Timed}
use Rattle.pg_node_ports.specs.PgStep.Turns.{NodeTurn, becomes, and_then}
use Rattle.pg_node_ports.specs.PgMessageTypes.declared.message.Message.TheVariants.{Call, DelLock}
use Rattle.pg_node_ports.specs.PgMessageTypes.declared.message.Request.TheVariants.{SetLock, Change}
use Rattle.pg_node_ports.specs.PgNodeOpens.Outlooks.{turn_by}
use Rattle.pg_node_ports.specs.PgNodeOpens.declared.outlook.Outlook.TheVariants.{Begin}
use Rattle.pg_node_ports.specs.PgStep.Attempts.{ask, asks, begin, finish, replies_in, own_reference}
use Rattle.pg_node_ports.proofs.PgNodeOpens.Named.{atom_self, clash}
use Rattle.pg_node_ports.proofs.PgGroup.Changes.{upd_at}

pub no_peers : (m : Nodes) → ((q : Node) → is_peer m q ≡ false) → m.peers ≡ []
no_peers m none = go m.peers none
  where
    go : (ns : List Node) → ((q : Node) → list_any (same_atom q) ns ≡ false) → ns ≡ []
    go [] none = refl
    go (n ∷ ns) none = absurd (clash (sym (ap (λ b. b || list_any (same_atom n) ns) (atom_self n)) ∙ none n))

pub to_none : (m : Nodes) (test : Node → Bool) (message : Message) → ((q : Node) → is_peer m q ≡ false) → to_peers m test message ≡ (λ q. [])
to_none m test message none = fun_ext (λ q. ap (λ b. cond (b && test q) (message ∷ []) []) (none q))

pub all_replied : (m : Nodes) → ((q : Node) → is_peer m q ≡ false) → every m (same_atom m.own) ≡ true
all_replied m none = (λ i. atom_self m.own i && list_all (same_atom m.own) (no_peers m none i))

-- the replies to an update that has just begun are in
pub ends_at_once : (m : Nodes) (c : ℕ) (op : OpId) (update : Update) (t : State) → ((q : Node) → is_peer m q ≡ false)
    → replies_in m (t.references + 1) ((begin m c op update t).state.uses (t.references + 1)) (begin m c op update t).state
    ≡ finish m (t.references + 1) op update c (begin m c op update t).state
ends_at_once m c op update t none = ap (λ (used : Use). replies_in m (t.references + 1) used (begin m c op update t).state)
    (upd_at nat_eq (upd nat_eq t.uses c (Owning (name_of update) (t.references + 1))) (t.references + 1) (Updating op update c (same_atom m.own)) (eq-eqb (t.references + 1) (t.references + 1) refl))
    ∙ ap (λ b. cond b (finish m (t.references + 1) op update c (begin m c op update t).state) (becomes (begin m c op update t).state)) (all_replied m none)

-- ---- where all have granted

module _ (m : Nodes) (none : (q : Node) → is_peer m q ≡ false) (c : ℕ) (op : OpId) (update : Update) (first : Node) (st : Node → Status) (s : State) where
  abbrev asked : State
  asked = (ask m (λ q. true) c op update first st s).state

  abbrev begun : State
  begun = (begin m c op update asked).state

  abbrev ended : NodeTurn
  ended = finish m (asked.references + 1) op update c begun

  -- the update begins and the command ends, and nothing is sent
  pub begins_alone : turn_by Begin m c op update first st s ≡ and_then (ask m (λ q. true) c op update first st s) (λ t. and_then (begin m c op update t) (λ r. ended))
  begins_alone = ap (λ (u : NodeTurn). and_then (ask m (λ q. true) c op update first st s) (λ t. and_then (begin m c op update t) (λ r. u))) (ends_at_once m c op update asked none)

  pub sends_nothing : (q : Node) → (turn_by Begin m c op update first st s).sends q ≡ []
  sends_nothing q = ap (λ (t : NodeTurn). t.sends q) begins_alone
      ∙ (λ i. to_none m (asks (λ q. true) st) (Call (own_reference m c) (SetLock (name_of update))) none i q
      ++ (to_none m (λ q. true) (Call (own_reference m (asked.references + 1)) (Change update)) none i q
      ++ to_none m (λ q. true) (DelLock (name_of update) (own_reference m c)) none i q))

abbrev pub at_time : ℕ → State → Timed State
at_time clock s = record { clock = clock; state = s }
