-- The update begins in the turn in which the last answer comes in, where there is a peer.
use Rattle.std.proofs.Common.{◌≡◌, ℕ, ◌+◌, Bool, true, false, not, cond}
use Rattle.std.proofs.Common.{nat_eq, List, [], ◌∷◌, ◌++◌, refl, ap, sym, ◌∙◌}
use Rattle.std.proofs.Math.Path.{fun_ext}
use Rattle.std.proofs.lemmas.Bool.{eq-eqb}
use Rattle.pg_term.specs.Same.{same_atom}
use Rattle.pg_node_ports.specs.PgGroup.declared.update.Update.{Update}
use Rattle.pg_node_ports.specs.PgGroup.Functions.{upd}
use Rattle.pg_node_ports.specs.PgGroup.Value.{name_of}
use Rattle.pg_node_ports.specs.PgLock.Attempts.{after_round, does_wait}
use Rattle.pg_node_ports.specs.PgMessageTypes.declared.message.Message.{Message}
use Rattle.pg_node_ports.specs.PgMessageTypes.declared.message.Message.TheVariants.{Call}
use Rattle.pg_node_ports.specs.PgMessageTypes.declared.message.Request.TheVariants.{SetLock}
use Rattle.pg_node_ports.specs.PgStep.declared.command.OpId.{OpId}
use Rattle.pg_node_ports.specs.PgStep.Nodes.{Node, Nodes, all_of, is_peer, every}
use Rattle.pg_node_ports.specs.PgStep.State.{State, Status, Use}
use Rattle.pg_node_ports.specs.PgStep.State.Status.{Unasked, Asked, Yes, No}
use Rattle.pg_node_ports.specs.PgStep.State.Use.{Locking, Owning, Updating}
use Rattle.pg_node_ports.specs.PgStep.Turns.{NodeTurn, becomes, and_then}
use Rattle.pg_node_ports.specs.PgStep.Peers.{would_grant}
use Rattle.pg_node_ports.specs.PgStep.Attempts.{is_asked, is_yes, none_missing, none_denied, all_granted}
use Rattle.pg_node_ports.specs.PgStep.Attempts.{round_of, with_asked, own_reference, ask, begin, replies_in, finish}
use Rattle.pg_node_ports.specs.PgNodeOpens.Outlooks.{outlook_of, outlook_by, turn_by}
use Rattle.pg_node_ports.specs.PgNodeOpens.declared.outlook.Outlook.TheVariants.{Begin}
use Rattle.pg_node_ports.proofs.PgNodeOpens.Named.{clash}
use Rattle.pg_node_ports.proofs.PgNodeOpens.Rest.{passes, all_pass, peer_node, asks_nobody}

-- ---- what an outlook tells

module _ (answered no_denial granted no_miss : Bool) where
  begins_granted : outlook_by answered no_denial granted no_miss ≡ Begin → granted ≡ true
  begins_granted e = go answered no_denial granted no_miss e
    where
      go : (a d g n : Bool) → outlook_by a d g n ≡ Begin → g ≡ true
      go false d g n e = absurd (cc)
      go true false g n e = absurd (cc)
      go true true true n e = refl
      go true true false true e = absurd (cc)
      go true true false false e = absurd (cc)

-- ---- all have granted

module _ (m : Nodes) (apart : (q : Node) → is_peer m q ≡ true → same_atom m.own q ≡ false) (c : ℕ) (op : OpId) (update : Update) (first : Node) (st : Node → Status) (s : State) where
  abbrev then : Bool → Node → Status
  then granted = with_asked m (λ q. true) st granted

  granted_complete : (granted : Bool) → all_granted m (then granted) ≡ true → none_missing m (then granted) ≡ true
  granted_complete granted all = all_pass (λ q. not (is_asked (then granted q))) (all_of m) (λ q here. go (then granted q) (passes (λ q. is_yes (then granted q)) q (all_of m) all here))
    where
      go : (u : Status) → is_yes u ≡ true → not (is_asked u) ≡ true
      go Unasked e = refl
      go Asked e = absurd (clash (sym e))
      go Yes e = refl
      go No e = refl

  -- a peer has not replied yet
  not_all : (q : Node) → is_peer m q ≡ true → every m (same_atom m.own) ≡ false
  not_all q peer = go (every m (same_atom m.own)) refl
    where
      go : (b : Bool) → every m (same_atom m.own) ≡ b → b ≡ false
      go false e = refl
      go true e = absurd (clash (sym (passes (same_atom m.own) q (all_of m) e (peer_node m q peer)) ∙ apart q peer))

  upd_here : (f : ℕ → Use) (x : ℕ) (used : Use) → upd nat_eq f x used x ≡ used
  unfolding upd
  upd_here f x used = ap (λ b. cond b used (f x)) (eq-eqb x x refl)

  and_nothing : {A : Type 0} (xs : List A) → xs ++ [] ≡ xs
  and_nothing [] = refl
  and_nothing (x ∷ xs) = ap (λ z. x ∷ z) (and_nothing xs)

  -- the replies of the peers are waited for
  replies_wait : (q : Node) → is_peer m q ≡ true → (t : State) → replies_in m (t.references + 1) ((begin m c op update t).state.uses (t.references + 1)) (begin m c op update t).state ≡ becomes (begin m c op update t).state
  replies_wait q peer t = ap (λ used. replies_in m (t.references + 1) used (begin m c op update t).state) (upd_here (upd nat_eq t.uses c (Owning (name_of update) (t.references + 1))) (t.references + 1) (Updating op update c (same_atom m.own)))
      ∙ ap (λ b. cond b (finish m (t.references + 1) op update c (begin m c op update t).state) (becomes (begin m c op update t).state)) (not_all q peer)

  abbrev asked : NodeTurn
  asked = ask m (λ q. true) c op update first st s

  abbrev begun : NodeTurn
  begun = begin m c op update asked.state

  begins_by : (granted : Bool) → would_grant m s (name_of update) ≡ granted → all_granted m (then granted) ≡ true → (q : Node) → is_peer m q ≡ true
      → turn_by Begin m c op update first st s ≡ begin m c op update (ask m (λ q. true) c op update first st s).state
  begins_by granted would all q peer = ap (λ (u : NodeTurn). and_then asked (λ t. and_then begun (λ r. u))) (replies_wait q peer asked.state) ∙ (λ i. record {
    state = begun.state;
    sends = fun_ext sent i;
    reported = begun.reported;
  })
    where
      sent : (p : Node) → asked.sends p ++ (begun.sends p ++ []) ≡ begun.sends p
      sent p = ap (λ (xs : List Message). xs ++ (begun.sends p ++ [])) (asks_nobody m apart st granted (Call (own_reference m c) (SetLock (name_of update))) p (granted_complete granted all)) ∙ and_nothing (begun.sends p)

  -- what an outlook leads to, where there is a peer
  pub begins_then : (granted : Bool) → would_grant m s (name_of update) ≡ granted → outlook_of m granted (Locking op update first st) ≡ Begin → (q : Node) → is_peer m q ≡ true
      → turn_by Begin m c op update first st s ≡ begin m c op update (ask m (λ q. true) c op update first st s).state
  begins_then granted would e = begins_by granted would (begins_granted (none_missing m st) (not (does_wait (after_round (round_of first st) (none_denied m st)))) (all_granted m (then granted)) (none_missing m (then granted)) e)
