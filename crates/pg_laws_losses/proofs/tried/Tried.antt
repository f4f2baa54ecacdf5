-- What the laws of losses need of the copied steps, proved of each as of the machine's own.
use Rattle.std.proofs.Common.{◌≡◌, ◌≢◌, ◌⊎◌, inl, inr, ◌≤◌, Bool, true, false, not, ◌||◌}
use Rattle.std.proofs.Common.{cond, Some, None, Ok, Err, refl, ap, sym, ◌∙◌, subst, arith}
use Rattle.std.specs.Prelude.{option_map}
use Rattle.std.specs.List.{list_all}
use Rattle.pg_term.specs.declared.pid.Pid.{Pid}
use Rattle.pg_term.specs.Same.{same_atom}
use Rattle.pg_laws.specs.PgGroup.Functions.{upd}
use Rattle.pg_laws.specs.PgGroup.Scope.{at_node}
use Rattle.pg_laws.proofs.PgGroup.Changes.{upd_other}
use Rattle.pg_laws.specs.PgEnds.Numbers.{is_among}
use Rattle.pg_laws.specs.PgMessageTypes.declared.message.Message.{Message}
use Rattle.pg_laws.specs.PgStep.Machines.Losing.{LosingWorld}
use Rattle.pg_laws.specs.PgStep.Machines.Machine.{Event, Machine, happens, node_of}
use Rattle.pg_laws.specs.PgStep.Nodes.{Node, Nodes}
use Rattle.pg_laws.specs.PgStep.State.{State, Status, formed, live_nodes}
use Rattle.pg_laws.specs.PgStep.State.Status.{Unasked}
use Rattle.pg_laws.specs.PgStep.Step.{taken}
use Rattle.pg_laws.specs.PgStep.Turns.{NodeTurn}
use Rattle.pg_laws.specs.PgStep.declared.command.Command.TheVariants.{Finish}
use Rattle.pg_laws.specs.PgStep.declared.refusal.Refusal.TheVariants.{NodeLost}
use Rattle.pg_laws.proofs.quiet.Weights.{status_weight}
use Rattle.pg_laws.proofs.references.Keys.{atoms, read_other, split}
use Rattle.pg_laws.proofs.references.Keys.{upd_other as upd_not, upd_same}
use Rattle.pg_laws_losses.proofs.OwnEnds.{was_made}
use Rattle.pg_laws_losses.proofs.Retries.{every_left}
use Rattle.pg_laws_losses.proofs.Tabled.{HasEndedLost}
use Rattle.pg_laws_losses.proofs.Unheld.{Clear, freed_is}
use Rattle.pg_laws_losses.proofs.tried.Copies.{copied_fault_of, copied_forgotten, copied_goes}
use Rattle.pg_laws_losses.proofs.tried.Copies.{copied_left, copied_see_loss, copied_takes}

-- who sees a loss holds no lock for the lost
pub loss_frees : (own peer : Node) (s : State) → same_atom peer own ≡ false → Clear own s → Clear own (copied_see_loss peer s).state
loss_frees own peer s apart old = record {
  here = upd_other same_atom s.lost peer true own apart ∙ old.here;
  free = λ name h is. let held = freed_is peer (s.locks name) h is in upd_other same_atom s.lost peer true h.node held.1 ∙ old.free name h held.0;
}

or_left : (a b : Bool) → a ≡ true → a || b ≡ true
or_left true b e = refl
or_left false b e = absurd (cc)

or_right : (a b : Bool) → b ≡ true → a || b ≡ true
or_right true b e = refl
or_right false b e = e

-- and its processes have ended there, so that a late join of one adds nothing
pub loss_ends : (peer : Node) (s : State) → HasEndedLost s → HasEndedLost (copied_see_loss peer s).state
loss_ends peer s old q pid lost own = go (split same_atom atoms q peer) lost
  where
    go : (q ≡ peer) ⊎ (q ≢ peer) → upd same_atom s.lost peer true q ≡ true → (copied_see_loss peer s).state.ended pid ≡ true
    go (inl e) _ = or_left (at_node peer pid) (s.ended pid) (ap (λ z. same_atom z pid.node) (sym e) ∙ own)
    go (inr n) new = or_right (at_node peer pid) (s.ended pid) (old q pid (sym (read_other same_atom atoms s.lost peer true q n) ∙ new) own)

-- nothing is taken from a node whose loss was seen
pub lost_unheard : (m : Nodes) (p : Node) (x : Message) (s : State) (t : NodeTurn) → s.lost p ≡ true → copied_takes m p x s ≡ Ok t → ⊥
lost_unheard m p x s t seen is = absurd (cc (sym is ∙ ap (λ b. cond b (Err NodeLost) (taken (live_nodes m s) p x s)) seen))

-- no lost node takes a step
pub lost_stops : {S P C O : Type 0} (m : Machine S P C O) (w v : LosingWorld S P O) (e : Event C) → w.gone (node_of e) ≡ true → copied_goes m w e ≡ Some v → ⊥
lost_stops m w v e gone is = absurd (cc (sym is ∙ ap (λ b. cond b None (option_map (λ v. record { world = v; gone = w.gone }) (happens m w.world e))) gone))

-- a process that is told to end, and not refused, was made
pub end_was_made : (m : Nodes) (s : State) (pid : Pid) → copied_fault_of m s (Finish pid) ≡ None → is_among s.processes pid ≡ true
end_was_made m s pid free = was_made (same_atom pid.node m.own) (formed m s) (is_among s.processes pid) (s.ended pid) free

-- nobody waits for a node whose loss was seen: what all nodes pass that are not lost, each node passes that counts
pub left_pass : (m : Nodes) (test : Node → Bool) (s : State) → list_all (λ q. cond (not (s.lost q)) (test q) true) m.peers ≡ true → list_all test (copied_left m s).peers ≡ true
left_pass m test s all = every_left (λ q. not (s.lost q)) test m.peers all

-- nor does a loss lead to more packets with the others
pub others_remembered : (peer q : Node) (st : Node → Status) → peer ≢ q → status_weight (copied_forgotten peer st q) ≤ status_weight (st q)
others_remembered peer q st other = subst (λ v. status_weight v ≤ status_weight (st q)) (sym (upd_not same_atom atoms st peer Unasked q other)) (omega arith)

-- and the exchange of the lost node is not waited for
pub loss_noted : (peer : Node) (s : State) → (copied_see_loss peer s).state.merged peer ≡ true
loss_noted peer s = upd_same same_atom atoms s.merged peer true
