-- What a peer makes of the packets of the one change that is under way, and what its node keeps of that peer.
use Rattle.std.proofs.Common.{◌≡◌, ◌≢◌, ℕ, suc, Bool, true, false, ◌&&◌, cond, List, [], ◌∷◌, ◌++◌, None, Ok}
use Rattle.std.proofs.Common.{refl, ap, sym, ◌∙◌, subst}
use Rattle.pg_term.specs.Same.{same_atom}
use Rattle.pg_laws.specs.PgRefs.Numbered.{numbered}
use Rattle.pg_laws.specs.PgGroup.declared.update.Update.{Update}
use Rattle.pg_laws.specs.PgGroup.Value.{name_of}
use Rattle.pg_laws.specs.PgLock.Locks.{is_free}
use Rattle.pg_laws.specs.PgMessageTypes.declared.message.Message.{Message}
use Rattle.pg_laws.specs.PgMessageTypes.declared.message.Message.TheVariants.{Call, Reply, DelLock}
use Rattle.pg_laws.specs.PgMessageTypes.declared.message.Request.TheVariants.{SetLock, Change}
use Rattle.pg_laws.specs.PgMessageTypes.declared.message.Said.TheVariants.{Applied}
use Rattle.pg_laws.specs.PgStep.Nodes.{Node, Nodes}
use Rattle.pg_laws.specs.PgStep.Peers.{lock_request, lock_freed, update_request, verdict, would_grant}
use Rattle.pg_laws.specs.PgStep.State.{State, Status, formed}
use Rattle.pg_laws.specs.PgStep.State.Status.{Asked, No, Unasked, Yes}
use Rattle.pg_laws.specs.PgStep.Step.{taken}
use Rattle.pg_laws.specs.PgStep.Turns.{NodeTurn}
use Rattle.pg_laws.proofs.quiet.Home.{IsFreed, Sees, SeesOk}
use Rattle.pg_laws.proofs.quiet.Phases.{Phase, backs, count, needs_free, outs}
use Rattle.pg_laws.proofs.quiet.Phases.Phase.{Ahead, Confirmed, Done, Freed, Given, Over, Owned, Told, Wanted}
use Rattle.pg_laws.proofs.references.Keys.{atoms, differ}
use Rattle.pg_laws.proofs.steps.Single.{ok_is}

-- ---- what the node keeps of a peer whose phase is known

pub sees_given : (v : Status) → Sees v Given → v ≡ Asked
sees_given Asked sees = refl
sees_given Unasked sees = absurd sees
sees_given Yes sees = absurd sees
sees_given No sees = absurd sees

pub given_no_ok : (n : ℕ) (b : Bool) → SeesOk n b Given → ⊥
given_no_ok n true sees = sees
given_no_ok n false sees = sees

pub confirmed_ok : (n k : ℕ) (b : Bool) → SeesOk n b (Confirmed k) → (k ≡ n) × (b ≡ false)
confirmed_ok n k false sees = (sees, refl)
confirmed_ok n k true sees = absurd sees

pub confirmed_unseen : (k : ℕ) (v : Status) → Sees v (Confirmed k) → ⊥
confirmed_unseen k Unasked sees = sees
confirmed_unseen k Asked sees = sees
confirmed_unseen k Yes sees = sees
confirmed_unseen k No sees = sees

wanted_sees : (v : Status) → Sees v Wanted → Sees v Given
wanted_sees Asked sees = tt
wanted_sees Unasked sees = absurd sees
wanted_sees Yes sees = absurd sees
wanted_sees No sees = absurd sees

wanted_ok : (n : ℕ) (b : Bool) → SeesOk n b Wanted → ⊥
wanted_ok n true sees = sees
wanted_ok n false sees = sees

told_unseen : (n : ℕ) (v : Status) → Sees v (Told n) → ⊥
told_unseen n Unasked sees = sees
told_unseen n Asked sees = sees
told_unseen n Yes sees = sees
told_unseen n No sees = sees

told_ok : (n k : ℕ) (b : Bool) → SeesOk k b (Told n) → SeesOk k b (Confirmed n)
told_ok n k false sees = sees
told_ok n k true sees = absurd sees

freed_unseen : (v : Status) → Sees v Freed → ⊥
freed_unseen Unasked sees = sees
freed_unseen Asked sees = sees
freed_unseen Yes sees = sees
freed_unseen No sees = sees

freed_ok : (k : ℕ) (b : Bool) → SeesOk k b Freed → ⊥
freed_ok k true sees = sees
freed_ok k false sees = sees

-- ---- a packet that a peer takes

pub first_of_two : {x y : Message} {xs ys : List Message} → x ∷ xs ≡ y ∷ ys → (x ≡ y) × (xs ≡ ys)
first_of_two e = (cc, cc)

-- what a peer in this phase makes of the packet that is next there, with these behind it
pub record PeerGoes (own : Node) (c : ℕ) (u : Update) (phase : Phase) (rest : List Message) (t : NodeTurn) : Type 0 where
  pub next : Phase
  pub fewer : count phase ≡ suc (count next)
  pub no_more : rest ≡ outs own c u next
  pub back : backs own c u phase ++ t.sends own ≡ backs own c u next
  pub else : (q : Node) → own ≢ q → t.sends q ≡ []
  pub lent : needs_free next ≡ false
  pub sees : (v : Status) → Sees v phase → Sees v next
  pub sees_ok : (n : ℕ) (b : Bool) → SeesOk n b phase → SeesOk n b next
  pub freed : IsFreed phase → IsFreed next

to_other : (own q : Node) (x : Message) → own ≢ q → cond (same_atom own q) (x ∷ []) [] ≡ []
to_other own q x apart = ap (λ b. cond b (x ∷ []) []) (differ same_atom atoms own q apart)

to_self : (own : Node) (x : Message) → cond (same_atom own own) (x ∷ []) [] ≡ x ∷ []
to_self own x = ap (λ b. cond b (x ∷ []) []) (atoms.refl own)

module _ (own : Node) (c : ℕ) (u : Update) (m : Nodes) (s : State) (t : NodeTurn) (packet : Message) (rest : List Message) where
  wanted_goes : formed m s ≡ true → s.locks (name_of u) ≡ None → taken m own packet s ≡ Ok t
      → packet ≡ Call (numbered own c) (SetLock (name_of u)) → rest ≡ [] → PeerGoes own c u Wanted rest t
  wanted_goes full free made is none =
      let turn : lock_request m own (numbered own c) (name_of u) s ≡ t = ok_is (sym (ap (λ x. taken m own x s) is) ∙ made) in
      subst (PeerGoes own c u Wanted rest) turn (record {
        next = Given;
        fewer = refl;
        no_more = none;
        back = to_self own (Reply (numbered own c) (verdict (would_grant m s (name_of u))))
            ∙ ap (λ b. Reply (numbered own c) (verdict b) ∷ []) (λ i. full i && is_free (free i));
        else = λ q apart. to_other own q (Reply (numbered own c) (verdict (would_grant m s (name_of u)))) apart;
        lent = refl;
        sees = wanted_sees;
        sees_ok = λ n b sees. absurd (wanted_ok n b sees);
        freed = λ e. e;
      })

  told_goes : (n : ℕ) → taken m own packet s ≡ Ok t → packet ≡ Call (numbered own n) (Change u) → rest ≡ []
      → PeerGoes own c u (Told n) rest t
  told_goes n made is none =
      let turn : update_request own (numbered own n) u s ≡ t = ok_is (sym (ap (λ x. taken m own x s) is) ∙ made) in
      subst (PeerGoes own c u (Told n) rest) turn (record {
        next = Confirmed n;
        fewer = refl;
        no_more = none;
        back = to_self own (Reply (numbered own n) Applied);
        else = λ q apart. to_other own q (Reply (numbered own n) Applied) apart;
        lent = refl;
        sees = λ v sees. absurd (told_unseen n v sees);
        sees_ok = told_ok n;
        freed = λ e. e;
      })

  freed_goes : taken m own packet s ≡ Ok t → packet ≡ DelLock (name_of u) (numbered own c) → rest ≡ []
      → PeerGoes own c u Freed rest t
  freed_goes made is none =
      let turn : lock_freed (name_of u) (numbered own c) s ≡ t = ok_is (sym (ap (λ x. taken m own x s) is) ∙ made) in
      subst (PeerGoes own c u Freed rest) turn (record {
        next = Over;
        fewer = refl;
        no_more = none;
        back = refl;
        else = λ q apart. refl;
        lent = refl;
        sees = λ v sees. absurd (freed_unseen v sees);
        sees_ok = λ k b sees. absurd (freed_ok k b sees);
        freed = λ e. tt;
      })

  pub peer_goes : (phase : Phase) → outs own c u phase ≡ packet ∷ rest → formed m s ≡ true
      → (needs_free phase ≡ true → s.locks (name_of u) ≡ None) → taken m own packet s ≡ Ok t → PeerGoes own c u phase rest t
  peer_goes Wanted out full free made = let e = first_of_two (sym out) in wanted_goes full (free refl) made e.0 e.1
  peer_goes (Told n) out full free made = let e = first_of_two (sym out) in told_goes n made e.0 e.1
  peer_goes Freed out full free made = let e = first_of_two (sym out) in freed_goes made e.0 e.1
  peer_goes Ahead out full free made = absurd (cc)
  peer_goes Given out full free made = absurd (cc)
  peer_goes Owned out full free made = absurd (cc)
  peer_goes (Confirmed n) out full free made = absurd (cc)
  peer_goes Done out full free made = absurd (cc)
  peer_goes Over out full free made = absurd (cc)
